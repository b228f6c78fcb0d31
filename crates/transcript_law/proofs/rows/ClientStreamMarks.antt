-- markers of clients' streams, judged by hand
use Rattle.std.proofs.Common.{List, [], ap, arith, inl, inr, map, refl, subst, sym, true, false, ℕ, ⊎_elim, ◌∙◌, ◌∷◌, ◌≡◌, ◌≤◌}
use Rattle.std.specs.Prelude.{Some, None}
unfoldable use Rattle.mcbp_dcp.specs.DcpFrames.{dcp_frame}
use Rattle.mcbp_dcp.specs.declared.message.DcpMsg.{DcpMsg}
use Rattle.mcbp_dcp.specs.declared.message.DcpMsg.TheVariants as msg
unfoldable use Rattle.mcbp_frame.specs.Spelling.{spelling}
use Rattle.mcbp_frame.specs.Frames.{big_32_at}
use Rattle.flow_control.specs.Windows.{is_open as lets_through}
use Rattle.vb_types.specs.Histories.{IsIn}
use Rattle.vb_types.specs.declared.change.Change.{Change}
use Rattle.vb_types.specs.declared.role.Role.TheVariants as role
use Rattle.branch_model.specs.Histories.{IsOf, last_seq}
use Rattle.branch_model.specs.Snapshots.{Covers}
use Rattle.vb_events.specs.declared.event.Event.{Event}
use Rattle.vb_events.specs.declared.event.Event.TheVariants as event
use Rattle.transcript_law.specs.Chronicles.{Chronicle}
use Rattle.transcript_law.specs.ClientStreamRows.{LawfulPut, all_changes, asks_for, closed, disk_marked, durable, finished, first_item, for_another, frame_of, fresh, inside, late_marked, marked, next_item, one, other_opaque, put_three, put_two, snapshot, third_change, three, tree_of, turned, two, unframed, up_to, with_streams}
use Rattle.transcript_law.specs.ClientStreams.{ClientKnown, ClientStream, ItemLine, past_turn, vb_in_header, with_turn}
use Rattle.transcript_law.specs.Followers.{next_change}
use Rattle.transcript_law.specs.ClientFrames.{is_closed_by}
use Rattle.transcript_law.specs.LawfulClients.{IsNextMarker, IsPut, LawfulClientMark}
use Rattle.transcript_law.specs.Questions.{flow_now, served_frames}
use Rattle.transcript_law.specs.StreamLaws.{IsFrontOf, item_of_change}
use Rattle.transcript_law.specs.Transcripts.{one_change}
use Rattle.transcript_law.proofs.links.Sources.{from_memory}
use Rattle.transcript_law.proofs.rows.ClientStreams.{all_between, bytes_are, none_counted, put_by, put_still, spelled_is, stream_is}

-- ---- markers, and the streams that they are of

pub header : (start end : ℕ) → vb_in_header (spelling (dcp_frame (msg.SnapshotMarker start end 1) 9 0)) ≡ 0
unfolding spelling dcp_frame
header start end = refl

-- a marker of the stream of the vBucket v, which no frame closed, before other lines
pub mark_still : (chronicle : Chronicle) (known : ClientKnown) (v start end : ℕ) (g : ClientStream) (more : List Event) → vb_in_header (spelling (dcp_frame (msg.SnapshotMarker start end 1) 9 v)) ≡ v → known.streams v ≡ Some g → g.opaque ≡ 9 → is_closed_by (served_frames known) v ≡ false → lets_through (flow_now known).window ≡ true → IsNextMarker chronicle.tree g start end → LawfulClientMark chronicle known 0 1 start end 1 (frame_of v (msg.SnapshotMarker start end 1) ∷ more)
mark_still chronicle known v start end g more header is nine still through m = record { put = put_still known (msg.SnapshotMarker start end 1) v g more header is nine still through; source = from_memory end _; marker = m }

-- where nothing was served
abbrev pub mark_put : (chronicle : Chronicle) (known : ClientKnown) (v start end : ℕ) (g : ClientStream) (more : List Event) → vb_in_header (spelling (dcp_frame (msg.SnapshotMarker start end 1) 9 v)) ≡ v → known.streams v ≡ Some g → g.opaque ≡ 9 → known.bytes ≡ [] → lets_through (flow_now known).window ≡ true → IsNextMarker chronicle.tree g start end → LawfulClientMark chronicle known 0 1 start end 1 (frame_of v (msg.SnapshotMarker start end 1) ∷ more)
mark_put chronicle known v start end g more header is nine silent through m = record { put = put_by known (msg.SnapshotMarker start end 1) v g more header is nine silent through; source = from_memory end _; marker = m }

-- a marker is lawful that is the next one of the stream of its vBucket
pub marks : (changes : List Change) (g : ClientStream) (start end : ℕ) → g.opaque ≡ 9 → IsNextMarker (tree_of changes) g start end → LawfulPut changes (one g) (marked 0 start end)
marks changes g start end nine m = (record { put = put_by (with_streams (one g)) (msg.SnapshotMarker start end 1) 0 g [] (header start end) refl nine refl (none_counted (with_streams (one g)) refl refl); source = from_memory end _; marker = m }, ((λ z. cc), tt))

-- and one that is lawful is so
pub is_next : (changes : List Change) (g : ClientStream) (start end : ℕ) → LawfulPut changes (one g) (marked 0 start end) → IsNextMarker (tree_of changes) g start end
is_next changes g start end l = subst (λ h. IsNextMarker (tree_of changes) h start end) (stream_is (with_streams (one g)) (msg.SnapshotMarker start end 1) (msg.SnapshotMarker start end 1) 0 g [] (header start end) refl l.0.put) l.0.marker

-- ---- streams that are shown everything

pub two_next : IsNextMarker (tree_of two) (fresh true all_changes) 0 2
two_next = record { opens = refl; stays = refl; goes_on = λ r. r; behind = tt; starts = refl; reaches = omega arith; whole = (two, all_between two 0 2 (omega arith) (omega arith, (omega arith, omega arith)) refl) }

pub whole : LawfulPut two (one (fresh true all_changes)) (marked 0 0 2)
whole = marks two (fresh true all_changes) 0 2 refl two_next

pub first : LawfulPut two (one (fresh true all_changes)) (marked 0 0 1)
first = marks two (fresh true all_changes) 0 1 refl (record { opens = refl; stays = refl; goes_on = λ r. r; behind = tt; starts = refl; reaches = omega arith; whole = (one_change ∷ [], all_between two 0 1 (omega arith) (omega arith, omega arith) refl) })

-- both changes were put in one snapshot, and the third one comes then
both_put : IsFrontOf (snapshot three 0 2 (first_item ∷ next_item ∷ [])) (first_item ∷ next_item ∷ []) []
both_put = record { whole = two; covers = all_between three 0 2 (omega arith) (omega arith, (omega arith, omega arith)) refl; front = refl }

pub next : LawfulPut three (one put_two) (marked 0 2 3)
next = marks three put_two 2 3 refl (record { opens = refl; stays = refl; goes_on = λ r. omega (arith, r); behind = both_put; starts = refl; reaches = tt; whole = (third_change ∷ [], all_between three 2 3 (omega arith) (omega arith, omega arith) refl) })

-- a snapshot of which not all was put
pub part_put : IsFrontOf (snapshot three 0 2 (first_item ∷ [])) (first_item ∷ []) [] → ⊥
part_put f = by f.whole f.front f.covers.reaches
  where
    by : (xs : List Change) → map item_of_change xs ≡ first_item ∷ [] → last_seq 0 xs ≡ 2 → ⊥
    by [] e r = cc
    by (x ∷ []) e r = let one : item_of_change x ≡ first_item = cc in let n : x.seq ≡ 1 = ap (λ (i : ItemLine). i.seq) one in omega (arith, n, r)
    by (x ∷ y ∷ ys) e r = cc

pub between : LawfulPut three (one (inside true all_changes three 0 2 (first_item ∷ []))) (marked 0 2 3) → ⊥
between l = part_put (is_next three (inside true all_changes three 0 2 (first_item ∷ [])) 2 3 l).behind

pub above : LawfulPut durable (one (inside true all_changes durable 0 1 (first_item ∷ []))) (marked 0 2 3) → ⊥
above l = let e : ◌≡◌ {A = ℕ} 2 1 = (is_next durable (inside true all_changes durable 0 1 (first_item ∷ [])) 2 3 l).starts in omega (arith, e)

pub meant : LawfulPut two (one (fresh true (asks_for 0 1 2 9))) (marked 0 0 2)
meant = marks two (fresh true (asks_for 0 1 2 9)) 0 2 refl (record { opens = refl; stays = refl; goes_on = λ r. r; behind = tt; starts = refl; reaches = omega arith; whole = (next_change ∷ [], all_between two 1 2 (omega arith) (omega arith, omega arith) refl) })

pub start : LawfulPut two (one (fresh true (asks_for 0 1 2 9))) (marked 0 1 2) → ⊥
start l = let e : ◌≡◌ {A = ℕ} 1 0 = (is_next two (fresh true (asks_for 0 1 2 9)) 1 2 l).starts in omega (arith, e)

pub short : LawfulPut three (one (fresh true (asks_for 0 1 3 9))) (marked 0 0 2) → ⊥
short l = let e : ◌≤◌ 3 2 = (is_next three (fresh true (asks_for 0 1 3 9)) 0 2 l).reaches in omega (arith, e)

-- no change ends there
pub past : LawfulPut two (one (fresh true all_changes)) (marked 0 0 3) → ⊥
past l = let w = (is_next two (fresh true all_changes) 0 3 l).whole in none_there w.0 w.1
  where
    seq_of : (x : Change) → IsOf two x → x.seq ≤ 2
    seq_of x (c, i, stands) =
        let same : x.seq ≡ c.seq = ⊎_elim (λ s. ap (λ (y : Change). y.seq) s) (λ s. ap (λ (y : Change). y.seq) s) stands in
        ⊎_elim (λ e. let n : c.seq ≡ 1 = ap (λ (y : Change). y.seq) e in omega (arith, same, n)) (λ j. ⊎_elim (λ e. let n : c.seq ≡ 2 = ap (λ (y : Change). y.seq) e in omega (arith, same, n)) (λ k. absurd k) j) i

    ends_by : (from : ℕ) (xs : List Change) → from ≤ 2 → ((x : Change) → IsIn x xs → IsOf two x) → last_seq from xs ≤ 2
    ends_by from [] low of = low
    ends_by from (x ∷ xs) low of = ends_by x.seq xs (seq_of x (of x (inl refl))) (λ y i. of y (inr i))

    none_there : (xs : List Change) → Covers xs two 0 3 → ⊥
    none_there xs c = let e : last_seq 0 xs ≡ 3 = c.reaches in let low : last_seq 0 xs ≤ 2 = ends_by 0 xs (omega arith) c.remains.of in omega (arith, e, low)

pub due : LawfulPut three (one (put_three (up_to 2))) (marked 0 2 3) → ⊥
due l = (is_next three (put_three (up_to 2)) 2 3 l).goes_on (omega arith)

pub not_due : LawfulPut three (one (put_three (up_to 3))) (marked 0 2 3)
not_due = marks three (put_three (up_to 3)) 2 3 refl (record { opens = refl; stays = refl; goes_on = λ r. omega (arith, r); behind = both_put; starts = refl; reaches = tt; whole = (third_change ∷ [], all_between three 2 3 (omega arith) (omega arith, omega arith) refl) })

pub over : LawfulPut three (one (finished put_two)) (marked 0 2 3) → ⊥
over l = let e : true ≡ false = (is_next three (finished put_two) 2 3 l).opens in cc

-- behind a role of its vBucket
pub turns : LawfulPut three (one put_two) (turned role.Dead ∷ marked 0 2 3) → ⊥
turns l =
    let is : l.1.0.put.stream ≡ with_turn three put_two = stream_is (past_turn 0 three (with_streams (one put_two))) (msg.SnapshotMarker 2 3 1) (msg.SnapshotMarker 2 3 1) 0 (with_turn three put_two) [] (header 2 3) refl l.1.0.put in
    let e : true ≡ false = sym (ap (λ (g : ClientStream). g.turned) is) ∙ l.1.0.marker.stays in cc

-- from disk, where nothing is saved
pub disk : LawfulPut two (one (fresh true all_changes)) disk_marked → ⊥
disk l = let low : 2 ≤ 0 = l.0.source.below refl in omega (arith, low)

-- ---- frames

abbrev known : ClientKnown
known = with_streams (one (fresh true all_changes))

abbrev both_marked : DcpMsg
both_marked = msg.SnapshotMarker 0 2 1

pub alone : LawfulPut two (one (fresh true all_changes)) unframed → ⊥
alone l = by l.0.put.bytes l.0.put.stands.0 l.0.put.stands.1
  where
    by : (bytes : List ℕ) (more : List Event) → [] ≡ event.Reply 0 1 bytes ∷ more → ⊥
    by bytes more e = cc

pub apart : LawfulPut two (one (fresh true all_changes)) late_marked → ⊥
apart l = by l.0.put.bytes l.0.put.stands.0 l.0.put.stands.1
  where
    by : (bytes : List ℕ) (more : List Event) → event.Closed 0 2 ∷ frame_of 0 both_marked ∷ [] ≡ event.Reply 0 1 bytes ∷ more → ⊥
    by bytes more e = cc

pub another : LawfulPut two (one (fresh true all_changes)) for_another → ⊥
another l = by l.0.put.bytes l.0.put.stands.0 l.0.put.stands.1
  where
    by : (bytes : List ℕ) (more : List Event) → event.Reply 0 2 (spelling (dcp_frame both_marked 9 0)) ∷ [] ≡ event.Reply 0 1 bytes ∷ more → ⊥
    by bytes more e = let n : ◌≡◌ {A = ℕ} 2 1 = cc in omega (arith, n)

-- no stream of the vBucket that the frame names
unknown : (streams : ClientKnown) (m : DcpMsg) (bytes : List ℕ) (more : List Event) → streams.streams (vb_in_header bytes) ≡ None → IsPut 0 1 streams m (event.Reply 0 1 bytes ∷ more) → ⊥
unknown streams m bytes more none p = let e : None ≡ Some p.stream = sym none ∙ ap (λ b. streams.streams (vb_in_header b)) (sym (bytes_are bytes more streams m p)) ∙ p.known_as in cc

pub other_header : vb_in_header (spelling (dcp_frame both_marked 9 1)) ≡ 1
unfolding spelling dcp_frame
other_header = refl

pub unnamed : LawfulPut two (one (fresh true all_changes)) (marked 1 0 2) → ⊥
unnamed l = unknown known both_marked (spelling (dcp_frame both_marked 9 1)) [] (ap known.streams other_header) l.0.put

pub shut : LawfulPut two (one (fresh true all_changes)) (closed ∷ marked 0 0 2) → ⊥
shut l = unknown _ both_marked (spelling (dcp_frame both_marked 9 0)) [] refl l.1.0.put

-- the opaque of a frame
opaque_of : List ℕ → ℕ
opaque_of bytes = big_32_at bytes 12

eight_named : vb_in_header (spelling (dcp_frame both_marked 8 0)) ≡ 0
unfolding spelling dcp_frame
eight_named = refl

pub opaque : LawfulPut two (one (fresh true all_changes)) other_opaque → ⊥
unfolding opaque_of spelling dcp_frame
opaque l =
    let s : spelling (dcp_frame both_marked 8 0) ≡ spelling (dcp_frame both_marked 9 (vb_in_header (spelling (dcp_frame both_marked 8 0)))) = spelled_is known both_marked (spelling (dcp_frame both_marked 8 0)) (fresh true all_changes) [] (ap known.streams eight_named) l.0.put in
    let e : ◌≡◌ {A = ℕ} 8 9 = ap opaque_of s in omega (arith, e)
