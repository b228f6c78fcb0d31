-- items of clients' streams, judged by hand
use Rattle.std.proofs.Common.{List, [], ap, arith, inl, inr, map, refl, subst, sym, true, false, ℕ, ⊎_elim, ◌++◌, ◌∙◌, ◌∷◌, ◌≡◌, ◌<◌}
use Rattle.std.specs.Prelude.{Some, None, slice_index}
unfoldable use Rattle.mcbp_dcp.specs.DcpFrames.{dcp_frame}
use Rattle.mcbp_dcp.specs.declared.message.DcpMsg.{DcpMsg}
use Rattle.mcbp_dcp.specs.declared.message.DcpMsg.TheVariants as msg
unfoldable use Rattle.mcbp_dcp.specs.Messages.{read_of}
unfoldable use Rattle.mcbp_dcp.specs.Rows.{frame_row}
unfoldable use Rattle.mcbp_dcp.specs.Shapes.{shape_fault}
unfoldable use Rattle.mcbp_frame.specs.Cutting.{frames_in}
unfoldable use Rattle.mcbp_frame.specs.Frames.{first_frame, frame_of as frame_in_bytes}
unfoldable use Rattle.mcbp_frame.specs.Spelling.{spelling}
use Rattle.dcp_producer.specs.Frames.{act_message}
use Rattle.vb_types.specs.Histories.{IsIn, Rises, Slot, plain}
use Rattle.vb_types.specs.declared.change.Change.{Change}
use Rattle.vb_types.specs.declared.role.Role.TheVariants as role
use Rattle.vb_events.specs.declared.event.Event.{Event}
use Rattle.branch_model.proofs.Lists.{rises_in}
use Rattle.branch_model.specs.Histories.{IsOf}
use Rattle.vb_types.specs.declared.status.Status.TheVariants as status
use Rattle.transcript_law.specs.Chronicles.{Chronicle}
use Rattle.transcript_law.specs.ClientAskRows.{LawfulAsked, bytes_of as sent_bytes, that_sent}
use Rattle.transcript_law.specs.ClientStreamRows.{LawfulHeld, LawfulPut, all_changes, both as and_another, finished, first_item, frame_of, fresh, inside, left_with, marked, next_item, one, other_value, sent, sent_with, snapshot, turned, two, with_streams}
use Rattle.flow_control.specs.Windows.{is_open as lets_through}
use Rattle.transcript_law.specs.ClientFrames.{is_closed_by}
use Rattle.transcript_law.specs.Questions.{flow_now, served_frames}
use Rattle.transcript_law.specs.ClientStreams.{Begun, ClientKnown, ClientStream, ItemLine, held_for, past_turn, vb_in_header, with_turn}
use Rattle.transcript_law.specs.Followers.{next_change}
use Rattle.transcript_law.specs.Lawfulness.{LawfulRole}
use Rattle.transcript_law.specs.LawfulClients.{IsSentOf, LawfulClientItem}
use Rattle.transcript_law.specs.StreamLaws.{IsNextItem, item_of_change}
use Rattle.transcript_law.specs.Transcripts.{one_change}
use Rattle.transcript_law.proofs.rows.Answering.{bare_so, dcp_answer}
use Rattle.transcript_law.proofs.rows.ClientStreams.{◌▹◌, all_between, bytes_are, none_counted, none_served, put_still, spelled_is, stream_is}
use Rattle.transcript_law.proofs.rows.ClientStreamMarks.{mark_put, mark_still, two_next}

-- ---- items, and the streams that they are of

pub first_header : vb_in_header (spelling (dcp_frame (act_message one_change one_change.act) 9 0)) ≡ 0
unfolding spelling dcp_frame
first_header = refl

-- both changes are a snapshot, of which the first one is put, and then the next
pub first_next : IsNextItem (snapshot two 0 2 []) first_item
first_next = (next_change ∷ [], record { whole = two; covers = all_between two 0 2 (omega arith) (omega arith, (omega arith, omega arith)) refl; front = refl }, λ e. absurd (omega (arith, e)))

pub both_next : IsNextItem (snapshot two 0 2 (first_item ∷ [])) next_item
both_next = ([], record { whole = two; covers = all_between two 0 2 (omega arith) (omega arith, (omega arith, omega arith)) refl; front = refl }, λ e. refl)

-- a snapshot from memory
abbrev pub remembered : Begun → Begun
remembered b = record b { disk = false }

-- an item of it, of a stream that no frame closed, whose change is as its vBucket holds it
pub item_still : (chronicle : Chronicle) (known : ClientKnown) (v : ℕ) (c : Change) (g : ClientStream) (b : Begun) (more : List Event) → vb_in_header (spelling (dcp_frame (act_message c c.act) 9 v)) ≡ v → known.streams v ≡ Some g → g.opaque ≡ 9 → is_closed_by (served_frames known) v ≡ false → lets_through (flow_now known).window ≡ true → g.over ≡ false → g.last ≡ Some (remembered b) → IsIn c b.history → IsSentOf g (remembered b) (held_for g (chronicle.held 0 v)) c → IsNextItem (remembered b) (item_of_change c) → LawfulClientItem chronicle known 0 1 (item_of_change c) (frame_of v (act_message c c.act) ∷ more)
item_still chronicle known v c g b more header is nine still through opens last shown sent next = record {
  change = c;
  told = refl;
  put = put_still known (act_message c c.act) v g more header is nine still through;
  opens = opens;
  begun = remembered b;
  last = last;
  shown = (c, shown, inl refl);
  held = subst (λ w. IsSentOf g (remembered b) (held_for g (chronicle.held 0 w)) c) (sym header) sent;
  next = next;
  unreplaced = λ e. cc;
}

-- where nothing was served
pub item_put : (chronicle : Chronicle) (known : ClientKnown) (v : ℕ) (c : Change) (g : ClientStream) (b : Begun) (more : List Event) → vb_in_header (spelling (dcp_frame (act_message c c.act) 9 v)) ≡ v → known.streams v ≡ Some g → g.opaque ≡ 9 → known.bytes ≡ [] → lets_through (flow_now known).window ≡ true → g.over ≡ false → g.last ≡ Some (remembered b) → IsIn c b.history → IsSentOf g (remembered b) (held_for g (chronicle.held 0 v)) c → IsNextItem (remembered b) (item_of_change c) → LawfulClientItem chronicle known 0 1 (item_of_change c) (frame_of v (act_message c c.act) ∷ more)
item_put chronicle known v c g b more header is nine silent through opens last shown sent next = item_still chronicle known v c g b more header is nine (ap (λ fs. is_closed_by fs v) (none_served known silent)) through opens last shown sent next

pub own : LawfulPut two (and_another (inside true all_changes two 0 2 []) (inside true all_changes two 0 2 (first_item ∷ []))) (sent 0 one_change)
own = (item_put _ (with_streams (and_another (inside true all_changes two 0 2 []) (inside true all_changes two 0 2 (first_item ∷ [])))) 0 one_change (inside true all_changes two 0 2 []) (snapshot two 0 2 []) [] first_header refl refl refl (none_counted (with_streams (and_another (inside true all_changes two 0 2 []) (inside true all_changes two 0 2 (first_item ∷ [])))) refl refl) refl refl (inl refl) (one_change, inl refl, refl) first_next, ((λ z. cc), tt))

-- the streams in a snapshot of both changes, of which none was put yet, and the first
abbrev begun : ClientStream
begun = inside true all_changes two 0 2 []

abbrev first_put : ClientStream
first_put = inside true all_changes two 0 2 (first_item ∷ [])

pub both : LawfulPut two (one (fresh true all_changes)) (marked 0 0 2 ++ sent 0 one_change ++ sent 0 next_change)
unfolding spelling dcp_frame frames_in first_frame
both =
    mark_put _ (with_streams (one (fresh true all_changes))) 0 0 2 (fresh true all_changes) (sent 0 one_change ++ sent 0 next_change) refl refl refl refl refl two_next ▹ (λ z. cc)
    ▹ item_put _ _ 0 one_change begun (snapshot two 0 2 []) (sent 0 next_change) refl refl refl refl refl refl refl (inl refl) (one_change, inl refl, refl) first_next ▹ (λ z. cc)
    ▹ item_put _ _ 0 next_change first_put (snapshot two 0 2 (first_item ∷ [])) [] refl refl refl refl refl refl refl (inr (inl refl)) (next_change, inr (inl refl), refl) both_next ▹ (λ z. cc) ▹ tt

pub answered : LawfulAsked (that_sent (one (fresh true all_changes)) (sent_bytes 9 0 msg.Noop)) (marked 0 0 2 ++ sent 0 one_change ++ frame_of 0 (msg.NoopAnswer 0) ∷ sent 0 next_change)
unfolding spelling dcp_frame frames_in first_frame frame_in_bytes read_of frame_row shape_fault
answered =
    mark_still _ _ 0 0 2 (fresh true all_changes) _ refl refl refl refl refl two_next ▹ (λ z. cc)
    ▹ item_still _ _ 0 one_change begun (snapshot two 0 2 []) _ refl refl refl refl refl refl refl (inl refl) (one_change, inl refl, refl) first_next ▹ (λ z. cc) ▹ (λ z. dcp_answer (dcp_frame (msg.NoopAnswer 0) 9 0) refl refl refl refl refl (bare_so 92 9 status.Success) (tt, refl))
    ▹ item_still _ _ 0 next_change first_put (snapshot two 0 2 (first_item ∷ [])) [] refl refl refl refl refl refl refl (inr (inl refl)) (next_change, inr (inl refl), refl) both_next ▹ (λ z. cc) ▹ tt

pub in_turn : LawfulPut two (and_another (fresh true all_changes) (fresh true all_changes)) (marked 0 0 2 ++ marked 1 0 2 ++ sent 1 one_change ++ sent 0 one_change ++ sent 0 next_change ++ sent 1 next_change)
unfolding spelling dcp_frame frames_in first_frame
in_turn =
    mark_put _ (with_streams (and_another (fresh true all_changes) (fresh true all_changes))) 0 0 2 (fresh true all_changes) _ refl refl refl refl refl two_next ▹ (λ z. cc)
    ▹ mark_put _ _ 1 0 2 (fresh true all_changes) _ refl refl refl refl refl two_next ▹ (λ z. cc)
    ▹ item_put _ _ 1 one_change begun (snapshot two 0 2 []) _ refl refl refl refl refl refl refl (inl refl) (one_change, inl refl, refl) first_next ▹ (λ z. cc)
    ▹ item_put _ _ 0 one_change begun (snapshot two 0 2 []) _ refl refl refl refl refl refl refl (inl refl) (one_change, inl refl, refl) first_next ▹ (λ z. cc)
    ▹ item_put _ _ 0 next_change first_put (snapshot two 0 2 (first_item ∷ [])) _ refl refl refl refl refl refl refl (inr (inl refl)) (next_change, inr (inl refl), refl) both_next ▹ (λ z. cc)
    ▹ item_put _ _ 1 next_change first_put (snapshot two 0 2 (first_item ∷ [])) [] refl refl refl refl refl refl refl (inr (inl refl)) (next_change, inr (inl refl), refl) both_next ▹ (λ z. cc) ▹ tt

-- ---- what an item is judged by

-- a line is judged by the snapshot of the stream that its frame names
module _ (chronicle : Chronicle) (known : ClientKnown) (item : ItemLine) (m : DcpMsg) (v : ℕ) (more : List Event) (g : ClientStream) (header : vb_in_header (spelling (dcp_frame m 9 v)) ≡ v) (is : known.streams v ≡ Some g) (l : LawfulClientItem chronicle known 0 1 item (frame_of v m ∷ more)) where
  pub stream_of_item : l.put.stream ≡ g
  stream_of_item = stream_is known (act_message l.change l.change.act) m v g more header is l.put

  pub begun_is : (b : Begun) → g.last ≡ Some b → l.begun ≡ b
  begun_is b last = let same : Some l.begun ≡ Some b = sym l.last ∙ ap (λ (h : ClientStream). h.last) stream_of_item ∙ last in cc

  pub next_of : (b : Begun) → g.last ≡ Some b → IsNextItem b item
  next_of b last = subst (λ x. IsNextItem x item) (begun_is b last) l.next

  pub shown_of : (b : Begun) → g.last ≡ Some b → IsOf b.history l.change
  shown_of b last = subst (λ (x : Begun). IsOf x.history l.change) (begun_is b last) l.shown

  pub bytes_of : g.opaque ≡ 9 → spelling (dcp_frame m 9 v) ≡ spelling (dcp_frame (act_message l.change l.change.act) 9 v)
  bytes_of nine =
      let s : spelling (dcp_frame m 9 v) ≡ spelling (dcp_frame (act_message l.change l.change.act) g.opaque (vb_in_header (spelling (dcp_frame m 9 v)))) = spelled_is known (act_message l.change l.change.act) (spelling (dcp_frame m 9 v)) g more (ap known.streams header ∙ is) l.put in
      s ∙ ap (λ o. spelling (dcp_frame (act_message l.change l.change.act) o (vb_in_header (spelling (dcp_frame m 9 v))))) nine ∙ ap (λ w. spelling (dcp_frame (act_message l.change l.change.act) 9 w)) header

  -- what its vBucket holds, or held before it got a role, has the change
  pub held_of : (b : Begun) → g.last ≡ Some b → IsSentOf g b (held_for g (chronicle.held 0 v)) l.change
  held_of b last =
      let at : vb_in_header l.put.bytes ≡ v = ap vb_in_header (bytes_are (spelling (dcp_frame m 9 v)) more known (act_message l.change l.change.act) l.put) ∙ header in
      subst (λ w. IsSentOf g b (held_for g (chronicle.held 0 w)) l.change) at (subst (λ x. IsSentOf g x (held_for g (chronicle.held 0 (vb_in_header l.put.bytes))) l.change) (begun_is b last) (subst (λ h. IsSentOf h l.begun (held_for h (chronicle.held 0 (vb_in_header l.put.bytes))) l.change) stream_of_item l.held))

-- ---- items that are not lawful

second_header : vb_in_header (spelling (dcp_frame (act_message one_change one_change.act) 9 1)) ≡ 1
unfolding spelling dcp_frame
second_header = refl

-- the items of a snapshot rise
pub no_twice : IsNextItem (snapshot two 0 2 (first_item ∷ [])) first_item → ⊥
no_twice n = by n.1.whole (map item_of_change n.0) n.1.front n.1.covers.remains.rises
  where
    by : (whole : List Change) (rest : List ItemLine) → map item_of_change whole ≡ first_item ∷ first_item ∷ rest → Rises 0 2 whole → ⊥
    by [] rest e r = cc
    by (x ∷ []) rest e r = cc
    by (x ∷ y ∷ ys) rest e r =
        let one : item_of_change x ≡ first_item = cc in let again : item_of_change y ≡ first_item = cc in
        let a : x.seq ≡ 1 = ap (λ (i : ItemLine). i.seq) one in let b : y.seq ≡ 1 = ap (λ (i : ItemLine). i.seq) again in let up : x.seq < y.seq = r.1.0 in omega (arith, a, b, up)

pub header : LawfulPut two (and_another begun first_put) (sent 1 one_change) → ⊥
header l = no_twice (next_of _ (with_streams (and_another begun first_put)) first_item (act_message one_change one_change.act) 1 [] first_put second_header refl l.0 (snapshot two 0 2 (first_item ∷ [])) refl)

-- of both changes the one of the first seqno is the first
first_of : (x : Change) → IsOf two x → x.seq ≡ 1 → x ≡ one_change
first_of x (c, i, stands) at = ⊎_elim
    (λ e. ⊎_elim (λ s. s ∙ e) (λ s. s ∙ ap plain e) stands)
    (λ j. ⊎_elim (λ e. let n : c.seq ≡ 2 = ap (λ (y : Change). y.seq) e in let m : x.seq ≡ c.seq = ⊎_elim (λ s. ap (λ (y : Change). y.seq) s) (λ s. ap (λ (y : Change). y.seq) s) stands in absurd (omega (arith, at, n, m))) (λ k. absurd k) j) i

-- the value of a frame with a key of one byte
value_at : List ℕ → ℕ
value_at bytes = slice_index bytes 56

other_header : vb_in_header (spelling (dcp_frame (act_message other_value other_value.act) 9 0)) ≡ 0
unfolding spelling dcp_frame
other_header = refl

pub value : LawfulPut two (one begun) (sent_with 0 one_change other_value) → ⊥
unfolding value_at spelling dcp_frame
value l =
    let shown : IsOf two l.0.change = shown_of _ (with_streams (one begun)) first_item (act_message other_value other_value.act) 0 [] begun other_header refl l.0 (snapshot two 0 2 []) refl in
    let is : l.0.change ≡ one_change = first_of l.0.change shown (ap (λ (i : ItemLine). i.seq) l.0.told) in
    let b : spelling (dcp_frame (act_message other_value other_value.act) 9 0) ≡ spelling (dcp_frame (act_message one_change one_change.act) 9 0) = bytes_of _ (with_streams (one begun)) first_item (act_message other_value other_value.act) 0 [] begun other_header refl l.0 refl ∙ ap (λ (x : Change). spelling (dcp_frame (act_message x x.act) 9 0)) is in
    let e : ◌≡◌ {A = ℕ} 9 8 = ap value_at b in omega (arith, e)

-- the first change is to come first
pub no_skip : IsNextItem (snapshot two 0 2 []) next_item → ⊥
no_skip n =
    let (y, i, stands) = n.1.covers.remains.has (Slot.Committed (7 ∷ [])) one_change refl (omega arith) (omega arith) in
    let at : y.seq ≡ 1 = ⊎_elim (λ s. ap (λ (z : Change). z.seq) s) (λ s. ap (λ (z : Change). z.seq) s) stands in by n.1.whole (map item_of_change n.0) n.1.front n.1.covers.remains.rises y i at
  where
    by : (whole : List Change) (rest : List ItemLine) → map item_of_change whole ≡ next_item ∷ rest → Rises 0 2 whole → (y : Change) → IsIn y whole → y.seq ≡ 1 → ⊥
    by [] rest e r y i at = cc
    by (x ∷ xs) rest e r y i at =
        let head : item_of_change x ≡ next_item = cc in let b : x.seq ≡ 2 = ap (λ (z : ItemLine). z.seq) head in
        ⊎_elim (λ same. let q : y.seq ≡ x.seq = ap (λ (z : Change). z.seq) same in omega (arith, at, b, q)) (λ later. let q : x.seq < y.seq = (rises_in x.seq 2 xs y r.1 later).0 in omega (arith, at, b, q)) i

pub next_header : vb_in_header (spelling (dcp_frame (act_message next_change next_change.act) 9 0)) ≡ 0
unfolding spelling dcp_frame
next_header = refl

pub skipped : LawfulPut two (one begun) (sent 0 next_change) → ⊥
skipped l = no_skip (next_of _ (with_streams (one begun)) next_item (act_message next_change next_change.act) 0 [] begun next_header refl l.0 (snapshot two 0 2 []) refl)

pub unmarked : LawfulPut two (one (fresh true all_changes)) (sent 0 one_change) → ⊥
unmarked l =
    let is : l.0.put.stream ≡ fresh true all_changes = stream_of_item _ (with_streams (one (fresh true all_changes))) first_item (act_message one_change one_change.act) 0 [] (fresh true all_changes) first_header refl l.0 in
    let e : None ≡ Some l.0.begun = sym (ap (λ (g : ClientStream). g.last) is) ∙ l.0.last in cc

pub over : LawfulPut two (one (finished begun)) (sent 0 one_change) → ⊥
over l =
    let is : l.0.put.stream ≡ finished begun = stream_of_item _ (with_streams (one (finished begun))) first_item (act_message one_change one_change.act) 0 [] (finished begun) first_header refl l.0 in
    let e : true ≡ false = sym (ap (λ (g : ClientStream). g.over) is) ∙ l.0.opens in cc

-- ---- vBuckets that got a role, or do not hold the change

-- a vBucket that was active is dead
pub dead_now : {chronicle : Chronicle} → chronicle.role_at 0 0 ≡ Some (Some role.Active) → LawfulRole chronicle 0 0 role.Dead
dead_now is = record { another = λ e. let z : Some (Some role.Active) ≡ Some (Some role.Dead) = sym is ∙ e in let y : role.Active ≡ role.Dead = cc in cc; anew = λ e. cc; pending = λ e. cc }

pub turns : LawfulPut two (one begun) (turned role.Dead ∷ sent 0 one_change)
turns = dead_now refl ▹ item_put _ (past_turn 0 two (with_streams (one begun))) 0 one_change (with_turn two begun) (snapshot two 0 2 []) [] first_header refl refl refl (none_counted (past_turn 0 two (with_streams (one begun))) refl refl) refl refl (inl refl) (one_change, inl refl, refl) first_next ▹ (λ z. cc) ▹ tt

pub turns_lost : LawfulHeld [] two (one begun) (turned role.Dead ∷ sent 0 one_change) → ⊥
turns_lost l = (held_of _ (past_turn 0 [] (with_streams (one begun))) first_item (act_message one_change one_change.act) 0 [] (with_turn [] begun) first_header refl l.1.0 (snapshot two 0 2 []) refl).1

-- it was so when it was first given one
pub turns_twice : LawfulHeld [] two (one (left_with two begun)) (turned role.Dead ∷ sent 0 one_change)
turns_twice = dead_now refl ▹ item_put _ (past_turn 0 [] (with_streams (one (left_with two begun)))) 0 one_change (with_turn [] (left_with two begun)) (snapshot two 0 2 []) [] first_header refl refl refl (none_counted (past_turn 0 [] (with_streams (one (left_with two begun)))) refl refl) refl refl (inl refl) (one_change, inl refl, refl) first_next ▹ (λ z. cc) ▹ tt

pub left : LawfulHeld [] two (one (left_with two begun)) (sent 0 one_change)
left = item_put _ (with_streams (one (left_with two begun))) 0 one_change (left_with two begun) (snapshot two 0 2 []) [] first_header refl refl refl (none_counted (with_streams (one (left_with two begun))) refl refl) refl refl (inl refl) (one_change, inl refl, refl) first_next ▹ (λ z. cc) ▹ tt

pub left_none : LawfulPut two (one (left_with [] begun)) (sent 0 one_change) → ⊥
left_none l = (held_of _ (with_streams (one (left_with [] begun))) first_item (act_message one_change one_change.act) 0 [] (left_with [] begun) first_header refl l.0 (snapshot two 0 2 []) refl).1

pub lost : LawfulHeld [] two (one begun) (sent 0 one_change) → ⊥
lost l = (held_of _ (with_streams (one begun)) first_item (act_message one_change one_change.act) 0 [] begun first_header refl l.0 (snapshot two 0 2 []) refl).1

pub other_turned : LawfulPut two (one begun) (turned role.Dead ∷ sent_with 0 one_change other_value) → ⊥
unfolding value_at spelling dcp_frame
other_turned l =
    let known : ClientKnown = past_turn 0 two (with_streams (one begun)) in
    let shown : IsOf two l.1.0.change = shown_of _ known first_item (act_message other_value other_value.act) 0 [] (with_turn two begun) other_header refl l.1.0 (snapshot two 0 2 []) refl in
    let is : l.1.0.change ≡ one_change = first_of l.1.0.change shown (ap (λ (i : ItemLine). i.seq) l.1.0.told) in
    let b : spelling (dcp_frame (act_message other_value other_value.act) 9 0) ≡ spelling (dcp_frame (act_message one_change one_change.act) 9 0) = bytes_of _ known first_item (act_message other_value other_value.act) 0 [] (with_turn two begun) other_header refl l.1.0 refl ∙ ap (λ (x : Change). spelling (dcp_frame (act_message x x.act) 9 0)) is in
    let e : ◌≡◌ {A = ℕ} 9 8 = ap value_at b in omega (arith, e)
