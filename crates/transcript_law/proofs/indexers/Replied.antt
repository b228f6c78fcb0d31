-- a line of a client's stream and the frame behind it: what is known then, and that the frame is the stream's
use Rattle.std.specs.Prelude.{◌≡◌, ◌<◌, ◌^◌, ◌+◌, ◌++◌, ◌∷◌, ◌==◌, ◌&&◌, if◌then◌else◌, length}
use Rattle.transcript_law.proofs.Words.{None, ℕ, true, false, List, [], refl, ap, sym, ◌∙◌, subst, arith, append-nil, append_assoc, filter, filter-append, length-append, frames_in_lines, is_frame, Some, Act, Change, Chronicle, DcpMsg, Event, Frame, LawfulFrom, LawfulLine, after_line, after_lines, act_message, spelling}
unfoldable use Rattle.mcbp_dcp.specs.DcpFrames.{dcp_frame}
use Rattle.dcp_producer.proofs.Headers.{front_cut, front_left, spelled_short, vb_told}
use Rattle.dcp_producer.specs.Cuts.{IsShort}
use Rattle.mcbp_dcp.specs.DcpFrames.{IsSpelled}
use Rattle.mcbp_dcp.specs.declared.message.DcpMsg.TheVariants as msg
use Rattle.flow_control.specs.Windows.{is_open as lets_through}
unfoldable use Rattle.node_core.specs.Clients.{with_replies}
use Rattle.transcript_law.proofs.invariant.{Holdings.{ActFits, ChangeFits}, Tables.{at_here}}
use Rattle.transcript_law.specs.Asked.{ArePairs}
use Rattle.transcript_law.specs.ClientFrames.{is_closed_by}
use Rattle.transcript_law.specs.ClientStreams.{clients_frame, past_frame, vb_in_header, with_told}
use Rattle.transcript_law.specs.LawfulClients.{IsPut}
use Rattle.transcript_law.specs.LinesTold.{made_line}
use Rattle.transcript_law.specs.Questions.{flow_now, served_frames}
use Rattle.transcript_law.specs.StreamsTold.{ClientKnown, ClientStream, ClientsKnown, StreamLine, with_at}
use Rattle.vb_events.specs.declared.event.Event.TheVariants as event
use Rattle.vb_types.specs.declared.change.Act.TheVariants as act

-- ---- frames

-- a frame of a stream names its vBucket
pub item_vb : (c : Change) (a : Act) (o v : ℕ) → (dcp_frame (act_message c a) o v).vb_or_status ≡ v
unfolding dcp_frame
item_vb c (act.Set doc) o v = refl
item_vb c (act.Remove cas rev) o v = refl
item_vb c (act.Prepare level doc deleted) o v = refl
item_vb c (act.Commit prepared doc deleted) o v = refl
item_vb c (act.Abort prepared) o v = refl

pub marker_vb : (start end flags o v : ℕ) → (dcp_frame (msg.SnapshotMarker start end flags) o v).vb_or_status ≡ v
unfolding dcp_frame
marker_vb start end flags o v = refl

pub end_vb : (reason o v : ℕ) → (dcp_frame (msg.StreamEnd reason) o v).vb_or_status ≡ v
unfolding dcp_frame
end_vb reason o v = refl

-- a change that fits has a spelling
item_spelled : (c : Change) (a : Act) → ChangeFits c → ActFits a → IsSpelled (act_message c a)
item_spelled c (act.Set doc) f g = let k = f.key in let v = g.value in (omega (arith, k), omega (arith, k, v))
item_spelled c (act.Remove cas rev) f g = let k = f.key in omega (arith, k)
item_spelled c (act.Prepare level doc true) f g = let k = f.key in (omega (arith, k), omega (arith, k), λ e. refl)
item_spelled c (act.Prepare level doc false) f g = let k = f.key in let v = g.0.value in (omega (arith, k), omega (arith, k, v), λ e. let z : ◌≡◌ {A = ℕ} 0 1 = e in absurd (omega (arith, z)))
item_spelled c (act.Commit prepared doc deleted) f g = let k = f.key in omega (arith, k)
item_spelled c (act.Abort prepared) f g = let k = f.key in omega (arith, k)

pub item_short : (c : Change) (o v : ℕ) → ChangeFits c → IsShort (dcp_frame (act_message c c.act) o v)
item_short c o v f = spelled_short (act_message c c.act) o v (item_spelled c c.act f f.act)

pub marker_short : (start end flags o v : ℕ) → IsShort (dcp_frame (msg.SnapshotMarker start end flags) o v)
marker_short start end flags o v = spelled_short (msg.SnapshotMarker start end flags) o v tt

pub end_short : (reason o v : ℕ) → IsShort (dcp_frame (msg.StreamEnd reason) o v)
end_short reason o v = spelled_short (msg.StreamEnd reason) o v tt

-- its header tells the vBucket
pub header_is : (f : Frame) (v : ℕ) → f.vb_or_status ≡ v → v < 2 ^ 16 → vb_in_header (spelling f) ≡ v
header_is f v is small = ap vb_in_header (sym (append-nil (spelling f))) ∙ vb_told f [] (let e = is in omega (arith, e, small)) ∙ is

-- it is what stands behind a line of the stream
pub put_is : (n c : ℕ) (known : ClientKnown) (m : DcpMsg) (g : ClientStream) (o v : ℕ) (more : List Event) → (dcp_frame m o v).vb_or_status ≡ v → v < 2 ^ 16 → known.streams v ≡ Some g → o ≡ g.opaque → is_closed_by (served_frames known) v ≡ false → lets_through (flow_now known).window ≡ true
    → (p : IsPut n c known m (event.Reply n c (spelling (dcp_frame m o v)) ∷ more)) × (p.stream ≡ g) × (vb_in_header p.bytes ≡ v)
put_is n c known m g o v more is small there same still through =
    let header : vb_in_header (spelling (dcp_frame m o v)) ≡ v = header_is (dcp_frame m o v) v is small in (
      record {
        bytes = spelling (dcp_frame m o v);
        stands = (more, refl);
        stream = g;
        known_as = ap known.streams header ∙ there;
        spelled = λ i. spelling (dcp_frame m (same i) (sym header i));
        unclosed = ap (is_closed_by (served_frames known)) header ∙ still;
        through = through;
      },
      refl,
      header,
    )

-- ---- what is known behind both

table_twice : {A : Type 0} (table : ℕ → ℕ → A) (n c : ℕ) (x y : A) (m d : ℕ) → with_at (with_at table n c x) n c y m d ≡ with_at table n c y m d
table_twice table n c x y m d = elim (m == n && d == c) as (λ b. (if b then y else (if b then x else table m d)) ≡ (if b then y else table m d)) [ true ↦ refl | false ↦ refl ]

pub table_put_twice : {A : Type 0} (table : ℕ → ℕ → A) (n c : ℕ) (x y : A) → with_at (with_at table n c x) n c y ≡ with_at table n c y
table_put_twice table n c x y = λ i m d. table_twice table n c x y m d i

-- of the client c of the node n
abbrev pub known_behind : Chronicle → ℕ → ℕ → List ℕ → StreamLine → Chronicle
known_behind r n c bytes line = record r { clients_at = with_at r.clients_at n c (past_frame r.tree bytes line (r.clients_at n c)) }

-- and of all
abbrev pub with_frame : Chronicle → ℕ → ℕ → List ℕ → StreamLine → Chronicle
with_frame r n c bytes line = record (known_behind r n c bytes line) { made = made_line r.made (event.Reply n c bytes); changed = false }

pub after_pair : (r : Chronicle) (n c : ℕ) (told : Event) (bytes : List ℕ) (line : StreamLine) → after_line r told ≡ record r { clients_at = with_at r.clients_at n c (with_told line (r.clients_at n c)) }
    → after_line (after_line r told) (event.Reply n c bytes) ≡ with_frame r n c bytes line
after_pair r n c told bytes line is =
    let k : ClientsKnown = with_at r.clients_at n c (with_told line (r.clients_at n c)) in
    let here : k n c ≡ with_told line (r.clients_at n c) = at_here r.clients_at n c (with_told line (r.clients_at n c)) in
    ap (λ r'. after_line r' (event.Reply n c bytes)) is
    ∙ ap (λ (known : ClientKnown). record r { clients_at = clients_frame r.tree k n c bytes known.told; made = made_line r.made (event.Reply n c bytes); changed = false }) here
    ∙ ap (λ (known : ClientKnown). record r { clients_at = with_at k n c (past_frame r.tree bytes line known); made = made_line r.made (event.Reply n c bytes); changed = false }) here
    ∙ ap (λ table. record r { clients_at = table; made = made_line r.made (event.Reply n c bytes); changed = false }) (table_put_twice r.clients_at n c (with_told line (r.clients_at n c)) (past_frame r.tree bytes line (r.clients_at n c)))

-- ---- lines with their frames

-- these lines are what a client is told of events and frames, whatever others there are behind them
abbrev pub TellsAs : ℕ → ℕ → List Event → List ℕ → List Event → Type 0
TellsAs n c events out lines = (more : List Event) (bytes : List ℕ) → with_replies n c (events ++ more) (out ++ bytes) ≡ lines ++ with_replies n c more bytes

pub tells_none : (n c : ℕ) → TellsAs n c [] [] []
tells_none n c more bytes = refl

pub tells_more : (n c : ℕ) (events : List Event) (out : List ℕ) (lines : List Event) (line : Event) (f : Frame) → IsShort f → TellsAs n c events out lines
    → TellsAs n c (events ++ line ∷ []) (out ++ spelling f) (lines ++ line ∷ event.Reply n c (spelling f) ∷ [])
unfolding with_replies
tells_more n c events out lines line f short told more bytes =
    (λ i. with_replies n c (append_assoc events (line ∷ []) more i) (append_assoc out (spelling f) bytes i))
    ∙ told (line ∷ more) (spelling f ++ bytes)
    ∙ (λ i. lines ++ line ∷ event.Reply n c (front_cut f bytes short i) ∷ with_replies n c more (front_left f bytes short i))
    ∙ sym (append_assoc lines (line ∷ event.Reply n c (spelling f) ∷ []) (with_replies n c more bytes))

-- all of them
pub tells_all : (n c : ℕ) (events : List Event) (out : List ℕ) (lines : List Event) → TellsAs n c events out lines → with_replies n c events out ≡ lines
unfolding with_replies
tells_all n c events out lines told = (λ i. with_replies n c (sym (append-nil events) i) (sym (append-nil out) i)) ∙ told [] [] ∙ append-nil lines

-- one more line of a frame, with it
pub pairs_more : (n c : ℕ) (lines : List Event) (line : Event) (bytes : List ℕ) → is_frame line ≡ true → ArePairs lines → ArePairs (lines ++ line ∷ event.Reply n c bytes ∷ [])
pairs_more n c lines line bytes is pairs =
    let pair : List Event = line ∷ event.Reply n c bytes ∷ [] in
    let all : length (lines ++ pair) ≡ length lines + 2 = length-append lines pair in
    let frames : frames_in_lines (lines ++ pair) ≡ frames_in_lines lines + 1 = ap (λ (xs : List Event). length xs) (filter-append is_frame lines pair) ∙ length-append (filter is_frame lines) (filter is_frame pair) ∙ ap (λ b. frames_in_lines lines + length (if b then line ∷ [] else [])) is in
    omega (arith, pairs, all, frames)

-- lines are lawful, whatever lawful ones stand behind them
abbrev pub LawfulTo : Chronicle → List Event → Type 0
LawfulTo r lines = (more : List Event) → LawfulFrom (after_lines r lines) more → LawfulFrom r (lines ++ more)

pub lawful_all : (r : Chronicle) (lines : List Event) → LawfulTo r lines → LawfulFrom r lines
lawful_all r lines so = subst (LawfulFrom r) (append-nil lines) (so [] tt)

after_all : (r : Chronicle) (lines more : List Event) → after_lines r (lines ++ more) ≡ after_lines (after_lines r lines) more
after_all r [] more = refl
after_all r (line ∷ lines) more = after_all (after_line r line) lines more

-- one more line and its frame
pub lawful_pair : (r : Chronicle) (n c : ℕ) (lines : List Event) (line : Event) (bytes : List ℕ) → LawfulTo r lines → (told : StreamLine) → ((after_line (after_lines r lines) line).clients_at n c).told ≡ Some told
    → ((more : List Event) → LawfulLine (after_lines r lines) line (event.Reply n c bytes ∷ more)) → LawfulTo r (lines ++ line ∷ event.Reply n c bytes ∷ [])
lawful_pair r n c lines line bytes so told is one more rest =
    subst (LawfulFrom r) (sym (append_assoc lines (line ∷ event.Reply n c bytes ∷ []) more))
    (so (line ∷ event.Reply n c bytes ∷ more) (one more, (λ none. (let z : Some told ≡ None = sym is ∙ none in cc), subst (λ k. LawfulFrom k more) (after_all r lines (line ∷ event.Reply n c bytes ∷ [])) rest)))

pub after_more_pair : (r : Chronicle) (lines : List Event) (line reply : Event) → after_lines r (lines ++ line ∷ reply ∷ []) ≡ after_line (after_line (after_lines r lines) line) reply
after_more_pair r lines line reply = after_all r lines (line ∷ reply ∷ [])
