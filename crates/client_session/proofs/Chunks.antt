-- the pieces in which a client's bytes come, and outcomes between them
use Rattle.std.proofs.Common.{◌≡◌, ℕ, Bool, true, false, List, [], ◌∷◌, ◌++◌, drop, refl, sym, ap, ◌∙◌, subst, append_assoc, append-nil, inl, inr, Option, Some, None, Ok, Err}
use Rattle.std.specs.Prelude.{◌==◌, if◌then◌else◌}
use Rattle.std.specs.List.{concat, fold}
use Rattle.std.proofs.lemmas.List.{drop-append-le}
use Rattle.mcbp_frame.specs.Cutting.{fault_in, frame_in}
use Rattle.mcbp_frame.specs.Frames.{first_frame, frame_len}
use Rattle.mcbp_frame.specs.declared.frame.Frame.{Frame}
use Rattle.mcbp_frame.specs.declared.frame.FrameFault.{FrameFault}
use Rattle.mcbp_frame.proofs.Cases.{one as given_one}
use Rattle.mcbp_frame.proofs.Faults.{head_stays}
use Rattle.mcbp_frame.proofs.Pieces.{front_within}
use Rattle.mcbp_frame.proofs.Stable.{stable}
use Rattle.vb_calls.specs.declared.calls.Resolved.{Resolved}
use Rattle.vb_calls.specs.Programs.{Prog, Done, bind, next_of, each, AnyReply, AnyCall, Always}
use Rattle.vb_calls.proofs.Binds.{bind_assoc, bind_same}
use Rattle.vb_calls.proofs.Conduct.{always_bind, always_so}
use Rattle.client_session.specs.declared.session.Awaited.{Awaited}
use Rattle.client_session.specs.Answers.{fault_lines}
use Rattle.client_session.specs.Serving.{Served, served, closed_with, frame_handled, ended_at, bytes_handled, turns_handled, with_bytes, is_held, outcome_answered, outcome_by, outcome_handled}
use Rattle.client_session.specs.Conduct.{Waits, Passed, passed_by, came_handled}
use Rattle.vb_events.specs.declared.event.Event.{Event}
use Rattle.client_session.proofs.Conduct.{Stays, frame_stays, frame_apart}
use Rattle.client_session.proofs.Turns.{handed_holds, turns_waiting, turns_none, turns_fault, turns_frame, by_turns, is_opened, is_closed}

-- ---- bytes that come later

-- a fault closes the connection with the same lines, whatever comes behind it
end_same : (b : List ℕ) (fault : FrameFault) (s : Served) → first_frame s.session.reader ≡ Some (Err fault) → ended_at (Some fault) (with_bytes (s.session.reader ++ b) s) ≡ ended_at (Some fault) s
end_same b fault s e = ap (λ h. closed_with s (fault_lines s.session.who.node s.session.who.client h)) (head_stays s.session.reader b fault (ap fault_in e))

-- turns over more bytes are the turns, and then those over what they leave with the others
Later : ℕ → Served → Type 0
Later clock s = (b : List ℕ) → s.session.closed ≡ false → turns_handled clock (with_bytes (s.session.reader ++ b) s) ≡ bind (turns_handled clock s) (bytes_handled clock b)

-- where the turns do nothing
still : (clock : ℕ) (b : List ℕ) (s : Served) → s.session.closed ≡ false → turns_handled clock s ≡ Done s
    → turns_handled clock (with_bytes (s.session.reader ++ b) s) ≡ bind (turns_handled clock s) (bytes_handled clock b)
still clock b s live e = sym (ap (λ p. bind p (bytes_handled clock b)) e ∙ is_opened clock b s live)

behind_fault : (clock : ℕ) (b : List ℕ) (s : Served) (fault : FrameFault) → is_held s ≡ false → first_frame s.session.reader ≡ Some (Err fault)
    → turns_handled clock (with_bytes (s.session.reader ++ b) s) ≡ bind (turns_handled clock s) (bytes_handled clock b)
behind_fault clock b s fault w e =
    turns_fault clock (with_bytes (s.session.reader ++ b) s) fault w (stable s.session.reader b (Err fault) e)
    ∙ ap Done (end_same b fault s e)
    ∙ sym (ap (λ p. bind p (bytes_handled clock b)) (turns_fault clock s fault w e) ∙ is_closed clock b (ended_at (Some fault) s) refl)

behind_frame : (clock : ℕ) (b : List ℕ) (s : Served) (f : Frame) → is_held s ≡ false → first_frame s.session.reader ≡ Some (Ok f)
    → ((t : Served) → t.session.reader ≡ drop (frame_len f) s.session.reader → Later clock t) → s.session.closed ≡ false
    → turns_handled clock (with_bytes (s.session.reader ++ b) s) ≡ bind (turns_handled clock s) (bytes_handled clock b)
unfolding Later
behind_frame clock b s f w e later live =
    let rest : List ℕ = drop (frame_len f) s.session.reader in
    let start : Served = with_bytes rest s in
    let run : Prog Served = frame_handled clock f start in
    turns_frame clock (with_bytes (s.session.reader ++ b) s) f w (stable s.session.reader b (Ok f) e)
    ∙ ap (λ x. bind (frame_handled clock f (with_bytes x s)) (turns_handled clock)) (drop-append-le (frame_len f) s.session.reader b (front_within s.session.reader f (ap frame_in e)))
    ∙ ap (λ p. bind p (turns_handled clock)) (frame_apart (rest ++ b) clock f start)
    ∙ bind_assoc run (λ t. Done (with_bytes (rest ++ b) t)) (turns_handled clock)
    ∙ bind_same run (λ t. turns_handled clock (with_bytes (rest ++ b) t)) (λ t. bind (turns_handled clock t) (bytes_handled clock b))
    (always_so AnyReply AnyCall (Stays start) (λ t. turns_handled clock (with_bytes (rest ++ b) t) ≡ bind (turns_handled clock t) (bytes_handled clock b)) run
    (λ t stays. ap (λ r. turns_handled clock (with_bytes (r ++ b) t)) (sym stays.reader) ∙ later t stays.reader b (stays.closed ∙ live))
    (frame_stays start clock f start (record { who = refl; reader = refl; closed = refl })))
    ∙ sym (ap (λ p. bind p (bytes_handled clock b)) (turns_frame clock s f w e) ∙ bind_assoc run (turns_handled clock) (bytes_handled clock b))

later_so : (clock : ℕ) (s : Served) → Later clock s
unfolding Later
later_so clock = by_turns
    (Later clock)
    (λ s w b live. still clock b s live (turns_waiting clock s w))
    (λ s w e b live. still clock b s live (turns_none clock s w e))
    (λ s fault w e b live. behind_fault clock b s fault w e)
    (λ s f w e later b live. behind_frame clock b s f w e later live)

pub later : (clock : ℕ) (b : List ℕ) (s : Served) → s.session.closed ≡ false → turns_handled clock (with_bytes (s.session.reader ++ b) s) ≡ bind (turns_handled clock s) (bytes_handled clock b)
unfolding Later
later clock b s live = later_so clock s b live

two_by : (clock : ℕ) (a b : List ℕ) (s : Served) (closed : Bool) → s.session.closed ≡ closed → bytes_handled clock (a ++ b) s ≡ bind (bytes_handled clock a s) (bytes_handled clock b)
two_by clock a b s true e = is_closed clock (a ++ b) s e ∙ sym (ap (λ p. bind p (bytes_handled clock b)) (is_closed clock a s e) ∙ is_closed clock b s e)
two_by clock a b s false e =
    is_opened clock (a ++ b) s e ∙ ap (λ x. turns_handled clock (with_bytes x s)) (sym (append_assoc s.session.reader a b))
    ∙ later clock b (with_bytes (s.session.reader ++ a) s) e
    ∙ ap (λ p. bind p (bytes_handled clock b)) (sym (is_opened clock a s e))

-- two pieces are served as one
pub two : (clock : ℕ) (a b : List ℕ) (s : Served) → bytes_handled clock (a ++ b) s ≡ bind (bytes_handled clock a s) (bytes_handled clock b)
two clock a b s = two_by clock a b s s.session.closed refl

-- ---- while a connection is held

-- bytes are kept
pub kept_behind : (clock : ℕ) (piece : List ℕ) (s : Served) → s.session.closed ≡ false → is_held s ≡ true
    → bytes_handled clock piece s ≡ Done (with_bytes (s.session.reader ++ piece) s)
kept_behind clock piece s live w = is_opened clock piece s live ∙ turns_waiting clock (with_bytes (s.session.reader ++ piece) s) w

between_if : (clock : ℕ) (r : Resolved) (a : Awaited) (piece : List ℕ) (s : Served) (mine : Bool) → s.session.closed ≡ false → is_held s ≡ true
    → (if mine then turns_handled clock (outcome_answered a r.how (with_bytes (s.session.reader ++ piece) s)) else Done (with_bytes (s.session.reader ++ piece) s))
    ≡ bind (if mine then turns_handled clock (outcome_answered a r.how s) else Done s) (bytes_handled clock piece)
between_if clock r a piece s true live w = later clock piece (outcome_answered a r.how s) live
between_if clock r a piece s false live w = sym (kept_behind clock piece s live w)

between_by : (clock : ℕ) (r : Resolved) (piece : List ℕ) (s : Served) (o : Option Awaited) → s.session.closed ≡ false → is_held s ≡ true
    → outcome_by clock r (with_bytes (s.session.reader ++ piece) s) o ≡ bind (outcome_by clock r s o) (bytes_handled clock piece)
between_by clock r piece s None live w = sym (kept_behind clock piece s live w)
between_by clock r piece s (Some a) live w = between_if clock r a piece s (a.waiter == r.waiter) live w

-- bytes that come before the outcome are served as those that come after it
pub between : (clock after : ℕ) (r : Resolved) (piece : List ℕ) (s : Served) → s.session.closed ≡ false → is_held s ≡ true
    → bind (bytes_handled clock piece s) (outcome_handled after r) ≡ bind (outcome_handled after r s) (bytes_handled after piece)
unfolding outcome_handled
between clock after r piece s live w =
    ap (λ p. bind p (outcome_handled after r)) (kept_behind clock piece s live w) ∙ between_by after r piece s s.session.awaited live w

-- bytes that come before its node answered a frame that was handed up are served as those that come after it
pub passed_between : (clock after : ℕ) (node_lines : Frame → List Event) (f : Frame) (piece : List ℕ) (s : Served) → s.session.closed ≡ false → s.dcp ≡ Some f
    → bind (bytes_handled clock piece s) (came_handled node_lines (Passed after)) ≡ bind (came_handled node_lines (Passed after) s) (bytes_handled after piece)
passed_between clock after node_lines f piece s live e =
    let t : Served = served s.session (s.events ++ node_lines f) in
    ap (λ p. bind p (came_handled node_lines (Passed after))) (kept_behind clock piece s live (handed_holds s f e))
    ∙ ap (passed_by after node_lines (with_bytes (s.session.reader ++ piece) s)) e
    ∙ is_opened after [] (with_bytes (s.session.reader ++ piece) t) live
    ∙ ap (λ x. turns_handled after (with_bytes x t)) (append-nil (s.session.reader ++ piece))
    ∙ sym (is_opened after piece t live)
    ∙ two after [] piece t
    ∙ ap (λ o. bind (passed_by after node_lines s o) (bytes_handled after piece)) (sym e)

-- ---- less than a frame

pub cut : (clock : ℕ) (piece : List ℕ) (s : Served) → s.session.closed ≡ false → first_frame (s.session.reader ++ piece) ≡ None
    → bytes_handled clock piece s ≡ Done (with_bytes (s.session.reader ++ piece) s)
cut clock piece s live none = is_opened clock piece s live ∙ cut_by clock (with_bytes (s.session.reader ++ piece) s) (is_held s) refl none
  where
    cut_by : (clock : ℕ) (t : Served) (held : Bool) → is_held t ≡ held → first_frame t.session.reader ≡ None → turns_handled clock t ≡ Done t
    cut_by clock t true w e = turns_waiting clock t w
    cut_by clock t false w e = turns_none clock t w e

nothing_by : (clock : ℕ) (s : Served) (closed : Bool) → s.session.closed ≡ closed → Waits s → bytes_handled clock [] s ≡ Done s
nothing_by clock s true e waits = is_closed clock [] s e
nothing_by clock s false e (inl closed) = cc
nothing_by clock s false e (inr (inl held)) = kept_behind clock [] s e held ∙ ap (λ x. Done (with_bytes x s)) (append-nil s.session.reader)
nothing_by clock s false e (inr (inr none)) =
    cut clock [] s e (ap first_frame (append-nil s.session.reader) ∙ none) ∙ ap (λ x. Done (with_bytes x s)) (append-nil s.session.reader)

-- what turns leave
Leaves : ℕ → Served → Type 0
Leaves clock s = Always AnyCall Waits (turns_handled clock s)

leaves : (clock : ℕ) (s t : Served) → turns_handled clock s ≡ Done t → Waits t → Leaves clock s
unfolding Leaves
leaves clock s t e waits = subst (Always AnyCall Waits) (sym e) waits

leaves_behind : (clock : ℕ) (s : Served) (f : Frame) → is_held s ≡ false → first_frame s.session.reader ≡ Some (Ok f)
    → ((t : Served) → t.session.reader ≡ drop (frame_len f) s.session.reader → Leaves clock t) → Leaves clock s
unfolding Leaves
leaves_behind clock s f w e later =
    let start : Served = with_bytes (drop (frame_len f) s.session.reader) s in
    subst (Always AnyCall Waits) (sym (turns_frame clock s f w e))
    (always_bind AnyReply AnyCall (Stays start) Waits (frame_handled clock f start) (turns_handled clock)
    (frame_stays start clock f start (record { who = refl; reader = refl; closed = refl })) (λ t stays. later t stays.reader))

leaves_so : (clock : ℕ) (s : Served) → Leaves clock s
leaves_so clock = by_turns
    (Leaves clock)
    (λ s w. leaves clock s s (turns_waiting clock s w) (inr (inl w)))
    (λ s w e. leaves clock s s (turns_none clock s w e) (inr (inr e)))
    (λ s fault w e. leaves clock s (ended_at (Some fault) s) (turns_fault clock s fault w e) (inl refl))
    (λ s f w e later. leaves_behind clock s f w e later)

pub turns_leave : (clock : ℕ) (s : Served) → Always AnyCall Waits (turns_handled clock s)
unfolding Leaves
turns_leave clock s = leaves_so clock s

kept_by : (clock : ℕ) (piece : List ℕ) (s : Served) (closed : Bool) → s.session.closed ≡ closed → Always AnyCall Waits (bytes_handled clock piece s)
kept_by clock piece s true e = subst (Always AnyCall Waits) (sym (is_closed clock piece s e)) (inl e)
kept_by clock piece s false e = subst (Always AnyCall Waits) (sym (is_opened clock piece s e)) (turns_leave clock (with_bytes (s.session.reader ++ piece) s))

-- what bytes leave
pub kept : (clock : ℕ) (piece : List ℕ) (s : Served) → Always AnyCall Waits (bytes_handled clock piece s)
kept clock piece s = kept_by clock piece s s.session.closed refl

settled_if : (clock : ℕ) (t s : Served) (mine : Bool) → Waits s → Always AnyCall Waits (if mine then turns_handled clock t else Done s)
settled_if clock t s true waits = turns_leave clock t
settled_if clock t s false waits = waits

settled_by : (clock : ℕ) (r : Resolved) (s : Served) (o : Option Awaited) → Waits s → Always AnyCall Waits (outcome_by clock r s o)
settled_by clock r s None waits = waits
settled_by clock r s (Some a) waits = settled_if clock (outcome_answered a r.how s) s (a.waiter == r.waiter) waits

-- what an outcome leaves
pub settled : (clock : ℕ) (r : Resolved) (s : Served) → Waits s → Always AnyCall Waits (outcome_handled clock r s)
unfolding outcome_handled
settled clock r s waits = settled_by clock r s s.session.awaited waits

-- a new connection
pub nothing : first_frame [] ≡ None
nothing = given_one [] None (inl refl)

-- ---- any pieces

all_by : (clock : ℕ) (pieces : List (List ℕ)) (a : List ℕ) (s : Served) → fold (next_of (bytes_handled clock)) (bytes_handled clock a s) pieces ≡ bytes_handled clock (a ++ concat pieces) s
all_by clock [] a s = ap (λ x. bytes_handled clock x s) (sym (append-nil a))
all_by clock (piece ∷ pieces) a s =
    ap (λ p. fold (next_of (bytes_handled clock)) p pieces) (sym (two clock a piece s)) ∙ all_by clock pieces (a ++ piece) s
    ∙ ap (λ x. bytes_handled clock x s) (append_assoc a piece (concat pieces))

pub all : (clock : ℕ) (pieces : List (List ℕ)) (s : Served) → Waits s → each (bytes_handled clock) pieces s ≡ bytes_handled clock (concat pieces) s
all clock pieces s waits =
    ap (λ p. fold (next_of (bytes_handled clock)) p pieces) (sym (nothing_by clock s s.session.closed refl waits)) ∙ all_by clock pieces [] s
