-- the frames that a client's session hands up, one a turn
use Rattle.std.proofs.Common.{◌≡◌, ◌<◌, ◌≤◌, ℕ, suc, ◌+◌, Bool, true, false, List, [], ◌++◌, length, drop, arith, refl, sym, ap, subst, Option, Some, None, Ok, Err}
use Rattle.std.proofs.lemmas.List.{append-nil, length-drop}
use Rattle.mcbp_frame.specs.Cutting.{frame_in}
use Rattle.mcbp_frame.specs.Frames.{first_frame, frame_len}
use Rattle.mcbp_frame.specs.declared.frame.Frame.{Frame}
use Rattle.mcbp_frame.specs.declared.frame.FrameFault.{FrameFault}
use Rattle.mcbp_frame.proofs.Pieces.{front_within}
use Rattle.client_session.specs.Serving.{PlainSession, Served, served, with_bytes, is_held, frame_handled, turns_handled, bytes_handled}
use Rattle.client_session.proofs.Conduct.{Stays, frame_stays}
use Rattle.client_session.proofs.Turns.{by_turns, turns_waiting, turns_none, turns_fault, turns_frame, is_opened, is_closed}
use Rattle.dcp_producer.specs.Producers.{Served as Answered, begun}
use Rattle.dcp_producer.specs.Serving.{frame_answered}
use Rattle.vb_calls.specs.declared.calls.VbCall.{VbCall}
use Rattle.vb_calls.specs.declared.calls.VbReply.{VbReply}
use Rattle.vb_calls.specs.Programs.{Prog, Done, Call, bind, Turn, More, Stop, Ran, Began, AnyReply, AnyCall, Always}
use Rattle.vb_calls.proofs.Conduct.{always_bind}
use Rattle.node_core.specs.Clients.{Handling, came_to, delivered, frame_passed, frames_passed, passed_by, passed_on, went_on}
use Rattle.node_core.proofs.Turning.{Ends, Fewer, Lessens, Turned, always_any, onward, turn_first, turned_all, turned_fewer, turned_one, turned_part}

-- ---- a session that goes on with no new byte

-- a frame that is handed up counts one, beside the bytes
pub one_for : Option Frame → ℕ
one_for None = 0
one_for (Some f) = 1

pub left : Served → ℕ
left s = length s.session.reader + one_for s.dcp

-- behind it there are no more bytes, and fewer where a frame is handed up
pub NoMore : Served → Served → Type 0
NoMore old new = left new ≤ length old.session.reader

Shrinks : ℕ → Served → Type 0
Shrinks clock s = s.dcp ≡ None → Always AnyCall (NoMore s) (turns_handled clock s)

stays_left : (s : Served) → s.dcp ≡ None → NoMore s s
unfolding NoMore left one_for
stays_left s none = omega (arith, ap one_for none)

shrinks_held : (clock : ℕ) (s : Served) → is_held s ≡ true → Shrinks clock s
unfolding Shrinks
shrinks_held clock s held none = subst (Always AnyCall (NoMore s)) (sym (turns_waiting clock s held)) (stays_left s none)

shrinks_none : (clock : ℕ) (s : Served) → is_held s ≡ false → first_frame s.session.reader ≡ None → Shrinks clock s
unfolding Shrinks
shrinks_none clock s held first none = subst (Always AnyCall (NoMore s)) (sym (turns_none clock s held first)) (stays_left s none)

shrinks_fault : (clock : ℕ) (s : Served) (fault : FrameFault) → is_held s ≡ false → first_frame s.session.reader ≡ Some (Err fault) → Shrinks clock s
unfolding Shrinks NoMore left one_for
shrinks_fault clock s fault held first none = subst (Always AnyCall (NoMore s)) (sym (turns_fault clock s fault held first)) (omega (arith, ap one_for none))

behind_fewer : (bytes : List ℕ) (f : Frame) → first_frame bytes ≡ Some (Ok f) → length (drop (frame_len f) bytes) < length bytes
behind_fewer bytes f e = omega (arith, length-drop (frame_len f) bytes, front_within bytes f (ap frame_in e))

-- behind a frame that was handled: it was handed up, and no other is served, or the turns go on
shrinks_behind : (clock : ℕ) (s t : Served) → length t.session.reader < length s.session.reader → Shrinks clock t
    → (dcp : Option Frame) → t.dcp ≡ dcp → Always AnyCall (NoMore s) (turns_handled clock t)
unfolding Shrinks NoMore left one_for
shrinks_behind clock s t fewer again (Some f) e =
    subst (Always AnyCall (NoMore s)) (sym (turns_waiting clock t held)) (omega (arith, fewer, ap one_for e))
  where
    held : is_held t ≡ true
    held = simp e
shrinks_behind clock s t fewer again None e = always_less (turns_handled clock t) (again e)
  where
    always_less : (prog : Prog Served) → Always AnyCall (NoMore t) prog → Always AnyCall (NoMore s) prog
    always_less (Done u) always = omega (arith, always, fewer)
    always_less (Call v call next) always = (tt, λ reply any. always_less (next reply) (always.1 reply tt))

-- a frame that was handled leaves the bytes behind it, and what the session has then is held or goes on
shrinks_frame : (clock : ℕ) (s : Served) (f : Frame) → is_held s ≡ false → first_frame s.session.reader ≡ Some (Ok f)
    → ((t : Served) → t.session.reader ≡ drop (frame_len f) s.session.reader → Shrinks clock t) → Shrinks clock s
unfolding Shrinks
shrinks_frame clock s f held first again none =
    let rest : List ℕ = drop (frame_len f) s.session.reader in
    let start : Served = with_bytes rest s in
    subst (Always AnyCall (NoMore s)) (sym (turns_frame clock s f held first))
    (always_bind AnyReply AnyCall (Stays start) (NoMore s) (frame_handled clock f start) (turns_handled clock)
    (frame_stays start clock f start (record { who = refl; reader = refl; closed = refl }))
    (λ t stays. shrinks_behind clock s t (subst (λ r. length r < length s.session.reader) (sym stays.reader) (behind_fewer s.session.reader f first)) (again t stays.reader) t.dcp refl))

turns_shrink : (clock : ℕ) (s : Served) → Shrinks clock s
turns_shrink clock = by_turns (Shrinks clock) (shrinks_held clock) (shrinks_none clock) (shrinks_fault clock) (shrinks_frame clock)

-- so it is with no new byte
gone_on_by : (clock : ℕ) (session : PlainSession) (closed : Bool) → session.closed ≡ closed → Always AnyCall (NoMore (served session [])) (bytes_handled clock [] (served session []))
unfolding Shrinks
gone_on_by clock session true e = subst (Always AnyCall (NoMore (served session []))) (sym (is_closed clock [] (served session []) e)) (stays_left (served session []) refl)
gone_on_by clock session false e =
    subst (Always AnyCall (NoMore (served session []))) (sym (is_opened clock [] (served session []) e))
    (subst (λ bytes. Always AnyCall (NoMore (served session [])) (turns_handled clock (with_bytes bytes (served session [])))) (sym (append-nil session.reader)) (turns_shrink clock (served session []) refl))

pub gone_on : (clock : ℕ) (session : PlainSession) → Always AnyCall (NoMore (served session [])) (bytes_handled clock [] (served session []))
gone_on clock session = gone_on_by clock session session.closed refl

-- ---- the frames that are handed up

-- what is left to do
pub to_do : Handling → ℕ
to_do h = length h.client.session.reader + one_for h.dcp

passed_fewer : (clock : ℕ) (h : Handling) (dcp : Option Frame) → h.dcp ≡ dcp → Always AnyCall (Fewer to_do h) (passed_by clock h dcp)
unfolding Fewer NoMore left to_do one_for
passed_fewer clock h None e = tt
passed_fewer clock h (Some f) e =
    always_bind AnyReply AnyCall (λ (a : Answered). Unit {0}) (Fewer to_do h) (frame_answered f (begun h.client.producer)) (passed_on clock h)
    (always_any (λ (a : Answered). Unit {0}) (frame_answered f (begun h.client.producer)) (λ a. tt))
    (λ a any. always_bind AnyReply AnyCall (NoMore (served h.client.session [])) (Fewer to_do h) (bytes_handled clock [] (served h.client.session []))
    (λ s. Done (More (went_on (h.events ++ delivered h.client.session.who a) a.end s))) (gone_on clock h.client.session) (λ s less. fewer_by a s less))
  where
    fewer_by : (a : Answered) (s : Served) → NoMore (served h.client.session []) s → Fewer to_do h (More (went_on (h.events ++ delivered h.client.session.who a) a.end s))
    fewer_by a s less = omega (arith, less, ap one_for e)

passed_rests : (clock : ℕ) (h : Handling) (dcp : Option Frame) → h.dcp ≡ dcp → to_do h ≡ 0 → passed_by clock h dcp ≡ Done (Stop h)
unfolding to_do one_for
passed_rests clock h None e none = refl
passed_rests clock h (Some f) e none = absurd (omega (arith, none, ap one_for e))

pub lessens : (clock : ℕ) → Lessens (frame_passed clock) to_do
unfolding frame_passed
lessens clock = record { fewer = λ h. passed_fewer clock h h.dcp refl; rests = λ h none. passed_rests clock h h.dcp refl none }

pub ends : Ends came_to
ends = record { more = λ h. refl; stop = λ h. refl }

enough_for : (dcp : Option Frame) (n : ℕ) → n + one_for dcp ≤ suc n
unfolding one_for
enough_for None n = omega arith
enough_for (Some f) n = omega arith

-- one turn for each byte and one more are enough
pub enough : (h : Handling) → to_do h ≤ suc (length h.client.session.reader)
unfolding to_do
enough h = enough_for h.dcp (length h.client.session.reader)

-- one frame, and then all the others
pub first_passed : (clock : ℕ) (h : Handling) → frames_passed clock h ≡ bind (frame_passed clock h) (onward (frames_passed clock))
unfolding frames_passed
first_passed clock h = turn_first (frame_passed clock) to_do came_to (lessens clock) ends (λ g. suc (length g.client.session.reader)) enough h (enough h)

-- ---- in code

module _ {W : Type 0} (step : W → ℕ → VbCall → Option VbReply → W → Type 0) (clock : ℕ) (a : Handling) (old : W) where
  -- so many frames were passed on, and the connection is here
  abbrev pub Passed : Handling → W → Type 0
  Passed h mid = Turned step (frame_passed clock) to_do came_to (lessens clock) ends a old h mid

  -- a frame that was handed up is passed on, whatever is left in its place
  pub passes : (h : Handling) (f : Frame) (dcp : Option Frame) (mid : W) (t : Turn Handling Handling) (new : W) → h.dcp ≡ Some f
      → Ran step (passed_by clock (record h { dcp = dcp }) (Some f)) mid t new → Ran step (frame_passed clock h) mid t new
  unfolding frame_passed
  passes h f dcp mid t new e ran = subst (λ d. Ran step (passed_by clock h d) mid t new) (sym e) ran

  pub passed_less : (h : Handling) (f : Frame) (dcp : Option Frame) (mid : W) (u : Handling) (new : W) → h.dcp ≡ Some f
      → Ran step (passed_by clock (record h { dcp = dcp }) (Some f)) mid (More u) new → to_do u < to_do h
  passed_less h f dcp mid u new e ran =
      turned_fewer step (frame_passed clock) to_do came_to (lessens clock) ends a old h u mid new (passes h f dcp mid (More u) new e ran)

  pub passed_one : (h : Handling) (f : Frame) (dcp : Option Frame) (mid : W) (u : Handling) (new : W) → h.dcp ≡ Some f → Passed h mid
      → Ran step (passed_by clock (record h { dcp = dcp }) (Some f)) mid (More u) new → Passed u new
  passed_one h f dcp mid u new e so ran =
      turned_one step (frame_passed clock) to_do came_to (lessens clock) ends a old h u mid new so (passes h f dcp mid (More u) new e ran)

  pub passed_all : (h : Handling) (mid : W) → h.dcp ≡ None → Passed h mid → Ran step (frames_passed clock a) old h mid
  unfolding frames_passed frame_passed
  passed_all h mid e so =
      turned_all step (frame_passed clock) to_do came_to (lessens clock) ends a old (suc (length a.client.session.reader)) h h mid mid (enough a) so
      (subst (λ d. Ran step (passed_by clock h d) mid (Stop h) mid) (sym e) (refl, refl))

  pub passed_part : (h : Handling) (f : Frame) (dcp : Option Frame) (mid new : W) → h.dcp ≡ Some f → Passed h mid
      → Began step (passed_by clock (record h { dcp = dcp }) (Some f)) mid new → Began step (frames_passed clock a) old new
  unfolding frames_passed frame_passed to_do one_for
  passed_part h f dcp mid new e so begun =
      turned_part step (frame_passed clock) to_do came_to (lessens clock) ends a old (suc (length a.client.session.reader)) h mid new (enough a) (omega (arith, ap one_for e)) so
      (subst (λ d. Began step (passed_by clock h d) mid new) (sym e) begun)
