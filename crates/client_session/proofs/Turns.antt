-- the frames of the kept bytes, one a turn
use Rattle.std.proofs.Common.{◌≡◌, ◌<◌, ◌≤◌, ℕ, zero, suc, ◌+◌, Bool, true, false, List, ◌++◌, length, drop, arith, refl, sym, ap, ◌∙◌, subst, Option, Some, None, Result, Ok, Err}
use Rattle.std.specs.Prelude.{OnErr, ◌||◌, if◌then◌else◌, is_some}
use Rattle.std.proofs.lemmas.List.{length-drop}
use Rattle.mcbp_frame.specs.Cutting.{frame_in}
use Rattle.mcbp_frame.specs.Frames.{first_frame, frame_len}
use Rattle.mcbp_frame.specs.declared.frame.Frame.{Frame}
use Rattle.mcbp_frame.specs.declared.frame.FrameFault.{FrameFault}
use Rattle.mcbp_frame.proofs.Pieces.{front_within}
use Rattle.vb_calls.specs.declared.calls.VbCall.{VbCall}
use Rattle.vb_calls.specs.declared.calls.VbReply.{VbReply}
use Rattle.vb_calls.specs.Programs.{Prog, Done, Call, bind, Turn, More, Stop, go_on, repeated, Ran, Began, AnyReply, AnyCall, Always}
use Rattle.vb_calls.proofs.Binds.{bind_done, bind_assoc, bind_same}
use Rattle.vb_calls.proofs.Conduct.{always_bind, always_so}
use Rattle.vb_calls.proofs.Runs.{began_bind, began_none, repeated_next, repeated_began, repeated_ended}
use Rattle.client_session.specs.Serving.{Served, frame_handled, ended_at, bytes_handled, with_bytes, is_waiting, is_held, turn_by, turn_handled, come_to, turns_handled}
use Rattle.client_session.proofs.Conduct.{Stays, frame_stays}

-- ---- turns, the first one first

always_any : {A : Type 0} (answers : A → Type 0) (prog : Prog A) → ((a : A) → answers a) → Always AnyCall answers prog
always_any answers (Done a) so = so a
always_any answers (Call v call next) so = (tt, λ reply any. always_any answers (next reply) so)

-- one turn, and then the others
first_turn : {A R : Type 0} (f : A → Prog (Turn A R)) (n : ℕ) (a : A) → repeated (suc n) f a ≡ bind (f a) (go_on (repeated n f))
first_turn {A = A} {R = R} f zero a =
    let k : Turn A R → Prog (Turn A R) = λ t. Done t in
    let so : (t : Turn A R) → k t ≡ go_on (repeated zero f) t = λ t. by t in
    sym (bind_done (f a)) ∙ bind_same (f a) k (go_on (repeated zero f)) (always_any (λ t. k t ≡ go_on (repeated zero f) t) (f a) so)
  where
    by : (t : Turn A R) → Done t ≡ go_on (repeated zero f) t
    by (More b) = refl
    by (Stop r) = refl
first_turn {A = A} {R = R} f (suc n) a =
    let k : Turn A R → Prog (Turn A R) = λ t. bind (go_on (repeated n f) t) (go_on f) in
    ap (λ p. bind p (go_on f)) (first_turn f n a) ∙ bind_assoc (f a) (go_on (repeated n f)) (go_on f)
    ∙ bind_same (f a) k (go_on (repeated (suc n) f)) (always_any (λ t. k t ≡ go_on (repeated (suc n) f) t) (f a) by)
  where
    by : (t : Turn A R) → bind (go_on (repeated n f) t) (go_on f) ≡ go_on (repeated (suc n) f) t
    by (More b) = refl
    by (Stop r) = refl

-- ---- the bytes behind a frame are fewer

pub behind_fewer : (bytes : List ℕ) (f : Frame) → first_frame bytes ≡ Some (Ok f) → length (drop (frame_len f) bytes) < length bytes
behind_fewer bytes f e = omega (arith, length-drop (frame_len f) bytes, front_within bytes f (ap frame_in e))

-- a turn that goes on leaves fewer bytes
Fewer : Served → Turn Served Served → Type 0
Fewer s (More t) = length t.session.reader < length s.session.reader
Fewer s (Stop t) = Unit {0}

turn_fewer_by : (clock : ℕ) (s : Served) (first : Option (Result Frame FrameFault)) → first_frame s.session.reader ≡ first → Always AnyCall (Fewer s) (turn_by clock s first)
unfolding Fewer
turn_fewer_by clock s None e = tt
turn_fewer_by clock s (Some (Err fault)) e = tt
turn_fewer_by clock s (Some (Ok f)) e =
    let rest : List ℕ = drop (frame_len f) s.session.reader in
    always_bind AnyReply AnyCall (Stays (with_bytes rest s)) (Fewer s) (frame_handled clock f (with_bytes rest s)) (λ t. Done (More t)) (frame_stays (with_bytes rest s) clock f (with_bytes rest s) (record { who = refl; reader = refl; closed = refl }))
    (λ t stays. subst (λ r. length r < length s.session.reader) (sym stays.reader) (behind_fewer s.session.reader f e))

-- what holds of every answer of a program holds of the one that it came to
pub ran_always : {W A : Type 0} (step : W → ℕ → VbCall → Option VbReply → W → Type 0) (answers : A → Type 0) (prog : Prog A) (old : W) (a : A) (new : W)
    → Always AnyCall answers prog → Ran step prog old a new → answers a
ran_always step answers (Done x) old a new always ran = subst answers (sym ran.0) always
ran_always step answers (Call v call next) old a new always ran = ran_always step answers (next ran.0) ran.1 a new (always.1 ran.0 tt) ran.3

turn_fewer_if : (clock : ℕ) (s : Served) (held : Bool) → Always AnyCall (Fewer s) (if held then Done (Stop s) else turn_by clock s (first_frame s.session.reader))
unfolding Fewer
turn_fewer_if clock s true = tt
turn_fewer_if clock s false = turn_fewer_by clock s (first_frame s.session.reader) refl

turn_leaves : (clock : ℕ) (s : Served) → Always AnyCall (Fewer s) (turn_handled clock s)
unfolding turn_handled
turn_leaves clock s = turn_fewer_if clock s (is_held s)

pub turn_fewer : {W : Type 0} (step : W → ℕ → VbCall → Option VbReply → W → Type 0) (clock : ℕ) (s : Served) (old : W) (t : Served) (new : W)
    → Ran step (turn_handled clock s) old (More t) new → length t.session.reader < length s.session.reader
unfolding Fewer
turn_fewer step clock s old t new ran = ran_always step (Fewer s) (turn_handled clock s) old (More t) new (turn_leaves clock s) ran

-- ---- one turn, and then all the others

-- what a turn came to, and the turns behind it
onward : (Served → Prog Served) → Turn Served Served → Prog Served
onward later (More t) = later t
onward later (Stop t) = Done t

-- turns go on in the same way behind one turn, where they do so with fewer bytes
same_behind : (clock n m : ℕ) (s : Served) (t : Turn Served Served)
    → ((u : Served) → length u.session.reader < length s.session.reader → bind (repeated n (turn_handled clock) u) come_to ≡ bind (repeated m (turn_handled clock) u) come_to)
    → Fewer s t → bind (go_on (repeated n (turn_handled clock)) t) come_to ≡ bind (go_on (repeated m (turn_handled clock)) t) come_to
unfolding Fewer
same_behind clock n m s (More u) again fewer = again u fewer
same_behind clock n m s (Stop u) again fewer = refl

-- any number of turns above that of the bytes is as many as are needed
same_turns : (clock n m : ℕ) (s : Served) → length s.session.reader < n → length s.session.reader < m
    → bind (repeated n (turn_handled clock) s) come_to ≡ bind (repeated m (turn_handled clock) s) come_to
unfolding Fewer
same_turns clock zero m s below above = absurd (omega (arith, below))
same_turns clock (suc n) zero s below above = absurd (omega (arith, above))
same_turns clock (suc n) (suc m) s below above =
    let turn : Served → Prog (Turn Served Served) = turn_handled clock in
    ap (λ p. bind p come_to) (first_turn turn n s) ∙ bind_assoc (turn s) (go_on (repeated n turn)) come_to
    ∙ bind_same (turn s) (λ t. bind (go_on (repeated n turn) t) come_to) (λ t. bind (go_on (repeated m turn) t) come_to)
    (always_so AnyReply AnyCall (Fewer s) (λ t. bind (go_on (repeated n turn) t) come_to ≡ bind (go_on (repeated m turn) t) come_to) (turn s)
    (λ t fewer. same_behind clock n m s t (λ u less. same_turns clock n m u (omega (arith, less, below)) (omega (arith, less, above))) fewer) (turn_leaves clock s))
    ∙ sym (ap (λ p. bind p come_to) (first_turn turn m s) ∙ bind_assoc (turn s) (go_on (repeated m turn)) come_to)

first_of_turns : (clock : ℕ) (s : Served) → turns_handled clock s ≡ bind (turn_handled clock s) (onward (turns_handled clock))
unfolding turns_handled Fewer onward
first_of_turns clock s =
    let turn : Served → Prog (Turn Served Served) = turn_handled clock in
    let n : ℕ = length s.session.reader in
    ap (λ p. bind p come_to) (first_turn turn n s) ∙ bind_assoc (turn s) (go_on (repeated n turn)) come_to
    ∙ bind_same (turn s) (λ t. bind (go_on (repeated n turn) t) come_to) (onward (turns_handled clock))
    (always_so AnyReply AnyCall (Fewer s) (λ t. bind (go_on (repeated n turn) t) come_to ≡ onward (turns_handled clock) t) (turn s) by (turn_leaves clock s))
  where
    by : (t : Turn Served Served) → Fewer s t → bind (go_on (repeated (length s.session.reader) (turn_handled clock)) t) come_to ≡ onward (turns_handled clock) t
    by (More u) fewer = same_turns clock (length s.session.reader) (suc (length u.session.reader)) u fewer (omega arith)
    by (Stop u) fewer = refl

-- ---- what holds a connection

-- an outcome that is awaited
pub waiting_holds : (s : Served) → is_waiting s.session ≡ true → is_held s ≡ true
waiting_holds s w = by s.dcp
  where
    by : (d : Option Frame) → (is_some d || is_waiting s.session) ≡ true
    by None = w
    by (Some f) = refl

-- a frame that was handed up
pub handed_holds : (s : Served) (f : Frame) → s.dcp ≡ Some f → is_held s ≡ true
handed_holds s f e = ap (λ d. is_some d || is_waiting s.session) e

-- and nothing else
pub not_held : (s : Served) → s.session.awaited ≡ None → s.dcp ≡ None → is_held s ≡ false
not_held s a d = λ i. is_some (d i) || is_some (a i)

-- ---- what turns do, by what the kept bytes begin with

turns_if : (clock : ℕ) (s : Served) (held : Bool) → is_held s ≡ held
    → turns_handled clock s ≡ bind (if held then Done (Stop s) else turn_by clock s (first_frame s.session.reader)) (onward (turns_handled clock))
unfolding turn_handled
turns_if clock s held e =
    first_of_turns clock s ∙ ap (λ b. bind (if b then Done (Stop s) else turn_by clock s (first_frame s.session.reader)) (onward (turns_handled clock))) e

turns_by_first : (clock : ℕ) (s : Served) (first : Option (Result Frame FrameFault)) → is_held s ≡ false → first_frame s.session.reader ≡ first
    → turns_handled clock s ≡ bind (turn_by clock s first) (onward (turns_handled clock))
turns_by_first clock s first e f = turns_if clock s false e ∙ ap (λ x. bind (turn_by clock s x) (onward (turns_handled clock))) f

-- while the connection is held no turn does anything
pub turns_waiting : (clock : ℕ) (s : Served) → is_held s ≡ true → turns_handled clock s ≡ Done s
unfolding onward
turns_waiting clock s e = turns_if clock s true e

-- nor with less than a frame
pub turns_none : (clock : ℕ) (s : Served) → is_held s ≡ false → first_frame s.session.reader ≡ None → turns_handled clock s ≡ Done s
unfolding onward
turns_none clock s e f = turns_by_first clock s None e f

pub turns_fault : (clock : ℕ) (s : Served) (fault : FrameFault) → is_held s ≡ false → first_frame s.session.reader ≡ Some (Err fault)
    → turns_handled clock s ≡ Done (ended_at (Some fault) s)
unfolding onward
turns_fault clock s fault e f = turns_by_first clock s (Some (Err fault)) e f

pub turns_frame : (clock : ℕ) (s : Served) (f : Frame) → is_held s ≡ false → first_frame s.session.reader ≡ Some (Ok f)
    → turns_handled clock s ≡ bind (frame_handled clock f (with_bytes (drop (frame_len f) s.session.reader) s)) (turns_handled clock)
unfolding onward
turns_frame clock s f e first =
    turns_by_first clock s (Some (Ok f)) e first
    ∙ bind_assoc (frame_handled clock f (with_bytes (drop (frame_len f) s.session.reader) s)) (λ t. Done (More t)) (onward (turns_handled clock))

-- what holds of a connection that is held, or has less than a frame, or a fault, and of one that has a frame if it holds behind it
pub by_turns : (P : Served → Type 0)
    → ((s : Served) → is_held s ≡ true → P s)
    → ((s : Served) → is_held s ≡ false → first_frame s.session.reader ≡ None → P s)
    → ((s : Served) (fault : FrameFault) → is_held s ≡ false → first_frame s.session.reader ≡ Some (Err fault) → P s)
    → ((s : Served) (f : Frame) → is_held s ≡ false → first_frame s.session.reader ≡ Some (Ok f) → ((t : Served) → t.session.reader ≡ drop (frame_len f) s.session.reader → P t) → P s)
    → (s : Served) → P s
by_turns P held none faulty framed s = so (suc (length s.session.reader)) s (is_held s) (first_frame s.session.reader) (omega arith) refl refl
  where
    so : (n : ℕ) (t : Served) (w : Bool) (first : Option (Result Frame FrameFault)) → length t.session.reader < n → is_held t ≡ w → first_frame t.session.reader ≡ first → P t
    so zero t w first below e f = absurd (omega (arith, below))
    so (suc n) t true first below e f = held t e
    so (suc n) t false None below e f = none t e f
    so (suc n) t false (Some (Err fault)) below e f = faulty t fault e f
    so (suc n) t false (Some (Ok g)) below e f =
        framed t g e f
        (λ u r. so n u (is_held u) (first_frame u.session.reader) (omega (arith, ap length r, behind_fewer t.session.reader g f, below)) refl refl)

-- ---- bytes

pub is_opened : (clock : ℕ) (piece : List ℕ) (s : Served) → s.session.closed ≡ false → bytes_handled clock piece s ≡ turns_handled clock (with_bytes (s.session.reader ++ piece) s)
unfolding bytes_handled
is_opened clock piece s e = ap (λ b. if b then Done s else turns_handled clock (with_bytes (s.session.reader ++ piece) s)) e

pub is_closed : (clock : ℕ) (piece : List ℕ) (s : Served) → s.session.closed ≡ true → bytes_handled clock piece s ≡ Done s
unfolding bytes_handled
is_closed clock piece s e = ap (λ b. if b then Done s else turns_handled clock (with_bytes (s.session.reader ++ piece) s)) e

-- ---- in code

-- what holds anyway holds after an error
pub on_err : {A E : Type 0} (P : Type 0) (r : Result A E) → P → OnErr r P
on_err P (Ok a) p = tt
on_err P (Err e) p = p

module _ {W : Type 0} (step : W → ℕ → VbCall → Option VbReply → W → Type 0) (clock : ℕ) (s : Served) (old : W) where
  -- so many turns came here
  pub record Turned (t : Served) (mid : W) : Type 0 where
    pub turns : ℕ
    pub fewer : turns + length t.session.reader ≤ length s.session.reader
    pub ran : Ran step (repeated turns (turn_handled clock) s) old (More t) mid

  pub turned_one : (t u : Served) (mid new : W) → Turned t mid → Ran step (turn_handled clock t) mid (More u) new → Turned u new
  turned_one t u mid new so turn = record {
    turns = so.turns + 1;
    fewer = omega (arith, so.fewer, turn_fewer step clock t mid u new turn);
    ran = repeated_next step (turn_handled clock) so.turns s old t mid (More u) new so.ran turn;
  }

  pub turned_all : (t u : Served) (mid new : W) → Turned t mid → Ran step (turn_handled clock t) mid (Stop u) new → Ran step (turns_handled clock s) old u new
  unfolding turns_handled
  turned_all t u mid new so turn =
      repeated_ended step (turn_handled clock) come_to (suc (length s.session.reader)) so.turns s old t mid u new u new (omega (arith, so.fewer)) so.ran turn (refl, refl)

  pub turned_part : (t : Served) (mid new : W) → Turned t mid → Began step (turn_handled clock t) mid new → Began step (turns_handled clock s) old new
  unfolding turns_handled
  turned_part t mid new so turn =
      let n : ℕ = suc (length s.session.reader) in
      began_bind step (repeated n (turn_handled clock) s) come_to old new (repeated_began step (turn_handled clock) n so.turns s old t mid new (omega (arith, so.fewer)) so.ran turn)

module _ {W : Type 0} (step : W → ℕ → VbCall → Option VbReply → W → Type 0) (clock : ℕ) (piece : List ℕ) (s : Served) (old : W) where
  -- a closed connection takes nothing
  pub taken_none : s.session.closed ≡ true → Ran step (bytes_handled clock piece s) old s old
  taken_none e = subst (λ p. Ran step p old s old) (sym (is_closed clock piece s e)) (refl, refl)

  pub taken_all : (end : Served) (new : W) → s.session.closed ≡ false → Ran step (turns_handled clock (with_bytes (s.session.reader ++ piece) s)) old end new → Ran step (bytes_handled clock piece s) old end new
  taken_all end new e ran = subst (λ p. Ran step p old end new) (sym (is_opened clock piece s e)) ran

  pub taken_part : (new : W) → s.session.closed ≡ false → Began step (turns_handled clock (with_bytes (s.session.reader ++ piece) s)) old new → Began step (bytes_handled clock piece s) old new
  taken_part new e begun = subst (λ p. Began step p old new) (sym (is_opened clock piece s e)) begun

pub ruleset taken = (taken_none, taken_all, taken_part, began_none)
