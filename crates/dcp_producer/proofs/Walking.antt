-- along the turns of a pull, with the calls that were made
use Rattle.std.proofs.Common.{◌≡◌, ◌<◌, ◌≤◌, ℕ, zero, suc, Bool, true, false, List, [], ◌∷◌, ◌++◌, length, refl, sym, ap, ◌∙◌, subst, ◌⊎◌, inl, inr, append-nil, append_assoc, arith, Option, Some, None}
use Rattle.std.specs.Prelude.{if◌then◌else◌}
use Rattle.vb_calls.specs.Jobs.{Ended, bind_job, go_on_job, repeated_job}
use Rattle.vb_calls.specs.Programs.{Prog, Done, Call, Turn, More, Stop, Made, Told, AnyCall, Always}
use Rattle.vb_told.specs.Told.{ToldJob}
use Rattle.vb_told.proofs.Walks.{told_bind_job, told_then}
use Rattle.flow_control.specs.Windows.{is_open}
use Rattle.dcp_producer.specs.declared.halt.Halt.{Halt}
use Rattle.dcp_producer.specs.declared.halt.Halt.TheVariants as halt
use Rattle.dcp_producer.specs.Producers.{PlainStream, Served}
use Rattle.dcp_producer.specs.Frames.{Next, next_frame}
use Rattle.dcp_producer.specs.Pulling.{none_quiet, is_quiet, quiet_halt, Halting, Pulling, pull_of, past_turn, stream_in_turn, came, stream_asked, turn_had, one_turn, turns_came, one_frame, pulled, frames_put}

-- what is so whatever is told, is so whatever the replies
pub always_told : {A : Type 0} (answers : A → Type 0) (prog : Prog A) → ((made : List Made) (a : A) → Told prog made a → answers a) → Always AnyCall answers prog
always_told answers (Done a) all = all [] a refl
always_told answers (Call v call next) all = (tt, λ reply any. always_told answers (next reply) (λ made a told. all ((v, call, reply) ∷ made) a (refl, refl, told)))

-- how the walk ends: all frames were put, or the window was shut, or a turn ended the pull, or each stream had a turn and none put a frame
pub data Ends (R : ℕ → List Made → Pulling → Type 0) (T : ℕ → Pulling → ℕ → List Made → Pulling → Type 0) (D : ℕ → List Made → Pulling → Halt → Type 0) (k : ℕ) (made : List Made) (left : Served) (halted : Halt) : Type 0 where
  ends_all : (p : Pulling) → R k made p → p.served ≡ left → halted ≡ halt.All → Ends R T D k made left halted
  ends_full : (n : ℕ) (p : Pulling) → n < k → R n made p → is_open p.served.end.window ≡ false → p.served ≡ left → halted ≡ halt.Full → Ends R T D k made left halted
  ends_there : (n : ℕ) (p : Pulling) → n < k → D n made p halted → p.served ≡ left → Ends R T D k made left halted
  ends_quiet : (n : ℕ) (p0 p : Pulling) → n < k → is_open p0.served.end.window ≡ true → T n p0 (length p0.served.end.streams) made p → p.served ≡ left → halted ≡ quiet_halt p.quiet → Ends R T D k made left halted

-- a stream has no turn for a frame: there is none, or it was quiet before
abbrev pub IsPassed : Pulling → Type 0
IsPassed p = (stream_in_turn p.served.end ≡ None) ⊎ ((stream : PlainStream) × (stream_in_turn p.served.end ≡ Some stream) × (is_quiet stream.id p.quiet ≡ true))

-- what holds behind n frames, behind i turns for the next one, and behind a turn that ended the pull
module _ (R : ℕ → List Made → Pulling → Type 0) (T : ℕ → Pulling → ℕ → List Made → Pulling → Type 0) (D : ℕ → List Made → Pulling → Halt → Type 0) where
  abbrev pub CameSo : ℕ → Pulling → ℕ → List Made → Turn Pulling Halting → Type 0
  CameSo n p0 i made (More p) = T n p0 (suc i) made p
  CameSo n p0 i made (Stop (p, None)) = R (suc n) made p
  CameSo n p0 i made (Stop (p, Some halted)) = D n made p halted

  module _ (begins : (n : ℕ) (made : List Made) (p : Pulling) → is_open p.served.end.window ≡ true → R n made p → T n p 0 made p)
      (passes : (n : ℕ) (p0 : Pulling) (i : ℕ) (made : List Made) (p : Pulling) → T n p0 i made p → IsPassed p → T n p0 (suc i) made (pull_of (past_turn p.served) p.quiet))
      (asks : (n : ℕ) (p0 : Pulling) (i : ℕ) (made more : List Made) (p : Pulling) (stream : PlainStream) (next : Next) → suc i ≤ length p0.served.end.streams → T n p0 i made p → stream_in_turn p.served.end ≡ Some stream → is_quiet stream.id p.quiet ≡ false
      → ToldJob (next_frame p.served.end.desk.stream stream) more next → CameSo n p0 i (made ++ more) (came (past_turn p.served) p.quiet next)) where
    abbrev TurnsSo : ℕ → Pulling → ℕ → List Made → Turn Pulling Halting → Type 0
    TurnsSo n p0 i made (More p) = T n p0 i made p
    TurnsSo n p0 i made (Stop (p, None)) = R (suc n) made p
    TurnsSo n p0 i made (Stop (p, Some halted)) = D n made p halted

    came_turns : (n : ℕ) (p0 : Pulling) (i : ℕ) (made : List Made) (turn : Turn Pulling Halting) → CameSo n p0 i made turn → TurnsSo n p0 (suc i) made turn
    came_turns n p0 i made (More p) so = so
    came_turns n p0 i made (Stop (p, None)) so = so
    came_turns n p0 i made (Stop (p, Some halted)) so = so

    asked : (n : ℕ) (p0 : Pulling) (i : ℕ) (made more : List Made) (p : Pulling) (stream : PlainStream) (turn : Turn Pulling Halting) → suc i ≤ length p0.served.end.streams → T n p0 i made p → stream_in_turn p.served.end ≡ Some stream → is_quiet stream.id p.quiet ≡ false
        → ToldJob (stream_asked (past_turn p.served) p.quiet stream) more turn → TurnsSo n p0 (suc i) (made ++ more) turn
    asked n p0 i made more p stream turn low before there awake told =
        let (next, before', comes) = told_then (next_frame p.served.end.desk.stream stream) (λ next. came (past_turn p.served) p.quiet next) more turn told in
        subst (λ t. TurnsSo n p0 (suc i) (made ++ more) t) (sym comes)
        (came_turns n p0 i (made ++ more) (came (past_turn p.served) p.quiet next) (asks n p0 i made more p stream next low before there awake before'))

    had_by : (n : ℕ) (p0 : Pulling) (i : ℕ) (made more : List Made) (p : Pulling) (stream : PlainStream) (turn : Turn Pulling Halting) (b : Bool) → suc i ≤ length p0.served.end.streams → T n p0 i made p → stream_in_turn p.served.end ≡ Some stream → is_quiet stream.id p.quiet ≡ b
        → ToldJob (if b then Ended (More (pull_of (past_turn p.served) p.quiet)) else stream_asked (past_turn p.served) p.quiet stream) more turn → TurnsSo n p0 (suc i) (made ++ more) turn
    had_by n p0 i made [] p stream turn true low before there is told =
        subst (λ t. TurnsSo n p0 (suc i) (made ++ []) t) (sym told)
        (subst (λ ms. T n p0 (suc i) ms (pull_of (past_turn p.served) p.quiet)) (sym (append-nil made)) (passes n p0 i made p before (inr (stream, there, is))))
    had_by n p0 i made (m ∷ more) p stream turn true low before there is told = absurd told
    had_by n p0 i made more p stream turn false low before there is told = asked n p0 i made more p stream turn low before there is told

    had : (n : ℕ) (p0 : Pulling) (i : ℕ) (made more : List Made) (p : Pulling) (turn : Turn Pulling Halting) (o : Option PlainStream) → suc i ≤ length p0.served.end.streams → T n p0 i made p → stream_in_turn p.served.end ≡ o
        → ToldJob (turn_had (past_turn p.served) p.quiet o) more turn → TurnsSo n p0 (suc i) (made ++ more) turn
    had n p0 i made [] p turn None low before none told =
        subst (λ t. TurnsSo n p0 (suc i) (made ++ []) t) (sym told)
        (subst (λ ms. T n p0 (suc i) ms (pull_of (past_turn p.served) p.quiet)) (sym (append-nil made)) (passes n p0 i made p before (inl none)))
    had n p0 i made (m ∷ more) p turn None low before none told = absurd told
    had n p0 i made more p turn (Some stream) low before there told = had_by n p0 i made more p stream turn (is_quiet stream.id p.quiet) low before there refl told

    turned_so : (n : ℕ) (p0 : Pulling) (i : ℕ) (made more : List Made) (p : Pulling) (turn : Turn Pulling Halting) → suc i ≤ length p0.served.end.streams → T n p0 i made p → ToldJob (one_turn p) more turn → TurnsSo n p0 (suc i) (made ++ more) turn
    unfolding one_turn
    turned_so n p0 i made more p turn low before told = had n p0 i made more p turn (stream_in_turn p.served.end) low before refl told

    turn_on : (n : ℕ) (p0 : Pulling) (i : ℕ) (made more : List Made) (t turn : Turn Pulling Halting) → suc i ≤ length p0.served.end.streams → TurnsSo n p0 i made t → ToldJob (go_on_job one_turn t) more turn → TurnsSo n p0 (suc i) (made ++ more) turn
    turn_on n p0 i made more (More p) turn low before told = turned_so n p0 i made more p turn low before told
    turn_on n p0 i made [] (Stop (p, None)) turn low before told = subst (λ t. TurnsSo n p0 (suc i) (made ++ []) t) (sym told) (subst (λ ms. R (suc n) ms p) (sym (append-nil made)) before)
    turn_on n p0 i made [] (Stop (p, Some halted)) turn low before told = subst (λ t. TurnsSo n p0 (suc i) (made ++ []) t) (sym told) (subst (λ ms. D n ms p halted) (sym (append-nil made)) before)
    turn_on n p0 i made (m ∷ more) (Stop (p, o)) turn low before told = absurd told

    turns_so : (n : ℕ) (i : ℕ) (made more : List Made) (p : Pulling) (turn : Turn Pulling Halting) → i ≤ length p.served.end.streams → T n p 0 made p → ToldJob (repeated_job i one_turn p) more turn → TurnsSo n p i (made ++ more) turn
    turns_so n zero made [] p turn low before told = subst (λ t. TurnsSo n p 0 (made ++ []) t) (sym told) (subst (λ ms. T n p 0 ms p) (sym (append-nil made)) before)
    turns_so n zero made (m ∷ more) p turn low before told = absurd told
    turns_so n (suc i) made more p turn low before told =
        let (t, first, rest, e, before', after) = told_bind_job (repeated_job i one_turn p) (go_on_job one_turn) more turn told in
        subst (λ ms. TurnsSo n p (suc i) ms turn) (append_assoc made first rest ∙ ap (λ ms. made ++ ms) (sym e))
        (turn_on n p i (made ++ first) rest t turn low (turns_so n i made first p t (omega (arith, low)) before before') after)

    -- a frame, or why there is none
    abbrev FrameSo : ℕ → List Made → Turn Pulling (Served × Halt) → Type 0
    FrameSo n made (More p) = R (suc n) made p
    FrameSo n made (Stop (left, halted)) =
        ((p : Pulling) × R n made p × (is_open p.served.end.window ≡ false) × (p.served ≡ left) × (halted ≡ halt.Full))
        ⊎ ((p : Pulling) × D n made p halted × (p.served ≡ left))
        ⊎ ((p0 : Pulling) × (p : Pulling) × (is_open p0.served.end.window ≡ true) × T n p0 (length p0.served.end.streams) made p × (p.served ≡ left) × (halted ≡ quiet_halt p.quiet))

    came_frame : (n : ℕ) (made : List Made) (p0 : Pulling) (turn : Turn Pulling Halting) → is_open p0.served.end.window ≡ true → TurnsSo n p0 (length p0.served.end.streams) made turn → FrameSo n made (turns_came turn)
    came_frame n made p0 (More p) free so = inr (inr (p0, p, free, so, refl, refl))
    came_frame n made p0 (Stop (p, None)) free so = so
    came_frame n made p0 (Stop (p, Some halted)) free so = inr (inl (p, so, refl))

    frame_by : (n : ℕ) (made more : List Made) (p : Pulling) (turn : Turn Pulling (Served × Halt)) (b : Bool) → is_open p.served.end.window ≡ b → R n made p
        → ToldJob (if b then bind_job (repeated_job (length p.served.end.streams) one_turn p) (λ turns. Ended (turns_came turns)) else Ended (Stop (p.served, halt.Full))) more turn → FrameSo n (made ++ more) turn
    frame_by n made more p turn true free before told =
        let (t, before', comes) = told_then (repeated_job (length p.served.end.streams) one_turn p) turns_came more turn told in
        subst (FrameSo n (made ++ more)) (sym comes)
        (came_frame n (made ++ more) p t free (turns_so n (length p.served.end.streams) made more p t (omega arith) (begins n made p free before) before'))
    frame_by n made [] p turn false shut before told =
        subst (FrameSo n (made ++ [])) (sym told) (inl (p, subst (λ ms. R n ms p) (sym (append-nil made)) before, shut, refl, refl))
    frame_by n made (m ∷ more) p turn false shut before told = absurd told

    frame_so : (n : ℕ) (made more : List Made) (p : Pulling) (turn : Turn Pulling (Served × Halt)) → R n made p → ToldJob (one_frame p) more turn → FrameSo n (made ++ more) turn
    unfolding one_frame
    frame_so n made more p turn before told = frame_by n made more p turn (is_open p.served.end.window) refl before told

    -- so many frames
    abbrev FramesSo : ℕ → List Made → Turn Pulling (Served × Halt) → Type 0
    FramesSo k made (More p) = R k made p
    FramesSo k made (Stop stopped) = (n : ℕ) × (n < k) × FrameSo n made (Stop stopped)

    frames_more : (k : ℕ) (made : List Made) (turn : Turn Pulling (Served × Halt)) → FrameSo k made turn → FramesSo (suc k) made turn
    frames_more k made (More p) so = so
    frames_more k made (Stop stopped) so = (k, omega arith, so)

    frame_on : (k : ℕ) (made more : List Made) (t turn : Turn Pulling (Served × Halt)) → FramesSo k made t → ToldJob (go_on_job one_frame t) more turn → FramesSo (suc k) (made ++ more) turn
    frame_on k made more (More p) turn before told = frames_more k (made ++ more) turn (frame_so k made more p turn before told)
    frame_on k made [] (Stop stopped) turn (n, below, before) told =
        subst (FramesSo (suc k) (made ++ [])) (sym told) (subst (λ ms. FramesSo (suc k) ms (Stop stopped)) (sym (append-nil made)) (n, omega arith, before))
    frame_on k made (m ∷ more) (Stop stopped) turn before told = absurd told

    frames_so : (k : ℕ) (more : List Made) (p : Pulling) (turn : Turn Pulling (Served × Halt)) → R 0 [] p → ToldJob (repeated_job k one_frame p) more turn → FramesSo k more turn
    frames_so zero [] p turn before told = subst (FramesSo 0 []) (sym told) before
    frames_so zero (m ∷ more) p turn before told = absurd told
    frames_so (suc k) more p turn before told =
        let (t, first, rest, e, before', after) = told_bind_job (repeated_job k one_frame p) (go_on_job one_frame) more turn told in
        subst (λ ms. FramesSo (suc k) ms turn) (sym e) (frame_on k first rest t turn (frames_so k first p t before before') after)

    ended_so : (k : ℕ) (made : List Made) (left : Served) (halted : Halt) → (n : ℕ) → n < k → FrameSo n made (Stop (left, halted)) → Ends R T D k made left halted
    ended_so k made left halted n below (inl (p, so, shut, same, is)) = ends_full n p below so shut same is
    ended_so k made left halted n below (inr (inl (p, so, same))) = ends_there n p below so same
    ended_so k made left halted n below (inr (inr (p0, p, free, so, same, is))) = ends_quiet n p0 p below free so same is

    pulled_so : (k : ℕ) (made more : List Made) (t : Turn Pulling (Served × Halt)) (left : Served) (halted : Halt) → FramesSo k made t → ToldJob (pulled t) more (left, halted) → Ends R T D k (made ++ more) left halted
    pulled_so k made [] (More p) left halted so told =
        subst (λ ms. Ends R T D k ms left halted) (sym (append-nil made)) (ends_all p so (ap (λ r. r.0) (sym told)) (ap (λ r. r.1) told))
    pulled_so k made (m ∷ more) (More p) left halted so told = absurd told
    pulled_so k made [] (Stop stopped) left halted (n, below, so) told =
        subst (λ ms. Ends R T D k ms left halted) (sym (append-nil made)) (ended_so k made left halted n below (subst (λ r. FrameSo n made (Stop r)) (sym told) so))
    pulled_so k made (m ∷ more) (Stop stopped) left halted so told = absurd told

    pub walk : (k : ℕ) (s : Served) (made : List Made) (left : Served) (halted : Halt) → R 0 [] (pull_of s none_quiet) → ToldJob (frames_put k s) made (left, halted) → Ends R T D k made left halted
    unfolding frames_put
    walk k s made left halted start told =
        let (t, first, rest, e, before, after) = told_bind_job (repeated_job k one_frame (pull_of s none_quiet)) pulled made (left, halted) told in
        subst (λ ms. Ends R T D k ms left halted) (sym e) (pulled_so k first rest t left halted (frames_so k first (pull_of s none_quiet) t start before) after)
