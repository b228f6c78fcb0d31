-- what a pull puts, and why it puts no more
use Rattle.std.proofs.Common.{append-nil, ◌≡◌, ◌↔◌, ◌⊎◌, ◌+◌, ◌<◌, ◌≤◌, ℕ, zero, suc, Bool, true, false, List, [], ◌∷◌, ◌++◌, length, map, refl, sym, ap, ◌∙◌, subst, inl, inr, arith}
use Rattle.std.specs.Prelude.{take, drop, ◌||◌}
use Rattle.std.specs.List.{concat}
use Rattle.std.proofs.lemmas.Bool.{false≢true}
use Rattle.std.proofs.lemmas.Bool.Decides.{nat_tests}
use Rattle.std.proofs.lemmas.List.{length-append}
use Rattle.mcbp_frame.specs.declared.frame.Frame.{Frame}
use Rattle.mcbp_frame.specs.Spelling.{spelling}
use Rattle.vb_events.specs.declared.event.Event.{Event}
use Rattle.vb_events.specs.declared.event.Why.TheVariants as why
use Rattle.vb_calls.specs.Jobs.{AlwaysJob, Ended, IsRead, bind_job, go_on_job, repeated_job}
use Rattle.vb_calls.specs.Programs.{Made, Stop, AnyCall, AnyReply}
use Rattle.vb_told.specs.Told.{ToldJob}
use Rattle.vb_told.proofs.Walks.{always_told_job}
use Rattle.flow_control.specs.declared.window.Window.{Window}
use Rattle.flow_control.specs.Windows.{is_open}
use Rattle.dcp_producer.specs.declared.halt.Halt.{Halt}
use Rattle.dcp_producer.specs.declared.halt.Halt.TheVariants as halt
use Rattle.dcp_producer.specs.declared.next_frame.NextFrame.{NextFrame}
use Rattle.dcp_producer.specs.declared.next_frame.NextFrame.TheVariants as next
use Rattle.dcp_producer.specs.declared.next_frame.Waits.{Waits}
use Rattle.dcp_producer.specs.declared.next_frame.Waits.TheVariants as wait
use Rattle.dcp_producer.specs.Producers.{PlainStream, Served}
use Rattle.dcp_producer.specs.Pulling.{first_wait, halt_of, none_quiet, quiet_halt, Pulling, pull_of, one_frame, pulled, frames_put, why_of}
use Rattle.dcp_producer.specs.Holding.{IsShut, HoldsBack, PullHoldsBack}
use Rattle.dcp_producer.specs.Having.{IsSound}
use Rattle.dcp_producer.specs.Turns.{turns_of, Tried, put_in, TurnsOn}
use Rattle.dcp_producer.specs.Pulls.{AsksLittle, OneStops, OneWaits, PullsInTurn, TurnsTaken}
use Rattle.dcp_producer.specs.Orders.{Stops, most_calls, total}
use Rattle.dcp_producer.specs.Pairs.{AnyChange, IsOneOf, PullsPairs}
use Rattle.dcp_producer.specs.Takeovers.{WaitsInOrder}
use Rattle.dcp_producer.proofs.Orders.{are_between, are_out, ask_little, turns_differ}
use Rattle.dcp_producer.proofs.OneStream.{shut_frame_of}
use Rattle.dcp_producer.proofs.Pairs.{any_pairs}
use Rattle.dcp_producer.proofs.Awake.{says_wait, stops_at, stops_in, awake_in, asleep_all, waits_in}
use Rattle.dcp_producer.proofs.Story.{Stopped, StopsSo, Story, Turns, Whole, pulls}
use Rattle.dcp_producer.proofs.Turning.{take_drop}
use Rattle.dcp_producer.proofs.Walking.{Ends, ends_all, ends_full, ends_there, ends_quiet}

not_shut : (w : Window) → is_open w ≡ true → IsShut w → ⊥
not_shut w free (some, full) = grind (arith, nat_tests)

pub shut : (w : Window) → is_open w ≡ false → IsShut w
shut w is = (grind (arith, nat_tests), grind (arith, nat_tests))

pub shut_not_open : (w : Window) → IsShut w → is_open w ≡ false
shut_not_open w (some, full) = grind (arith, nat_tests)

-- one's journal couldn't be read, by the test and in words
stops_by : (t : Tried) (more : List Tried) → (stops_in more ≡ true → OneStops more) → (x : NextFrame) → t.next ≡ x → (stops_at x || stops_in more) ≡ true → OneStops (t ∷ more)
stops_by t more one (next.Put m line) there is = inr (one is)
stops_by t more one (next.End reason) there is = inr (one is)
stops_by t more one (next.Quiet for) there is = inr (one is)
stops_by t more one next.Disk there is = inl there

stops_one : (tries : List Tried) → stops_in tries ≡ true → OneStops tries
stops_one [] is = absurd (cc is)
stops_one (t ∷ more) is = stops_by t more (stops_one more) t.next refl is

one_stops : (tries : List Tried) → OneStops tries → stops_in tries ≡ true
one_stops [] one = absurd one
one_stops (t ∷ more) (inl is) = ap (λ y. stops_at y || stops_in more) is
one_stops (t ∷ more) (inr one) = or_true (stops_at t.next) (stops_in more) (one_stops more one)
  where
    or_true : (a b : Bool) → b ≡ true → (a || b) ≡ true
    or_true true b is = refl
    or_true false b is = is

-- where none could not, that was not the last turn
none_stops : (tries : List Tried) → stops_in tries ≡ false → Stops tries
none_stops tries none front back u parts is = absurd (false≢true (sym none ∙ ap stops_in parts ∙ there front))
  where
    there : (xs : List Tried) → stops_in (xs ++ u ∷ back) ≡ true
    there [] = ap (λ y. stops_at y || stops_in back) is
    there (x ∷ xs) = either (stops_at x.next) (there xs)
      where
        either : (a : Bool) {b : Bool} → b ≡ true → (a || b) ≡ true
        either true is = refl
        either false is = is

-- what the streams that were asked wait for, as a pull says it: the answer to a state where one said so, and else what is to be saved
abbrev WaitsAs : Waits → List Tried → Type 0
WaitsAs wait.State tries = OneWaits wait.State tries
WaitsAs wait.Saved tries = (OneWaits wait.State tries → ⊥) × OneWaits wait.Saved tries
WaitsAs wait.Nothing tries = (OneWaits wait.State tries → ⊥) × (OneWaits wait.Saved tries → ⊥)

either_no : {A B : Type 0} → (A → ⊥) → (B → ⊥) → A ⊎ B → ⊥
either_no never none (inl a) = never a
either_no never none (inr b) = none b

-- one that waits for neither leaves it so
other_waits : (t : Tried) (more : List Tried) → (t.next ≡ next.Quiet wait.State → ⊥) → (t.next ≡ next.Quiet wait.Saved → ⊥) → (w : Waits) → WaitsAs w more → WaitsAs w (t ∷ more)
other_waits t more no_state no_saved wait.State so = inr so
other_waits t more no_state no_saved wait.Saved so = (either_no no_state so.0, inr so.1)
other_waits t more no_state no_saved wait.Nothing so = (either_no no_state so.0, either_no no_saved so.1)

one_waits : (t : Tried) (more : List Tried) (x : NextFrame) → t.next ≡ x → (w : Waits) → WaitsAs w more → WaitsAs (first_wait (says_wait x) w) (t ∷ more)
one_waits t more (next.Put m line) there w so = other_waits t more (λ is. let e : next.Put m line ≡ next.Quiet wait.State = sym there ∙ is in absurd (cc e)) (λ is. let e : next.Put m line ≡ next.Quiet wait.Saved = sym there ∙ is in absurd (cc e)) w so
one_waits t more (next.End reason) there w so = other_waits t more (λ is. let e : next.End reason ≡ next.Quiet wait.State = sym there ∙ is in absurd (cc e)) (λ is. let e : next.End reason ≡ next.Quiet wait.Saved = sym there ∙ is in absurd (cc e)) w so
one_waits t more next.Disk there w so = other_waits t more (λ is. let e : next.Disk ≡ next.Quiet wait.State = sym there ∙ is in absurd (cc e)) (λ is. let e : next.Disk ≡ next.Quiet wait.Saved = sym there ∙ is in absurd (cc e)) w so
one_waits t more (next.Quiet wait.Nothing) there w so = other_waits t more (λ is. let e : next.Quiet wait.Nothing ≡ next.Quiet wait.State = sym there ∙ is in absurd (cc e)) (λ is. let e : next.Quiet wait.Nothing ≡ next.Quiet wait.Saved = sym there ∙ is in absurd (cc e)) w so
one_waits t more (next.Quiet wait.State) there w so = inl there
one_waits t more (next.Quiet wait.Saved) there wait.State so = inr so
one_waits t more (next.Quiet wait.Saved) there wait.Saved so = (either_no (λ is. let e : next.Quiet wait.Saved ≡ next.Quiet wait.State = sym there ∙ is in absurd (cc e)) so.0, inl there)
one_waits t more (next.Quiet wait.Saved) there wait.Nothing so = (either_no (λ is. let e : next.Quiet wait.Saved ≡ next.Quiet wait.State = sym there ∙ is in absurd (cc e)) so.0, inl there)

waits_as : (tries : List Tried) → WaitsAs (waits_in (λ t. says_wait t.next) tries) tries
waits_as [] = (λ one. one, λ one. one)
waits_as (t ∷ more) = one_waits t more t.next refl (waits_in (λ (u : Tried). says_wait u.next) more) (waits_as more)

pub all_turns : (n : ℕ) (xs : List PlainStream) → length (drop n xs ++ take n xs) ≡ length xs
all_turns n xs =
    let one : length (drop n xs ++ take n xs) ≡ length (drop n xs) + length (take n xs) = length-append (drop n xs) (take n xs) in
    let two : length (take n xs ++ drop n xs) ≡ length (take n xs) + length (drop n xs) = length-append (take n xs) (drop n xs) in
    let three : length (take n xs ++ drop n xs) ≡ length xs = ap length (take_drop n xs) in
    omega (arith, one, two, three)

none_left : (todo done : List PlainStream) → length (todo ++ done) ≡ length done → todo ≡ []
none_left [] done is = refl
none_left (x ∷ todo) done is = let e : length (x ∷ todo ++ done) ≡ length (x ∷ todo) + length done = length-append (x ∷ todo) done in absurd (omega (arith, e, is))

module _ (s : Served) where
  -- every stream had a turn
  none_awake : (n : ℕ) (p0 : Pulling) (made : List Made) (p : Pulling) → Turns s n p0 (length p0.served.end.streams) made p → awake_in p.quiet (turns_of p.served.end) ≡ []
  none_awake n p0 made p b =
      let order = b.order (omega arith) in
      let at = order.at in
      let all : length (order.todo ++ order.done) ≡ length order.done =
      ap length (sym order.is) ∙ all_turns p.served.end.turn p.served.end.streams ∙ b.same ∙ sym at in
      ap (awake_in p.quiet) (order.is ∙ ap (λ xs. xs ++ order.done) (none_left order.todo order.done all)) ∙ asleep_all p.quiet order.done order.quiet

  -- and the order of turns is the same again
  same_order : (n : ℕ) (p0 : Pulling) (made : List Made) (p : Pulling) → (b : Turns s n p0 (length p0.served.end.streams) made p) → b.base ≡ turns_of p.served.end
  same_order n p0 made p b =
      let order = b.order (omega arith) in
      let at = order.at in
      let all : length (order.todo ++ order.done) ≡ length order.done =
      ap length (sym order.is) ∙ all_turns p.served.end.turn p.served.end.streams ∙ b.same ∙ sym at in
      let none : order.todo ≡ [] = none_left order.todo order.done all in
      order.from ∙ ap (λ xs. order.done ++ xs) none ∙ append-nil order.done ∙ sym (order.is ∙ ap (λ xs. xs ++ order.done) none)

  -- a story, and why it ends
  tells : (k n : ℕ) (made : List Made) (p : Pulling) (halted : Halt) (base : List PlainStream) (stop : Bool) (b : Story s base n stop made p) → base ≡ turns_of p.served.end → n ≤ k → Stops b.tries
      → (halted ≡ halt.All) ↔ (n ≡ k)
      → (halted ≡ halt.Full) ↔ ((n < k) × IsShut p.served.end.window)
      → (halted ≡ halt.Disk) ↔ ((n < k) × (IsShut p.served.end.window → ⊥) × OneStops b.tries)
      → (halted ≡ halt.WaitState) ↔ ((n < k) × (IsShut p.served.end.window → ⊥) × (OneStops b.tries → ⊥) × OneWaits wait.State b.tries)
      → (halted ≡ halt.WaitSaved) ↔ ((n < k) × (IsShut p.served.end.window → ⊥) × (OneStops b.tries → ⊥) × (OneWaits wait.State b.tries → ⊥) × OneWaits wait.Saved b.tries)
      → (halted ≡ halt.Idle) ↔ ((n < k) × (IsShut p.served.end.window → ⊥) × (OneStops b.tries → ⊥) × (OneWaits wait.State b.tries → ⊥) × (OneWaits wait.Saved b.tries → ⊥))
      → ((halted ≡ halt.WaitState) ⊎ (halted ≡ halt.WaitSaved) ⊎ (halted ≡ halt.Idle) → awake_in p.quiet (turns_of p.served.end) ≡ [])
      → PullsInTurn k s made p.served halted
  tells k n made p halted base stop b whole few last all full disk states saves idle quiet =
      let many = sym b.many in
      record {
        tries = b.tries;
        awake = awake_in p.quiet (turns_of p.served.end);
        turns = b.turns;
        order = subst (TurnsOn (turns_of s.end) b.tries) whole b.order;
        stand = b.stand;
        calls = b.calls;
        stops = last;
        few = subst (λ m. m ≤ k) many few;
        out = b.out;
        told = b.told;
        count = b.count ∙ ap (λ m. s.count + m) many;
        resolved = b.resolved;
        rest = λ i. record { desk = b.desk i; handshake = b.shaken i; asked = b.asked i; streams = p.served.end.streams; turn = p.served.end.turn; window = p.served.end.window };
        all = subst (λ m. (halted ≡ halt.All) ↔ (m ≡ k)) many all;
        full = subst (λ m. (halted ≡ halt.Full) ↔ ((m < k) × IsShut p.served.end.window)) many full;
        disk = subst (λ m. (halted ≡ halt.Disk) ↔ ((m < k) × (IsShut p.served.end.window → ⊥) × OneStops b.tries)) many disk;
        states = subst (λ m. (halted ≡ halt.WaitState) ↔ ((m < k) × (IsShut p.served.end.window → ⊥) × (OneStops b.tries → ⊥) × OneWaits wait.State b.tries)) many states;
        saves = subst (λ m. (halted ≡ halt.WaitSaved) ↔ ((m < k) × (IsShut p.served.end.window → ⊥) × (OneStops b.tries → ⊥) × (OneWaits wait.State b.tries → ⊥) × OneWaits wait.Saved b.tries)) many saves;
        idle = subst (λ m. (halted ≡ halt.Idle) ↔ ((m < k) × (IsShut p.served.end.window → ⊥) × (OneStops b.tries → ⊥) × (OneWaits wait.State b.tries → ⊥) × (OneWaits wait.Saved b.tries → ⊥))) many idle;
        quiet = quiet;
      }

  -- where no journal couldn't be read
  none_stopped : {base : List PlainStream} {n : ℕ} {made : List Made} {p : Pulling} (b : Story s base n false made p) → OneStops b.tries → ⊥
  none_stopped b one = false≢true (sym b.stops ∙ one_stops b.tries one)

  in_turn_all : (k : ℕ) (made : List Made) (p : Pulling) → Whole s k made p → PullsInTurn k s made p.served halt.All
  in_turn_all k made p b =
      tells k k made p halt.All (turns_of p.served.end) false b refl (omega arith) (none_stops b.tries b.stops)
      (λ is. refl, λ is. refl)
      (λ is. absurd (cc is), λ why. let low = why.0 in absurd (omega (arith, low)))
      (λ is. absurd (cc is), λ why. let low = why.0 in absurd (omega (arith, low)))
      (λ is. absurd (cc is), λ why. let low = why.0 in absurd (omega (arith, low)))
      (λ is. absurd (cc is), λ why. let low = why.0 in absurd (omega (arith, low)))
      (λ is. absurd (cc is), λ why. let low = why.0 in absurd (omega (arith, low)))
      neither
    where
      neither : (halt.All ≡ halt.WaitState) ⊎ (halt.All ≡ halt.WaitSaved) ⊎ (halt.All ≡ halt.Idle) → awake_in p.quiet (turns_of p.served.end) ≡ []
      neither (inl is) = absurd (cc is)
      neither (inr (inl is)) = absurd (cc is)
      neither (inr (inr is)) = absurd (cc is)

  in_turn_full : (k n : ℕ) (made : List Made) (p : Pulling) → n < k → is_open p.served.end.window ≡ false → Whole s n made p → PullsInTurn k s made p.served halt.Full
  in_turn_full k n made p below closed b =
      tells k n made p halt.Full (turns_of p.served.end) false b refl (omega arith) (none_stops b.tries b.stops)
      (λ is. absurd (cc is), λ is. absurd (omega (arith, below, is)))
      (λ is. (below, shut p.served.end.window closed), λ why. refl)
      (λ is. absurd (cc is), λ why. absurd (why.1 (shut p.served.end.window closed)))
      (λ is. absurd (cc is), λ why. absurd (why.1 (shut p.served.end.window closed)))
      (λ is. absurd (cc is), λ why. absurd (why.1 (shut p.served.end.window closed)))
      (λ is. absurd (cc is), λ why. absurd (why.1 (shut p.served.end.window closed)))
      neither
    where
      neither : (halt.Full ≡ halt.WaitState) ⊎ (halt.Full ≡ halt.WaitSaved) ⊎ (halt.Full ≡ halt.Idle) → awake_in p.quiet (turns_of p.served.end) ≡ []
      neither (inl is) = absurd (cc is)
      neither (inr (inl is)) = absurd (cc is)
      neither (inr (inr is)) = absurd (cc is)

  in_turn_disk : (k n : ℕ) (made : List Made) (p : Pulling) → n < k → Stopped s n made p → PullsInTurn k s made p.served halt.Disk
  in_turn_disk k n made p below b =
      let one : OneStops b.story.tries = stops_one b.story.tries b.story.stops in
      tells k n made p halt.Disk (turns_of p.served.end) true b.story refl (omega arith) b.last
      (λ is. absurd (cc is), λ is. absurd (omega (arith, below, is)))
      (λ is. absurd (cc is), λ why. absurd (not_shut p.served.end.window b.free why.1))
      (λ is. (below, not_shut p.served.end.window b.free, one), λ why. refl)
      (λ is. absurd (cc is), λ why. absurd (why.2 one))
      (λ is. absurd (cc is), λ why. absurd (why.2 one))
      (λ is. absurd (cc is), λ why. absurd (why.2 one))
      neither
    where
      neither : (halt.Disk ≡ halt.WaitState) ⊎ (halt.Disk ≡ halt.WaitSaved) ⊎ (halt.Disk ≡ halt.Idle) → awake_in p.quiet (turns_of p.served.end) ≡ []
      neither (inl is) = absurd (cc is)
      neither (inr (inl is)) = absurd (cc is)
      neither (inr (inr is)) = absurd (cc is)

  in_turn_quiet : (k n : ℕ) (p0 : Pulling) (made : List Made) (p : Pulling) → n < k → (b : Turns s n p0 (length p0.served.end.streams) made p) → (w : Waits) → WaitsAs w b.story.tries
      → PullsInTurn k s made p.served (halt_of w)
  in_turn_quiet k n p0 made p below b wait.State so =
      tells k n made p halt.WaitState b.base false b.story (same_order n p0 made p b) (omega arith) (none_stops b.story.tries b.story.stops)
      (λ e. absurd (cc e), λ e. absurd (omega (arith, below, e)))
      (λ e. absurd (cc e), λ why. absurd (not_shut p.served.end.window b.free why.1))
      (λ e. absurd (cc e), λ why. absurd (none_stopped b.story why.2))
      (λ e. (below, not_shut p.served.end.window b.free, none_stopped b.story, so), λ why. refl)
      (λ e. absurd (cc e), λ why. absurd (why.3 so))
      (λ e. absurd (cc e), λ why. absurd (why.3 so))
      (λ why. none_awake n p0 made p b)
  in_turn_quiet k n p0 made p below b wait.Saved so =
      tells k n made p halt.WaitSaved b.base false b.story (same_order n p0 made p b) (omega arith) (none_stops b.story.tries b.story.stops)
      (λ e. absurd (cc e), λ e. absurd (omega (arith, below, e)))
      (λ e. absurd (cc e), λ why. absurd (not_shut p.served.end.window b.free why.1))
      (λ e. absurd (cc e), λ why. absurd (none_stopped b.story why.2))
      (λ e. absurd (cc e), λ why. absurd (so.0 why.3))
      (λ e. (below, not_shut p.served.end.window b.free, none_stopped b.story, so.0, so.1), λ why. refl)
      (λ e. absurd (cc e), λ why. absurd (why.4 so.1))
      (λ why. none_awake n p0 made p b)
  in_turn_quiet k n p0 made p below b wait.Nothing so =
      tells k n made p halt.Idle b.base false b.story (same_order n p0 made p b) (omega arith) (none_stops b.story.tries b.story.stops)
      (λ e. absurd (cc e), λ e. absurd (omega (arith, below, e)))
      (λ e. absurd (cc e), λ why. absurd (not_shut p.served.end.window b.free why.1))
      (λ e. absurd (cc e), λ why. absurd (none_stopped b.story why.2))
      (λ e. absurd (cc e), λ why. absurd (so.0 why.3))
      (λ e. absurd (cc e), λ why. absurd (so.1 why.4))
      (λ e. (below, not_shut p.served.end.window b.free, none_stopped b.story, so.0, so.1), λ why. refl)
      (λ why. none_awake n p0 made p b)

  in_turn_by : (k : ℕ) (made : List Made) (left : Served) (halted : Halt) → Ends (Whole s) (Turns s) (StopsSo s) k made left halted → PullsInTurn k s made left halted
  in_turn_by k made left halted (ends_all p b same is) = subst (PullsInTurn k s made left) (sym is) (subst (λ l. PullsInTurn k s made l halt.All) same (in_turn_all k made p b))
  in_turn_by k made left halted (ends_full n p below b closed same is) =
      subst (PullsInTurn k s made left) (sym is) (subst (λ l. PullsInTurn k s made l halt.Full) same (in_turn_full k n made p below closed b))
  in_turn_by k made left halted (ends_there n p below b same) =
      subst (PullsInTurn k s made left) (sym b.0) (subst (λ l. PullsInTurn k s made l halt.Disk) same (in_turn_disk k n made p below b.1))
  in_turn_by k made left halted (ends_quiet n p0 p below free b same is) =
      subst (PullsInTurn k s made left) (sym is) (subst (λ l. PullsInTurn k s made l (quiet_halt p.quiet)) same (in_turn_quiet k n p0 made p below b p.quiet.waits (subst (λ w. WaitsAs w b.story.tries) (sym b.story.waits) (waits_as b.story.tries))))

  pub pulls_in_turn : (k : ℕ) (made : List Made) (left : Served) (halted : Halt) → IsSound s.end → ToldJob (frames_put k s) made (left, halted) → PullsInTurn k s made left halted
  pulls_in_turn k made left halted sound told = in_turn_by k made left halted (pulls s k made left halted sound told)

  pub turns_taken : (k : ℕ) (made : List Made) (left : Served) (halted : Halt) → IsSound s.end → ToldJob (frames_put k s) made (left, halted) → TurnsTaken k s made left halted
  turns_taken k made left halted sound told =
      let pull = pulls_in_turn k made left halted sound told in
      let differ = turns_differ s.end sound.rise in
      record {
        pull = pull;
        between = are_between s.end.desk.stream (turns_of s.end) pull.tries pull.awake differ pull.turns;
        out = are_out s.end.desk.stream (turns_of s.end) pull.tries pull.awake differ pull.stops pull.turns;
      }

  pub asks_little : (k : ℕ) (made : List Made) (left : Served) (halted : Halt) → IsSound s.end → ToldJob (frames_put k s) made (left, halted) → AsksLittle k s made left halted
  asks_little k made left halted sound told =
      let pull = pulls_in_turn k made left halted sound told in
      record {
        pull = pull;
        little = subst (λ ms. length ms ≤ total (map (λ (t : Tried). most_calls t.stream.ended t.next) pull.tries)) (sym pull.calls) (ask_little s.end.desk.stream (turns_of s.end) pull.tries pull.awake pull.turns);
      }

  -- ---- the window

  spelled : (put : List (Frame × Event)) → map spelling (map (λ x. x.0) put) ≡ map (λ x. spelling x.0) put
  spelled [] = refl
  spelled (x ∷ put) = ap (λ bs. spelling x.0 ∷ bs) (spelled put)

  as_long : (put : List (Frame × Event)) → length (map (λ (x : Frame × Event). x.0) put) ≡ length put
  as_long [] = refl
  as_long (x ∷ put) = ap suc (as_long put)

  held : (k n : ℕ) (made : List Made) (p : Pulling) (halted : Halt) {base : List PlainStream} {stop : Bool} (b : Story s base n stop made p) → n ≤ k → (halted ≡ halt.Full) ↔ ((n < k) × IsShut p.served.end.window) → HoldsBack k s p.served halted
  held k n made p halted b few full =
      let put = put_in s.end.desk.stream b.tries in
      let long : length (map (λ (x : Frame × Event). x.0) put) ≡ n = as_long put ∙ b.many in
      record {
        put = map (λ x. x.0) put;
        few = subst (λ m. m ≤ k) (sym long) few;
        out = b.out ∙ ap (λ bs. s.out ++ concat bs) (sym (spelled put));
        count = b.count ∙ ap (λ m. s.count + m) (sym long);
        through = b.through;
        full = subst (λ m. (halted ≡ halt.Full) ↔ ((m < k) × IsShut p.served.end.window)) (sym long) full;
      }

  held_quiet : (k n : ℕ) (p0 : Pulling) (made : List Made) (p : Pulling) → n < k → (b : Turns s n p0 (length p0.served.end.streams) made p) → (w : Waits) → HoldsBack k s p.served (halt_of w)
  held_quiet k n p0 made p below b wait.State = held k n made p halt.WaitState b.story (omega arith) (λ e. absurd (cc e), λ why. absurd (not_shut p.served.end.window b.free why.1))
  held_quiet k n p0 made p below b wait.Saved = held k n made p halt.WaitSaved b.story (omega arith) (λ e. absurd (cc e), λ why. absurd (not_shut p.served.end.window b.free why.1))
  held_quiet k n p0 made p below b wait.Nothing = held k n made p halt.Idle b.story (omega arith) (λ e. absurd (cc e), λ why. absurd (not_shut p.served.end.window b.free why.1))

  held_by : (k : ℕ) (made : List Made) (left : Served) (halted : Halt) → Ends (Whole s) (Turns s) (StopsSo s) k made left halted → HoldsBack k s left halted
  held_by k made left halted (ends_all p b same is) =
      subst (HoldsBack k s left) (sym is) (subst (λ l. HoldsBack k s l halt.All) same (held k k made p halt.All b (omega arith) (λ e. absurd (cc e), λ why. let low = why.0 in absurd (omega (arith, low)))))
  held_by k made left halted (ends_full n p below b closed same is) =
      subst (HoldsBack k s left) (sym is) (subst (λ l. HoldsBack k s l halt.Full) same (held k n made p halt.Full b (omega arith) (λ e. (below, shut p.served.end.window closed), λ why. refl)))
  held_by k made left halted (ends_there n p below b same) =
      subst (HoldsBack k s left) (sym b.0) (subst (λ l. HoldsBack k s l halt.Disk) same (held k n made p halt.Disk b.1.story (omega arith) (λ e. absurd (cc e), λ why. absurd (not_shut p.served.end.window b.1.free why.1))))
  held_by k made left halted (ends_quiet n p0 p below free b same is) =
      subst (HoldsBack k s left) (sym is) (subst (λ l. HoldsBack k s l (quiet_halt p.quiet)) same (held_quiet k n p0 made p below b p.quiet.waits))

  pub pulls_hold_back : (k : ℕ) → IsSound s.end → AlwaysJob AnyReply AnyCall IsRead (PullHoldsBack k s) (frames_put k s)
  pulls_hold_back k sound = always_told_job AnyCall IsRead (PullsPairs (IsOneOf AnyChange s.end.streams) k s) (PullHoldsBack k s) (frames_put k s) (any_pairs k s) (λ made r told. held_by k made r.0 r.1 (pulls s k made r.0 r.1 sound told))

  -- a window that is shut
  turns_shut : (k : ℕ) → is_open s.end.window ≡ false → repeated_job (suc k) one_frame (pull_of s none_quiet) ≡ Ended (Stop (s, halt.Full))
  turns_shut zero is = shut_frame_of s none_quiet is
  turns_shut (suc k) is = ap (λ p. bind_job p (go_on_job one_frame)) (turns_shut k is)

  pub pulls_shut : (k : ℕ) → 0 < k → IsShut s.end.window → frames_put k s ≡ Ended (s, halt.Full)
  unfolding frames_put
  pulls_shut zero some is = absurd (omega (arith, some))
  pulls_shut (suc k) some is = ap (λ p. bind_job p pulled) (turns_shut k (shut_not_open s.end.window is))

-- ---- the lines

pub full_line : (h : Halt) → (why_of h ≡ why.Full) ↔ (h ≡ halt.Full)
full_line halt.Disk = (λ is. absurd (cc is), λ is. absurd (cc is))
full_line halt.All = (λ is. absurd (cc is), λ is. absurd (cc is))
full_line halt.Idle = (λ is. absurd (cc is), λ is. absurd (cc is))
full_line halt.WaitState = (λ is. absurd (cc is), λ is. absurd (cc is))
full_line halt.WaitSaved = (λ is. absurd (cc is), λ is. absurd (cc is))
full_line halt.Full = (λ is. refl, λ is. refl)

pub saved_line : (h : Halt) → (why_of h ≡ why.WaitSaved) ↔ (h ≡ halt.WaitSaved)
saved_line halt.Disk = (λ is. absurd (cc is), λ is. absurd (cc is))
saved_line halt.All = (λ is. absurd (cc is), λ is. absurd (cc is))
saved_line halt.Idle = (λ is. absurd (cc is), λ is. absurd (cc is))
saved_line halt.WaitState = (λ is. absurd (cc is), λ is. absurd (cc is))
saved_line halt.WaitSaved = (λ is. refl, λ is. refl)
saved_line halt.Full = (λ is. absurd (cc is), λ is. absurd (cc is))

pub state_line : (h : Halt) → (why_of h ≡ why.WaitState) ↔ (h ≡ halt.WaitState)
state_line halt.Disk = (λ is. absurd (cc is), λ is. absurd (cc is))
state_line halt.All = (λ is. absurd (cc is), λ is. absurd (cc is))
state_line halt.Idle = (λ is. absurd (cc is), λ is. absurd (cc is))
state_line halt.Full = (λ is. absurd (cc is), λ is. absurd (cc is))
state_line halt.WaitState = (λ is. refl, λ is. refl)
state_line halt.WaitSaved = (λ is. absurd (cc is), λ is. absurd (cc is))

pub idle_line : (h : Halt) → (why_of h ≡ why.Idle) ↔ (h ≡ halt.Idle)
idle_line halt.Disk = (λ is. absurd (cc is), λ is. absurd (cc is))
idle_line halt.All = (λ is. absurd (cc is), λ is. absurd (cc is))
idle_line halt.Idle = (λ is. refl, λ is. refl)
idle_line halt.Full = (λ is. absurd (cc is), λ is. absurd (cc is))
idle_line halt.WaitState = (λ is. absurd (cc is), λ is. absurd (cc is))
idle_line halt.WaitSaved = (λ is. absurd (cc is), λ is. absurd (cc is))

pub all_line : (h : Halt) → (why_of h ≡ why.All) ↔ (h ≡ halt.All)
all_line halt.Disk = (λ is. absurd (cc is), λ is. absurd (cc is))
all_line halt.All = (λ is. refl, λ is. refl)
all_line halt.Idle = (λ is. absurd (cc is), λ is. absurd (cc is))
all_line halt.Full = (λ is. absurd (cc is), λ is. absurd (cc is))
all_line halt.WaitState = (λ is. absurd (cc is), λ is. absurd (cc is))
all_line halt.WaitSaved = (λ is. absurd (cc is), λ is. absurd (cc is))

pub disk_line : (h : Halt) → (why_of h ≡ why.Disk) ↔ (h ≡ halt.Disk)
disk_line halt.All = (λ is. absurd (cc is), λ is. absurd (cc is))
disk_line halt.Idle = (λ is. absurd (cc is), λ is. absurd (cc is))
disk_line halt.Full = (λ is. absurd (cc is), λ is. absurd (cc is))
disk_line halt.WaitState = (λ is. absurd (cc is), λ is. absurd (cc is))
disk_line halt.WaitSaved = (λ is. absurd (cc is), λ is. absurd (cc is))
disk_line halt.Disk = (λ is. refl, λ is. refl)

-- by the word of the line
both_ways : {A B C : Type 0} → A ↔ B → B ↔ C → A ↔ C
both_ways (f, g) (h, k) = (λ a. h (f a), λ c. g (k c))

pub why_in_order : (s : Served) (k : ℕ) (made : List Made) (left : Served) (halted : Halt) → IsSound s.end → ToldJob (frames_put k s) made (left, halted) → WaitsInOrder k s made left halted
why_in_order s k made left halted sound told =
    let pull = pulls_in_turn s k made left halted sound told in
    record {
      pull = pull;
      put = length (put_in s.end.desk.stream pull.tries);
      many = refl;
      all = both_ways (all_line halted) pull.all;
      full = both_ways (full_line halted) pull.full;
      disk = both_ways (disk_line halted) pull.disk;
      states = both_ways (state_line halted) pull.states;
      saves = both_ways (saved_line halted) pull.saves;
      idle = both_ways (idle_line halted) pull.idle;
    }
