-- what a pull does, try by try
use Rattle.std.proofs.Common.{◌≡◌, ◌≢◌, ◌⊎◌, ◌+◌, ◌<◌, ◌≤◌, ℕ, suc, Bool, true, false, List, [], ◌∷◌, ◌++◌, length, map, refl, sym, ap, ◌∙◌, subst, inl, inr, append-nil, append_assoc, arith, Some, None}
use Rattle.std.specs.Prelude.{if◌then◌else◌, ◌==◌, ◌||◌}
use Rattle.std.proofs.lemmas.Bool.{false≢true}
use Rattle.std.specs.List.{All, concat}
use Rattle.std.proofs.lemmas.Bool.Decides.{nat_tests}
use Rattle.std.proofs.lemmas.List.{map-append, length-append}
use Rattle.std.proofs.lemmas.List.Elements.{All-head, All-tail, All-nil, All-cons, All-append}
use Rattle.mcbp_frame.specs.declared.frame.Frame.{Frame}
use Rattle.mcbp_frame.specs.Spelling.{spelling}
use Rattle.mcbp_dcp.specs.declared.message.DcpMsg.TheVariants as msg
use Rattle.mcbp_dcp.specs.DcpFrames.{dcp_frame}
use Rattle.vb_events.specs.declared.event.Event.{Event}
use Rattle.vb_events.specs.declared.event.Event.TheVariants as event
use Rattle.vb_events.specs.declared.event.StreamName.{StreamName}
use Rattle.vb_calls.specs.Jobs.{IsRead}
use Rattle.vb_calls.specs.Programs.{Made, AnyCall}
use Rattle.vb_told.specs.Told.{ToldJob}
use Rattle.vb_told.proofs.Walks.{told_always_job}
use Rattle.flow_control.specs.declared.window.Window.{Window}
use Rattle.flow_control.specs.Windows.{is_open, with_put}
use Rattle.dcp_producer.specs.declared.halt.Halt.{Halt}
use Rattle.dcp_producer.specs.declared.halt.Halt.TheVariants as halt
use Rattle.dcp_producer.specs.declared.next_frame.NextFrame.{NextFrame}
use Rattle.dcp_producer.specs.declared.next_frame.NextFrame.TheVariants as next
use Rattle.dcp_producer.specs.declared.next_frame.Waits.{Waits}
use Rattle.dcp_producer.specs.declared.next_frame.Waits.TheVariants as wait
use Rattle.dcp_producer.specs.Frames.{Next, next_frame}
use Rattle.dcp_producer.specs.Producers.{PlainStream, PlainProducer, Served, with_turn}
use Rattle.dcp_producer.specs.Pulling.{QuietOnes, first_wait, none_quiet, with_quiet, is_quiet, Pulling, pull_of, past_turn, stream_in_turn, frame_put, end_put, stream_went, came, frames_put}
use Rattle.dcp_producer.specs.Holding.{Passes, PassAll}
use Rattle.dcp_producer.specs.Having.{IsSound}
use Rattle.dcp_producer.specs.Orders.{Stops}
use Rattle.dcp_producer.specs.Turns.{turns_of, Tried, IsTold, standing_by, StandApart, waiting, TakeTurns, put_by, put_in, made_in, NextOrder, TurnsOn}
use Rattle.dcp_producer.proofs.Framing.{Same, GoesOn, frame_same}
use Rattle.dcp_producer.proofs.Turning.{InTurn, before, behind, in_turn, turn_is, turned_so, end_with, end_less, went_so, over_so, order_with, order_less, sound_with, sound_less}
use Rattle.dcp_producer.proofs.Walking.{IsPassed, CameSo, Ends, walk}
use Rattle.dcp_producer.proofs.Awake.{awake_in, awake_of, says_wait, stops_at, stops_in, any_more, or_false, awake_append, asleep, awake, quiet_then, awake_same, takes_more, stands_more, flat_map_more, wait_none, waits_in, waits_more, passes_more, frames_of, bytes_of, lines_of, bytes_more, orders_more}

-- what a pull did behind so many frames, and whether a journal couldn't be read, where the order of turns was so when the last of them was put
pub record Story (s : Served) (base : List PlainStream) (n : ℕ) (stop : Bool) (made : List Made) (p : Pulling) : Type 0 where
  pub tries : List Tried
  pub turns : TakeTurns s.end.desk.stream (turns_of s.end) tries (awake_of p)
  pub order : TurnsOn (turns_of s.end) tries base
  pub stand : StandApart s.end.streams tries p.served.end.streams
  pub calls : made ≡ made_in tries
  pub many : length (put_in s.end.desk.stream tries) ≡ n
  pub out : p.served.out ≡ s.out ++ concat (map (λ x. spelling x.0) (put_in s.end.desk.stream tries))
  pub told : p.served.events ≡ s.events ++ map (λ x. x.1) (put_in s.end.desk.stream tries)
  pub count : p.served.count ≡ s.count + n
  pub resolved : p.served.resolved ≡ s.resolved
  pub through : PassAll (map (λ x. x.0) (put_in s.end.desk.stream tries)) s.end.window p.served.end.window
  pub sound : IsSound p.served.end
  pub desk : p.served.end.desk ≡ s.end.desk
  pub shaken : p.served.end.handshake ≡ s.end.handshake
  pub asked : p.served.end.asked ≡ s.end.asked
  pub waits : p.quiet.waits ≡ waits_in (λ t. says_wait t.next) tries
  pub stops : stops_in tries ≡ stop

-- the first of the turns were those of streams that are quiet
pub record Rotated (i : ℕ) (base : List PlainStream) (p : Pulling) : Type 0 where
  pub todo : List PlainStream
  pub done : List PlainStream
  pub at : length done ≡ i
  pub from : base ≡ done ++ todo
  pub is : turns_of p.served.end ≡ todo ++ done
  pub quiet : All (λ stream. is_quiet stream.id p.quiet ≡ true) done

-- behind so many turns for the next frame, in which no stream put one
pub record Turns (s : Served) (n : ℕ) (p0 : Pulling) (i : ℕ) (made : List Made) (p : Pulling) : Type 0 where
  pub base : List PlainStream
  pub story : Story s base n false made p
  pub free : is_open p.served.end.window ≡ true
  pub same : length p.served.end.streams ≡ length p0.served.end.streams
  pub order : i ≤ length p0.served.end.streams → Rotated i base p

-- between two frames
abbrev pub Whole : Served → ℕ → List Made → Pulling → Type 0
Whole s n made p = Story s (turns_of p.served.end) n false made p

-- behind a turn of one whose journal couldn't be read, which was the last one
pub record Stopped (s : Served) (n : ℕ) (made : List Made) (p : Pulling) : Type 0 where
  pub story : Story s (turns_of p.served.end) n true made p
  pub free : is_open p.served.end.window ≡ true
  pub last : Stops story.tries

abbrev pub StopsSo : Served → ℕ → List Made → Pulling → Halt → Type 0
StopsSo s n made p halted = (halted ≡ halt.Disk) × Stopped s n made p

-- a turn behind others in which no journal couldn't be read is the last one in which one could not
one_of_them : (xs : List Tried) (u : Tried) (back : List Tried) → [] ≡ xs ++ u ∷ back → ⊥
one_of_them [] u back is = absurd (cc is)
one_of_them (x ∷ xs) u back is = absurd (cc is)

part_no : (a b : Bool) → (a || b) ≡ false → (a ≡ false) × (b ≡ false)
part_no true b is = absurd (cc is)
part_no false b is = (refl, is)

last_stops : (tries : List Tried) (t : Tried) → stops_in tries ≡ false → Stops (tries ++ t ∷ [])
last_stops [] t goes [] back u parts stops = cc parts
last_stops [] t goes (x ∷ front) back u parts stops = absurd (one_of_them front u back (cc parts))
last_stops (y ∷ tries) t goes [] back u parts stops =
    let same : y ≡ u = cc parts in
    let (first, more) = part_no (stops_at y.next) (stops_in tries) goes in
    absurd (false≢true (sym first ∙ ap (λ (v : Tried). stops_at v.next) same ∙ ap stops_at stops))
last_stops (y ∷ tries) t goes (x ∷ front) back u parts stops =
    let (first, more) = part_no (stops_at y.next) (stops_in tries) goes in last_stops tries t more front back u (cc parts) stops

module _ (s : Served) where
  abbrev name : StreamName
  name = s.end.desk.stream

  -- nothing was done yet
  start : IsSound s.end → Whole s 0 [] (pull_of s none_quiet)
  start sound = record {
    tries = [];
    turns = all_awake (turns_of s.end);
    order = refl;
    stand = refl;
    calls = refl;
    many = refl;
    out = sym (append-nil s.out);
    told = sym (append-nil s.events);
    count = omega arith;
    resolved = refl;
    through = refl;
    sound = sound;
    desk = refl;
    shaken = refl;
    asked = refl;
    waits = refl;
    stops = refl;
  }
    where
      all_awake : (xs : List PlainStream) → awake_in none_quiet xs ≡ xs
      all_awake [] = refl
      all_awake (x ∷ xs) = ap (λ ys. x ∷ ys) (all_awake xs)

  -- the connection and the streams that wait are the same, but for whose turn it is
  passed_story : (base : List PlainStream) (n : ℕ) (made : List Made) (p p' : Pulling) → Story s base n false made p → (end : PlainProducer) → p' ≡ pull_of (record p.served { end = end }) p.quiet → awake_in p.quiet (turns_of end) ≡ awake_of p
      → IsSound end → end.streams ≡ p.served.end.streams → end.desk ≡ p.served.end.desk → end.handshake ≡ p.served.end.handshake → end.asked ≡ p.served.end.asked → end.window ≡ p.served.end.window → Story s base n false made p'
  passed_story base n made p p' b end is same sound streams desk shaken asked window = subst (Story s base n false made) (sym is) (record {
    tries = b.tries;
    turns = subst (TakeTurns name (turns_of s.end) b.tries) (sym same) b.turns;
    order = b.order;
    stand = subst (StandApart s.end.streams b.tries) (sym streams) b.stand;
    calls = b.calls;
    many = b.many;
    out = b.out;
    told = b.told;
    count = b.count;
    resolved = b.resolved;
    through = subst (PassAll (frames_of (put_in name b.tries)) s.end.window) (sym window) b.through;
    sound = sound;
    desk = desk ∙ b.desk;
    shaken = shaken ∙ b.shaken;
    asked = asked ∙ b.asked;
    waits = b.waits;
    stops = b.stops;
  })

  -- a stream put no frame
  none_story : (base base' : List PlainStream) (n : ℕ) (stop : Bool) (made : List Made) (p : Pulling) → Story s base n false made p → (end : PlainProducer) (q : QuietOnes) (t : Tried) (rest : List PlainStream)
      → (front back : List PlainStream) → p.served.end.streams ≡ front ++ t.stream ∷ back → end.streams ≡ standing_by t.next t.left front back
      → awake_of p ≡ t.stream ∷ rest → IsTold name t → put_by name t.next t.left ≡ [] → awake_in q (turns_of end) ≡ waiting t.next t.left rest → NextOrder t.next t.stream t.left base base'
      → q.waits ≡ first_wait p.quiet.waits (says_wait t.next) → stops_at t.next ≡ stop
      → IsSound end → end.desk ≡ p.served.end.desk → end.handshake ≡ p.served.end.handshake → end.asked ≡ p.served.end.asked → end.window ≡ p.served.end.window
      → Story s base' n stop (made ++ t.made) (pull_of (record p.served { end = end }) q)
  none_story base base' n stop made p b end q t rest front back stood stands first tells is same on talks stop_is sound desk shaken asked window =
      let none : put_in name (b.tries ++ t ∷ []) ≡ put_in name b.tries =
      flat_map_more (λ (u : Tried). put_by name u.next u.left) b.tries t ∙ ap (λ x. put_in name b.tries ++ x) is ∙ append-nil (put_in name b.tries) in
      record {
        tries = b.tries ++ t ∷ [];
        turns = subst (TakeTurns name (turns_of s.end) (b.tries ++ t ∷ [])) (sym same) (takes_more name (turns_of s.end) b.tries (awake_of p) rest t b.turns first tells);
        order = orders_more (turns_of s.end) b.tries base base' t b.order on;
        stand = stands_more s.end.streams b.tries p.served.end.streams end.streams t front back b.stand stood stands;
        calls = ap (λ ms. ms ++ t.made) b.calls ∙ sym (flat_map_more (λ (u : Tried). u.made) b.tries t);
        many = ap length none ∙ b.many;
        out = b.out ∙ ap (λ put. s.out ++ bytes_of put) (sym none);
        told = b.told ∙ ap (λ put. s.events ++ lines_of put) (sym none);
        count = b.count;
        resolved = b.resolved;
        through = subst (λ put. PassAll (frames_of put) s.end.window end.window) (sym none) (subst (PassAll (frames_of (put_in name b.tries)) s.end.window) (sym window) b.through);
        sound = sound;
        desk = desk ∙ b.desk;
        shaken = shaken ∙ b.shaken;
        asked = asked ∙ b.asked;
        waits = talks ∙ ap (λ w. first_wait w (says_wait t.next)) b.waits ∙ sym (waits_more (λ (u : Tried). says_wait u.next) b.tries t);
        stops = any_more (λ (u : Tried). stops_at u.next) b.tries t ∙ (λ i. b.stops i || (stop_is i || false)) ∙ or_false stop;
      }

  -- a stream put a frame, or its end
  put_story : (base : List PlainStream) (n : ℕ) (made : List Made) (p : Pulling) → Story s base n false made p → (end : PlainProducer) (t : Tried) (f : Frame) (line : Event) (rest : List PlainStream)
      → (front back : List PlainStream) → p.served.end.streams ≡ front ++ t.stream ∷ back → end.streams ≡ standing_by t.next t.left front back
      → awake_of p ≡ t.stream ∷ rest → IsTold name t → put_by name t.next t.left ≡ (f, line) ∷ [] → says_wait t.next ≡ wait.Nothing → stops_at t.next ≡ false → awake_in p.quiet (turns_of end) ≡ waiting t.next t.left rest
      → NextOrder t.next t.stream t.left base (turns_of end)
      → IsSound end → end.desk ≡ p.served.end.desk → end.handshake ≡ p.served.end.handshake → end.asked ≡ p.served.end.asked → Passes (length (spelling f)) p.served.end.window end.window
      → Story s (turns_of end) (suc n) false (made ++ t.made)
      (pull_of (record { end = end; events = p.served.events ++ line ∷ []; out = p.served.out ++ spelling f; count = p.served.count + 1; resolved = p.served.resolved }) p.quiet)
  put_story base n made p b end t f line rest front back stood stands first tells is talks goes same on sound desk shaken asked window =
      let one : put_in name (b.tries ++ t ∷ []) ≡ put_in name b.tries ++ (f, line) ∷ [] =
      flat_map_more (λ (u : Tried). put_by name u.next u.left) b.tries t ∙ ap (λ x. put_in name b.tries ++ x) is in
      let count = b.count in
      let many = b.many in
      let e : length (put_in name b.tries) + 1 ≡ suc n = omega arith in
      record {
        tries = b.tries ++ t ∷ [];
        turns = subst (TakeTurns name (turns_of s.end) (b.tries ++ t ∷ [])) (sym same) (takes_more name (turns_of s.end) b.tries (awake_of p) rest t b.turns first tells);
        order = orders_more (turns_of s.end) b.tries base (turns_of end) t b.order on;
        stand = stands_more s.end.streams b.tries p.served.end.streams end.streams t front back b.stand stood stands;
        calls = ap (λ ms. ms ++ t.made) b.calls ∙ sym (flat_map_more (λ (u : Tried). u.made) b.tries t);
        many = ap length one ∙ length-append (put_in name b.tries) ((f, line) ∷ []) ∙ e;
        out = ap (λ o. o ++ spelling f) b.out ∙ append_assoc s.out (bytes_of (put_in name b.tries)) (spelling f)
            ∙ ap (λ bytes. s.out ++ bytes) (sym (ap bytes_of one ∙ bytes_more (put_in name b.tries) f line));
        told = ap (λ o. o ++ line ∷ []) b.told ∙ append_assoc s.events (lines_of (put_in name b.tries)) (line ∷ [])
            ∙ ap (λ lines. s.events ++ lines) (sym (ap lines_of one ∙ map-append (λ (x : Frame × Event). x.1) (put_in name b.tries) ((f, line) ∷ [])));
        count = omega arith;
        resolved = b.resolved;
        through = subst (λ fs. PassAll fs s.end.window end.window) (sym (ap frames_of one ∙ map-append (λ (x : Frame × Event). x.0) (put_in name b.tries) ((f, line) ∷ [])))
            (passes_more (frames_of (put_in name b.tries)) f s.end.window p.served.end.window end.window b.through window);
        sound = sound;
        desk = desk ∙ b.desk;
        shaken = shaken ∙ b.shaken;
        asked = asked ∙ b.asked;
        waits = b.waits
            ∙ sym (waits_more (λ (u : Tried). says_wait u.next) b.tries t ∙ ap (first_wait (waits_in (λ (u : Tried). says_wait u.next) b.tries)) talks ∙ wait_none (waits_in (λ (u : Tried). says_wait u.next) b.tries));
        stops = any_more (λ (u : Tried). stops_at u.next) b.tries t ∙ (λ i. b.stops i || (goes i || false));
      }

-- ---- along the walk

-- open, a window lets a frame go
passes : (w : Window) (len : ℕ) (b : Bool) → (w.size == 0) ≡ b → is_open w ≡ true → Passes len w (if b then w else record w { outstanding = w.outstanding + len })
passes w len true none free = (refl, inl (grind (arith, nat_tests), refl))
passes w len false some free = (refl, inr (grind (arith, nat_tests), refl))

empty_or : (xs : List PlainStream) → (xs ≡ []) ⊎ (0 < length xs)
empty_or [] = inl refl
empty_or (x ∷ xs) = inr (omega arith)

some_same : (x y : PlainStream) → Some x ≡ Some y → x ≡ y
some_same x y is = cc is

none_some : (x : PlainStream) → Some x ≡ None → ⊥
none_some x is = absurd (cc is)

-- the first of those that are left has its turn
next_todo : (todo done rest : List PlainStream) (x : PlainStream) (i n : ℕ) → todo ++ done ≡ x ∷ rest → length done ≡ i → suc i ≤ n → length (x ∷ rest) ≡ n → (todo' : List PlainStream) × (rest ≡ todo' ++ done) × (todo ≡ x ∷ todo')
next_todo [] done rest x i n is at low long = let e = ap length is in absurd (omega (arith, e, at, low, long))
next_todo (y ∷ todo) done rest x i n is at low long = (todo, cc is, ap (λ z. z ∷ todo) (cc is))

module _ (s : Served) where
  begin_turns : (n : ℕ) (made : List Made) (p : Pulling) → is_open p.served.end.window ≡ true → Whole s n made p → Turns s n p 0 made p
  begin_turns n made p free b = record {
    base = turns_of p.served.end;
    story = b;
    free = free;
    same = refl;
    order = λ low. record { todo = turns_of p.served.end; done = []; at = refl; from = refl; is = sym (append-nil (turns_of p.served.end)); quiet = All-nil (λ (stream : PlainStream). is_quiet stream.id p.quiet ≡ true) };
  }

  module _ (n : ℕ) (p0 : Pulling) (i : ℕ) (made : List Made) (p : Pulling) (b : Turns s n p0 i made p) where
    -- with no stream, a turn is nobody's
    no_turn : p.served.end.streams ≡ [] → with_turn p.served.end ≡ p.served.end
    no_turn none = (λ j. with_turn (record p.served.end { streams = none j })) ∙ (λ j. record p.served.end { streams = sym none j })

    pass_none : p.served.end.streams ≡ [] → Turns s n p0 (suc i) made (pull_of (past_turn p.served) p.quiet)
    pass_none none =
        let same : pull_of (past_turn p.served) p.quiet ≡ p = ap (λ e. pull_of (record p.served { end = e }) p.quiet) (no_turn none) in
        subst (Turns s n p0 (suc i) made) (sym same) (record {
          base = b.base;
          story = b.story;
          free = b.free;
          same = b.same;
          order = λ low. let e : length p0.served.end.streams ≡ 0 = sym b.same ∙ ap length none in absurd (omega (arith, low, e));
        })

    module _ (it : InTurn p.served.end) where
      abbrev rest : List PlainStream
      rest = it.back ++ it.front

      long : length (it.stream ∷ rest) ≡ length p0.served.end.streams
      long =
          let one : length (it.front ++ it.stream ∷ it.back) ≡ length it.front + suc (length it.back) = length-append it.front (it.stream ∷ it.back) in
          let two : length (it.back ++ it.front) ≡ length it.back + length it.front = length-append it.back it.front in
          let three : length (it.front ++ it.stream ∷ it.back) ≡ length p0.served.end.streams = ap length (sym it.stands) ∙ b.same in
          omega (arith, one, two, three)

      weaker : (q : QuietOnes) → ((stream : PlainStream) → is_quiet stream.id p.quiet ≡ true → is_quiet stream.id q ≡ true)
          → (xs : List PlainStream) → All (λ (stream : PlainStream). is_quiet stream.id p.quiet ≡ true) xs → All (λ (stream : PlainStream). is_quiet stream.id q ≡ true) xs
      weaker q stays [] all = All-nil (λ (stream : PlainStream). is_quiet stream.id q ≡ true)
      weaker q stays (x ∷ xs) all =
          All-cons (λ (stream : PlainStream). is_quiet stream.id q ≡ true) x xs (stays x (All-head (λ (stream : PlainStream). is_quiet stream.id p.quiet ≡ true) x xs all))
          (weaker q stays xs (All-tail (λ (stream : PlainStream). is_quiet stream.id p.quiet ≡ true) x xs all))

      -- behind a turn in which it was quiet, before or now
      order_on : (left : PlainStream) (p' : Pulling) → turns_of p'.served.end ≡ rest ++ left ∷ [] → is_quiet left.id p'.quiet ≡ true
          → ((stream : PlainStream) → is_quiet stream.id p.quiet ≡ true → is_quiet stream.id p'.quiet ≡ true) → suc i ≤ length p0.served.end.streams
          → (front : List PlainStream) × (back : List PlainStream) × (b.base ≡ front ++ it.stream ∷ back) × Rotated (suc i) (front ++ left ∷ back) p'
      order_on left p' is quiet stays low =
          let before = b.order (omega (arith, low)) in
          let at = before.at in
          let (todo, behind_it, begins) = next_todo before.todo before.done rest it.stream i (length p0.served.end.streams) (sym before.is ∙ it.order) at low long in
          let more : length (before.done ++ left ∷ []) ≡ length before.done + 1 = length-append before.done (left ∷ []) in (
            before.done,
            todo,
            before.from ∙ ap (λ xs. before.done ++ xs) begins,
            record {
              todo = todo;
              done = before.done ++ left ∷ [];
              at = omega (arith, more, at);
              from = sym (append_assoc before.done (left ∷ []) todo);
              is = is ∙ ap (λ xs. xs ++ left ∷ []) behind_it ∙ append_assoc todo before.done (left ∷ []);
              quiet = All-append (λ (stream : PlainStream). is_quiet stream.id p'.quiet ≡ true) before.done (left ∷ [])
                  (weaker p'.quiet stays before.done before.quiet) (All-cons (λ (stream : PlainStream). is_quiet stream.id p'.quiet ≡ true) left [] quiet (All-nil (λ (stream : PlainStream). is_quiet stream.id p'.quiet ≡ true)));
            },
          )

      as_long : (left : PlainStream) → length (it.front ++ left ∷ it.back) ≡ length p0.served.end.streams
      as_long left = length-append it.front (left ∷ it.back) ∙ sym (length-append it.front (it.stream ∷ it.back)) ∙ ap length (sym it.stands) ∙ b.same

      itself : Same it.stream it.stream
      itself = record { id = refl; vb = refl; opaque = refl; until = refl; ended = refl }

      abbrev sound : IsSound p.served.end
      sound = b.story.sound

      abbrev after : PlainStream → PlainProducer
      after left = end_with p.served.end sound it left

      others_differ : All (λ (stream : PlainStream). stream.id ≢ it.stream.id) rest
      others_differ = All-append (λ (stream : PlainStream). stream.id ≢ it.stream.id) it.back it.front (behind p.served.end sound it) (before p.served.end sound it)

      -- it was quiet before
      pass_it : is_quiet it.stream.id p.quiet ≡ true → Turns s n p0 (suc i) made (pull_of (past_turn p.served) p.quiet)
      pass_it quiet =
          let is : pull_of (past_turn p.served) p.quiet ≡ pull_of (record p.served { end = after it.stream }) p.quiet = ap (λ e. pull_of (record p.served { end = e }) p.quiet) (turned_so p.served.end sound it) in
          let order : turns_of (after it.stream) ≡ rest ++ it.stream ∷ [] = order_with p.served.end sound it it.stream itself in
          let waits : awake_in p.quiet (turns_of (after it.stream)) ≡ awake_of p =
          ap (awake_in p.quiet) order ∙ awake_append p.quiet rest (it.stream ∷ []) ∙ ap (λ xs. awake_in p.quiet rest ++ xs) (asleep p.quiet it.stream [] quiet) ∙ append-nil (awake_in p.quiet rest)
          ∙ sym (ap (awake_in p.quiet) it.order ∙ asleep p.quiet it.stream rest quiet) in
          subst (Turns s n p0 (suc i) made) (sym is) (record {
            base = b.base;
            story = passed_story s b.base n made p (pull_of (record p.served { end = after it.stream }) p.quiet) b.story (after it.stream) refl waits (sound_with p.served.end sound it it.stream itself) (sym it.stands) refl refl refl refl;
            free = b.free;
            same = as_long it.stream;
            order = λ low.
                let (front, back, stands, turned) = order_on it.stream (pull_of (record p.served { end = after it.stream }) p.quiet) order quiet (λ stream so. so) low in
                subst (λ base. Rotated (suc i) base (pull_of (record p.served { end = after it.stream }) p.quiet)) (sym stands) turned;
          })

      -- it was asked
      module _ (fresh : is_quiet it.stream.id p.quiet ≡ false) (more : List Made) (told : (x : NextFrame) (left : PlainStream) → ToldJob (next_frame p.served.end.desk.stream it.stream) more (x, left) → ToldJob (next_frame s.end.desk.stream it.stream) more (x, left)) where
        first : awake_of p ≡ it.stream ∷ awake_in p.quiet rest
        first = ap (awake_in p.quiet) it.order ∙ awake p.quiet it.stream rest fresh

        asked_quiet : (waits : Waits) (left : PlainStream) → suc i ≤ length p0.served.end.streams → Same it.stream left → ToldJob (next_frame p.served.end.desk.stream it.stream) more (next.Quiet waits, left)
            → Turns s n p0 (suc i) (made ++ more) (pull_of (stream_went left (past_turn p.served)) (with_quiet left.id waits p.quiet))
        asked_quiet waits left low same tells =
            let q : QuietOnes = with_quiet left.id waits p.quiet in
            let p' : Pulling = pull_of (record p.served { end = after left }) q in
            let order : turns_of (after left) ≡ rest ++ left ∷ [] = order_with p.served.end sound it left same in
            let now : is_quiet left.id q ≡ true = quiet_then p.quiet left.id waits left.id (inr refl) in
            let left_awake : awake_in q (turns_of (after left)) ≡ awake_in p.quiet rest =
            ap (awake_in q) order ∙ awake_append q rest (left ∷ []) ∙ ap (λ xs. awake_in q rest ++ xs) (asleep q left [] now) ∙ append-nil (awake_in q rest)
            ∙ awake_same p.quiet left.id waits rest (subst (λ n. All (λ (stream : PlainStream). stream.id ≢ n) rest) (sym same.id) others_differ) in
            let (front, back, stands, turned) = order_on left p' order now (λ stream so. quiet_then p.quiet left.id waits stream.id (inl so)) low in
            subst (Turns s n p0 (suc i) (made ++ more)) (ap (λ e. pull_of (record p.served { end = e }) q) (sym (went_so p.served.end sound it left same))) (record {
              base = front ++ left ∷ back;
              story = none_story s b.base (front ++ left ∷ back) n false made p b.story (after left) q (record { stream = it.stream; made = more; next = next.Quiet waits; left = left }) (awake_in p.quiet rest)
                  it.front it.back it.stands refl first (told (next.Quiet waits) left tells) refl left_awake (front, back, stands, refl) refl refl
                  (sound_with p.served.end sound it left same) refl refl refl refl;
              free = b.free;
              same = as_long left;
              order = λ low'. turned;
            })

        -- the order of turns when the last frame was put has those that were quiet since before this stream, and those that had no turn yet behind it
        abbrev Splits : Type 0
        Splits = (front : List PlainStream) × (back : List PlainStream) × (b.base ≡ front ++ it.stream ∷ back) × (rest ≡ back ++ front)

        splits : suc i ≤ length p0.served.end.streams → Splits
        splits low =
            let before = b.order (omega (arith, low)) in
            let (todo, left, begins) = next_todo before.todo before.done rest it.stream i (length p0.served.end.streams) (sym before.is ∙ it.order) before.at low long in
            (before.done, todo, before.from ∙ ap (λ xs. before.done ++ xs) begins, left)

        its_order : suc i ≤ length p0.served.end.streams → (left : PlainStream) → {order : List PlainStream} → order ≡ rest ++ left ∷ [] → (front : List PlainStream) × (back : List PlainStream) × (b.base ≡ front ++ it.stream ∷ back) × (order ≡ (back ++ front) ++ left ∷ [])
        its_order low left is = let (front, back, stands, same) = splits low in (front, back, stands, is ∙ ap (λ xs. xs ++ left ∷ []) same)

        its_rest : suc i ≤ length p0.served.end.streams → {order : List PlainStream} → order ≡ rest → (front : List PlainStream) × (back : List PlainStream) × (b.base ≡ front ++ it.stream ∷ back) × (order ≡ back ++ front)
        its_rest low is = let (front, back, stands, same) = splits low in (front, back, stands, is ∙ same)

        asked_put : (m : _) (line : Event) (left : PlainStream) → suc i ≤ length p0.served.end.streams → Same it.stream left → ToldJob (next_frame p.served.end.desk.stream it.stream) more (next.Put m line, left)
            → Whole s (suc n) (made ++ more) (pull_of (frame_put (dcp_frame m left.opaque left.vb) line (stream_went left (past_turn p.served))) p.quiet)
        asked_put m line left low same tells =
            let f : Frame = dcp_frame m left.opaque left.vb in
            let end' : PlainProducer = record (after left) { window = with_put (length (spelling f)) p.served.end.window } in
            let order : turns_of (after left) ≡ rest ++ left ∷ [] = order_with p.served.end sound it left same in
            let still : is_quiet left.id p.quiet ≡ false = ap (λ n. is_quiet n p.quiet) same.id ∙ fresh in
            let waits : awake_in p.quiet (turns_of end') ≡ awake_in p.quiet rest ++ left ∷ [] =
            ap (awake_in p.quiet) order ∙ awake_append p.quiet rest (left ∷ []) ∙ ap (λ xs. awake_in p.quiet rest ++ xs) (awake p.quiet left [] still) in
            let after_sound = sound_with p.served.end sound it left same in
            subst (λ e. Whole s (suc n) (made ++ more) (pull_of (frame_put f line (record p.served { end = e })) p.quiet)) (sym (went_so p.served.end sound it left same))
            (put_story s b.base n made p b.story end' (record { stream = it.stream; made = more; next = next.Put m line; left = left }) f line (awake_in p.quiet rest)
            it.front it.back it.stands refl first (told (next.Put m line) left tells) refl refl refl waits (its_order low left order) (record { apart = after_sound.apart; rise = after_sound.rise; numbered = after_sound.numbered; turn = after_sound.turn })
            refl refl refl (passes p.served.end.window (length (spelling f)) (p.served.end.window.size == 0) refl b.free))

        asked_end : (reason : ℕ) (left : PlainStream) → suc i ≤ length p0.served.end.streams → Same it.stream left → ToldJob (next_frame p.served.end.desk.stream it.stream) more (next.End reason, left)
            → Whole s (suc n) (made ++ more) (pull_of (end_put left reason (stream_went left (past_turn p.served))) p.quiet)
        asked_end reason left low same tells =
            let f : Frame = dcp_frame (msg.StreamEnd reason) left.opaque left.vb in
            let less : PlainProducer = end_less p.served.end sound it in
            let end' : PlainProducer = record less { window = with_put (length (spelling f)) p.served.end.window } in
            let order : turns_of less ≡ rest = order_less p.served.end sound it in
            let less_sound = sound_less p.served.end sound it in
            let desk = b.story.desk in
            let line : event.Finished s.end.desk.stream reason ≡ event.Finished p.served.end.desk.stream reason = ap (λ d. event.Finished d.stream reason) (sym desk) in
            subst (λ e. Whole s (suc n) (made ++ more) (pull_of (end_put left reason (record p.served { end = e })) p.quiet)) (sym (went_so p.served.end sound it left same))
            (subst (λ e. Whole s (suc n) (made ++ more) (pull_of (frame_put f (event.Finished p.served.end.desk.stream reason) (record p.served { end = e })) p.quiet)) (sym (over_so p.served.end sound it left same))
            (subst (λ l. Whole s (suc n) (made ++ more) (pull_of (frame_put f l (record p.served { end = less })) p.quiet)) line
            (put_story s b.base n made p b.story end' (record { stream = it.stream; made = more; next = next.End reason; left = left }) f (event.Finished s.end.desk.stream reason) (awake_in p.quiet rest)
            it.front it.back it.stands refl first (told (next.End reason) left tells) refl refl refl (ap (awake_in p.quiet) order) (its_rest low order) (record { apart = less_sound.apart; rise = less_sound.rise; numbered = less_sound.numbered; turn = less_sound.turn })
            refl refl refl (passes p.served.end.window (length (spelling f)) (p.served.end.window.size == 0) refl b.free))))

        asked_disk : (left : PlainStream) → suc i ≤ length p0.served.end.streams → Same it.stream left → ToldJob (next_frame p.served.end.desk.stream it.stream) more (next.Disk, left)
            → StopsSo s n (made ++ more) (pull_of (stream_went left (past_turn p.served)) p.quiet) halt.Disk
        unfolding none_story
        asked_disk left low same tells =
            let t : Tried = record { stream = it.stream; made = more; next = next.Disk; left = left } in
            let order : turns_of (after left) ≡ rest ++ left ∷ [] = order_with p.served.end sound it left same in
            let still : is_quiet left.id p.quiet ≡ false = ap (λ n. is_quiet n p.quiet) same.id ∙ fresh in
            let waits : awake_in p.quiet (turns_of (after left)) ≡ awake_in p.quiet rest ++ left ∷ [] =
            ap (awake_in p.quiet) order ∙ awake_append p.quiet rest (left ∷ []) ∙ ap (λ xs. awake_in p.quiet rest ++ xs) (awake p.quiet left [] still) in
            subst (λ e. StopsSo s n (made ++ more) (pull_of (record p.served { end = e }) p.quiet) halt.Disk) (sym (went_so p.served.end sound it left same)) (
              refl,
              record {
                story = none_story s b.base (turns_of (after left)) n true made p b.story (after left) p.quiet t (awake_in p.quiet rest)
                    it.front it.back it.stands refl first (told next.Disk left tells) refl waits (its_order low left order) (sym (wait_none p.quiet.waits)) refl
                    (sound_with p.served.end sound it left same) refl refl refl refl;
                free = b.free;
                last = last_stops b.story.tries t b.story.stops;
              },
            )

        goes_on : (x : Next) → ToldJob (next_frame p.served.end.desk.stream it.stream) more x → GoesOn it.stream x
        goes_on x tells = told_always_job AnyCall IsRead (GoesOn it.stream) (next_frame p.served.end.desk.stream it.stream) more x (frame_same p.served.end.desk.stream it.stream) tells

        asked_so : (x : Next) → suc i ≤ length p0.served.end.streams → ToldJob (next_frame p.served.end.desk.stream it.stream) more x
            → CameSo (Whole s) (Turns s) (StopsSo s) n p0 i (made ++ more) (came (past_turn p.served) p.quiet x)
        asked_so (next.Put m line, left) low tells = asked_put m line left low (goes_on (next.Put m line, left) tells) tells
        asked_so (next.End reason, left) low tells = asked_end reason left low (goes_on (next.End reason, left) tells) tells
        asked_so (next.Quiet waits, left) low tells = asked_quiet waits left low (goes_on (next.Quiet waits, left) tells) tells
        asked_so (next.Disk, left) low tells = asked_disk left low (goes_on (next.Disk, left) tells) tells

    -- the turn is that of one, or there is none
    with_it : (p.served.end.streams ≡ [] → ⊥) → InTurn p.served.end
    with_it some = in_turn p.served.end b.story.sound (by (empty_or p.served.end.streams))
      where
        by : (p.served.end.streams ≡ []) ⊎ (0 < length p.served.end.streams) → 0 < length p.served.end.streams
        by (inl none) = absurd (some none)
        by (inr low) = low

    passes_so : IsPassed p → Turns s n p0 (suc i) made (pull_of (past_turn p.served) p.quiet)
    passes_so passed = by (empty_or p.served.end.streams)
      where
        quiet_one : (it : InTurn p.served.end) → IsPassed p → is_quiet it.stream.id p.quiet ≡ true
        quiet_one it (inl none) = absurd (none_some it.stream (sym (turn_is p.served.end b.story.sound it) ∙ none))
        quiet_one it (inr (stream, there, quiet)) =
            subst (λ (x : PlainStream). is_quiet x.id p.quiet ≡ true) (some_same stream it.stream (sym there ∙ turn_is p.served.end b.story.sound it)) quiet

        by : (p.served.end.streams ≡ []) ⊎ (0 < length p.served.end.streams) → Turns s n p0 (suc i) made (pull_of (past_turn p.served) p.quiet)
        by (inl none) = pass_none none
        by (inr some) = let it = in_turn p.served.end b.story.sound some in pass_it it (quiet_one it passed)

    none_there : (stream : PlainStream) → stream_in_turn p.served.end ≡ Some stream → p.served.end.streams ≡ [] → ⊥
    none_there stream there none = none_some stream (sym there ∙ (λ j. stream_in_turn (record p.served.end { streams = none j })))

    asks_so : (more : List Made) (stream : PlainStream) (x : Next) → suc i ≤ length p0.served.end.streams → stream_in_turn p.served.end ≡ Some stream → is_quiet stream.id p.quiet ≡ false
        → ToldJob (next_frame p.served.end.desk.stream stream) more x → CameSo (Whole s) (Turns s) (StopsSo s) n p0 i (made ++ more) (came (past_turn p.served) p.quiet x)
    asks_so more stream x low there fresh tells =
        let it = with_it (none_there stream there) in
        let same : stream ≡ it.stream = some_same stream it.stream (sym there ∙ turn_is p.served.end b.story.sound it) in
        asked_so it (subst (λ (y : PlainStream). is_quiet y.id p.quiet ≡ false) same fresh) more
        (λ y left. subst (λ d. ToldJob (next_frame d.stream it.stream) more (y, left)) b.story.desk)
        x low (subst (λ (y : PlainStream). ToldJob (next_frame p.served.end.desk.stream y) more x) same tells)

  -- each pull is such a story
  pub pulls : (k : ℕ) (made : List Made) (left : Served) (halted : Halt) → IsSound s.end → ToldJob (frames_put k s) made (left, halted) → Ends (Whole s) (Turns s) (StopsSo s) k made left halted
  pulls k made left halted sound told =
      walk (Whole s) (Turns s) (StopsSo s) begin_turns (λ n p0 i ms p b passed. passes_so n p0 i ms p b passed) (λ n p0 i ms more p stream x low b. asks_so n p0 i ms p b more stream x low)
      k s made left halted (start s sound) told
