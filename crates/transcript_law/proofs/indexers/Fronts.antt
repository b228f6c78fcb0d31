-- a pull of a client's streams: each of them has its turn till none has more to put, or all were put that were asked for
use Rattle.std.specs.Prelude.{◌≡◌, ◌⊎◌, ◌≤◌, ◌<◌, ◌++◌, ◌∷◌, if◌then◌else◌}
use Rattle.transcript_law.proofs.Words.{ℕ, zero, suc, Bool, true, false, List, [], length, take, drop, refl, sym, ap, ◌∙◌, subst, arith, ⊎_elim, Some, None, append-nil, append_assoc, length-append, take-append-drop, Chronicle, Cluster, Halt, More, PlainNode, PlainProducer, PlainStream, PlainWorld, Served, States, Stop, TakesSnapshots, Turn, Why, after, after_lines, pulled, why_of}
use Rattle.client_session.specs.Serving.{PlainSession}
unfoldable use Rattle.dcp_producer.specs.Pulling.{frames_put, one_frame, one_turn}
use Rattle.dcp_producer.specs.Pulling.{Pulling, QuietOnes, halt_of, is_quiet, none_quiet, pull_of, quiet_halt, turns_came, Halting}
use Rattle.dcp_producer.specs.Producers.{with_turn}
use Rattle.dcp_producer.specs.Turns.{turns_of}
use Rattle.flow_control.specs.Windows.{is_open as lets_through}
use Rattle.transcript_law.proofs.indexers.{Framed.{wait_of, IsQuietNow, RestsNow, SoFar, WaitsNow, mine}, Pulls.{Came, Pulled, one_goes}, Rounds.{among_append, among_order, round}}
use Rattle.transcript_law.proofs.invariant.OpenStreams.{Among}
use Rattle.vbucket.specs.Takes.{TakesExactly}
use Rattle.vb_calls.proofs.JobReadings.{after_reads_bind}
use Rattle.vb_calls.specs.Jobs.{Ended, after_reads, bind_job, go_on_job, repeated_job}

-- as many have their turns as there are
order_long : (end : PlainProducer) → length (turns_of end) ≡ length end.streams
order_long end =
    let both = length-append (drop end.turn end.streams) (take end.turn end.streams) in
    let all = ap (λ (xs : List PlainStream). length xs) (take-append-drop end.turn end.streams) in
    let apart = length-append (take end.turn end.streams) (drop end.turn end.streams) in
    omega (arith, both, all, apart)

none_behind : (front back : List PlainStream) (n : ℕ) → length (front ++ back) ≡ n → length front ≡ n → back ≡ []
none_behind front [] n e f = refl
none_behind front (x ∷ back) n e f = let both = length-append front (x ∷ back) in absurd (omega (arith, both, e, f))

-- so many had their turns in this order, and are quiet
pub record Turned (end0 end : PlainProducer) (q : QuietOnes) (k : ℕ) : Type 0 where
  pub front : List PlainStream
  pub back : List PlainStream
  pub order : turns_of end0 ≡ front ++ back
  pub count : length front ≡ k
  pub now : turns_of end ≡ back ++ front
  pub quiet : (u : PlainStream) → Among u front → is_quiet u.id q ≡ true

-- one more did
turned_more : (end0 end : PlainProducer) (q q' : QuietOnes) (k : ℕ) (stream : PlainStream) (behind : List PlainStream) → k < length end0.streams → Turned end0 end q k → turns_of end ≡ stream ∷ behind → turns_of (with_turn end) ≡ behind ++ stream ∷ []
    → is_quiet stream.id q' ≡ true → ((id : ℕ) → is_quiet id q ≡ true → is_quiet id q' ≡ true) → Turned end0 (with_turn end) q' (suc k)
turned_more end0 end q q' k stream behind few t order after asked more = by t.front t.back t.order t.count t.now t.quiet
  where
    by : (front back : List PlainStream) → turns_of end0 ≡ front ++ back → length front ≡ k → turns_of end ≡ back ++ front → ((u : PlainStream) → Among u front → is_quiet u.id q ≡ true) → Turned end0 (with_turn end) q' (suc k)
    by front [] e count now quiet =
        let long = order_long end0 in let all = ap (λ (xs : List PlainStream). length xs) (e ∙ append-nil front) in absurd (omega (arith, long, all, count, few))
    by front (x ∷ back) e count now quiet =
        let same : x ∷ (back ++ front) ≡ stream ∷ behind = sym now ∙ order in
        let first : x ≡ stream = cc in let rest : back ++ front ≡ behind = cc in
        record {
          front = front ++ x ∷ [];
          back = back;
          order = e ∙ sym (append_assoc front (x ∷ []) back);
          count = let long = length-append front (x ∷ []) in omega (arith, long, count);
          now = after ∙ (λ i. sym rest i ++ sym first i ∷ []) ∙ append_assoc back front (x ∷ []);
          quiet = λ u i. ⊎_elim (λ j. more u.id (quiet u j))
              (λ j. ⊎_elim (λ f. ap (λ (y : PlainStream). is_quiet y.id q') (f ∙ first) ∙ asked) (λ none. absurd none) j) (among_append u front (x ∷ []) i);
        }

module _ (takes : TakesSnapshots) (exactly : TakesExactly) (w : PlainWorld) (r : Chronicle) (cl : Cluster) (n c : ℕ) (node : PlainNode) (session : PlainSession) where
  abbrev Goes : States → Pulling → Type 0
  Goes states p = Pulled takes exactly w r cl n c node session states p

  -- ---- turns

  -- so many turns in which nothing was put
  record Rounded (p0 : Pulling) (k : ℕ) (states : States) (p : Pulling) : Type 0 where
    pub pulled : Goes states p
    pub streams : p.served.end.streams ≡ p0.served.end.streams
    pub window : p.served.end.window ≡ p0.served.end.window
    pub order : Turned p0.served.end p.served.end p.quiet k

  abbrev Rounds : Pulling → ℕ → States × Turn Pulling Halting → Type 0
  Rounds p0 k (states, More p) = Rounded p0 k states p
  Rounds p0 k (states, Stop (p, None)) = Goes states p
  Rounds p0 k (states, Stop (p, Some halted)) = ⊥

  next_round : (p0 : Pulling) (k : ℕ) (states : States) (p : Pulling) → k < length p0.served.end.streams → Rounded p0 k states p → (x : States × Turn Pulling Halting) → Came takes exactly w r cl n c node session p x → Rounds p0 (suc k) x
  next_round p0 k states p few g (states', More p') went = record {
    pulled = went.pulled;
    streams = ap (λ (e : PlainProducer). e.streams) went.end_is ∙ g.streams;
    window = ap (λ (e : PlainProducer). e.window) went.end_is ∙ g.window;
    order =
        let m = mine w r cl n c node session states p.served g.pulled.so in
        let long : length p.served.end.streams ≡ length p0.served.end.streams = ap (λ (xs : List PlainStream). length xs) g.streams in
        let rd = round p.served.end m.kept m.one (omega (arith, long, few)) in
        subst (λ e. Turned p0.served.end e p'.quiet (suc k)) (sym went.end_is)
        (turned_more p0.served.end p.served.end p.quiet p'.quiet k rd.stream rd.behind few g.order rd.order rd.after (went.asked rd.stream rd.turned) went.more);
  }
  next_round p0 k states p few g (states', Stop (p', None)) went = went
  next_round p0 k states p few g (states', Stop (p', Some halted)) went = absurd went

  turns_go : (k : ℕ) (p0 : Pulling) (states : States) → k ≤ length p0.served.end.streams → lets_through p0.served.end.window ≡ true → Goes states p0 → Rounds p0 k (after_reads (repeated_job k one_turn p0) node.shelves states)
  turns_go zero p0 states few through g = record {
    pulled = g;
    streams = refl;
    window = refl;
    order = record { front = []; back = turns_of p0.served.end; order = refl; count = refl; now = sym (append-nil (turns_of p0.served.end)); quiet = λ u i. absurd i };
  }
  turns_go (suc k) p0 states few through g =
      subst (Rounds p0 (suc k)) (sym (after_reads_bind (repeated_job k one_turn p0) (go_on_job one_turn) node.shelves states))
      (by (after_reads (repeated_job k one_turn p0) node.shelves states).0 (after_reads (repeated_job k one_turn p0) node.shelves states).1 (turns_go k p0 states (omega (arith, few)) through g))
    where
      by : (states' : States) (x : Turn Pulling Halting) → Rounds p0 k (states', x) → Rounds p0 (suc k) (after_reads (go_on_job one_turn x) node.shelves states')
      by states' (More p) d = next_round p0 k states' p (omega (arith, few)) d (after_reads (one_turn p) node.shelves states') (one_goes takes exactly w r cl n c node session states' p d.pulled (ap lets_through d.window ∙ through))
      by states' (Stop (p, None)) d = d
      by states' (Stop (p, Some halted)) d = absurd d

  -- ---- frames

  -- where there is no more to put, each stream is quiet
  pub record Stopped (states : States) (s : Served) (halted : Halt) : Type 0 where
    pub so : SoFar w r cl n c node session states s
    pub idle : why_of halted ≡ Why.Idle → (u : PlainStream) → Among u s.end.streams → IsQuietNow w r cl n c node session (after_lines r so.lines) u
    pub rest : why_of halted ≡ Why.WaitSaved → (u : PlainStream) → Among u s.end.streams → RestsNow w r cl n c node session (after_lines r so.lines) u
    pub one : why_of halted ≡ Why.WaitSaved → WaitsNow w r cl n c node session (after_lines r so.lines) s.end.streams
    pub unstated : why_of halted ≡ Why.WaitState → ⊥
    pub unread : why_of halted ≡ Why.Disk → ⊥
    pub full : why_of halted ≡ Why.Full → lets_through s.end.window ≡ false
    pub opens : (why_of halted ≡ Why.Idle) ⊎ (why_of halted ≡ Why.WaitSaved) → lets_through s.end.window ≡ true

  abbrev Frames : States × Turn Pulling (Served × Halt) → Type 0
  Frames (states, More p) = Goes states p
  Frames (states, Stop stopped) = Stopped states stopped.0 stopped.1

  waits_not : (q : QuietOnes) (saves : Bool) → q.waits ≡ wait_of saves → why_of (quiet_halt q) ≡ Why.Idle → saves ≡ false
  waits_not q saves is e = by saves (sym (ap (λ x. why_of (halt_of x)) is) ∙ e)
    where
      by : (b : Bool) → why_of (halt_of (wait_of b)) ≡ Why.Idle → b ≡ false
      by true f = cc
      by false f = refl

  waits_so : (q : QuietOnes) (saves : Bool) → q.waits ≡ wait_of saves → why_of (quiet_halt q) ≡ Why.WaitSaved → saves ≡ true
  waits_so q saves is e = by saves (sym (ap (λ x. why_of (halt_of x)) is) ∙ e)
    where
      by : (b : Bool) → why_of (halt_of (wait_of b)) ≡ Why.WaitSaved → b ≡ true
      by true f = refl
      by false f = cc

  -- nor is it full then, or is a state's answer waited for, or is it for a journal
  neither : (q : QuietOnes) (saves : Bool) (why : Why) → q.waits ≡ wait_of saves → why_of (quiet_halt q) ≡ why → (why ≡ Why.Full → ⊥) × (why ≡ Why.WaitState → ⊥) × (why ≡ Why.Disk → ⊥)
  neither q saves why is e = by saves (sym (ap (λ x. why_of (halt_of x)) is) ∙ e)
    where
      by : (b : Bool) → why_of (halt_of (wait_of b)) ≡ why → (why ≡ Why.Full → ⊥) × (why ≡ Why.WaitState → ⊥) × (why ≡ Why.Disk → ⊥)
      by true f = (λ g. let z : Why.WaitSaved ≡ Why.Full = f ∙ g in cc, λ g. let z : Why.WaitSaved ≡ Why.WaitState = f ∙ g in cc, λ g. let z : Why.WaitSaved ≡ Why.Disk = f ∙ g in cc)
      by false f = (λ g. let z : Why.Idle ≡ Why.Full = f ∙ g in cc, λ g. let z : Why.Idle ≡ Why.WaitState = f ∙ g in cc, λ g. let z : Why.Idle ≡ Why.Disk = f ∙ g in cc)

  -- every stream had its turn
  all_turned : (p0 : Pulling) (states : States) (p : Pulling) → lets_through p0.served.end.window ≡ true → Rounded p0 (length p0.served.end.streams) states p → Stopped states p.served (quiet_halt p.quiet)
  all_turned p0 states p through g = record {
    so = g.pulled.so;
    idle = λ e u i. g.pulled.still (waits_not p.quiet g.pulled.saves g.pulled.waits_is e) u i (asked u i);
    rest = λ e u i. g.pulled.rest u i (asked u i);
    one = λ e. (g.pulled.one (waits_so p.quiet g.pulled.saves g.pulled.waits_is e)).0;
    unstated = λ e. (neither p.quiet g.pulled.saves (why_of (quiet_halt p.quiet)) g.pulled.waits_is refl).1 e;
    unread = λ e. (neither p.quiet g.pulled.saves (why_of (quiet_halt p.quiet)) g.pulled.waits_is refl).2 e;
    full = λ e. absurd ((neither p.quiet g.pulled.saves (why_of (quiet_halt p.quiet)) g.pulled.waits_is refl).0 e);
    opens = λ e. ap lets_through g.window ∙ through;
  }
    where
      asked : (u : PlainStream) → Among u p.served.end.streams → is_quiet u.id p.quiet ≡ true
      asked u i =
          let t = g.order in
          let all : length (t.front ++ t.back) ≡ length p0.served.end.streams = ap (λ (xs : List PlainStream). length xs) (sym t.order) ∙ order_long p0.served.end in
          let none : t.back ≡ [] = none_behind t.front t.back (length p0.served.end.streams) all t.count in
          let there : Among u t.front = subst (Among u) (t.order ∙ ap (λ xs. t.front ++ xs) none ∙ append-nil t.front) (among_order p0.served.end u (subst (Among u) g.streams i)) in
          t.quiet u there

  frame_goes : (p : Pulling) (states : States) → Goes states p → Frames (after_reads (one_frame p) node.shelves states)
  unfolding one_frame
  frame_goes p states g = by (lets_through p.served.end.window) refl
    where
      came : lets_through p.served.end.window ≡ true → (states' : States) (x : Turn Pulling Halting) → Rounds p (length p.served.end.streams) (states', x) → Frames (states', turns_came x)
      came through states' (More p') d = all_turned p states' p' through d
      came through states' (Stop (p', None)) d = d
      came through states' (Stop (p', Some halted)) d = absurd d

      by : (b : Bool) → lets_through p.served.end.window ≡ b → Frames (after_reads (if b then bind_job (repeated_job (length p.served.end.streams) one_turn p) (λ turns. Ended (turns_came turns)) else Ended (Stop (p.served, Halt.Full))) node.shelves states)
      by true through = subst Frames (sym (after_reads_bind (repeated_job (length p.served.end.streams) one_turn p) (λ turns. Ended (turns_came turns)) node.shelves states))
          (came through (after_reads (repeated_job (length p.served.end.streams) one_turn p) node.shelves states).0 (after_reads (repeated_job (length p.served.end.streams) one_turn p) node.shelves states).1 (turns_go (length p.served.end.streams) p states (omega arith) through g))
      by false shut = record { so = g.so; idle = λ e. cc; rest = λ e. cc; one = λ e. cc; unstated = λ e. cc; unread = λ e. cc; full = λ e. shut; opens = λ e. ⊎_elim (λ i. cc) (λ w. cc) e }

  frames_go : (k : ℕ) (p : Pulling) (states : States) → Goes states p → Frames (after_reads (repeated_job k one_frame p) node.shelves states)
  frames_go zero p states g = g
  frames_go (suc k) p states g =
      subst Frames (sym (after_reads_bind (repeated_job k one_frame p) (go_on_job one_frame) node.shelves states))
      (by (after_reads (repeated_job k one_frame p) node.shelves states).0 (after_reads (repeated_job k one_frame p) node.shelves states).1 (frames_go k p states g))
    where
      by : (states' : States) (x : Turn Pulling (Served × Halt)) → Frames (states', x) → Frames (after_reads (go_on_job one_frame x) node.shelves states')
      by states' (More q) d = frame_goes q states' d
      by states' (Stop stopped) d = d

  -- ---- what a pull comes to

  abbrev pub Ends : States × (Served × Halt) → Type 0
  Ends x = Stopped x.0 x.1.0 x.1.1

  pub pull_ends : (k : ℕ) (s : Served) (states : States) → SoFar w r cl n c node session states s → Ends (after_reads (frames_put k s) node.shelves states)
  unfolding frames_put
  pull_ends k s states g =
      let p : Pulling = pull_of s none_quiet in
      subst Ends (sym (after_reads_bind (repeated_job k one_frame p) pulled node.shelves states))
      (by (after_reads (repeated_job k one_frame p) node.shelves states).0 (after_reads (repeated_job k one_frame p) node.shelves states).1 (frames_go k p states (record { so = g; saves = false; waits_is = refl; still = λ none u i quiet. let z : true ≡ false = sym quiet in cc; rest = λ u i quiet. let z : true ≡ false = sym quiet in cc; one = λ waits. cc })))
    where
      by : (states' : States) (x : Turn Pulling (Served × Halt)) → Frames (states', x) → Ends (after_reads (pulled x) node.shelves states')
      by states' (More p) d = record { so = d.so; idle = λ e. cc; rest = λ e. cc; one = λ e. cc; unstated = λ e. cc; unread = λ e. cc; full = λ e. cc; opens = λ e. ⊎_elim (λ i. cc) (λ w. cc) e }
      by states' (Stop stopped) d = d
