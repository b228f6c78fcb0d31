-- the frames that a line has a producer put: that all goes on, what they tell, and why no more were put
use Rattle.transcript_law.proofs.links.PumpEnds.{PutsSo, puts_none}
use Rattle.node_world.specs.Links.{with_server}
use Rattle.std.specs.Prelude.{◌≡◌, ◌⊎◌, ◌++◌}
use Rattle.transcript_law.proofs.Words.{ℕ, zero, suc, Bool, List, [], true, false, refl, ap, sym, ◌∙◌, subst, inl, inr, append-nil, Some, StaysSound, TakesSnapshots, Turn, More, Stop, row_at, row_put, States}
use Rattle.transcript_law.proofs.Words.{frames_put, pulled, Halt, Served, begun, pull_result, PlainLink, link_number, producer_node, peer_of, pump_at, PlainNode, Event, PlainStream}
use Rattle.transcript_law.proofs.Words.{PlainWorld, with_states, with_node_at, with_link, on_link, Chronicle, PullResult, peer_pulled, after_lines, link_outcome, node_outcome, refusal, why_of, Answer, Cause, Option, None, Outcome, Why, All, All-head}
use Rattle.{dcp_producer.specs.Pulling.{Pulling, none_quiet, one_frame, pull_of}}
use Rattle.transcript_law.proofs.invariant.Agreement.{idle, Agrees, GoesOn}
use Rattle.transcript_law.proofs.{invariant.Carrying.{Relinked}, invariant.OneLink.{carries_same}}
use Rattle.transcript_law.proofs.invariant.{LinkRows.{found_is_link, put_is_found, put_links, put_same}, Noted.{AllKept, KeptLink}}
use Rattle.transcript_law.proofs.links.{PumpWorlds.{OthersKept, Halted, HasStep, LinkKnown, Waited, has_waited, SoFar, Stepped, stepped_first, Stopped, TurnSoFar, TurnsSoFar, pumped}, PullTurns.{turn}}
use Rattle.transcript_law.proofs.links.PumpAnswers.{pump_says}
use Rattle.dcp_producer.proofs.OneStream.{shut_frame_of}
use Rattle.transcript_law.proofs.Words.{PlainProducer, list_any, ⊎_elim}
use Rattle.{node_core.proofs.GivingLaws.{shut}}
use Rattle.{transcript_law.specs.{TakeoverLines.{TakeoverFrom}, Tellings.{are_all, is_of_pump}, TakeoverNotes.{is_state_of}, Pulls.{PutsAsTold}, LineAnswers.{IsPumped}}}
use Rattle.transcript_law.proofs.{disks.Disks.{power_in}, invariant.Agreement.{IsLink, is_running}, lines.Pulling.{lets_through}}
use Rattle.transcript_law.proofs.verbs.{NodeLines.{as_told, node_of_same_vbs}}
use Rattle.vb_calls.proofs.JobReadings.{after_reads_bind}
use Rattle.vb_calls.specs.Jobs.{Ended, after_reads, go_on_job, repeated_job}
use Rattle.transcript_law.proofs.lines.Reads.{pump_read, pump_reads, pumps_read}

-- no pull is answered as it is refused, or for another reason
is_pulled : Answer → Bool
is_pulled (Answer.Pulled n why) = true
is_pulled other = false

pub no_pulled : {A : Type 0} {why : Why} {n : ℕ} → Answer.No Cause.LinkClosed ≡ Answer.Pulled n why → A
unfolding is_pulled
no_pulled e = let z : false ≡ true = ap is_pulled e in cc

is_wait : Why → Bool
is_wait Why.WaitState = true
is_wait other = false

pub all_state : Why.All ≡ Why.WaitState → ⊥
unfolding is_wait
all_state e = let z : false ≡ true = ap is_wait e in cc

full_state : Why.Full ≡ Why.WaitState → ⊥
unfolding is_wait
full_state e = let z : false ≡ true = ap is_wait e in cc

-- the producer's node of a link is made
pub made : (w : PlainWorld) (r : Chronicle) → Agrees w r → (link : PlainLink) → IsLink link w.links → (node : PlainNode) × (w.nodes (producer_node link) ≡ Some node)
made w r a link is_link = by (w.nodes (producer_node link)) refl
  where
    by : (o : Option PlainNode) → w.nodes (producer_node link) ≡ o → (node : PlainNode) × (w.nodes (producer_node link) ≡ Some node)
    by None e = let z : false ≡ true = sym (ap (λ o. is_running (power_in o)) e) ∙ (a.1.ends link is_link).producer in cc
    by (Some node) e = (node, e)

-- the link behind them: its consumer, and what is on its way up, are as they were
pub record PutLink (r : Chronicle) (l : ℕ) (lines : List Event) (x x' : PlainLink) : Type 0 where
  pub consumer : x'.consumer ≡ x.consumer
  pub heard : x'.up_heard ≡ x.up_heard
  pub up : x'.up ≡ x.up
  pub steps : Stepped l x.server.streams lines x'.server.streams
  pub down_heard : x'.down_heard ≡ x.down_heard
  pub out : List ℕ
  pub down : x'.down ≡ x.down ++ out
  pub ends : PutsSo r x out

-- ---- the frames of a pump

-- what they come to: all goes on, and why no more were put; all lines are frames of the link, as many as are answered
pub record PutsOn (w : PlainWorld) (frames : ℕ) (r : Chronicle) (l : ℕ) (o : Outcome) : Type 0 where
  pub goes : GoesOn r as_told o
  pub hands : TakeoverFrom r o.1.events
  pub own : are_all (is_of_pump l) o.1.events ≡ true
  pub counted : (n : ℕ) (why : Why) → o.1.answer ≡ Answer.Pulled n why → PutsAsTold frames o.1.events n why
  pub waits : (n : ℕ) → o.1.answer ≡ Answer.Pulled n Why.WaitState → (list_any (is_state_of l) o.1.events ≡ true) ⊎ ((x : PlainLink) × (row_at link_number l w.links ≡ Some x) × Waited x.server.streams × (lets_through x.server ≡ true))
  pub stops : (n : ℕ) (why : Why) → o.1.answer ≡ Answer.Pulled n why → Stopped (after_lines r o.1.events) l why
  pub came : (x : PlainLink) → row_at link_number l w.links ≡ Some x → (x' : PlainLink) × (row_at link_number l o.0.links ≡ Some x') × PutLink r l o.1.events x x'
  pub beside : (x : PlainLink) → IsLink x o.0.links → (link_number x ≡ l → ⊥) → IsLink x w.links
  pub kept : AllKept w r → AllKept o.0 (after_lines r o.1.events)

module _ (takes : TakesSnapshots) (stays : StaysSound) where
  module _ (w : PlainWorld) (r : Chronicle) (link : PlainLink) (node : PlainNode) (found : row_at link_number (link_number link) w.links ≡ Some link) where
    abbrev pub l : ℕ
    l = link_number link

    next_turn : (states : States) (x : Turn Pulling (Served × Halt)) → TurnSoFar w r l link node states x → TurnsSoFar w r l link node (after_reads (go_on_job one_frame x) node.shelves states)
    next_turn states (More p) g = subst (λ q. TurnsSoFar w r l link node (after_reads (one_frame (pull_of p.served q)) node.shelves states)) (sym g.1) (turn w r l link node found states p.served g.0 takes stays)
    next_turn states (Stop stopped) g = g

    pub turns : (k : ℕ) (states : States) (s : Served) → SoFar w r l link node states s → TurnsSoFar w r l link node (after_reads (repeated_job k one_frame (pull_of s none_quiet)) node.shelves states)
    turns zero states s g = (g, refl)
    turns (suc k) states s g =
        let p : Pulling = pull_of s none_quiet in
        subst (TurnsSoFar w r l link node) (sym (after_reads_bind (repeated_job k one_frame p) (go_on_job one_frame) node.shelves states))
        (next_turn (after_reads (repeated_job k one_frame p) node.shelves states).0 (after_reads (repeated_job k one_frame p) node.shelves states).1 (turns k states s g))

    abbrev Gone : States × PullResult → Type 0
    Gone y = GoesOn r (λ x. x) (with_link link (with_node_at w (producer_node link) (pump_read link node y).0, (pump_read link node y).1))

    -- what is told of the line
    abbrev pub known_of : States × (Served × Halt) → States × PullResult
    known_of x = (x.0, pull_result link.up_heard x.1)

    ended : (states : States) (x : Turn Pulling (Served × Halt)) → TurnSoFar w r l link node states x → Gone (known_of (after_reads (pulled x) node.shelves states))
    ended states (More p) g = (g.0.lawful, g.0.agrees)
    ended states (Stop stopped) g = (g.0.lawful, g.0.agrees)

    -- and why no more was put, and for what it waits; and what its lines say
    pub record Stops (y : States × PullResult) : Type 0 where
      pub stopped : (n : ℕ) (why : Why) → y.1.answer ≡ Answer.Pulled n why → Stopped (after_lines r y.1.events) l why
      pub waits : (n : ℕ) → y.1.answer ≡ Answer.Pulled n Why.WaitState → (list_any (is_state_of l) y.1.events ≡ true) ⊎ Waited link.server.streams
      pub hands : TakeoverFrom r y.1.events
      pub own : are_all (is_of_pump l) y.1.events ≡ true
      pub heard : y.1.peer.heard ≡ link.up_heard
      pub steps : Stepped l link.server.streams y.1.events y.1.peer.producer.streams
      pub kept : KeptLink (after_lines r y.1.events) (with_server link y.1.peer y.1.out)
      pub beside : OthersKept w l r (after_lines r y.1.events)
      pub ends : PutsSo r link y.1.out

    all_stopped : (q : Chronicle) → Stopped q l Why.All
    all_stopped q = record { idle = λ e. cc; saved = λ e. cc; state = λ e. cc; unread = λ e. cc }

    waits_from : (events : List Event) (end : PlainProducer) (why : Why) → Halted end why → why ≡ Why.WaitState → Stepped l link.server.streams events end.streams → (list_any (is_state_of l) events ≡ true) ⊎ Waited link.server.streams
    waits_from events end why halted is stepped =
        let (stream, one, going, waits) = halted.waiting is in
        has_waited (list_any (is_state_of l) events) stream link.server.streams
        (All-head (λ (y : PlainStream). HasStep (list_any (is_state_of l) events) y link.server.streams) stream [] (subst (All (λ (y : PlainStream). HasStep (list_any (is_state_of l) events) y link.server.streams)) one stepped)) going waits

    stops : (states : States) (x : Turn Pulling (Served × Halt)) → TurnSoFar w r l link node states x → Stops (known_of (after_reads (pulled x) node.shelves states))
    stops states (More p) g = record {
      stopped = λ n why e. let is : Why.All ≡ why = cc in subst (Stopped (after_lines r p.served.events) l) is (all_stopped (after_lines r p.served.events));
      waits = λ n e. let is : Why.All ≡ Why.WaitState = cc in cc;
      hands = g.0.hands;
      own = g.0.own;
      heard = refl;
      steps = g.0.stepped;
      kept = g.0.known.kept;
      beside = g.0.beside;
      ends = g.0.ends;
    }
    stops states (Stop stopped) g = record {
      stopped = λ n why e. let is : why_of stopped.1 ≡ why = cc in subst (Stopped (after_lines r stopped.0.events) l) is g.1;
      waits = λ n e. let is : why_of stopped.1 ≡ Why.WaitState = cc in waits_from stopped.0.events stopped.0.end (why_of stopped.1) g.2 is g.0.stepped;
      hands = g.0.hands;
      own = g.0.own;
      heard = refl;
      steps = g.0.stepped;
      kept = g.0.known.kept;
      beside = g.0.beside;
      ends = g.0.ends;
    }

    module _ (a : Agrees w r) (known : w.nodes (producer_node link) ≡ Some node) (noted : LinkKnown r r link) where
      abbrev pub first : Served
      first = begun link.server

      same : Relinked w (with_node_at w (producer_node link) (with_states node node.vbs)) w.links
      same = node_of_same_vbs w (producer_node link) node (with_states node node.vbs) known (λ q. refl) (λ q. refl) refl

      pub first_so_far : SoFar w r l link node node.vbs first
      first_so_far = record {
        lawful = tt;
        quiet = tt;
        desk = refl;
        agrees = (
          a.0,
          carries_same idle idle w (pumped w l link node node.vbs first) r a.0 a.1
              (record { powers = same.powers; vbs = same.vbs; shelves = same.shelves; uuids = refl; linked = ap (λ x. row_put link_number l (record link { down = x }) w.links) (append-nil link.down) ∙ put_same l w.links link found }) (λ k. refl),
        );
        known = record { noted = record { dialed = noted.noted.dialed; each = noted.noted.each }; owned = noted.owned; kept = noted.kept };
        stepped = stepped_first l link.server.streams;
        hands = tt;
        own = refl;
        beside = λ x i ne k. k;
        ends = puts_none r link;
      }

      node_goes : (frames : ℕ) → Gone (after_reads (peer_pulled frames (peer_of link)) node.shelves node.vbs)
      unfolding frames_put
      node_goes frames =
          let x = after_reads (repeated_job frames one_frame (pull_of first none_quiet)) node.shelves node.vbs in
          subst Gone
          (sym (after_reads_bind (frames_put frames first) (λ put. Ended (pull_result link.up_heard put)) node.shelves node.vbs ∙ ap known_of (after_reads_bind (repeated_job frames one_frame (pull_of first none_quiet)) pulled node.shelves node.vbs)))
          (ended x.0 x.1 (turns frames node.vbs first first_so_far))

      node_stops : (frames : ℕ) → Stops (after_reads (peer_pulled frames (peer_of link)) node.shelves node.vbs)
      unfolding frames_put
      node_stops frames =
          let x = after_reads (repeated_job frames one_frame (pull_of first none_quiet)) node.shelves node.vbs in
          subst Stops
          (sym (after_reads_bind (frames_put frames first) (λ put. Ended (pull_result link.up_heard put)) node.shelves node.vbs ∙ ap known_of (after_reads_bind (repeated_job frames one_frame (pull_of first none_quiet)) pulled node.shelves node.vbs)))
          (stops x.0 x.1 (turns frames node.vbs first first_so_far))

      -- through a window that is shut nothing goes
      abbrev ShutAt : Turn Pulling (Served × Halt) → Type 0
      ShutAt (More p) = p ≡ pull_of first none_quiet
      ShutAt (Stop stopped) = why_of stopped.1 ≡ Why.Full

      shut_next : lets_through link.server ≡ false → (states : States) (x : Turn Pulling (Served × Halt)) → ShutAt x → ShutAt (after_reads (go_on_job one_frame x) node.shelves states).1
      shut_next shut states (More p) e = subst (λ q. ShutAt (after_reads (one_frame q) node.shelves states).1) (sym e) (subst (λ prog. ShutAt (after_reads prog node.shelves states).1) (sym (shut_frame_of first none_quiet shut)) refl)
      shut_next shut states (Stop stopped) e = e

      shut_turns : lets_through link.server ≡ false → (k : ℕ) → ShutAt (after_reads (repeated_job k one_frame (pull_of first none_quiet)) node.shelves node.vbs).1
      shut_turns shut zero = refl
      shut_turns shut (suc k) =
          let x = after_reads (repeated_job k one_frame (pull_of first none_quiet)) node.shelves node.vbs in
          subst (λ (y : States × Turn Pulling (Served × Halt)). ShutAt y.1) (sym (after_reads_bind (repeated_job k one_frame (pull_of first none_quiet)) (go_on_job one_frame) node.shelves node.vbs)) (shut_next shut x.0 x.1 (shut_turns shut k))

      abbrev Frees : States × PullResult → Type 0
      Frees y = (n : ℕ) → y.1.answer ≡ Answer.Pulled n Why.WaitState → ⊥

      shut_says : (states : States) (x : Turn Pulling (Served × Halt)) → ShutAt x → Frees (known_of (after_reads (pulled x) node.shelves states))
      shut_says states (More p) e n q = let z : Why.All ≡ Why.WaitState = cc in all_state z
      shut_says states (Stop stopped) e n q = let is : why_of stopped.1 ≡ Why.WaitState = cc in full_state (sym e ∙ is)

      node_shut : (frames : ℕ) → lets_through link.server ≡ false → Frees (after_reads (peer_pulled frames (peer_of link)) node.shelves node.vbs)
      unfolding frames_put
      node_shut frames shut =
          let x = after_reads (repeated_job frames one_frame (pull_of first none_quiet)) node.shelves node.vbs in
          subst Frees
          (sym (after_reads_bind (frames_put frames first) (λ put. Ended (pull_result link.up_heard put)) node.shelves node.vbs ∙ ap known_of (after_reads_bind (repeated_job frames one_frame (pull_of first none_quiet)) pulled node.shelves node.vbs)))
          (shut_says x.0 x.1 (shut_turns shut frames))

  pub frames_go : (w : PlainWorld) (r : Chronicle) (l frames : ℕ) (link : PlainLink) (node : PlainNode) → Agrees w r → row_at link_number l w.links ≡ Some link → w.nodes (producer_node link) ≡ Some node → LinkKnown r r link → PutsOn w frames r l (on_link w l producer_node (pump_at frames))
  frames_go w r l frames link node a found known noted =
      let number : link_number link ≡ l = (found_is_link l w.links link found).1 in
      let there : row_at link_number (link_number link) w.links ≡ Some link = subst (λ k. row_at link_number k w.links ≡ Some link) (sym number) found in
      let is : on_link w l producer_node (pump_at frames) ≡ with_link link (with_node_at w (producer_node link) (pump_read link node (after_reads (peer_pulled frames (peer_of link)) node.shelves node.vbs)).0, (pump_read link node (after_reads (peer_pulled frames (peer_of link)) node.shelves node.vbs)).1) =
      ap (on_link w l producer_node) (pumps_read frames) ∙ ap (link_outcome w l producer_node (pump_reads frames)) found ∙ ap (λ o. with_link link (node_outcome w (producer_node link) (Some link, refusal Cause.UnknownNode) o (pump_reads frames link))) known in
      let y = after_reads (peer_pulled frames (peer_of link)) node.shelves node.vbs in
      let x = node_stops w r link node there a known noted frames in
      let told : IsPumped None frames y.1.events y.1.answer = subst (λ pump. IsPumped None frames (pump link node).1.1.events (pump link node).1.1.answer) (pumps_read frames) (pump_says None frames link node).0 in
      subst (PutsOn w frames r l) (sym is) (record {
        goes = node_goes w r link node there a known noted frames;
        hands = x.hands;
        own = subst (λ k. are_all (is_of_pump k) y.1.events ≡ true) number x.own;
        counted = λ n why e. subst (IsPumped None frames y.1.events) e told;
        waits = λ n e. ⊎_elim (λ z. inl (subst (λ k. list_any (is_state_of k) y.1.events ≡ true) number z)) (λ z. inr (link, found, z, by (lets_through link.server) refl n e)) (x.waits n e);
        stops = λ n why e. subst (λ k. Stopped (after_lines r y.1.events) k why) number (x.stopped n why e);
        beside = λ x i ne. ⊎_elim (λ same. absurd (ne (ap link_number same ∙ number))) (λ k. k.0) (put_links (link_number link) w.links link (with_server link y.1.peer y.1.out) x a.1.differ there refl i);
        kept = λ all z i. ⊎_elim
            (λ same. subst (KeptLink (after_lines r y.1.events)) (sym same) x.kept)
            (λ k. x.beside z k.0 k.1 (all z k.0))
            (put_links (link_number link) w.links link (with_server link y.1.peer y.1.out) z a.1.differ there refl i);
        came = λ old e.
            let both : Some link ≡ Some old = sym found ∙ e in let it : link ≡ old = cc in
            let link' : PlainLink = with_server link y.1.peer y.1.out in (
              link',
              ap (λ k. row_at link_number l (row_put link_number k link' w.links)) number ∙ put_is_found l w.links link link' found number,
              subst (λ z. PutLink r l y.1.events z link') it (record { consumer = refl; heard = x.heard; up = refl; steps = subst (λ k. Stepped k link.server.streams y.1.events y.1.peer.producer.streams) number x.steps; down_heard = refl; out = y.1.out; down = refl; ends = x.ends }),
            );
      })
    where
      there' : row_at link_number (link_number link) w.links ≡ Some link
      there' = subst (λ k. row_at link_number k w.links ≡ Some link) (sym (found_is_link l w.links link found).1) found

      by : (b : Bool) → lets_through link.server ≡ b → (n : ℕ) → (after_reads (peer_pulled frames (peer_of link)) node.shelves node.vbs).1.answer ≡ Answer.Pulled n Why.WaitState → lets_through link.server ≡ true
      by true e n q = e
      by false e n q = absurd (node_shut w r link node there' a known noted frames e n q)

  pub frames_on : (w : PlainWorld) (r : Chronicle) (l frames : ℕ) → Agrees w r → ((link : PlainLink) → row_at link_number l w.links ≡ Some link → LinkKnown r r link) → PutsOn w frames r l (on_link w l producer_node (pump_at frames))
  frames_on w r l frames a known = by (row_at link_number l w.links) refl
    where
      by : (o : Option PlainLink) → row_at link_number l w.links ≡ o → PutsOn w frames r l (on_link w l producer_node (pump_at frames))
      by None e = subst (PutsOn w frames r l) (sym (ap (link_outcome w l producer_node (pump_at frames)) e)) (record { goes = (tt, a); hands = tt; own = refl; counted = λ n why q. absurd (no_pulled q); waits = λ n q. absurd (no_pulled q); stops = λ n why q. absurd (no_pulled q); came = λ x q. let z : None ≡ Some x = sym e ∙ q in cc; beside = λ x i ne. i; kept = λ all. all })
      by (Some link) e = let (node, there) = made w r a link (found_is_link l w.links link e).0 in frames_go w r l frames link node a e there (known link e)
