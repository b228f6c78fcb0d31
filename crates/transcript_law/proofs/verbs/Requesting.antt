-- lines that send a client's bytes, and outcomes that are posted to it: all lines are lawful, and after them all agree
use Rattle.std.specs.Prelude.{◌≡◌, ◌<◌, ◌^◌, ◌++◌, ◌==◌, if◌then◌else◌}
use Rattle.transcript_law.proofs.Words.{ℕ, Bool, true, false, List, [], refl, ap, sym, ◌∙◌, subst, inl, inr, arith, append_assoc, All-append, Option, Some, None, Pend, is_some, eq-eqb, eqb-true, Answer, AreBytes, StaysSound, States, after, left_open, PlainNode, PlainWorld, with_node_at, bytes_if, bytes_at, Chronicle, after_lines}
use Rattle.client_session.specs.Serving.{PlainSession, served}
use Rattle.client_session.specs.declared.session.Awaited.{Awaited}
use Rattle.node_core.specs.Clients.{Handling, PlainClient, client_fed, client_posted}
use Rattle.transcript_law.proofs.disks.Disks.{beside_in, power_in}
use Rattle.durability.specs.declared.waiting.Waiting.{Waiting}
use Rattle.transcript_law.proofs.answers.{Claims.{IsOf}, Committed.{HowTold}}
use Rattle.transcript_law.proofs.indexers.{Hands.{Goes, InHand, Over, by_hand, mine}, Passed.{passed}, Questions.{more_asks, more_next}, Serving.{session_agrees}, SessionFrames.{faulty, framed, outcome_framed}, Shutting.{over}, Turns.{fed_goes, posted_goes}, Worlds.{client_here, node_with, step_quiet, stepped, vb_here, waited, world_with}, Flows.{flow_bytes}}
use Rattle.transcript_law.proofs.invariant.{Agreement.{Agrees, GoesOn, is_down, power_of}, ClientsTold.{ClientAgrees}, Ranged.{NodeRanged, SessionRangedIf}, Sessions.{IsNumbered, awaited_numbered}, Tables.{at_here}}
use Rattle.transcript_law.proofs.{lines.Telling.{LawfulBefore, before_all, none_before}, verbs.{NodeLines.{agrees_same, as_told, node_again, node_of_same_vbs, refused_on}, Settling.{Steady}}}
use Rattle.transcript_law.specs.{Chronicles.{after_bytes}, LawfulAnswers.{AllDurable, IsStill}, ClientStreams.{with_sent_bytes}, StreamsTold.{ClientKnown}}
use Rattle.vb_calls.specs.declared.calls.Resolved.{Resolved}
use Rattle.vb_events.specs.declared.event.Cause.TheVariants.{LinkClosed}

-- the node with its connection put again is as it was
beside_put : (w : PlainWorld) (n c : ℕ) (node : PlainNode) (client : PlainClient) → node.clients c ≡ Some client → beside_in (Some (node_with w n c node node.vbs (Some client))) ≡ beside_in (Some node)
beside_put w n c node client there = λ i. Some (record { power = record { arm = node.arm; off = node.off; clock = node.clock }; clients = λ d. same d i })
  where
    same : (d : ℕ) → (if d == c then Some client else node.clients d) ≡ node.clients d
    same d = elim (d == c) as (λ b. (d == c) ≡ b → (if b then Some client else node.clients d) ≡ node.clients d) [ true ↦ λ e. sym there ∙ ap node.clients (sym (eqb-true d c e)) | false ↦ λ e. refl ] refl

put_client : (w : PlainWorld) (r : Chronicle) (n c : ℕ) (node : PlainNode) (client : PlainClient) → w.nodes n ≡ Some node → node.clients c ≡ Some client → Agrees w r → Agrees (world_with w n c node node.vbs (Some client)) r
put_client w r n c node client known there a = agrees_same w (world_with w n c node node.vbs (Some client)) r a (node_of_same_vbs w n node (node_with w n c node node.vbs (Some client)) known (λ q. refl) (λ q. refl) (beside_put w n c node client there))

-- also where the node was put
pub client_again : (w : PlainWorld) (r : Chronicle) (n c : ℕ) (node : PlainNode) (client : PlainClient) → node.clients c ≡ Some client → Agrees (with_node_at w n node) r → Agrees (world_with w n c node node.vbs (Some client)) r
client_again w r n c node client there a = agrees_same (with_node_at w n node) (world_with w n c node node.vbs (Some client)) r a (node_again w n node (node_with w n c node node.vbs (Some client)) (λ q. refl) (λ q. refl) (beside_put w n c node client there))

-- a node with a connection runs
pub runs_with : (n c : ℕ) (node : PlainNode) (client : PlainClient) → node.clients c ≡ Some client → NodeRanged n node → is_some node.off ≡ false
runs_with n c node client there ranged = by (is_some node.off) refl
  where
    by : (b : Bool) → is_some node.off ≡ b → b ≡ false
    by true down = let z : None ≡ Some client = sym (ranged.runs down c) ∙ there in cc
    by false up = refl

module _ (stays : StaysSound) (steady : Steady) (w : PlainWorld) (n c : ℕ) (node : PlainNode) (small : node.clock < 2 ^ 64) (up : is_some node.off ≡ false) where
  running : (states : States) (o : Option PlainClient) → is_down (power_of (world_with w n c node states o) n) ≡ false
  running states o = ap (λ b. is_down (power_in (if b then Some (node_with w n c node states o) else w.nodes n))) (eq-eqb n n refl) ∙ up

  module _ (r : Chronicle) where
    abbrev P : States × Handling → Type 0
    P x = InHand w n c node r x.0 x.1

    -- what it comes to: the node is left with the connection, where that is open, and no set and no removal waits to be answered
    pub record Comes (x : States × Handling) : Type 0 where
      pub lawful : LawfulBefore r x.1.events
      pub agrees : Agrees (world_with w n c node x.0 (left_open x.1.client)) (after_lines r x.1.events)
      pub calm : AllDurable (after_lines r x.1.events).made

    open_came : (states : States) (h : Handling) → Goes w n c node r states h.events h.client → Comes (states, h)
    open_came states h g = record {
      lawful = g.lawful;
      agrees = subst (λ b. Agrees (world_with w n c node states (if b then None else Some h.client)) (after_lines r h.events)) (sym (mine w n c node r g).alive) g.agrees;
      calm = g.calm;
    }

    over_came : (states : States) (h : Handling) → Over w n c node r states h.events h.client → Comes (states, h)
    over_came states h o = record {
      lawful = o.lawful;
      agrees = subst (λ b. Agrees (world_with w n c node states (if b then None else Some h.client)) (after_lines r h.events)) (sym o.closed) o.agrees;
      calm = o.calm;
    }

    came : (states : States) (h : Handling) → h.dcp ≡ None → InHand w n c node r states h → Comes (states, h)
    came states h rest hand = by_hand w n c node r hand (open_came states h) (λ f asked. let z : None ≡ Some f = sym rest ∙ asked in absurd cc) (over_came states h)

    -- bytes
    pub fed_comes : (client : PlainClient) (bytes : List ℕ) → client.session.closed ≡ false → Goes w n c node r node.vbs [] (record client { session = record client.session { reader = client.session.reader ++ bytes } })
        → Comes (after (client_fed node.clock bytes client) node.vbs)
    fed_comes client bytes alive g =
        let rests = fed_goes P node.clock (λ before producer f states s. framed w n c node r stays steady node.clock small refl before producer f states s) (λ before producer fault states s. faulty w n c node r before producer fault states s)
        (λ f states h. passed w n c node r running f states h) (λ states h. over w n c node r states h) bytes client node.vbs alive (InHand.IsOpen refl g) in
        let x = after (client_fed node.clock bytes client) node.vbs in came x.0 x.1 rests.1 rests.0

    -- an outcome
    pub posted_comes : (client : PlainClient) (o : Resolved) (Claim : ℕ → Waiting → Pend → Type 0) (a : Awaited) → client.session.awaited ≡ Some a → (a.waiter == o.waiter) ≡ true → IsNumbered client.session.awaited → IsOf r n c a Claim → HowTold n r Claim o → Goes w n c node r node.vbs [] client → Comes (after (client_posted node.clock o client) node.vbs)
    posted_comes client o Claim a waits same numbered owns told g =
        let rests = posted_goes P node.clock (λ before producer f states s. framed w n c node r stays steady node.clock small refl before producer f states s) (λ before producer fault states s. faulty w n c node r before producer fault states s)
        (λ f states h. passed w n c node r running f states h) (λ states h. over w n c node r states h) o client node.vbs a waits same
        (outcome_framed w n c node r stays steady node.clock small refl [] client.producer a o.how Claim node.vbs (served client.session []) waits (awaited_numbered client.session a numbered waits) owns (subst (λ k. HowTold n r Claim (record { waiter = k; how = o.how })) (sym (eqb-true a.waiter o.waiter same)) told) g refl) in
        let x = after (client_posted node.clock o client) node.vbs in came x.0 x.1 rests.1 rests.0

-- more bytes came, and are known
more_goes : (w : PlainWorld) (r : Chronicle) (n c : ℕ) (node : PlainNode) (client : PlainClient) (bytes : List ℕ) → AreBytes client.session.reader → AreBytes bytes → IsStill r → Agrees (world_with w n c node node.vbs (Some client)) r
    → Goes w n c node (after_bytes r n c bytes Answer.Ok) node.vbs [] (record client { session = record client.session { reader = client.session.reader ++ bytes } })
more_goes w r n c node client bytes kept more calm a =
    let session : PlainSession = record client.session { reader = client.session.reader ++ bytes } in
    let client' : PlainClient = record client { session = session } in
    let old : PlainWorld = world_with w n c node node.vbs (Some client) in let new : PlainWorld = world_with w n c node node.vbs (Some client') in
    let known : ClientKnown = with_sent_bytes bytes (r.clients_at n c) in
    let own : ClientAgrees old r n c client = a.1.clients.each n c client (client_here w n c node node.vbs (Some client)) in
    let step = step_quiet w n c node node.vbs node.vbs (Some client) (Some client') (λ q. refl) in
    let told : ClientAgrees new (after_bytes r n c bytes Answer.Ok) n c client' =
    session_agrees old new r (after_bytes r n c bytes Answer.Ok) n c client session own known (at_here r.clients_at n c known) refl (refl, refl, refl) refl refl
    (ap (λ l. l ++ bytes) own.heard.bytes ∙ append_assoc own.heard.front client.session.reader bytes) (more_asks (r.clients_at n c).asking client.session client.producer.handshake bytes own.asks) (flow_bytes (r.clients_at n c).flow client.session client.producer.handshake client.producer.window bytes own.flow) refl refl refl (λ v. vb_here w n c node node.vbs (Some client') v ∙ sym (vb_here w n c node node.vbs (Some client) v)) in
    record {
      lawful = none_before (after_bytes r n c bytes Answer.Ok);
      agrees = (
        a.0,
        stepped w n c node node.vbs node.vbs client client' r known a.0 a.1 step (λ v id has. inl has) told
            (waited w n c node node.vbs node.vbs client client' r known a.0 a.1 step (record { who = refl; used = omega arith; few = λ l. l; waits = λ x e. inr (e, (λ q asks. more_next (r.clients_at n c).asking client.session client.producer.handshake bytes own.asks x e q asks), refl, refl, refl); answered = inl (refl, λ idle. idle) })),
      );
      bytes = All-append (λ b. b < 256) client.session.reader bytes kept more;
      calm = calm.0;
      still = λ free. calm.1;
    }

-- `bytes N C HEX`
pub bytes_goes : StaysSound → Steady → (w : PlainWorld) (r : Chronicle) (n c : ℕ) (bytes : List ℕ) (node : PlainNode) → AreBytes bytes → NodeRanged n node → IsStill r → Agrees w r → w.nodes n ≡ Some node
    → GoesOn (after_bytes r n c bytes (bytes_at c bytes node).1.answer) as_told (with_node_at w n (bytes_at c bytes node).0, (bytes_at c bytes node).1)
bytes_goes stays steady w r n c bytes node are ranged calm a known = by (node.clients c) refl (ranged.clients c)
  where
    by : (o : Option PlainClient) → node.clients c ≡ o → SessionRangedIf n o → (let x = bytes_if c bytes node o in GoesOn (after_bytes r n c bytes x.1.answer) as_told (with_node_at w n x.0, x.1))
    by None none there = refused_on w r n node LinkClosed a known
    by (Some client) is there =
        let here : Agrees (world_with w n c node node.vbs (Some client)) r = put_client w r n c node client known is a in
        let own : ClientAgrees (world_with w n c node node.vbs (Some client)) r n c client = here.1.clients.each n c client (client_here w n c node node.vbs (Some client)) in
        let came = fed_comes stays steady w n c node ranged.clock (runs_with n c node client is ranged) (after_bytes r n c bytes Answer.Ok) client bytes own.alive (more_goes w r n c node client bytes there.bytes are calm here) in
        (before_all (after_bytes r n c bytes Answer.Ok) (bytes_if c bytes node (Some client)).1.events came.lawful, came.agrees)
