-- a line `pull`: its lines are lawful, all agrees behind it, and where it is idle nothing more is to be put
use Rattle.std.specs.Prelude.{◌≡◌, ◌⊎◌, ◌==◌, if◌then◌else◌}
use Rattle.transcript_law.proofs.Words.{ℕ, true, false, [], refl, sym, ap, ◌∙◌, subst, inl, inr, ⊎_elim, Option, Some, None, eqb-true, Answer, Cause, Chronicle, Cluster, Halt, LawfulFrom, PlainNode, PlainStream, PlainWorld, Served, States, TakesSnapshots, Told, Why, after_lines, begun, on_node, why_of, with_client, with_node_at, with_states}
unfoldable use Rattle.dcp_producer.specs.Pulling.{frames_put}
use Rattle.dcp_producer.specs.Producers.{stream_at as kept_at}
use Rattle.flow_control.specs.Windows.{is_open as lets_through}
use Rattle.mcbp_frame.specs.{Cutting.{frame_in}, Frames.{first_frame}}
unfoldable use Rattle.node_core.specs.Clients.{with_replies}
use Rattle.node_core.specs.Clients.{ClientPulled, PlainClient, client_pull, client_pulled}
use Rattle.node_world.specs.Nodes.{pull_at, pull_if, with_conn}
use Rattle.transcript_law.proofs.indexers.{Flows.{now_is}, Framed.{SoFar, WaitsNow, mine}, Fronts.{Stopped, pull_ends}, Moments.{served_is}, Owning.{stream_known}, Replied.{lawful_all, tells_all, tells_none}, Worlds.{client_here, world_with}}
use Rattle.transcript_law.proofs.invariant.{Agreement.{Agrees, AgreesIn, GoesOn, idle, vb_of}, ClientsKept.{at_vb}, ClientsTold.{ClientAgrees, KeptIs}, OpenStreams.{Among, at_among}, Ranged.{IsRanged, NodeRanged, NodeRangedIf, SessionRangedIf}}
use Rattle.transcript_law.proofs.verbs.NodeLines.{as_told, on_node_by, on_node_goes, refused_on}
use Rattle.transcript_law.specs.{Asked.{ArePairs}, ClientFrames.{is_closed_by}, LawfulClients.{AllOpen, AllQuiet, AllRest, IsQuiet, OneWaits, WaitsSaved}, Questions.{flow_now, served_frames}, StreamsTold.{ClientStream}}
use Rattle.vbucket.specs.Takes.{TakesExactly}
use Rattle.vb_calls.proofs.JobReadings.{after_reads_bind}
use Rattle.vb_calls.specs.Jobs.{Ended, after_reads}
use Rattle.transcript_law.proofs.lines.Reads.{pull_is, pull_read}

-- ---- the world with what it has

conn_again : (node : PlainNode) (c : ℕ) (o : Option PlainClient) → node.clients c ≡ o → with_conn node.clients c o ≡ node.clients
conn_again node c o e = λ i d. at d i
  where
    at : (d : ℕ) → with_conn node.clients c o d ≡ node.clients d
    at d = elim (d == c) as (λ b. (d == c) ≡ b → (if b then o else node.clients d) ≡ node.clients d) [ true ↦ λ t. sym e ∙ ap node.clients (sym (eqb-true d c t)) | false ↦ λ t. refl ] refl

pub world_again : (w : PlainWorld) (n c : ℕ) (node : PlainNode) (o : Option PlainClient) → w.nodes n ≡ Some node → node.clients c ≡ o → world_with w n c node node.vbs o ≡ w
world_again w n c node o known e = λ i. record { nodes = λ m. at m i; uuids = w.uuids; links = w.links }
  where
    same : with_client (with_states node node.vbs) c o ≡ node
    same = ap (λ clients. record node { clients = clients }) (conn_again node c o e)

    at : (m : ℕ) → (if m == n then Some (with_client (with_states node node.vbs) c o) else w.nodes m) ≡ w.nodes m
    at m = elim (m == n) as (λ b. (m == n) ≡ b → (if b then Some (with_client (with_states node node.vbs) c o) else w.nodes m) ≡ w.nodes m)
        [ true ↦ λ t. ap Some same ∙ sym known ∙ ap w.nodes (sym (eqb-true m n t)) | false ↦ λ t. refl ] refl

module _ (takes : TakesSnapshots) (exactly : TakesExactly) (w : PlainWorld) (r : Chronicle) (n c frames : ℕ) (node : PlainNode) (a : Agrees w r) (known : w.nodes n ≡ Some node) (ranged : NodeRanged n node) where
  module _ (client : PlainClient) (e : node.clients c ≡ Some client) where
    abbrev cl : Cluster
    cl = a.0

    agrees_first : AgreesIn idle (world_with w n c node node.vbs (Some client)) r cl
    agrees_first = subst (λ x. AgreesIn idle x r cl) (sym (world_again w n c node (Some client) known e)) a.1

    own : ClientAgrees (world_with w n c node node.vbs (Some client)) r n c client
    own = agrees_first.clients.each n c client (client_here w n c node node.vbs (Some client))

    -- its session keeps no whole frame, but where it waits
    resting : client.session.awaited ≡ None → frame_in (first_frame client.session.reader) ≡ None
    resting free = ap frame_in ((subst (SessionRangedIf n) e (ranged.clients c)).rests own.alive free)

    first : SoFar w r cl n c node client.session node.vbs (begun client.producer)
    first = record { rests = resting; lines = []; tells = tells_none n c; pairs = refl; lawful = λ more so. so; agrees = agrees_first }

    abbrev came : States × (Served × Halt)
    came = after_reads (frames_put frames (begun client.producer)) node.shelves node.vbs

    ends : Stopped takes exactly w r cl n c node client.session came.0 came.1.0 came.1.1
    ends = pull_ends takes exactly w r cl n c node client.session frames (begun client.producer) node.vbs first

    -- what is told of it
    abbrev told : States × ClientPulled
    told = (came.0, client_pull client.session came.1)

    told_is : after_reads (client_pulled frames client) node.shelves node.vbs ≡ told
    told_is = after_reads_bind (frames_put frames (begun client.producer)) (λ put. Ended (client_pull client.session put)) node.shelves node.vbs

    lines_are : told.1.events ≡ ends.so.lines
    lines_are = (λ i. with_replies (own.conn.node i) (own.conn.number i) came.1.0.events came.1.0.out) ∙ tells_all n c came.1.0.events came.1.0.out ends.so.lines ends.so.tells

    abbrev Goes : States × ClientPulled → Type 0
    Goes x = GoesOn r as_told (with_node_at w n (pull_read c node x).0, (pull_read c node x).1)

    goes : Goes told
    goes = subst (λ lines. LawfulFrom r lines × Agrees (world_with w n c node came.0 (Some told.1.client)) (after_lines r lines)) (sym lines_are) (lawful_all r ends.so.lines ends.so.lawful, (cl, ends.so.agrees))

    pub client_goes_on : Goes (after_reads (client_pulled frames client) node.shelves node.vbs)
    client_goes_on = subst Goes (sym told_is) goes

    pub client_pairs : ArePairs (after_reads (client_pulled frames client) node.shelves node.vbs).1.events
    client_pairs = subst (λ (x : States × ClientPulled). ArePairs x.1.events) (sym told_is) (subst ArePairs (sym lines_are) ends.so.pairs)

    -- ---- an idle pull

    abbrev Leaves : States × ClientPulled → Type 0
    Leaves x = (k : ℕ) → x.1.answer ≡ Answer.Pulled k Why.Idle → (let read = after_lines r x.1.events in AllQuiet read n (read.clients_at n c) × (lets_through (flow_now (read.clients_at n c)).window ≡ true))

    abbrev read : Chronicle
    read = after_lines r ends.so.lines

    left : ClientAgrees (world_with w n c node came.0 (Some told.1.client)) read n c told.1.client
    left = mine w r cl n c node client.session came.0 came.1.0 ends.so

    at : (v : ℕ) (g : ClientStream) → (read.clients_at n c).streams v ≡ Some g
        → KeptIs read.tree (read.branch_at n v) (read.held n v) (vb_of (world_with w n c node came.0 (Some told.1.client)) n v) (is_closed_by left.heard.served v) (Some g) (kept_at v came.1.0.end.streams)
    at v g there = subst (λ o. KeptIs read.tree (read.branch_at n v) (read.held n v) (vb_of (world_with w n c node came.0 (Some told.1.client)) n v) (is_closed_by left.heard.served v) o (kept_at v came.1.0.end.streams)) there (left.streams v)

    -- the window that is told is the producer's
    window_is : (flow_now (read.clients_at n c)).window ≡ came.1.0.end.window
    window_is = now_is (read.clients_at n c) client.session came.1.0.end.handshake came.1.0.end.window left.flow left.asks ends.so.rests

    -- the frames that are told as served are those that were
    served_so : served_frames (read.clients_at n c) ≡ left.heard.served
    served_so = served_is (read.clients_at n c) client.session came.1.0.end.handshake left.heard left.asks ends.so.rests

    -- what holds of each stream that the producer has holds of each that is known
    stands : (Is : ℕ → ClientStream → Type 0) → ((t : PlainStream) → Among t came.1.0.end.streams → (y : ClientStream) → (read.clients_at n c).streams t.vb ≡ Some y → Is t.vb y)
        → (v : ℕ) (g : ClientStream) → (read.clients_at n c).streams v ≡ Some g → g.over ≡ false → is_closed_by (served_frames (read.clients_at n c)) v ≡ false → (o : Option PlainStream) → kept_at v came.1.0.end.streams ≡ o
        → KeptIs read.tree (read.branch_at n v) (read.held n v) (vb_of (world_with w n c node came.0 (Some told.1.client)) n v) (is_closed_by left.heard.served v) (Some g) o → Is v g
    stands Is each v g there opens unclosed None found x = ⊎_elim (λ served. let z : true ≡ false = sym served ∙ ap (λ fs. is_closed_by fs v) (sym served_so) ∙ unclosed in cc) (λ over. let z : true ≡ false = sym over ∙ opens in cc) x
    stands Is each v g there opens unclosed (Some t) found x =
        let vb : t.vb ≡ v = at_vb v came.1.0.end.streams t found in
        subst (λ q. Is q g) vb (each t (at_among v came.1.0.end.streams t found) g (ap (read.clients_at n c).streams vb ∙ there))

    all_stand : (Is : ℕ → ClientStream → Type 0) → ((t : PlainStream) → Among t came.1.0.end.streams → (y : ClientStream) → (read.clients_at n c).streams t.vb ≡ Some y → Is t.vb y) → AllOpen Is (read.clients_at n c)
    all_stand Is each v g there opens unclosed = stands Is each v g there opens unclosed (kept_at v came.1.0.end.streams) refl (at v g there)

    leaves : Leaves told
    leaves k is =
        let halted : why_of came.1.1 ≡ Why.Idle = cc in
        subst (λ lines. AllQuiet (after_lines r lines) n ((after_lines r lines).clients_at n c) × (lets_through (flow_now ((after_lines r lines).clients_at n c)).window ≡ true)) (sym lines_are)
        (all_stand (IsQuiet read n) (λ t i y there. ends.idle halted t i y there), ap lets_through window_is ∙ ends.opens (inl halted))

    -- ---- a pull that waits

    abbrev Waits : States × ClientPulled → Type 0
    Waits x = (k : ℕ) → x.1.answer ≡ Answer.Pulled k Why.WaitSaved → (let read = after_lines r x.1.events in AllRest read n (read.clients_at n c) × OneWaits read n (read.clients_at n c) × (lets_through (flow_now (read.clients_at n c)).window ≡ true))

    -- one of the streams does
    one_waits : WaitsNow w r cl n c node client.session read came.1.0.end.streams → OneWaits read n (read.clients_at n c)
    one_waits x =
        let k = stream_known (world_with w n c node came.0 (Some told.1.client)) (world_with w n c node came.0 (Some told.1.client)) read read n c told.1.client left x.stream (at_among x.stream.vb came.1.0.end.streams x.stream x.at) in
        record { vb = x.stream.vb; stream = k.g; known_as = k.known; opens = k.is.over; unclosed = ap (λ fs. is_closed_by fs x.stream.vb) served_so ∙ k.unclosed; waits = x.waits k.g k.known }

    waits : Waits told
    waits k is =
        let halted : why_of came.1.1 ≡ Why.WaitSaved = cc in
        subst (λ lines. AllRest (after_lines r lines) n ((after_lines r lines).clients_at n c) × OneWaits (after_lines r lines) n ((after_lines r lines).clients_at n c) × (lets_through (flow_now ((after_lines r lines).clients_at n c)).window ≡ true)) (sym lines_are)
        (all_stand (λ v g. IsQuiet read n v g ⊎ WaitsSaved read n v g) (λ t i y there. ⊎_elim (λ x. inl (x y there)) (λ x. inr (x y there)) (ends.rest halted t i)), one_waits (ends.one halted), ap lets_through window_is ∙ ends.opens (inr halted))

    -- ---- a pull that is full

    abbrev Shuts : States × ClientPulled → Type 0
    Shuts x = (k : ℕ) → x.1.answer ≡ Answer.Pulled k Why.Full → (let read = after_lines r x.1.events in lets_through (flow_now (read.clients_at n c)).window ≡ false)

    shuts : Shuts told
    shuts k is =
        let halted : why_of came.1.1 ≡ Why.Full = cc in
        subst (λ lines. lets_through (flow_now ((after_lines r lines).clients_at n c)).window ≡ false) (sym lines_are)
        (ap lets_through window_is ∙ ends.full halted)

    -- none waits for the answer to a state
    abbrev Rests : States × ClientPulled → Type 0
    Rests x = (k : ℕ) → x.1.answer ≡ Answer.Pulled k Why.WaitState → ⊥

    rests : Rests told
    rests k is = let state : why_of came.1.1 ≡ Why.WaitState = cc in ends.unstated state

    -- nor ends it for a journal
    abbrev Reads : States × ClientPulled → Type 0
    Reads x = (k : ℕ) → x.1.answer ≡ Answer.Pulled k Why.Disk → ⊥

    reads : Reads told
    reads k is = let disk : why_of came.1.1 ≡ Why.Disk = cc in ends.unread disk

    pub client_reads : Reads (after_reads (client_pulled frames client) node.shelves node.vbs)
    client_reads = subst Reads (sym told_is) reads

    pub client_rests : Rests (after_reads (client_pulled frames client) node.shelves node.vbs)
    client_rests = subst Rests (sym told_is) rests

    pub client_shuts : Shuts (after_reads (client_pulled frames client) node.shelves node.vbs)
    client_shuts = subst Shuts (sym told_is) shuts

    pub client_waits : Waits (after_reads (client_pulled frames client) node.shelves node.vbs)
    client_waits = subst Waits (sym told_is) waits

    pub client_leaves : Leaves (after_reads (client_pulled frames client) node.shelves node.vbs)
    client_leaves = subst Leaves (sym told_is) leaves

  -- by whether it is open
  pub pull_at_goes : GoesOn r as_told (with_node_at w n (pull_at c frames node).0, (pull_at c frames node).1)
  pull_at_goes = by (node.clients c) refl
    where
      by : (o : Option PlainClient) → node.clients c ≡ o → GoesOn r as_told (with_node_at w n (pull_if c frames node o).0, (pull_if c frames node o).1)
      by None e = refused_on w r n node Cause.LinkClosed a known
      by (Some client) e = subst (λ (x : PlainNode × Told). GoesOn r as_told (with_node_at w n x.0, x.1)) (sym (pull_is c frames node (Some client))) (client_goes_on client e)

  abbrev pub LeavesQuiet : PlainNode × Told → Type 0
  LeavesQuiet x = (k : ℕ) → x.1.answer ≡ Answer.Pulled k Why.Idle → (let read = after_lines r x.1.events in AllQuiet read n (read.clients_at n c) × (lets_through (flow_now (read.clients_at n c)).window ≡ true))

  abbrev pub ShutsAsTold : PlainNode × Told → Type 0
  ShutsAsTold x = (k : ℕ) → x.1.answer ≡ Answer.Pulled k Why.Full → (let read = after_lines r x.1.events in lets_through (flow_now (read.clients_at n c)).window ≡ false)

  pub pull_at_shuts : ShutsAsTold (pull_at c frames node)
  pull_at_shuts = by (node.clients c) refl
    where
      by : (o : Option PlainClient) → node.clients c ≡ o → ShutsAsTold (pull_if c frames node o)
      by None e = λ k is. cc
      by (Some client) e = subst ShutsAsTold (sym (pull_is c frames node (Some client))) (client_shuts client e)

  pub pull_at_rests : (k : ℕ) → (pull_at c frames node).1.answer ≡ Answer.Pulled k Why.WaitState → ⊥
  pull_at_rests k = by (node.clients c) refl
    where
      by : (o : Option PlainClient) → node.clients c ≡ o → (pull_if c frames node o).1.answer ≡ Answer.Pulled k Why.WaitState → ⊥
      by None e = λ is. cc
      by (Some client) e = subst (λ (x : PlainNode × Told). x.1.answer ≡ Answer.Pulled k Why.WaitState → ⊥) (sym (pull_is c frames node (Some client))) (client_rests client e k)

  pub pull_at_reads : (k : ℕ) → (pull_at c frames node).1.answer ≡ Answer.Pulled k Why.Disk → ⊥
  pull_at_reads k = by (node.clients c) refl
    where
      by : (o : Option PlainClient) → node.clients c ≡ o → (pull_if c frames node o).1.answer ≡ Answer.Pulled k Why.Disk → ⊥
      by None e = λ is. cc
      by (Some client) e = subst (λ (x : PlainNode × Told). x.1.answer ≡ Answer.Pulled k Why.Disk → ⊥) (sym (pull_is c frames node (Some client))) (client_reads client e k)

  abbrev pub WaitsAsTold : PlainNode × Told → Type 0
  WaitsAsTold x = (k : ℕ) → x.1.answer ≡ Answer.Pulled k Why.WaitSaved → (let read = after_lines r x.1.events in AllRest read n (read.clients_at n c) × OneWaits read n (read.clients_at n c) × (lets_through (flow_now (read.clients_at n c)).window ≡ true))

  pub pull_at_waits : WaitsAsTold (pull_at c frames node)
  pull_at_waits = by (node.clients c) refl
    where
      by : (o : Option PlainClient) → node.clients c ≡ o → WaitsAsTold (pull_if c frames node o)
      by None e = λ k is. cc
      by (Some client) e = subst WaitsAsTold (sym (pull_is c frames node (Some client))) (client_waits client e)

  pub pull_at_leaves : LeavesQuiet (pull_at c frames node)
  pull_at_leaves = by (node.clients c) refl
    where
      by : (o : Option PlainClient) → node.clients c ≡ o → LeavesQuiet (pull_if c frames node o)
      by None e = λ k is. cc
      by (Some client) e = subst LeavesQuiet (sym (pull_is c frames node (Some client))) (client_leaves client e)

at_node : (w : PlainWorld) (n : ℕ) (node : PlainNode) → IsRanged w → w.nodes n ≡ Some node → NodeRanged n node
at_node w n node ranged known = subst (NodeRangedIf n) known (ranged n)

-- a line `pull`
pub pull_goes : TakesSnapshots → TakesExactly → (w : PlainWorld) (r : Chronicle) (n c frames : ℕ) → IsRanged w → Agrees w r → GoesOn r as_told (on_node w n (pull_at c frames))
pull_goes takes exactly w r n c frames ranged a = on_node_goes w r n (pull_at c frames) a (λ node known up. pull_at_goes takes exactly w r n c frames node a known (at_node w n node ranged known))

-- each of its frames has its line and its reply, and nothing else is sent
pub pull_pairs : TakesSnapshots → TakesExactly → (w : PlainWorld) (r : Chronicle) (n c frames : ℕ) → IsRanged w → Agrees w r → ArePairs (on_node w n (pull_at c frames)).1.events
pull_pairs takes exactly w r n c frames ranged a =
    on_node_by (λ x. ArePairs x.1.events) w n (pull_at c frames) refl (λ node known. refl)
    (λ node known up. by node known (node.clients c) refl)
  where
    by : (node : PlainNode) → w.nodes n ≡ Some node → (o : Option PlainClient) → node.clients c ≡ o → ArePairs (pull_if c frames node o).1.events
    by node known None e = refl
    by node known (Some client) e = subst (λ (x : PlainNode × Told). ArePairs x.1.events) (sym (pull_is c frames node (Some client))) (client_pairs takes exactly w r n c frames node a known (at_node w n node ranged known) client e)

-- one that is idle left nothing to put
pub pull_leaves : TakesSnapshots → TakesExactly → (w : PlainWorld) (r : Chronicle) (n c frames k : ℕ) → IsRanged w → Agrees w r
    → (let x = on_node w n (pull_at c frames) in x.1.answer ≡ Answer.Pulled k Why.Idle → (let read = after_lines r x.1.events in AllQuiet read n (read.clients_at n c) × (lets_through (flow_now (read.clients_at n c)).window ≡ true)))
pull_leaves takes exactly w r n c frames k ranged a =
    on_node_by (λ x. x.1.answer ≡ Answer.Pulled k Why.Idle → (let read = after_lines r x.1.events in AllQuiet read n (read.clients_at n c) × (lets_through (flow_now (read.clients_at n c)).window ≡ true))) w n (pull_at c frames) (λ z. cc) (λ node known z. cc)
    (λ node known up. pull_at_leaves takes exactly w r n c frames node a known (at_node w n node ranged known) k)

-- and one that waits waits for one of its streams
pub pull_waits : TakesSnapshots → TakesExactly → (w : PlainWorld) (r : Chronicle) (n c frames k : ℕ) → IsRanged w → Agrees w r
    → (let x = on_node w n (pull_at c frames) in x.1.answer ≡ Answer.Pulled k Why.WaitSaved → (let read = after_lines r x.1.events in AllRest read n (read.clients_at n c) × OneWaits read n (read.clients_at n c) × (lets_through (flow_now (read.clients_at n c)).window ≡ true)))
pull_waits takes exactly w r n c frames k ranged a =
    on_node_by (λ x. x.1.answer ≡ Answer.Pulled k Why.WaitSaved → (let read = after_lines r x.1.events in AllRest read n (read.clients_at n c) × OneWaits read n (read.clients_at n c) × (lets_through (flow_now (read.clients_at n c)).window ≡ true))) w n (pull_at c frames) (λ z. cc) (λ node known z. cc)
    (λ node known up. pull_at_waits takes exactly w r n c frames node a known (at_node w n node ranged known) k)

-- one that is full found its window shut
pub pull_shuts : TakesSnapshots → TakesExactly → (w : PlainWorld) (r : Chronicle) (n c frames k : ℕ) → IsRanged w → Agrees w r
    → (let x = on_node w n (pull_at c frames) in x.1.answer ≡ Answer.Pulled k Why.Full → (let read = after_lines r x.1.events in lets_through (flow_now (read.clients_at n c)).window ≡ false))
pull_shuts takes exactly w r n c frames k ranged a =
    on_node_by (λ x. x.1.answer ≡ Answer.Pulled k Why.Full → (let read = after_lines r x.1.events in lets_through (flow_now (read.clients_at n c)).window ≡ false)) w n (pull_at c frames) (λ z. cc) (λ node known z. cc)
    (λ node known up. pull_at_shuts takes exactly w r n c frames node a known (at_node w n node ranged known) k)

-- none waits for the answer to a state
pub pull_rests : TakesSnapshots → TakesExactly → (w : PlainWorld) (r : Chronicle) (n c frames k : ℕ) → IsRanged w → Agrees w r → (on_node w n (pull_at c frames)).1.answer ≡ Answer.Pulled k Why.WaitState → ⊥
pull_rests takes exactly w r n c frames k ranged a =
    on_node_by (λ x. x.1.answer ≡ Answer.Pulled k Why.WaitState → ⊥) w n (pull_at c frames) (λ z. cc) (λ node known z. cc) (λ node known up. pull_at_rests takes exactly w r n c frames node a known (at_node w n node ranged known) k)

-- and none ends for a journal yet
pub pull_reads : TakesSnapshots → TakesExactly → (w : PlainWorld) (r : Chronicle) (n c frames k : ℕ) → IsRanged w → Agrees w r → (on_node w n (pull_at c frames)).1.answer ≡ Answer.Pulled k Why.Disk → ⊥
pull_reads takes exactly w r n c frames k ranged a =
    on_node_by (λ x. x.1.answer ≡ Answer.Pulled k Why.Disk → ⊥) w n (pull_at c frames) (λ z. cc) (λ node known z. cc) (λ node known up. pull_at_reads takes exactly w r n c frames node a known (at_node w n node ranged known) k)
