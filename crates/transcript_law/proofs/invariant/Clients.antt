-- after each line the connections of clients that the lines tell open are those of the nodes, and each line of a client is of one of them
use Rattle.std.specs.Prelude.{◌≡◌, ◌<◌, ◌∷◌, ◌==◌, if◌then◌else◌}
use Rattle.transcript_law.proofs.Words.{ℕ, Bool, true, false, List, [], flat_map, map, refl, ap, sym, ◌∙◌, subst, Option, Some, None, is_some, Cause, Event, Role, Verb, VbVerb, NodeVerb, LinkVerb, ClientVerb, VerbFits, after}
use Rattle.transcript_law.proofs.Words.{AdminCall, PlainLink, PlainNode, PlainWorld, States, Outcome, Told, VbCall, admin_line, ask_in, bytes_at, called_at, client_at, clock_at, consumer_node, cut_outcome, done, empty_node, bytes_if, first_cause, hang_at, link_causes, link_number}
use Rattle.transcript_law.proofs.Words.{node_causes, node_outcome, on_link, on_node, own_link, producer_node, promote_causes, promote_step, pump_at, refusal, refused_or, replica_at, replica_causes, role_outcome, row_at, turn_causes, turn_step, up_at, vb_at, vb_causes, verb_step, with_client, with_dialed, with_links, with_node_at, with_states}
use Rattle.dcp_producer.specs.{Ending.{end_closed}, declared.yields.Yielded.{Yielded}}
use Rattle.node_core.specs.Clients.{ClientPulled, PlainClient, client_fed, client_pulled, new_client}
use Rattle.node_core.specs.{Admin.{admin_job, role_at}, Dials.{dial_due}, GivingUp.{dead_line, peer_gives_up, resolved_in}}
use Rattle.node_world.specs.Arms.{fail_arm, stop_arm}
use Rattle.node_world.specs.{Dues.{due_at, due_in, due_of, is_counted}, Links.{dial_of, link_number, peer_of}, Pumps.{gives_at, with_given, with_gone}, Turns.{with_ended}, World.{base_of, client_verb_at, down_in, pump_outcome, pump_step, put_behind}, Worlds.{on_made}}
use Rattle.node_world.specs.Nodes.{arm_at, chain_causes, chain_line, chain_made, flush_line, hung_if, if_up, pull_at, pull_if, save_line, tick_line, vb_made}
use Rattle.node_world.specs.Power.{crash_causes, down_lines, dropped, start_at, start_causes}
use Rattle.transcript_law.proofs.invariant.ClientNodes.{NodeGoes, NodeTold, mute_goes, none_told, put_goes_on, put_told, runs_with, same_told, session_goes}
use Rattle.transcript_law.proofs.lines.Heard.{AreMute, HeardFrom, conns_more, mute_same, mute_say, put_same as row_same, row_here, row_there, say_more}
use Rattle.transcript_law.proofs.lines.{LinkLines.{down_mute, due_mute, pump_mute}, PullTold.{PullTold, pull_told}, SessionLines.{IsKept, fed_at}}
use Rattle.transcript_law.proofs.verbs.AdminLines.{branch_mute, kept_mute}
use Rattle.transcript_law.proofs.verbs.NodeLines.{on_node_by}
use Rattle.transcript_law.specs.Chronicles.{Conns, conns_lines, conns_verb, with_at}
use Rattle.transcript_law.specs.Clients.{ClientAnswer, IsCrashed}
use Rattle.vb_disk.specs.declared.made.Outcome.{Outcome as Left}
use Rattle.vb_types.specs.declared.journal.FlushPart.TheVariants as part
use Rattle.transcript_law.proofs.invariant.ClientWorlds.{ended_are, posts_in_go, Came, ConnsAre, Goes, NodeToldIf, armed, came, crash_came, down_came, down_say, flush_goes, made, on, over, put_node, put_same, role_goes, save_goes, settled_goes, stays, told_at, unless, unless_node, unlinked_are, up_goes}
use Rattle.transcript_law.proofs.invariant.{ClientStarts.{start_came}, Ranged.{pull_kept}}
use Rattle.node_world.specs.Links.{drop_at}
use Rattle.transcript_law.proofs.lines.Reads.{pull_is}
use Rattle.vb_calls.specs.Jobs.{after_reads}

unless_came : (conns : Conns) (w : PlainWorld) (o : Outcome) (why : Option Cause) → ConnsAre w conns → Came conns o → Came conns (refused_or why w o)
unless_came conns w o None are g = g
unless_came conns w o (Some why) are g = (tt, are)

-- ---- what is due behind a batch

due_goes : (conns : Conns) (n v : ℕ) (o : Outcome) → Goes conns o → Goes conns (due_in n v o)
due_goes conns n v o g = by (is_counted o.1.answer)
  where
    now : Conns
    now = conns_lines conns o.1.events

    at : (link : PlainLink) (k : Option PlainNode) → o.0.nodes n ≡ k → Goes conns (due_at n link o.0 o.1 k)
    at link None e = g
    at link (Some node) e =
        let x = after (dial_due (dial_of link)) node.vbs in let mute = due_mute (dial_of link) node.vbs in let lines : List Event = x.1.events in
        let t = told_at o.0 now n node e g.1 in (
          say_more conns o.1.events lines g.0 (mute_say now lines mute),
          subst (ConnsAre (with_node_at o.0 n (with_states node x.0))) (sym (conns_more conns o.1.events lines ∙ mute_same now lines mute))
              (put_same o.0 now n (with_states node x.0) g.1 (same_told (now n) n node (with_states node x.0) (λ c. refl) refl t)),
        )

    of : (l : Option PlainLink) → Goes conns (due_of n o.0 o.1 l)
    of None = g
    of (Some link) = at link (o.0.nodes n) refl

    by : (b : Bool) → Goes conns (if b then due_of n o.0 o.1 (own_link n v o.0.links) else o)
    by true = of (own_link n v o.0.links)
    by false = g

-- ---- vBuckets that are given up, and frames behind that

-- the lines of these tell of no client
dead_mute : (n : ℕ) (given : List Yielded) → AreMute (map (dead_line n) given)
dead_mute n [] = tt
dead_mute n (one ∷ more) = (tt, dead_mute n more)

given_are : (conns : Conns) (n : ℕ) (given : List Yielded) (w : PlainWorld) → ConnsAre w conns → ConnsAre (with_given n given w) conns
given_are conns n [] w are = are
given_are conns n (one ∷ more) w are = given_are conns n more (with_ended n one.vb one.ended w) (ended_are conns w n one.vb one.ended are)

pub pump_goes_on : (conns : Conns) (w : PlainWorld) (l frames : ℕ) → ConnsAre w conns → Goes conns (pump_step w l frames)
pump_goes_on conns w l frames are = by (row_at link_number l w.links)
  where
    gave : (link : PlainLink) (o : Option PlainNode) → w.nodes (producer_node link) ≡ o → Goes conns (gives_at frames link w o)
    gave link None e = (tt, are)
    gave link (Some node) e =
        let n = producer_node link in let x = after (peer_gives_up frames (peer_of link)) node.vbs in let given : List Yielded = x.1.given in
        posts_in_go conns n (flat_map resolved_in given) (with_given n given (with_gone link node x.0 x.1.peer w), done (map (dead_line n) given)) (dead_mute n given)
        (given_are conns n given (with_gone link node x.0 x.1.peer w) (put_same w conns n (with_states node x.0) are (same_told (conns n) n node (with_states node x.0) (λ c. refl) refl (told_at w conns n node e are))))

    behind : (before : Outcome) → Goes conns before → Goes conns (put_behind l frames before)
    behind before g =
        let now : Conns = conns_lines conns before.1.events in let o : Outcome = on_link before.0 l producer_node (pump_at frames) in
        let p : Goes now o = over now before.0 l producer_node (pump_at frames) g.1 (λ link node t.
        stays now (producer_node link) node (pump_at frames link node).0 (pump_at frames link node).1.1.events (pump_mute frames link node) (λ c. refl) refl t) in
        (say_more conns before.1.events o.1.events g.0 p.0, subst (ConnsAre o.0) (sym (conns_more conns before.1.events o.1.events)) p.1)

    by : (o : Option PlainLink) → Goes conns (pump_outcome w l frames o)
    by None = (tt, are)
    by (Some link) = behind (gives_at frames link w (w.nodes (producer_node link))) (gave link (w.nodes (producer_node link)) refl)

-- ---- lines of clients

bytes_go : (conns : Conns) (n c : ℕ) (bytes : List ℕ) (node : PlainNode) → NodeTold (conns n) n node → NodeGoes conns n (bytes_at c bytes node).0 (bytes_at c bytes node).1.events
bytes_go conns n c bytes node t = by (node.clients c) refl
  where
    by : (o : Option PlainClient) → node.clients c ≡ o → NodeGoes conns n (bytes_if c bytes node o).0 (bytes_if c bytes node o).1.events
    by None e = mute_goes conns n node [] tt t
    by (Some client) e =
        let kept : IsKept n c (Some client) = subst (IsKept n c) e (t.kept c) in
        session_goes conns n c node client (after (client_fed node.clock bytes client) node.vbs) e (runs_with (conns n) n c node client e t) t (fed_at n c node.clock client node.vbs kept bytes)

-- frames of its streams
pull_goes : (conns : Conns) (n c frames : ℕ) (node : PlainNode) → NodeTold (conns n) n node → NodeGoes conns n (pull_at c frames node).0 (pull_at c frames node).1.events
pull_goes conns n c frames node t = by (node.clients c) refl
  where
    by : (o : Option PlainClient) → node.clients c ≡ o → NodeGoes conns n (pull_if c frames node o).0 (pull_if c frames node o).1.events
    by None e = mute_goes conns n node [] tt t
    by (Some client) e = subst (λ (y : PlainNode × Told). NodeGoes conns n y.0 y.1.events) (sym (pull_is c frames node (Some client))) (put_goes_on conns n c node' x.1.events opened put.0 (subst (λ (u : ℕ → Bool). NodeTold u n node') here
        (put_told (conns n) n c true (Some x.1.client) (with_states node x.0) refl now (λ z. t.small c opened) (runs_with (conns n) n c node client e t) (same_told (conns n) n node (with_states node x.0) (λ d. refl) refl t))))
      where
        kept : IsKept n c (Some client)
        kept = subst (IsKept n c) e (t.kept c)

        x : States × ClientPulled
        x = after_reads (client_pulled frames client) node.shelves node.vbs

        node' : PlainNode
        node' = with_client (with_states node x.0) c (Some x.1.client)

        opened : conns n c ≡ true
        opened = t.told c ∙ ap is_some e

        put : PullTold n c frames (record { events = x.1.events; answer = x.1.answer })
        put = pull_told n c frames client node.shelves node.vbs kept

        now : IsKept n c (Some x.1.client)
        now = pull_kept n c frames client node.shelves node.vbs kept

        here : (λ d. if d == c then true else conns n d) ≡ conns n
        here = sym (row_here conns n c true) ∙ ap (λ (u : Conns). u n) (row_same conns n c true opened)

-- what a line tells behind its lines counts here
abbrev CameTo : Conns → Verb → Outcome → Type 0
CameTo conns line o = HeardFrom conns o.1.events × ConnsAre o.0 (conns_verb (conns_lines conns o.1.events) line o.1.answer)

-- a connection is put, and told so by the line
put_came : (conns : Conns) (w : PlainWorld) (n c : ℕ) (b : Bool) (o : Option PlainClient) (node : PlainNode) → b ≡ is_some o → IsKept n c o → (b ≡ true → c < 1000) → is_some node.off ≡ false → ConnsAre w conns → NodeTold (conns n) n node
    → ConnsAre (with_node_at w n (with_client node c o)) (with_at conns n c b)
put_came conns w n c b o node is kept low up are t = put_node w conns (with_at conns n c b) n (with_client node c o) are
    (subst (λ (u : ℕ → Bool). NodeTold u n (with_client node c o)) (sym (row_here conns n c b)) (put_told (conns n) n c b o node is kept low up t)) (λ m ne. row_there conns n c b m ne)

open_came : (conns : Conns) (w : PlainWorld) (n base c : ℕ) → c < 1000 → ConnsAre w conns → CameTo conns (Verb.AtClient n c ClientVerb.Open) (on_node w n (client_at n base c))
open_came conns w n base c low are = on_node_by (CameTo conns line) w n (client_at n base c) (tt, are) (λ node e. (tt, put_same w conns n node are (told_at w conns n node e are))) (λ node e up. by node e up (is_some (node.clients c)))
  where
    line : Verb
    line = Verb.AtClient n c ClientVerb.Open

    fresh : PlainClient
    fresh = new_client (record { node = n; client = c; base = base })

    by : (node : PlainNode) → w.nodes n ≡ Some node → is_some node.off ≡ false → (b : Bool) → (let x : PlainNode × Told = if b then (node, refusal Cause.LinkOpen) else (with_client node c (Some fresh), done []) in CameTo conns line (with_node_at w n x.0, x.1))
    by node e up true = (tt, put_same w conns n node are (told_at w conns n node e are))
    by node e up false = (tt, put_came conns w n c true (Some fresh) node refl (record { node = refl; number = refl; stream = refl; desk = refl }, refl) (λ z. low) up are (told_at w conns n node e are))

hang_came : (conns : Conns) (w : PlainWorld) (n c : ℕ) → ConnsAre w conns → CameTo conns (Verb.AtClient n c ClientVerb.Hang) (on_node w n (hang_at c))
hang_came conns w n c are = on_node_by (CameTo conns line) w n (hang_at c) (tt, are) (λ node e. (tt, put_same w conns n node are (told_at w conns n node e are))) (λ node e up. by node e up (node.clients c))
  where
    line : Verb
    line = Verb.AtClient n c ClientVerb.Hang

    by : (node : PlainNode) → w.nodes n ≡ Some node → is_some node.off ≡ false → (o : Option PlainClient) → (let x : PlainNode × Told = hung_if c node o in CameTo conns line (with_node_at w n x.0, x.1))
    by node e up None = (tt, put_same w conns n node are (told_at w conns n node e are))
    by node e up (Some client) =
        let closed : PlainNode = with_states node (after (end_closed client.producer) node.vbs).0 in
        (tt, put_came conns w n c false None closed refl tt (λ z. cc) up are (same_told (conns n) n node closed (λ d. refl) refl (told_at w conns n node e are)))

-- ---- each line of a script

node_came : (conns : Conns) (w : PlainWorld) (n : ℕ) → ConnsAre w conns → Goes conns (refused_or (first_cause (node_causes w n)) w (with_node_at w n empty_node, done []))
node_came conns w n are = by (w.nodes n) refl
  where
    by : (o : Option PlainNode) → w.nodes n ≡ o → Goes conns (refused_or (first_cause ((is_some o, Cause.NodeExists) ∷ [])) w (with_node_at w n empty_node, done []))
    by None e = (tt, put_same w conns n empty_node are (none_told (conns n) n empty_node (subst (NodeToldIf (conns n) n) e (are n)) (λ c. refl)))
    by (Some node) e = (tt, are)

turn_goes : (conns : Conns) (w : PlainWorld) (n v : ℕ) (new : Role) (asked : AdminCall) → admin_job n v asked ≡ role_at n v asked → ConnsAre w conns → Goes conns (turn_step w n v new asked)
turn_goes conns w n v new asked job are = unless conns w (role_outcome n v asked w) (first_cause (turn_causes w n v new)) are (role_goes conns w n v asked job are)

module _ (conns : Conns) (w : PlainWorld) (number : ℕ) (are : ConnsAre w conns) where
  admin_goes : (n v : ℕ) (asked : AdminCall) → ((node : PlainNode) → AreMute (called_at n v asked node).1.events) → Goes conns (on_node w n (admin_line n v asked))
  admin_goes n v asked mute = on conns w n (admin_line n v asked) are (λ node t. stays conns n node (admin_line n v asked node).0 (admin_line n v asked node).1.events (mute node) (λ c. refl) refl t)

  made_goes : (n v : ℕ) (role : Role) (uuid : ℕ) (why : PlainNode → Option Cause) → Goes conns (on_node w n (λ node. refused_or (why node) node (vb_made n v role uuid node)))
  made_goes n v role uuid why = on conns w n (λ node. refused_or (why node) node (vb_made n v role uuid node)) are (λ node t.
      unless_node conns n node (vb_made n v role uuid node) (why node) t (stays conns n node (vb_made n v role uuid node).0 (vb_made n v role uuid node).1.events (branch_mute n v role uuid) (λ c. refl) refl t))

  pub line_heard : (line : Verb) → VerbFits line → CameTo conns line (verb_step w number line)
  line_heard (Verb.Node n) fits = came conns (verb_step w number (Verb.Node n)) (node_came conns w n are)
  line_heard (Verb.AtVb n v (VbVerb.MakeActive uuid)) fits = armed conns n w (on_node w n (vb_at w.uuids n v uuid)) (made_goes n v Role.Active uuid (λ node. first_cause (vb_causes w.uuids node v uuid)))
  line_heard (Verb.AtVb n v VbVerb.MakeReplica) fits = armed conns n w (on_node w n (replica_at n v)) (made_goes n v Role.Replica 0 (λ node. first_cause (replica_causes node v)))
  line_heard (Verb.AtVb n v (VbVerb.Chain others)) fits = came conns (verb_step w number (Verb.AtVb n v (VbVerb.Chain others))) (on conns w n (chain_line n v others) are (λ node t.
      unless_node conns n node (chain_made n v others node) (first_cause (chain_causes n v others node)) t (settled_goes conns n v (VbCall.Chain (record { active = n; others = others })) node t)))
  line_heard (Verb.AtClient n c ClientVerb.Open) fits = open_came conns w n (base_of number) c fits.1 are
  line_heard (Verb.AtClient n c (ClientVerb.Bytes bytes)) fits = came conns (verb_step w number (Verb.AtClient n c (ClientVerb.Bytes bytes))) (on conns w n (bytes_at c bytes) are (λ node t. bytes_go conns n c bytes node t))
  line_heard (Verb.AtClient n c (ClientVerb.Pull frames)) fits = came conns (verb_step w number (Verb.AtClient n c (ClientVerb.Pull frames))) (on conns w n (pull_at c frames) are (λ node t. pull_goes conns n c frames node t))
  line_heard (Verb.AtClient n c ClientVerb.Hang) fits = hang_came conns w n c are
  line_heard (Verb.AtNode n (NodeVerb.Clock nanos)) fits = came conns (verb_step w number (Verb.AtNode n (NodeVerb.Clock nanos))) (on conns w n (clock_at nanos) are (λ node t. stays conns n node (clock_at nanos node).0 [] tt (λ c. refl) refl t))
  line_heard (Verb.Link l m n v buffer takeover) fits = came conns (verb_step w number (Verb.Link l m n v buffer takeover)) (unless conns w (with_links w (with_dialed number l m n v buffer takeover w.links (ask_in w n v)), done []) (first_cause (link_causes w l m n v)) are (tt, are))
  line_heard (Verb.AtLink l (LinkVerb.Up wanted)) fits = came conns (verb_step w number (Verb.AtLink l (LinkVerb.Up wanted))) (over conns w l producer_node (up_at wanted) are (λ link node t. up_goes conns (producer_node link) wanted link node t))
  line_heard (Verb.AtLink l (LinkVerb.Down wanted)) fits = down_came conns w l (row_at link_number l w.links) (on_link w l consumer_node (down_in wanted)) (over conns w l consumer_node (down_in wanted) are (λ link node t.
      stays conns (consumer_node link) node (down_in wanted link node).0 (down_in wanted link node).1.1.events (down_mute wanted link node) (λ c. refl) refl t))
  line_heard (Verb.AtLink l (LinkVerb.Pump frames)) fits = came conns (verb_step w number (Verb.AtLink l (LinkVerb.Pump frames))) (pump_goes_on conns w l frames are)
  line_heard (Verb.AtLink l LinkVerb.Drop) fits = came conns (verb_step w number (Verb.AtLink l LinkVerb.Drop)) (over conns w l producer_node drop_at are (λ link node t. stays conns (producer_node link) node (drop_at link node).0 [] tt (λ c. refl) refl t))
  line_heard (Verb.AtLink l LinkVerb.Cut) fits = elim (row_at link_number l w.links) as (λ o. Came conns (cut_outcome w o)) [ None ↦ (tt, are) | Some link ↦ ((tt, tt), unlinked_are w conns link are) ]
  line_heard (Verb.AtVb n v (VbVerb.Promote uuid)) fits = armed conns n w (promote_step w n v uuid) (unless conns w (role_outcome n v (AdminCall.Promote uuid) w) (first_cause (promote_causes w n v uuid)) are (role_goes conns w n v (AdminCall.Promote uuid) refl are))
  line_heard (Verb.AtVb n v VbVerb.Follow) fits = armed conns n w (turn_step w n v Role.Replica AdminCall.Follow) (turn_goes conns w n v Role.Replica AdminCall.Follow refl are)
  line_heard (Verb.AtVb n v VbVerb.Dead) fits = armed conns n w (turn_step w n v Role.Dead AdminCall.Dead) (turn_goes conns w n v Role.Dead AdminCall.Dead refl are)
  line_heard (Verb.AtVb n v VbVerb.Trim) fits = came conns (verb_step w number (Verb.AtVb n v VbVerb.Trim)) (admin_goes n v AdminCall.Trim (λ node. kept_mute n v AdminCall.Trim node refl))
  line_heard (Verb.AtVb n v VbVerb.Seal) fits = came conns (verb_step w number (Verb.AtVb n v VbVerb.Seal)) (admin_goes n v AdminCall.Seal (λ node. kept_mute n v AdminCall.Seal node refl))
  line_heard (Verb.AtVb n v VbVerb.Take) fits = came conns (verb_step w number (Verb.AtVb n v VbVerb.Take)) (on conns w n (flush_line n v part.Take) are (λ node t. flush_goes conns n v part.Take node t))
  line_heard (Verb.AtVb n v VbVerb.Save) fits = armed conns n w (on_node w n (save_line n v)) (on conns w n (save_line n v) are (λ node t. save_goes conns n v node t))
  line_heard (Verb.AtVb n v VbVerb.Done) fits = came conns (verb_step w number (Verb.AtVb n v VbVerb.Done)) (due_goes conns n v (on_node w n (flush_line n v part.Done)) (on conns w n (flush_line n v part.Done) are (λ node t. flush_goes conns n v part.Done node t)))
  line_heard (Verb.AtVb n v VbVerb.Tick) fits = came conns (verb_step w number (Verb.AtVb n v VbVerb.Tick)) (on conns w n (tick_line n v) are (λ node t. settled_goes conns n v (VbCall.Tick node.clock) node t))
  line_heard (Verb.AtVb n v VbVerb.Stat) fits = came conns (verb_step w number (Verb.AtVb n v VbVerb.Stat)) (admin_goes n v AdminCall.Stat (λ node. kept_mute n v AdminCall.Stat node refl))
  line_heard (Verb.AtVb n v VbVerb.Log) fits = came conns (verb_step w number (Verb.AtVb n v VbVerb.Log)) (admin_goes n v AdminCall.Log (λ node. kept_mute n v AdminCall.Log node refl))
  line_heard (Verb.AtVb n v VbVerb.Show) fits = came conns (verb_step w number (Verb.AtVb n v VbVerb.Show)) (admin_goes n v AdminCall.Show (λ node. kept_mute n v AdminCall.Show node refl))
  line_heard (Verb.AtNode n (NodeVerb.Stop call out)) fits = came conns (verb_step w number (Verb.AtNode n (NodeVerb.Stop call out))) (made conns w n (arm_at (stop_arm call out)) are (λ node t. stays conns n node (arm_at (stop_arm call out) node).0 [] tt (λ c. refl) refl t))
  line_heard (Verb.AtNode n (NodeVerb.Fail call)) fits = came conns (verb_step w number (Verb.AtNode n (NodeVerb.Fail call))) (made conns w n (arm_at (fail_arm call)) are (λ node t. stays conns n node (arm_at (fail_arm call) node).0 [] tt (λ c. refl) refl t))
  line_heard (Verb.AtNode n (NodeVerb.Crash out)) fits = crash_came conns w n out (first_cause (crash_causes w n)) are
  line_heard (Verb.AtNode n (NodeVerb.Start uuids)) fits = unless_came conns w (on_made w n (start_at n uuids)) (first_cause (start_causes w n uuids)) are (start_came conns w n uuids are)

  -- ---- how lines of clients are answered

  abbrev Answered : ℕ → ℕ → ClientVerb → PlainNode × Told → Type 0
  Answered n c what x = ClientAnswer (conns n c) what x.1.events x.1.answer

  reached : (n c : ℕ) (what : ClientVerb) (o : Option PlainNode) → NodeToldIf (conns n) n o → (let x = (node_outcome w n (refusal Cause.UnknownNode) o (if_up (client_verb_at n number c what))).1 in ClientAnswer (conns n c) what x.events x.answer)
  reached n c ClientVerb.Open None t = t c
  reached n c (ClientVerb.Bytes bytes) None t = t c
  reached n c (ClientVerb.Pull frames) None t = t c
  reached n c ClientVerb.Hang None t = t c
  reached n c what (Some node) t = by (is_some node.off) refl
    where
      opens : (b : Bool) → is_some (node.clients c) ≡ b → Answered n c ClientVerb.Open (if b then (node, refusal Cause.LinkOpen) else (with_client node c (Some (new_client (record { node = n; client = c; base = base_of number }))), done []))
      opens true e = t.told c ∙ e
      opens false e = t.told c ∙ e

      bytes_say : (bytes : List ℕ) (k : Option PlainClient) → node.clients c ≡ k → Answered n c (ClientVerb.Bytes bytes) (bytes_if c bytes node k)
      bytes_say bytes None e = t.told c ∙ ap is_some e
      bytes_say bytes (Some client) e = t.told c ∙ ap is_some e

      -- as many frames were put as its lines tell
      pulls : (frames : ℕ) (k : Option PlainClient) → node.clients c ≡ k → Answered n c (ClientVerb.Pull frames) (pull_if c frames node k)
      pulls frames None e = t.told c ∙ ap is_some e
      pulls frames (Some client) e =
          let x = (after_reads (client_pulled frames client) node.shelves node.vbs).1 in
          let put : PullTold n c frames (record { events = x.events; answer = x.answer }) = pull_told n c frames client node.shelves node.vbs (subst (IsKept n c) e (t.kept c)) in
          subst (Answered n c (ClientVerb.Pull frames)) (sym (pull_is c frames node (Some client))) (subst (λ answer. ClientAnswer (conns n c) (ClientVerb.Pull frames) x.events answer) (sym put.1.2) (t.told c ∙ ap is_some e, put.1.3))

      hang : (k : Option PlainClient) → node.clients c ≡ k → Answered n c ClientVerb.Hang (hung_if c node k)
      hang None e = t.told c ∙ ap is_some e
      hang (Some client) e = t.told c ∙ ap is_some e

      down : (what : ClientVerb) → is_some node.off ≡ true → Answered n c what (node, refusal Cause.NodeDown)
      down ClientVerb.Open e = t.down e c
      down (ClientVerb.Bytes bytes) e = t.down e c
      down (ClientVerb.Pull frames) e = t.down e c
      down ClientVerb.Hang e = t.down e c

      runs : (what : ClientVerb) → Answered n c what (client_verb_at n number c what node)
      runs ClientVerb.Open = opens (is_some (node.clients c)) refl
      runs (ClientVerb.Bytes bytes) = bytes_say bytes (node.clients c) refl
      runs (ClientVerb.Pull frames) = pulls frames (node.clients c) refl
      runs ClientVerb.Hang = hang (node.clients c) refl

      by : (b : Bool) → is_some node.off ≡ b → Answered n c what (if b then (node, refusal Cause.NodeDown) else client_verb_at n number c what node)
      by true e = down what e
      by false e = runs what

  pub client_answered : (n c : ℕ) (what : ClientVerb) → (let x = (verb_step w number (Verb.AtClient n c what)).1 in ClientAnswer (conns n c) what x.events x.answer)
  client_answered n c what = reached n c what (w.nodes n) (are n)

  -- and a crash
  crash_says : (n : ℕ) (out : Left) (why : Option Cause) → (let x = (refused_or why w (dropped n out w, done (down_lines n None w))).1 in IsCrashed (conns_lines conns x.events) n x.answer)
  crash_says n out None = (down_say conns w n None are).1.none
  crash_says n out (Some why) = tt

  pub crash_answered : (n : ℕ) (out : Left) → (let x = (verb_step w number (Verb.AtNode n (NodeVerb.Crash out))).1 in IsCrashed (conns_lines conns x.events) n x.answer)
  crash_answered n out = crash_says n out (first_cause (crash_causes w n))
