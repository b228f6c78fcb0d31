-- the lines `promote`, `follow`, `dead`, `seal` and `log`
use Rattle.{node_world.specs.Nodes.{with_clients_ended}, transcript_law.specs.Feeding.{IsOfClient, client_in}}
use Rattle.std.specs.Prelude.{◌≡◌, ◌<◌, ◌∷◌, ◌++◌, ◌==◌, ◌^◌, if◌then◌else◌, not}
use Rattle.transcript_law.proofs.Words.{ℕ, inl, All, Bool, true, false, List, refl, ap, sym, ◌∙◌, subst, append-nil, Option, Some, None, is_some, flat_map, option_map, eqb-false, eqb-true, eq-eqb, ne_eqb, Cause, Event, Role, Cluster, Move, happens, Plain, plain_step, is_active, refusal_reply, with_vb_at, call_at, stream_ids, in_role, ending_reply, parent_of, led, Change}
use Rattle.transcript_law.proofs.Words.{is_role, with_seal, fork_of, holds_fewer, Sound, StaysSound, AdminCall, AdminResult, admin_call, admin_replied, PlainLink, PlainNode, PlainWorld, Outcome, with_branches}
use Rattle.transcript_law.proofs.Words.{with_node_at, with_links, with_states, node_outcome, vb_in, first_cause, refused_or, is_one_of, branch_of_line, on_node, own_link, cut_off, link_ended, links_ended, unlinked, with_ended}
use Rattle.transcript_law.proofs.Words.{admin_line, no_node, turned_after, role_outcome, turn_causes, turn_step, Chronicle, after_lines, with_at, LawfulFrom, [], EndReason, VbAnswer, VbReply, producer_node, node_if, LawfulRole, States, VbCall, after_branch, after_line, after_role, newest_branch, Status, turn_row, seal_row, role_changed, after_cuts, promote_step, after_seal, uuid_causes, role_causes, shelf_in}
use Rattle.transcript_law.proofs.{invariant.Agreement.{DiskIsIf, PowerIsIf, is_down, power_of, shelf_of}, disks.Appending.{Noted, state_came}, disks.ArmedLines.{ArmedCame}, disks.Burning.{quiet_same}, disks.Disks.{Power, power_in, sealed_disk}, disks.Firing.{line_fires, role_noting}, invariant.JobSteps.{put_found, put_over, shelf_found}, lines.Lines.{AreQuiet}, verbs.NodeLines.{shelves_again, shelves_put, shelves_there}}
use Rattle.transcript_law.proofs.answers.{Claims.{ClaimAt, asked_at, call_claims, changes_asked, changes_last, claim_read, claim_sessions, waiting_claims}, Committed.{AllHowTold, all_claimed, all_told, lost_told, made_on}, Explained.{explained}, Calm.{OfDurable, durable_settled, durable_told}}
use Rattle.{durability.specs.declared.waiting.Waiting.{Waiting}, vb_types.specs.declared.change.Pend.{Pend}, vbucket.proofs.RowIs.{Leads}, transcript_law.specs.{ClientStreams.{past_turn, with_clients_of}, LawfulAnswers.{AllDurable}, StreamsTold.{ClientsKnown}}}
use Rattle.transcript_law.proofs.{links.Behind.{NotingGoes, noted_beside, posts_come}, invariant.Ranged.{IsRanged, NodeRanged, NodeRangedIf, ended_ranged, kept_ranged, unlinked_ranged, with_node}, verbs.ClientsEnded.{node_turned, open_was, told_world, turned_node}, verbs.RoleCalls.{changed_told, fate, left, node', not_stopped, role_came, said_of}}
use Rattle.{disk_journals.specs.Arms.{under}, node_core.specs.{Admin.{admin_job, role_at}, Clients.{PlainClient, client_ended}}, node_world.specs.Arms.{fired_by}, node_world.specs.Cuts.{closed_at}, node_world.specs.Power.{with_arm}, node_world.specs.Turns.{posted_in, role_called}, node_world.specs.Worlds.{arm_in, is_up}}
use Rattle.{node_world.specs.declared.arm.Arm.{Arm}, node_world.specs.declared.arm.Fired.{Fired}, transcript_law.specs.Chronicles.{after_noted}, vb_calls.specs.Flushes.{is_refusal, role_of_call}}
use Rattle.{vb_calls.specs.Shelves.{Fate, Shelf}, vb_disk.specs.declared.fuse.Fuse.TheVariants.{Off}, vb_events.specs.declared.event.Answer.{Answer}}
use Rattle.node_world.specs.declared.arm.Fired.TheVariants as fired
use Rattle.vb_events.specs.declared.event.Answer.TheVariants as answer
use Rattle.transcript_law.proofs.invariant.Seats.{seat}
use Rattle.transcript_law.proofs.invariant.Tables.{if_known, at_here, at_there, never, NoneHold, none_hold}
use Rattle.transcript_law.proofs.invariant.Wholes.{WholeTo, whole_sealed, spanned_sealed}
use Rattle.transcript_law.proofs.invariant.Agreement.{vb_of, own_history, VbAgrees, AgreesAt, idle, AgreesIn, Agrees, GoesOn, LineGoes, vb_row}
use Rattle.transcript_law.proofs.invariant.Carrying.{Changed}
use Rattle.transcript_law.proofs.invariant.Carried.{agrees_carried, fed_same}
use Rattle.transcript_law.proofs.verbs.NodeLines.{as_told, risen_anew, node_changed, node_grown, refused_on, agrees_same, node_of_same_vbs, put_same, more_used, admin_by, changed_agrees, on_node_by}
use Rattle.transcript_law.proofs.invariant.Holdings.{opened_as}
use Rattle.transcript_law.proofs.verbs.Writing.{mine as own_vb}
use Rattle.transcript_law.proofs.links.Turning.{Turned}
use Rattle.transcript_law.proofs.verbs.Leaving.{links_left, cut_lines, cut_off_goes, own_told, same_number, over_agrees, own_found}
use Rattle.transcript_law.proofs.verbs.Rising.{other_role_known, rested, rose, promote_free, promote_is, branch_lawful}
use Rattle.transcript_law.proofs.verbs.Settling.{Steady, changes_quiet, changes_told, none_branched, settled_told, settles}
use Rattle.transcript_law.proofs.lines.Telling.{branch_line}
use Rattle.vb_calls.specs.Settling.{Resolving, also_resolved, given_up, settled}
use Rattle.transcript_law.proofs.invariant.Owing.{Later, later_on, later_same}

-- the node of a vBucket that is there
pub node_of : (w : PlainWorld) (n v : ℕ) (vb : Plain) → vb_of w n v ≡ Some vb → (node : PlainNode) × (w.nodes n ≡ Some node) × (node.vbs v ≡ Some vb)
node_of w n v vb known = elim (w.nodes n) as (λ o. w.nodes n ≡ o → vb_in o v ≡ Some vb → (node : PlainNode) × (w.nodes n ≡ Some node) × (node.vbs v ≡ Some vb))
    [ None ↦ λ e q. cc | Some node ↦ λ e q. (node, e, q) ] refl known

-- a node that has a vBucket is running
node_up : (w : PlainWorld) (r : Chronicle) (a : Agrees w r) (n v : ℕ) (vb : Plain) → vb_of w n v ≡ Some vb → (node : PlainNode) → w.nodes n ≡ Some node → node.off ≡ None
node_up w r a n v vb known node at = elim node.off as (λ o. node.off ≡ o → o ≡ None)
    [ None ↦ λ e. refl | Some books ↦ λ e. let z : Some vb ≡ None = sym known ∙ (a.1.downs n v).vb_none (ap (λ o. is_down (power_in o)) at ∙ ap is_some e) in cc ] refl

-- and so it is told
told_up : (w : PlainWorld) (r : Chronicle) (c : Cluster) (n : ℕ) (node : PlainNode) → AgreesIn idle w r c → w.nodes n ≡ Some node → node.off ≡ None → (r.arm_at n).down ≡ false
told_up w r c n node a at up = (subst (PowerIsIf (r.arm_at n)) (ap power_in at) (a.powers n)).down ∙ ap is_some up

-- a world in which the vBucket v of a node is another one, more ids are used, and links and clients were told
abbrev pub turned_at : PlainWorld → ℕ → ℕ → PlainNode → Plain → List ℕ → List PlainLink → List ℕ → PlainWorld
turned_at w n v node x ids links more = record { nodes = (with_node_at w n (turned_node node v x ids)).nodes; uuids = w.uuids ++ more; links = links_ended n v ids links }

turned_became : (w : PlainWorld) (n v : ℕ) (node : PlainNode) (x : Plain) (ids : List ℕ) (links : List PlainLink) (more : List ℕ) → w.nodes n ≡ Some node → Turned (with_links w links) (turned_at w n v node x ids links more) n v x ids
turned_became w n v node x ids links more at = node_turned (with_links w links) (turned_at w n v node x ids links more) n v node x ids at refl refl

-- and once more
turned_again : (w : PlainWorld) (n v : ℕ) (node : PlainNode) (x y : Plain) (ids : List ℕ) (links : List PlainLink) (more : List ℕ)
    → Changed (turned_at w n v node x ids links more) (turned_at w n v node y ids links more) n v y (links_ended n v ids links) × (shelf_of (turned_at w n v node y ids links more) n v ≡ shelf_of (turned_at w n v node x ids links more) n v)
turned_again w n v node x y ids links more =
    let first : PlainNode = turned_node node v x ids in let next : PlainNode = turned_node node v y ids in
    let one = node_grown w n v first next y (λ q. sym (ap (λ (f : States). f q) (put_over node.vbs v x y))) (λ q o. refl) refl in
    (record { powers = one.powers; here = one.here; there = one.there; shelves = one.shelves; uuids = refl; linked = refl }, shelves_again w n first next (λ q. refl) n v)

-- a role is written down
abbrev pub role_noted_so : ℕ → ℕ → Role → Answer → Chronicle → Chronicle
role_noted_so n v role said r = after_noted r n v role said

-- what a line has come to, whose arm did not fire
no_fire : (n : ℕ) (told : Answer → Chronicle → Chronicle) (x : Fired) (r : Chronicle) (w : PlainWorld) (said : Answer) → x ≡ fired.No → Agrees w (told said r) → ArmedCame n told x r w said
no_fire n told x r w said e a = subst (λ y. ArmedCame n told y r w said) (sym e) a

-- what a line has come to in one world it has come to in another, where what agrees in that agrees in this
pub other_world : (n : ℕ) (told : Answer → Chronicle → Chronicle) (x : Fired) (r : Chronicle) (w w' : PlainWorld) (said : Answer) → is_up (w'.nodes n) ≡ is_up (w.nodes n) → (Agrees w (told said r) → Agrees w' (told said r))
    → ArmedCame n told x r w said → ArmedCame n told x r w' said
other_world n told fired.No r w w' said up go a = go a
other_world n told fired.Failed r w w' said up go a = (a.0, go a.1)
other_world n told fired.Stopped r w w' said up go a = (a.0, up ∙ a.1, go a.2)

-- a link that ends leaves the arms of nodes, and whether they are running
pub unlinked_power : (link : PlainLink) (w : PlainWorld) (m : ℕ) → power_of (unlinked link w) m ≡ power_of w m
unlinked_power link w m = by (w.nodes (producer_node link)) refl
  where
    by : (o : Option PlainNode) → w.nodes (producer_node link) ≡ o → power_in ((node_if (producer_node link) (closed_at link) w o).nodes m) ≡ power_in (w.nodes m)
    by None e = refl
    by (Some node) e = elim (m == producer_node link) as (λ b. (m == producer_node link) ≡ b → power_in (if b then Some (closed_at link node) else w.nodes m) ≡ power_in (w.nodes m))
        [ true ↦ λ t. ap power_in (sym e ∙ ap w.nodes (sym (eqb-true m (producer_node link) t))) | false ↦ λ t. refl ] refl

pub power_arm : (o : Option PlainNode) (p : Power) → power_in o ≡ Some p → (arm_in o ≡ p.arm) × (is_up o ≡ not (is_some p.off))
power_arm None p e = cc
power_arm (Some node) p e = let same : record { arm = node.arm; off = node.off; clock = node.clock } ≡ p = cc in (ap (λ (x : Power). x.arm) same, ap (λ (x : Power). not (is_some x.off)) same)

-- the end of a link leaves the connections of clients
unlinked_client : (link : PlainLink) (w : PlainWorld) (m c : ℕ) → client_in ((unlinked link w).nodes m) c ≡ client_in (w.nodes m) c
unlinked_client link w m c = by (w.nodes (producer_node link)) refl
  where
    by : (o : Option PlainNode) → w.nodes (producer_node link) ≡ o → client_in ((node_if (producer_node link) (closed_at link) w o).nodes m) c ≡ client_in (w.nodes m) c
    by None e = refl
    by (Some x) e = elim (m == producer_node link) as (λ b. (m == producer_node link) ≡ b → client_in (if b then Some (closed_at link x) else w.nodes m) c ≡ client_in (w.nodes m) c)
        [ true ↦ λ t. ap (λ o. client_in o c) (sym e ∙ ap w.nodes (sym (eqb-true m (producer_node link) t))) | false ↦ λ t. refl ] refl

-- nor does a change of role leave out what clients asked
turn_asked : (clients : ClientsKnown) (n v : ℕ) (held : List Change) (m c : ℕ) → (with_clients_of clients n (past_turn v held) m c).asking ≡ (clients m c).asking
turn_asked clients n v held m c = elim (m == n) as (λ b. (if b then past_turn v held (clients m c) else clients m c).asking ≡ (clients m c).asking) [ true ↦ refl | false ↦ refl ]

-- an operator's call that changes a vBucket's role, which is then written down under the node's arm

module _ (stays : StaysSound) (steady : Steady) (w : PlainWorld) (r : Chronicle) (n v : ℕ) (asked : AdminCall) (vb vb' : Plain) (a : Agrees w r) (known : vb_of w n v ≡ Some vb) (ranged : IsRanged w) (reply : VbReply)
    (is : plain_step vb (admin_call asked) ≡ (vb', reply)) (ends : reply.ended ≡ stream_ids vb.streams) (lines : List Event) (line_is : admin_replied n v asked reply ≡ role_changed reply lines)
    (job_is : admin_job n v asked ≡ role_at n v asked) (made : is_refusal reply.answer ≡ false) (paid : (q : Chronicle) → Later r q → ((c : ℕ) → asked_at q n c ≡ asked_at r n c) → AllHowTold n (after_lines q lines) (ClaimAt (after_lines q lines) n (client_in (w.nodes n))) reply.resolved)
    (calm : (q : Chronicle) → q.made ≡ r.made → AllDurable (after_lines q lines).made) where
  abbrev node : PlainNode
  node = (node_of w n v vb known).0

  at : w.nodes n ≡ Some node
  at = (node_of w n v vb known).1

  abbrev ids : List ℕ
  ids = stream_ids vb.streams

  -- the vBucket's journal
  journal : (shelf : Shelf) × (node.shelves v ≡ Some shelf)
  journal = by (node.shelves v) refl (subst (λ s. DiskIsIf (r.disk_at n v) (a.0.disks (seat n v)) s (Some vb)) (ap (λ o. shelf_in o v) at) (subst (DiskIsIf (r.disk_at n v) (a.0.disks (seat n v)) (shelf_of w n v)) known (a.1.disks n v)))
    where
      by : (o : Option Shelf) → node.shelves v ≡ o → DiskIsIf (r.disk_at n v) (a.0.disks (seat n v)) o (Some vb) → (shelf : Shelf) × (node.shelves v ≡ Some shelf)
      by None e x = absurd x
      by (Some shelf) e x = (shelf, e)

  abbrev shelf : Shelf
  shelf = journal.0

  -- its node is running
  up : node.off ≡ None
  up = node_up w r a n v vb known node at

  abbrev new : Role
  new = role_of_call (admin_call asked)

  abbrev fated : Fate
  fated = fate node n v asked vb vb' shelf (node_of w n v vb known).2 journal.1 up reply is job_is made

  abbrev left_shelf : Shelf
  left_shelf = left node n v asked vb vb' shelf (node_of w n v vb known).2 journal.1 up reply is job_is made

  -- the node behind the call, and in the end, once its clients were told
  abbrev made_node : PlainNode
  made_node = node' node n v asked vb vb' shelf (node_of w n v vb known).2 journal.1 up reply is job_is made

  abbrev last : PlainNode
  last = with_clients_ended v ids made_node

  shelves_are : (q : ℕ) → (q ≡ v → ⊥) → last.shelves q ≡ node.shelves q
  shelves_are q o = ap (λ b. if b then Some (under Off left_shelf) else node.shelves q) (ne_eqb q v o)

  abbrev ended : PlainWorld
  ended = with_links (with_node_at w n last) (links_ended n v ids w.links)

  -- what is told of the call
  abbrev call_is : AdminResult
  call_is = changed_told reply lines (said_of fated)

  -- what becomes of it, by the vBucket's own link
  abbrev came_with : Option PlainLink → Outcome
  came_with own = after_cuts call_is (cut_off (option_map (link_ended n v ids) own) ended)

  -- and behind it outcomes are posted
  outcome_came : role_outcome n v asked w ≡ posted_in n reply.resolved (came_with (own_link n v w.links))
  outcome_came =
      ap (turned_after n v w) (ap (λ o. node_outcome w n no_node o (role_called n v asked)) at
      ∙ ap (λ x. (with_node_at w n x.0, x.1)) (role_came node n v asked vb vb' shelf (node_of w n v vb known).2 journal.1 up reply is job_is made lines line_is))
      ∙ ap (λ xs. posted_in n reply.resolved (after_cuts call_is (cut_off (own_link n v (links_ended n v xs w.links)) (with_ended n v xs (with_node_at w n made_node))))) ends
      ∙ ap (λ x. posted_in n reply.resolved (after_cuts call_is (cut_off (own_link n v (links_ended n v ids w.links)) x))) (told_world w n v ids made_node)
      ∙ ap (λ o. posted_in n reply.resolved (after_cuts call_is (cut_off o ended))) (own_told n v ids w.links)

  last_ranged : IsRanged (with_node_at w n last)
  last_ranged = let here : NodeRanged n node = subst (NodeRangedIf n) at (ranged n) in with_node w n last ranged (ended_ranged n v ids made_node (kept_ranged n node made_node refl (λ c. refl) refl here))

  -- a client's open streams were open before
  fewer : (m d q id : ℕ) → IsOfClient (with_node_at w n last) m d q id → IsOfClient w m d q id
  fewer = open_was w n v ids node last at (λ c. refl)

  -- the connections of the node are those that it had, with streams that ended
  clients_are : (own : Option PlainLink) (c : ℕ) → client_in ((came_with own).0.nodes n) c ≡ option_map (client_ended v ids) (node.clients c)
  clients_are None c = ap (λ b. client_in (if b then Some last else w.nodes n) c) (eq-eqb n n refl)
  clients_are (Some link) c = unlinked_client (link_ended n v ids link) ended n c ∙ ap (λ b. client_in (if b then Some last else w.nodes n) c) (eq-eqb n n refl)

  had_before : (own : Option PlainLink) (x : PlainNode) → (came_with own).0.nodes n ≡ Some x → (c : ℕ) (client' : PlainClient) → x.clients c ≡ Some client' → (client : PlainClient) × (client_in (w.nodes n) c ≡ Some client) × (client'.session ≡ client.session)
  had_before own x there c client' is = by (node.clients c) (ap (λ o. client_in o c) at) (sym (clients_are own c) ∙ ap (λ o. client_in o c) there ∙ is)
    where
      by : (o : Option PlainClient) → client_in (w.nodes n) c ≡ o → option_map (client_ended v ids) o ≡ Some client' → (client : PlainClient) × (client_in (w.nodes n) c ≡ Some client) × (client'.session ≡ client.session)
      by None e z = cc
      by (Some client) e z = let same : client_ended v ids client ≡ client' = cc in (client, e, ap (λ (k : PlainClient). k.session) (sym same))

  paid_at : (own : Option PlainLink) (q : Chronicle) → Later r q → ((c : ℕ) → asked_at q n c ≡ asked_at r n c) → (x : PlainNode) → (came_with own).0.nodes n ≡ Some x → AllHowTold n (after_lines q lines) (ClaimAt (after_lines q lines) n x.clients) reply.resolved
  paid_at own q same alike x there =
      let told : Chronicle = after_lines q lines in
      all_claimed n told (ClaimAt told n (client_in (w.nodes n))) (ClaimAt told n x.clients) reply.resolved (claim_sessions told n (client_in (w.nodes n)) x.clients (had_before own x there)) (paid q same alike)

  -- once they are
  posted_goes : (own : Option PlainLink) → NotingGoes n (role_noted_so n v new) w r (came_with own) → NotingGoes n (role_noted_so n v new) w r (posted_in n reply.resolved (came_with own))
  posted_goes None so = posts_come stays steady n (role_noted_so n v new) w r reply.resolved (came_with None) so (noted_beside n v new (said_of fated) (not_stopped fated)) last_ranged (paid_at None r (later_same r r refl refl) (λ c. refl)) (calm r refl)
  posted_goes (Some link) so = posts_come stays steady n (role_noted_so n v new) w r reply.resolved (came_with (Some link)) so (noted_beside n v new (said_of fated) (not_stopped fated)) (unlinked_ranged ended (link_ended n v ids link) last_ranged)
      (paid_at (Some link) (after_lines r (cut_lines (Some (link_ended n v ids link)))) (record { last = refl; grows = made_on r (cut_lines (Some (link_ended n v ids link))) }) (λ c. refl)) (calm (after_lines r (cut_lines (Some (link_ended n v ids link)))) refl)

  -- the world in which these links were told, and nothing was written down
  abbrev called : PlainNode
  called = turned_node node v vb' ids

  abbrev pub turned_with : List PlainLink → List ℕ → PlainWorld
  turned_with links more = turned_at w n v node vb' ids links more

  pub turn_became : (links : List PlainLink) (more : List ℕ) → Turned (with_links w links) (turned_with links more) n v vb' ids
  turn_became links more = turned_became w n v node vb' ids links more at

  -- the same once the role is written down
  abbrev last_with : List PlainLink → List ℕ → PlainWorld
  last_with links more = record { nodes = (with_node_at w n last).nodes; uuids = w.uuids ++ more; links = links_ended n v ids links }

  abbrev power : Power
  power = record { arm = node.arm; off = node.off; clock = node.clock }

  is_noted : (links : List PlainLink) (more : List ℕ) → Noted (turned_with links more) (last_with links more) n v power (under Off left_shelf) left_shelf.fuse
  is_noted links more = record {
    before = ap (λ b. power_in (if b then Some called else w.nodes n)) (eq-eqb n n refl);
    after = ap (λ b. power_in (if b then Some last else w.nodes n)) (eq-eqb n n refl);
    others = λ m ne. ap (λ b. power_in (if b then Some last else w.nodes m)) (ne_eqb m n ne) ∙ sym (ap (λ b. power_in (if b then Some called else w.nodes m)) (ne_eqb m n ne));
    clients = λ m c. elim (m == n) as (λ b. client_in (if b then Some last else w.nodes m) c ≡ client_in (if b then Some called else w.nodes m) c) [ true ↦ refl | false ↦ refl ];
    vbs = λ m q. elim (m == n) as (λ b. vb_in (if b then Some last else w.nodes m) q ≡ vb_in (if b then Some called else w.nodes m) q) [ true ↦ refl | false ↦ refl ];
    stands = ap (λ b. shelf_in (if b then Some last else w.nodes n) v) (eq-eqb n n refl) ∙ shelf_found node.shelves v (under Off left_shelf);
    shelves = λ m q other. shelves_there w n v called last shelves_are m q other;
    uuids = refl;
    linked = refl;
  }

  -- what that comes to
  noting : (links : List PlainLink) (more : List ℕ) (told : Chronicle) (c' : Cluster) → AgreesIn idle (turned_with links more) told c' → ArmedCame n (role_noted_so n v new) (fired_by node.arm.fuse left_shelf.fuse) told (last_with links more) (said_of fated)
  noting links more told c' b = state_came (turned_with links more) (last_with links more) told n v power vb' shelf c' b (turn_became links more).here
      (ap (λ k. shelf_in (if k then Some called else w.nodes n) v) (eq-eqb n n refl) ∙ journal.1) up new (is_noted links more)

  -- so in a world in which a link ended
  came_so : (x : PlainWorld) (more : List ℕ) (links : List PlainLink) (told : Chronicle) → power_of x n ≡ power_of ended n
      → (let now : PlainWorld = record { nodes = x.nodes; uuids = x.uuids ++ more; links = x.links } in Agrees (last_with links more) (after_noted told n v new (said_of fated)) → Agrees now (after_noted told n v new (said_of fated)))
      → ArmedCame n (role_noted_so n v new) (fired_by node.arm.fuse left_shelf.fuse) told (last_with links more) (said_of fated)
      → ArmedCame n (role_noted_so n v new) (fired_by (arm_in (w.nodes n)).fuse (arm_in (x.nodes n)).fuse) told (record { nodes = x.nodes; uuids = x.uuids ++ more; links = x.links }) (said_of fated)
  came_so x more links told same go b =
      let q : Power = record { arm = last.arm; off = node.off; clock = node.clock } in
      let there : power_of ended n ≡ Some q = ap (λ t. power_in (if t then Some last else w.nodes n)) (eq-eqb n n refl) in
      let p = power_arm (x.nodes n) q (same ∙ there) in
      let now : PlainWorld = record { nodes = x.nodes; uuids = x.uuids ++ more; links = x.links } in
      subst (λ (k : Arm). ArmedCame n (role_noted_so n v new) (fired_by k.fuse (arm_in (x.nodes n)).fuse) told now (said_of fated)) (sym (ap arm_in at))
      (subst (λ (k : Arm). ArmedCame n (role_noted_so n v new) (fired_by node.arm.fuse k.fuse) told now (said_of fated)) (sym p.0)
      (other_world n (role_noted_so n v new) (fired_by node.arm.fuse left_shelf.fuse) told (last_with links more) now (said_of fated) (p.1 ∙ sym (power_arm ((last_with links more).nodes n) q there).1) go b))

  -- its lines are lawful, and what agrees without the own link, before the role is written down, agrees after it
  pub role_goes : (own : Option PlainLink) → own_link n v w.links ≡ own → LawfulFrom (after_lines r (cut_lines own)) lines → AreQuiet lines
      → Agrees (turned_with (links_left own w.links) (flat_map branch_of_line lines)) (after_lines (after_lines r (cut_lines own)) lines) → NotingGoes n (role_noted_so n v new) w r (role_outcome n v asked w)
  role_goes own e lawful quiet (c', agrees) = subst (NotingGoes n (role_noted_so n v new) w r) (sym (outcome_came ∙ ap (λ o. posted_in n reply.resolved (came_with o)) e))
      (posted_goes own (by own e lawful (noting (links_left own w.links) (flat_map branch_of_line lines) (after_lines (after_lines r (cut_lines own)) lines) c' agrees)))
    where
      more : List ℕ
      more = flat_map branch_of_line lines

      by : (own : Option PlainLink) → own_link n v w.links ≡ own → LawfulFrom (after_lines r (cut_lines own)) lines
          → ArmedCame n (role_noted_so n v new) (fired_by node.arm.fuse left_shelf.fuse) (after_lines (after_lines r (cut_lines own)) lines) (last_with (links_left own w.links) more) (said_of fated) → NotingGoes n (role_noted_so n v new) w r (came_with own)
      by None e lawful b = record { lawful = lawful; quiet = quiet; came = came_so ended more w.links (after_lines r lines) refl (λ y. y) b }
      by (Some link) e lawful b =
          let link' : PlainLink = link_ended n v ids link in
          let told : List Event = cut_lines (Some link) ++ lines in
          subst (λ k. NotingGoes n (role_noted_so n v new) w r (after_cuts call_is (unlinked link' ended, Event.Ended k EndReason.Cut ∷ []))) (sym (same_number stays w r a.0 n v ids node last vb vb' (λ q. refl) shelves_are link a.1 at known e fewer)) (record {
            lawful = ((_, (a.1.links link (own_found n v w.links link e).0).dialed), lawful);
            quiet = (tt, quiet);
            came = came_so (unlinked link' ended) more (links_left (Some link) w.links) (after_lines r told) (unlinked_power link' ended n)
                (λ y. (y.0, over_agrees stays w r a.0 n v ids node last vb vb' (λ q. refl) shelves_are link a.1 at known e fewer (after_noted (after_lines r told) n v new (said_of fated)) y.0 more y.1)) b;
          })

-- causes for which nothing is appended
abbrev pub IsRefusing : Cause → Type 0
IsRefusing Cause.Closed = ⊥
IsRefusing Cause.Disk = ⊥
IsRefusing Cause.Stopped = ⊥
IsRefusing other = Unit {0}

abbrev pub AllRefuse : List (Bool × Cause) → Type 0
AllRefuse [] = Unit {0}
AllRefuse (row ∷ rows) = IsRefusing row.1 × AllRefuse rows

first_refuses : (rows : List (Bool × Cause)) (why : Cause) → AllRefuse rows → first_cause rows ≡ Some why → IsRefusing why
first_refuses [] why x e = cc
first_refuses ((true, cause) ∷ rows) why x e = let same : cause ≡ why = cc in subst IsRefusing same x.0
first_refuses ((false, cause) ∷ rows) why x e = first_refuses rows why x.1 e

refused_told : (r : Chronicle) (n v : ℕ) (role : Role) (why : Cause) → IsRefusing why → after_noted r n v role (answer.No why) ≡ r
refused_told r n v role Cause.Closed x = absurd x
refused_told r n v role Cause.Disk x = absurd x
refused_told r n v role Cause.Stopped x = absurd x
refused_told r n v role other x = refl

-- a change of role that is refused, or none of whose causes to be refused holds
unless_refused : (w : PlainWorld) (r : Chronicle) (n v : ℕ) (new : Role) (asked : AdminCall) (more : List (Bool × Cause)) → Agrees w r → AllRefuse more
    → ((vb : Plain) → vb_of w n v ≡ Some vb → is_role vb.role new ≡ false → NoneHold more → NotingGoes n (role_noted_so n v new) w r (role_outcome n v asked w))
    → NotingGoes n (role_noted_so n v new) w r (refused_or (first_cause (turn_causes w n v new ++ more)) w (role_outcome n v asked w))
unless_refused w r n v new asked more a refuse goes = by (first_cause (turn_causes w n v new ++ more)) refl
  where
    there : (o : Option Plain) → vb_of w n v ≡ o → NoneHold (role_causes new o ++ more) → NotingGoes n (role_noted_so n v new) w r (role_outcome n v asked w)
    there None e none = never none.0
    there (Some vb) e none = goes vb e none.1.0 none.1.1

    by : (why : Option Cause) → first_cause (turn_causes w n v new ++ more) ≡ why → NotingGoes n (role_noted_so n v new) w r (refused_or why w (role_outcome n v asked w))
    by (Some why) e = record {
      lawful = tt;
      quiet = tt;
      came = no_fire n (role_noted_so n v new) (fired_by (arm_in (w.nodes n)).fuse (arm_in (w.nodes n)).fuse) r (with_branches [] w) (answer.No why) (quiet_same (arm_in (w.nodes n)).fuse)
          (subst (Agrees (with_branches [] w)) (sym (refused_told r n v new why (first_refuses (turn_causes w n v new ++ more) why (tt, (tt, (tt, (tt, refuse)))) e))) (more_used w r [] a));
    }
    by None e = there (vb_in (w.nodes n) v) refl (none_hold (turn_causes w n v new ++ more) e).1.1

-- what a call that rests a vBucket does
turn_done : (vb : Plain) (new : Role) → is_role vb.role new ≡ false → turn_row vb new ≡ (in_role vb new, ending_reply vb VbAnswer.Done)
turn_done vb new e = ap (λ b. if b then (vb, refusal_reply Status.NotMyVbucket) else (in_role vb new, ending_reply vb VbAnswer.Done)) e

module _ (stays : StaysSound) (steady : Steady) (r : Chronicle) (n v : ℕ) (new : Role) (asked : AdminCall) (rests : is_active new ≡ false) (row : (vb : Plain) → plain_step vb (admin_call asked) ≡ turn_row vb new)
    (timely : (vb : Plain) → Sound vb → Sound (plain_step vb (admin_call asked)).0)
    (line_is : (vb : Plain) → admin_replied n v asked (ending_reply vb VbAnswer.Done) ≡ role_changed (ending_reply vb VbAnswer.Done) (Event.Role n v new ∷ []))
    (job_is : admin_job n v asked ≡ role_at n v asked) (new_is : role_of_call (admin_call asked) ≡ new) (settled_in : new ≡ Role.Pending → ⊥) where
  turned_goes : (w : PlainWorld) (vb : Plain) → IsRanged w → AllDurable r.made → Agrees w r → vb_of w n v ≡ Some vb → is_role vb.role new ≡ false → (own : Option PlainLink) → own_link n v w.links ≡ own → NotingGoes n (role_noted_so n v new) w r (role_outcome n v asked w)
  turned_goes w vb ranged calm a known other own e =
      let x = cut_off_goes w r n v a own e in
      let links : List PlainLink = links_left own w.links in
      let w0 : PlainWorld = with_links w links in
      let r1 : Chronicle = after_lines r (cut_lines own) in
      let is = row vb ∙ turn_done vb new other in
      let line : List Event = Event.Role n v new ∷ [] in
      let old : VbAgrees r1 n v (x.cluster.nodes (seat n v)) vb = subst (AgreesAt r1 n v (x.cluster.nodes (seat n v))) known (x.agrees.vbs n v) in
      let conns : ℕ → Option PlainClient = client_in (w.nodes n) in
      let paid : (q : Chronicle) → Later r q → ((d : ℕ) → asked_at q n d ≡ asked_at r n d) → AllHowTold n (after_lines q line) (ClaimAt (after_lines q line) n conns) (given_up vb.waiting) = λ q same alike.
      let q1 : Chronicle = after_lines q line in
      lost_told n v q1 (ClaimAt q1 n conns) new (at_here q.role_at n v (Some (Some new))) rests vb.waiting
      (λ y some i. let (p, k) = waiting_claims w r n v vb conns old.sound a.1.clients.owed known (λ d. refl) y some i in (p, claim_read r q1 n conns (later_on r q q1 same (later_same q q1 refl refl)) (λ d. turn_asked q.clients_at n v (q.held n v) n d ∙ alike d) v y p k)) in
      subst (λ k. NotingGoes n (role_noted_so n v k) w r (role_outcome n v asked w)) new_is
      (role_goes stays steady w r n v asked vb (in_role vb new) a known ranged (ending_reply vb VbAnswer.Done) is refl line (line_is vb) job_is refl paid (λ q same. subst AllDurable (sym same) calm) own e
      (record { another = other_role_known r1 n v (x.cluster.nodes (seat n v)) vb new old other; anew = λ is. let active : is_active new ≡ true = ap is_active is in let z : false ≡ true = sym rests ∙ active in cc; pending = λ is. absurd (settled_in is) }, tt) (tt, tt) (
        happens x.cluster (Move.Yield (seat n v)),
        rested stays w0 (turned_with stays steady w r n v asked vb (in_role vb new) a known ranged (ending_reply vb VbAnswer.Done) is refl line (line_is vb) job_is refl paid (λ q same. subst AllDurable (sym same) calm) links []) r1 x.cluster n v vb new (admin_call asked) x.agrees known x.free rests is (timely vb)
            (turn_became stays steady w r n v asked vb (in_role vb new) a known ranged (ending_reply vb VbAnswer.Done) is refl line (line_is vb) job_is refl paid (λ q same. subst AllDurable (sym same) calm) links []) (append-nil w.uuids),
      ))

  pub turn_goes : (w : PlainWorld) → IsRanged w → AllDurable r.made → Agrees w r → NotingGoes n (role_noted_so n v new) w r (turn_step w n v new asked)
  turn_goes w ranged calm a = unless_refused w r n v new asked [] a tt (λ vb e other none. turned_goes w vb ranged calm a e other (own_link n v w.links) refl)

-- `follow N V` and `dead N V`, before it is asked whether the arm fired
pub follow_goes : StaysSound → Steady → (w : PlainWorld) (r : Chronicle) (n v : ℕ) → IsRanged w → AllDurable r.made → Agrees w r → NotingGoes n (role_noted_so n v Role.Replica) w r (turn_step w n v Role.Replica AdminCall.Follow)
follow_goes stays steady w r n v ranged calm a = turn_goes stays steady r n v Role.Replica AdminCall.Follow refl (λ vb. refl) (λ vb s. stays vb VbCall.Follow s tt) (λ vb. refl) refl refl (λ e. cc) w ranged calm a

pub dead_goes : StaysSound → Steady → (w : PlainWorld) (r : Chronicle) (n v : ℕ) → IsRanged w → AllDurable r.made → Agrees w r → NotingGoes n (role_noted_so n v Role.Dead) w r (turn_step w n v Role.Dead AdminCall.Dead)
dead_goes stays steady w r n v ranged calm a = turn_goes stays steady r n v Role.Dead AdminCall.Dead refl (λ vb. refl) (λ vb s. stays vb VbCall.Dead s tt) (λ vb. refl) refl refl (λ e. cc) w ranged calm a

-- `promote N V U`
not_active : (x : Role) → is_role x Role.Active ≡ false → is_active x ≡ false
not_active Role.Active e = cc
not_active x e = refl

module _ (stays : StaysSound) (steady : Steady) (r : Chronicle) (n v uuid : ℕ) (small : uuid < 2 ^ 64) where
  promoted_goes : (w : PlainWorld) (vb : Plain) → IsRanged w → AllDurable r.made → Agrees w r → vb_of w n v ≡ Some vb → is_role vb.role Role.Active ≡ false → (uuid == 0) ≡ false → is_one_of uuid w.uuids ≡ false
      → (own : Option PlainLink) → own_link n v w.links ≡ own → NotingGoes n (role_noted_so n v Role.Active) w r (role_outcome n v (AdminCall.Promote uuid) w)
  promoted_goes w vb ranged calm a known other nonzero unused own e =
      let x = cut_off_goes w r n v a own e in
      let links : List PlainLink = links_left own w.links in
      let ids : List ℕ = stream_ids vb.streams in
      let w0 : PlainWorld = with_links w links in
      let r1 : Chronicle = after_lines r (cut_lines own) in
      let c1 : Cluster = x.cluster in
      let (node, at, there) = node_of w n v vb known in
      let rests : is_active vb.role ≡ false = not_active vb.role other in
      let named : uuid ≡ 0 → ⊥ = eqb-false uuid 0 nonzero in
      let parent = parent_of vb.log in let fork = fork_of vb.position in let high = vb.position.at in
      let reply : VbReply = ending_reply vb (VbAnswer.Branch uuid parent fork high) in
      let old : VbAgrees r1 n v (c1.nodes (seat n v)) vb = subst (AgreesAt r1 n v (c1.nodes (seat n v))) known (x.agrees.vbs n v) in
      -- it is on its branch
      let led_vb : Plain = led vb uuid in
      let w1 : PlainWorld = turned_at w n v node led_vb ids links (uuid ∷ []) in
      let branched : Chronicle = after_branch r1 n v uuid parent fork high in
      let active : Chronicle = after_role branched n v Role.Active in
      let risen : AgreesIn idle w1 active (happens c1 (Move.Promote (seat n v) uuid)) =
      rose steady w0 w1 r1 c1 n v uuid vb x.agrees known x.free rests unused named small (turned_became w n v node led_vb ids links (uuid ∷ []) at) refl in
      -- and commits what may be committed
      let called : PlainNode = turned_node node v led_vb ids in
      let s = settles steady.commits n v w1 active (happens c1 (Move.Promote (seat n v) uuid)) called led_vb risen (ap (λ b. if b then Some called else w.nodes n) (eq-eqb n n refl)) (put_found node.vbs v led_vb) in
      let made : Resolving = settled led_vb in
      let again = turned_again w n v node led_vb made.vb ids links (uuid ∷ []) in
      let own_lines_are : List Event = changes_told n v uuid s.cs in
      let is : plain_step vb (VbCall.Promote uuid) ≡ also_resolved reply made = promote_is steady w0 w0 r1 c1 n v uuid vb x.agrees known x.free rests unused named small in
      let line : List Event = Event.Branch n v uuid parent fork high ∷ Event.Role n v Role.Active ∷ own_lines_are in
      let line_is : admin_replied n v (AdminCall.Promote uuid) (also_resolved reply made).1 ≡ role_changed (also_resolved reply made).1 line =
      ap (λ ls. role_changed (also_resolved reply made).1 (Event.Branch n v uuid parent fork high ∷ Event.Role n v Role.Active ∷ ls)) (settled_told n v reply led_vb uuid s.cs refl s.changes (ap newest_branch s.log)) in
      -- the node is running, so the branch is read as it is
      let runs : (r1.arm_at n).down ≡ false = told_up w0 r1 c1 n node x.agrees at (node_up w r a n v vb known node at) in
      let read : after_line r1 (Event.Branch n v uuid parent fork high) ≡ branched = branch_line r1 n v uuid parent fork high runs in
      let ids_told : uuid ∷ [] ≡ flat_map branch_of_line line = ap (λ us. uuid ∷ us) (sym (none_branched n v uuid s.cs)) in
      let now : Agrees (turned_at w n v node made.vb ids links (uuid ∷ [])) (after_lines active own_lines_are) = s.agrees (turned_at w n v node made.vb ids links (uuid ∷ [])) again.0 again.1 in
      let paid : (q : Chronicle) → Later r q → ((d : ℕ) → asked_at q n d ≡ asked_at r n d) → AllHowTold n (after_lines q line) (ClaimAt (after_lines q line) n (client_in (w.nodes n))) (also_resolved reply made).1.resolved = λ q same alike.
      let q2 : Chronicle = after_lines q (Event.Branch n v uuid parent fork high ∷ Event.Role n v Role.Active ∷ []) in
      let rep : VbReply = (also_resolved reply made).1 in
      let claim : ℕ → Waiting → Pend → Type 0 = ClaimAt (after_lines q line) n (client_in (w.nodes n)) in
      let read : (y : Waiting) (p : Pend) → ClaimAt r n (client_in (w.nodes n)) v y p → claim v y p = claim_read r (after_lines q line) n (client_in (w.nodes n)) (later_on r q (after_lines q line) same (record { last = changes_last q2 n v uuid s.cs; grows = made_on q line }))
      (λ d. changes_asked q2 n v uuid s.cs n d ∙ turn_asked q.clients_at n v (q.held n v) n d ∙ alike d) v in
      subst (λ ls. AllHowTold n (after_lines q2 ls) claim rep.resolved) (settled_told n v reply led_vb uuid s.cs refl s.changes (ap newest_branch s.log))
      (all_told q2 n v rep.branch claim rep.changes vb (VbCall.Promote uuid) rep.resolved tt (λ y p some stood. read y p (call_claims w r n v vb (VbCall.Promote uuid) (client_in (w.nodes n)) tt a.1.clients.owed known (λ d. refl) y p some stood))
      (explained vb (Leads uuid (promote_free steady w0 w0 r1 c1 n v uuid vb x.agrees known x.free rests unused named small)) old.sound tt)) in
      role_goes stays steady w r n v (AdminCall.Promote uuid) vb made.vb a known ranged (also_resolved reply made).1 is refl line line_is refl refl paid
      (λ q same. durable_told (after_lines q (Event.Branch n v uuid parent fork high ∷ Event.Role n v Role.Active ∷ [])) n v uuid s.cs (subst (All OfDurable) s.changes (durable_settled led_vb)) (subst AllDurable (sym same) calm)) own e (
        branch_lawful steady w0 w0 r1 c1 n v uuid vb x.agrees known x.free rests unused named small,
        subst (λ b. LawfulRole b n v Role.Active × LawfulFrom (after_role b n v Role.Active) own_lines_are) (sym read) (record { another = other_role_known r1 n v (c1.nodes (seat n v)) vb Role.Active old other; anew = λ is. inl (risen_anew r1 n v uuid parent fork high); pending = λ is. cc }, s.lawful),
      )
      (tt, (tt, changes_quiet n v uuid s.cs))
      (subst (λ b. Agrees (turned_at w n v node made.vb ids links (flat_map branch_of_line line)) (after_lines (after_role b n v Role.Active) own_lines_are)) (sym read)
      (subst (λ us. Agrees (turned_at w n v node made.vb ids links us) (after_lines active own_lines_are)) ids_told now))

  pub promote_goes : (w : PlainWorld) → IsRanged w → AllDurable r.made → Agrees w r → NotingGoes n (role_noted_so n v Role.Active) w r (promote_step w n v uuid)
  promote_goes w ranged calm a = unless_refused w r n v Role.Active (AdminCall.Promote uuid) (uuid_causes w.uuids uuid) a (tt, (tt, tt))
      (λ vb e other none. promoted_goes w vb ranged calm a e other none.0 none.1.0 (own_link n v w.links) refl)

-- these lines, once it was asked whether the arm fired
role_fires : StaysSound → (w : PlainWorld) (r : Chronicle) (n v : ℕ) (role : Role) (o : Outcome) → Agrees w r → NotingGoes n (role_noted_so n v role) w r o → LineGoes r (role_noted_so n v role (with_arm n w o).1.answer) (with_arm n w o)
role_fires stays w r n v role o a g = line_fires stays n (role_noted_so n v role) (role_noting n v role) w o.0 r o.1.events o.1.answer a g.lawful g.quiet g.came

pub promote_line : StaysSound → Steady → (w : PlainWorld) (r : Chronicle) (n v uuid : ℕ) → uuid < 2 ^ 64 → IsRanged w → AllDurable r.made → Agrees w r
    → LineGoes r (role_noted_so n v Role.Active (with_arm n w (promote_step w n v uuid)).1.answer) (with_arm n w (promote_step w n v uuid))
promote_line stays steady w r n v uuid small ranged calm a = role_fires stays w r n v Role.Active (promote_step w n v uuid) a (promote_goes stays steady r n v uuid small w ranged calm a)

pub follow_line : StaysSound → Steady → (w : PlainWorld) (r : Chronicle) (n v : ℕ) → IsRanged w → AllDurable r.made → Agrees w r
    → (let o = with_arm n w (turn_step w n v Role.Replica AdminCall.Follow) in LineGoes r (role_noted_so n v Role.Replica o.1.answer) o)
follow_line stays steady w r n v ranged calm a = role_fires stays w r n v Role.Replica (turn_step w n v Role.Replica AdminCall.Follow) a (follow_goes stays steady w r n v ranged calm a)

pub dead_line : StaysSound → Steady → (w : PlainWorld) (r : Chronicle) (n v : ℕ) → IsRanged w → AllDurable r.made → Agrees w r
    → (let o = with_arm n w (turn_step w n v Role.Dead AdminCall.Dead) in LineGoes r (role_noted_so n v Role.Dead o.1.answer) o)
dead_line stays steady w r n v ranged calm a = role_fires stays w r n v Role.Dead (turn_step w n v Role.Dead AdminCall.Dead) a (dead_goes stays steady w r n v ranged calm a)

-- `seal N V`: the open span is sealed

module _ (stays : StaysSound) (w w' : PlainWorld) (r : Chronicle) (c : Cluster) (n v : ℕ) (vb : Plain) (a : AgreesIn idle w r c) (known : vb_of w n v ≡ Some vb) (became : Changed w w' n v (seal_row vb).0 w.links) (shelf : shelf_of w' n v ≡ shelf_of w n v) where
  abbrev vb' : Plain
  vb' = (seal_row vb).0

  old : VbAgrees r n v (c.nodes (seat n v)) vb
  old = subst (AgreesAt r n v (c.nodes (seat n v))) known (a.vbs n v)

  abbrev sealed : Chronicle
  sealed = record r { open_at = with_at r.open_at n v false }

  here : VbAgrees sealed n v (c.nodes (seat n v)) vb'
  here = record {
    kept = record {
      sound = stays vb VbCall.Seal old.sound tt;
      spanned = spanned_sealed vb.role vb.role vb.spans vb.position old.spanned;
      keeps = old.keeps;
      told = old.told;
      member = record { active = old.member.active; position = old.member.position; log = old.member.log };
      branch = old.branch;
      holds = holds_fewer 0 (WholeTo vb.floor (with_seal vb.spans) vb.position) (WholeTo vb.floor vb.spans vb.position) (c.nodes (seat n v)).held (own_history r n v) (λ i x. (whole_sealed vb.spans i x.0, x.1, x.2)) old.holds;
    };
    role = old.role;
    opened = opened_as vb.role (with_at r.open_at n v false n v) false (at_here r.open_at n v false);
    writes = old.writes;
    counts = old.counts;
    lefts = old.lefts;
    times = old.times;
  }

  elsewhere_row : (m q : ℕ) → (m ≡ n → q ≡ v → ⊥) → vb_row sealed m q ≡ vb_row r m q
  elsewhere_row m q other = λ i. record (vb_row r m q) { opened = at_there r.open_at n v false m q other i }

  -- another vBucket is as it was
  elsewhere : (m q : ℕ) → (m ≡ n → q ≡ v → ⊥) → AgreesAt sealed m q (c.nodes (seat m q)) (vb_of w m q)
  elsewhere m q other = agrees_carried r sealed m q (c.nodes (seat m q)) (c.nodes (seat m q))
      (record { tree = refl; writer_of = λ u. refl; row = elsewhere_row m q other }) (fed_same (c.nodes (seat m q))) (vb_of w m q) (λ none. refl) (a.vbs m q)

  pub seal_agrees : AgreesIn idle w' sealed c
  seal_agrees = changed_agrees w w' r sealed c n v vb vb' a known became (record { role = refl; wants = refl; fewer = λ x p o. (o.0, record { among = o.1.among; entry = o.1.entry; same = o.1.same }) }) refl (λ k. refl) (λ k q. refl) (λ k. refl) (λ k. refl) (λ x i k has s. refl) here elsewhere (λ m q. refl) shelf
      (sealed_disk (r.disk_at n v) (c.disks (seat n v)) (shelf_of w n v) vb vb' refl) (λ m. refl) elsewhere_row (λ m d. refl) (λ d k has. refl) (later_same _ _ refl refl)

node_sealed : StaysSound → (w : PlainWorld) (r : Chronicle) (n v : ℕ) (node : PlainNode) → Agrees w r → w.nodes n ≡ Some node
    → GoesOn r (λ q. after_seal q n v (admin_line n v AdminCall.Seal node).1.answer) (with_node_at w n (admin_line n v AdminCall.Seal node).0, (admin_line n v AdminCall.Seal node).1)
node_sealed stays w r n v node a known =
    elim (node.vbs v) as (λ o. node.vbs v ≡ o → (let x = admin_by w n v AdminCall.Seal node (call_at node.vbs v VbCall.Seal o) in GoesOn r (λ q. after_seal q n v x.1.answer) x)) [
      | None ↦ λ e. refused_on w r n node Cause.UnknownVb a known
      | Some vb ↦ λ e.
          let node' : PlainNode = with_states node (with_vb_at node.vbs v (seal_row vb).0) in
          (tt, (a.0, seal_agrees stays w (with_node_at w n node') r a.0 n v vb a.1 (ap (λ o. vb_in o v) known ∙ e) (node_changed w n v node node' (seal_row vb).0 known (λ q. refl) (λ q o. refl) refl) (shelves_again w n node node' (λ q. refl) n v ∙ shelves_put w n node known n v)))
    ] refl

pub seal_goes : StaysSound → (w : PlainWorld) (r : Chronicle) (n v : ℕ) → Agrees w r
    → GoesOn r (λ q. after_seal q n v (on_node w n (admin_line n v AdminCall.Seal)).1.answer) (on_node w n (admin_line n v AdminCall.Seal))
seal_goes stays w r n v a = on_node_by (λ x. GoesOn r (λ q. after_seal q n v x.1.answer) x) w n (admin_line n v AdminCall.Seal) (tt, a) (λ node e. refused_on w r n node Cause.NodeDown a e) (λ node e up. node_sealed stays w r n v node a e)

-- `log N V`: the failover log is the one that the lines tell
pub log_goes : (w : PlainWorld) (r : Chronicle) (n v : ℕ) (node : PlainNode) → Agrees w r → w.nodes n ≡ Some node
    → GoesOn r as_told (with_node_at w n (admin_line n v AdminCall.Log node).0, (admin_line n v AdminCall.Log node).1)
log_goes w r n v node a known = elim (node.vbs v) as (λ o. node.vbs v ≡ o → GoesOn r as_told (admin_by w n v AdminCall.Log node (call_at node.vbs v VbCall.Log o))) [
  | None ↦ λ e. refused_on w r n node Cause.UnknownVb a known
  | Some vb ↦ λ e.
      let node' : PlainNode = with_states node (with_vb_at node.vbs v vb) in
      ((if_known (r.log_at n v) vb.log (own_vb w r a.0 n v node vb a.1 known e).log, tt), agrees_same w (with_node_at w n node') r a (node_of_same_vbs w n node node' known (put_same node.vbs v vb e) (λ q. refl) refl))
] refl
