-- lines that may settle durable writes tell the clients that wait
use Rattle.std.proofs.Common.{◌≡◌, inl, inr, ℕ, Bool, true, false, List, [], ◌∷◌, ◌++◌, map, append-nil, append_assoc, refl, ap, sym, ◌∙◌, Option, Some, None, is_some, subst}
use Rattle.std.specs.Prelude.{◌≢◌, ◌==◌, filter, min, length, take, if◌then◌else◌}
use Rattle.std.proofs.lemmas.Bool.{eq-eqb, eqb-true, ne_eqb}
use Rattle.disk_journals.specs.Books.{Book}
use Rattle.mcbp_frame.specs.declared.frame.Frame.{Frame}
use Rattle.vb_events.specs.declared.event.Answer.TheVariants as line
use Rattle.vb_events.specs.declared.event.Cause.{Cause}
use Rattle.vb_events.specs.declared.event.Cause.TheVariants as cause
use Rattle.vb_events.specs.declared.event.Event.{Event}
use Rattle.vb_events.specs.declared.event.Event.TheVariants as event
use Rattle.vb_types.specs.declared.journal.FlushPart.TheVariants as part
use Rattle.vb_types.specs.declared.role.Role.{Role}
use Rattle.vb_types.specs.declared.role.Role.TheVariants as role
use Rattle.vb_types.specs.declared.status.Status.TheVariants as status
use Rattle.vb_calls.specs.declared.calls.Resolved.{Resolved}
use Rattle.vb_calls.specs.declared.calls.VbAnswer.TheVariants as answer
use Rattle.vb_calls.specs.declared.calls.VbCall.{VbCall}
use Rattle.vb_calls.specs.declared.calls.VbCall.TheVariants as call
use Rattle.vb_calls.specs.declared.calls.VbReply.{VbReply}
use Rattle.vb_calls.specs.declared.journals.Flushed.TheVariants as flushed
use Rattle.vb_calls.specs.Flushes.{finish_job, is_refusal}
use Rattle.vb_calls.specs.Plain.{plain_step}
use Rattle.vb_calls.specs.Programs.{after}
use Rattle.vb_calls.specs.Following.{log_lacks}
use Rattle.vb_calls.specs.Roles.{is_role, promoted}
use Rattle.vb_calls.specs.Shelves.{Keep, Idle, Shelf, Shelves, Written, ask_at, with_shelf_at}
use Rattle.vb_calls.specs.State.{Plain, is_active}
use Rattle.vb_calls.specs.States.{States, call_at, with_vb_at}
use Rattle.vbucket.specs.Rows.{row_at}
use Rattle.node_core.specs.Admin.{AdminResult, admin_call, admin_refused, admin_result, promote_result}
use Rattle.node_core.specs.declared.admin.AdminCall.{AdminCall}
use Rattle.node_core.specs.declared.admin.AdminCall.TheVariants as admin
use Rattle.node_core.specs.Flushing.{FlushResult, flush_result}
use Rattle.node_core.specs.Peers.{PeerResult, peer_answered, peer_frames, peer_heard}
use Rattle.node_core.specs.Clients.{PlainClient, client_ended}
use Rattle.dcp_producer.proofs.Endings.{are_ended}
use Rattle.std.specs.List.{flat_map}
use Rattle.std.specs.Option.{option_map}
use Rattle.script_text.specs.declared.verb.LinkVerb.TheVariants as link_verb
use Rattle.script_text.specs.declared.verb.Verb.TheVariants as verb
use Rattle.dcp_producer.specs.declared.yields.Yielded.{Yielded}
use Rattle.node_core.specs.GivingUp.{GiveResult, peer_gives_up}
use Rattle.node_world.specs.Indexers.{ClientsTurn, IsTurned, TurnsClients}
use Rattle.node_world.proofs.ClientsTold.{session_in, told_sessions, told_world}
use Rattle.node_world.specs.declared.arm.Fired.{Fired}
use Rattle.node_world.specs.declared.arm.Fired.TheVariants as fired
use Rattle.node_world.specs.declared.told.Told.{Told}
use Rattle.node_world.specs.Arms.{fired_by, placed, under_arm}
use Rattle.node_world.specs.CallsMade.{node_after, reply_of}
use Rattle.node_world.specs.Causes.{IsFree}
use Rattle.node_world.specs.Cuts.{closed_at, cut_off, own_link, link_ended, unlinked}
use Rattle.node_world.specs.Dues.{due_at, due_in, due_of, is_counted}
use Rattle.node_world.specs.GivesFirst.{losing_client, losing_node}
use Rattle.node_world.specs.Lines.{ChangesRole}
use Rattle.node_world.specs.Links.{PlainLink, feeds, frame_up, frames_up, link_number, frame_posted, peer_of, producer_node, untold_peer, up_at}
use Rattle.node_world.specs.Nodes.{PlainNode, all_posted, first_cause, flush_line, refusal, refused_or, uuid_causes, with_kept, with_states, written, with_clients_ended}
use Rattle.node_world.specs.OutcomesTold.{EndsTold, IsCut, OutcomesTold, PumpsTell, TellsOutcomes, TellsReply, TellsTurn, TurnsAs, RolesTold, UpsTell, changes_of, with_streams_ended}
use Rattle.node_world.specs.Power.{after_fire, down_lines, with_arm}
use Rattle.node_world.specs.Turns.{called_at, no_node, posted_at, posted_in, promote_step, role_called, role_outcome, after_cuts, turn_step, turned_after, turned_if, with_ended}
use Rattle.node_world.specs.World.{link_outcome, on_link, verb_step, with_link}
use Rattle.node_world.specs.Worlds.{PlainWorld, Outcome, arm_in, node_if, node_outcome, on_node, with_node_at}
use Rattle.node_world.proofs.CallsMade.{calls, line_is}
use Rattle.node_world.proofs.FlushLines.{flushed_as, steps_of}
use Rattle.node_world.proofs.GivesFirst.{gives_first}
use Rattle.node_world.proofs.NodeCauses.{not_active, not_dead, not_replica, turned_by}
use Rattle.node_world.proofs.OwnLinks.{found_none, mapped, same_fed}
use Rattle.node_world.proofs.Promoting.{active_is}
use Rattle.node_world.proofs.RoleJobs.{came_if, came_to, noted_by, turn_by, turn_is}
use Rattle.node_world.proofs.OutcomesBehind.{SameSessions, tells_if, tells_more}

-- ---- a batch that is done

-- what is acknowledged stands behind
module _ (n v : ℕ) (came : Outcome) where
  -- the lines of this one are those, and more
  abbrev Grows : Outcome → Type 0
  Grows x = (more : List Event) × (x.1.events ≡ came.1.events ++ more)

  same_grows : Grows came
  same_grows = ([], sym (append-nil came.1.events))

  due_at_grows : (link : PlainLink) (o : Option PlainNode) → Grows (due_at n link came.0 came.1 o)
  due_at_grows link None = same_grows
  due_at_grows link (Some node) = (_, refl)

  due_of_grows : (o : Option PlainLink) → Grows (due_of n came.0 came.1 o)
  due_of_grows None = same_grows
  due_of_grows (Some link) = due_at_grows link (came.0.nodes n)

  due_grows : Grows (due_in n v came)
  due_grows = by (is_counted came.1.answer)
    where
      by : (b : Bool) → Grows (if b then due_of n came.0 came.1 (own_link n v came.0.links) else came)
      by true = due_of_grows (own_link n v came.0.links)
      by false = same_grows

module _ (n v : ℕ) (node : PlainNode) (vb : Plain) (here : node.vbs v ≡ Some vb) (shelf : Shelf) (kept : node.shelves v ≡ Some shelf) (seq : ℕ) (is : shelf.flush ≡ Written seq) where
  abbrev T : Shelves
  T = with_shelf_at node.shelves v shelf

  -- the journals once no batch is on its way
  abbrev T' : Shelves
  T' = (ask_at T v (Keep Idle) (T v)).0

  -- by what stands at v
  abbrev finished : Option Plain → (States × Shelves) × FlushResult
  finished o = let x = call_at node.vbs v (call.FlushDone seq) o in ((x.0, T'), flush_result n v (flushed.Done x.1))

  done_is : flush_line n v part.Done node ≡ written node (finished (Some vb))
  done_is =
      ap (written node)
      (flushed_as n v part.Done node vb shelf here kept
      ∙ ap (λ f. steps_of n v node.vbs T (finish_job v f)) is ∙ ap finished here)

-- ---- a change of role

-- a client that is told which streams ended
each_turned : (v : ℕ) (ids : List ℕ) (o : Option PlainClient) → IsTurned v ids o (option_map (client_ended v ids) o)
each_turned v ids None = tt
each_turned v ids (Some client) = (refl, are_ended v ids client.producer.streams, refl)

-- what befalls a line stands behind
armed_grows : (n : ℕ) (w : PlainWorld) (came : Outcome) → (more : List Event) × ((with_arm n w came).1.events ≡ came.1.events ++ more)
armed_grows n w came = by (fired_by (arm_in (w.nodes n)).fuse (arm_in (came.0.nodes n)).fuse)
  where
    by : (f : Fired) → (more : List Event) × ((after_fire n (arm_in (w.nodes n)).out f came).1.events ≡ came.1.events ++ more)
    by fired.No = ([], sym (append-nil came.1.events))
    by fired.Failed = (event.CallFailed n ∷ [], refl)
    by fired.Stopped = (event.NodeStopped n ∷ down_lines n None came.0, refl)

-- a node of which the clients are those
abbrev Keeps : (ℕ → Option PlainClient) → Option PlainNode → Type 0
Keeps clients o = (now : PlainNode) × (o ≡ Some now) × (now.clients ≡ clients)

-- where a link ends, the clients of each node stay
unlinked_keeps : (link : PlainLink) (w : PlainWorld) (n : ℕ) (clients : ℕ → Option PlainClient) (now : PlainNode) → w.nodes n ≡ Some now → now.clients ≡ clients → Keeps clients ((unlinked link w).nodes n)
unlinked_keeps link w n clients now there same = by (w.nodes (producer_node link)) refl
  where
    at : (x : PlainNode) → w.nodes (producer_node link) ≡ Some x → (b : Bool) → (n == producer_node link) ≡ b → Keeps clients (if b then Some (closed_at link x) else w.nodes n)
    at x e true at_end =
        let one : Some x ≡ Some now = sym e ∙ ap w.nodes (sym (eqb-true n (producer_node link) at_end)) ∙ there in
        let is : x ≡ now = cc in (closed_at link x, refl, ap (λ (y : PlainNode). y.clients) is ∙ same)
    at x e false other = (now, there, same)

    by : (o : Option PlainNode) → w.nodes (producer_node link) ≡ o → Keeps clients ((node_if (producer_node link) (closed_at link) w o).nodes n)
    by None e = (now, there, same)
    by (Some x) e = at x e (n == producer_node link) refl

cut_keeps : (w : PlainWorld) (n : ℕ) (clients : ℕ → Option PlainClient) (now : PlainNode) → w.nodes n ≡ Some now → now.clients ≡ clients → (o : Option PlainLink) → Keeps clients ((cut_off o w).0.nodes n)
cut_keeps w n clients now there same None = (now, there, same)
cut_keeps w n clients now there same (Some link) = unlinked_keeps link w n clients now there same

no_ok : (why : Cause) → line.No why ≡ line.Ok → ⊥
no_ok why e = cc

-- what is cut off is one link or none
one_cut : (w : PlainWorld) (o : Option PlainLink) → IsCut (cut_off o w).1
one_cut w None = inl refl
one_cut w (Some link) = inr (link_number link, refl)

-- outcomes leave the links
posts_links : (n : ℕ) (rs : List Resolved) (came : Outcome) → (posted_in n rs came).0.links ≡ came.0.links
posts_links n rs came = by (came.0.nodes n)
  where
    by : (o : Option PlainNode) → (posted_at n rs came.0 came.1 o).0.links ≡ came.0.links
    by None = refl
    by (Some node) = refl

module _ (w : PlainWorld) (n : ℕ) (node : PlainNode) (there : w.nodes n ≡ Some node) (up : node.off ≡ None) (v : ℕ) (vb : Plain) (here : node.vbs v ≡ Some vb) where
  -- a change of role that the vBucket makes
  module _ (asked : AdminCall) (changes : ChangesRole asked) (x : Plain × VbReply) (is : plain_step vb (admin_call asked) ≡ x) (going : is_refusal x.1.answer ≡ false) (ids : List ℕ) (ends : (admin_result n v asked (Some x.1)).ended ≡ Some ids) where
    abbrev y : PlainNode × AdminResult
    y = under_arm v (called_at n v asked) node

    abbrev noted : (States × Shelves) × AdminResult
    noted = noted_by n v asked node.vbs (placed v node).shelves (with_vb_at node.vbs v x.0) x.1 false

    y_is : y.1 ≡ noted.1
    y_is =
        let T = (placed v node).shelves in
        ap (λ (c : (States × Shelves) × AdminResult). c.1)
        (turn_is n v asked changes node.vbs T
        ∙ ap (λ o. came_if n v asked node.vbs T o) here ∙ ap (λ (z : Plain × VbReply). came_to n v asked node.vbs T z) is ∙ ap (λ b. noted_by n v asked node.vbs T (with_vb_at node.vbs v x.0) x.1 b) going)

    abbrev w2 : PlainWorld
    w2 = with_ended n v ids (with_node_at w n y.0)

    abbrev cut : PlainWorld × List Event
    cut = cut_off (own_link n v w2.links) w2

    turned_as : role_outcome n v asked w ≡ posted_in n y.1.resolved (after_cuts y.1 cut)
    turned_as =
        ap (λ o. turned_after n v w (node_outcome w n no_node o (role_called n v asked))) there
        ∙ ap (λ (o : Option (List Book)). let z : PlainNode × AdminResult = if is_some o then (node, admin_refused cause.NodeDown) else y in turned_after n v w (with_node_at w n z.0, z.1)) up
        ∙ ap (λ o. turned_if n v w o (with_node_at w n y.0, y.1)) (ap (λ (t : AdminResult). t.ended) y_is ∙ ends)

    -- the clients of the node, once they were told
    abbrev told_clients : ℕ → Option PlainClient
    told_clients c = option_map (client_ended v ids) (node.clients c)

    kept : Keeps told_clients (cut.0.nodes n)
    kept =
        cut_keeps w2 n told_clients (with_clients_ended v ids y.0) (ap (λ (x : PlainWorld). x.nodes n) (told_world w n v ids y.0) ∙ ap (λ b. if b then Some (with_clients_ended v ids y.0) else w.nodes n) (eq-eqb n n refl))
        refl (own_link n v w2.links)

    same_sessions : SameSessions node.clients kept.0.clients
    same_sessions c = ap (λ f. session_in (f c)) kept.2 ∙ told_sessions v ids (node.clients c)

    -- those of another node
    kept_other : (m : ℕ) (other : PlainNode) → m ≢ n → w.nodes m ≡ Some other → Keeps other.clients (cut.0.nodes m)
    kept_other m other ne here =
        cut_keeps w2 m other.clients other (ap (λ (x : PlainWorld). x.nodes m) (told_world w n v ids y.0) ∙ ap (λ b. if b then Some (with_clients_ended v ids y.0) else w.nodes m) (ne_eqb m n ne) ∙ here)
        refl (own_link n v w2.links)

    events_are : (role_outcome n v asked w).1.events ≡ (cut.1 ++ noted.1.events) ++ (all_posted noted.1.resolved kept.0).1
    events_are =
        ap (λ (o : Outcome). o.1.events) turned_as
        ∙ ap (λ o. (posted_at n y.1.resolved cut.0 (after_cuts y.1 cut).1 o).1.events) kept.1 ∙ ap (λ (t : AdminResult). (cut.1 ++ t.events) ++ (all_posted t.resolved kept.0).1) y_is

    -- a line that comes to this change of role, and whose call tells these lines
    module _ (lines : List Event) (told : (admin_result n v asked (Some x.1)).events ≡ lines) (hands : (admin_result n v asked (Some x.1)).resolved ≡ x.1.resolved) (came : Outcome) (at : came ≡ role_outcome n v asked w) where
      abbrev reply : VbReply
      reply = (plain_step vb (admin_call asked)).1

      abbrev posts : List Event
      posts = (all_posted reply.resolved kept.0).1

      came_events : came.1.events ≡ (cut.1 ++ lines) ++ posts
      came_events =
          ap (λ (o : Outcome). o.1.events) at ∙ events_are
          ∙ (λ i. (cut.1 ++ told i) ++ (all_posted (hands i) kept.0).1) ∙ ap (λ (z : Plain × VbReply). (cut.1 ++ lines) ++ (all_posted z.1.resolved kept.0).1) (sym is)

      turn_tells : TellsTurn node reply lines (with_arm n w came).1.events
      turn_tells =
          let (more, grows) = armed_grows n w came in (
            cut.1,
            one_cut w2 (own_link n v w2.links),
            tells_more node reply.resolved (cut.1 ++ lines) came.1.events more (with_arm n w came).1.events (tells_if node kept.0 reply.resolved (cut.1 ++ lines) came.1.events same_sessions came_events) grows,
          )

      -- what is left of the clients
      turned_clients : TurnsClients w n v node ids reply.resolved came
      turned_clients = record {
        mid = kept.0;
        each = λ c. subst (λ (f : ℕ → Option PlainClient). IsTurned v ids (node.clients c) (f c)) (sym kept.2) (each_turned v ids (node.clients c));
        now = (all_posted y.1.resolved kept.0).0;
        is = ap (λ (o : Outcome). o.0.nodes n) (at ∙ turned_as) ∙ ap (λ o. (posted_at n y.1.resolved cut.0 (after_cuts y.1 cut).1 o).0.nodes n) kept.1
            ∙ ap (λ b. if b then Some (all_posted y.1.resolved kept.0).0 else cut.0.nodes n) (eq-eqb n n refl);
        posted = ap (λ rs. (all_posted rs kept.0).0.clients) (ap (λ (t : AdminResult). t.resolved) y_is ∙ hands ∙ ap (λ (z : Plain × VbReply). z.1.resolved) (sym is));
        others = λ m other ne here.
            let still = kept_other m other ne here in (
              still.0,
              ap (λ (o : Outcome). o.0.nodes m) (at ∙ turned_as) ∙ ap (λ o. (posted_at n y.1.resolved cut.0 (after_cuts y.1 cut).1 o).0.nodes m) kept.1
                  ∙ ap (λ b. if b then Some (all_posted y.1.resolved kept.0).0 else cut.0.nodes m) (ne_eqb m n ne) ∙ still.1,
              still.2,
            );
      }

      clients_turn : (with_arm n w came).1.answer ≡ line.Ok → TurnsClients w n v node ids reply.resolved (with_arm n w came)
      clients_turn ok = by (fired_by (arm_in (w.nodes n)).fuse (arm_in (came.0.nodes n)).fuse) ok
        where
          by : (f : Fired) → (after_fire n (arm_in (w.nodes n)).out f came).1.answer ≡ line.Ok → TurnsClients w n v node ids reply.resolved (after_fire n (arm_in (w.nodes n)).out f came)
          by fired.No ok = turned_clients
          by fired.Failed ok = let t = turned_clients in record { mid = t.mid; each = t.each; now = t.now; is = t.is; posted = t.posted; others = t.others }
          by fired.Stopped ok = absurd (no_ok cause.Stopped ok)

      turn_is_told : TurnsAs lines (with_arm n w came).1.events
      turn_is_told = let (more, grows) = armed_grows n w came in (cut.1, posts ++ more, one_cut w2 (own_link n v w2.links), grows ∙ ap (λ xs. xs ++ more) came_events ∙ append_assoc (cut.1 ++ lines) posts more)

      -- where no link feeds the vBucket
      module _ (unfed : filter (feeds n v) w.links ≡ []) where
        uncut : own_link n v w2.links ≡ None
        uncut = found_none (feeds n v) w2.links (mapped (feeds n v) (link_ended n v ids) (same_fed n v ids n v) w.links ∙ ap (map (link_ended n v ids)) unfed)

        came_links : came.0.links ≡ map (with_streams_ended n v ids) w.links
        came_links =
            ap (λ (o : Outcome). o.0.links) (at ∙ turned_as) ∙ posts_links n y.1.resolved (after_cuts y.1 cut) ∙ ap (λ o. (cut_off o w2).0.links) uncut

        ends_are_told : (with_arm n w came).1.answer ≡ line.Ok → (with_arm n w came).0.links ≡ map (with_streams_ended n v ids) w.links
        ends_are_told ok = by (fired_by (arm_in (w.nodes n)).fuse (arm_in (came.0.nodes n)).fuse) ok
          where
            by : (f : Fired) → (after_fire n (arm_in (w.nodes n)).out f came).1.answer ≡ line.Ok → (after_fire n (arm_in (w.nodes n)).out f came).0.links ≡ map (with_streams_ended n v ids) w.links
            by fired.No ok = came_links
            by fired.Failed ok = came_links
            by fired.Stopped ok = absurd (no_ok cause.Stopped ok)

  -- a line that no cause refuses, by its vBucket's role
  abbrev role_row : Bool → List (Bool × Cause) → Outcome → Outcome
  role_row b rest came = refused_or (first_cause ((b, cause.WrongRole) ∷ rest)) w came

  turns : (r : Role) (asked : AdminCall) → is_role vb.role r ≡ false → turn_step w n v r asked ≡ role_outcome n v asked w
  turns r asked other = turned_by w n node there up v r [] (role_outcome n v asked w) (Some vb) here ∙ ap (λ b. role_row b [] (role_outcome n v asked w)) other

  -- the vBucket follows or dies, or is promoted
  abbrev turned_x : Role → Plain × VbReply
  turned_x r = turn_by false vb r

  abbrev turn_of : (r : Role) (asked : AdminCall) → Type 0
  turn_of r asked = (TellsTurn node (plain_step vb (admin_call asked)).1 (event.Role n v r ∷ []) (with_arm n w (turn_step w n v r asked)).1.events) × TurnsAs (event.Role n v r ∷ []) (with_arm n w (turn_step w n v r asked)).1.events

  follows : vb.role ≢ role.Replica → turn_of role.Replica admin.Follow
  follows ne =
      let other = not_replica vb.role ne in
      let is : plain_step vb call.Follow ≡ turned_x role.Replica = ap (λ b. turn_by b vb role.Replica) other in
      let at = turns role.Replica admin.Follow other in (
        turn_tells admin.Follow tt (turned_x role.Replica) is refl _ refl (event.Role n v role.Replica ∷ []) refl refl (turn_step w n v role.Replica admin.Follow) at,
        turn_is_told admin.Follow tt (turned_x role.Replica) is refl _ refl (event.Role n v role.Replica ∷ []) refl refl (turn_step w n v role.Replica admin.Follow) at,
      )

  dies : vb.role ≢ role.Dead → turn_of role.Dead admin.Dead
  dies ne =
      let other = not_dead vb.role ne in
      let is : plain_step vb call.Dead ≡ turned_x role.Dead = ap (λ b. turn_by b vb role.Dead) other in
      let at = turns role.Dead admin.Dead other in (
        turn_tells admin.Dead tt (turned_x role.Dead) is refl _ refl (event.Role n v role.Dead ∷ []) refl refl (turn_step w n v role.Dead admin.Dead) at,
        turn_is_told admin.Dead tt (turned_x role.Dead) is refl _ refl (event.Role n v role.Dead ∷ []) refl refl (turn_step w n v role.Dead admin.Dead) at,
      )

  module _ (uuid : ℕ) (ne : vb.role ≢ role.Active) (some : uuid ≢ 0) (free : IsFree w uuid) (lacks : log_lacks vb.log uuid ≡ true) where
    abbrev promoted_x : Plain × VbReply
    promoted_x = promoted None vb uuid

    abbrev branch_lines : Option ℕ → ℕ → ℕ → List Event
    branch_lines parent fork high = event.Branch n v uuid parent fork high ∷ event.Role n v role.Active ∷ changes_of n v (plain_step vb (call.Promote uuid)).1

    abbrev rises : Outcome
    rises = promote_step w n v uuid

    not_yet : is_active vb.role ≡ false
    not_yet = active_is vb.role ∙ not_active vb.role ne

    leads : plain_step vb (call.Promote uuid) ≡ promoted_x
    leads = ap (λ o. promoted o vb uuid) (λ i. if not_yet i then Some status.NotMyVbucket else if ne_eqb uuid 0 some i then Some status.Einval else if lacks i then None else Some status.Einval)

    at_once : rises ≡ role_outcome n v (admin.Promote uuid) w
    at_once =
        let came = role_outcome n v (admin.Promote uuid) w in
        turned_by w n node there up v role.Active (uuid_causes w.uuids uuid) came (Some vb) here
        ∙ (λ i. role_row (not_active vb.role ne i) ((ne_eqb uuid 0 some i, cause.UuidZero) ∷ (free i, cause.UuidUsed) ∷ []) came)

    promotes : (fork high : ℕ) (parent : Option ℕ) → (plain_step vb (call.Promote uuid)).1.answer ≡ answer.Branch uuid parent fork high
        → TellsTurn node (plain_step vb (call.Promote uuid)).1 (branch_lines parent fork high) (with_arm n w rises).1.events × TurnsAs (branch_lines parent fork high) (with_arm n w rises).1.events
    promotes fork high parent says =
        let told : (admin_result n v (admin.Promote uuid) (Some promoted_x.1)).events ≡ branch_lines parent fork high =
        ap (λ (z : Plain × VbReply). (promote_result n v z.1 z.1.answer).events) (sym leads) ∙ ap (λ a. (promote_result n v (plain_step vb (call.Promote uuid)).1 a).events) says in
        (turn_tells (admin.Promote uuid) tt promoted_x leads refl _ refl _ told refl rises at_once, turn_is_told (admin.Promote uuid) tt promoted_x leads refl _ refl _ told refl rises at_once)

  pub roles_told : RolesTold w n v vb
  roles_told = record {
    promote = λ number uuid fork high parent ne some free lacks says. (promotes uuid ne some free lacks fork high parent says).1;
    follow = λ number ne. (follows ne).1;
    dead = λ number ne. (dies ne).1;
  }

  pub ends_told : EndsTold w n v vb
  ends_told = record {
    promote = λ number uuid ne some free lacks unfed ok.
        ends_are_told (admin.Promote uuid) tt (promoted_x uuid ne some free lacks) (leads uuid ne some free lacks) refl _ refl _ refl refl (promote_step w n v uuid) (at_once uuid ne some free lacks) unfed ok;
    follow = λ number ne unfed ok.
        let other = not_replica vb.role ne in
        ends_are_told admin.Follow tt (turned_x role.Replica) (ap (λ b. turn_by b vb role.Replica) other) refl _ refl _ refl refl (turn_step w n v role.Replica admin.Follow) (turns role.Replica admin.Follow other) unfed ok;
    dead = λ number ne unfed ok.
        let other = not_dead vb.role ne in
        ends_are_told admin.Dead tt (turned_x role.Dead) (ap (λ b. turn_by b vb role.Dead) other) refl _ refl _ refl refl (turn_step w n v role.Dead admin.Dead) (turns role.Dead admin.Dead other) unfed ok;
  }

  pub clients_told : ClientsTurn w n v node vb
  clients_told = record {
    promote = λ number uuid ne some free lacks ok.
        clients_turn (admin.Promote uuid) tt (promoted_x uuid ne some free lacks) (leads uuid ne some free lacks) refl _ refl _ refl refl (promote_step w n v uuid) (at_once uuid ne some free lacks) ok;
    follow = λ number ne ok.
        let other = not_replica vb.role ne in
        clients_turn admin.Follow tt (turned_x role.Replica) (ap (λ b. turn_by b vb role.Replica) other) refl _ refl _ refl refl (turn_step w n v role.Replica admin.Follow) (turns role.Replica admin.Follow other) ok;
    dead = λ number ne ok.
        let other = not_dead vb.role ne in
        clients_turn admin.Dead tt (turned_x role.Dead) (ap (λ b. turn_by b vb role.Dead) other) refl _ refl _ refl refl (turn_step w n v role.Dead admin.Dead) (turns role.Dead admin.Dead other) ok;
  }

  -- a line that is one call of the vBucket
  settles : (asked : VbCall) (events : List Event) → events ≡ changes_of n v (reply_of vb asked) ++ (all_posted (reply_of vb asked).resolved (node_after v vb asked node)).1 → TellsReply n v node (reply_of vb asked) events
  settles asked events told = tells_if node (node_after v vb asked node) (reply_of vb asked).resolved (changes_of n v (reply_of vb asked)) events (λ c. refl) told

  dones : (seq : ℕ) (shelf : Shelf) → node.shelves v ≡ Some shelf → shelf.flush ≡ Written seq → TellsReply n v node (reply_of vb (call.FlushDone seq)) (due_in n v (on_node w n (flush_line n v part.Done))).1.events
  dones seq shelf kept is =
      let came : Outcome = on_node w n (flush_line n v part.Done) in
      let reply : VbReply = reply_of vb (call.FlushDone seq) in
      let (more, grows) = due_grows n v came in
      tells_more node reply.resolved (changes_of n v reply) came.1.events more (due_in n v came).1.events
      (tells_if node (with_kept node (finished n v node vb here shelf kept seq is (Some vb)).0) reply.resolved (changes_of n v reply) came.1.events (λ c. refl)
      (ap (λ (o : Outcome). o.1.events) (line_is w n node there up (flush_line n v part.Done)) ∙ ap (λ (x : PlainNode × Told). x.1.events) (done_is n v node vb here shelf kept seq is))) grows

  pub outcomes : OutcomesTold w n v node vb
  outcomes = record {
    chain = λ number others active may. settles (call.Chain (record { active = n; others = others })) _ (ap (λ (t : Told). t.events) ((calls w n node there up v vb here).chain number others active may).said);
    tick = λ number active. settles (call.Tick node.clock) _ (ap (λ (t : Told). t.events) ((calls w n node there up v vb here).tick number active).said);
    done = λ number seq shelf kept is. dones seq shelf kept is;
    promote = λ number uuid fork high parent ne some free lacks says. (promotes uuid ne some free lacks fork high parent says).0;
    follow = λ number ne. (follows ne).0;
    dead = λ number ne. (dies ne).0;
  }

-- ---- frames that go up

-- more frames are told behind
pub frames_grow : (fs : List Frame) (came : PlainNode × PeerResult) → (more : List Event) × ((frames_up fs came).1.events ≡ came.1.events ++ more)
frames_grow [] came = ([], sym (append-nil came.1.events))
frames_grow (f ∷ fs) came =
    let (more, grows) = frames_grow fs (frame_up f came) in
    let said = (frame_posted f came.1.peer came.0).1.events in (said ++ more, grows ∙ append_assoc came.1.events said more)

module _ (w : PlainWorld) (l : ℕ) (link : PlainLink) (producer : PlainNode) (add_link : row_at link_number l w.links ≡ Some link) (from : w.nodes (producer_node link) ≡ Some producer) where
  up_is : (wanted : ℕ) → (on_link w l producer_node (up_at wanted)).1 ≡ (up_at wanted link producer).1.1
  up_is wanted =
      ap (λ o. (link_outcome w l producer_node (up_at wanted) o).1) add_link ∙ ap (λ o. (with_link link (node_outcome w (producer_node link) (Some link, refusal cause.UnknownNode) o (up_at wanted link))).1) from

  pub ups_tell : UpsTell w l link producer
  ups_tell = record { first = first }
    where
      first : (number wanted : ℕ) (f : Frame) (more : List Frame) (answered : States × PeerResult) →
          let piece = take (min wanted (length link.up)) link.up in peer_frames piece (peer_of link) ≡ f ∷ more → after (peer_answered f (peer_heard piece (peer_of link))) producer.vbs ≡ answered
          → TellsOutcomes producer answered.1.resolved answered.1.events (on_link w l producer_node (up_at wanted)).1.events
      first number wanted f more answered frames is =
          let piece = take (min wanted (length link.up)) link.up in
          let peer = peer_heard piece (peer_of link) in
          let begun : PlainNode × PeerResult = (producer, untold_peer peer) in
          let (later, grows) = frames_grow more (frame_up f begun) in
          tells_more producer answered.1.resolved answered.1.events (answered.1.events ++ (all_posted answered.1.resolved (with_states producer answered.0)).1) later (on_link w l producer_node (up_at wanted)).1.events
          (tells_if producer (with_states producer answered.0) answered.1.resolved answered.1.events (answered.1.events ++ (all_posted answered.1.resolved (with_states producer answered.0)).1) (λ c. refl) refl)
          (ap (λ (t : Told). t.events) (up_is wanted)
          ∙ ap (λ fs. (frames_up fs begun).1.events) frames ∙ grows ∙ ap (λ (x : States × PeerResult). (x.1.events ++ (all_posted x.1.resolved (with_states producer x.0)).1) ++ later) is)

  -- ---- a pump

  lost_sessions : (given : List Yielded) (o : Option PlainClient) → session_in (option_map (losing_client given) o) ≡ session_in o
  lost_sessions given None = refl
  lost_sessions given (Some client) = refl

  pub pumps_tell : PumpsTell w l link producer
  pumps_tell = record { first = first }
    where
      Tells : ℕ → ℕ → GiveResult → Type 0
      Tells number frames gave =
          TellsOutcomes producer (flat_map (λ one. one.resolved) gave.given) (map (λ one. event.Role (producer_node link) one.vb role.Dead) gave.given) (verb_step w number (verb.AtLink l (link_verb.Pump frames))).1.events

      first : (number frames : ℕ) → Tells number frames (after (peer_gives_up frames (peer_of link)) producer.vbs).1
      first number frames =
          let g = gives_first w number l frames link producer add_link from in
          let rs = flat_map (λ one. one.resolved) g.gave.given in
          let before = map (λ one. event.Role (producer_node link) one.vb role.Dead) g.gave.given in
          subst (Tells number frames) (sym (ap (λ (x : States × GiveResult). x.1) g.gives))
          (tells_more producer rs before (before ++ g.replies) g.put.events (verb_step w number (verb.AtLink l (link_verb.Pump frames))).1.events
          (tells_if producer (losing_node g.gave.given g.states producer) rs before (before ++ g.replies) (λ c. lost_sessions g.gave.given (producer.clients c)) (ap (λ (x : PlainNode × List Event). before ++ x.1) (sym g.posts))) g.lines)
