-- why lines for nodes are refused
use Rattle.std.proofs.Common.{◌≡◌, ℕ, Bool, true, false, List, [], ◌∷◌, ◌++◌, length, refl, ap, ◌∙◌, Option, Some, None, is_some, option_map, sym}
use Rattle.std.specs.Prelude.{◌≢◌, ◌==◌, not, nat_le, if◌then◌else◌}
use Rattle.std.proofs.lemmas.Bool.{eq-eqb, eqb-true, le-leb, lt-leb, ne_eqb}
use Rattle.disk_journals.specs.Arms.{fuse_at, under}
use Rattle.disk_journals.specs.Books.{Book}
use Rattle.durability.specs.Chains.{Members}
use Rattle.vb_events.specs.declared.event.Answer.TheVariants as answer
use Rattle.vb_events.specs.declared.event.Cause.{Cause}
use Rattle.vb_events.specs.declared.event.Cause.TheVariants as cause
use Rattle.vb_types.specs.declared.journal.FlushPart.{FlushPart}
use Rattle.vb_types.specs.declared.journal.FlushPart.TheVariants as part
use Rattle.vb_types.specs.declared.journal.Record.TheVariants.{State}
use Rattle.vb_types.specs.declared.role.Role.{Role}
use Rattle.vb_types.specs.declared.role.Role.TheVariants as role
use Rattle.vb_types.specs.declared.status.Status.TheVariants as status
use Rattle.vb_calls.specs.declared.calls.VbCall.TheVariants as call
use Rattle.vb_calls.specs.declared.calls.VbReply.{VbReply}
use Rattle.vb_calls.specs.Jobs.{after_job, after_reads}
use Rattle.vb_calls.specs.Flushes.{is_refusal, log_of_reply, role_of_call, wrote_of}
use Rattle.vb_calls.specs.Shelves.{Append, Shelf, Shelves, shelves_step}
use Rattle.vb_calls.specs.Following.{log_lacks}
use Rattle.vb_calls.specs.Plain.{plain_step}
use Rattle.vb_calls.specs.Roles.{is_role, promoted}
use Rattle.vb_calls.specs.State.{Plain, first_log, is_active}
use Rattle.vb_calls.specs.States.{States, call_at, states_step, with_vb_at}
use Rattle.vb_calls.specs.Trims.{ended_by, needless_to}
use Rattle.vb_disk.specs.declared.fuse.Fuse.{Fuse}
use Rattle.node_core.specs.declared.admin.AdminCall.{AdminCall}
use Rattle.node_core.specs.declared.admin.AdminCall.TheVariants as admin
use Rattle.node_core.specs.Admin.{AdminResult, admin_call, admin_job, admin_refused, admin_result, noted_answer}
use Rattle.node_core.specs.Clients.{PlainClient, ClientPulled, new_client}
use Rattle.dcp_producer.specs.Producers.{begun}
use Rattle.dcp_producer.specs.Pulling.{frames_put, why_of}
use Rattle.node_world.proofs.ClientsTold.{told_world}
use Rattle.node_world.specs.declared.arm.Fired.TheVariants as fired
use Rattle.node_world.specs.declared.told.Told.{Told}
use Rattle.node_world.specs.Arms.{fail_arm, fired_by, fuse_or, placed, stop_arm, under_arm}
use Rattle.node_world.specs.Causes.{AtMade, NoNode, NoVb, Notes, AtNode, AtVb, AtShelf}
use Rattle.node_world.specs.Cuts.{closed_at, cut_off, own_link, unlinked}
use Rattle.node_world.specs.Links.{PlainLink, producer_node}
use Rattle.node_world.specs.Lines.{ChangesRole}
use Rattle.node_world.specs.Nodes.{PlainNode, arm_at, empty_node, done, if_up, refusal, first_cause, refused_or, is_one_of, shelf_or_blank, uuid_causes, vb_made, vb_at, replica_at, save_line, with_client, with_disk, client_at, bytes_if, bytes_at, hang_at, clock_at, flush_line, chain_line, tick_line, hung_if, pull_at, pull_if, with_clients_ended}
use Rattle.node_world.specs.Power.{any_used, down_lines, dropped, start_at, with_arm}
use Rattle.node_world.specs.Turns.{KeepsRole, admin_line, called_at, no_node, role_called, role_causes, role_outcome, turned, turned_after, turned_if, with_ended}
use Rattle.node_world.specs.World.{base_of}
use Rattle.node_world.specs.Worlds.{PlainWorld, Outcome, arm_in, is_off, is_up, node_if, node_outcome, on_made, on_node, vb_in, with_node_at}
use Rattle.node_world.proofs.AfterPosts.{posted_answer, posted_arm}
use Rattle.node_world.proofs.ChainCauses.{chain_bad, chain_idle, chain_is_set, due_answer, may_join, no_chain, no_tick, own_member, tick_idle, ticks, too_long, twice_member}
use Rattle.node_world.proofs.FlushLines.{part_answer, flush_arm, no_flush, no_shelf, flush_is, out_refused, saved_kept, saved_ok, taken_count, unsaved_refused, untaken_kept, untaken_refused, done_count}
use Rattle.node_world.proofs.Promoting.{active_is}
use Rattle.node_world.proofs.PullReads.{client_put, pull_is}
use Rattle.node_world.proofs.RoleJobs.{turn_by, noted_by, came_to, came_if, turn_is, called_quiet, noted_well}
use Rattle.node_world.proofs.Shelved.{shelf_here}
use Rattle.node_world.proofs.Unfired.{append_burns, append_stands, left_alone, left_burnt, left_whole, made_as, over_is, refused_armed, running, running_armed, running_refused, same_fuse, stood_passed, unfired}

-- where the node n is not made
module _ (w : PlainWorld) (n : ℕ) (none : w.nodes n ≡ None) where
  as_none : (f : PlainNode → PlainNode × Told) → on_made w n f ≡ (w, refusal cause.UnknownNode)
  as_none f = ap (λ o. node_outcome w n (refusal cause.UnknownNode) o f) none

  unmade : (f : PlainNode → PlainNode × Told) → (on_made w n f).1.answer ≡ answer.No cause.UnknownNode
  unmade f = ap (λ (x : Outcome). x.1.answer) (as_none f)

  unmade_armed : (f : PlainNode → PlainNode × Told) → (with_arm n w (on_made w n f)).1.answer ≡ answer.No cause.UnknownNode
  unmade_armed f = refused_armed w n (on_made w n f) cause.UnknownNode (as_none f)

  first_of : (rest : List (Bool × Cause)) (came : Outcome) → refused_or (first_cause ((not (is_some (w.nodes n)), cause.UnknownNode) ∷ rest)) w came ≡ (w, refusal cause.UnknownNode)
  first_of rest came = ap (λ o. refused_or (first_cause ((not (is_some o), cause.UnknownNode) ∷ rest)) w came) none

  unmade_turn : (v : ℕ) (r : Role) (rest : List (Bool × Cause)) (came : Outcome)
      → (with_arm n w (refused_or (first_cause ((not (is_some (w.nodes n)), cause.UnknownNode) ∷ (is_off (w.nodes n), cause.NodeDown) ∷ role_causes r (vb_in (w.nodes n) v) ++ rest)) w came)).1.answer ≡ answer.No cause.UnknownNode
  unmade_turn v r rest came =
      refused_armed w n _ cause.UnknownNode (first_of ((is_off (w.nodes n), cause.NodeDown) ∷ role_causes r (vb_in (w.nodes n) v) ++ rest) came)

  pub not_made : NoNode w n
  not_made = record {
    vb_active = λ v uuid number. unmade_armed (if_up (vb_at w.uuids n v uuid));
    vb_replica = λ v number. unmade_armed (if_up (replica_at n v));
    chain = λ v others number. unmade (if_up (chain_line n v others));
    clock = λ nanos number. unmade (if_up (clock_at nanos));
    client = λ c number. unmade (if_up (client_at n (base_of number) c));
    bytes = λ c bytes number. unmade (if_up (bytes_at c bytes));
    hang = λ c number. unmade (if_up (hang_at c));
    promote = λ v uuid number. unmade_turn v role.Active (uuid_causes w.uuids uuid) (role_outcome n v (admin.Promote uuid) w);
    follow = λ v number. unmade_turn v role.Replica [] (role_outcome n v admin.Follow w);
    dead = λ v number. unmade_turn v role.Dead [] (role_outcome n v admin.Dead w);
    seal = λ v number. unmade (if_up (admin_line n v admin.Seal));
    trim = λ v number. unmade (if_up (admin_line n v admin.Trim));
    take = λ v number. unmade (if_up (flush_line n v part.Take));
    save = λ v number. unmade_armed (if_up (save_line n v));
    done = λ v number. due_answer n v (on_node w n (flush_line n v part.Done)) ∙ unmade (if_up (flush_line n v part.Done));
    tick = λ v number. unmade (if_up (tick_line n v));
    stat = λ v number. unmade (if_up (admin_line n v admin.Stat));
    log = λ v number. unmade (if_up (admin_line n v admin.Log));
    show = λ v number. unmade (if_up (admin_line n v admin.Show));
    stop = λ call out number. unmade (arm_at (stop_arm call out));
    fail = λ call number. unmade (arm_at (fail_arm call));
    crash = λ out number. ap (λ (x : Outcome). x.1.answer) (first_of ((not (is_up (w.nodes n)), cause.NodeDown) ∷ []) (dropped n out w, done (down_lines n None w)));
    start = λ uuids number.
        ap (λ (x : Outcome). x.1.answer) (first_of ((is_up (w.nodes n), cause.NodeUp) ∷ (is_one_of 0 uuids, cause.UuidZero) ∷ (any_used w.uuids uuids, cause.UuidUsed) ∷ []) (on_made w n (start_at n uuids)));
  }

-- where the node n is made
pub at_made : (w : PlainWorld) (n : ℕ) (node : PlainNode) → w.nodes n ≡ Some node → AtMade w n
at_made w n node there = record {
  made = λ number. ap (λ o. (refused_or (first_cause ((is_some o, cause.NodeExists) ∷ [])) w (with_node_at w n empty_node, done [])).1.answer) there;
  stop = λ call out number. ap (λ (x : Outcome). x.1.answer) (made_as w n node there (arm_at (stop_arm call out)));
  fail = λ call number. ap (λ (x : Outcome). x.1.answer) (made_as w n node there (arm_at (fail_arm call)));
}

-- where it is running, too
module _ (w : PlainWorld) (n : ℕ) (node : PlainNode) (there : w.nodes n ≡ Some node) (up : node.off ≡ None) where
  abbrev F : Fuse
  F = node.arm.fuse

  -- the causes of a vBucket to be made
  abbrev pub vb_row : Bool → Bool → List (Bool × Cause) → PlainNode × Told → PlainNode × Told
  vb_row a b rest came = refused_or (first_cause ((a, cause.VbExists) ∷ (b, cause.Limit) ∷ rest)) node came

  active_no : (v uuid : ℕ) (why : Cause) → vb_at w.uuids n v uuid node ≡ (node, refusal why) → (with_arm n w (on_node w n (vb_at w.uuids n v uuid))).1.answer ≡ answer.No why
  active_no v uuid why is = running_refused w n node there up (vb_at w.uuids n v uuid) why is

  replica_no : (v : ℕ) (why : Cause) → replica_at n v node ≡ (node, refusal why) → (with_arm n w (on_node w n (replica_at n v))).1.answer ≡ answer.No why
  replica_no v why is = running_refused w n node there up (replica_at n v) why is

  -- its first record stands
  module _ (v : ℕ) (r : Role) (uuid : ℕ) (f : PlainNode → PlainNode × Told) (is : f node ≡ vb_made n v r uuid node) (notes : Notes node (shelf_or_blank (node.shelves v))) where
    abbrev shelf : Shelf
    shelf = under F (shelf_or_blank (node.shelves v))

    abbrev S : Shelves
    S = (placed v (with_disk node v)).shelves

    stands_there : S v ≡ Some shelf
    stands_there = over_is (with_disk node v).shelves v F (shelf_or_blank (node.shelves v)) (shelf_here node.shelves v (shelf_or_blank (node.shelves v)))

    made_well : (with_arm n w (on_node w n f)).1.answer ≡ answer.Ok
    made_well =
        running_armed w n node there up f (ap (λ (x : PlainNode × Told). fired_by F x.0.arm.fuse) is
        ∙ left_burnt F (fuse_at (shelves_step S v (Append (State r (first_log r uuid)))).0 v) (append_burns S v (State r (first_log r uuid)) shelf stands_there notes) (stood_passed shelf notes))
        ∙ ap (λ (x : PlainNode × Told). x.1.answer) is ∙ ap (λ fate. noted_answer (wrote_of fate) answer.Ok) (append_stands S v (State r (first_log r uuid)) shelf stands_there notes)

  -- the role and the id of a line that turns a vBucket
  abbrev pub turn_row : Role → List (Bool × Cause) → Outcome → Option Plain → Outcome
  turn_row r rest came o = refused_or (first_cause (role_causes r o ++ rest)) w came

  pub turned_by : (v : ℕ) (r : Role) (rest : List (Bool × Cause)) (came : Outcome) (o : Option Plain) → node.vbs v ≡ o
      → refused_or (first_cause ((not (is_some (w.nodes n)), cause.UnknownNode) ∷ (is_off (w.nodes n), cause.NodeDown) ∷ role_causes r (vb_in (w.nodes n) v) ++ rest)) w came ≡ turn_row r rest came o
  turned_by v r rest came o e =
      ap (λ x. refused_or (first_cause ((not (is_some x), cause.UnknownNode) ∷ (is_off x, cause.NodeDown) ∷ role_causes r (vb_in x v) ++ rest)) w came) there
      ∙ (λ i. refused_or (first_cause ((is_some (up i), cause.NodeDown) ∷ role_causes r (e i) ++ rest)) w came)

  asked_by : (v : ℕ) (asked : AdminCall) → KeepsRole asked → (o : Option Plain) → node.vbs v ≡ o → (on_node w n (admin_line n v asked)).1.answer ≡ (admin_result n v asked (call_at node.vbs v (admin_call asked) o).1).answer
  asked_by v asked keeps o e =
      running w n node there up (admin_line n v asked) ∙ ap (λ (x : PlainNode × AdminResult). x.1.answer) (called_quiet n v asked node keeps) ∙ ap (λ x. (admin_result n v asked (call_at node.vbs v (admin_call asked) x).1).answer) e

  none_flushed : (v : ℕ) (p : FlushPart) → node.vbs v ≡ None → (on_node w n (flush_line n v p)).1.answer ≡ answer.No cause.UnknownVb
  none_flushed v p e = running w n node there up (flush_line n v p) ∙ no_flush n v p node e

  none_saved : (v : ℕ) → node.vbs v ≡ None → (with_arm n w (on_node w n (save_line n v))).1.answer ≡ answer.No cause.UnknownVb
  none_saved v e =
      running_armed w n node there up (save_line n v)
      ((λ i. fired_by F (fuse_or (flush_arm n v part.Save (placed v node) i).fuse (fuse_at (no_shelf n v part.Save (placed v node) e i) v))) ∙ left_alone F node.shelves v) ∙ no_flush n v part.Save (placed v node) e

  absent : (v : ℕ) → node.vbs v ≡ None → NoVb w n v
  absent v e = record {
    chain = λ others number. running w n node there up (chain_line n v others) ∙ no_chain n v node others e;
    promote = λ uuid number. refused_armed w n _ cause.UnknownVb (turned_by v role.Active (uuid_causes w.uuids uuid) (role_outcome n v (admin.Promote uuid) w) None e);
    follow = λ number. refused_armed w n _ cause.UnknownVb (turned_by v role.Replica [] (role_outcome n v admin.Follow w) None e);
    dead = λ number. refused_armed w n _ cause.UnknownVb (turned_by v role.Dead [] (role_outcome n v admin.Dead w) None e);
    seal = λ number. asked_by v admin.Seal tt None e;
    trim = λ number. asked_by v admin.Trim tt None e;
    take = λ number. none_flushed v part.Take e;
    save = λ number. none_saved v e;
    done = λ number. due_answer n v (on_node w n (flush_line n v part.Done)) ∙ none_flushed v part.Done e;
    tick = λ number. running w n node there up (tick_line n v) ∙ no_tick n v node e;
    stat = λ number. asked_by v admin.Stat tt None e;
    log = λ number. asked_by v admin.Log tt None e;
    show = λ number. asked_by v admin.Show tt None e;
  }

  hung : (c : ℕ) (o : Option PlainClient) → node.clients c ≡ o → (on_node w n (hang_at c)).1.answer ≡ (hung_if c node o).1.answer
  hung c o e = running w n node there up (hang_at c) ∙ ap (λ x. (hung_if c node x).1.answer) e

  pulled_frames : (c frames : ℕ) (o : Option PlainClient) → node.clients c ≡ o → (on_node w n (pull_at c frames)).1.answer ≡ (pull_if c frames node o).1.answer
  pulled_frames c frames o e = running w n node there up (pull_at c frames) ∙ ap (λ x. (pull_if c frames node x).1.answer) e

  abbrev called_if : ℕ → ℕ → Option PlainClient → PlainNode × Told
  called_if base c o = if is_some o then (node, refusal cause.LinkOpen) else (with_client node c (Some (new_client (record { node = n; client = c; base = base }))), done [])

  called : (base c : ℕ) (o : Option PlainClient) → node.clients c ≡ o → (on_node w n (client_at n base c)).1.answer ≡ (if is_some o then answer.No cause.LinkOpen else answer.Ok)
  called base c o e = running w n node there up (client_at n base c) ∙ ap (λ x. (called_if base c x).1.answer) e ∙ same o
    where
      same : (o : Option PlainClient) → (called_if base c o).1.answer ≡ (if is_some o then answer.No cause.LinkOpen else answer.Ok)
      same None = refl
      same (Some x) = refl

  fed_bytes : (c : ℕ) (bytes : List ℕ) (o : Option PlainClient) → node.clients c ≡ o → (on_node w n (bytes_at c bytes)).1.answer ≡ (bytes_if c bytes node o).1.answer
  fed_bytes c bytes o e = running w n node there up (bytes_at c bytes) ∙ ap (λ x. (bytes_if c bytes node x).1.answer) e

  counted : (c frames : ℕ) (client : PlainClient) → let put = (after_reads (frames_put frames (begun client.producer)) node.shelves node.vbs).1 in (pull_if c frames node (Some client)).1.answer ≡ answer.Pulled put.0.count (why_of put.1)
  counted c frames client = ap (λ (x : PlainNode × Told). x.1.answer) (pull_is c frames client node) ∙ ap (λ (x : States × ClientPulled). x.1.answer) (client_put frames client node.shelves node.vbs)

  pub at_node : AtNode w n node
  at_node = record {
    up = λ uuids number.
        (λ i. (refused_or (first_cause ((not (is_some (there i)), cause.UnknownNode) ∷ (is_up (there i), cause.NodeUp) ∷ (is_one_of 0 uuids, cause.UuidZero) ∷ (any_used w.uuids uuids, cause.UuidUsed) ∷ [])) w (on_made w n (start_at n uuids))).1.answer)
        ∙ (λ i. (refused_or (first_cause ((not (is_some (up i)), cause.NodeUp) ∷ (is_one_of 0 uuids, cause.UuidZero) ∷ (any_used w.uuids uuids, cause.UuidUsed) ∷ [])) w (on_made w n (start_at n uuids))).1.answer);
    crash = λ out number.
        (λ i. (refused_or (first_cause ((not (is_some (there i)), cause.UnknownNode) ∷ (not (is_up (there i)), cause.NodeDown) ∷ [])) w (dropped n out w, done (down_lines n None w))).1.answer)
        ∙ (λ i. (refused_or (first_cause ((not (not (is_some (up i))), cause.NodeDown) ∷ [])) w (dropped n out w, done (down_lines n None w))).1.answer);
    vb_exists = λ v uuid vb e. (
      λ number. active_no v uuid cause.VbExists (ap (λ o. vb_row (is_some o) (nat_le 64 node.made) (uuid_causes w.uuids uuid) (vb_made n v role.Active uuid node)) e),
      λ number. replica_no v cause.VbExists (ap (λ o. vb_row (is_some o) (nat_le 64 node.made) [] (vb_made n v role.Replica 0 node)) e),
    );
    limit = λ v uuid e full. (
      λ number. active_no v uuid cause.Limit (λ i. vb_row (is_some (e i)) (le-leb 64 node.made full i) (uuid_causes w.uuids uuid) (vb_made n v role.Active uuid node)),
      λ number. replica_no v cause.Limit (λ i. vb_row (is_some (e i)) (le-leb 64 node.made full i) [] (vb_made n v role.Replica 0 node)),
    );
    zero = λ v e room number. active_no v 0 cause.UuidZero (λ i. vb_row (is_some (e i)) (lt-leb 64 node.made room i) (uuid_causes w.uuids 0) (vb_made n v role.Active 0 node));
    used = λ v uuid e room ne given number.
        active_no v uuid cause.UuidUsed (λ i. vb_row (is_some (e i)) (lt-leb 64 node.made room i) ((ne_eqb uuid 0 ne i, cause.UuidZero) ∷ (given i, cause.UuidUsed) ∷ []) (vb_made n v role.Active uuid node));
    active = λ v uuid e room ne free notes number.
        made_well v role.Active uuid (vb_at w.uuids n v uuid) (λ i. vb_row (is_some (e i)) (lt-leb 64 node.made room i) ((ne_eqb uuid 0 ne i, cause.UuidZero) ∷ (free i, cause.UuidUsed) ∷ []) (vb_made n v role.Active uuid node)) notes;
    replica = λ v e room notes number. made_well v role.Replica 0 (replica_at n v) (λ i. vb_row (is_some (e i)) (lt-leb 64 node.made room i) [] (vb_made n v role.Replica 0 node)) notes;
    clock = λ nanos number. running w n node there up (clock_at nanos);
    no_vb = absent;
    no_client = λ c bytes e. (λ number. fed_bytes c bytes None e, λ number. hung c None e, λ frames number. pulled_frames c frames None e);
    client = λ c e number. called (base_of number) c None e;
    client_is_open = λ c client e number. called (base_of number) c (Some client) e;
    bytes = λ c bytes client e number. fed_bytes c bytes (Some client) e;
    hang = λ c client e number. hung c (Some client) e;
    pull = λ c frames client e. let put = (after_reads (frames_put frames (begun client.producer)) node.shelves node.vbs).1 in (put.0.count, why_of put.1, λ number. pulled_frames c frames (Some client) e ∙ counted c frames client);
  }

-- which roles are not this one
pub not_active : (r : Role) → r ≢ role.Active → is_role r role.Active ≡ false
not_active role.Active ne = absurd (ne refl)
not_active role.Replica ne = refl
not_active role.Pending ne = refl
not_active role.Dead ne = refl

pub not_replica : (r : Role) → r ≢ role.Replica → is_role r role.Replica ≡ false
not_replica role.Active ne = refl
not_replica role.Replica ne = absurd (ne refl)
not_replica role.Pending ne = refl
not_replica role.Dead ne = refl

pub not_dead : (r : Role) → r ≢ role.Dead → is_role r role.Dead ≡ false
not_dead role.Active ne = refl
not_dead role.Replica ne = refl
not_dead role.Pending ne = refl
not_dead role.Dead ne = absurd (ne refl)

-- the arm of a node stays where a link ends
arm_unlinked : (link : PlainLink) (w : PlainWorld) (n : ℕ) → arm_in ((unlinked link w).nodes n) ≡ arm_in (w.nodes n)
arm_unlinked link w n = by (w.nodes (producer_node link)) refl
  where
    at : (x : PlainNode) → w.nodes (producer_node link) ≡ Some x → (b : Bool) → (n == producer_node link) ≡ b → arm_in (if b then Some (closed_at link x) else w.nodes n) ≡ arm_in (w.nodes n)
    at x e true same = ap arm_in (sym e) ∙ ap (λ m. arm_in (w.nodes m)) (sym (eqb-true n (producer_node link) same))
    at x e false other = refl

    by : (o : Option PlainNode) → w.nodes (producer_node link) ≡ o → arm_in ((node_if (producer_node link) (closed_at link) w o).nodes n) ≡ arm_in (w.nodes n)
    by None e = refl
    by (Some x) e = at x e (n == producer_node link) refl

-- lines for a vBucket that is made
module _ (w : PlainWorld) (n v : ℕ) (node : PlainNode) (vb : Plain) (there : w.nodes n ≡ Some node) (up : node.off ≡ None) (here : node.vbs v ≡ Some vb) where
  -- a change of role that is refused by its causes
  refused_turn : (r : Role) (rest : List (Bool × Cause)) (came : Outcome) (why : Cause) → turn_row w n node there up r rest came (Some vb) ≡ (w, refusal why)
      → (with_arm n w (refused_or (first_cause ((not (is_some (w.nodes n)), cause.UnknownNode) ∷ (is_off (w.nodes n), cause.NodeDown) ∷ role_causes r (vb_in (w.nodes n) v) ++ rest)) w came)).1.answer ≡ answer.No why
  refused_turn r rest came why is = refused_armed w n _ why (turned_by w n node there up v r rest came (Some vb) here ∙ is)

  is_same_role : (r : Role) → vb.role ≡ r → is_role vb.role r ≡ is_role r r
  is_same_role r e = ap (λ x. is_role x r) e

  -- by whether it has the role
  abbrev role_row : Bool → List (Bool × Cause) → Outcome → Outcome
  role_row b rest came = refused_or (first_cause ((b, cause.WrongRole) ∷ rest)) w came

  chained : (others : Members) → (on_node w n (chain_line n v others)).1.answer ≡ (chain_line n v others node).1.answer
  chained others = running w n node there up (chain_line n v others)

  ticked : (on_node w n (tick_line n v)).1.answer ≡ (tick_line n v node).1.answer
  ticked = running w n node there up (tick_line n v)

  pub at_made_vb : AtVb w n v vb
  at_made_vb = record {
    active = λ uuid e number.
        refused_turn role.Active (uuid_causes w.uuids uuid) (role_outcome n v (admin.Promote uuid) w) cause.WrongRole (ap (λ b. role_row b (uuid_causes w.uuids uuid) (role_outcome n v (admin.Promote uuid) w)) (is_same_role role.Active e));
    zero = λ ne number.
        refused_turn role.Active (uuid_causes w.uuids 0) (role_outcome n v (admin.Promote 0) w) cause.UuidZero (ap (λ b. role_row b (uuid_causes w.uuids 0) (role_outcome n v (admin.Promote 0) w)) (not_active vb.role ne));
    used = λ uuid ne nz given number.
        refused_turn role.Active (uuid_causes w.uuids uuid) (role_outcome n v (admin.Promote uuid) w) cause.UuidUsed
        (λ i. role_row (not_active vb.role ne i) ((ne_eqb uuid 0 nz i, cause.UuidZero) ∷ (given i, cause.UuidUsed) ∷ []) (role_outcome n v (admin.Promote uuid) w));
    replica = λ e number. refused_turn role.Replica [] (role_outcome n v admin.Follow w) cause.WrongRole (ap (λ b. role_row b [] (role_outcome n v admin.Follow w)) (is_same_role role.Replica e));
    dead = λ e number. refused_turn role.Dead [] (role_outcome n v admin.Dead w) cause.WrongRole (ap (λ b. role_row b [] (role_outcome n v admin.Dead w)) (is_same_role role.Dead e));
    chain_idle = λ others ne number. chained others ∙ chain_idle n v node vb here others ne;
    chain_long = λ others e long number. chained others ∙ chain_bad n v node vb here others e (too_long n others long);
    chain_own = λ before later e number. chained (before ++ Some n ∷ later) ∙ chain_bad n v node vb here (before ++ Some n ∷ later) e (own_member n before later);
    chain_twice = λ before between later m e number.
        chained (before ++ Some m ∷ between ++ Some m ∷ later) ∙ chain_bad n v node vb here (before ++ Some m ∷ between ++ Some m ∷ later) e (twice_member n m before between later);
    chain = λ others e may number. chained others ∙ chain_is_set n v node vb here others e (may_join n others may);
    tick_idle = λ ne number. ticked ∙ tick_idle n v node vb here ne;
    tick = λ e number. ticked ∙ ticks n v node vb here e;
    stat = λ number. asked_by w n node there up v admin.Stat tt (Some vb) here;
    log = λ number. asked_by w n node there up v admin.Log tt (Some vb) here;
    show = λ number. asked_by w n node there up v admin.Show tt (Some vb) here;
    seal = λ number why e. let told : answer.Number (if is_some vb.spans.current then 1 else 0) ≡ answer.No why = sym (asked_by w n node there up v admin.Seal tt (Some vb) here) ∙ e in cc;
    trim = λ number. (length (ended_by (needless_to vb) vb.spans.sealed), asked_by w n node there up v admin.Trim tt (Some vb) here);
  }

  -- where the next record stands
  module _ (shelf : Shelf) (kept : node.shelves v ≡ Some shelf) (notes : Notes node shelf) where
    abbrev G : Fuse
    G = node.arm.fuse

    abbrev T : Shelves
    T = (placed v node).shelves

    armed_shelf : T v ≡ Some (under G shelf)
    armed_shelf = over_is node.shelves v G shelf kept

    -- a change of role that the vBucket makes is answered as it answers, and its record burns the arm
    module _ (asked : AdminCall) (changes : ChangesRole asked) (x : Plain × VbReply) (is : plain_step vb (admin_call asked) ≡ x) (going : is_refusal x.1.answer ≡ false) where
      abbrev y : PlainNode × AdminResult
      y = under_arm v (called_at n v asked) node

      came_as : after_job (admin_job n v asked) node.vbs T ≡ noted_by n v asked node.vbs T (with_vb_at node.vbs v x.0) x.1 false
      came_as =
          turn_is n v asked changes node.vbs T ∙ ap (λ o. came_if n v asked node.vbs T o) here ∙ ap (λ (z : Plain × VbReply). came_to n v asked node.vbs T z) is ∙ ap (λ b. noted_by n v asked node.vbs T (with_vb_at node.vbs v x.0) x.1 b) going

      answered : y.1.answer ≡ (admin_result n v asked (Some x.1)).answer
      answered = ap (λ (c : (States × Shelves) × AdminResult). c.1.answer) came_as ∙ noted_well n v asked node.vbs (with_vb_at node.vbs v x.0) T x.1 (under G shelf) armed_shelf notes

      quiet : fired_by G y.0.arm.fuse ≡ fired.No
      quiet =
          left_burnt G (fuse_at (called_at n v asked (placed v node)).0.shelves v)
          (ap (λ (c : (States × Shelves) × AdminResult). fuse_at c.0.1 v) came_as
          ∙ append_burns T v (State (role_of_call (admin_call asked)) (log_of_reply (states_step (with_vb_at node.vbs v x.0) v call.Log).1)) (under G shelf) armed_shelf notes) (stood_passed (under G shelf) notes)

      came_of : role_outcome n v asked w ≡ turned_after n v w (with_node_at w n y.0, y.1)
      came_of =
          ap (λ o. turned_after n v w (node_outcome w n no_node o (role_called n v asked))) there
          ∙ ap (λ (o : Option (List Book)). let z : PlainNode × AdminResult = if is_some o then (node, admin_refused cause.NodeDown) else y in turned_after n v w (with_node_at w n z.0, z.1)) up

      abbrev w1 : List ℕ → PlainWorld
      w1 ids = with_ended n v ids (with_node_at w n y.0)

      told_as : (ended : Option (List ℕ)) → (turned_if n v w ended (with_node_at w n y.0, y.1)).1.answer ≡ y.1.answer
      told_as None = refl
      told_as (Some ids) = let came = turned n v y.1 (w1 ids) in posted_answer n y.1.resolved came.0 came.1

      cut_arm : (ids : List ℕ) (o : Option PlainLink) → arm_in ((cut_off o (w1 ids)).0.nodes n) ≡ arm_in ((w1 ids).nodes n)
      cut_arm ids None = refl
      cut_arm ids (Some link) = arm_unlinked link (w1 ids) n

      quiet_if : (ended : Option (List ℕ)) → fired_by (arm_in (w.nodes n)).fuse (arm_in ((turned_if n v w ended (with_node_at w n y.0, y.1)).0.nodes n)).fuse ≡ fired.No
      quiet_if None = same_fuse (arm_in (w.nodes n)).fuse
      quiet_if (Some ids) =
          (let came = turned n v y.1 (w1 ids) in λ i. fired_by (arm_in (w.nodes n)).fuse (posted_arm n y.1.resolved came.0 came.1 i).fuse)
          ∙ (λ i. fired_by (arm_in (there i)).fuse (cut_arm ids (own_link n v (w1 ids).links) i).fuse)
          ∙ ap (λ (x : PlainWorld). fired_by G (arm_in (x.nodes n)).fuse) (told_world w n v ids y.0) ∙ (λ i. fired_by G (arm_in (if eq-eqb n n refl i then Some (with_clients_ended v ids y.0) else w.nodes n)).fuse) ∙ quiet

      turned_well : (with_arm n w (role_outcome n v asked w)).1.answer ≡ (admin_result n v asked (Some x.1)).answer
      turned_well =
          ap (λ (z : Outcome). (with_arm n w z).1.answer) came_of
          ∙ ap (λ (t : Told). t.answer) (unfired w n (turned_if n v w y.1.ended (with_node_at w n y.0, y.1)) (quiet_if y.1.ended)) ∙ told_as y.1.ended ∙ answered

    -- a line whose causes do not refuse it
    goes : (r : Role) (rest : List (Bool × Cause)) (came : Outcome) → turn_row w n node there up r rest came (Some vb) ≡ came
        → (with_arm n w (refused_or (first_cause ((not (is_some (w.nodes n)), cause.UnknownNode) ∷ (is_off (w.nodes n), cause.NodeDown) ∷ role_causes r (vb_in (w.nodes n) v) ++ rest)) w came)).1.answer ≡ (with_arm n w came).1.answer
    goes r rest came is = ap (λ (z : Outcome). (with_arm n w z).1.answer) (turned_by w n node there up v r rest came (Some vb) here ∙ is)

    leads : (uuid : ℕ) → is_active vb.role ≡ false → (uuid == 0) ≡ false → log_lacks vb.log uuid ≡ true → plain_step vb (call.Promote uuid) ≡ promoted None vb uuid
    leads uuid e f g = ap (λ o. promoted o vb uuid) (λ i. if e i then Some status.NotMyVbucket else if f i then Some status.Einval else if g i then None else Some status.Einval)

    flushes : (p : FlushPart) → (on_node w n (flush_line n v p)).1.answer ≡ part_answer n v p node vb shelf
    flushes p = running w n node there up (flush_line n v p) ∙ flush_is n v p node vb shelf here kept

    -- a batch that was taken is appended under the arm
    saved_is : fired_by G (fuse_or G (fuse_at (flush_line n v part.Save (placed v node)).0.shelves v)) ≡ fired.No → (with_arm n w (on_node w n (save_line n v))).1.answer ≡ part_answer n v part.Save (placed v node) vb (under G shelf)
    saved_is e =
        running_armed w n node there up (save_line n v) ((λ i. fired_by G (fuse_or (flush_arm n v part.Save (placed v node) i).fuse (fuse_at (flush_line n v part.Save (placed v node)).0.shelves v))) ∙ e) ∙ flush_is n v part.Save (placed v node) vb (under G shelf) here armed_shelf

    pub at_shelf : AtShelf w n v vb shelf
    at_shelf = record {
      promoted = λ uuid ne nz free lacks number.
          goes role.Active (uuid_causes w.uuids uuid) (role_outcome n v (admin.Promote uuid) w) (λ i. role_row (not_active vb.role ne i) ((ne_eqb uuid 0 nz i, cause.UuidZero) ∷ (free i, cause.UuidUsed) ∷ []) (role_outcome n v (admin.Promote uuid) w))
          ∙ turned_well (admin.Promote uuid) tt (promoted None vb uuid) (leads uuid (active_is vb.role ∙ not_active vb.role ne) (ne_eqb uuid 0 nz) lacks) refl;
      follows = λ ne number.
          let other : is_role vb.role role.Replica ≡ false = not_replica vb.role ne in
          goes role.Replica [] (role_outcome n v admin.Follow w) (ap (λ b. role_row b [] (role_outcome n v admin.Follow w)) other)
          ∙ turned_well admin.Follow tt (turn_by false vb role.Replica) (ap (λ b. turn_by b vb role.Replica) other) refl;
      dies = λ ne number.
          let other : is_role vb.role role.Dead ≡ false = not_dead vb.role ne in
          goes role.Dead [] (role_outcome n v admin.Dead w) (ap (λ b. role_row b [] (role_outcome n v admin.Dead w)) other)
          ∙ turned_well admin.Dead tt (turn_by false vb role.Dead) (ap (λ b. turn_by b vb role.Dead) other) refl;
      out = λ ne number. flushes part.Take ∙ out_refused n v node vb shelf ne;
      takes = λ idle number. let (count, is) = taken_count n v node vb shelf idle in (count, flushes part.Take ∙ is);
      untaken = λ ne number.
          saved_is (left_whole G (fuse_at (flush_line n v part.Save (placed v node)).0.shelves v) (ap (option_map (λ (z : Shelf). z.fuse)) (untaken_kept n v (placed v node) vb (under G shelf) ne here armed_shelf)))
          ∙ untaken_refused n v (placed v node) vb (under G shelf) ne;
      saves = λ batch is number.
          saved_is (left_burnt G (fuse_at (flush_line n v part.Save (placed v node)).0.shelves v) (saved_kept n v (placed v node) vb (under G shelf) notes batch is here armed_shelf) (stood_passed (under G shelf) notes))
          ∙ saved_ok n v (placed v node) vb (under G shelf) notes batch is;
      unsaved = λ ne number. due_answer n v (on_node w n (flush_line n v part.Done)) ∙ flushes part.Done ∙ unsaved_refused n v node vb shelf ne;
      finishes = λ seq is number. let (count, e) = done_count n v node vb shelf seq is in (count, due_answer n v (on_node w n (flush_line n v part.Done)) ∙ flushes part.Done ∙ e);
    }
