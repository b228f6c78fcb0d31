-- changes of role whose causes the vBucket's own refusal tells
use Rattle.std.proofs.Common.{◌≡◌, ℕ, Bool, true, false, ◌∷◌, ◌++◌, refl, ap, sym, ◌∙◌, subst, Option, Some, None, is_some}
use Rattle.std.specs.Prelude.{◌==◌, not, if◌then◌else◌}
use Rattle.vb_events.specs.declared.event.Answer.{Answer}
use Rattle.vb_events.specs.declared.event.Answer.TheVariants as answer
use Rattle.vb_events.specs.declared.event.Cause.TheVariants as cause
use Rattle.vb_types.specs.declared.role.Role.{Role}
use Rattle.vb_types.specs.declared.role.Role.TheVariants as role
use Rattle.vb_types.specs.declared.status.Status.{Status}
use Rattle.vb_types.specs.declared.status.Status.TheVariants as status
use Rattle.vb_calls.specs.Following.{log_lacks}
use Rattle.vb_calls.specs.Roles.{is_role, promote_refusal, promoted}
use Rattle.vb_calls.specs.State.{Plain, is_active}
use Rattle.vb_calls.specs.Shelves.{Shelves}
use Rattle.vb_calls.specs.States.{States}
use Rattle.vb_calls.specs.declared.calls.VbReply.{VbReply}
use Rattle.node_core.specs.declared.admin.AdminCall.{AdminCall}
use Rattle.node_core.specs.declared.admin.AdminCall.TheVariants as admin
use Rattle.node_core.specs.Admin.{AdminResult, admin_refused, promote_cause}
use Rattle.node_world.specs.declared.told.Told.{Told}
use Rattle.node_world.specs.Arms.{lifted, placed, under_arm}
use Rattle.node_world.specs.Lines.{ChangesRole, free_uuid, named_cause, with_named_cause}
use Rattle.node_world.specs.Stands.{Kept, WorldStands}
use Rattle.node_world.specs.Nodes.{PlainNode, first_cause, refusal, refused_or, is_one_of, uuid_causes}
use Rattle.node_world.specs.Turns.{called, called_at, role_called, turned_after, no_node, role_outcome, role_causes, promote_step, turn_step}
use Rattle.node_world.specs.Worlds.{PlainWorld, Outcome, is_off, with_node_at, node_outcome, vb_in}
use Rattle.node_world.proofs.RoleJobs.{turn_by, came_to, came_if, turn_is}

-- a vBucket takes writes exactly where it is active
pub active_is : (r : Role) → is_active r ≡ is_role r role.Active
active_is role.Active = refl
active_is role.Replica = refl
active_is role.Pending = refl
active_is role.Dead = refl

-- no id of the line's is 0: the causes stay
same_cause : (uuid : ℕ) (a : Answer) → (uuid == 0) ≡ false → named_cause uuid a ≡ a
same_cause uuid (answer.No cause.UuidUsed) e = ap (λ b. answer.No (if b then cause.UuidZero else cause.UuidUsed)) e
same_cause uuid (answer.No other) e = refl
same_cause uuid answer.Ok e = refl
same_cause uuid (answer.Number k) e = refl
same_cause uuid (answer.Pulled k why) e = refl

same_outcome : (uuid : ℕ) (x : Outcome) → (uuid == 0) ≡ false → x ≡ with_named_cause uuid x
same_outcome uuid x e = λ i. (x.0, record { events = x.1.events; answer = sym (same_cause uuid x.1.answer e) i })

module _ (w : PlainWorld) (n v : ℕ) (node : PlainNode) (asked : AdminCall) where
  -- what a call that changes a role makes of the world
  abbrev outcome_of : (States × Shelves) × AdminResult → Outcome
  outcome_of came = turned_after n v w (with_node_at w n (lifted v (called (placed v node) came).0), came.1)

  -- what it comes to, by what stands at v
  abbrev outcome : Option Plain → Outcome
  outcome o = outcome_of (came_if n v asked node.vbs (placed v node).shelves o)

  -- by the vBucket and its reply
  abbrev outcome_by : Plain × VbReply → Outcome
  outcome_by x = outcome_of (came_to n v asked node.vbs (placed v node).shelves x)

  -- by whether the node is down
  abbrev by_off : Bool → PlainNode × AdminResult
  by_off b = if b then (node, admin_refused cause.NodeDown) else under_arm v (called_at n v asked) node

  abbrev outcome_off : Bool → Outcome
  outcome_off b = turned_after n v w (with_node_at w n (by_off b).0, (by_off b).1)

  outcome_is : ChangesRole asked → outcome_off false ≡ outcome (node.vbs v)
  outcome_is changes = ap outcome_of (turn_is n v asked changes node.vbs (placed v node).shelves)

-- a promotion
module _ (w : PlainWorld) (n v uuid : ℕ) where
  abbrev id : ℕ
  id = free_uuid w.uuids uuid

  module _ (node : PlainNode) (vb : Plain) where
    -- one that its vBucket refuses
    refused_as : (k : ℕ) (st : Status) → promote_refusal vb k ≡ Some st → outcome w n v node (admin.Promote k) (Some vb) ≡ (w, refusal (promote_cause st))
    refused_as k st e =
        ap (λ why. outcome_by w n v node (admin.Promote k) (promoted why vb k)) e

    wrong_role : (k : ℕ) → is_active vb.role ≡ true → promote_refusal vb k ≡ Some status.NotMyVbucket
    wrong_role k e = ap (λ b. if b then Some status.NotMyVbucket else if k == 0 then Some status.Einval else if log_lacks vb.log k then None else Some status.Einval) e

    no_id : (k : ℕ) → is_active vb.role ≡ false → (k == 0) ≡ true → promote_refusal vb k ≡ Some status.Einval
    no_id k e f =
        ap (λ b. if b then Some status.NotMyVbucket else if k == 0 then Some status.Einval else if log_lacks vb.log k then None else Some status.Einval) e
        ∙ ap (λ b. if b then Some status.Einval else if log_lacks vb.log k then None else Some status.Einval) f

    zero_stays : (b : Bool) → (uuid == 0) ≡ true → ((if b then 0 else uuid) == 0) ≡ true
    zero_stays true e = refl
    zero_stays false e = e

    -- the id is refused, or the vBucket decides
    by_id : (zero used : Bool) → (uuid == 0) ≡ zero → is_one_of uuid w.uuids ≡ used → is_active vb.role ≡ false
        → refused_or (if zero then Some cause.UuidZero else if used then Some cause.UuidUsed else None) w (outcome w n v node (admin.Promote uuid) (Some vb)) ≡ with_named_cause uuid (outcome w n v node (admin.Promote id) (Some vb))
    by_id true used e f idle =
        sym (ap (λ b. (w, refusal (if b then cause.UuidZero else cause.UuidUsed))) e) ∙ sym (ap (with_named_cause uuid) (refused_as id status.Einval (no_id id idle (zero_stays (is_one_of uuid w.uuids) e))))
    by_id false true e f idle =
        sym (ap (λ b. (w, refusal (if b then cause.UuidZero else cause.UuidUsed))) e)
        ∙ sym (ap (with_named_cause uuid) (refused_as id status.Einval (no_id id idle (ap (λ b. (if b then 0 else uuid) == 0) f))))
    by_id false false e f idle =
        same_outcome uuid (outcome w n v node (admin.Promote uuid) (Some vb)) e ∙ sym (ap (λ b. with_named_cause uuid (outcome w n v node (admin.Promote (if b then 0 else uuid)) (Some vb))) f)

    -- it is active already, or not
    by_role : (active : Bool) → is_role vb.role role.Active ≡ active
        → refused_or (if active then Some cause.WrongRole else if uuid == 0 then Some cause.UuidZero else if is_one_of uuid w.uuids then Some cause.UuidUsed else None) w (outcome w n v node (admin.Promote uuid) (Some vb))
        ≡ with_named_cause uuid (outcome w n v node (admin.Promote id) (Some vb))
    by_role true e = sym (ap (with_named_cause uuid) (refused_as id status.NotMyVbucket (wrong_role id (active_is vb.role ∙ e))))
    by_role false e = by_id (uuid == 0) (is_one_of uuid w.uuids) refl refl (active_is vb.role ∙ e)

  by_vb : (node : PlainNode) (o : Option Plain)
      → refused_or (first_cause ((false, cause.UnknownNode) ∷ role_causes role.Active o ++ uuid_causes w.uuids uuid)) w (outcome w n v node (admin.Promote uuid) o) ≡ with_named_cause uuid (outcome w n v node (admin.Promote id) o)
  by_vb node None = refl
  by_vb node (Some vb) = by_role node vb (is_role vb.role role.Active) refl

  -- its refusals come from the vBucket, in their order
  pub promote_is : promote_step w n v uuid ≡ with_named_cause uuid (role_outcome n v (admin.Promote id) w)
  promote_is = by (w.nodes n)
    where
      by_up : (node : PlainNode) (b : Bool)
          → refused_or (first_cause ((false, cause.UnknownNode) ∷ (b, cause.NodeDown) ∷ role_causes role.Active (node.vbs v) ++ uuid_causes w.uuids uuid)) w (outcome_off w n v node (admin.Promote uuid) b)
          ≡ with_named_cause uuid (outcome_off w n v node (admin.Promote id) b)
      by_up node true = refl
      by_up node false =
          ap (refused_or (first_cause ((false, cause.UnknownNode) ∷ role_causes role.Active (node.vbs v) ++ uuid_causes w.uuids uuid)) w) (outcome_is w n v node (admin.Promote uuid) tt)
          ∙ by_vb node (node.vbs v) ∙ sym (ap (with_named_cause uuid) (outcome_is w n v node (admin.Promote id) tt))

      by : (o : Option PlainNode)
          → refused_or (first_cause ((not (is_some o), cause.UnknownNode) ∷ (is_off o, cause.NodeDown) ∷ role_causes role.Active (vb_in o v) ++ uuid_causes w.uuids uuid)) w (turned_after n v w (node_outcome w n no_node o (role_called n v (admin.Promote uuid))))
          ≡ with_named_cause uuid (turned_after n v w (node_outcome w n no_node o (role_called n v (admin.Promote id))))
      by None = refl
      by (Some node) = by_up node (is_some node.off)

-- `follow N V` and `dead N V`
module _ (w : PlainWorld) (n v : ℕ) where
  follow_role : (node : PlainNode) (vb : Plain) (b : Bool) → is_role vb.role role.Replica ≡ b
      → refused_or (if b then Some cause.WrongRole else None) w (outcome w n v node admin.Follow (Some vb)) ≡ outcome w n v node admin.Follow (Some vb)
  follow_role node vb true e = sym (ap (λ b. outcome_by w n v node admin.Follow (turn_by b vb role.Replica)) e)
  follow_role node vb false e = refl

  dead_role : (node : PlainNode) (vb : Plain) (b : Bool) → is_role vb.role role.Dead ≡ b
      → refused_or (if b then Some cause.WrongRole else None) w (outcome w n v node admin.Dead (Some vb)) ≡ outcome w n v node admin.Dead (Some vb)
  dead_role node vb true e = sym (ap (λ b. outcome_by w n v node admin.Dead (turn_by b vb role.Dead)) e)
  dead_role node vb false e = refl

  follow_vb : (node : PlainNode) (o : Option Plain) → refused_or (first_cause ((false, cause.UnknownNode) ∷ role_causes role.Replica o)) w (outcome w n v node admin.Follow o) ≡ outcome w n v node admin.Follow o
  follow_vb node None = refl
  follow_vb node (Some vb) = follow_role node vb (is_role vb.role role.Replica) refl

  dead_vb : (node : PlainNode) (o : Option Plain) → refused_or (first_cause ((false, cause.UnknownNode) ∷ role_causes role.Dead o)) w (outcome w n v node admin.Dead o) ≡ outcome w n v node admin.Dead o
  dead_vb node None = refl
  dead_vb node (Some vb) = dead_role node vb (is_role vb.role role.Dead) refl

  pub follow_is : turn_step w n v role.Replica admin.Follow ≡ role_outcome n v admin.Follow w
  follow_is = by (w.nodes n)
    where
      by_up : (node : PlainNode) (b : Bool)
          → refused_or (first_cause ((false, cause.UnknownNode) ∷ (b, cause.NodeDown) ∷ role_causes role.Replica (node.vbs v))) w (outcome_off w n v node admin.Follow b) ≡ outcome_off w n v node admin.Follow b
      by_up node true = refl
      by_up node false =
          ap (refused_or (first_cause ((false, cause.UnknownNode) ∷ role_causes role.Replica (node.vbs v))) w) (outcome_is w n v node admin.Follow tt)
          ∙ follow_vb node (node.vbs v) ∙ sym (outcome_is w n v node admin.Follow tt)

      by : (o : Option PlainNode)
          → refused_or (first_cause ((not (is_some o), cause.UnknownNode) ∷ (is_off o, cause.NodeDown) ∷ role_causes role.Replica (vb_in o v))) w (turned_after n v w (node_outcome w n no_node o (role_called n v admin.Follow)))
          ≡ turned_after n v w (node_outcome w n no_node o (role_called n v admin.Follow))
      by None = refl
      by (Some node) = by_up node (is_some node.off)

  pub dead_is : turn_step w n v role.Dead admin.Dead ≡ role_outcome n v admin.Dead w
  dead_is = by (w.nodes n)
    where
      by_up : (node : PlainNode) (b : Bool)
          → refused_or (first_cause ((false, cause.UnknownNode) ∷ (b, cause.NodeDown) ∷ role_causes role.Dead (node.vbs v))) w (outcome_off w n v node admin.Dead b) ≡ outcome_off w n v node admin.Dead b
      by_up node true = refl
      by_up node false =
          ap (refused_or (first_cause ((false, cause.UnknownNode) ∷ role_causes role.Dead (node.vbs v))) w) (outcome_is w n v node admin.Dead tt)
          ∙ dead_vb node (node.vbs v) ∙ sym (outcome_is w n v node admin.Dead tt)

      by : (o : Option PlainNode)
          → refused_or (first_cause ((not (is_some o), cause.UnknownNode) ∷ (is_off o, cause.NodeDown) ∷ role_causes role.Dead (vb_in o v))) w (turned_after n v w (node_outcome w n no_node o (role_called n v admin.Dead)))
          ≡ turned_after n v w (node_outcome w n no_node o (role_called n v admin.Dead))
      by None = refl
      by (Some node) = by_up node (is_some node.off)

-- the line of a promotion, by the line of the vBucket's refusal
pub promoted_line : (after : Kept) (w : PlainWorld) (n v uuid k : ℕ) (told named : Told) → k ≡ free_uuid w.uuids uuid → WorldStands after (role_outcome n v (admin.Promote k) w).0 × (told ≡ (role_outcome n v (admin.Promote k) w).1)
    → named ≡ record { events = told.events; answer = named_cause uuid told.answer } → WorldStands after (promote_step w n v uuid).0 × (named ≡ (promote_step w n v uuid).1)
promoted_line after w n v uuid k told named is known said =
    let (stands, came) = subst (λ j. WorldStands after (role_outcome n v (admin.Promote j) w).0 × (told ≡ (role_outcome n v (admin.Promote j) w).1)) is known in
    subst (λ (o : Outcome). WorldStands after o.0 × (named ≡ o.1)) (sym (promote_is w n v uuid)) (stands, said ∙ ap (λ (t : Told). record { events = t.events; answer = named_cause uuid t.answer }) came)
