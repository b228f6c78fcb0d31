-- lines that ask a vBucket alone make one call of it
use Rattle.std.proofs.Common.{◌≡◌, ℕ, Bool, true, map, refl, ap, sym, ◌∙◌, subst, Option, Some, None}
use Rattle.std.specs.Prelude.{if◌then◌else◌}
use Rattle.std.proofs.lemmas.Bool.{eq-eqb, ne_eqb}
use Rattle.durability.specs.Chains.{Members}
use Rattle.vb_events.specs.declared.event.Answer.TheVariants as line
use Rattle.vb_events.specs.declared.event.Event.TheVariants as event
use Rattle.vb_types.specs.declared.role.Role.TheVariants as role
use Rattle.vb_types.specs.declared.status.Status.TheVariants as status
use Rattle.vb_calls.specs.declared.calls.VbAnswer.TheVariants as answer
use Rattle.vb_calls.specs.declared.calls.VbCall.{VbCall}
use Rattle.vb_calls.specs.declared.calls.VbCall.TheVariants as call
use Rattle.vb_calls.specs.declared.calls.VbReply.{VbReply}
use Rattle.vb_calls.specs.Durable.{expired, then_settled}
use Rattle.vb_calls.specs.Plain.{plain_step}
use Rattle.vb_calls.specs.Settling.{and_settled}
use Rattle.vb_calls.specs.State.{Plain, is_active, quiet_reply, refusal_reply}
use Rattle.vb_calls.specs.States.{call_at, with_vb_at}
use Rattle.node_core.specs.Admin.{AdminResult, admin_call, admin_result, log_result, seal_result, show_result, stat_result, trim_result}
use Rattle.node_core.specs.declared.admin.AdminCall.{AdminCall}
use Rattle.node_core.specs.declared.admin.AdminCall.TheVariants as admin
use Rattle.node_core.specs.Flushing.{settled_result}
use Rattle.node_world.specs.declared.told.Told.{Told}
use Rattle.node_world.specs.CallsMade.{CallsMade, LeavesNode, node_after}
use Rattle.node_world.specs.Causes.{MayJoin}
use Rattle.node_world.specs.Nodes.{PlainNode, chain_line, if_up, settled, tick_line, with_posts, with_states}
use Rattle.node_world.specs.Turns.{KeepsRole, admin_line, call_told}
use Rattle.node_world.specs.Worlds.{PlainWorld, on_node, with_node_at}
use Rattle.node_world.proofs.ChainCauses.{chain_row, may_join}
use Rattle.node_world.proofs.RoleJobs.{called_quiet}
use Rattle.node_world.proofs.Unfired.{made_as, up_as}

-- what a line of the node n leaves, by what it makes of the node
pub leaves : (w : PlainWorld) (n : ℕ) (node : PlainNode) (told : Told) → LeavesNode w n node told (with_node_at w n node, told)
leaves w n node told = record {
  is = ap (λ b. if b then Some node else w.nodes n) (eq-eqb n n refl);
  others = λ m ne. ap (λ b. if b then Some node else w.nodes m) (ne_eqb m n ne);
  links = refl;
  said = refl;
}

-- a line for a running node
module _ (w : PlainWorld) (n : ℕ) (node : PlainNode) (there : w.nodes n ≡ Some node) (up : node.off ≡ None) where
  pub line_is : (f : PlainNode → PlainNode × Told) → on_node w n f ≡ (with_node_at w n (f node).0, (f node).1)
  line_is f = made_as w n node there (if_up f) ∙ ap (λ (x : PlainNode × Told). (with_node_at w n x.0, x.1)) (up_as w n node there up f)

  pub leaves_so : (f : PlainNode → PlainNode × Told) (x : PlainNode × Told) → f node ≡ x → LeavesNode w n x.0 x.1 (on_node w n f)
  leaves_so f x is = subst (LeavesNode w n x.0 x.1) (sym (line_is f ∙ ap (λ (y : PlainNode × Told). (with_node_at w n y.0, y.1)) is)) (leaves w n x.0 x.1)

  module _ (v : ℕ) (vb : Plain) (here : node.vbs v ≡ Some vb) where
    -- what a call that settled comes to
    abbrev told_so : Plain × VbReply → PlainNode × Told
    told_so x = with_posts (record { events = map (event.Changed n v x.1.branch) x.1.changes; answer = line.Ok; resolved = x.1.resolved }) (record node { vbs = with_vb_at node.vbs v x.0 })

    -- a call to an active vBucket, by whether it is
    abbrev by_role : Plain × VbReply → Bool → Plain × VbReply
    by_role made b = if b then made else (vb, refusal_reply status.NotMyVbucket)

    -- what comes of the call
    abbrev came_so : Plain × VbReply → PlainNode × Told
    came_so x = settled node (with_vb_at node.vbs v x.0, settled_result n v (Some x.1))

    abbrev of_call : VbCall → Option Plain → PlainNode × Told
    of_call asked o = settled node ((call_at node.vbs v asked o).0, settled_result n v (call_at node.vbs v asked o).1)

    module _ (active : vb.role ≡ role.Active) where
      is_so : is_active vb.role ≡ true
      is_so = ap is_active active

      abbrev expires : Plain × VbReply
      expires = then_settled (expired node.clock vb)

      ticked : tick_line n v node ≡ told_so (plain_step vb (call.Tick node.clock))
      ticked = ap (of_call (call.Tick node.clock)) here ∙ ap (λ b. came_so (by_role expires b)) is_so ∙ sym (ap (λ b. told_so (by_role expires b)) is_so)

      abbrev chains : Members → Plain × VbReply
      chains others = and_settled (record vb { others = others }, quiet_reply answer.Done)

      chained : (others : Members) → MayJoin n others → chain_line n v others node ≡ told_so (plain_step vb (call.Chain (record { active = n; others = others })))
      chained others may =
          chain_row n v node others (Some vb) true true here is_so (may_join n others may)
          ∙ ap (of_call (call.Chain (record { active = n; others = others }))) here ∙ ap (λ b. came_so (by_role (chains others) b)) is_so ∙ sym (ap (λ b. told_so (by_role (chains others) b)) is_so)

    -- the calls that settle nothing
    asked : (what : AdminCall) → KeepsRole what → (told : Told) → call_told (admin_result n v what (Some (plain_step vb (admin_call what)).1)) ≡ told
        → LeavesNode w n (node_after v vb (admin_call what) node) told (on_node w n (admin_line n v what))
    asked what keeps told says =
        leaves_so (admin_line n v what) (node_after v vb (admin_call what) node, told)
        (ap (λ (x : PlainNode × AdminResult). (x.0, call_told x.1)) (called_quiet n v what node keeps)
        ∙ ap (λ o. (with_states node (call_at node.vbs v (admin_call what) o).0, call_told (admin_result n v what (call_at node.vbs v (admin_call what) o).1))) here
        ∙ ap (λ t. (node_after v vb (admin_call what) node, t)) says)

    pub calls : CallsMade w n v node vb
    calls = record {
      chain = λ number others active may. leaves_so (chain_line n v others) (told_so (plain_step vb (call.Chain (record { active = n; others = others })))) (chained active others may);
      tick = λ number active. leaves_so (tick_line n v) (told_so (plain_step vb (call.Tick node.clock))) (ticked active);
      seal = λ number is. asked admin.Seal tt _ (ap (λ a. call_told (seal_result a)) is);
      sealed = λ number is. asked admin.Seal tt _ (ap (λ a. call_told (seal_result a)) is);
      trim = λ number removed is. asked admin.Trim tt _ (ap (λ a. call_told (trim_result a)) is);
      stat = λ number a b c d e is. asked admin.Stat tt _ (ap (λ x. call_told (stat_result n v x)) is);
      log = λ number log is. asked admin.Log tt _ (ap (λ x. call_told (log_result n v x)) is);
      show = λ number uuid ss se at said image is. asked admin.Show tt _ (ap (λ x. call_told (show_result n v x)) is);
    }
