use Rattle.std.proofs.Common.{◌≡◌, ◌∙◌, refl, sym, subst, ap, is_some}
use Rattle.std.specs.Prelude.{IfSome}
use Rattle.std.proofs.lemmas.Result.{IfOk-weaker}
use Rattle.node_world.proofs.StartRuns.{starts_up}
use Rattle.node_world.proofs.script_node.ScriptNode.start.Goals as goal

pub returns-in-Some : goal.returns-in-Some
returns-in-Some c =
    let had = sym c.take.ensures.value ∙ c.in-Some.is in
    IfOk-weaker c.start_with_ids.result _ _
    (λ told runs. starts_up c.args.ids.now c.args.self.now (record c.args.self.now { off = c.take.new.self }) c.start_with_ids.new.self told c.in-Some.disks.items (subst (λ o. IfSome o (λ d. d.items ≡ c.in-Some.disks.items)) (sym had) refl) (ap is_some had)
    (λ i. record c.args.self.now { off = c.take.ensures.after i }) runs)
    c.start_with_ids.ensures
