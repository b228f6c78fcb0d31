use Rattle.std.proofs.Common.{ap, subst, sym, ◌∙◌}
use Rattle.std.specs.Prelude.{None}
use Rattle.std.proofs.lemmas.List.{get_or_default}
use Rattle.checkpoint.specs.Runs.{IsAt, Lacks, change_at}
use Rattle.checkpoint.proofs.Runs.{found, lacked}
use Rattle.checkpoint.proofs.run.Run.get.Goals as goal

pub returns-in-Some : goal.returns-in-Some
returns-in-Some c =
    let es = c.self.inside.entries.items in
    let at = subst (IsAt c.args.seq c.in-Some.at) c.deref.ensures.value c.in-Some.ensures.some in
    let k = (found c.args.seq c.in-Some.at 0 es (0, None) c.self.invariant.entries at.inside at.here).0 in
    c.as_ref.ensures.value ∙ ap (λ e. e.1) (c.index.ensures ∙ get_or_default es c.in-Some.at c.index.result.now (0, None) at.inside) ∙ sym k ∙ ap (change_at c.args.seq) c.self.view_is

pub returns-in-None : goal.returns-in-None
returns-in-None c =
    sym (lacked c.args.seq 0 c.self.inside.entries.items c.self.invariant.entries (subst (Lacks c.args.seq) c.deref.ensures.value c.in-None.ensures.none)).0 ∙ ap (change_at c.args.seq) c.self.view_is
