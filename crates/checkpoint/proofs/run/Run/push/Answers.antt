use Rattle.std.proofs.Common.{◌+◌, ◌++◌, ◌∷◌, [], ap, arith, subst, sym, ◌∙◌}
use Rattle.std.specs.Prelude.{Some}
use Rattle.checkpoint.specs.Runs.{AreBelow, IsRun, changes_there}
use Rattle.checkpoint.proofs.Runs.{change_behind, not_more, run_pushed}
use Rattle.checkpoint.proofs.run.Run.push.Goals as goal

pub overflow_add-self : goal.overflow_add-self
overflow_add-self c =
    let v = c.self.inside.entries in
    let k = not_more v.items in
    omega (arith, k, c.self.invariant.counted, v.ok.0, v.ok.1, v.small)

pub invariant_of-self-2 : goal.invariant_of-self-2
invariant_of-self-2 c =
    let d = c.drop_holes_behind.ensures in
    subst (IsRun (c.self.inside.there + 1)) (sym c.in_ok-push.ensures.items)
    (run_pushed c.self.inside.there c.self.inside.entries.items c.drop_holes_behind.new.entries.items c.args.change c.self.invariant d.there d.entries d.ends d.fewer (subst (AreBelow c.args.change.seq) (sym c.self.view_is) c.requires))

pub returns-clause-ok : goal.returns-clause-ok
returns-clause-ok c =
    ap changes_there c.in_ok-push.ensures.items ∙ change_behind c.drop_holes_behind.new.entries.items (c.args.change.seq, Some c.args.change)
    ∙ ap (λ xs. xs ++ c.args.change ∷ []) (c.drop_holes_behind.ensures.there ∙ c.self.view_is)
