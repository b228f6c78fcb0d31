use Rattle.std.proofs.Common.{rules, ◌≡◌, ◌++◌, List, take, drop, sym, subst}
use Rattle.std.specs.Prelude.{suc}
use Rattle.durability.specs.declared.waiting.Waiting.{Waiting}
use Rattle.durability.specs.Outstanding.{Rises}
use Rattle.durability.proofs.Rising.{rises_out}
use Rattle.durability.proofs.active.Active.take_back.Goals as goal

pub invariant_of-self : goal.invariant_of-self
invariant_of-self c =
    let at = c.args.at in
    let ws : List Waiting = c.self.inside.waiting.items in
    let i = c.self.invariant in
    let left : c.remove.new.self.items ≡ take at ws ++ drop (suc at) ws = search rules in
    (i.0, i.1, i.2, subst (Rises 0) (sym left) (rises_out 0 at ws i.3))
