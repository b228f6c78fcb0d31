use Rattle.std.proofs.Common.{subst, sym}
use Rattle.node_world.specs.Bases.{ArePaired}
use Rattle.node_world.proofs.BasePairs.{more_paired, put_paired}
use Rattle.node_world.proofs.bases.Bases.set.Goals as goal

pub invariant_of-self-in_err-put : goal.invariant_of-self-in_err-put
invariant_of-self-in_err-put c =
    subst (λ bases. ArePaired bases c.insert.new.self) (sym c.in_err-put.ensures.err) (more_paired c.self.inside.of c.self.inside.pairs c.insert.new.self (c.args.base, c.args.client) c.in_ok-insert.ensures.updates c.self.invariant)

pub invariant_of-self-2 : goal.invariant_of-self-2
invariant_of-self-2 c =
    put_paired c.self.inside.of c.put.new.self c.self.inside.pairs c.insert.new.self c.drop_stale.new.pairs c.args.client c.args.base c.in_ok-insert.ensures.updates c.in_ok-put.ensures.ok c.drop_stale.ensures c.self.invariant
