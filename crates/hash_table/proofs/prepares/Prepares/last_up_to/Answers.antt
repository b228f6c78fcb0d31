use Rattle.std.proofs.Common.{subst}
use Rattle.vb_types.specs.declared.change.Pend.{Pend}
use Rattle.hash_table.specs.Seqnos.{IsLastUpTo, WaitsAt}
use Rattle.hash_table.specs.Tables.{Filled}
use Rattle.hash_table.proofs.Counts.{last_waits}
use Rattle.hash_table.proofs.prepares.Prepares.last_up_to.Goals as goal

pub returns : goal.returns
returns c =
    subst (λ (t : Filled Pend). IsLastUpTo (WaitsAt t.map) c.args.seq c.last_up_to.result) c.self.view_is
    (last_waits c.self.inside.pends.map c.self.inside.seqnos.list c.self.invariant.0 c.args.seq c.last_up_to.result c.last_up_to.ensures)
