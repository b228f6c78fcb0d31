use Rattle.std.proofs.Common.{subst}
use Rattle.vb_types.specs.declared.change.Pend.{Pend}
use Rattle.hash_table.specs.Seqnos.{IsFirstAbove, ThirdWaitsAt}
use Rattle.hash_table.specs.Tables.{Filled}
use Rattle.hash_table.proofs.Counts.{first_third}
use Rattle.hash_table.proofs.prepares.Prepares.first_third_above.Goals as goal

pub returns : goal.returns
returns c =
    subst (λ (t : Filled Pend). IsFirstAbove (ThirdWaitsAt t.map) c.args.seq c.first_above.result) c.self.view_is
    (first_third c.self.inside.pends.map c.self.inside.thirds.list c.self.invariant.1 c.args.seq c.first_above.result c.first_above.ensures)
