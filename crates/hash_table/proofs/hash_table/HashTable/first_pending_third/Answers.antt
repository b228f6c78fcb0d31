use Rattle.std.proofs.Common.{subst}
use Rattle.hash_table.specs.Seqnos.{IsFirstAbove, ThirdWaitsAt}
use Rattle.hash_table.specs.Tables.{Table}
use Rattle.hash_table.proofs.hash_table.HashTable.first_pending_third.Goals as goal

pub returns : goal.returns
returns c = subst (λ (t : Table). IsFirstAbove (ThirdWaitsAt t.image.pending) c.args.above c.first_third_above.result) c.self.view_is c.first_third_above.ensures
