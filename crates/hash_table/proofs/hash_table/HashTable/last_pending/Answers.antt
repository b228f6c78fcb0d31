use Rattle.std.proofs.Common.{subst}
use Rattle.hash_table.specs.Seqnos.{IsLastUpTo, WaitsAt}
use Rattle.hash_table.specs.Tables.{Table}
use Rattle.hash_table.proofs.hash_table.HashTable.last_pending.Goals as goal

pub returns : goal.returns
returns c = subst (λ (t : Table). IsLastUpTo (WaitsAt t.image.pending) c.args.upto c.last_up_to.result) c.self.view_is c.last_up_to.ensures
