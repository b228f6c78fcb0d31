use Rattle.std.proofs.Common.{subst, ◌∙◌}
use Rattle.std.specs.Prelude.{Some, None}
use Rattle.hash_table.specs.Seqnos.{IsLastUpTo, WaitsAt}
use Rattle.vbucket.proofs.Dues.{last_is_due}
use Rattle.vbucket.proofs.vbucket.durable.last_due.Goals as goal

pub returns-in-Some : goal.returns-in-Some
returns-in-Some c =
    let pending = c.args.table.now.image.pending in
    c.unwrap_or.ensures
    ∙ last_is_due pending c.args.complete c.args.saved (Some c.in-Some.bar) c.last_pending.result c.in-Some.ensures
    (subst (λ limit. IsLastUpTo (WaitsAt pending) limit c.last_pending.result) c.min.ensures c.last_pending.ensures)

pub returns-in-None : goal.returns-in-None
returns-in-None c =
    let pending = c.args.table.now.image.pending in
    c.unwrap_or-in-None.ensures ∙ last_is_due pending c.args.complete c.args.saved None c.last_pending-in-None.result c.in-None.ensures c.last_pending-in-None.ensures
