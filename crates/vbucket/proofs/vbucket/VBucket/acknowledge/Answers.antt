use Rattle.std.proofs.Common.{ap, ◌∙◌}
use Rattle.std.specs.Prelude.{slice_set}
use Rattle.durability.specs.Outstanding.{Known, with_ack}
use Rattle.vbucket.specs.Kept.{Kept}
use Rattle.vbucket.specs.contracts.vbucket.VBucket as row
use Rattle.vbucket.proofs.Planning.{set_back}
use Rattle.vbucket.proofs.vbucket.VBucket.acknowledge.Goals as goal

pub returns-in-Err-clause-err : goal.returns-in-Err-clause-err
returns-in-Err-clause-err c =
    let v = c.self.inside in
    let m = c.args.member in
    let back : Kept → Kept = λ k. record k { rest = record k.rest { acks = slice_set k.rest.acks m c.acked-former.result } } in
    ap (λ (d : Known). row.the_view (record c.self-2.inside { durable = d })) c.unack.ensures
    ∙ ap back (c.self-2.view_is ∙ c.in-Err.ensures.err)
    ∙ ap (λ (d : Known). back (row.the_view (record v { durable = d }))) c.ack.ensures
    ∙ ap (λ xs. let k : Kept = record (row.the_view v) { rest = record (row.the_view v).rest { acks = xs } } in k) (ap (slice_set (with_ack v.durable.acks m c.args.seq) m) c.acked-former.ensures ∙ set_back v.durable.acks m _)
    ∙ c.self.view_is
