use Rattle.std.proofs.Common.{◌++◌, List, take, drop, ap, ◌∙◌}
use Rattle.std.specs.Prelude.{suc}
use Rattle.durability.specs.declared.waiting.Waiting.{Waiting}
use Rattle.durability.specs.Outstanding.{Known}
use Rattle.vbucket.specs.Kept.{Kept}
use Rattle.vbucket.specs.contracts.vbucket.VBucket as row
use Rattle.vbucket.proofs.vbucket.VBucket.settle_with.Goals as goal

pub returns-in-Err-clause-err : goal.returns-in-Err-clause-err
returns-in-Err-clause-err c =
    let v = c.self.inside in
    let at = c.add_reserved-place.result in
    let new = c.add_reserved-place.ensures in
    let room = c.in_ok-reserve.ensures.rest in
    let without : List Waiting → List Waiting = λ xs. take at xs ++ drop (suc at) xs in
    let back : Kept → Kept = λ k. record k { rest = record k.rest { last_cas = v.last_cas; waiting = without k.rest.waiting } } in
    ap (λ (d : Known). row.the_view (record c.self-2.inside { last_cas = v.last_cas; durable = d })) c.take_back.ensures
    ∙ ap back (c.self-2.view_is ∙ c.in-Err.ensures.err)
    ∙ (λ i. let k : Kept = record (row.the_view v) {
      rest = record (row.the_view v).rest {
        others = (ap (λ (d : Known). d.others) new.prepares ∙ ap (λ (d : Known). d.others) room) i;
        acks = (ap (λ (d : Known). d.acks) new.prepares ∙ ap (λ (d : Known). d.acks) room) i;
        waiting = (new.others ∙ ap (λ (d : Known). d.waiting) room) i;
      };
    } in k)
    ∙ c.self.view_is
