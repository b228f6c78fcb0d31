use Rattle.std.proofs.Common.{◌≡◌, ap, ◌∙◌}
use Rattle.std.specs.List.{fold}
use Rattle.durability.specs.Outstanding.{Known}
use Rattle.hash_table.specs.Tables.{by_seqnos}
use Rattle.vb_calls.specs.Settling.{left_prepares}
use Rattle.vbucket.specs.Kept.{Kept}
use Rattle.vbucket.specs.Promoting.{with_left}
use Rattle.vbucket.proofs.Promoting.{left_listed}
use Rattle.vbucket.proofs.vbucket.VBucket.left.Goals as goal

pub returns-clause-waiting : goal.returns-clause-waiting
returns-clause-waiting c =
    let listed : c.deref.result.now ≡ by_seqnos c.self.inside.table.image.pending = c.deref.ensures.value ∙ c.in_ok-prepares.ensures in
    ap (λ (k : Known). k.waiting) c.in_ok-add_left.ensures
    ∙ (λ i. fold with_left (c.in_ok-left.ensures.waiting i) (listed i))
    ∙ left_listed c.self.inside.table.image
    ∙ ap (λ (k : Kept). left_prepares k.rest.base) c.self.view_is
