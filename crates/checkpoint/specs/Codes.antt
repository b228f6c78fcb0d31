-- a checkpoint as a tuple of what it has
use Rattle.std.specs.Prelude.{ℕ, List, refl}
use Rattle.std.specs.Coded.{Coded, code_by, coded×, coded_list, coded_ℕ}
use Rattle.vb_types.specs.declared.change.Change.{Change}
use Rattle.vb_types.specs.contracts.change.Change as change_row
use Rattle.vb_calls.specs.declared.span.Origin.{Origin}
use Rattle.vb_calls.specs.contracts.span.Origin as origin_row
use Rattle.checkpoint.specs.Checkpoints.{Ckpt}

abbrev pub ckpt_code : Coded Ckpt
ckpt_code =
    code_by (ℕ × (Origin × List Change)) (coded× coded_ℕ (coded× origin_row.the_row.coded (coded_list change_row.the_row.coded)))
    (λ k. (k.above, (k.origin, k.items))) (λ p. record { above = p.0; origin = p.1.0; items = p.1.1 }) (λ _. refl)
