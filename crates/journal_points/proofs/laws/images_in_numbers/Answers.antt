use Rattle.std.proofs.Common.{[], ◌∷◌, arith}
use Rattle.vb_types.specs.Lasts.{pend_by_last, pend_left}
use Rattle.vb_types.proofs.Folds.{pends_by_last}
use Rattle.journal_points.specs.Rows.{set_a, prepare_b}
use Rattle.journal_points.proofs.laws.images_in_numbers.Goals as goal

pub returns-clause-waits : goal.returns-clause-waits
unfolding pend_by_last pend_left
returns-clause-waits c = pends_by_last 2 (set_a ∷ prepare_b ∷ []) (98 ∷ []) (omega arith, (omega arith, omega arith))
