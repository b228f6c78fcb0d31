use Rattle.std.specs.Prelude.{◌≡◌}
use Rattle.transcript_law.proofs.Words.{true, false, ⊎_elim}
use Rattle.transcript_law.proofs.rows.TakeoverRows.{answers_alone, gives_up, gives_up_again, gives_up_beside, gives_up_elsewhere, gives_up_half, gives_up_in, gives_up_late, gives_up_nobody, gives_up_other, gives_up_twice, gives_up_unheard, gives_up_unobeyed, gives_up_unstated, gives_up_untaken, pends_other, pends_short, pends_taking, pends_told, pends_untold, plain, rises_beside, rises_committing, rises_early, rises_failing_told, rises_making, rises_other, rises_setting, rises_taking, rises_told}
use Rattle.transcript_law.proofs.takeovers.judged_moves.Goals as goal

pub returns : goal.returns
returns c = record {
  gives_up = gives_up;
  gives_up_unstated = gives_up_unstated;
  gives_up_unobeyed = gives_up_unobeyed;
  gives_up_unheard = gives_up_unheard;
  gives_up_half = gives_up_half;
  gives_up_other = gives_up_other;
  gives_up_late = gives_up_late;
  gives_up_elsewhere = gives_up_elsewhere;
  gives_up_in = gives_up_in;
  answers_alone = answers_alone;
  pends = pends_told;
  pends_untaken = pends_short;
  rises = rises_told;
  rises_failing = rises_failing_told;
  rises_other = rises_other;
  rises_early = rises_early;
  rises_setting = rises_setting;
  rises_taking = rises_taking;
  rises_making = rises_making;
  up = λ l. ⊎_elim (λ t. let z : false ≡ true = t in cc) (λ x. x) l;
  cut = λ l. ⊎_elim (λ t. let z : false ≡ true = t in cc) (λ x. x) l;
  plain = plain;
  gives_up_untaken = gives_up_untaken;
  gives_up_nobody = gives_up_nobody;
  pends_taking = pends_taking;
  gives_up_again = gives_up_again;
  gives_up_twice = gives_up_twice;
  gives_up_beside = gives_up_beside;
  pends_other = pends_other;
  rises_committing = rises_committing;
  rises_beside = rises_beside;
  pends_unstated = pends_untold;
}
