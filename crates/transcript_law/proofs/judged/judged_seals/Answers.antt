use Rattle.transcript_law.proofs.Words.{refl, sym, arith}
use Rattle.transcript_law.proofs.rows.Contrary.{seals_twice}
use Rattle.transcript_law.proofs.links.PumpAnswers.{two_numbers}
use Rattle.transcript_law.proofs.judged.judged_seals.Goals as goal

pub returns : goal.returns
returns c = record {
  twice = seals_twice;
  not_once = λ l. two_numbers 0 1 (omega arith) l.1.1.1.1.0.1;
  not_twice = λ l. two_numbers 0 1 (omega arith) (sym l.1.1.1.1.1.0.1);
  more = λ l. two_numbers 1 2 (omega arith) (sym l.1.1.1.1.0.1);
  role = refl;
  not_role = λ l. two_numbers 0 1 (omega arith) (sym l);
  marker = refl;
  taken = refl;
  not_taken = λ l. two_numbers 0 1 (omega arith) l;
  back = refl;
}
