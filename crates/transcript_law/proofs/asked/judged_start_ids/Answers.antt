use Rattle.transcript_law.proofs.Words.{refl, inl, inr}
use Rattle.transcript_law.proofs.rows.{AskedRows.{ids_order, ids_other, ids_twice}, CrashRows.{gone}}
use Rattle.transcript_law.proofs.asked.judged_start_ids.Goals as goal

pub returns : goal.returns
returns c = record {
  started = gone;
  both = inl (refl, inl (refl, tt));
  later = inr (inl (refl, tt));
  other = λ chronicle l. ids_other l.0.6;
  failed = λ chronicle l. ids_other l.0.6;
  order = λ chronicle l. ids_order l.0.6;
  twice = λ chronicle l. ids_twice l.0.6;
}
