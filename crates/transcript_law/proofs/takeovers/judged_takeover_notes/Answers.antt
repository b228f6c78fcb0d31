use Rattle.transcript_law.proofs.Words.{refl}
use Rattle.transcript_law.proofs.takeovers.judged_takeover_notes.Goals as goal

pub returns : goal.returns
returns c = record {
  put = refl;
  obeyed = refl;
  answered = refl;
  half = refl;
  just = refl;
  anew = refl;
  taken_over = refl;
  turned = refl;
  turned_late = refl;
  over = refl;
  turned_other = refl;
  granted = refl;
}
