use Rattle.transcript_law.proofs.rows.WaitRows.{changed, left, no_elsewhere, no_for_ever, no_higher, no_later, no_longer, nobody, other, renumbered, stays, taken, told, untold}
use Rattle.transcript_law.specs.Waits.{waits_elsewhere, waits_for_ever, waits_higher, waits_later, waits_longer}
use Rattle.transcript_law.proofs.waits.judged_forgotten_waits.Goals as goal

pub returns : goal.returns
returns c = record {
  stays = stays;
  told = told;
  untold = untold;
  other = other;
  renumbered = renumbered;
  elsewhere = λ vb reply f. changed vb reply waits_elsewhere no_elsewhere f;
  later = λ vb reply f. changed vb reply waits_later no_later f;
  higher = λ vb reply f. changed vb reply waits_higher no_higher f;
  longer = λ vb reply f. changed vb reply waits_longer no_longer f;
  for_ever = λ vb reply f. changed vb reply waits_for_ever no_for_ever f;
  nobody = nobody;
  left = left;
  taken = taken;
}
