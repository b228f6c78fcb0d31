use Rattle.transcript_law.proofs.rows.WaitRows.{no_elsewhere, no_for_ever, no_higher, no_later, no_longer, placed, placed_other, placed_so, placed_told, placed_untold}
use Rattle.transcript_law.specs.Waits.{waits_elsewhere, waits_for_ever, waits_higher, waits_later, waits_longer}
use Rattle.transcript_law.proofs.waits.judged_placed_waits.Goals as goal

pub returns : goal.returns
returns c = record {
  placed = placed;
  told = placed_told;
  other = placed_other;
  elsewhere = λ vb reply write wish its f. placed_so vb reply write wish its waits_elsewhere no_elsewhere f;
  later = λ vb reply write wish its f. placed_so vb reply write wish its waits_later no_later f;
  higher = λ vb reply write wish its f. placed_so vb reply write wish its waits_higher no_higher f;
  longer = λ vb reply write wish its f. placed_so vb reply write wish its waits_longer no_longer f;
  for_ever = λ vb reply write wish its f. placed_so vb reply write wish its waits_for_ever no_for_ever f;
  untold = placed_untold;
}
