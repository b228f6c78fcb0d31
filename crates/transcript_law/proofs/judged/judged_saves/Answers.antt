use Rattle.std.specs.Prelude.{◌≡◌}
use Rattle.transcript_law.proofs.Words.{ℕ, refl, sym, arith}
use Rattle.transcript_law.proofs.rows.JournalRows.{taken_other, taken_elsewhere, some_told, falls, less, untaken, twice, early, empty_span}
use Rattle.transcript_law.proofs.links.PumpAnswers.{two_numbers}
use Rattle.transcript_law.proofs.judged.judged_saves.Goals as goal

pub returns : goal.returns
returns c = record {
  taken = refl;
  taken_other = taken_other;
  taken_elsewhere = taken_elsewhere;
  none = refl;
  untold = λ l. two_numbers 0 2 (omega arith) (sym l);
  refused = refl;
  refused_told = some_told;
  saved = ((refl, tt), (_, refl));
  untaken = untaken;
  twice = twice;
  done = (2, refl, refl);
  falls = falls;
  less = less;
  early = early;
  stands = refl;
  counts = refl;
  numbers = (record { saved_as_known = refl; high_held = refl; flusher = omega arith; filled = omega arith }, tt);
  more_saved = λ l. two_numbers 1 2 (omega arith) (sym l.0.saved_as_known);
  other_last = λ l. two_numbers 2 3 (omega arith) (sym l.0.high_held);
  no_cursor = λ l. let e : ◌≡◌ {A = ℕ} 0 0 = refl in absurd (omega (arith, l.0.flusher));
  empty_span = empty_span;
}
