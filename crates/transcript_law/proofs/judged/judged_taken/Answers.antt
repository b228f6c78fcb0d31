use Rattle.transcript_law.proofs.rows.TakenRows.{range, high, low, beyond, stranger, got, other_link, other_change, skipped, unput, early, again, range_unadopted, got_unadopted}
use Rattle.transcript_law.proofs.judged.judged_taken.Goals as goal

pub returns : goal.returns
returns c = record {
  range = range;
  high = high;
  low = low;
  beyond = beyond;
  again = again;
  stranger = stranger;
  got = got;
  other_link = other_link;
  other_change = other_change;
  skipped = skipped;
  unput = unput;
  early = early;
  range_unadopted = range_unadopted;
  got_unadopted = got_unadopted;
}
