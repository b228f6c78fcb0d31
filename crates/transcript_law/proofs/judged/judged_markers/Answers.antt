use Rattle.transcript_law.proofs.rows.TakenRows.{from_disk}
use Rattle.transcript_law.proofs.rows.Followers.{whole, parts, inside, start, later_start, short, beyond, unput, elsewhere}
use Rattle.transcript_law.proofs.judged.judged_markers.Goals as goal

pub returns : goal.returns
returns c = record {
  whole = whole;
  parts = parts;
  inside = inside;
  start = start;
  later_start = later_start;
  short = short;
  beyond = beyond;
  unput = unput;
  other = elsewhere;
  disk = from_disk;
}
