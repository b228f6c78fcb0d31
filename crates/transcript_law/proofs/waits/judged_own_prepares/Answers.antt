use Rattle.transcript_law.proofs.rows.OwnWaitRows.{apart, both, datatype, elsewhere, expiry, flags, idle, key, later, nothing, one, other, removes, two, value}
use Rattle.transcript_law.proofs.waits.judged_own_prepares.Goals as goal

pub returns : goal.returns
returns c = record {
  one = one;
  other = other;
  elsewhere = elsewhere;
  idle = idle;
  key = key;
  nothing = nothing;
  later = later;
  value = value;
  flags = flags;
  expiry = expiry;
  datatype = datatype;
  removes = removes;
  two = λ vb second write f. two vb write second f;
  both = both;
  apart = apart;
}
