use Rattle.dcp_consumer.proofs.Counted.{acknowledges, most, clipped_once, in_bytes, most_in_bytes}
use Rattle.dcp_consumer.proofs.laws.bytes_are_acknowledged.Goals as goal

pub returns : goal.returns
returns c = record { written = acknowledges; most = most; once = clipped_once; bytes = in_bytes; more = most_in_bytes }
