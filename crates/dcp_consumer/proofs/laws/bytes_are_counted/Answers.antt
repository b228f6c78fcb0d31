use Rattle.dcp_consumer.proofs.Counted.{counts, messages, one_counts, one_does_not, all_count, both_count}
use Rattle.dcp_consumer.proofs.laws.bytes_are_counted.Goals as goal

pub returns : goal.returns
returns c = record { counts = counts; messages = messages; whole = one_counts; others = one_does_not; written = all_count; both = both_count }
