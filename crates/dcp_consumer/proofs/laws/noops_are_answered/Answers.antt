use Rattle.dcp_consumer.proofs.Noops.{answered, only, strange, uncounted, written, bytes, heads}
use Rattle.dcp_consumer.proofs.laws.noops_are_answered.Goals as goal

pub returns : goal.returns
returns c = record { answered = answered; only = only; strange = strange; uncounted = uncounted; written = written; bytes = bytes; heads = heads }
