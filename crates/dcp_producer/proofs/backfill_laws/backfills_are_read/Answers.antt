use Rattle.dcp_producer.proofs.ReadFirst.{are_read}
use Rattle.dcp_producer.proofs.backfill_laws.backfills_are_read.Goals as goal

pub returns : goal.returns
returns c = are_read
