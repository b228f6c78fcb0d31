use Rattle.dcp_producer.proofs.ReadFirst.{come_first}
use Rattle.dcp_producer.proofs.backfill_laws.backfills_come_first.Goals as goal

pub returns : goal.returns
returns c = come_first
