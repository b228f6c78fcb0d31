use Rattle.dcp_producer.proofs.Pulling.{asks_little}
use Rattle.dcp_producer.proofs.pull_laws.pulls_ask_little.Goals as goal

pub returns : goal.returns
returns c = λ frames s left made halted sound told. asks_little s frames made left halted sound told
