use Rattle.dcp_producer.proofs.Pulling.{turns_taken}
use Rattle.dcp_producer.proofs.pull_laws.streams_take_turns.Goals as goal

pub returns : goal.returns
returns c = λ frames s left made halted sound told. turns_taken s frames made left halted sound told
