use Rattle.dcp_producer.proofs.Pulling.{disk_line, pulls_in_turn, saved_line}
use Rattle.dcp_producer.proofs.pull_laws.pulls_take_turns.Goals as goal

pub returns-clause-pull : goal.returns-clause-pull
returns-clause-pull c frames s left made halted sound told = pulls_in_turn s frames made left halted sound told

pub returns-clause-line : goal.returns-clause-line
returns-clause-line c = saved_line

pub returns-clause-disk : goal.returns-clause-disk
returns-clause-disk c = disk_line
