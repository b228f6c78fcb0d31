use Rattle.dcp_producer.proofs.Weighing.{unknown_first, marked_next, read_then, other_dropped}
use Rattle.dcp_producer.proofs.laws.frames_are_weighed.Goals as goal

pub returns-clause-unknown : goal.returns-clause-unknown
returns-clause-unknown c = unknown_first

pub returns-clause-marked : goal.returns-clause-marked
returns-clause-marked c = marked_next

pub returns-clause-read : goal.returns-clause-read
returns-clause-read c = read_then

pub returns-clause-dropped : goal.returns-clause-dropped
returns-clause-dropped c = other_dropped
