use Rattle.node_threads.proofs.Turns.{calls_are_turns}
use Rattle.node_threads.proofs.laws.calls_are_turns.Goals as goal

pub returns : goal.returns
returns c = calls_are_turns
