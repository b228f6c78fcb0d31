use Rattle.std.proofs.Common.{refl}
use Rattle.node_world.proofs.Plumbing.{fires}
use Rattle.node_world.proofs.plumbing_laws.failures_are_told.Goals as goal

pub returns-clause-fires : goal.returns-clause-fires
returns-clause-fires c = fires

pub returns-clause-lines : goal.returns-clause-lines
returns-clause-lines c = λ w n l out told.
    record { passed = refl; world = refl; lines = refl; said = refl; back_world = refl; back_lines = refl; back_answer = refl; closed_world = refl; closed_lines = refl; closed_answer = refl }

pub returns-clause-openings : goal.returns-clause-openings
returns-clause-openings c = λ n. record { failed = refl; stopped = refl }
