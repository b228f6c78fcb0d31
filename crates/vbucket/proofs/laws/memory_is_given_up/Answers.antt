use Rattle.vbucket.proofs.GivenUp.{drops_exactly, trims_exactly}
use Rattle.vbucket.proofs.Soundness.{stays}
use Rattle.vb_calls.specs.declared.calls.VbCall.TheVariants.{DropCursor, Trim}
use Rattle.vbucket.proofs.laws.memory_is_given_up.Goals as goal

pub returns-clause-trims : goal.returns-clause-trims
returns-clause-trims c = trims_exactly

pub returns-clause-drops : goal.returns-clause-drops
returns-clause-drops c = drops_exactly

pub returns-clause-sound : goal.returns-clause-sound
returns-clause-sound c = λ vb id sound. (stays vb Trim sound tt, stays vb (DropCursor id) sound tt)
