use Rattle.durability.specs.Chains.{named}
use Rattle.durability.proofs.Counts.{next_is, held_by, enough_saved, enough_from, differ_true}
use Rattle.durability.proofs.laws.committed_prepare.Goals as goal

pub returns-clause-lowest : goal.returns-clause-lowest
returns-clause-lowest c = next_is

pub returns-clause-held : goal.returns-clause-held
returns-clause-held c = λ acks others saved w d e. held_by acks others saved w (differ_true (named others) d) e

pub returns-clause-saved : goal.returns-clause-saved
returns-clause-saved c = enough_saved

pub returns-clause-exact : goal.returns-clause-exact
returns-clause-exact c = enough_from
