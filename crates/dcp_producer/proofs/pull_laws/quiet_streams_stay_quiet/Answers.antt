use Rattle.dcp_producer.proofs.AskingAll.{as_if_all_asked}
use Rattle.dcp_producer.proofs.Stills.{stays_quiet}
use Rattle.dcp_producer.proofs.pull_laws.quiet_streams_stay_quiet.Goals as goal

pub returns-clause-pull : goal.returns-clause-pull
returns-clause-pull c = λ frames s states shelves sound. as_if_all_asked shelves frames s states sound

pub returns-clause-again : goal.returns-clause-again
returns-clause-again c = λ name stream states shelves. stays_quiet name shelves stream states
