use Rattle.client_session.proofs.Rows.{hello_greets, settings_stay}
use Rattle.client_session.proofs.laws.greetings_replace.Goals as goal

pub returns-clause-hello : goal.returns-clause-hello
returns-clause-hello c = hello_greets

pub returns-clause-others : goal.returns-clause-others
returns-clause-others c = settings_stay
