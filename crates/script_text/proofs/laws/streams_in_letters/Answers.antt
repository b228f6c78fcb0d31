use Rattle.script_text.proofs.Letters.{changes, streams, clients, words}
use Rattle.script_text.proofs.laws.streams_in_letters.Goals as goal

pub returns-clause-changes : goal.returns-clause-changes
returns-clause-changes c = changes

pub returns-clause-streams : goal.returns-clause-streams
returns-clause-streams c = streams

pub returns-clause-clients : goal.returns-clause-clients
returns-clause-clients c = clients

pub returns-clause-words : goal.returns-clause-words
returns-clause-words c = words
