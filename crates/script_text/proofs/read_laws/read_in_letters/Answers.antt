use Rattle.script_text.proofs.ReadRows.{read, breaks, clients, clients_break, states, states_break, unread, unread_breaks}
use Rattle.script_text.proofs.read_laws.read_in_letters.Goals as goal

pub returns-clause-read : goal.returns-clause-read
returns-clause-read c = read

pub returns-clause-breaks : goal.returns-clause-breaks
returns-clause-breaks c = breaks

pub returns-clause-clients : goal.returns-clause-clients
returns-clause-clients c = clients

pub returns-clause-clients_break : goal.returns-clause-clients_break
returns-clause-clients_break c = clients_break

pub returns-clause-states : goal.returns-clause-states
returns-clause-states c = states

pub returns-clause-states_break : goal.returns-clause-states_break
returns-clause-states_break c = states_break

pub returns-clause-unread : goal.returns-clause-unread
returns-clause-unread c = unread

pub returns-clause-unread_breaks : goal.returns-clause-unread_breaks
returns-clause-unread_breaks c = unread_breaks
