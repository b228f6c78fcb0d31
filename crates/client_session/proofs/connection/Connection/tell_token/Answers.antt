use Rattle.client_session.proofs.connection.Connection.tell_token.Goals as goal

pub returns : goal.returns
returns c = rw c.token.ensures at c.tell.ensures
