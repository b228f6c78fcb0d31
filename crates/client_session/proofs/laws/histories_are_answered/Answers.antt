use Rattle.client_session.proofs.Histories.{all_answered}
use Rattle.client_session.proofs.laws.histories_are_answered.Goals as goal

pub returns : goal.returns
returns c = all_answered
