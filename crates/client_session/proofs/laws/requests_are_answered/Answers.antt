use Rattle.client_session.specs.Conduct.{Answered}
use Rattle.client_session.proofs.Taking.{bytes_answered}
use Rattle.client_session.proofs.laws.requests_are_answered.Goals as goal

pub returns : goal.returns
returns c = bytes_answered Answered (λ who f lines answered. answered)
