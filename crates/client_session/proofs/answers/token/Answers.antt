use Rattle.std.proofs.Common.{◌≡◌, []}
use Rattle.mcbp_frame.proofs.Headers.{eight}
use Rattle.client_session.proofs.answers.token.Goals as goal

pub returns : goal.returns
returns c = λ i. eight (c.to_be_bytes.ensures i) (eight (c.to_be_bytes-2.ensures i) [])
