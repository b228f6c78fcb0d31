use Rattle.vb_turn.proofs.Sharing.{seats_share_one_history}
use Rattle.vb_turn.specs.History.{Sound, Ends}
use Rattle.vb_turn.proofs.laws.seats_share_one_history.Goals as goal

pub returns : goal.returns
returns g c = let t = g.M.Machine in seats_share_one_history (Sound t.stands t.next t.number) (Ends t.stands t.next)
