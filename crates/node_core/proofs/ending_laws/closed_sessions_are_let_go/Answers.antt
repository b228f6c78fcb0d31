use Rattle.node_core.proofs.Endings.{lets_closed_go, leaves_open_alone}
use Rattle.node_core.proofs.ending_laws.closed_sessions_are_let_go.Goals as goal

pub returns : goal.returns
returns g c = record { node = lets_closed_go _ _ g.A.VbAccess.step; alone = leaves_open_alone }
