use Rattle.node_core.proofs.ProducerLines.{frames_told}
use Rattle.node_core.proofs.client.Client.pull.Goals as goal

pub deliver-requires : goal.deliver-requires
deliver-requires g c = frames_told g.A.VbAccess.step g.J.Journals.asks _ _ _ _ _ _ _ c.in_ok-pulled.ensures.ok
