use Rattle.node_core.proofs.ProducerLines.{answers_told}
use Rattle.node_core.proofs.client.Client.pass_on.Goals as goal

pub deliver-requires : goal.deliver-requires
deliver-requires g c = answers_told g.A.VbAccess.step _ _ _ _ _ c.in_ok-asked.ensures.ok
