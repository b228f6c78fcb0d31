use Rattle.node_core.proofs.Resolving.{roles_hand_over, dones_hand_over, steps_hand_over, chains_settle, ticks_settle}
use Rattle.node_core.proofs.laws.outcomes_are_told.Goals as goal

pub returns : goal.returns
returns g c = record {
  roles = λ n v asked new old kept told now left gives ran. roles_hand_over g.A.VbAccess.step g.J.Journals.asks n v asked new old kept told now left gives ran;
  dones = λ n v there old kept told now left ran. dones_hand_over g.A.VbAccess.step g.J.Journals.asks n v there old kept told now left ran;
  steps = λ n v any there old kept told now left ran. steps_hand_over g.A.VbAccess.step g.J.Journals.asks n v any there old kept told now left ran;
  chains = λ n v links old told now ran. chains_settle g.A.VbAccess.step n v links old told now ran;
  ticks = λ n v clock old told now ran. ticks_settle g.A.VbAccess.step n v clock old told now ran;
}
