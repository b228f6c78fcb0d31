use Rattle.transcript_law.proofs.awaiting.Scripts.{chains_wait, clients_wait, flushes_wait, roles_wait, saves_wait, ticks_wait, ups_wait}
use Rattle.transcript_law.proofs.waits.settling_leaves_none_in_vain.Goals as goal

pub returns : goal.returns
returns c = record { bytes = clients_wait; chains = chains_wait; ticks = ticks_wait; flushes = flushes_wait; saves = saves_wait; ups = ups_wait; roles = roles_wait }
