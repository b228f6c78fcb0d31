use Rattle.transcript_law.proofs.links.Exactly.{exact}
use Rattle.transcript_law.proofs.backfills.disk_snapshots_are_exact.Goals as goal

pub returns : goal.returns
returns c = λ b top rises disk all whole. exact top b rises disk all whole
