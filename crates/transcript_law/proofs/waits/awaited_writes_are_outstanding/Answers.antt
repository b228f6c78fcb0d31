use Rattle.transcript_law.proofs.Words.{Some}
use Rattle.transcript_law.proofs.awaiting.Owns.{await_their_own}
use Rattle.transcript_law.proofs.awaiting.Running.{nobody_waits}
use Rattle.transcript_law.proofs.lines.Risen.{front_rises}
use Rattle.transcript_law.proofs.waits.awaited_writes_are_outstanding.Goals as goal

pub returns : goal.returns
returns c = record { none = nobody_waits; own = await_their_own; fronts = λ front rest line rises. front_rises (Some 0) front rest line rises }
