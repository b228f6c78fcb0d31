use Rattle.transcript_law.proofs.rows.{StateRows.{none_awaited}, UndoneRows.{put_before}}
use Rattle.transcript_law.proofs.states.judged_state_waits.Goals as goal

pub returns : goal.returns
returns c = record { idle = put_before; pump = none_awaited; pull = λ m d chronicle n lines plain l. l.0.7 }
