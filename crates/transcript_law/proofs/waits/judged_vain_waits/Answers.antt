use Rattle.transcript_law.proofs.rows.WaitRows.{vain_any, vain_idle, vain_nothing, vain_nowhere, vain_other, vain_waits}
use Rattle.transcript_law.proofs.waits.judged_vain_waits.Goals as goal

pub returns : goal.returns
returns c = record { waits = vain_waits; other = vain_other; nothing = vain_nothing; nowhere = vain_nowhere; any = vain_any; idle = vain_idle }
