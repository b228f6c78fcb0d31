use Rattle.transcript_law.proofs.lines.Risen.{lines_rise, script_last}
use Rattle.transcript_law.proofs.lawful.numbers_rise.Goals as goal

pub returns : goal.returns
returns c = record { rise = lines_rise; known = script_last }
