use Rattle.node_world.specs.World.{groups}
use Rattle.transcript_law.proofs.Checking.{lines_pass, passes}
use Rattle.transcript_law.proofs.Laws.{scripts_are_lawful}
use Rattle.transcript_law.proofs.checked.lawful_transcripts_pass.Goals as goal

pub returns : goal.returns
returns c = record { passes = passes; lines = lines_pass; own = λ script fits. passes script (groups script) (scripts_are_lawful script fits) }
