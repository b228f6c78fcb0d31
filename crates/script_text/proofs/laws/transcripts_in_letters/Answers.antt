use Rattle.script_text.proofs.Printed.{causes, lines}
use Rattle.script_text.proofs.laws.transcripts_in_letters.Goals as goal

pub returns : goal.returns
returns c = record { causes = causes; lines = lines }
