use Rattle.script_gen.proofs.Lines.{lines_stand}
use Rattle.script_gen.proofs.laws.generated_lines_stand.Goals as goal

pub returns : goal.returns
returns c = lines_stand
