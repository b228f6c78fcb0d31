use Rattle.script_text.proofs.Tellings.{groups_tell}
use Rattle.script_text.proofs.laws.print_tells.Goals as goal

pub returns : goal.returns
returns c = groups_tell
