use Rattle.script_text.proofs.Letters.{groups}
use Rattle.script_text.proofs.laws.groups_in_letters.Goals as goal

pub returns : goal.returns
returns c = groups
