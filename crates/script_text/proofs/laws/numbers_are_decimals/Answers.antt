use Rattle.script_text.proofs.Decimals.{numbers}
use Rattle.script_text.proofs.laws.numbers_are_decimals.Goals as goal

pub returns : goal.returns
returns c = numbers
