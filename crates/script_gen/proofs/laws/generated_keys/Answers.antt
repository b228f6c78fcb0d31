use Rattle.script_gen.proofs.Rows.{keys}
use Rattle.script_gen.proofs.laws.generated_keys.Goals as goal

pub returns : goal.returns
returns c = keys
