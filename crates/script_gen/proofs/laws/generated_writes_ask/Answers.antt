use Rattle.script_gen.proofs.Asked.{writes_ask}
use Rattle.script_gen.proofs.laws.generated_writes_ask.Goals as goal

pub returns : goal.returns
returns c = writes_ask
