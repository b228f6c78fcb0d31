use Rattle.script_text.proofs.Wordings.{states}
use Rattle.script_text.proofs.laws.states_in_words.Goals as goal

pub returns : goal.returns
returns c = states
