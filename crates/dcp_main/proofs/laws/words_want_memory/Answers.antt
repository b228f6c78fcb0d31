use Rattle.dcp_main.proofs.Wanting.{no_text, short}
use Rattle.dcp_main.proofs.laws.words_want_memory.Goals as goal

pub returns : goal.returns
returns c = record { short = short; no_text = no_text }
