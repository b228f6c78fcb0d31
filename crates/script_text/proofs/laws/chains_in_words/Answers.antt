use Rattle.script_text.proofs.Wordings.{chains, chains_read, chains_refused, acknowledgements}
use Rattle.script_text.proofs.laws.chains_in_words.Goals as goal

pub returns : goal.returns
returns c = record { words = chains; lines = acknowledgements; read = chains_read; refused = chains_refused }
