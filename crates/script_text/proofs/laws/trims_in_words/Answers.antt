use Rattle.script_text.proofs.Wordings.{trims_read, trims_refused}
use Rattle.script_text.proofs.laws.trims_in_words.Goals as goal

pub returns : goal.returns
returns c = record { read = trims_read; refused = trims_refused }
