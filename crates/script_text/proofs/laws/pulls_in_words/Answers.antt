use Rattle.script_text.proofs.Wordings.{pulls_read, pulls_refused}
use Rattle.script_text.proofs.laws.pulls_in_words.Goals as goal

pub returns : goal.returns
returns c = record { read = pulls_read; refused = pulls_refused }
