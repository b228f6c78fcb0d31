use Rattle.script_text.proofs.Wordings.{windows, links_read, links_refused}
use Rattle.script_text.proofs.laws.windows_in_words.Goals as goal

pub returns : goal.returns
returns c = record { words = windows; read = links_read; refused = links_refused }
