use Rattle.script_text.proofs.Wordings.{levels, acts, lines}
use Rattle.script_text.proofs.laws.durable_writes_in_words.Goals as goal

pub returns : goal.returns
returns c = record { levels = levels; acts = acts; lines = lines }
