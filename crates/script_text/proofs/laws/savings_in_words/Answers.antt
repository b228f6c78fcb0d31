use Rattle.script_text.proofs.Wordings.{savings, saving_lines}
use Rattle.script_text.proofs.laws.savings_in_words.Goals as goal

pub returns : goal.returns
returns c = record { words = savings; lines = saving_lines }
