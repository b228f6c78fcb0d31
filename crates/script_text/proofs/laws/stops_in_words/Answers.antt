use Rattle.script_text.proofs.Wordings.{stops, stop_lines, stops_read, stops_refused}
use Rattle.script_text.proofs.laws.stops_in_words.Goals as goal

pub returns : goal.returns
returns c = record { words = stops; lines = stop_lines; read = stops_read; refused = stops_refused }
