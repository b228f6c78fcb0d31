use Rattle.script_text.proofs.Spelled.{lines_say}
use Rattle.script_text.proofs.Readings.{lines_read, blanks_read, bad_read}
use Rattle.script_text.proofs.laws.lines_are_spellings.Goals as goal

pub returns : goal.returns
returns c = record { spelled = lines_say; read = lines_read; blank = blanks_read; bad = bad_read }
