use Rattle.script_text.proofs.Joined.{lines_joined, lines_without}
use Rattle.script_text.proofs.laws.lines_make_the_script.Goals as goal

pub returns : goal.returns
returns c = record { joined = lines_joined; plain = lines_without }
