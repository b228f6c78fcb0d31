use Rattle.std.proofs.lemmas.List.Splits.{join_with_byte-slice_split}
use Rattle.script_text.proofs.Joined.{words_without}
use Rattle.script_text.proofs.laws.words_make_the_line.Goals as goal

pub returns : goal.returns
returns c = record { joined = join_with_byte-slice_split 32; plain = words_without }
