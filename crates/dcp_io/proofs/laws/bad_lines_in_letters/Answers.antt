use Rattle.std.proofs.Common.{refl}
use Rattle.dcp_io.proofs.laws.bad_lines_in_letters.Goals as goal

pub returns : goal.returns
returns c = λ line. refl
