use Rattle.dcp_main.proofs.Showing.{shows}
use Rattle.dcp_main.proofs.laws.shows_have_one_line.Goals as goal

pub returns : goal.returns
returns c = shows
