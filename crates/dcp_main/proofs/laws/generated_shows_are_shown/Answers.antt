use Rattle.dcp_main.proofs.Generated.{both_shown, four_lines}
use Rattle.dcp_main.proofs.laws.generated_shows_are_shown.Goals as goal

pub returns : goal.returns
returns c = record { shown = both_shown; four = four_lines }
