use Rattle.cursor_set.proofs.Leasts.{least_exact}
use Rattle.cursor_set.proofs.laws.least_is_exact.Goals as goal

pub returns : goal.returns
returns c = least_exact
