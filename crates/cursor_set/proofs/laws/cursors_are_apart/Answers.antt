use Rattle.cursor_set.proofs.Exactly.{cursors_apart}
use Rattle.cursor_set.proofs.laws.cursors_are_apart.Goals as goal

pub returns : goal.returns
returns c = cursors_apart
