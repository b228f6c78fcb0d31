use Rattle.cursor_set.proofs.Exactly.{cursors_move}
use Rattle.cursor_set.proofs.laws.cursors_go_on.Goals as goal

pub returns : goal.returns
returns c = cursors_move
