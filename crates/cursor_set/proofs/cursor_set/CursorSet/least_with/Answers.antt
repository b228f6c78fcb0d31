use Rattle.std.proofs.Common.{rules, ◌≡◌, ◌∙◌}
use Rattle.std.specs.Prelude.{min}
use Rattle.cursor_set.proofs.Leasts.{least_min, some_cursor}
use Rattle.cursor_set.proofs.cursor_set.CursorSet.least_with.Goals as goal

pub least-requires : goal.least-requires
least-requires c = some_cursor c.args.self.now 0 c.requires

pub returns : goal.returns
returns c = let m : c.min.result ≡ min c.args.n c.least.result = search rules in m ∙ least_min c.args.self.now c.args.n c.least.result c.least.ensures
