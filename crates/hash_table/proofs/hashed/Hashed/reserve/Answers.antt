use Rattle.std.proofs.Common.{ap, ◌∙◌}
use Rattle.hash_table.proofs.Finds.{reordered}
use Rattle.hash_table.proofs.hashed.Hashed.reserve.Goals as goal

pub returns-clause-map : goal.returns-clause-map
returns-clause-map g c = reordered c.self.inside.table.entries c.reserve.new.self.entries c.reserve.ensures.entries.2 ∙ ap (λ m. m.map) c.self.view_is
