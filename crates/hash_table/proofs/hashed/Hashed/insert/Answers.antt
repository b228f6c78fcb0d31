use Rattle.std.proofs.Common.{ap, ◌∙◌}
use Rattle.std.specs.FinMap as map
use Rattle.hash_table.proofs.Finds.{inserted}
use Rattle.hash_table.proofs.hashed.Hashed.insert.Goals as goal

pub returns-clause-map : goal.returns-clause-map
returns-clause-map g c =
    inserted c.self.inside.table.entries c.insert-placed.new.self.entries c.args.key c.args.value (rw c.unwrap.ensures at c.insert-placed.ensures.updates).0
    ∙ ap (λ m. map.insert m.map c.args.key c.args.value) c.self.view_is
