use Rattle.std.proofs.Common.{sym, ap, ◌∙◌}
use Rattle.std.specs.FinMap as map
use Rattle.hash_table.proofs.Finds.{get_at, removed}
use Rattle.hash_table.proofs.hashed.Hashed.remove.Goals as goal

pub returns-clause-was : goal.returns-clause-was
returns-clause-was g c = c.remove.ensures.value ∙ sym (get_at c.self.inside.table.entries c.args.key.now) ∙ ap (λ m. map.get m.map c.args.key.now) c.self.view_is

pub returns-clause-map : goal.returns-clause-map
returns-clause-map g c =
    removed c.self.inside.table.entries c.remove.new.self.entries c.args.key.now c.remove.ensures.updates.0
    ∙ ap (λ m. map.remove m.map c.args.key.now) c.self.view_is
