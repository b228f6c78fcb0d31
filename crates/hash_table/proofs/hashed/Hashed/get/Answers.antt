use Rattle.std.proofs.Common.{sym, ap, ◌∙◌}
use Rattle.std.specs.FinMap as map
use Rattle.hash_table.proofs.Finds.{get_at, none_at}
use Rattle.hash_table.proofs.hashed.Hashed.get.Goals as goal

pub returns-then-is_empty : goal.returns-then-is_empty
returns-then-is_empty g c = sym (none_at c.self.inside.table.entries c.args.key.now (c.is_empty.ensures.0 c.if-is_empty.true)) ∙ ap (λ m. map.get m.map c.args.key.now) c.self.view_is

pub returns : goal.returns
returns g c = c.get.ensures.value ∙ sym (get_at c.self.inside.table.entries c.args.key.now) ∙ ap (λ m. map.get m.map c.args.key.now) c.self.view_is
