use Rattle.std.proofs.Common.{true, sym}
use Rattle.vb_types.specs.declared.change.Pend.{Pend}
use Rattle.vb_types.specs.Levels.{is_third}
use Rattle.hash_table.proofs.Counts.{are_along, none_yet}
use Rattle.hash_table.proofs.prepares.Prepares.new.Goals as goal

pub invariant_of-result : goal.invariant_of-result
invariant_of-result c = (
  are_along (λ _. true) (sym c.new.ensures) (sym c.new-2.ensures) (none_yet (λ _. true)),
  are_along (λ (p : Pend). is_third p.level) (sym c.new.ensures) (sym c.new-3.ensures) (none_yet (λ (p : Pend). is_third p.level)),
)
