use Rattle.hash_table.proofs.Counts.{are_along}
use Rattle.vb_types.specs.declared.change.Pend.{Pend}
use Rattle.std.proofs.Common.{true, refl, sym}
use Rattle.vb_types.specs.Levels.{is_third}
use Rattle.hash_table.proofs.prepares.Prepares.reserve.Goals as goal

pub invariant_of-self : goal.invariant_of-self
invariant_of-self c = (
  are_along (λ _. true) (sym c.reserve.ensures.map) (refl {a = c.self.inside.seqnos.list}) c.self.invariant.0,
  are_along (λ (p : Pend). is_third p.level) (sym c.reserve.ensures.map) (refl {a = c.self.inside.thirds.list}) c.self.invariant.1,
)

pub invariant_of-self-in_err-reserve-2 : goal.invariant_of-self-in_err-reserve-2
invariant_of-self-in_err-reserve-2 c = (
  are_along (λ _. true) (sym c.reserve.ensures.map) (sym c.reserve-2.ensures.list) c.self.invariant.0,
  are_along (λ (p : Pend). is_third p.level) (sym c.reserve.ensures.map) (refl {a = c.self.inside.thirds.list}) c.self.invariant.1,
)

pub invariant_of-self-2 : goal.invariant_of-self-2
invariant_of-self-2 c = (
  are_along (λ _. true) (sym c.reserve.ensures.map) (sym c.reserve-2.ensures.list) c.self.invariant.0,
  are_along (λ (p : Pend). is_third p.level) (sym c.reserve.ensures.map) (sym c.reserve-3.ensures.list) c.self.invariant.1,
)
