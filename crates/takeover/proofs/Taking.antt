-- what each state has a node do that takes a vBucket over
use Rattle.std.proofs.Common.{◌≡◌, ◌≢◌, refl, ap, inl, inr, ◌⊎◌}
use Rattle.std.specs.Prelude.{◌↔◌, Option, Some, None}
use Rattle.vb_types.specs.declared.role.Role.{Role}
use Rattle.vb_types.specs.declared.role.Role.TheVariants as role
use Rattle.takeover.specs.declared.take_over.TakeOver.{TakeOver}
use Rattle.takeover.specs.declared.take_over.TakeStep.{TakeStep}
use Rattle.takeover.specs.declared.take_over.TakeStep.TheVariants.{Pend, Own}
use Rattle.takeover.specs.TakingOver.{new_take_over, step_at, with_step}
use Rattle.takeover.specs.Laws.{TakesOverInOrder}

-- a state had it do this last
abbrev behind : Option TakeStep → TakeOver
behind last = record { last = last }

last_is : (last other : Option TakeStep) → behind last ≡ behind other → last ≡ other
last_is last other e = ap (λ (t : TakeOver). t.last) e

pends : (last : Option TakeStep) (r : Role) → (step_at last r ≡ Some Pend) ↔ ((behind last ≡ new_take_over) × (r ≡ role.Pending))
pends None role.Pending = (λ e. (refl, refl), λ h. refl)
pends None role.Active = (λ e. cc, λ h. let k = h.1 in cc)
pends None role.Replica = (λ e. cc, λ h. let k = h.1 in cc)
pends None role.Dead = (λ e. cc, λ h. let k = h.1 in cc)
pends (Some Pend) role.Active = (λ e. cc, λ h. let k = h.1 in cc)
pends (Some Pend) role.Replica = (λ e. cc, λ h. let k = h.1 in cc)
pends (Some Pend) role.Dead = (λ e. cc, λ h. let k = h.1 in cc)
pends (Some Pend) role.Pending = (λ e. cc, λ h. let k = last_is (Some Pend) None h.0 in cc)
pends (Some Own) r = (λ e. cc, λ h. let k = last_is (Some Own) None h.0 in cc)

owns : (last : Option TakeStep) (r : Role) → (step_at last r ≡ Some Own) ↔ ((behind last ≡ behind (Some Pend)) × (r ≡ role.Active))
owns None role.Pending = (λ e. cc, λ h. let k = h.1 in cc)
owns None role.Active = (λ e. cc, λ h. let k = last_is None (Some Pend) h.0 in cc)
owns None role.Replica = (λ e. cc, λ h. let k = h.1 in cc)
owns None role.Dead = (λ e. cc, λ h. let k = h.1 in cc)
owns (Some Pend) role.Active = (λ e. (refl, refl), λ h. refl)
owns (Some Pend) role.Replica = (λ e. cc, λ h. let k = h.1 in cc)
owns (Some Pend) role.Dead = (λ e. cc, λ h. let k = h.1 in cc)
owns (Some Pend) role.Pending = (λ e. cc, λ h. let k = h.1 in cc)
owns (Some Own) r = (λ e. cc, λ h. let k = last_is (Some Own) (Some Pend) h.0 in cc)

-- out of order
abbrev IsOut : Option TakeStep → Role → Type 0
IsOut last r = ((behind last ≡ new_take_over) × (r ≢ role.Pending)) ⊎ (((last ≡ Some Pend) × (r ≢ role.Active)) ⊎ (last ≡ Some Own))

first_is_pending : (h : IsOut None role.Pending) → ⊥
first_is_pending (inl h) = h.1 refl
first_is_pending (inr (inl h)) = let k = h.0 in cc
first_is_pending (inr (inr h)) = cc

next_is_active : (h : IsOut (Some Pend) role.Active) → ⊥
next_is_active (inl h) = let k = last_is (Some Pend) None h.0 in cc
next_is_active (inr (inl h)) = h.1 refl
next_is_active (inr (inr h)) = cc

out : (last : Option TakeStep) (r : Role) → (step_at last r ≡ None) ↔ IsOut last r
out None role.Pending = (λ e. cc, λ h. absurd (first_is_pending h))
out None role.Active = (λ e. inl (refl, λ k. cc), λ h. refl)
out None role.Replica = (λ e. inl (refl, λ k. cc), λ h. refl)
out None role.Dead = (λ e. inl (refl, λ k. cc), λ h. refl)
out (Some Pend) role.Active = (λ e. cc, λ h. absurd (next_is_active h))
out (Some Pend) role.Replica = (λ e. inr (inl (refl, λ k. cc)), λ h. refl)
out (Some Pend) role.Dead = (λ e. inr (inl (refl, λ k. cc)), λ h. refl)
out (Some Pend) role.Pending = (λ e. inr (inl (refl, λ k. cc)), λ h. refl)
out (Some Own) r = (λ e. inr (inr refl), λ h. refl)

pub takes_over_in_order : TakesOverInOrder
takes_over_in_order = record {
  pends = λ t r. pends t.last r;
  owns = λ t r. owns t.last r;
  goes = λ t r step e. ap (λ (s : Option TakeStep). with_step s t) e;
  none = λ t r. out t.last r;
  stays = λ t r e. ap (λ (s : Option TakeStep). with_step s t) e;
}
