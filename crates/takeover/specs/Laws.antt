-- what holds of both, in other words
use Rattle.std.specs.Prelude.{◌≡◌, ◌≢◌, ◌↔◌, ◌⊎◌, ℕ, ◌+◌, ◌≤◌, List, [], ◌∷◌, Option, Some, None}
use Rattle.vb_types.specs.declared.role.Role.{Role}
use Rattle.vb_types.specs.declared.role.Role.TheVariants as role
use Rattle.takeover.specs.declared.give_up.GiveUp.{GiveUp}
use Rattle.takeover.specs.declared.give_up.GiveStep.{GiveStep}
use Rattle.takeover.specs.declared.give_up.GiveStep.TheVariants.{SendAll, SendPending, AwaitPending, Yield, SendRest, SendActive, AwaitActive, End}
use Rattle.takeover.specs.declared.take_over.TakeOver.{TakeOver}
use Rattle.takeover.specs.declared.take_over.TakeStep.{TakeStep}
use Rattle.takeover.specs.declared.take_over.TakeStep.TheVariants.{Pend, Own}
use Rattle.takeover.specs.GivingUp.{new_give_up, done, answered}
use Rattle.takeover.specs.TakingOver.{new_take_over, step_at, told}

-- the steps by their numbers, in their order
abbrev pub number : GiveStep → ℕ
number SendAll = 1
number SendPending = 2
number AwaitPending = 3
number Yield = 4
number SendRest = 5
number SendActive = 6
number AwaitActive = 7
number End = 8

-- the number of the step that is to be done now
abbrev pub at : GiveUp → ℕ
at g = number g.step

-- the numbers of the steps that are done, and of those that await an answer
abbrev pub IsDone : ℕ → Type 0
IsDone n = (n ≡ 1) ⊎ ((n ≡ 2) ⊎ ((n ≡ 4) ⊎ ((n ≡ 5) ⊎ (n ≡ 6))))

abbrev pub IsAwaited : ℕ → Type 0
IsAwaited n = (n ≡ 3) ⊎ (n ≡ 7)

-- the steps are 1 to 8, each another. One that is done goes on to the next at `done`, and one that awaits an answer at `answered`; in each other case all stays
pub record GivesUpInOrder : Type 0 where
  pub first : at new_give_up ≡ 1
  pub range : (g : GiveUp) → (1 ≤ at g) × (at g ≤ 8)
  pub each : (g h : GiveUp) → at g ≡ at h → g ≡ h
  pub goes : (g : GiveUp) → IsDone (at g) → at (done g) ≡ at g + 1
  pub stays : (g : GiveUp) → (IsDone (at g) → ⊥) → done g ≡ g
  pub comes : (g : GiveUp) → IsAwaited (at g) → at (answered g) ≡ at g + 1
  pub waits : (g : GiveUp) → (IsAwaited (at g) → ⊥) → answered g ≡ g

-- what happens to a node that gives a vBucket up: it did its step, or the other node answered
pub data Move : Type 0 where
  Did : Move
  Heard : Move

abbrev pub moved : GiveUp → Move → GiveUp
moved g Did = done g
moved g Heard = answered g

-- the numbers of the steps behind each of some moves
abbrev pub numbers : GiveUp → List Move → List ℕ
numbers g [] = []
numbers g (m ∷ ms) = at (moved g m) ∷ numbers (moved g m) ms

-- pending has a node pend exactly where no state has come, and active has it own the branch exactly right behind pending; each other state does nothing, and changes nothing
pub record TakesOverInOrder : Type 0 where
  pub pends : (t : TakeOver) (r : Role) → (step_at t.last r ≡ Some Pend) ↔ ((t ≡ new_take_over) × (r ≡ role.Pending))
  pub owns : (t : TakeOver) (r : Role) → (step_at t.last r ≡ Some Own) ↔ ((t ≡ told role.Pending new_take_over) × (r ≡ role.Active))
  pub goes : (t : TakeOver) (r : Role) (step : TakeStep) → step_at t.last r ≡ Some step → told r t ≡ record { last = Some step }
  pub none : (t : TakeOver) (r : Role) → (step_at t.last r ≡ None)
      ↔ (((t ≡ new_take_over) × (r ≢ role.Pending)) ⊎ (((t.last ≡ Some Pend) × (r ≢ role.Active)) ⊎ (t.last ≡ Some Own)))
  pub stays : (t : TakeOver) (r : Role) → step_at t.last r ≡ None → told r t ≡ t

-- what each of some states has a node do
abbrev pub steps : TakeOver → List Role → List (Option TakeStep)
steps t [] = []
steps t (r ∷ rs) = step_at t.last r ∷ steps (told r t) rs
