-- the steps of giving up, by their numbers
use Rattle.std.proofs.Common.{◌≡◌, ℕ, ◌+◌, ◌≤◌, [], ◌∷◌, refl, ap, sym, ◌∙◌, arith, inl, inr, get_or}
use Rattle.takeover.specs.declared.give_up.GiveUp.{GiveUp}
use Rattle.takeover.specs.declared.give_up.GiveStep.{GiveStep}
use Rattle.takeover.specs.declared.give_up.GiveStep.TheVariants.{SendAll, SendPending, AwaitPending, Yield, SendRest, SendActive, AwaitActive, End}
use Rattle.takeover.specs.GivingUp.{behind, behind_answer}
use Rattle.takeover.specs.Laws.{number, IsDone, IsAwaited, GivesUpInOrder}

-- the step of a number
step_of : ℕ → GiveStep
step_of n = get_or (SendAll ∷ SendAll ∷ SendPending ∷ AwaitPending ∷ Yield ∷ SendRest ∷ SendActive ∷ AwaitActive ∷ End ∷ []) n End

itself : (s : GiveStep) → step_of (number s) ≡ s
unfolding step_of
itself SendAll = refl
itself SendPending = refl
itself AwaitPending = refl
itself Yield = refl
itself SendRest = refl
itself SendActive = refl
itself AwaitActive = refl
itself End = refl

range : (s : GiveStep) → (1 ≤ number s) × (number s ≤ 8)
range SendAll = (omega arith, omega arith)
range SendPending = (omega arith, omega arith)
range AwaitPending = (omega arith, omega arith)
range Yield = (omega arith, omega arith)
range SendRest = (omega arith, omega arith)
range SendActive = (omega arith, omega arith)
range AwaitActive = (omega arith, omega arith)
range End = (omega arith, omega arith)

goes : (s : GiveStep) → IsDone (number s) → number (behind s) ≡ number s + 1
goes SendAll h = refl
goes SendPending h = refl
goes AwaitPending h = grind (arith, h)
goes Yield h = refl
goes SendRest h = refl
goes SendActive h = refl
goes AwaitActive h = grind (arith, h)
goes End h = grind (arith, h)

stays : (s : GiveStep) → (IsDone (number s) → ⊥) → behind s ≡ s
stays SendAll h = absurd (h (inl refl))
stays SendPending h = absurd (h (inr (inl refl)))
stays AwaitPending h = refl
stays Yield h = absurd (h (inr (inr (inl refl))))
stays SendRest h = absurd (h (inr (inr (inr (inl refl)))))
stays SendActive h = absurd (h (inr (inr (inr (inr refl)))))
stays AwaitActive h = refl
stays End h = refl

comes : (s : GiveStep) → IsAwaited (number s) → number (behind_answer s) ≡ number s + 1
comes SendAll h = grind (arith, h)
comes SendPending h = grind (arith, h)
comes AwaitPending h = refl
comes Yield h = grind (arith, h)
comes SendRest h = grind (arith, h)
comes SendActive h = grind (arith, h)
comes AwaitActive h = refl
comes End h = grind (arith, h)

waits : (s : GiveStep) → (IsAwaited (number s) → ⊥) → behind_answer s ≡ s
waits SendAll h = refl
waits SendPending h = refl
waits AwaitPending h = absurd (h (inl refl))
waits Yield h = refl
waits SendRest h = refl
waits SendActive h = refl
waits AwaitActive h = absurd (h (inr refl))
waits End h = refl

-- at this step
abbrev stepping : GiveStep → GiveUp
stepping s = record { step = s }

pub gives_up_in_order : GivesUpInOrder
gives_up_in_order = record {
  first = refl;
  range = λ g. range g.step;
  each = λ g h e. ap stepping (sym (itself g.step) ∙ ap step_of e ∙ itself h.step);
  goes = λ g is. goes g.step is;
  stays = λ g none. ap stepping (stays g.step none);
  comes = λ g is. comes g.step is;
  waits = λ g none. ap stepping (waits g.step none);
}
