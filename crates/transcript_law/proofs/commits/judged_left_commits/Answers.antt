use Rattle.std.specs.Prelude.{◌≡◌, ◌<◌, ◌∷◌}
use Rattle.transcript_law.proofs.Words.{ℕ, [], MAX_SEQ, ⊎_elim, arith, inl, inr, refl, sym, subst}
use Rattle.transcript_law.proofs.commits.judged_left_commits.Goals as goal

low : (at : ℕ) → at ≡ 1 → at < MAX_SEQ
low at e = subst (λ k. k < MAX_SEQ) (sym e) (omega arith)

pub returns : goal.returns
returns c = record {
  alone = λ (vb, active, at, waits, f). f.committed active (low vb.position.at at) _ [] waits (record { members = []; differ = tt; each = tt; most = omega arith; saved_for = λ w. absurd w });
  of_two = λ (vb, active, at, waits, f). f.committed active (low vb.position.at at) _ [] waits (record { members = 1 ∷ []; differ = (λ i. i, tt); each = ((inl refl, inl (refl, omega arith)), tt); most = omega arith; saved_for = λ w. absurd w });
  of_three = λ (vb, active, at, waits, f). f.committed active (low vb.position.at at) _ [] waits (record { members = 2 ∷ []; differ = (λ i. i, tt); each = ((inr (inl refl), inl (refl, omega arith)), tt); most = omega arith; saved_for = λ w. absurd w });
  of_four = λ (vb, active, at, waits, f). f.committed active (low vb.position.at at) _ [] waits (record { members = 1 ∷ 3 ∷ []; differ = (λ i. ⊎_elim (λ e. let z : 1 ≡ 3 = e in absurd (omega arith)) (λ j. j) i, (λ i. i, tt)); each = ((inl refl, inr (inl (refl, omega arith))), ((inr (inr (inl refl)), inl (refl, omega arith)), tt)); most = omega arith; saved_for = λ w. absurd w });
  second = λ (vb, active, at, waits, f). f.committed active (low vb.position.at at) _ [] waits (record { members = []; differ = tt; each = tt; most = omega arith; saved_for = λ w. omega arith });
  third = λ (vb, active, at, waits, f). f.committed active (low vb.position.at at) _ [] waits (record { members = 1 ∷ []; differ = (λ i. i, tt); each = ((inl refl, inl (refl, omega arith)), tt); most = omega arith; saved_for = λ w. omega arith });
}
