use Rattle.std.specs.Prelude.{◌≡◌, ◌≤◌, ◌∷◌}
use Rattle.transcript_law.proofs.Words.{ℕ, [], length, ap, sym, ◌∙◌, refl, inl, inr, ⊎_elim, arith, Option, Some, Role}
use Rattle.transcript_law.specs.Chronicles.{CountsKnown}
use Rattle.transcript_law.proofs.rows.CommitRows.{again_held, again_lawful, anew_held, anew_lawful, started_held, may, must, one_at_least, two_at_least}
use Rattle.vb_types.specs.declared.change.Level.TheVariants.{Majority, MajorityPersistActive, PersistMajority}
use Rattle.transcript_law.proofs.commits.judged_commits.Goals as goal
use Rattle.transcript_law.proofs.lines.Rises.{made_here}

pub returns : goal.returns
returns c = record {
  alone = (may Majority _ _ (record { members = []; differ = tt; each = tt; most = omega arith; saved_for = λ w. absurd w }), tt);
  lacking = λ l. let x = one_at_least (must Majority _ _ l.0) (omega arith) in absurd x.2;
  of_two = (may Majority _ _ (record { members = 1 ∷ []; differ = (λ i. i, tt); each = ((inl refl, inl (refl, omega arith)), tt); most = omega arith; saved_for = λ w. absurd w }), tt);
  below = λ l. let x = one_at_least (must Majority _ _ l.0) (omega arith) in ⊎_elim (λ a. let few : 1 ≤ 0 = a.1 in absurd (omega arith)) (λ i. absurd i) x.2;
  stranger = λ l. let x = one_at_least (must Majority _ _ l.0) (omega arith) in
      ⊎_elim (λ e. ⊎_elim (λ a. let two : 1 ≡ 2 = sym e ∙ a.0 in absurd (omega arith)) (λ i. absurd i) x.2) (λ i. absurd i) x.1;
  of_three = (may Majority _ _ (record { members = 2 ∷ []; differ = (λ i. i, tt); each = ((inr (inl refl), inl (refl, omega arith)), tt); most = omega arith; saved_for = λ w. absurd w }), tt);
  unset = λ l. let x = two_at_least (must Majority _ _ l.0) (omega arith) in
      ⊎_elim (λ a. ⊎_elim (λ b. x.2 (b.0 ∙ sym a.0)) (λ i. absurd i) x.4) (λ i. absurd i) x.3;
  twice = λ l. let x = two_at_least (must Majority _ _ l.0) (omega arith) in
      ⊎_elim (λ a. ⊎_elim (λ b. x.2 (b.0 ∙ sym a.0)) (λ i. ⊎_elim (λ b. x.2 (b.0 ∙ sym a.0)) (λ j. absurd j) i) x.4)
      (λ i. ⊎_elim (λ a. ⊎_elim (λ b. x.2 (b.0 ∙ sym a.0)) (λ k. ⊎_elim (λ b. x.2 (b.0 ∙ sym a.0)) (λ j. absurd j) k) x.4) (λ j. absurd j) i) x.3;
  of_four = (
    may Majority _ _ (record {
      members = 1 ∷ 3 ∷ [];
      differ = (λ i. ⊎_elim (λ e. let z : 1 ≡ 3 = e in absurd (omega arith)) (λ j. j) i, (λ i. i, tt));
      each = ((inl refl, inr (inl (refl, omega arith))), ((inr (inr (inl refl)), inl (refl, omega arith)), tt));
      most = omega arith;
      saved_for = λ w. absurd w;
    }),
    tt,
  );
  second = (may MajorityPersistActive _ _ (record { members = []; differ = tt; each = tt; most = omega arith; saved_for = λ w. omega arith }), tt);
  second_unsaved = λ l. let few : 1 ≤ 0 = (must MajorityPersistActive _ _ l.0).saved_for tt in absurd (omega arith);
  third = (may PersistMajority _ _ (record { members = []; differ = tt; each = tt; most = omega arith; saved_for = λ w. omega arith }), tt);
  third_unsaved = λ l. let few : 1 ≤ 0 = (must PersistMajority _ _ l.0).saved_for tt in absurd (omega arith);
  elsewhere = λ l. let x = one_at_least (must Majority _ _ l.0) (omega arith) in absurd x.2;
  chained_later = (may Majority _ _ (record { members = 1 ∷ []; differ = (λ i. i, tt); each = ((inl refl, inl (refl, omega arith)), tt); most = omega arith; saved_for = λ w. absurd w }), tt);
  unchained = (may Majority _ _ (record { members = []; differ = tt; each = tt; most = omega arith; saved_for = λ w. absurd w }), tt);
  started = λ l. let x = one_at_least (started_held _ _ l.0) (omega arith) in absurd x.2;
  again = (again_lawful _ _ (record { members = []; differ = tt; each = tt; most = omega arith; saved_for = λ w. absurd w }), tt);
  again_chained = λ l. let x = one_at_least (again_held _ _ l.0) (omega arith) in absurd x.2;
  again_counted = (again_lawful _ _ (record { members = 1 ∷ []; differ = (λ i. i, tt); each = ((inl refl, inl (refl, omega arith)), tt); most = omega arith; saved_for = λ w. absurd w }), tt);
  alone_again = (record { another = λ e. cc; anew = λ e. made_here _ _ _ 5 refl refl refl; pending = λ e. cc }, tt);
  chained_active = λ l. ⊎_elim (λ risen. let same : ◌≡◌ {A = ℕ} 1 0 = ap (λ (t : CountsKnown). length t.chain) risen.anew in absurd (omega (arith, same))) (λ heir. let z : ◌≡◌ {A = Option (Option Role)} (Some (Some Role.Dead)) (Some (Some Role.Pending)) = heir.pending in cc) (l.0.anew refl);
  crashed = (record { another = λ e. cc; anew = λ e. made_here _ _ _ 5 refl refl refl; pending = λ e. cc }, tt);
  anew = (anew_lawful _ _ (record { members = []; differ = tt; each = tt; most = omega arith; saved_for = λ w. absurd w }), tt);
  anew_chained = λ l. let x = one_at_least (anew_held _ _ l.0) (omega arith) in absurd x.2;
}
