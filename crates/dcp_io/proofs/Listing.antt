-- calls that were chosen to fail
use Rattle.std.proofs.Common.{zero, suc, ◌≤◌, min, ◌≡◌, ◌≢◌, ℕ, ◌+◌, ◌<◌, List, [], ◌∷◌, ◌++◌, length, take, drop, refl, sym, ap, ◌∙◌, subst, arith}
use Rattle.std.specs.List.{Contains}
use Rattle.std.proofs.lemmas.Grind.{common_steps}
use Rattle.std.proofs.lemmas.List.{take_all}
use Rattle.dcp_io.specs.Counts.{raised}
use Rattle.dcp_io.specs.Memory.{MemIntake, MemOutlet, MemTakes, MemPuts}
use Rattle.dcp_io.specs.Listed.{TakesAreListed, PutsAreListed, TakesInRow, PutsInRow, third_only}
use Rattle.dcp_io.specs.declared.Took.{Took}
use Rattle.dcp_io.specs.declared.Took.TheVariants as took
use Rattle.dcp_io.specs.declared.Put.{Put}
use Rattle.dcp_io.specs.declared.Put.TheVariants as put
use Rattle.dcp_io.proofs.Counted.{raised_exact}

-- a count below its end rises by one
one_more : (count : ℕ) → count < 18446744073709551615 → raised count 1 ≡ count + 1
one_more count below = raised_exact count 1 (omega arith)

next_listed : (fail : List ℕ) (calls : ℕ) → calls < 18446744073709551615 → Contains fail (calls + 1) → Contains fail (raised calls 1)
next_listed fail calls below listed = subst (Contains fail) (sym (one_more calls below)) listed

back : (fail : List ℕ) (calls : ℕ) → calls < 18446744073709551615 → Contains fail (raised calls 1) → Contains fail (calls + 1)
back fail calls below listed = subst (Contains fail) (one_more calls below) listed

none_listed : (fail : List ℕ) (n : ℕ) → fail ≡ [] → Contains fail n → ⊥
none_listed fail n e (k, below, at) = omega (arith, below, ap length e)

pub takes_listed : (old new : MemIntake) (room : List ℕ) (answer : Took) → MemTakes old new room answer → TakesAreListed old new room answer
takes_listed old new room (took.Bytes n) (not, one, many, same, e) = record {
  called = λ below. ap (λ (s : MemIntake). s.calls) e ∙ one_more old.calls below;
  listed = λ below listed. absurd (not (next_listed old.fail old.calls below listed));
  counted = λ q _. grind (arith, common_steps, q);
  others = λ _ _. (λ q. grind (arith, common_steps, q), ap (λ (s : MemIntake). s.faults) e);
  none = λ _ q. grind (arith, common_steps, q);
  kept = ap (λ (s : MemIntake). s.fail) e;
}
takes_listed old new room took.End (not, over, e) = record {
  called = λ below. ap (λ (s : MemIntake). s.calls) e ∙ one_more old.calls below;
  listed = λ below listed. absurd (not (next_listed old.fail old.calls below listed));
  counted = λ q _. grind (arith, common_steps, q);
  others = λ _ _. (λ q. grind (arith, common_steps, q), ap (λ (s : MemIntake). s.faults) e);
  none = λ _ q. grind (arith, common_steps, q);
  kept = ap (λ (s : MemIntake). s.fail) e;
}
takes_listed old new room took.Failed (listed, e) = record {
  called = λ below. ap (λ (s : MemIntake). s.calls) e ∙ one_more old.calls below;
  listed = λ _ _. (refl, ap (λ (s : MemIntake). s.left) e, ap (λ (s : MemIntake). s.taken) e);
  counted = λ _ below. ap (λ (s : MemIntake). s.faults) e ∙ one_more old.faults below;
  others = λ below not. absurd (not (back old.fail old.calls below listed));
  none = λ q _. none_listed old.fail (raised old.calls 1) q listed;
  kept = ap (λ (s : MemIntake). s.fail) e;
}

pub puts_listed : (old new : MemOutlet) (bytes : List ℕ) (answer : Put) → MemPuts old new bytes answer → PutsAreListed old new bytes answer
puts_listed old new bytes put.Done (not, e) = record {
  called = λ below. ap (λ (s : MemOutlet). s.calls) e ∙ one_more old.calls below;
  listed = λ below listed. absurd (not (next_listed old.fail old.calls below listed));
  counted = λ q _. grind (arith, common_steps, q);
  others = λ _ _. (λ q. grind (arith, common_steps, q), ap (λ (s : MemOutlet). s.faults) e);
  none = λ _ q. grind (arith, common_steps, q);
  kept = ap (λ (s : MemOutlet). s.fail) e;
}
puts_listed old new bytes put.NoMemory (not, e) = record {
  called = λ below. ap (λ (s : MemOutlet). s.calls) e ∙ one_more old.calls below;
  listed = λ below listed. absurd (not (next_listed old.fail old.calls below listed));
  counted = λ q _. grind (arith, common_steps, q);
  others = λ _ _. (λ q. grind (arith, common_steps, q), ap (λ (s : MemOutlet). s.faults) e);
  none = λ _ q. grind (arith, common_steps, q);
  kept = ap (λ (s : MemOutlet). s.fail) e;
}
puts_listed old new bytes put.Failed (listed, e) = record {
  called = λ below. ap (λ (s : MemOutlet). s.calls) e ∙ one_more old.calls below;
  listed = λ _ _. (refl, ap (λ (s : MemOutlet). s.held) e);
  counted = λ _ below. ap (λ (s : MemOutlet). s.faults) e ∙ one_more old.faults below;
  others = λ below not. absurd (not (back old.fail old.calls below listed));
  none = λ q _. none_listed old.fail (raised old.calls 1) q listed;
  kept = ap (λ (s : MemOutlet). s.fail) e;
}

-- a number that is one of two, or of one, or is none of them
second_in : Contains {X = ℕ} (2 ∷ 4 ∷ []) 2
second_in = (0, omega arith, refl)

fourth_in : Contains {X = ℕ} (2 ∷ 4 ∷ []) 4
fourth_in = (1, omega arith, refl)

third_in : Contains {X = ℕ} (3 ∷ []) 3
third_in = (0, omega arith, refl)

none_of_two : (a b n : ℕ) → a ≢ n → b ≢ n → Contains (a ∷ b ∷ []) n → ⊥
none_of_two a b n one other (zero, below, at) = one at
none_of_two a b n one other (suc zero, below, at) = other at
none_of_two a b n one other (suc (suc k), below, at) = omega (arith, below)

none_of_one : (a n : ℕ) → a ≢ n → Contains (a ∷ []) n → ⊥
none_of_one a n one (zero, below, at) = one at
none_of_one a n one (suc k, below, at) = omega (arith, below)

raised_few : (n : ℕ) → n < 5 → raised n 1 ≡ n + 1
raised_few n few = one_more n (omega arith)

-- what a take that is not listed gives of a source of which something is left
gives : (left fail : List ℕ) (calls taken faults : ℕ) (new : MemIntake) (room : List ℕ) (answer : Took) → calls < 5 → length room ≡ 2 → (Contains fail (calls + 1) → ⊥) → 1 ≤ length left
    → MemTakes (record { left = left; calls = calls; taken = taken; fail = fail; faults = faults }) new room answer
    → (answer ≡ took.Bytes (min (length left) 2)) × (take (min (length left) 2) room ≡ take (min (length left) 2) left)
    × (new ≡ record { left = drop (min (length left) 2) left; calls = calls + 1; taken = raised taken (min (length left) 2); fail = fail; faults = faults })
gives left fail calls taken faults new room (took.Bytes n) few two not some (on, one, many, same, e) =
    let m : n ≡ min (length left) 2 = many ∙ ap (min (length left)) two in (
      ap took.Bytes m,
      subst (λ k. take k room ≡ take k left) m same,
      e ∙ ap (λ k. record { left = drop n left; calls = k; taken = raised taken n; fail = fail; faults = faults }) (raised_few calls few)
          ∙ ap (λ k. record { left = drop k left; calls = calls + 1; taken = raised taken k; fail = fail; faults = faults }) m,
    )
gives left fail calls taken faults new room took.End few two not some (on, over, e) = absurd (omega (arith, some, ap length over))
gives left fail calls taken faults new room took.Failed few two not some (listed, e) = absurd (not (subst (Contains fail) (raised_few calls few) listed))

fails : (left fail : List ℕ) (calls taken faults : ℕ) (new : MemIntake) (room : List ℕ) (answer : Took) → calls < 5 → faults < 5 → Contains fail (calls + 1)
    → MemTakes (record { left = left; calls = calls; taken = taken; fail = fail; faults = faults }) new room answer
    → (answer ≡ took.Failed) × (new ≡ record { left = left; calls = calls + 1; taken = taken; fail = fail; faults = faults + 1 })
fails left fail calls taken faults new room (took.Bytes n) few less listed (on, one, many, same, e) = absurd (on (subst (Contains fail) (sym (raised_few calls few)) listed))
fails left fail calls taken faults new room took.End few less listed (on, over, e) = absurd (on (subst (Contains fail) (sym (raised_few calls few)) listed))
fails left fail calls taken faults new room took.Failed few less listed (is, e) = (
  refl,
  e ∙ ap (λ k. record { left = left; calls = k; taken = taken; fail = fail; faults = raised faults 1 }) (raised_few calls few)
      ∙ ap (λ k. record { left = left; calls = calls + 1; taken = taken; fail = fail; faults = k }) (raised_few faults less),
)

ends : (fail : List ℕ) (calls taken faults : ℕ) (new : MemIntake) (room : List ℕ) (answer : Took) → calls < 5 → length room ≡ 2 → (Contains fail (calls + 1) → ⊥)
    → MemTakes (record { left = []; calls = calls; taken = taken; fail = fail; faults = faults }) new room answer
    → (answer ≡ took.End) × (new ≡ record { left = []; calls = calls + 1; taken = taken; fail = fail; faults = faults })
ends fail calls taken faults new room (took.Bytes n) few two not (on, one, many, same, e) = absurd (omega (arith, one, many, two))
ends fail calls taken faults new room took.End few two not (on, over, e) = (
  refl,
  e ∙ ap (λ k. record { left = []; calls = k; taken = taken; fail = fail; faults = faults }) (raised_few calls few),
)
ends fail calls taken faults new room took.Failed few two not (listed, e) = absurd (not (subst (Contains fail) (raised_few calls few) listed))

of_two : (n : ℕ) → n ≢ 2 → n ≢ 4 → Contains (2 ∷ 4 ∷ []) n → ⊥
of_two n second fourth = none_of_two 2 4 n (λ q. second (sym q)) (λ q. fourth (sym q))

pub takes_in_row : TakesInRow
unfolding raised
takes_in_row = record {
  first = λ new room answer two takes.
      let g = gives (97 ∷ 98 ∷ 99 ∷ []) (2 ∷ 4 ∷ []) 0 0 0 new room answer (omega arith) two (of_two 1 (omega arith) (omega arith)) (omega arith) takes in
      (g.0, sym (take_all 2 room (omega (arith, two))) ∙ g.1, g.2);
  second = λ new room answer two takes. fails (99 ∷ []) (2 ∷ 4 ∷ []) 1 2 0 new room answer (omega arith) (omega arith) second_in takes;
  third = λ new room answer two takes.
      let g = gives (99 ∷ []) (2 ∷ 4 ∷ []) 2 2 1 new room answer (omega arith) two (of_two 3 (omega arith) (omega arith)) (omega arith) takes in
      (g.0, g.2);
  fourth = λ new room answer two takes. fails [] (2 ∷ 4 ∷ []) 3 3 1 new room answer (omega arith) (omega arith) fourth_in takes;
  fifth = λ new room answer two takes. ends (2 ∷ 4 ∷ []) 4 3 2 new room answer (omega arith) two (of_two 5 (omega arith) (omega arith)) takes;
}

-- what a put that is not listed does, where memory is not short
appends : (held bytes fail : List ℕ) (calls faults : ℕ) (new : MemOutlet) (answer : Put) → calls < 5 → (Contains fail (calls + 1) → ⊥)
    → MemPuts (record { held = held; calls = calls; fail = fail; faults = faults }) new bytes answer → answer ≢ put.NoMemory
    → (answer ≡ put.Done) × (new ≡ record { held = held ++ bytes; calls = calls + 1; fail = fail; faults = faults })
appends held bytes fail calls faults new put.Done few not (on, e) there = (refl, e ∙ ap (λ k. record { held = held ++ bytes; calls = k; fail = fail; faults = faults }) (raised_few calls few))
appends held bytes fail calls faults new put.NoMemory few not puts there = absurd (there refl)
appends held bytes fail calls faults new put.Failed few not (listed, e) there = absurd (not (subst (Contains fail) (raised_few calls few) listed))

third_fails : (new : MemOutlet) (answer : Put) → MemPuts (third_only (97 ∷ 98 ∷ 99 ∷ []) 2 0) new (100 ∷ []) answer → (answer ≡ put.Failed) × (new ≡ third_only (97 ∷ 98 ∷ 99 ∷ []) 3 1)
third_fails new put.Done (on, e) = absurd (on (subst (Contains (3 ∷ [])) (sym (raised_few 2 (omega arith))) third_in))
third_fails new put.NoMemory (on, e) = absurd (on (subst (Contains (3 ∷ [])) (sym (raised_few 2 (omega arith))) third_in))
third_fails new put.Failed (listed, e) = (refl, e ∙ ap (λ k. third_only (97 ∷ 98 ∷ 99 ∷ []) k (raised 0 1)) (raised_few 2 (omega arith)) ∙ ap (third_only (97 ∷ 98 ∷ 99 ∷ []) 3) (raised_few 0 (omega arith)))

of_three : (n : ℕ) → n ≢ 3 → Contains (3 ∷ []) n → ⊥
of_three n third = none_of_one 3 n (λ q. third (sym q))

is_short : (new : MemOutlet) (answer : Put) → MemPuts (third_only [] 0 0) new (97 ∷ 98 ∷ []) answer → answer ≡ put.NoMemory → new ≡ third_only [] 1 0
is_short new put.Done puts q = grind (arith, common_steps, q)
is_short new put.NoMemory (on, e) q = e ∙ ap (λ k. third_only [] k 0) (raised_few 0 (omega arith))
is_short new put.Failed puts q = grind (arith, common_steps, q)

pub puts_in_row : PutsInRow
puts_in_row = record {
  first = λ new answer. appends [] (97 ∷ 98 ∷ []) (3 ∷ []) 0 0 new answer (omega arith) (of_three 1 (omega arith));
  second = λ new answer. appends (97 ∷ 98 ∷ []) (99 ∷ []) (3 ∷ []) 1 0 new answer (omega arith) (of_three 2 (omega arith));
  third = third_fails;
  fourth = λ new answer. appends (97 ∷ 98 ∷ 99 ∷ []) (101 ∷ []) (3 ∷ []) 3 1 new answer (omega arith) (of_three 4 (omega arith));
  short = is_short;
}
