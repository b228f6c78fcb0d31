-- where the verbs of writes stand
use Rattle.std.proofs.Common.{◌≡◌, ℕ, zero, suc, ◌+◌, ◌-◌, ◌*◌, ◌/◌, ◌%◌, ◌<◌, ◌≤◌, ◌^◌, Bool, true, false, List, [], ◌∷◌, ◌++◌, length, refl, ap, sym, ◌∙◌, append_assoc, length-append, arith}
use Rattle.std.specs.Prelude.{◌==◌, ◌||◌, if◌then◌else◌}
use Rattle.std.proofs.lemmas.Bool.{eqb-true, eqb-false}
use Rattle.script_text.specs.declared.verb.Verb.{Verb}
use Rattle.script_gen.specs.Writes.{stepped, write_verb}
use Rattle.script_gen.specs.Scripts.{carrying, closing, behind_write, writes_from}
use Rattle.script_gen.specs.Texts.{word_at}

-- ---- how many verbs stand behind a write

when_any : (t u : Bool) → length (if t || u then carrying else []) ≡ (if t || u then 6 else 0)
when_any true u = refl
when_any false true = refl
when_any false false = refl

-- behind one that is not the last
more_by : (made left : ℕ) (t u : Bool) → ((made + 1) % 64 == 0) ≡ t → (left == 0) ≡ u → 0 < left
    → (if t || u then 6 else 0) + 6 * (made / 64) ≡ 6 * ((made + 1) / 64)
more_by made left true u e f some = let full = eqb-true ((made + 1) % 64) 0 e in omega (arith, full)
more_by made left false true e f some = let none = eqb-true left 0 f in absurd (omega (arith, none, some))
more_by made left false false e f some = let short = eqb-false ((made + 1) % 64) 0 e in omega (arith, short)

behind_more : (made left : ℕ) → 0 < left → length (behind_write (made + 1) left) + 6 * (made / 64) ≡ 6 * ((made + 1) / 64)
behind_more made left some =
    ap (λ n. n + 6 * (made / 64)) (when_any ((made + 1) % 64 == 0) (left == 0)) ∙ more_by made left ((made + 1) % 64 == 0) (left == 0) refl refl some

-- and behind the last
or_last : (t : Bool) → length (if t || true then carrying else []) ≡ 6
or_last true = refl
or_last false = refl

behind_last : (i : ℕ) → length (behind_write i 0) ≡ 6
behind_last i = or_last (i % 64 == 0)

-- ---- how many verbs all writes are

pub writes_long : (left made x : ℕ) → 0 < left → length (writes_from left made x) + 6 * (made / 64) ≡ left + 6 * ((made + left + 63) / 64)
unfolding writes_from
writes_long zero made x some = absurd (omega (arith, some))
writes_long (suc zero) made x some =
    let here = length-append (behind_write (made + 1) 0) [] in
    omega (arith, here, behind_last (made + 1))
writes_long (suc (suc left)) made x some =
    let here = length-append (behind_write (made + 1) (suc left)) (writes_from (suc left) (made + 1) (stepped x)) in
    let behind = behind_more made (suc left) (omega arith) in
    let more = writes_long (suc left) (made + 1) (stepped x) (omega arith) in
    omega (arith, here, behind, more)

-- at most seven for each write, so that a line's number has room
few_by : (left x : ℕ) → length (writes_from left 0 x) ≤ 7 * left
unfolding writes_from
few_by zero x = omega arith
few_by (suc left) x = let long = writes_long (suc left) 0 x (omega arith) in omega (arith, long)

pub fits_line : (count seed : ℕ) → count < 2 ^ 32 → length (writes_from count 0 seed ++ closing) < 2 ^ 63
fits_line count seed small = let few = few_by count seed in let all = length-append (writes_from count 0 seed) closing in omega (arith, few, all, small)

-- ---- where a write stands among them

-- write i of the word w stands behind so many verbs, with what stands behind it where so many are left
pub record Split (left made x i w later : ℕ) : Type 0 where
  pub front : List Verb
  pub rest : List Verb
  pub is : writes_from left made x ≡ front ++ (write_verb i w ∷ (behind_write i later ++ rest))
  pub long : length front + 6 * (made / 64) + made + 1 ≡ i + 6 * ((i - 1) / 64)

-- words by steps
pub word_of_step : (x j : ℕ) → word_at (stepped x) j ≡ stepped (word_at x j)
word_of_step x zero = refl
word_of_step x (suc j) = ap stepped (word_of_step x j)

-- one more write in front
split_on : (left made x i w later : ℕ) → 0 < left → Split left (made + 1) (stepped x) i w later → Split (suc left) made x i w later
unfolding writes_from
split_on left made x i w later some s =
    let behind = behind_write (made + 1) left in
    let here = length-append behind s.front in
    let counted = behind_more made left some in
    let long = s.long in
    record {
      front = write_verb (made + 1) (stepped x) ∷ (behind ++ s.front);
      rest = s.rest;
      is =
          ap (λ vs. write_verb (made + 1) (stepped x) ∷ (behind ++ vs)) s.is
          ∙ ap (λ vs. write_verb (made + 1) (stepped x) ∷ vs) (sym (append_assoc behind s.front (write_verb i w ∷ (behind_write i later ++ s.rest))));
      long = omega (arith, here, counted, long);
    }

pub split : (left made x j i w later : ℕ) → i ≡ made + 1 + j → i + later ≡ made + left → w ≡ word_at (stepped x) j → Split left made x i w later
unfolding writes_from
split zero made x j i w later at ends word = absurd (omega (arith, at, ends))
split (suc left) made x zero i w later at ends word =
    let at_is : made + 1 ≡ i = omega (arith, at) in
    let later_is : left ≡ later = omega (arith, at, ends) in
    let before : i - 1 ≡ made = omega (arith, at) in
    record {
      front = [];
      rest = writes_from left (made + 1) (stepped x);
      is = λ k. write_verb (at_is k) (sym word k) ∷ (behind_write (at_is k) (later_is k) ++ writes_from left (made + 1) (stepped x));
      long = rw before (omega (arith, at));
    }
split (suc left) made x (suc j) i w later at ends word =
    split_on left made x i w later (omega (arith, at, ends))
    (split left (made + 1) (stepped x) j i w later (omega (arith, at)) (omega (arith, ends)) (word ∙ sym (word_of_step (stepped x) j)))
