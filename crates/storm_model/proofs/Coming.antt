-- a client's writes that are to come
use Rattle.std.proofs.Common.{◌≡◌, ℕ, zero, suc, ◌+◌, ◌-◌, ◌<◌, ◌%◌, ◌^◌, [], ◌∷◌, map, refl, ap, sym, ◌∙◌, add-one, arith}
use Rattle.std.specs.List.{range_with_len}
use Rattle.storm_model.specs.Writes.{stepped, word_at, aimed, all_writes, writes_left}

-- from any write on
from_made : (seed c made left : ℕ) → writes_left c (word_at seed c made) made left ≡ map (λ i. aimed c (word_at seed c i) i) (range_with_len (made + 1) left)
unfolding writes_left
from_made seed c made zero = refl
from_made seed c made (suc left) =
    let here : word_at seed c (made + 1) ≡ stepped (word_at seed c made) = ap (word_at seed c) (add-one made) in
    (λ i. aimed c (sym here i) (made + 1) ∷ writes_left c (sym here i) (made + 1) left)
    ∙ ap (λ ws. aimed c (word_at seed c (made + 1)) (made + 1) ∷ ws) (from_made seed c (made + 1) left)

pub all_to_come : (seed c x writes : ℕ) → x ≡ (seed + c) % 2 ^ 64 → writes_left c x 0 writes ≡ all_writes seed c writes
unfolding all_writes
all_to_come seed c x writes e = ap (λ w. writes_left c w 0 writes) e ∙ from_made seed c 0 writes

pub none_to_come : (c x made left : ℕ) → left ≡ 0 → writes_left c x made left ≡ []
unfolding writes_left
none_to_come c x made left e = ap (writes_left c x made) e

pub one_to_come : (c x made left : ℕ) → 0 < left → writes_left c x made left ≡ aimed c (stepped x) (made + 1) ∷ writes_left c (stepped x) (made + 1) (left - 1)
unfolding writes_left
one_to_come c x made zero h = absurd (omega arith)
one_to_come c x made (suc left) h = ap (λ n. aimed c (stepped x) (made + 1) ∷ writes_left c (stepped x) (made + 1) n) (let e : left ≡ suc left - 1 = omega arith in e)

pub ruleset next_to_come = (none_to_come, one_to_come)
