-- how many writes there are for each vBucket
use Rattle.std.proofs.Common.{◌≡◌, ℕ, zero, suc, ◌+◌, ◌*◌, ◌<◌, ◌≤◌, ◌==◌, Bool, true, false, cond, if◌then◌else◌, List, [], ◌∷◌, map, length, refl, ◌∙◌, length-append, arith}
use Rattle.std.specs.List.{filter, flat_map, range_with_len}
use Rattle.std.proofs.lemmas.List.FromFn.{length-range_with_len}
use Rattle.std.proofs.Math.Nat.{suc-mul}
use Rattle.storm_model.specs.declared.writes.Aimed.{Aimed}
use Rattle.storm_model.specs.Writes.{aimed, all_writes, vb_of_word, word_at, writes_of}
use Rattle.storm_model.specs.Sums.{in_turn}

abbrev ones : ℕ → ℕ → ℕ
ones v k = if v == k then 1 else 0

one_of : (v : ℕ) → v < 4 → ones v 0 + ones v 1 + ones v 2 + ones v 3 ≡ 1
one_of zero l = refl
one_of (suc zero) l = refl
one_of (suc (suc zero)) l = refl
one_of (suc (suc (suc zero))) l = refl
one_of (suc (suc (suc (suc v)))) l = absurd (omega arith)

abbrev writes_in : List Aimed → ℕ → ℕ
writes_in list v = length (map (λ a. a.write) (filter (λ a. a.vb == v) list))

one_longer : (b : Bool) (a : Aimed) (list : List Aimed) → length (map (λ a. a.write) (cond b (a ∷ list) list)) ≡ (if b then 1 else 0) + length (map (λ a. a.write) list)
one_longer true a list = omega arith
one_longer false a list = omega arith

in_longer : (a : Aimed) (list : List Aimed) (v : ℕ) → writes_in (a ∷ list) v ≡ ones a.vb v + writes_in list v
in_longer a list v = one_longer (a.vb == v) a (filter (λ a. a.vb == v) list)

split_writes : (c : ℕ) (word : ℕ → ℕ) (is : List ℕ) → (let list : List Aimed = map (λ i. aimed c (word i) i) is in writes_in list 0 + writes_in list 1 + writes_in list 2 + writes_in list 3 ≡ length is)
split_writes c word [] = refl
split_writes c word (i ∷ is) =
    let a : Aimed = aimed c (word i) i in
    let list : List Aimed = map (λ i. aimed c (word i) i) is in
    let one = one_of (vb_of_word (word i)) (omega arith) in
    let more = split_writes c word is in
    omega (arith, in_longer a list 0, in_longer a list 1, in_longer a list 2, in_longer a list 3, one, more)

pub writes_split : (seed c writes : ℕ)
    → length (writes_of seed c writes 0) + length (writes_of seed c writes 1) + length (writes_of seed c writes 2) + length (writes_of seed c writes 3) ≡ writes
unfolding all_writes
writes_split seed c writes = split_writes c (word_at seed c) (range_with_len 1 writes) ∙ length-range_with_len 1 writes

at_most_one : (b : Bool) → (if b then 1 else 0) ≤ 1
at_most_one true = omega arith
at_most_one false = omega arith

more_times : (n w : ℕ) → suc n * w ≡ n * w + w
more_times n w = suc-mul n w

module _ (seed writes : ℕ) where
  abbrev turns : ℕ → ℕ → ℕ → ℕ
  turns from n v = length (flat_map (λ c. writes_of seed c writes v) (range_with_len from n))

  turns_split : (from n : ℕ) → turns from n 0 + turns from n 1 + turns from n 2 + turns from n 3 ≡ n * writes
  turns_split from zero = omega arith
  turns_split from (suc n) =
      let more = turns_split (from + 1) n in
      let here = writes_split seed from writes in
      let len = λ (v : ℕ). length-append (writes_of seed from writes v) (flat_map (λ c. writes_of seed c writes v) (range_with_len (from + 1) n)) in
      let one : suc n * writes ≡ n * writes + writes = more_times n writes in
      omega (arith, more, here, len 0, len 1, len 2, len 3, one)

  pub turns_add_up : (clients : ℕ) → length (in_turn seed clients writes 0) + length (in_turn seed clients writes 1) + length (in_turn seed clients writes 2) + length (in_turn seed clients writes 3) ≡ clients * writes
  turns_add_up clients = turns_split 0 clients

  no_more_than : (c v : ℕ) (word : ℕ → ℕ) (is : List ℕ) → writes_in (map (λ i. aimed c (word i) i) is) v ≤ length is
  no_more_than c v word [] = omega arith
  no_more_than c v word (i ∷ is) =
      let more = no_more_than c v word is in
      let here = in_longer (aimed c (word i) i) (map (λ i. aimed c (word i) i) is) v in
      let one = at_most_one (vb_of_word (word i) == v) in
      omega (arith, more, here, one)

  of_one : (c v : ℕ) → length (writes_of seed c writes v) ≤ writes
  unfolding all_writes
  of_one c v = let a = no_more_than c v (word_at seed c) (range_with_len 1 writes) in let b = length-range_with_len 1 writes in omega (arith, a, b)

  of_turns : (v from n : ℕ) → turns from n v ≤ n * writes
  of_turns v from zero = omega arith
  of_turns v from (suc n) =
      let len = length-append (writes_of seed from writes v) (flat_map (λ c. writes_of seed c writes v) (range_with_len (from + 1) n)) in
      let one : suc n * writes ≡ n * writes + writes = more_times n writes in
      omega (arith, len, one, of_one from v, of_turns v (from + 1) n)

  pub of_all : (clients v : ℕ) → length (in_turn seed clients writes v) ≤ clients * writes
  of_all clients v = of_turns v 0 clients
