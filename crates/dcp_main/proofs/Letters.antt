-- the words of the command line, letter by letter
use Rattle.std.proofs.Common.{◌≡◌, ℕ, ◌<◌, ◌≤◌, Option, Some, None, refl, ap, ◌∙◌, arith}
use Rattle.std.specs.Prelude.{◌↔◌, ◌&&◌, if◌then◌else◌, nat_le, List, [], ◌∷◌, Bool, true, false, codes, decimal}
use Rattle.std.proofs.lemmas.Bool.{leb-true, le-leb}
use Rattle.std.proofs.lemmas.Option.{same_Some}
use Rattle.std.specs.Str.{bytes_eq}
use Rattle.std.proofs.lemmas.Slice.Eq.{bytes_eq-Decides}
use Rattle.script_text.specs.Numbers.{number_of}
use Rattle.script_text.proofs.Decimals.{decimal-number_of, number_of-decimal}
use Rattle.dcp_main.specs.declared.words.TheConstants.{MAX_COUNT}
use Rattle.dcp_main.specs.Words.{says_run, gen_words, both_said, if_count}

run_alone : (words : List (List ℕ)) → says_run words ≡ true → words ≡ (114 ∷ 117 ∷ 110 ∷ []) ∷ []
run_alone [] said = cc
run_alone (word ∷ []) said = ap (λ it. it ∷ []) ((bytes_eq-Decides word (codes "run")).0 said)
run_alone (word ∷ next ∷ words) said = cc

pub letters_run : (words : List (List ℕ)) → (says_run words ≡ true) ↔ (words ≡ (114 ∷ 117 ∷ 110 ∷ []) ∷ [])
letters_run words = (run_alone words, λ same. ap says_run same)

-- ---- a seed and a count

-- a count that was taken is the one that was said, and within its range
pub record Counted (said : Option ℕ) (count : ℕ) : Type 0 where
  pub is : said ≡ Some count
  pub low : 1 ≤ count
  pub high : count ≤ MAX_COUNT

ranged : (n count : ℕ) (low high : Bool) → nat_le 1 n ≡ low → nat_le n MAX_COUNT ≡ high → (if low && high then Some n else None) ≡ Some count → Counted (Some n) count
ranged n count true true l h e =
    let same = same_Some n count e in
    record { is = e; low = omega (arith, leb-true 1 n l, same); high = omega (arith, leb-true n MAX_COUNT h, same) }
ranged n count true false l h e = absurd (cc e)
ranged n count false high l h e = absurd (cc e)

counted : (said : Option ℕ) (count : ℕ) → if_count said ≡ Some count → Counted said count
counted None count e = absurd (cc e)
counted (Some n) count e = ranged n count (nat_le 1 n) (nat_le n MAX_COUNT) refl refl e

pub record Seeded (t : Bool) (a b : Option ℕ) (seed count : ℕ) : Type 0 where
  pub gen : t ≡ true
  pub seed_is : a ≡ Some seed
  pub count_is : b ≡ Some count

seeded : (t : Bool) (a b : Option ℕ) (seed count : ℕ) → (if t then both_said a b else None) ≡ Some (seed, count) → Seeded t a b seed count
seeded false a b seed count e = absurd (cc e)
seeded true None b seed count e = absurd (cc e)
seeded true (Some n) None seed count e = absurd (cc e)
seeded true (Some n) (Some m) seed count e =
    let same = same_Some (n, m) (seed, count) e in
    record { gen = refl; seed_is = ap (λ (p : ℕ × ℕ). Some p.0) same; count_is = ap (λ (p : ℕ × ℕ). Some p.1) same }

abbrev AsksMade : List (List ℕ) → ℕ → ℕ → Type 0
AsksMade words seed count =
    (words ≡ (103 ∷ 101 ∷ 110 ∷ []) ∷ decimal seed ∷ decimal count ∷ []) × (seed < 18446744073709551616) × (1 ≤ count) × (count ≤ 100000)

made_said : (words : List (List ℕ)) (seed count : ℕ) → gen_words words ≡ Some (seed, count) → AsksMade words seed count
made_said [] seed count e = absurd (cc e)
made_said (word ∷ []) seed count e = absurd (cc e)
made_said (word ∷ a ∷ []) seed count e = absurd (cc e)
made_said (word ∷ a ∷ b ∷ []) seed count e =
    let parts = seeded (bytes_eq word (codes "gen")) (number_of a) (if_count (number_of b)) seed count e in
    let last = counted (number_of b) count parts.count_is in
    let gen = (bytes_eq-Decides word (codes "gen")).0 parts.gen in
    let first = decimal-number_of a seed parts.seed_is in
    let second = decimal-number_of b count last.is in
    let x = first.0 in
    let y = second.0 in
    let is : word ∷ a ∷ b ∷ [] ≡ (103 ∷ 101 ∷ 110 ∷ []) ∷ decimal seed ∷ decimal count ∷ [] = λ i. gen i ∷ x i ∷ y i ∷ [] in
    (is, first.1, last.low, last.high)
made_said (word ∷ a ∷ b ∷ next ∷ words) seed count e = absurd (cc e)

made_asked : (words : List (List ℕ)) (seed count : ℕ) → AsksMade words seed count → gen_words words ≡ Some (seed, count)
made_asked words seed count asks =
    let a = number_of-decimal seed asks.1 in
    let b = number_of-decimal count (omega (arith, asks.3)) in
    ap gen_words asks.0
    ∙ (λ i. both_said (a i) (if_count (b i)))
    ∙ ap (λ t. both_said (Some seed) (if t && nat_le count MAX_COUNT then Some count else None)) (le-leb 1 count asks.2)
    ∙ ap (λ t. both_said (Some seed) (if t then Some count else None)) (le-leb count MAX_COUNT asks.3)

pub letters_made : (words : List (List ℕ)) (seed count : ℕ) → (gen_words words ≡ Some (seed, count)) ↔ AsksMade words seed count
letters_made words seed count = (made_said words seed count, made_asked words seed count)

pub letters_one : (words : List (List ℕ)) → says_run words ≡ true → gen_words words ≡ None
letters_one [] said = refl
letters_one (word ∷ []) said = refl
letters_one (word ∷ next ∷ words) said = absurd (cc said)
