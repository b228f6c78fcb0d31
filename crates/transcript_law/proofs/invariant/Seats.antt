-- vBuckets of nodes as the members of one cluster, by one number each
use Rattle.std.specs.Prelude.{◌≡◌, ◌+◌, ◌<◌, ◌≤◌}
use Rattle.transcript_law.proofs.Words.{ℕ, Bool, true, false, refl, ap, arith, nat_lt, ltb-true, ltb-false}
use Rattle.{std.proofs.Math.Nat.{add-mul, mul-add}, std.proofs.lemmas.Nat.{mul-le}, std.specs.Prelude.{◌*◌}}

-- the number of the vBucket v of the node n among all
abbrev pub seat : ℕ → ℕ → ℕ
seat n v = (n + v) * (n + v) + n

-- squares are further apart than the smaller root
squares : (s t : ℕ) → s < t → s * s + s < t * t
squares s t l =
    let more : (s + 1) * (s + 1) ≤ t * t = mul-le (s + 1) (s + 1) t t (omega arith) (omega arith) in
    let first : (s + 1) * (s + 1) ≡ s * (s + 1) + 1 * (s + 1) = add-mul s 1 (s + 1) in
    let second : s * (s + 1) ≡ s * s + s * 1 = mul-add s s 1 in omega arith

-- no two vBuckets have one number
pub seat_one : (n v m q : ℕ) → seat n v ≡ seat m q → (n ≡ m) × (v ≡ q)
seat_one n v m q e = by (nat_lt (n + v) (m + q)) (nat_lt (m + q) (n + v)) refl refl
  where
    by : (a b : Bool) → nat_lt (n + v) (m + q) ≡ a → nat_lt (m + q) (n + v) ≡ b → (n ≡ m) × (v ≡ q)
    by true b less _ = let apart = squares (n + v) (m + q) (ltb-true (n + v) (m + q) less) in absurd (omega arith)
    by false true _ more = let apart = squares (m + q) (n + v) (ltb-true (m + q) (n + v) more) in absurd (omega arith)
    by false false low high =
        let not_less : m + q ≤ n + v = ltb-false (n + v) (m + q) low in let not_more : n + v ≤ m + q = ltb-false (m + q) (n + v) high in
        let same : n + v ≡ m + q = omega arith in let squared : (n + v) * (n + v) ≡ (m + q) * (m + q) = ap (λ x. x * x) same in
        (omega arith, omega arith)

-- two vBuckets have two numbers
pub seats_apart : (m q n v : ℕ) → (m ≡ n → q ≡ v → ⊥) → seat m q ≡ seat n v → ⊥
seats_apart m q n v other e = let p = seat_one m q n v e in other p.0 p.1
