-- parts of a body are parts of its frame
use Rattle.std.proofs.Common.{◌≡◌, ℕ, ◌+◌, ◌≤◌, List, length, ap, ◌∙◌, arith}
use Rattle.std.specs.Prelude.{◌-◌}
use Rattle.std.specs.List.{slice_range}
use Rattle.bytes.proofs.Ranges.{slice_range-slice_range}

pub part_of : (bytes body : List ℕ) (at end a b : ℕ) → body ≡ slice_range bytes at end → at ≤ a → a ≤ b → b ≤ end → slice_range body (a - at) (b - at) ≡ slice_range bytes a b
part_of bytes body at end a b e k l m =
    let p : at + (a - at) ≡ a = omega arith in
    let q : at + (b - at) ≡ b = omega arith in
    ap (λ xs. slice_range xs (a - at) (b - at)) e ∙ slice_range-slice_range bytes at end (a - at) (b - at) (omega arith) (omega arith) ∙ ap (λ n. slice_range bytes n (at + (b - at))) p ∙ ap (slice_range bytes a) q

-- the same of what a part is
pub part_is : (bytes body part : List ℕ) (a b : ℕ) → body ≡ slice_range bytes 24 (24 + length body) → 24 ≤ a → a ≤ b → b ≤ 24 + length body → part ≡ slice_range body (a - 24) (b - 24) → part ≡ slice_range bytes a b
part_is bytes body part a b e k l m p = p ∙ part_of bytes body 24 (24 + length body) a b e k l m
