use Rattle.std.proofs.Common.{◌≡◌, ◌+◌, ◌-◌, ◌^◌, ◌<◌, ℕ, List, [], length, subst, sym, ap, arith}
use Rattle.std.specs.List.{Contains}
use Rattle.vb_disk.specs.Listed.{raised}
use Rattle.vb_disk.proofs.laws.listed_calls_fail.Goals as goal

one_more : (count : ℕ) → count < 2 ^ 64 - 1 → raised count ≡ count + 1
one_more count below = omega (arith, below)

none_listed : (fail : List ℕ) (n : ℕ) → fail ≡ [] → Contains fail n → ⊥
none_listed fail n e (k, below, at) = omega (arith, below, ap length e)

pub returns : goal.returns
returns c = record {
  numbered = λ d below fails. subst (Contains d.fail) (one_more d.calls below) fails;
  listed = λ d below listed. subst (Contains d.fail) (sym (one_more d.calls below)) listed;
  none = λ d e. none_listed d.fail (raised d.calls) e;
}
