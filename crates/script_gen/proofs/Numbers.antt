-- how long the decimals of a write are
use Rattle.std.proofs.Common.{ℕ, ◌<◌, ◌≤◌, ◌^◌, ◌%◌, length, arith}
use Rattle.std.specs.Prelude.{decimal}
use Rattle.std.proofs.lemmas.Fmt.{length-decimal-le}

-- write i has at most ten digits
pub short_value : (i : ℕ) → i < 2 ^ 32 → length (decimal i) ≤ 10
short_value i small = length-decimal-le 10 i (omega arith) (omega arith) (omega arith)

-- and a key at most three
pub short_key : (n : ℕ) → length (decimal (n % 1000)) ≤ 3
short_key n = length-decimal-le 3 (n % 1000) (omega arith) (omega arith) (omega arith)
