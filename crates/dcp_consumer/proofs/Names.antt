-- the lengths of nodes' names and of numbers
use Rattle.std.proofs.Common.{ℕ, ◌<◌, ◌≤◌, ◌^◌, ◌≡◌, ◌∷◌, [], refl, length, arith}
use Rattle.std.specs.Prelude.{decimal}
use Rattle.std.specs.Fmt.{digits}
use Rattle.std.proofs.lemmas.Fmt.{length-decimal-le}
use Rattle.dcp_consumer.specs.Dialing.{member_name}

-- a name has at most 4 bytes
pub short_name : (node : ℕ) → node < 2 ^ 8 → length (member_name node) ≤ 4
short_name node small =
    let digits = length-decimal-le 3 node (omega arith) (omega arith) (omega arith) in omega (arith, digits)

-- a buffer has at most ten digits
pub short_number : (buffer : ℕ) → buffer < 2 ^ 32 → length (decimal buffer) ≤ 10
short_number buffer small = length-decimal-le 10 buffer (omega arith) (omega arith) (omega arith)

pub few : member_name 3 ≡ 0x6e ∷ 0x33 ∷ []
unfolding digits
few = refl

pub many : member_name 15 ≡ 0x6e ∷ 0x31 ∷ 0x35 ∷ []
unfolding digits
many = refl
