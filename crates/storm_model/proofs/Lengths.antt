-- keys and values of a storm are not too long
use Rattle.std.proofs.Common.{◌≡◌, ℕ, suc, ◌+◌, ◌%◌, ◌<◌, ◌≤◌, ◌^◌, Bool, true, false, List, ◌∷◌, length, refl, arith, length-append}
use Rattle.std.specs.Prelude.{Option, Some, None, decimal, nat_le, ◌&&◌, if◌then◌else◌}
use Rattle.std.proofs.lemmas.Fmt.{length-decimal-le}
use Rattle.std.proofs.lemmas.Bool.Decides.{nat_tests}
use Rattle.vb_types.specs.Limits.{IsKey, IsValue, key_of, value_of}
use Rattle.storm_model.specs.Writes.{client_key, client_name}

key_by : (bytes : List ℕ) (n : ℕ) (t u : Bool) → nat_le 1 n ≡ t → nat_le n 250 ≡ u → 1 ≤ n → n ≤ 250 → ◌≡◌ {A = Option (List ℕ)} (if t && u then Some bytes else None) (Some bytes)
key_by bytes n true true e f low high = refl
key_by bytes n true false e f low high = absurd (grind (arith, nat_tests))
key_by bytes n false u e f low high = absurd (grind (arith, nat_tests))

pub key_is : (bytes : List ℕ) → IsKey bytes → key_of bytes ≡ Some bytes
key_is bytes k = key_by bytes (length bytes) (nat_le 1 (length bytes)) (nat_le (length bytes) 250) refl refl k.0 k.1

value_by : (bytes : List ℕ) (n : ℕ) (t : Bool) → nat_le n 20971520 ≡ t → n ≤ 20971520 → ◌≡◌ {A = Option (List ℕ)} (if t then Some bytes else None) (Some bytes)
value_by bytes n true e high = refl
value_by bytes n false e high = absurd (grind (arith, nat_tests))

pub value_is : (bytes : List ℕ) → IsValue bytes → value_of bytes ≡ Some bytes
value_is bytes k = value_by bytes (length bytes) (nat_le (length bytes) 20971520) refl k

pub short_key : (c n : ℕ) → c < 2 ^ 32 → IsKey (client_key c (n % 100))
short_key c n small =
    let a = length-decimal-le 10 c (omega arith) (omega arith) (omega arith) in
    let b = length-decimal-le 2 (n % 100) (omega arith) (omega arith) (omega arith) in
    let all : length (client_key c (n % 100)) ≡ suc (length (decimal c)) + suc (length (decimal (n % 100))) = length-append (client_name c) (107 ∷ decimal (n % 100)) in
    (omega arith, omega arith)

pub short_value : (i : ℕ) → i < 2 ^ 32 → IsValue (decimal i)
short_value i small = let a = length-decimal-le 10 i (omega arith) (omega arith) (omega arith) in omega arith
