-- the lengths of keys and values
use Rattle.std.specs.Prelude.{ℕ, ◌≤◌, List, length, ◌&&◌, nat_le, if◌then◌else◌, Option, Some, None}
use Rattle.vb_types.specs.declared.key.TheConstants.{MAX_KEY, MAX_VALUE}

-- 1 to 250 bytes
abbrev pub IsKey : List ℕ → Type 0
IsKey bytes = (1 ≤ length bytes) × (length bytes ≤ MAX_KEY)

-- at most 20,971,520 bytes
abbrev pub IsValue : List ℕ → Type 0
IsValue bytes = length bytes ≤ MAX_VALUE

-- the key of these bytes, if they are as many as a key has
abbrev pub key_of : List ℕ → Option (List ℕ)
key_of bytes = if nat_le 1 (length bytes) && nat_le (length bytes) MAX_KEY then Some bytes else None

-- the value of these bytes, if they are not too many
abbrev pub value_of : List ℕ → Option (List ℕ)
value_of bytes = if nat_le (length bytes) MAX_VALUE then Some bytes else None
