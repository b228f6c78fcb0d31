-- the digits of the bytes that a client sends
use Rattle.std.specs.Prelude.{ℕ, ◌≡◌, ◌%◌, ◌&&◌, Bool, true, List, length}
use Rattle.std.specs.List.{AllPass, fold}
use Rattle.hex.specs.Hex.{is_hex_digit}

-- each is a hexadecimal digit, in either case
abbrev pub are_digits : List ℕ → Bool
are_digits text = fold (λ digits b. digits && is_hex_digit b) true text

-- a text of digits, two a byte
pub record AreHex (text : List ℕ) : Type 0 where
  pub even : length text % 2 ≡ 0
  pub digits : AllPass is_hex_digit text
