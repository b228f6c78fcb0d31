use Rattle.std.proofs.Common.{◌≡◌, ◌*◌, ◌<◌, List, ℕ, [], ◌∷◌, length, ap, ◌∙◌, arith}
use Rattle.hex.specs.Hex.{IsBytes, lower_digits, encode_lower, decode_of}
use Rattle.hex.proofs.HexLemmas.{length-encode_with, decode_of-encode_lower}
use Rattle.script_text.specs.Sayings.{IsHexOf}
use Rattle.script_text.specs.Transcript.{hex_text}
use Rattle.script_text.proofs.Spelled.{hex_said}
use Rattle.script_text.proofs.Fields.{some_hex}
use Rattle.script_text.proofs.laws.bytes_are_digits.Goals as goal

-- the digits in which bytes are shown say them
hex_shown : (bytes : List ℕ) → IsBytes bytes → 0 < length bytes → IsHexOf (hex_text bytes) bytes
hex_shown [] h some = absurd (omega arith)
hex_shown (b ∷ bytes) h some =
    let as_many : length (encode_lower (b ∷ bytes)) ≡ 2 * length (b ∷ bytes) = length-encode_with lower_digits (b ∷ bytes) in
    let text = some_hex b bytes in
    record { some = rw text (omega (arith, as_many)); digits = ap decode_of text ∙ decode_of-encode_lower (b ∷ bytes) h }

pub returns : goal.returns
returns c = record { said = hex_said; shown = hex_shown }
