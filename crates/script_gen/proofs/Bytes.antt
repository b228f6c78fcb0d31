-- writes are bytes, and their hexadecimal digits say them
use Rattle.std.proofs.Common.{◌≡◌, ℕ, ◌/◌, ◌%◌, ◌^◌, ◌<◌, Bool, true, false, List, [], ◌++◌, length, ap, sym, ◌∙◌, arith}
use Rattle.std.specs.Prelude.{◌==◌, if◌then◌else◌, not, codes, decimal}
use Rattle.std.specs.List.{list_all}
use Rattle.std.proofs.lemmas.Bool.{ne_eqb}
use Rattle.std.proofs.lemmas.Fmt.{IsAscii-decimal}
use Rattle.std.proofs.lemmas.List.Elements.{All-append, All-cons, All-nil, All-weaker, All-from_recursion}
use Rattle.std.proofs.lemmas.List.Sums.{list_all-from_AllPass}
use Rattle.std.proofs.lemmas.Str.Ascii.{All-from_ascii}
use Rattle.hex.specs.Hex.{encode_lower, lower_digits, decode_of, is_hex_digit}
use Rattle.hex.proofs.HexLemmas.{length-encode_with, decode_of-encode_lower}
use Rattle.mcbp_frame.specs.Spelling.{header_spelling, spelling}
use Rattle.mcbp_frame.specs.Streams.{AreBytes}
use Rattle.mcbp_frame.proofs.Cases.{length-spelling}
use Rattle.mcbp_kv.specs.declared.opcodes.TheConstants.{SET, DELETE}
use Rattle.mcbp_kv.proofs.Chosen.{small}
use Rattle.script_text.specs.Sayings.{IsHexOf}
use Rattle.script_text.proofs.Spelled.{hex_said}
use Rattle.script_gen.specs.Writes.{is_removal, no_flags, plain_request, write_request}
use Rattle.script_gen.specs.Texts.{removal_hex, stored_hex}
use Rattle.script_gen.proofs.Hexed.{hex_removal, hex_stored}

abbrev IsByte : ℕ → Type 0
IsByte b = b < 256

both : (a b : List ℕ) → AreBytes a → AreBytes b → AreBytes (a ++ b)
both a b = All-append IsByte a b

decimal_bytes : (n : ℕ) → n < 2 ^ 64 → AreBytes (decimal n)
decimal_bytes n low = All-weaker (λ b. b < 128) IsByte (λ b h. omega (arith, h)) (decimal n) (All-from_ascii (decimal n) (IsAscii-decimal n low))

-- a request's bytes
header_bytes : (opcode i : ℕ) (extras key value : List ℕ) → opcode < 256 → length extras < 256 → AreBytes (header_spelling (plain_request opcode i extras key value))
header_bytes opcode i extras key value o l = All-from_recursion IsByte (header_spelling (plain_request opcode i extras key value)) (search arith)

request_bytes : (opcode i : ℕ) (extras key value : List ℕ) → opcode < 256 → length extras < 256 → AreBytes extras → AreBytes key → AreBytes value
    → AreBytes (spelling (plain_request opcode i extras key value))
unfolding spelling
request_bytes opcode i extras key value o l x k v =
    let front = header_spelling (plain_request opcode i extras key value) ++ [] in
    let head : AreBytes front = both (header_spelling (plain_request opcode i extras key value)) [] (header_bytes opcode i extras key value o l) (All-nil IsByte) in
    both ((front ++ extras) ++ key) value (both (front ++ extras) key (both front extras head x) k) v

key_bytes : (n : ℕ) → n < 2 ^ 64 → AreBytes (codes "k" ++ decimal n)
key_bytes n low = All-cons IsByte 107 (decimal n) (omega arith) (decimal_bytes n low)

-- write i, of both kinds
bytes_by : (t : Bool) (i n : ℕ) → i < 2 ^ 32 → n < 2 ^ 64
    → AreBytes (spelling (if t then plain_request DELETE i [] (codes "k" ++ decimal n) [] else plain_request SET i no_flags (codes "k" ++ decimal n) (decimal i)))
bytes_by true i n small low = request_bytes DELETE i [] (codes "k" ++ decimal n) [] (omega arith) (omega arith) (All-nil IsByte) (key_bytes n low) (All-nil IsByte)
bytes_by false i n small low =
    request_bytes SET i no_flags (codes "k" ++ decimal n) (decimal i) (omega arith) (omega arith) (All-from_recursion IsByte no_flags (search arith)) (key_bytes n low)
    (decimal_bytes i (omega (arith, small)))

pub write_bytes : (i x : ℕ) → i < 2 ^ 32 → AreBytes (spelling (write_request i x))
write_bytes i x small = bytes_by (is_removal x) i (x / 2 ^ 40 % 1000) small (omega arith)

hex_by : (t : Bool) (i n : ℕ) → i < 2 ^ 32 → n < 2 ^ 64
    → (if t then removal_hex i n else stored_hex i n)
    ≡ encode_lower (spelling (if t then plain_request DELETE i [] (codes "k" ++ decimal n) [] else plain_request SET i no_flags (codes "k" ++ decimal n) (decimal i)))
hex_by true i n small low = hex_removal i n low
hex_by false i n small low = hex_stored i n (omega (arith, small)) low

-- write i in hexadecimal digits
unfoldable pub hex_of_write : ℕ → ℕ → List ℕ
hex_of_write i x = if is_removal x then removal_hex i (x / 2 ^ 40 % 1000) else stored_hex i (x / 2 ^ 40 % 1000)

-- they say it
pub write_hex : (i x : ℕ) → i < 2 ^ 32 → IsHexOf (hex_of_write i x) (spelling (write_request i x))
unfolding hex_of_write
write_hex i x small_i =
    let bytes = spelling (write_request i x) in
    let is : hex_of_write i x ≡ encode_lower bytes = hex_by (is_removal x) i (x / 2 ^ 40 % 1000) small_i (omega arith) in
    let long = length-encode_with lower_digits bytes in
    let some = length-spelling (write_request i x) in
    record { some = rw is (omega (arith, long, some)); digits = ap decode_of is ∙ decode_of-encode_lower bytes (small bytes (write_bytes i x small_i)) }

-- and no newline is among them
no_newline : (c : ℕ) → is_hex_digit c ≡ true → not (c == 10) ≡ true
no_newline c h = ap not (ne_eqb c 10 (λ e. let never : is_hex_digit 10 ≡ true = sym (ap is_hex_digit e) ∙ h in cc))

pub hex_plain : (text bytes : List ℕ) → IsHexOf text bytes → list_all (λ b. not (b == 10)) text ≡ true
hex_plain text bytes h =
    list_all-from_AllPass (λ b. not (b == 10)) text
    (All-weaker (λ c. is_hex_digit c ≡ true) (λ c. not (c == 10) ≡ true) no_newline text ((hex_said text).0 (bytes, h)).2)
