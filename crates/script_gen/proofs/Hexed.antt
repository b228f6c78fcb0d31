-- requests in hexadecimal digits
use Rattle.std.proofs.Common.{◌≡◌, ℕ, zero, suc, ◌+◌, ◌*◌, ◌/◌, ◌%◌, ◌^◌, ◌<◌, ◌≤◌, Bool, true, List, [], ◌∷◌, ◌++◌, length, refl, ap, sym, ◌∙◌, inl, inr, append-nil, arith}
use Rattle.std.specs.Prelude.{◌==◌, ◌&&◌, nat_le, slice_index, codes, decimal}
use Rattle.std.specs.Int.{w16, w32, w64, to_be_bytes}
use Rattle.std.specs.List.{flat_map}
use Rattle.std.specs.Str.{all_ascii_digits}
use Rattle.std.proofs.lemmas.Bool.{and_parts, eqb-true, leb-true, cases_lt}
use Rattle.std.proofs.lemmas.Fmt.{digits_decimal}
use Rattle.std.proofs.Math.Nat.{div-div-eq-div-mul}
use Rattle.hex.specs.Hex.{encode_with, encode_lower, lower_digits}
use Rattle.mcbp_frame.specs.Spelling.{header_spelling, spelling}
use Rattle.mcbp_kv.specs.declared.opcodes.TheConstants.{SET, DELETE}
use Rattle.script_text.proofs.Decimals.{own}
use Rattle.script_gen.specs.Writes.{no_flags, plain_request}
use Rattle.script_gen.specs.Texts.{hex_number, hex_decimal, hex_key, key_length, removal_hex, stored_hex}

-- ---- parts

encode-append : (a b : List ℕ) → encode_lower (a ++ b) ≡ encode_lower a ++ encode_lower b
unfolding encode_with
encode-append [] b = refl
encode-append (x ∷ a) b = ap (λ rest. slice_index lower_digits (x / 16) ∷ slice_index lower_digits (x % 16) ∷ rest) (encode-append a b)

-- ---- numbers

-- the two digits of a byte of a number
high_digit : (n p : ℕ) → n / p % 256 / 16 ≡ n / (p * 16) % 16
high_digit n p = let same = div-div-eq-div-mul n p 16 in omega (arith, same)

low_digit : (n p : ℕ) → n / p % 256 % 16 ≡ n / p % 16
low_digit n p = omega arith

-- a hexadecimal digit
abbrev digit : ℕ → ℕ
digit d = slice_index lower_digits d

last_high : (n : ℕ) → n % 256 / 16 ≡ n / 16 % 16
last_high n = omega arith

last_low : (n : ℕ) → n % 256 % 16 ≡ n / 1 % 16
last_low n = omega arith

hex_16 : (n : ℕ) → encode_lower (to_be_bytes w16 n) ≡ hex_number 4 n
unfolding encode_with
hex_16 n = λ k. digit (high_digit n 256 k) ∷ digit (low_digit n 256 k) ∷ digit (last_high n k) ∷ digit (last_low n k) ∷ []

hex_32 : (n : ℕ) → encode_lower (to_be_bytes w32 n) ≡ hex_number 8 n
unfolding encode_with
hex_32 n = λ k.
    digit (high_digit n 16777216 k) ∷ digit (low_digit n 16777216 k)
    ∷ digit (high_digit n 65536 k) ∷ digit (low_digit n 65536 k)
    ∷ digit (high_digit n 256 k) ∷ digit (low_digit n 256 k)
    ∷ digit (last_high n k) ∷ digit (last_low n k) ∷ []

-- ---- decimals

-- the first so many digits stand at their places
abbrev in_row : ℕ → Bool
in_row zero = true
in_row (suc d) = (digit d == 48 + d) && in_row d

in_row_at : (n d : ℕ) → in_row n ≡ true → d < n → digit d ≡ 48 + d
in_row_at zero d h below = absurd (omega (arith, below))
in_row_at (suc n) d h below =
    let parts = and_parts (digit n == 48 + n) (in_row n) h in
    elim (cases_lt d n) [
      | inl less ↦ in_row_at n d parts.1 less
      | inr most ↦ let same : d ≡ n = omega (arith, below, most) in rw same (eqb-true (digit n) (48 + n) parts.0)
    ]

-- the code of a decimal's digit: a 3, and the digit
digit_hex : (c : ℕ) → 48 ≤ c → c ≤ 57 → encode_lower (c ∷ []) ≡ 51 ∷ c ∷ []
unfolding encode_with
digit_hex c least most =
    let high : c / 16 ≡ 3 = omega (arith, least, most) in
    let low : digit (c % 16) ≡ 48 + c % 16 = in_row_at 10 (c % 16) refl (omega (arith, least, most)) in
    let same : 48 + c % 16 ≡ c = omega (arith, least, most) in
    λ k. digit (high k) ∷ (low ∙ same) k ∷ []

digits_hex : (ds : List ℕ) → all_ascii_digits ds ≡ true → encode_lower ds ≡ flat_map (λ d. codes "3" ++ d ∷ []) ds
unfolding encode_with
digits_hex [] h = refl
digits_hex (d ∷ ds) h =
    let parts = and_parts (nat_le 48 d && nat_le d 57) (all_ascii_digits ds) h in
    let range = and_parts (nat_le 48 d) (nat_le d 57) parts.0 in
    encode-append (d ∷ []) ds
    ∙ (λ k. digit_hex d (leb-true 48 d range.0) (leb-true d 57 range.1) k ++ digits_hex ds parts.1 k)

hex_of_decimal : (n : ℕ) → n < 2 ^ 64 → encode_lower (decimal n) ≡ hex_decimal n
hex_of_decimal n small = digits_hex (decimal n) (digits_decimal own n small)

hex_of_key : (n : ℕ) → n < 2 ^ 64 → encode_lower (codes "k" ++ decimal n) ≡ hex_key n
unfolding encode_with
hex_of_key n small = encode-append (codes "k") (decimal n) ∙ ap (λ text. codes "6b" ++ text) (hex_of_decimal n small)

-- ---- requests

joined : (a b x y : List ℕ) → encode_lower a ≡ x → encode_lower b ≡ y → encode_lower (a ++ b) ≡ x ++ y
joined a b x y e f = encode-append a b ∙ (λ k. e k ++ f k)

-- the header of a request
hex_header : (opcode i key_len extras_len body : ℕ)
    → encode_lower (128 ∷ opcode ∷ [] ++ to_be_bytes w16 key_len ++ extras_len ∷ 0 ∷ [] ++ to_be_bytes w16 0 ++ to_be_bytes w32 body ++ to_be_bytes w32 i ++ to_be_bytes w64 0)
    ≡ encode_lower (128 ∷ opcode ∷ []) ++ hex_number 4 key_len ++ encode_lower (extras_len ∷ 0 ∷ []) ++ codes "0000" ++ hex_number 8 body ++ hex_number 8 i
    ++ codes "0000000000000000"
unfolding encode_with
hex_header opcode i key_len extras_len body =
    let a = 128 ∷ opcode ∷ [] in
    let b = a ++ to_be_bytes w16 key_len in
    let c = b ++ extras_len ∷ 0 ∷ [] in
    let d = c ++ to_be_bytes w16 0 in
    let e = d ++ to_be_bytes w32 body in
    let with_key = joined a (to_be_bytes w16 key_len) (encode_lower a) (hex_number 4 key_len) refl (hex_16 key_len) in
    let with_vb = joined c (to_be_bytes w16 0) _ (codes "0000") (joined b (extras_len ∷ 0 ∷ []) _ (encode_lower (extras_len ∷ 0 ∷ [])) with_key refl) refl in
    joined (e ++ to_be_bytes w32 i) (to_be_bytes w64 0) _ (codes "0000000000000000")
    (joined e (to_be_bytes w32 i) _ (hex_number 8 i) (joined d (to_be_bytes w32 body) _ (hex_number 8 body) with_vb (hex_32 body)) (hex_32 i)) refl

hex_request : (opcode i : ℕ) (extras key value head x k v : List ℕ)
    → encode_lower (header_spelling (plain_request opcode i extras key value)) ≡ head → encode_lower extras ≡ x → encode_lower key ≡ k → encode_lower value ≡ v
    → encode_lower (spelling (plain_request opcode i extras key value)) ≡ head ++ x ++ k ++ v
unfolding spelling
hex_request opcode i extras key value head x k v h ex ek ev =
    let front = header_spelling (plain_request opcode i extras key value) in
    joined ((front ++ [] ++ extras) ++ key) value (head ++ x ++ k) v
    (joined (front ++ [] ++ extras) key (head ++ x) k (joined (front ++ []) extras head x (ap encode_lower (append-nil front) ∙ h) ex) ek) ev

-- of both kinds
pub hex_removal : (i n : ℕ) → n < 2 ^ 64 → removal_hex i n ≡ encode_lower (spelling (plain_request DELETE i [] (codes "k" ++ decimal n) []))
unfolding encode_with
hex_removal i n small =
    let key : length (codes "k" ++ decimal n) ≡ key_length n = omega arith in
    let body : 0 + 0 + length (codes "k" ++ decimal n) + 0 ≡ key_length n = omega arith in
    let head = codes "8004" ++ hex_number 4 (key_length n) ++ codes "0000" ++ codes "0000" ++ hex_number 8 (key_length n) ++ hex_number 8 i ++ codes "0000000000000000" in
    sym (hex_request DELETE i [] (codes "k" ++ decimal n) [] head [] (hex_key n) []
    (hex_header DELETE i (length (codes "k" ++ decimal n)) 0 (0 + 0 + length (codes "k" ++ decimal n) + 0)
    ∙ (λ k. codes "8004" ++ hex_number 4 (key k) ++ codes "0000" ++ codes "0000" ++ hex_number 8 (body k) ++ hex_number 8 i ++ codes "0000000000000000"))
    refl (hex_of_key n small) refl
    ∙ append-nil ((head ++ []) ++ hex_key n) ∙ ap (λ text. text ++ hex_key n) (append-nil head))

pub hex_stored : (i n : ℕ) → i < 2 ^ 64 → n < 2 ^ 64 → stored_hex i n ≡ encode_lower (spelling (plain_request SET i no_flags (codes "k" ++ decimal n) (decimal i)))
unfolding encode_with
hex_stored i n value_small key_small =
    let key : length (codes "k" ++ decimal n) ≡ key_length n = omega arith in
    let body : 0 + 8 + length (codes "k" ++ decimal n) + length (decimal i) ≡ 8 + key_length n + length (decimal i) = omega arith in
    let head = codes "8001" ++ hex_number 4 (key_length n) ++ codes "0800" ++ codes "0000" ++ hex_number 8 (8 + key_length n + length (decimal i)) ++ hex_number 8 i ++ codes "0000000000000000" in
    sym (hex_request SET i no_flags (codes "k" ++ decimal n) (decimal i) head (codes "0000000000000000") (hex_key n) (hex_decimal i)
    (hex_header SET i (length (codes "k" ++ decimal n)) 8 (0 + 8 + length (codes "k" ++ decimal n) + length (decimal i))
    ∙ (λ k. codes "8001" ++ hex_number 4 (key k) ++ codes "0800" ++ codes "0000" ++ hex_number 8 (body k) ++ hex_number 8 i ++ codes "0000000000000000"))
    refl (hex_of_key n key_small) (hex_of_decimal i value_small))
