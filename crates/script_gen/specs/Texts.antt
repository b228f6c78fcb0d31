-- the text of a generated script, spelled by decimals and hexadecimal digits alone
use Rattle.std.specs.Prelude.{ℕ, zero, suc, ◌+◌, ◌/◌, ◌%◌, ◌^◌, ◌==◌, ◌||◌, if◌then◌else◌, List, [], ◌∷◌, ◌++◌, length, slice_index, codes, decimal}
use Rattle.std.specs.List.{flat_map}
use Rattle.script_text.specs.Lines.{ended}
use Rattle.script_gen.specs.Writes.{stepped}

-- the word of write i: the seed, stepped so many times
abbrev pub word_at : ℕ → ℕ → ℕ
word_at seed zero = seed
word_at seed (suc i) = stepped (word_at seed i)

-- the lowest so many hexadecimal digits of a number
abbrev pub hex_number : ℕ → ℕ → List ℕ
hex_number zero n = []
hex_number (suc k) n = slice_index (codes "0123456789abcdef") (n / 16 ^ k % 16) ∷ hex_number k n

-- a decimal as bytes in hexadecimal digits: for each digit a 3, and the digit
abbrev pub hex_decimal : ℕ → List ℕ
hex_decimal n = flat_map (λ digit. codes "3" ++ digit ∷ []) (decimal n)

-- the length of the key k and n
abbrev pub key_length : ℕ → ℕ
key_length n = 1 + length (decimal n)

-- the key k and n in hexadecimal digits
abbrev pub hex_key : ℕ → List ℕ
hex_key n = codes "6b" ++ hex_decimal n

-- DELETE of the key k and n: magic and opcode, the key's length, no extras, vBucket 0, the body's length, the opaque i, no CAS, and the key
abbrev pub removal_hex : ℕ → ℕ → List ℕ
removal_hex i n =
    codes "8004" ++ hex_number 4 (key_length n) ++ codes "0000" ++ codes "0000" ++ hex_number 8 (key_length n) ++ hex_number 8 i
    ++ codes "0000000000000000" ++ hex_key n

-- SET of the key k and n to the decimal of i: likewise, with flags and expiration 0 as extras
abbrev pub stored_hex : ℕ → ℕ → List ℕ
stored_hex i n =
    codes "8001" ++ hex_number 4 (key_length n) ++ codes "0800" ++ codes "0000" ++ hex_number 8 (8 + key_length n + length (decimal i)) ++ hex_number 8 i
    ++ codes "0000000000000000" ++ codes "0000000000000000" ++ hex_key n ++ hex_decimal i

-- the line of write i, of the word x
abbrev pub write_line : ℕ → ℕ → List ℕ
write_line i x = codes "bytes 0 1 " ++ (if x / 2 ^ 33 % 8 == 0 then removal_hex i (x / 2 ^ 40 % 1000) else stored_hex i (x / 2 ^ 40 % 1000))

-- the first lines
abbrev pub opening_lines : List (List ℕ)
opening_lines =
    codes "node 0"
    ∷ codes "node 1"
    ∷ codes "vb 0 0 active 1"
    ∷ codes "vb 1 0 replica"
    ∷ codes "client 0 1"
    ∷ codes "link 1 0 1 0 1000000 follow"
    ∷ codes "up 1 1000000000"
    ∷ []

-- the lines behind some writes
abbrev pub carrying_lines : List (List ℕ)
carrying_lines =
    codes "pump 1 1000000"
    ∷ codes "down 1 1000000000"
    ∷ codes "up 1 1000000000"
    ∷ codes "take 0 0"
    ∷ codes "save 0 0"
    ∷ codes "done 0 0"
    ∷ []

-- the last lines
abbrev pub closing_lines : List (List ℕ)
closing_lines = codes "show 0 0" ∷ codes "show 1 0" ∷ []

-- write i of so many, and the lines behind it: behind each 64th, and behind the last
abbrev pub lines_of_write : ℕ → ℕ → ℕ → List (List ℕ)
lines_of_write seed count i = write_line i (word_at seed i) ∷ (if i % 64 == 0 || i == count then carrying_lines else [])

-- the first n of so many writes
unfoldable pub lines_to : ℕ → ℕ → ℕ → List (List ℕ)
lines_to seed count zero = []
lines_to seed count (suc n) = lines_to seed count n ++ lines_of_write seed count (suc n)

-- the lines of the generated script of this seed and so many writes
abbrev pub gen_lines : ℕ → ℕ → List (List ℕ)
gen_lines seed count = opening_lines ++ lines_to seed count count ++ closing_lines

-- and its text
unfoldable pub gen_text : ℕ → ℕ → List ℕ
gen_text seed count = flat_map ended (gen_lines seed count)
