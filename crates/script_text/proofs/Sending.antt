-- a line with which a client sends bytes
use Rattle.std.proofs.Common.{◌≡◌, ◌≢◌, ℕ, ◌+◌, ◌-◌, ◌<◌, ◌%◌, Bool, true, false, List, [], ◌∷◌, length, take, drop, get_or, Option, Some, None, Result, Ok, Err, is_some, refl, sym, ap, ◌∙◌, inl, inr, arith}
use Rattle.std.specs.Prelude.{◌==◌, ◌&&◌, if◌then◌else◌, codes, option_and_then, position}
use Rattle.std.specs.List.{AllPass, fold}
use Rattle.std.specs.Option.{option_map}
use Rattle.std.specs.Str.{bytes_eq}
use Rattle.std.proofs.lemmas.Bool.{cases_Bool, cases_eq, eqb-true}
use Rattle.std.proofs.lemmas.List.Elements.{All-cons, All-get_or, All-head, All-nil, All-tail}
use Rattle.std.proofs.lemmas.List.Quantifiers.{position-Some}
use Rattle.std.proofs.lemmas.Slice.Eq.{bytes_eq-Decides}
use Rattle.hex.specs.Hex.{decode_of, is_hex_digit}
use Rattle.hex.specs.declared.error.FromHexError.{FromHexError}
use Rattle.hex.proofs.HexLemmas.{decode_of-even, decode_of-odd, decode_of-ok, decode_pairs-digits}
use Rattle.script_text.specs.Grammar.{bytes_line, hex_bytes_of, if_decoded, verb_of}
use Rattle.script_text.specs.Lines.{words_of}
use Rattle.script_text.specs.Numbers.{connection_of, node_of}
use Rattle.script_text.specs.Sent.{AreHex, are_digits}
use Rattle.script_text.proofs.Cuts.{parts_first, parts_none}
use Rattle.script_text.proofs.Rows.{first_part}
use Rattle.script_text.specs.declared.verb.Verb.TheVariants as verb
use Rattle.script_text.specs.declared.verb.ClientVerb.TheVariants as client_verb

-- ---- its words

four_said : (text word more node behind client digits : List ℕ) → words_of text ≡ word ∷ words_of more → bytes_eq word (codes "bytes") ≡ true
    → words_of more ≡ node ∷ words_of behind → words_of behind ≡ client ∷ words_of digits
    → verb_of (words_of text) ≡ verb_of (codes "bytes" ∷ node ∷ client ∷ words_of digits)
four_said text word more node behind client digits first is second third =
    ap verb_of (first ∙ ap (λ ws. word ∷ ws) (second ∙ ap (λ ws. node ∷ ws) third))
    ∙ ap (λ w. verb_of (w ∷ node ∷ client ∷ words_of digits)) ((bytes_eq-Decides word (codes "bytes")).0 is)

-- with more words it says nothing
more_said : (node client a b : List ℕ) (more : List (List ℕ)) → verb_of (codes "bytes" ∷ node ∷ client ∷ a ∷ b ∷ more) ≡ None
more_said node client a b [] = refl
more_said node client a b (c ∷ []) = refl
more_said node client a b (c ∷ d ∷ []) = refl
more_said node client a b (c ∷ d ∷ e ∷ more) = refl

none_of : (n c : Option ℕ) → option_and_then (λ n. option_and_then (λ c. option_map (λ x. verb.AtClient n c (client_verb.Bytes x)) None) c) n ≡ None
none_of None c = refl
none_of (Some n) None = refl
none_of (Some n) (Some c) = refl

none_sent : (node client : List ℕ) (bytes : Option (List ℕ)) → bytes ≡ None → bytes_line node client bytes ≡ None
none_sent node client bytes h = ap (bytes_line node client) h ∙ none_of (node_of node) (connection_of client)

abbrev IsDigit : ℕ → Type 0
IsDigit b = is_hex_digit b ≡ true

-- a space is no digit
undecoded : (r : Result (List ℕ) FromHexError) → ((bytes : List ℕ) → r ≢ Ok bytes) → if_decoded r ≡ None
undecoded (Ok bytes) h = absurd (h bytes refl)
undecoded (Err e) h = refl

read_as : (text : List ℕ) (empty : Bool) → (length text == 0) ≡ empty → hex_bytes_of text ≡ (if empty then None else if_decoded (decode_of text))
unfolding hex_bytes_of
read_as text empty h = ap (λ t. if t then None else if_decoded (decode_of text)) h

none_read : (text : List ℕ) (empty : Bool) → (length text == 0) ≡ empty → if_decoded (decode_of text) ≡ None → hex_bytes_of text ≡ None
none_read text true h e = read_as text true h
none_read text false h e = read_as text false h ∙ e

spaced_out : (text : List ℕ) (k : ℕ) → k < length text → (get_or text k 0 == 32) ≡ true → hex_bytes_of text ≡ None
spaced_out text k h space =
    let here : get_or text k 0 ≡ 32 = eqb-true (get_or text k 0) 32 space in
    none_read text (length text == 0) refl
    (undecoded (decode_of text) (λ bytes e. cc (sym (All-get_or IsDigit text k 0 h (decode_of-ok text bytes e).1) ∙ ap is_hex_digit here)))

last_said : (node client digits : List ℕ) (at : Option ℕ) → position (λ b. b == 32) digits ≡ at
    → verb_of (codes "bytes" ∷ node ∷ client ∷ words_of digits) ≡ bytes_line node client (hex_bytes_of digits)
last_said node client digits None h = ap (λ ws. verb_of (codes "bytes" ∷ node ∷ client ∷ ws)) (parts_none 32 digits h)
last_said node client digits (Some k) h =
    let found = position-Some (λ b. b == 32) digits k 0 h in
    let rest = take (length digits - (k + 1)) (drop (k + 1) digits) in
    let behind = first_part (λ b. b == 32) rest in
    ap (λ ws. verb_of (codes "bytes" ∷ node ∷ client ∷ ws)) ((parts_first 32 digits k h).0 ∙ ap (λ ws. take k digits ∷ ws) behind.is)
    ∙ more_said node client (take k digits) behind.part behind.rest
    ∙ sym (none_sent node client (hex_bytes_of digits) (spaced_out digits k found.0 found.1))

-- what stands behind the third space is digits, or the line says nothing
pub bytes_said : (text word more node behind client digits : List ℕ) → words_of text ≡ word ∷ words_of more → bytes_eq word (codes "bytes") ≡ true
    → words_of more ≡ node ∷ words_of behind → words_of behind ≡ client ∷ words_of digits
    → verb_of (words_of text) ≡ bytes_line node client (hex_bytes_of digits)
bytes_said text word more node behind client digits first is second third =
    four_said text word more node behind client digits first is second third ∙ last_said node client digits (position (λ b. b == 32) digits) refl

-- a verb comes of it where all three of them say something
some_of : (n c : Option ℕ) (b : Option (List ℕ)) → is_some (option_and_then (λ n. option_and_then (λ c. option_map (λ x. verb.AtClient n c (client_verb.Bytes x)) b) c) n) ≡ ((is_some n && is_some c) && is_some b)
some_of None c b = refl
some_of (Some n) None b = refl
some_of (Some n) (Some c) None = refl
some_of (Some n) (Some c) (Some b) = refl

pub some_sent : (node client : List ℕ) (bytes : Option (List ℕ)) → is_some (bytes_line node client bytes) ≡ ((is_some (node_of node) && is_some (connection_of client)) && is_some bytes)
some_sent node client bytes = some_of (node_of node) (connection_of client) bytes

-- ---- its digits

-- from a digit on that was none, there is none
none_goes_on : (text : List ℕ) → fold (λ digits b. digits && is_hex_digit b) false text ≡ false
none_goes_on [] = refl
none_goes_on (b ∷ text) = none_goes_on text

each_by : (t : Bool) (b : ℕ) (text : List ℕ) → (are_digits text ≡ true → AllPass is_hex_digit text) → is_hex_digit b ≡ t
    → fold (λ digits b. digits && is_hex_digit b) t text ≡ true → AllPass is_hex_digit (b ∷ text)
each_by true b text each e h = All-cons IsDigit b text e (each h)
each_by false b text each e h = absurd (cc (h, none_goes_on text))

each_is : (text : List ℕ) → are_digits text ≡ true → AllPass is_hex_digit text
each_is [] h = All-nil IsDigit
each_is (b ∷ text) h = each_by (is_hex_digit b) b text (each_is text) refl h

all_are : (text : List ℕ) → AllPass is_hex_digit text → are_digits text ≡ true
all_are [] h = refl
all_are (b ∷ text) h = ap (λ t. fold (λ digits b. digits && is_hex_digit b) t text) (All-head IsDigit b text h) ∙ all_are text (All-tail IsDigit b text h)

is_said : (r : Result (List ℕ) FromHexError) (bytes : List ℕ) → r ≡ Ok bytes → is_some (if_decoded r) ≡ true
is_said r bytes h = ap (λ r. is_some (if_decoded r)) h

is_not : (r : Result (List ℕ) FromHexError) → ((bytes : List ℕ) → r ≢ Ok bytes) → is_some (if_decoded r) ≡ false
is_not (Ok bytes) h = absurd (h bytes refl)
is_not (Err e) h = refl

-- an even number of digits says bytes, and nothing else does
pub digits_said : (text : List ℕ) → is_some (if_decoded (decode_of text)) ≡ ((length text % 2 == 0) && are_digits text)
digits_said text =
    elim (cases_eq (length text % 2) 0) [
      | inl even ↦
          elim (cases_Bool (are_digits text)) [
            | inl all ↦
                let read = decode_pairs-digits 0 text even (each_is text all) in
                is_said (decode_of text) read.0 (decode_of-even text even ∙ read.1) ∙ rw (even, all) refl
            | inr some ↦
                is_not (decode_of text) (λ bytes h. cc (sym some ∙ all_are text (decode_of-ok text bytes h).1)) ∙ rw (even, some) refl
          ]
      | inr odd ↦
          let one : length text % 2 ≡ 1 = omega arith in
          is_not (decode_of text) (λ bytes h. cc (sym h ∙ decode_of-odd text one)) ∙ rw one refl
    ]

-- ---- what they say

decoded : (r : Result (List ℕ) FromHexError) → is_some (if_decoded r) ≡ true → (bytes : List ℕ) × (r ≡ Ok bytes)
decoded (Ok bytes) h = (bytes, refl)
decoded (Err e) h = absurd (cc h)

some_read : (text : List ℕ) (empty : Bool) → (length text == 0) ≡ empty → is_some (hex_bytes_of text) ≡ true → is_some (if_decoded (decode_of text)) ≡ true
some_read text true h some = absurd (cc (some, ap is_some (read_as text true h)))
some_read text false h some = sym (ap is_some (read_as text false h)) ∙ some

pub digits_are : (text : List ℕ) → is_some (hex_bytes_of text) ≡ true → AreHex text
digits_are text h =
    let read = decoded (decode_of text) (some_read text (length text == 0) refl h) in
    let ok = decode_of-ok text read.0 read.1 in
    record { even = ok.0; digits = ok.1 }

these_read : (text bytes : List ℕ) (empty : Bool) → (length text == 0) ≡ empty → is_some (hex_bytes_of text) ≡ true → decode_of text ≡ Ok bytes → hex_bytes_of text ≡ Some bytes
these_read text bytes true h some e = absurd (cc (some, ap is_some (read_as text true h)))
these_read text bytes false h some e = read_as text false h ∙ ap if_decoded e

pub bytes_are : (text bytes : List ℕ) → is_some (hex_bytes_of text) ≡ true → decode_of text ≡ Ok bytes → hex_bytes_of text ≡ Some bytes
bytes_are text bytes h e = these_read text bytes (length text == 0) refl h e
