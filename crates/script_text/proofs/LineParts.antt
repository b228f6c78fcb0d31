-- the parts of a transcript's lines: their words, and what those are taken for
use Rattle.std.proofs.Common.{◌≡◌, ℕ, ◌+◌, ◌%◌, ◌^◌, ◌<◌, Bool, true, false, List, [], ◌∷◌, ◌++◌, length, take, drop, Option, Some, None, refl, ap, ◌∙◌, append_assoc, arith, mod-eq_of_lt}
use Rattle.std.specs.Prelude.{◌==◌, ◌&&◌, if◌then◌else◌, nat_le, nat_eq, map, codes, decimal}
use Rattle.std.specs.List.{join_with_byte, slice_split}
use Rattle.std.specs.Option.{option_map, unwrap_or}
use Rattle.std.specs.Str.{all_ascii_digits, bytes_eq}
use Rattle.std.proofs.lemmas.Bool.{and_parts}
use Rattle.std.proofs.lemmas.Fmt.{decimal_nonempty, digits_decimal}
use Rattle.std.proofs.lemmas.List.Elements.{All-head, All-tail}
use Rattle.std.proofs.lemmas.List.Splits.{slice_split_none, slice_split_at}
use Rattle.hex.specs.Hex.{IsBytes, encode_lower, decode_of}
use Rattle.hex.proofs.HexLemmas.{decode_of-encode_lower, decode_of-odd, length-encode_with}
use Rattle.vb_types.specs.Limits.{IsKey, IsValue, key_of, value_of}
use Rattle.vb_types.specs.declared.doc.Doc.{Doc}
use Rattle.vb_types.specs.declared.change.Act.{Act}
use Rattle.vb_types.specs.declared.change.Act.TheVariants as act
use Rattle.vb_types.specs.declared.change.Change.{Change}
use Rattle.vb_types.specs.declared.role.LogEntry.{LogEntry}
use Rattle.vb_types.specs.declared.role.Role.{Role}
use Rattle.vb_types.specs.declared.role.Role.TheVariants as role
use Rattle.vb_types.specs.declared.change.Level.{Level}
use Rattle.vb_types.specs.declared.change.Level.TheVariants as level
use Rattle.vb_types.specs.declared.stream.StreamAsk.{StreamAsk}
use Rattle.vb_events.specs.declared.event.StreamName.{StreamName}
use Rattle.vb_events.specs.declared.event.StreamName.TheVariants as stream
use Rattle.script_text.specs.Numbers.{number_of}
use Rattle.script_text.specs.Grammar.{if_decoded, hex_bytes_of}
use Rattle.script_text.specs.Transcript.{hex_text, place_text, link_text, client_text, stream_text, extent_text, parent_text, flag_text, role_text, level_text, doc_text, act_text, entry_text, log_text, ask_text}
use Rattle.script_text.specs.Held.{IsPlace, IsKeyHeld, IsDocHeld, IsActHeld, IsChangeHeld, IsEntryHeld, IsLogHeld, IsStreamHeld, IsAskHeld, IsParentHeld}
use Rattle.script_text.specs.Taken.{word_at, as_long, as_int, as_short, as_byte, as_link, client_with, as_client, as_stream, as_bytes, as_flag, as_role, as_level, as_entry, as_log, doc_with, as_doc, as_act, as_change, as_ask, change_with}
use Rattle.script_text.proofs.Decimals.{own, number_of-decimal}
use Rattle.script_text.proofs.Words.{decimal_clean, clean_all}
use Rattle.script_text.proofs.KindWords.{level_clean, flag_clean}
use Rattle.script_text.proofs.Fields.{some_hex, hex_clean, link_clean, client_clean, dot, digit_no_dot, log_clean, cut_again, digit_no_colon}
use Rattle.script_text.proofs.Dots.{position_at, taken, dropped}
use Rattle.script_text.proofs.Rows.{Part, Row, word_part, number_part, none, ◌⟫◌, row_part}

-- ---- numbers

pub long_is : (n : ℕ) → n < 2 ^ 64 → as_long (decimal n) ≡ n
long_is n h = ap (λ o. unwrap_or o 0) (number_of-decimal n h)

pub int_is : (n : ℕ) → n < 2 ^ 32 → as_int (decimal n) ≡ n
int_is n h = ap (λ m. m % 2 ^ 32) (long_is n (omega arith)) ∙ mod-eq_of_lt h

pub short_is : (n : ℕ) → n < 2 ^ 16 → as_short (decimal n) ≡ n
short_is n h = ap (λ m. m % 2 ^ 16) (long_is n (omega arith)) ∙ mod-eq_of_lt h

pub byte_is : (n : ℕ) → n < 2 ^ 8 → as_byte (decimal n) ≡ n
byte_is n h = ap (λ m. m % 2 ^ 8) (long_is n (omega arith)) ∙ mod-eq_of_lt h

pub int_part : (n : ℕ) → n < 2 ^ 32 → Part (decimal n) (decimal n ∷ [])
int_part n h = number_part n (omega arith)

pub byte_part : (n : ℕ) → n < 2 ^ 8 → Part (decimal n) (decimal n ∷ [])
byte_part n h = number_part n (omega arith)

pub place_part : (node vb : ℕ) → IsPlace node vb → Part (place_text node vb) (decimal node ∷ decimal vb ∷ [])
unfolding place_text
place_part node vb h = row_part (number_part node (let low = h.0 in omega arith) ⟫ number_part vb (let low = h.1 in omega arith) ⟫ none)

pub extent_part : (at ss se docs preps : ℕ) → at < 2 ^ 64 → ss < 2 ^ 64 → se < 2 ^ 64 → docs < 2 ^ 64 → preps < 2 ^ 64
    → Part (extent_text at ss se docs preps) (decimal at ∷ decimal ss ∷ decimal se ∷ decimal docs ∷ decimal preps ∷ [])
unfolding extent_text
extent_part at ss se docs preps h0 h1 h2 h3 h4 =
    row_part (number_part at h0 ⟫ number_part ss h1 ⟫ number_part se h2 ⟫ number_part docs h3 ⟫ number_part preps h4 ⟫ none)

-- ---- links, and a branch's parent

pub link_is : (l : ℕ) → l < 2 ^ 32 → as_link (link_text l) ≡ l
unfolding link_text
link_is l h = int_is l h

pub link_part : (l : ℕ) → l < 2 ^ 32 → Part (link_text l) (link_text l ∷ [])
link_part l h = word_part (link_text l) (link_clean l (omega arith))

client_is : (node client : ℕ) → node < 2 ^ 8 → client < 2 ^ 32 → as_client (decimal node ++ 46 ∷ decimal client) ≡ stream.Client node client
client_is node client h k =
    let text = decimal node ++ 46 ∷ decimal client in
    ap (client_with text) (position_at dot (decimal node) 46 (decimal client) (decimal_clean dot digit_no_dot node (omega (arith, h))) refl)
    ∙ ap (λ word. stream.Client (as_byte word) (as_int (drop (length (decimal node) + 1) text))) (taken (decimal node) (46 ∷ decimal client))
    ∙ ap (λ word. stream.Client (as_byte (decimal node)) (as_int word)) (dropped (decimal node) 46 (decimal client))
    ∙ (λ i. stream.Client (byte_is node h i) (int_is client k i))

pub stream_is : (n : StreamName) → IsStreamHeld n → as_stream (stream_text n) ≡ n
unfolding link_text client_text
stream_is (stream.Link l) h = ap stream.Link (int_is l h)
stream_is (stream.Client node client) h = client_is node client h.0 h.1

client_part : (node client : ℕ) → node < 2 ^ 8 → client < 2 ^ 32 → Part (client_text node client) (client_text node client ∷ [])
client_part node client h k = word_part (client_text node client) (client_clean node client (omega (arith, h)) (omega (arith, k)))

pub stream_part : (n : StreamName) → IsStreamHeld n → Part (stream_text n) (stream_text n ∷ [])
stream_part (stream.Link l) h = link_part l h
stream_part (stream.Client node client) h = client_part node client h.0 h.1

pub parent_is : (p : Option ℕ) → IsParentHeld p → number_of (parent_text p) ≡ p
unfolding number_of
parent_is None h = refl
parent_is (Some uuid) h = number_of-decimal uuid h

pub parent_part : (p : Option ℕ) → IsParentHeld p → Part (parent_text p) (parent_text p ∷ [])
parent_part None h = word_part (codes "-") refl
parent_part (Some uuid) h = number_part uuid h

-- ---- words of a kind

pub role_is : (r : Role) → as_role (role_text r) ≡ r
role_is role.Active = refl
role_is role.Replica = refl
role_is role.Pending = refl
role_is role.Dead = refl

pub level_is : (l : Level) → as_level (level_text l) ≡ l
level_is level.Majority = refl
level_is level.MajorityPersistActive = refl
level_is level.PersistMajority = refl

pub flag_is : (f : Bool) → as_flag (flag_text f) ≡ f
flag_is true = refl
flag_is false = refl

-- ---- bytes, keys and documents

digits_some : (b : ℕ) (bytes : List ℕ) → (length (encode_lower (b ∷ bytes)) == 0) ≡ false
digits_some b bytes = let twice = length-encode_with (codes "0123456789abcdef") (b ∷ bytes) in grind (arith)

pub bytes_are : (bytes : List ℕ) → IsBytes bytes → as_bytes (hex_text bytes) ≡ bytes
unfolding as_bytes hex_bytes_of hex_text
bytes_are [] h = ap (λ r. unwrap_or (if_decoded r) []) (decode_of-odd (codes "-") refl)
bytes_are (b ∷ bytes) h =
    ap as_bytes (some_hex b bytes)
    ∙ ap (λ t. unwrap_or (if t then None else if_decoded (decode_of (encode_lower (b ∷ bytes)))) []) (digits_some b bytes)
    ∙ ap (λ r. unwrap_or (if_decoded r) []) (decode_of-encode_lower (b ∷ bytes) h)

pub bytes_part : (bytes : List ℕ) → IsBytes bytes → Part (hex_text bytes) (hex_text bytes ∷ [])
bytes_part bytes h = word_part (hex_text bytes) (hex_clean bytes h)

key_kept : (key : List ℕ) → IsKey key → key_of key ≡ Some key
key_kept key h = grind (arith)

pub key_is : (key : List ℕ) → IsKeyHeld key → key_of (as_bytes (hex_text key)) ≡ Some key
key_is key h = ap key_of (bytes_are key h.0) ∙ key_kept key h.1

value_kept : (value : List ℕ) → IsValue value → value_of value ≡ Some value
value_kept value h = grind (arith)

value_is : (value : List ℕ) → IsBytes value → IsValue value → value_of (as_bytes (hex_text value)) ≡ Some value
value_is value h k = ap value_of (bytes_are value h) ∙ value_kept value k

abbrev pub doc_words : Doc → List (List ℕ)
doc_words doc = decimal doc.cas ∷ decimal doc.rev ∷ decimal doc.flags ∷ decimal doc.expiry ∷ decimal doc.datatype ∷ hex_text doc.value ∷ []

pub doc_part : (doc : Doc) → IsDocHeld doc → Part (doc_text doc) (doc_words doc)
unfolding doc_text
doc_part doc h =
    row_part (number_part doc.cas h.0 ⟫ number_part doc.rev h.1 ⟫ int_part doc.flags h.2 ⟫ int_part doc.expiry h.3 ⟫ byte_part doc.datatype h.4 ⟫ bytes_part doc.value h.5 ⟫ none)

-- a document stands from this word on
pub record DocAt (words : List (List ℕ)) (at : ℕ) (doc : Doc) : Type 0 where
  pub cas : word_at words at ≡ decimal doc.cas
  pub rev : word_at words (at + 1) ≡ decimal doc.rev
  pub flags : word_at words (at + 2) ≡ decimal doc.flags
  pub expiry : word_at words (at + 3) ≡ decimal doc.expiry
  pub datatype : word_at words (at + 4) ≡ decimal doc.datatype
  pub value : word_at words (at + 5) ≡ hex_text doc.value

pub doc_is : (words : List (List ℕ)) (at : ℕ) (doc : Doc) → IsDocHeld doc → DocAt words at doc → as_doc words at ≡ Some doc
doc_is words at doc h stands =
    let cas = ap as_long stands.cas ∙ long_is doc.cas h.0 in
    let rev = ap as_long stands.rev ∙ long_is doc.rev h.1 in
    let flags = ap as_int stands.flags ∙ int_is doc.flags h.2 in
    let expiry = ap as_int stands.expiry ∙ int_is doc.expiry h.3 in
    let datatype = ap as_byte stands.datatype ∙ byte_is doc.datatype h.4 in
    ap (λ word. option_map (doc_with words at) (value_of (as_bytes word))) stands.value
    ∙ ap (option_map (doc_with words at)) (value_is doc.value h.5 h.6)
    ∙ (λ i. Some (record { value = doc.value; cas = cas i; rev = rev i; flags = flags i; expiry = expiry i; datatype = datatype i }))

-- ---- changes

abbrev pub act_words : List ℕ → Act → List (List ℕ)
act_words key (act.Set doc) = codes "set" ∷ hex_text key ∷ doc_words doc
act_words key (act.Remove cas rev) = codes "remove" ∷ hex_text key ∷ decimal cas ∷ decimal rev ∷ []
act_words key (act.Prepare level doc deleted) = codes "prepare" ∷ hex_text key ∷ doc_words doc ++ level_text level ∷ flag_text deleted ∷ []
act_words key (act.Commit prepared doc deleted) = codes "commit" ∷ hex_text key ∷ doc_words doc ++ decimal prepared ∷ flag_text deleted ∷ []
act_words key (act.Abort prepared) = codes "abort" ∷ hex_text key ∷ decimal prepared ∷ []

level_part : (l : Level) → Part (level_text l) (level_text l ∷ [])
level_part l = word_part (level_text l) (level_clean l)

flag_part : (f : Bool) → Part (flag_text f) (flag_text f ∷ [])
flag_part f = word_part (flag_text f) (flag_clean f)

act_part : (key : List ℕ) (a : Act) → IsBytes key → IsActHeld a → Part (act_text key a) (act_words key a)
unfolding act_text
act_part key (act.Set doc) k h = row_part (word_part (codes "set") refl ⟫ bytes_part key k ⟫ doc_part doc h ⟫ none)
act_part key (act.Remove cas rev) k h = row_part (word_part (codes "remove") refl ⟫ bytes_part key k ⟫ number_part cas h.0 ⟫ number_part rev h.1 ⟫ none)
act_part key (act.Prepare level doc deleted) k h =
    row_part (word_part (codes "prepare") refl ⟫ bytes_part key k ⟫ doc_part doc h ⟫ level_part level ⟫ flag_part deleted ⟫ none)
act_part key (act.Commit prepared doc deleted) k h =
    row_part (word_part (codes "commit") refl ⟫ bytes_part key k ⟫ doc_part doc h.0 ⟫ number_part prepared h.1 ⟫ flag_part deleted ⟫ none)
act_part key (act.Abort prepared) k h = row_part (word_part (codes "abort") refl ⟫ bytes_part key k ⟫ number_part prepared h ⟫ none)

abbrev pub change_words : Change → List (List ℕ)
change_words change = decimal change.seq ∷ act_words change.key change.act

pub change_row : (change : Change) → IsChangeHeld change → Row (decimal change.seq ∷ act_text change.key change.act ∷ []) (change_words change ++ [])
change_row change h = number_part change.seq h.0 ⟫ act_part change.key change.act h.1.0 h.2 ⟫ none

key_stands : (w0 w1 w2 w3 w4 key : List ℕ) (a : Act) → word_at (w0 ∷ w1 ∷ w2 ∷ w3 ∷ w4 ∷ take 62 (act_words key a ++ [])) 6 ≡ hex_text key
key_stands w0 w1 w2 w3 w4 key (act.Set doc) = refl
key_stands w0 w1 w2 w3 w4 key (act.Remove cas rev) = refl
key_stands w0 w1 w2 w3 w4 key (act.Prepare level doc deleted) = refl
key_stands w0 w1 w2 w3 w4 key (act.Commit prepared doc deleted) = refl
key_stands w0 w1 w2 w3 w4 key (act.Abort prepared) = refl

pub doc_stands : (words : List (List ℕ)) (at : ℕ) (doc : Doc) → word_at words at ≡ decimal doc.cas → word_at words (at + 1) ≡ decimal doc.rev
    → word_at words (at + 2) ≡ decimal doc.flags → word_at words (at + 3) ≡ decimal doc.expiry → word_at words (at + 4) ≡ decimal doc.datatype
    → word_at words (at + 5) ≡ hex_text doc.value → DocAt words at doc
doc_stands words at doc e0 e1 e2 e3 e4 e5 = record { cas = e0; rev = e1; flags = e2; expiry = e3; datatype = e4; value = e5 }

act_is : (w0 w1 w2 w3 w4 key : List ℕ) (a : Act) → IsActHeld a → as_act (w0 ∷ w1 ∷ w2 ∷ w3 ∷ w4 ∷ take 62 (act_words key a ++ [])) 5 ≡ Some a
act_is w0 w1 w2 w3 w4 key (act.Set doc) h =
    ap (option_map act.Set) (doc_is (w0 ∷ w1 ∷ w2 ∷ w3 ∷ w4 ∷ take 62 (act_words key (act.Set doc) ++ [])) 7 doc h (doc_stands _ 7 doc refl refl refl refl refl refl))
act_is w0 w1 w2 w3 w4 key (act.Remove cas rev) h = λ i. Some (act.Remove (long_is cas h.0 i) (long_is rev h.1 i))
act_is w0 w1 w2 w3 w4 key (act.Prepare level doc deleted) h =
    let words = w0 ∷ w1 ∷ w2 ∷ w3 ∷ w4 ∷ take 62 (act_words key (act.Prepare level doc deleted) ++ []) in
    ap (option_map (λ doc. act.Prepare (as_level (level_text level)) doc (as_flag (flag_text deleted)))) (doc_is words 7 doc h (doc_stands words 7 doc refl refl refl refl refl refl))
    ∙ (λ i. Some (act.Prepare (level_is level i) doc (flag_is deleted i)))
act_is w0 w1 w2 w3 w4 key (act.Commit prepared doc deleted) h =
    let words = w0 ∷ w1 ∷ w2 ∷ w3 ∷ w4 ∷ take 62 (act_words key (act.Commit prepared doc deleted) ++ []) in
    ap (option_map (λ doc. act.Commit (as_long (decimal prepared)) doc (as_flag (flag_text deleted)))) (doc_is words 7 doc h.0 (doc_stands words 7 doc refl refl refl refl refl refl))
    ∙ (λ i. Some (act.Commit (long_is prepared h.1 i) doc (flag_is deleted i)))
act_is w0 w1 w2 w3 w4 key (act.Abort prepared) h = λ i. Some (act.Abort (long_is prepared h i))

pub change_is : (w0 w1 w2 w3 : List ℕ) (change : Change) → IsChangeHeld change → as_change (w0 ∷ w1 ∷ w2 ∷ w3 ∷ take 63 (change_words change ++ [])) 4 ≡ Some change
unfolding as_change
change_is w0 w1 w2 w3 change h =
    let words = w0 ∷ w1 ∷ w2 ∷ w3 ∷ take 63 (change_words change ++ []) in
    ap (λ word. change_with (as_long (decimal change.seq)) (key_of (as_bytes word)) (as_act words 5)) (key_stands w0 w1 w2 w3 (decimal change.seq) change.key change.act)
    ∙ ap (λ key. change_with (as_long (decimal change.seq)) key (as_act words 5)) (key_is change.key h.1)
    ∙ ap (change_with (as_long (decimal change.seq)) (Some change.key)) (act_is w0 w1 w2 w3 (decimal change.seq) change.key change.act h.2)
    ∙ ap (λ seq. change_with seq (Some change.key) (Some change.act)) (long_is change.seq h.0)

-- ---- failover logs

entry_is : (entry : LogEntry) → IsEntryHeld entry → as_entry (entry_text entry) ≡ entry
unfolding entry_text
entry_is entry h =
    let colon = λ (b : ℕ). b == 58 in
    let clean_uuid = clean_all colon (decimal entry.uuid) (decimal_clean colon digit_no_colon entry.uuid h.0) in
    let clean_seq = clean_all colon (decimal entry.seq) (decimal_clean colon digit_no_colon entry.seq h.1) in
    let parts = slice_split_at colon (decimal entry.uuid) 58 (decimal entry.seq) clean_uuid refl ∙ ap (λ more. decimal entry.uuid ∷ more) (slice_split_none colon (decimal entry.seq) clean_seq) in
    ap (λ (parts : List (List ℕ)). let read : LogEntry = record { uuid = as_long (word_at parts 0); seq = as_long (word_at parts 1) } in read) parts
    ∙ (λ i. record { uuid = long_is entry.uuid h.0 i; seq = long_is entry.seq h.1 i })

entries_are : (log : List LogEntry) → IsLogHeld log → map as_entry (map entry_text log) ≡ log
entries_are [] h = refl
entries_are (entry ∷ log) h =
    let first = entry_is entry (All-head IsEntryHeld entry log h) in
    let more = entries_are log (All-tail IsEntryHeld entry log h) in
    λ i. first i ∷ more i

-- an entry is no dash: it begins with a digit
no_dash : (text more : List ℕ) → all_ascii_digits text ≡ true → 0 < length text → bytes_eq (text ++ more) (codes "-") ≡ false
no_dash [] more h some = absurd (omega arith)
no_dash (c ∷ cs) more h some =
    let digit = (and_parts (nat_le 48 c && nat_le c 57) (all_ascii_digits cs) h).0 in
    let other : nat_eq c 45 ≡ false = grind (arith) in
    ap (λ t. t && bytes_eq (cs ++ more) []) other

-- what stands behind the branch's id of the first entry
abbrev behind : LogEntry → List LogEntry → List ℕ
behind entry [] = 58 ∷ decimal entry.seq
behind entry (older ∷ log) = (58 ∷ decimal entry.seq) ++ 44 ∷ join_with_byte 44 (map entry_text (older ∷ log))

begins : (entry : LogEntry) (log : List LogEntry) → log_text (entry ∷ log) ≡ decimal entry.uuid ++ behind entry log
unfolding entry_text
begins entry [] = refl
begins entry (older ∷ log) = append_assoc (decimal entry.uuid) (58 ∷ decimal entry.seq) (44 ∷ join_with_byte 44 (map entry_text (older ∷ log)))

log_no_dash : (entry : LogEntry) (log : List LogEntry) → IsLogHeld (entry ∷ log) → bytes_eq (log_text (entry ∷ log)) (codes "-") ≡ false
log_no_dash entry log h =
    let low = (All-head IsEntryHeld entry log h).0 in
    ap (λ text. bytes_eq text (codes "-")) (begins entry log)
    ∙ no_dash (decimal entry.uuid) (behind entry log) (digits_decimal own entry.uuid low) (decimal_nonempty entry.uuid low)

pub log_is : (log : List LogEntry) → IsLogHeld log → as_log (log_text log) ≡ log
unfolding as_log
log_is [] h = refl
log_is (entry ∷ log) h =
    ap (λ t. if t then [] else map as_entry (slice_split (λ b. b == 44) (log_text (entry ∷ log)))) (log_no_dash entry log h)
    ∙ ap (map as_entry) (cut_again entry log h)
    ∙ entries_are (entry ∷ log) h

pub log_part : (log : List LogEntry) → IsLogHeld log → Part (log_text log) (log_text log ∷ [])
log_part log h = word_part (log_text log) (log_clean log h)

-- ---- stream requests

abbrev pub ask_words : StreamAsk → List (List ℕ)
ask_words ask = decimal ask.uuid ∷ decimal ask.start ∷ decimal ask.end ∷ decimal ask.ss ∷ decimal ask.se ∷ decimal ask.flags ∷ []

pub ask_part : (ask : StreamAsk) → IsAskHeld ask → Part (ask_text ask) (ask_words ask)
unfolding ask_text
ask_part ask h =
    row_part (number_part ask.uuid h.0 ⟫ number_part ask.start h.1 ⟫ number_part ask.end h.2 ⟫ number_part ask.ss h.3 ⟫ number_part ask.se h.4 ⟫ int_part ask.flags h.5 ⟫ none)

pub ask_is : (ask : StreamAsk) → IsAskHeld ask → as_ask (ask_words ask) 0 ≡ ask
ask_is ask h = λ i. record {
  flags = int_is ask.flags h.5 i;
  start = long_is ask.start h.1 i;
  end = long_is ask.end h.2 i;
  uuid = long_is ask.uuid h.0 i;
  ss = long_is ask.ss h.3 i;
  se = long_is ask.se h.4 i;
}
