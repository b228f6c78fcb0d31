-- the parts of a transcript's lines, read back
use Rattle.std.proofs.Common.{◌≡◌, ℕ, Bool, true, false, List, [], ◌∷◌, ◌++◌, length, Option, Some, None, Result, Ok, Err, refl, ap, ◌∙◌, subst, inl, inr, arith}
use Rattle.std.specs.Prelude.{◌==◌, ◌&&◌, if◌then◌else◌, nat_le, option_and_then, map, codes, decimal}
use Rattle.std.specs.Option.{option_map}
use Rattle.std.specs.List.{All, join_with_byte, slice_split}
use Rattle.std.specs.Str.{bytes_eq}
use Rattle.std.proofs.lemmas.Bool.{cases_eq, ne_eqb}
use Rattle.std.proofs.lemmas.List.Elements.{All-head, All-tail}
use Rattle.std.proofs.lemmas.List.Splits.{slice_split_none, slice_split_at}
use Rattle.hex.specs.Hex.{IsBytes, encode_lower, decode_of, is_hex_digit}
use Rattle.hex.proofs.HexLemmas.{decode_of-encode_lower, decode_of-ok, decode_of-odd}
use Rattle.vb_types.specs.declared.doc.Doc.{Doc}
use Rattle.vb_types.specs.declared.change.Act.{Act}
use Rattle.vb_types.specs.declared.change.Act.TheVariants as act
use Rattle.vb_types.specs.declared.role.LogEntry.{LogEntry}
use Rattle.vb_types.specs.declared.stream.StreamAsk.{StreamAsk}
use Rattle.vb_events.specs.declared.event.StreamName.{StreamName}
use Rattle.vb_events.specs.declared.event.StreamName.TheVariants as stream
use Rattle.vb_types.specs.declared.stream.AskAnswer.{AskAnswer}
use Rattle.vb_types.specs.declared.stream.AskAnswer.TheVariants as asked
use Rattle.script_text.specs.Numbers.{number_of}
use Rattle.script_text.specs.Ranges.{IsWide, IsDocRanged, IsActRanged, IsEntryRanged, IsStreamRanged, IsAskRanged, IsVerdictRanged, IsParentRanged}
use Rattle.script_text.specs.Transcript.{hex_text, place_text, link_text, client_text, stream_text, extent_text, parent_text, flag_text, level_text, doc_text, act_text, entry_text, log_text, ask_text, verdict_text, request_text}
use Rattle.script_text.proofs.Decimals.{number_of-decimal}
use Rattle.script_text.proofs.KindWords.{level_of, level_back, flag_of, flag_back}
use Rattle.script_text.proofs.Words.{upto, past, upto_at, past_at, ends, clean, clean_both, clean_all, no_end, digit_no_end, decimal_clean, reading, read_word, spaced_in_row}

pub number_back : {X : Type 0} (n : ℕ) (s : ℕ) (rest : List ℕ) (k : ℕ → List ℕ → Option X) → IsWide n → ends s ≡ true → reading number_of (decimal n ++ s ∷ rest) k ≡ k n rest
number_back n s rest k h e = read_word number_of (decimal n) n s rest k (decimal_clean ends digit_no_end n h) e (number_of-decimal n h)

-- ---- a place: `N V`

unfoldable pub place_in : {X : Type 0} → List ℕ → (ℕ → ℕ → List ℕ → Option X) → Option X
place_in text k = reading number_of text (λ node text. reading number_of text (λ vb text. k node vb text))

pub place_back : {X : Type 0} (node vb s : ℕ) (rest : List ℕ) (k : ℕ → ℕ → List ℕ → Option X) → IsWide node → IsWide vb → ends s ≡ true → place_in (place_text node vb ++ s ∷ rest) k ≡ k node vb rest
unfolding place_in place_text
place_back node vb s rest k n v e =
    ap (λ text. place_in text k) (spaced_in_row (decimal node ∷ decimal vb ∷ []) s rest)
    ∙ number_back node 32 _ _ n refl
    ∙ number_back vb s _ _ v e

-- ---- bytes in hexadecimal digits

hex_no_end : (c : ℕ) → is_hex_digit c ≡ true → ends c ≡ false
hex_no_end c h =
    no_end c
    (elim (cases_eq c 32) [
      | inl e ↦ let bad : false ≡ true = subst (λ d. is_hex_digit d ≡ true) e h in absurd (cc bad)
      | inr ne ↦ ne_eqb c 32 ne
    ])
    (elim (cases_eq c 10) [
      | inl e ↦ let bad : false ≡ true = subst (λ d. is_hex_digit d ≡ true) e h in absurd (cc bad)
      | inr ne ↦ ne_eqb c 10 ne
    ])

digits_of_hex : (text : List ℕ) → All (λ c. is_hex_digit c ≡ true) text → clean ends text ≡ true
digits_of_hex [] h = refl
digits_of_hex (c ∷ text) h =
    ap (λ t. if t then false else clean ends text) (hex_no_end c (All-head (λ c. is_hex_digit c ≡ true) c text h))
    ∙ digits_of_hex text (All-tail (λ c. is_hex_digit c ≡ true) c text h)

-- where the digits are not decoded there are no bytes
abbrev bytes_in : {E : Type 0} → Result (List ℕ) E → Option (List ℕ)
bytes_in (Ok bytes) = Some bytes
bytes_in (Err e) = Some []

abbrev pub hex_of : List ℕ → Option (List ℕ)
hex_of word = bytes_in (decode_of word)

pub some_hex : (b : ℕ) (bytes : List ℕ) → hex_text (b ∷ bytes) ≡ encode_lower (b ∷ bytes)
unfolding hex_text
some_hex b bytes =
    let some : (length (b ∷ bytes) == 0) ≡ false = grind (arith) in
    ap (λ t. if t then codes "-" else encode_lower (b ∷ bytes)) some

pub hex_clean : (bytes : List ℕ) → IsBytes bytes → clean ends (hex_text bytes) ≡ true
unfolding hex_text
hex_clean [] h = refl
hex_clean (b ∷ bytes) h =
    ap (clean ends) (some_hex b bytes)
    ∙ digits_of_hex (encode_lower (b ∷ bytes)) (decode_of-ok (encode_lower (b ∷ bytes)) (b ∷ bytes) (decode_of-encode_lower (b ∷ bytes) h)).1

hex_is : (bytes : List ℕ) → IsBytes bytes → hex_of (hex_text bytes) ≡ Some bytes
unfolding hex_text
hex_is [] h = ap bytes_in (decode_of-odd (codes "-") refl)
hex_is (b ∷ bytes) h = ap hex_of (some_hex b bytes) ∙ ap bytes_in (decode_of-encode_lower (b ∷ bytes) h)

pub hex_back : {X : Type 0} (bytes : List ℕ) (s : ℕ) (rest : List ℕ) (k : List ℕ → List ℕ → Option X) → IsBytes bytes → ends s ≡ true → reading hex_of (hex_text bytes ++ s ∷ rest) k ≡ k bytes rest
hex_back bytes s rest k h e = read_word hex_of (hex_text bytes) bytes s rest k (hex_clean bytes h) e (hex_is bytes h)

-- ---- links, and a branch's parent

abbrev pub link_of : List ℕ → Option ℕ
link_of [] = None
link_of (b ∷ word) = number_of word

pub link_clean : (l : ℕ) → IsWide l → clean ends (link_text l) ≡ true
unfolding link_text
link_clean l h = decimal_clean ends digit_no_end l h

link_text_back : (l : ℕ) → IsWide l → link_of (link_text l) ≡ Some l
unfolding link_text
link_text_back l h = number_of-decimal l h

pub link_back : {X : Type 0} (l : ℕ) (s : ℕ) (rest : List ℕ) (k : ℕ → List ℕ → Option X) → IsWide l → ends s ≡ true → reading link_of (link_text l ++ s ∷ rest) k ≡ k l rest
link_back l s rest k h e = read_word link_of (link_text l) l s rest k (link_clean l h) e (link_text_back l h)

-- ---- streams: of a link, and of a client's connection

abbrev pub dot : ℕ → Bool
dot b = b == 46

pub digit_no_dot : (b : ℕ) → (nat_le 48 b && nat_le b 57) ≡ true → dot b ≡ false
digit_no_dot b h = grind (arith)

abbrev client_of : List ℕ → Option StreamName
client_of word = option_and_then (λ node. option_map (stream.Client node) (number_of (past dot word))) (number_of (upto dot word))

client_is : (node client : ℕ) → IsWide node → IsWide client → client_of (decimal node ++ 46 ∷ decimal client) ≡ Some (stream.Client node client)
client_is node client h k =
    let clean = decimal_clean dot digit_no_dot node h in
    let behind = past dot (decimal node ++ 46 ∷ decimal client) in
    ap (λ w. option_and_then (λ node. option_map (stream.Client node) (number_of behind)) (number_of w)) (upto_at dot (decimal node) 46 (decimal client) clean refl)
    ∙ ap (option_and_then (λ node. option_map (stream.Client node) (number_of behind))) (number_of-decimal node h)
    ∙ ap (λ w. option_map (stream.Client node) (number_of w)) (past_at dot (decimal node) 46 (decimal client) clean refl)
    ∙ ap (option_map (stream.Client node)) (number_of-decimal client k)

abbrev pub stream_of : List ℕ → Option StreamName
stream_of [] = None
stream_of (b ∷ word) = if b == 67 then client_of word else option_map stream.Link (number_of word)

pub client_clean : (node client : ℕ) → IsWide node → IsWide client → clean ends (client_text node client) ≡ true
unfolding client_text
client_clean node client h k =
    clean_both ends (decimal node) (46 ∷ decimal client) (decimal_clean ends digit_no_end node h) (decimal_clean ends digit_no_end client k)

pub stream_clean : (n : StreamName) → IsStreamRanged n → clean ends (stream_text n) ≡ true
stream_clean (stream.Link l) h = link_clean l h
stream_clean (stream.Client node client) h = client_clean node client h.0 h.1

stream_is : (n : StreamName) → IsStreamRanged n → stream_of (stream_text n) ≡ Some n
unfolding link_text client_text
stream_is (stream.Link l) h = ap (option_map stream.Link) (number_of-decimal l h)
stream_is (stream.Client node client) h = client_is node client h.0 h.1

pub stream_back : {X : Type 0} (n : StreamName) (s : ℕ) (rest : List ℕ) (k : StreamName → List ℕ → Option X) → IsStreamRanged n → ends s ≡ true → reading stream_of (stream_text n ++ s ∷ rest) k ≡ k n rest
stream_back n s rest k h e = read_word stream_of (stream_text n) n s rest k (stream_clean n h) e (stream_is n h)

abbrev pub parent_of : List ℕ → Option (Option ℕ)
parent_of word = Some (number_of word)

pub parent_clean : (p : Option ℕ) → IsParentRanged p → clean ends (parent_text p) ≡ true
parent_clean None h = refl
parent_clean (Some uuid) h = decimal_clean ends digit_no_end uuid h

parent_is : (p : Option ℕ) → IsParentRanged p → parent_of (parent_text p) ≡ Some p
unfolding number_of
parent_is None h = refl
parent_is (Some uuid) h = ap (λ n. Some n) (number_of-decimal uuid h)

pub parent_back : {X : Type 0} (p : Option ℕ) (s : ℕ) (rest : List ℕ) (k : Option ℕ → List ℕ → Option X) → IsParentRanged p → ends s ≡ true → reading parent_of (parent_text p ++ s ∷ rest) k ≡ k p rest
parent_back p s rest k h e = read_word parent_of (parent_text p) p s rest k (parent_clean p h) e (parent_is p h)

-- ---- a document, a request and how far a history goes

unfoldable pub doc_in : {X : Type 0} → List ℕ → (Doc → List ℕ → Option X) → Option X
doc_in text k =
    reading number_of text (λ cas text. reading number_of text (λ rev text. reading number_of text (λ flags text.
    reading number_of text (λ expiry text. reading number_of text (λ datatype text. reading hex_of text (λ value text.
    k (record { value = value; cas = cas; rev = rev; flags = flags; expiry = expiry; datatype = datatype }) text))))))

pub doc_back : {X : Type 0} (doc : Doc) (s : ℕ) (rest : List ℕ) (k : Doc → List ℕ → Option X) → IsDocRanged doc → ends s ≡ true → doc_in (doc_text doc ++ s ∷ rest) k ≡ k doc rest
unfolding doc_in doc_text
doc_back doc s rest k h e =
    ap (λ text. doc_in text k)
    (spaced_in_row (decimal doc.cas ∷ decimal doc.rev ∷ decimal doc.flags ∷ decimal doc.expiry ∷ decimal doc.datatype ∷ hex_text doc.value ∷ []) s rest)
    ∙ number_back doc.cas 32 _ _ h.0 refl
    ∙ number_back doc.rev 32 _ _ h.1 refl
    ∙ number_back doc.flags 32 _ _ h.2 refl
    ∙ number_back doc.expiry 32 _ _ h.3 refl
    ∙ number_back doc.datatype 32 _ _ h.4 refl
    ∙ hex_back doc.value s _ _ h.5 e

unfoldable pub ask_in : {X : Type 0} → List ℕ → (StreamAsk → List ℕ → Option X) → Option X
ask_in text k =
    reading number_of text (λ uuid text. reading number_of text (λ start text. reading number_of text (λ end text.
    reading number_of text (λ ss text. reading number_of text (λ se text. reading number_of text (λ flags text.
    k (record { flags = flags; start = start; end = end; uuid = uuid; ss = ss; se = se }) text))))))

pub ask_back : {X : Type 0} (ask : StreamAsk) (s : ℕ) (rest : List ℕ) (k : StreamAsk → List ℕ → Option X) → IsAskRanged ask → ends s ≡ true → ask_in (ask_text ask ++ s ∷ rest) k ≡ k ask rest
unfolding ask_in ask_text
ask_back ask s rest k h e =
    ap (λ text. ask_in text k)
    (spaced_in_row (decimal ask.uuid ∷ decimal ask.start ∷ decimal ask.end ∷ decimal ask.ss ∷ decimal ask.se ∷ decimal ask.flags ∷ []) s rest)
    ∙ number_back ask.uuid 32 _ _ h.0 refl
    ∙ number_back ask.start 32 _ _ h.1 refl
    ∙ number_back ask.end 32 _ _ h.2 refl
    ∙ number_back ask.ss 32 _ _ h.3 refl
    ∙ number_back ask.se 32 _ _ h.4 refl
    ∙ number_back ask.flags s _ _ h.5 e

unfoldable pub extent_in : {X : Type 0} → List ℕ → (ℕ → ℕ → ℕ → ℕ → ℕ → List ℕ → Option X) → Option X
extent_in text k =
    reading number_of text (λ at text. reading number_of text (λ ss text. reading number_of text (λ se text.
    reading number_of text (λ docs text. reading number_of text (λ preps text. k at ss se docs preps text)))))

pub extent_back : {X : Type 0} (at ss se docs preps s : ℕ) (rest : List ℕ) (k : ℕ → ℕ → ℕ → ℕ → ℕ → List ℕ → Option X)
    → IsWide at → IsWide ss → IsWide se → IsWide docs → IsWide preps → ends s ≡ true → extent_in (extent_text at ss se docs preps ++ s ∷ rest) k ≡ k at ss se docs preps rest
unfolding extent_in extent_text
extent_back at ss se docs preps s rest k h0 h1 h2 h3 h4 e =
    ap (λ text. extent_in text k) (spaced_in_row (decimal at ∷ decimal ss ∷ decimal se ∷ decimal docs ∷ decimal preps ∷ []) s rest)
    ∙ number_back at 32 _ _ h0 refl
    ∙ number_back ss 32 _ _ h1 refl
    ∙ number_back se 32 _ _ h2 refl
    ∙ number_back docs 32 _ _ h3 refl
    ∙ number_back preps s _ _ h4 e

-- ---- an act, behind its key

abbrev act_of : {X : Type 0} → List ℕ → List ℕ → (List ℕ → Act → List ℕ → Option X) → Option X
act_of word text k =
    reading hex_of text (λ key text.
    if bytes_eq word (codes "set") then doc_in text (λ doc text. k key (act.Set doc) text)
    else if bytes_eq word (codes "remove") then reading number_of text (λ cas text. reading number_of text (λ rev text. k key (act.Remove cas rev) text))
    else if bytes_eq word (codes "prepare") then doc_in text (λ doc text. reading level_of text (λ level text. reading flag_of text (λ deleted text. k key (act.Prepare level doc deleted) text)))
    else if bytes_eq word (codes "commit") then doc_in text (λ doc text. reading number_of text (λ prepared text. reading flag_of text (λ deleted text. k key (act.Commit prepared doc deleted) text)))
    else reading number_of text (λ prepared text. k key (act.Abort prepared) text))

unfoldable pub act_in : {X : Type 0} → List ℕ → (List ℕ → Act → List ℕ → Option X) → Option X
act_in text k = act_of (upto ends text) (past ends text) k

pub act_back : {X : Type 0} (key : List ℕ) (a : Act) (s : ℕ) (rest : List ℕ) (k : List ℕ → Act → List ℕ → Option X) → IsBytes key → IsActRanged a → ends s ≡ true → act_in (act_text key a ++ s ∷ rest) k ≡ k key a rest
unfolding act_in act_text
act_back key (act.Set doc) s rest k b h e =
    ap (λ text. act_in text k) (spaced_in_row (codes "set" ∷ hex_text key ∷ doc_text doc ∷ []) s rest)
    ∙ hex_back key 32 _ _ b refl
    ∙ doc_back doc s rest (λ doc text. k key (act.Set doc) text) h e
act_back key (act.Remove cas rev) s rest k b h e =
    ap (λ text. act_in text k) (spaced_in_row (codes "remove" ∷ hex_text key ∷ decimal cas ∷ decimal rev ∷ []) s rest)
    ∙ hex_back key 32 _ _ b refl
    ∙ number_back cas 32 _ _ h.0 refl
    ∙ number_back rev s _ _ h.1 e
act_back key (act.Prepare level doc deleted) s rest k b h e =
    ap (λ text. act_in text k) (spaced_in_row (codes "prepare" ∷ hex_text key ∷ doc_text doc ∷ level_text level ∷ flag_text deleted ∷ []) s rest)
    ∙ hex_back key 32 _ _ b refl
    ∙ doc_back doc 32 (level_text level ++ 32 ∷ (flag_text deleted ++ s ∷ rest)) (λ doc text. reading level_of text (λ level text. reading flag_of text (λ deleted text. k key (act.Prepare level doc deleted) text))) h refl
    ∙ level_back level 32 _ _ refl
    ∙ flag_back deleted s _ _ e
act_back key (act.Commit prepared doc deleted) s rest k b h e =
    ap (λ text. act_in text k) (spaced_in_row (codes "commit" ∷ hex_text key ∷ doc_text doc ∷ decimal prepared ∷ flag_text deleted ∷ []) s rest)
    ∙ hex_back key 32 _ _ b refl
    ∙ doc_back doc 32 (decimal prepared ++ 32 ∷ (flag_text deleted ++ s ∷ rest)) (λ doc text. reading number_of text (λ prepared text. reading flag_of text (λ deleted text. k key (act.Commit prepared doc deleted) text))) h.0 refl
    ∙ number_back prepared 32 _ _ h.1 refl
    ∙ flag_back deleted s _ _ e
act_back key (act.Abort prepared) s rest k b h e =
    ap (λ text. act_in text k) (spaced_in_row (codes "abort" ∷ hex_text key ∷ decimal prepared ∷ []) s rest)
    ∙ hex_back key 32 _ _ b refl
    ∙ number_back prepared s _ _ h e

-- ---- a failover log

abbrev comma : ℕ → Bool
comma b = b == 44

abbrev colon : ℕ → Bool
colon b = b == 58

digit_no_comma : (b : ℕ) → (nat_le 48 b && nat_le b 57) ≡ true → comma b ≡ false
digit_no_comma b h = grind (arith)

pub digit_no_colon : (b : ℕ) → (nat_le 48 b && nat_le b 57) ≡ true → colon b ≡ false
digit_no_colon b h = grind (arith)

abbrev entry_of : List ℕ → Option LogEntry
entry_of word = option_and_then (λ uuid. option_map (λ seq. record { uuid = uuid; seq = seq }) (number_of (past colon word))) (number_of (upto colon word))

entry_is : (entry : LogEntry) → IsEntryRanged entry → entry_of (entry_text entry) ≡ Some entry
unfolding entry_text
entry_is entry h =
    let uuid = decimal_clean colon digit_no_colon entry.uuid h.0 in
    ap (λ w. option_and_then (λ uuid. option_map (λ seq. record { uuid = uuid; seq = seq }) (number_of (past colon (entry_text entry)))) (number_of w)) (upto_at colon (decimal entry.uuid) 58 (decimal entry.seq) uuid refl)
    ∙ ap (option_and_then (λ uuid. option_map (λ seq. record { uuid = uuid; seq = seq }) (number_of (past colon (entry_text entry))))) (number_of-decimal entry.uuid h.0)
    ∙ ap (λ w. option_map (λ seq. record { uuid = entry.uuid; seq = seq }) (number_of w)) (past_at colon (decimal entry.uuid) 58 (decimal entry.seq) uuid refl)
    ∙ ap (option_map (λ seq. record { uuid = entry.uuid; seq = seq })) (number_of-decimal entry.seq h.1)

-- an entry's text is clean of what no digit and no colon is
entry_clean : (p : ℕ → Bool) → ((b : ℕ) → (nat_le 48 b && nat_le b 57) ≡ true → p b ≡ false) → p 58 ≡ false → (entry : LogEntry) → IsEntryRanged entry → clean p (entry_text entry) ≡ true
unfolding entry_text
entry_clean p other colons entry h =
    clean_both p (decimal entry.uuid) (58 ∷ decimal entry.seq) (decimal_clean p other entry.uuid h.0)
    (ap (λ t. if t then false else clean p (decimal entry.seq)) colons ∙ decimal_clean p other entry.seq h.1)

abbrev entries_of : List (List ℕ) → Option (List LogEntry)
entries_of [] = Some []
entries_of (word ∷ words) = option_and_then (λ entry. option_map (λ more. entry ∷ more) (entries_of words)) (entry_of word)

entries_are : (log : List LogEntry) → All IsEntryRanged log → entries_of (map entry_text log) ≡ Some log
entries_are [] h = refl
entries_are (entry ∷ log) h =
    ap (option_and_then (λ entry. option_map (λ more. entry ∷ more) (entries_of (map entry_text log)))) (entry_is entry (All-head IsEntryRanged entry log h))
    ∙ ap (option_map (λ more. entry ∷ more)) (entries_are log (All-tail IsEntryRanged entry log h))

pub cut_again : (entry : LogEntry) (log : List LogEntry) → All IsEntryRanged (entry ∷ log) → slice_split comma (join_with_byte 44 (map entry_text (entry ∷ log))) ≡ map entry_text (entry ∷ log)
cut_again entry [] h = slice_split_none comma (entry_text entry) (clean_all comma (entry_text entry) (entry_clean comma digit_no_comma refl entry (All-head IsEntryRanged entry [] h)))
cut_again entry (older ∷ log) h =
    slice_split_at comma (entry_text entry) 44 (join_with_byte 44 (map entry_text (older ∷ log)))
    (clean_all comma (entry_text entry) (entry_clean comma digit_no_comma refl entry (All-head IsEntryRanged entry (older ∷ log) h))) refl
    ∙ ap (λ words. entry_text entry ∷ words) (cut_again older log (All-tail IsEntryRanged entry (older ∷ log) h))

-- no entries, where the word is no list of them
abbrev or_none : Option (List LogEntry) → Option (List LogEntry)
or_none None = Some []
or_none (Some log) = Some log

abbrev pub log_of : List ℕ → Option (List LogEntry)
log_of word = or_none (entries_of (slice_split comma word))

log_is : (log : List LogEntry) → All IsEntryRanged log → log_of (log_text log) ≡ Some log
unfolding number_of
log_is [] h = refl
log_is (entry ∷ log) h = ap (λ words. or_none (entries_of words)) (cut_again entry log h) ∙ ap or_none (entries_are (entry ∷ log) h)

joined_clean : (entry : LogEntry) (log : List LogEntry) → All IsEntryRanged (entry ∷ log) → clean ends (join_with_byte 44 (map entry_text (entry ∷ log))) ≡ true
joined_clean entry [] h = entry_clean ends digit_no_end refl entry (All-head IsEntryRanged entry [] h)
joined_clean entry (older ∷ log) h =
    clean_both ends (entry_text entry) (44 ∷ join_with_byte 44 (map entry_text (older ∷ log)))
    (entry_clean ends digit_no_end refl entry (All-head IsEntryRanged entry (older ∷ log) h))
    (joined_clean older log (All-tail IsEntryRanged entry (older ∷ log) h))

pub log_clean : (log : List LogEntry) → All IsEntryRanged log → clean ends (log_text log) ≡ true
log_clean [] h = refl
log_clean (entry ∷ log) h = joined_clean entry log h

pub log_back : {X : Type 0} (log : List LogEntry) (s : ℕ) (rest : List ℕ) (k : List LogEntry → List ℕ → Option X) → All IsEntryRanged log → ends s ≡ true → reading log_of (log_text log ++ s ∷ rest) k ≡ k log rest
log_back log s rest k h e = read_word log_of (log_text log) log s rest k (log_clean log h) e (log_is log h)

-- ---- how a request was answered

abbrev verdict_of : {X : Type 0} → List ℕ → List ℕ → (AskAnswer → List ℕ → Option X) → Option X
verdict_of word text k =
    if bytes_eq word (codes "go") then k asked.Go text
    else if bytes_eq word (codes "roll") then reading number_of text (λ seq text. k (asked.Roll seq) text)
    else reading number_of text (λ status text. k (asked.Refuse status) text)

abbrev verdict_in : {X : Type 0} → List ℕ → (AskAnswer → List ℕ → Option X) → Option X
verdict_in text k = verdict_of (upto ends text) (past ends text) k

verdict_back : {X : Type 0} (a : AskAnswer) (s : ℕ) (rest : List ℕ) (k : AskAnswer → List ℕ → Option X) → IsVerdictRanged a → ends s ≡ true → verdict_in (verdict_text a ++ s ∷ rest) k ≡ k a rest
verdict_back asked.Go s rest k h e =
    ap (λ w. verdict_of w (past ends (codes "go" ++ s ∷ rest)) k) (upto_at ends (codes "go") s rest refl e)
    ∙ ap (k asked.Go) (past_at ends (codes "go") s rest refl e)
verdict_back (asked.Roll seq) s rest k h e = number_back seq s _ _ h e
verdict_back (asked.Refuse status) s rest k h e = number_back status s _ _ h e

unfoldable pub asked_in : {X : Type 0} → List ℕ → (ℕ → List LogEntry → AskAnswer → List ℕ → Option X) → Option X
asked_in text k = reading number_of text (λ high text. reading log_of text (λ log text. verdict_in text (λ answer text. k high log answer text)))

pub asked_back : {X : Type 0} (high : ℕ) (log : List LogEntry) (answer : AskAnswer) (s : ℕ) (rest : List ℕ) (k : ℕ → List LogEntry → AskAnswer → List ℕ → Option X)
    → IsWide high → All IsEntryRanged log → IsVerdictRanged answer → ends s ≡ true → asked_in (request_text high log answer ++ s ∷ rest) k ≡ k high log answer rest
unfolding asked_in request_text
asked_back high log answer s rest k h0 h1 h2 e =
    ap (λ text. asked_in text k) (spaced_in_row (decimal high ∷ log_text log ∷ verdict_text answer ∷ []) s rest)
    ∙ number_back high 32 _ _ h0 refl
    ∙ log_back log 32 _ _ h1 refl
    ∙ verdict_back answer s rest (k high log) h2 e
