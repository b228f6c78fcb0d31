-- what a line is taken for is within the ranges of the code's types
use Rattle.std.proofs.Common.{◌≡◌, ℕ, ◌+◌, ◌^◌, ◌<◌, Bool, true, false, List, [], ◌∷◌, length, take, drop, Option, Some, None, Result, Ok, Err, refl, arith, map, mod-lt}
use Rattle.std.specs.Prelude.{◌==◌, ◌&&◌, if◌then◌else◌, nat_le, position, codes, IfSome}
use Rattle.std.specs.List.{slice_split}
use Rattle.std.specs.Option.{option_map, unwrap_or}
use Rattle.std.specs.Str.{bytes_eq}
use Rattle.std.proofs.lemmas.List.Elements.{All-nil, All-cons}
use Rattle.hex.specs.Hex.{IsBytes, decode_of}
use Rattle.hex.specs.declared.error.FromHexError.{FromHexError}
use Rattle.hex.proofs.HexLemmas.{decode_of-ok}
use Rattle.vb_types.specs.Limits.{IsKey, IsValue, key_of, value_of}
use Rattle.vb_types.specs.declared.doc.Doc.{Doc}
use Rattle.vb_types.specs.declared.change.Act.{Act}
use Rattle.vb_types.specs.declared.change.Act.TheVariants as act
use Rattle.vb_types.specs.declared.role.LogEntry.{LogEntry}
use Rattle.vb_types.specs.declared.stream.AskAnswer.TheVariants as asked
use Rattle.vb_events.specs.declared.event.StreamName.TheVariants as stream
use Rattle.vb_events.specs.declared.event.Why.{Why}
use Rattle.vb_events.specs.declared.event.Answer.TheVariants as answer
use Rattle.script_text.specs.Numbers.{number_of}
use Rattle.script_text.specs.Grammar.{if_decoded, hex_bytes_of}
use Rattle.script_text.specs.Held.{IsKeyHeld, IsDocHeld, IsActHeld, IsChangeHeld, IsEntryHeld, IsLogHeld, IsStreamHeld, IsVerdictHeld, IsParentHeld, IsEventHeld, IsAnswerHeld}
use Rattle.script_text.specs.Lines.{words_of}
use Rattle.script_text.specs.Taken.{word_at, as_long, as_int, as_short, as_byte, as_link, client_with, as_client, as_stream, as_bytes, as_entry, as_log, doc_with, as_doc, as_prepare, as_commit, as_act, change_with, as_change, as_verdict}
use Rattle.script_text.specs.TakenLines.{as_armed, as_counted, document_with, as_shown, as_acknowledged, as_follower, as_streamed, as_event, as_worded, line_taken}
use Rattle.script_text.specs.declared.line.TheConstants.{WORDS_READ}
use Rattle.script_text.specs.declared.read_lines.Line.{Line}
use Rattle.script_text.specs.declared.read_lines.Line.TheVariants as line
use Rattle.script_text.proofs.Decimals.{numbers}

-- ---- numbers and bytes

long_by : (o : Option ℕ) → ((n : ℕ) → o ≡ Some n → n < 2 ^ 64) → unwrap_or o 0 < 2 ^ 64
long_by None h = omega arith
long_by (Some n) h = h n refl

long_held : (word : List ℕ) → as_long word < 2 ^ 64
long_held word = long_by (number_of word) (λ n e. ((numbers word n).0 e).1)

int_held : (word : List ℕ) → as_int word < 2 ^ 32
int_held word = mod-lt (as_long word) (omega arith)

short_held : (word : List ℕ) → as_short word < 2 ^ 16
short_held word = mod-lt (as_long word) (omega arith)

byte_held : (word : List ℕ) → as_byte word < 2 ^ 8
byte_held word = mod-lt (as_long word) (omega arith)

link_held : (word : List ℕ) → as_link word < 2 ^ 32
link_held [] = omega arith
link_held (b ∷ word) = int_held word

client_held : (text : List ℕ) (at : Option ℕ) → IsStreamHeld (client_with text at)
client_held text None = (omega arith, omega arith)
client_held text (Some at) = (byte_held (take at text), int_held (drop (at + 1) text))

-- a stream's connection, by whether it is a client's
stream_by : (t : Bool) (text : List ℕ) (link : ℕ) → link < 2 ^ 32 → IsStreamHeld (if t then as_client text else stream.Link link)
stream_by true text link h = client_held text (position (λ b. b == 46) text)
stream_by false text link h = h

stream_held : (word : List ℕ) → IsStreamHeld (as_stream word)
stream_held [] = omega arith
stream_held (b ∷ word) = stream_by (b == 67) word (as_int word) (int_held word)

by_number : (o : Option ℕ) → ((n : ℕ) → o ≡ Some n → n < 2 ^ 64) → IsParentHeld o
by_number None h = tt
by_number (Some n) h = h n refl

parent_held : (word : List ℕ) → IsParentHeld (number_of word)
parent_held word = by_number (number_of word) (λ n e. ((numbers word n).0 e).1)

no_bytes : IsBytes []
no_bytes i = omega arith

decoded_bytes : (r : Result (List ℕ) FromHexError) → ((bytes : List ℕ) → r ≡ Ok bytes → IsBytes bytes) → IsBytes (unwrap_or (if_decoded r) [])
decoded_bytes (Ok bytes) h = h bytes refl
decoded_bytes (Err e) h = no_bytes

bytes_by : (t : Bool) (o : Option (List ℕ)) → IsBytes (unwrap_or o []) → IsBytes (unwrap_or (if t then None else o) [])
bytes_by true o h = no_bytes
bytes_by false o h = h

bytes_held : (word : List ℕ) → IsBytes (as_bytes word)
unfolding as_bytes hex_bytes_of
bytes_held word = bytes_by (length word == 0) (if_decoded (decode_of word)) (decoded_bytes (decode_of word) (λ bytes e. (decode_of-ok word bytes e).3))

-- ---- values that are there

either_some : {A : Type 0} (P : A → Type 0) (t : Bool) (x y : Option A) → IfSome x P → IfSome y P → IfSome (if t then x else y) P
either_some P true x y h k = h
either_some P false x y h k = k

some_map : {A B : Type 0} (P : A → Type 0) (Q : B → Type 0) (f : A → B) (o : Option A) → IfSome o P → ((a : A) → P a → Q (f a)) → IfSome (option_map f o) Q
some_map P Q f None h k = tt
some_map P Q f (Some a) h k = k a h

key_by : (bytes : List ℕ) (t : Bool) → (t ≡ true → IsKey bytes) → IsBytes bytes → IfSome (if t then Some bytes else None) IsKeyHeld
key_by bytes true h k = (k, h refl)
key_by bytes false h k = tt

key_fits : (bytes : List ℕ) → (nat_le 1 (length bytes) && nat_le (length bytes) 250) ≡ true → IsKey bytes
key_fits bytes h = grind (arith)

key_held : (word : List ℕ) → IfSome (key_of (as_bytes word)) IsKeyHeld
key_held word = key_by (as_bytes word) _ (key_fits (as_bytes word)) (bytes_held word)

-- a value's bytes
abbrev IsValueHeld : List ℕ → Type 0
IsValueHeld value = IsBytes value × IsValue value

value_by : (bytes : List ℕ) (t : Bool) → (t ≡ true → IsValue bytes) → IsBytes bytes → IfSome (if t then Some bytes else None) IsValueHeld
value_by bytes true h k = (k, h refl)
value_by bytes false h k = tt

value_fits : (bytes : List ℕ) → nat_le (length bytes) 20971520 ≡ true → IsValue bytes
value_fits bytes h = grind (arith)

value_held : (word : List ℕ) → IfSome (value_of (as_bytes word)) IsValueHeld
value_held word = value_by (as_bytes word) _ (value_fits (as_bytes word)) (bytes_held word)

-- ---- documents and changes

doc_held : (words : List (List ℕ)) (at : ℕ) → IfSome (as_doc words at) IsDocHeld
doc_held words at =
    some_map IsValueHeld IsDocHeld (doc_with words at) (value_of (as_bytes (word_at words (at + 5)))) (value_held (word_at words (at + 5)))
    (λ value h. (long_held (word_at words at), long_held (word_at words (at + 1)), int_held (word_at words (at + 2)), int_held (word_at words (at + 3)), byte_held (word_at words (at + 4)), h.0, h.1))

act_held : (words : List (List ℕ)) (at : ℕ) → IfSome (as_act words at) IsActHeld
act_held words at =
    let doc = doc_held words (at + 2) in
    either_some IsActHeld (bytes_eq (word_at words at) (codes "set")) _ _ (some_map IsDocHeld IsActHeld act.Set (as_doc words (at + 2)) doc (λ d h. h))
    (either_some IsActHeld (bytes_eq (word_at words at) (codes "remove")) _ _ (long_held (word_at words (at + 2)), long_held (word_at words (at + 3)))
    (either_some IsActHeld (bytes_eq (word_at words at) (codes "prepare")) (as_prepare words at) _ (some_map IsDocHeld IsActHeld _ (as_doc words (at + 2)) doc (λ d h. h))
    (either_some IsActHeld (bytes_eq (word_at words at) (codes "commit")) (as_commit words at) _ (some_map IsDocHeld IsActHeld _ (as_doc words (at + 2)) doc (λ d h. (h, long_held (word_at words (at + 8)))))
    (long_held (word_at words (at + 2))))))

change_by : (seq : ℕ) (key : Option (List ℕ)) (a : Option Act) → seq < 2 ^ 64 → IfSome key IsKeyHeld → IfSome a IsActHeld → IfSome (change_with seq key a) IsChangeHeld
change_by seq None a h k l = tt
change_by seq (Some key) None h k l = tt
change_by seq (Some key) (Some a) h k l = (h, k, l)

change_held : (words : List (List ℕ)) (at : ℕ) → IfSome (as_change words at) IsChangeHeld
unfolding as_change
change_held words at =
    change_by (as_long (word_at words at)) (key_of (as_bytes (word_at words (at + 2)))) (as_act words (at + 1)) (long_held (word_at words at)) (key_held (word_at words (at + 2))) (act_held words (at + 1))

-- ---- failover logs and requests

entries_held : (texts : List (List ℕ)) → IsLogHeld (map as_entry texts)
entries_held [] = All-nil IsEntryHeld
entries_held (text ∷ texts) =
    let parts = slice_split (λ b. b == 58) text in
    All-cons IsEntryHeld (as_entry text) (map as_entry texts) (long_held (word_at parts 0), long_held (word_at parts 1)) (entries_held texts)

log_by : (t : Bool) (log : List LogEntry) → IsLogHeld log → IsLogHeld (if t then [] else log)
log_by true log h = All-nil IsEntryHeld
log_by false log h = h

log_held : (word : List ℕ) → IsLogHeld (as_log word)
unfolding as_log
log_held word = log_by (bytes_eq word (codes "-")) _ (entries_held (slice_split (λ b. b == 44) word))

verdict_by : (t u : Bool) (seq status : ℕ) → seq < 2 ^ 64 → status < 2 ^ 16 → IsVerdictHeld (if t then asked.Go else if u then asked.Roll seq else asked.Refuse status)
verdict_by true u seq status h k = tt
verdict_by false true seq status h k = h
verdict_by false false seq status h k = k

verdict_held : (words : List (List ℕ)) (at : ℕ) → IsVerdictHeld (as_verdict words at)
verdict_held words at =
    verdict_by (bytes_eq (word_at words at) (codes "go")) (bytes_eq (word_at words at) (codes "roll")) _ _ (long_held (word_at words (at + 1))) (short_held (word_at words (at + 1)))

-- ---- events

armed_held : (words : List (List ℕ)) → IfSome (as_armed words) IsEventHeld
armed_held words =
    let at = word_at words in
    either_some IsEventHeld (bytes_eq (word_at words 0) (codes "failed")) _ _ (byte_held (at 1))
    (either_some IsEventHeld (bytes_eq (word_at words 0) (codes "stopped")) _ _ (byte_held (at 1))
    tt)

counted_held : (words : List (List ℕ)) → IfSome (as_counted words) IsEventHeld
counted_held words =
    let at = word_at words in
    either_some IsEventHeld (bytes_eq (word_at words 0) (codes "batch")) _ _ ((byte_held (at 1), short_held (at 2)), long_held (at 3), long_held (at 4), long_held (at 5), long_held (at 6))
    (either_some IsEventHeld (bytes_eq (word_at words 0) (codes "stat")) _ _ ((byte_held (at 1), short_held (at 2)), long_held (at 3), long_held (at 4), long_held (at 5), long_held (at 6), long_held (at 7))
    (armed_held words))

document_held : (key : Option (List ℕ)) (doc : Option Doc) → IfSome key IsKeyHeld → IfSome doc IsDocHeld → IfSome (document_with key doc) IsEventHeld
document_held None doc h k = tt
document_held (Some key) None h k = tt
document_held (Some key) (Some doc) h k = (h, k)

shown_held : (words : List (List ℕ)) → IfSome (as_shown words) IsEventHeld
shown_held words =
    let at = word_at words in
    either_some IsEventHeld (bytes_eq (word_at words 0) (codes "shown")) _ _ ((byte_held (at 1), short_held (at 2)), long_held (at 4), long_held (at 5), long_held (at 6), long_held (at 7), long_held (at 8), long_held (at 9))
    (either_some IsEventHeld (bytes_eq (word_at words 0) (codes "logged")) _ _ ((byte_held (at 1), short_held (at 2)), log_held (at 3))
    (either_some IsEventHeld (bytes_eq (word_at words 0) (codes "doc")) _ _ (document_held (key_of (as_bytes (at 1))) (as_doc words 2) (key_held (at 1)) (doc_held words 2))
    (either_some IsEventHeld (bytes_eq (word_at words 0) (codes "prep")) _ _ (some_map IsKeyHeld IsEventHeld _ (key_of (as_bytes (at 1))) (key_held (at 1)) (λ key h. (h, long_held (at 2))))
    (counted_held words))))

acknowledged_held : (words : List (List ℕ)) → IfSome (as_acknowledged words) IsEventHeld
acknowledged_held words =
    let at = word_at words in
    either_some IsEventHeld (bytes_eq (word_at words 0) (codes "ack")) _ _ (stream_held (at 1), (byte_held (at 2), short_held (at 3)), long_held (at 4), long_held (at 5))
    (either_some IsEventHeld (bytes_eq (word_at words 0) (codes "acked")) _ _ (stream_held (at 1), (byte_held (at 2), short_held (at 3)), byte_held (at 4), long_held (at 5))
    (shown_held words))

follower_held : (words : List (List ℕ)) → IfSome (as_follower words) IsEventHeld
follower_held words =
    let at = word_at words in
    either_some IsEventHeld (bytes_eq (word_at words 0) (codes "adopt")) _ _ ((byte_held (at 1), short_held (at 2)), log_held (at 3))
    (either_some IsEventHeld (bytes_eq (word_at words 0) (codes "range")) _ _ ((byte_held (at 1), short_held (at 2)), long_held (at 3), long_held (at 4))
    (either_some IsEventHeld (bytes_eq (word_at words 0) (codes "got")) _ _ (some_map IsChangeHeld IsEventHeld _ (as_change words 4) (change_held words 4) (λ change h. ((byte_held (at 1), short_held (at 2)), stream_held (at 3), h)))
    (either_some IsEventHeld (bytes_eq (word_at words 0) (codes "rolled")) _ _ ((byte_held (at 1), short_held (at 2)), long_held (at 3), long_held (at 4))
    (either_some IsEventHeld (bytes_eq (word_at words 0) (codes "end")) _ _ (link_held (at 1))
    (acknowledged_held words)))))

streamed_held : (words : List (List ℕ)) → IfSome (as_streamed words) IsEventHeld
streamed_held words =
    let at = word_at words in
    either_some IsEventHeld (bytes_eq (word_at words 0) (codes "ask")) _ _ (stream_held (at 1), (byte_held (at 2), short_held (at 3)), (long_held (at 4), long_held (at 5), long_held (at 6), long_held (at 7), long_held (at 8), int_held (at 9)), long_held (at 10), log_held (at 11), verdict_held words 12)
    (either_some IsEventHeld (bytes_eq (word_at words 0) (codes "mark")) _ _ (stream_held (at 1), long_held (at 2), long_held (at 3), int_held (at 4))
    (either_some IsEventHeld (bytes_eq (word_at words 0) (codes "item")) _ _ (some_map IsKeyHeld IsEventHeld _ (key_of (as_bytes (at 4))) (key_held (at 4)) (λ key h. (stream_held (at 1), long_held (at 2), h)))
    (either_some IsEventHeld (bytes_eq (word_at words 0) (codes "fin")) _ _ (stream_held (at 1), int_held (at 2))
    (either_some IsEventHeld (bytes_eq (word_at words 0) (codes "state")) _ _ (stream_held (at 1))
    (follower_held words)))))

event_held : (words : List (List ℕ)) → IfSome (as_event words) IsEventHeld
event_held words =
    let at = word_at words in
    either_some IsEventHeld (bytes_eq (word_at words 0) (codes "branch")) _ _ ((byte_held (at 1), short_held (at 2)), long_held (at 3), parent_held (at 4), long_held (at 5), long_held (at 6))
    (either_some IsEventHeld (bytes_eq (word_at words 0) (codes "role")) _ _ (byte_held (at 1), short_held (at 2))
    (either_some IsEventHeld (bytes_eq (word_at words 0) (codes "change")) _ _ (some_map IsChangeHeld IsEventHeld _ (as_change words 4) (change_held words 4) (λ change h. ((byte_held (at 1), short_held (at 2)), long_held (at 3), h)))
    (either_some IsEventHeld (bytes_eq (word_at words 0) (codes "reply")) _ _ (byte_held (at 1), int_held (at 2), bytes_held (at 3))
    (either_some IsEventHeld (bytes_eq (word_at words 0) (codes "closed")) _ _ (byte_held (at 1), int_held (at 2))
    (streamed_held words)))))

-- ---- lines

-- a line in range
abbrev pub IsLineHeld : Line → Type 0
IsLineHeld (line.Head number) = number < 2 ^ 64
IsLineHeld (line.Event e) = IsEventHeld e
IsLineHeld (line.Answer a) = IsAnswerHeld a

ok_by : (t u : Bool) (number : ℕ) (w : Why) → number < 2 ^ 64 → IsAnswerHeld (if t then answer.Ok else if u then answer.Number number else answer.Pulled number w)
ok_by true u number w h = tt
ok_by false true number w h = h
ok_by false false number w h = h

worded_held : (words : List (List ℕ)) → IfSome (as_worded words) IsLineHeld
worded_held words =
    either_some IsLineHeld (bytes_eq (word_at words 0) (codes "ok")) _ _ (ok_by (length words == 1) (length words == 2) _ _ (long_held (word_at words 1)))
    (either_some IsLineHeld (bytes_eq (word_at words 0) (codes "no")) _ _ tt
    (some_map IsEventHeld IsLineHeld line.Event (as_event words) (event_held words) (λ e h. h)))

pub taken_held : (text : List ℕ) → IfSome (line_taken text) IsLineHeld
unfolding line_taken
taken_held [] = worded_held (take WORDS_READ (words_of []))
taken_held (b ∷ text) = either_some IsLineHeld (b == 35) _ _ (long_held text) (worded_held (take WORDS_READ (words_of (b ∷ text))))
