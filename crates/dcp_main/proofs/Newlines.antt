-- texts without newlines
use Rattle.std.proofs.Common.{◌≡◌, ℕ, zero, suc, ◌+◌, ◌/◌, ◌%◌, Bool, true, false, List, [], ◌∷◌, ◌++◌, Option, Some, None, length, get_or, map, refl, ap, ◌∙◌, arith}
use Rattle.std.specs.Prelude.{◌==◌, if◌then◌else◌, codes, decimal}
use Rattle.std.specs.List.{join_with_byte}
use Rattle.std.specs.Fmt.{digits, digits_onto, digit_glyph}
use Rattle.hex.specs.Hex.{encode_lower, encode_with, lower_digits}
use Rattle.vb_types.specs.declared.doc.Doc.{Doc}
use Rattle.vb_types.specs.declared.change.Act.{Act}
use Rattle.vb_types.specs.declared.change.Act.TheVariants as act
use Rattle.vb_types.specs.declared.change.Level.{Level}
use Rattle.vb_types.specs.declared.change.Level.TheVariants as level
use Rattle.vb_types.specs.declared.role.Role.{Role}
use Rattle.vb_types.specs.declared.role.Role.TheVariants as role
use Rattle.vb_types.specs.declared.role.LogEntry.{LogEntry}
use Rattle.vb_types.specs.declared.stream.StreamAsk.{StreamAsk}
use Rattle.vb_types.specs.declared.stream.AskAnswer.{AskAnswer}
use Rattle.vb_types.specs.declared.stream.AskAnswer.TheVariants as asked
use Rattle.vb_events.specs.declared.event.StreamName.{StreamName}
use Rattle.vb_events.specs.declared.event.StreamName.TheVariants as stream
use Rattle.vb_events.specs.declared.event.ItemAct.{ItemAct}
use Rattle.vb_events.specs.declared.event.ItemAct.TheVariants as sent
use Rattle.vb_events.specs.declared.event.EndReason.{EndReason}
use Rattle.vb_events.specs.declared.event.EndReason.TheVariants as reason
use Rattle.vb_events.specs.declared.event.Why.{Why}
use Rattle.vb_events.specs.declared.event.Why.TheVariants as why
use Rattle.vb_events.specs.declared.event.Cause.{Cause}
use Rattle.vb_events.specs.declared.event.Cause.TheVariants as cause
use Rattle.script_text.specs.Transcript as text
use Rattle.dcp_main.specs.Summaries.{newlines}

-- ---- texts one behind the other

chosen : (t : Bool) (m n k : ℕ) → m ≡ n + k → (if t then 1 + m else m) ≡ (if t then 1 + n else n) + k
chosen true m n k h = omega (arith, h)
chosen false m n k h = h

pub newlines_both : (a b : List ℕ) → newlines (a ++ b) ≡ newlines a + newlines b
newlines_both [] b = omega arith
newlines_both (x ∷ a) b = chosen (x == 10) (newlines (a ++ b)) (newlines a) (newlines b) (newlines_both a b)

-- how many newlines are in some words
abbrev pub in_words : List (List ℕ) → ℕ
in_words [] = 0
in_words (word ∷ words) = newlines word + in_words words

spaced_plain : (words : List (List ℕ)) → newlines (join_with_byte 32 words) ≡ in_words words
spaced_plain [] = refl
spaced_plain (word ∷ []) = omega arith
spaced_plain (word ∷ next ∷ words) = omega (arith, newlines_both word (32 ∷ join_with_byte 32 (next ∷ words)), spaced_plain (next ∷ words))

commas_plain : (words : List (List ℕ)) → newlines (join_with_byte 44 words) ≡ in_words words
commas_plain [] = refl
commas_plain (word ∷ []) = omega arith
commas_plain (word ∷ next ∷ words) = omega (arith, newlines_both word (44 ∷ join_with_byte 44 (next ∷ words)), commas_plain (next ∷ words))

-- ---- numbers and bytes

other_byte : (b : ℕ) (text : List ℕ) → (b == 10) ≡ false → newlines (b ∷ text) ≡ newlines text
other_byte b text h = ap (λ t. if t then 1 + newlines text else newlines text) h

digit_other : (d : ℕ) → (digit_glyph false (d % 10) == 10) ≡ false
digit_other d = grind (arith)

by_end : (t : Bool) (d : ℕ) (more longer : List ℕ) → newlines more ≡ 0 → newlines (d ∷ more) ≡ 0 → newlines longer ≡ 0 → newlines (if t then d ∷ more else longer) ≡ 0
by_end true d more longer h k l = k
by_end false d more longer h k l = l

digits_plain : (k n : ℕ) (more : List ℕ) → newlines more ≡ 0 → newlines (digits_onto k 10 false n more) ≡ 0
digits_plain zero n more h = h
digits_plain (suc k) n more h =
    let d = digit_glyph false (n % 10) in
    let one = other_byte d more (digit_other n) ∙ h in
    by_end (n / 10 == 0) d more (digits_onto k 10 false (n / 10) (d ∷ more)) h one (digits_plain k (n / 10) (d ∷ more) one)

pub decimal_plain : (n : ℕ) → newlines (decimal n) ≡ 0
unfolding digits
decimal_plain n = digits_plain 64 n [] refl

first_plain : (t : Bool) (n : ℕ) → (if t then 1 + n else n) ≡ 0 → t ≡ false
first_plain true n h = absurd (omega (arith, h))
first_plain false n h = refl

rest_plain : (t : Bool) (n : ℕ) → (if t then 1 + n else n) ≡ 0 → n ≡ 0
rest_plain true n h = absurd (omega (arith, h))
rest_plain false n h = h

-- a byte of a text without newlines, or 0 behind it
at_plain : (text : List ℕ) (i : ℕ) → newlines text ≡ 0 → (get_or text i 0 == 10) ≡ false
at_plain [] i h = refl
at_plain (b ∷ text) zero h = first_plain (b == 10) (newlines text) h
at_plain (b ∷ text) (suc i) h = at_plain text i (rest_plain (b == 10) (newlines text) h)

hex_plain : (bytes : List ℕ) → newlines (encode_lower bytes) ≡ 0
unfolding encode_with
hex_plain [] = refl
hex_plain (b ∷ bytes) =
    let rest = encode_lower bytes in
    let low = get_or lower_digits (b % 16) 0 in
    other_byte (get_or lower_digits (b / 16) 0) (low ∷ rest) (at_plain lower_digits (b / 16) refl)
    ∙ other_byte low rest (at_plain lower_digits (b % 16) refl) ∙ hex_plain bytes

if_plain : (t : Bool) (bytes : List ℕ) → newlines (if t then codes "-" else encode_lower bytes) ≡ 0
if_plain true bytes = refl
if_plain false bytes = hex_plain bytes

pub hex_text_plain : (bytes : List ℕ) → newlines (text.hex_text bytes) ≡ 0
unfolding text.hex_text
hex_text_plain bytes = if_plain (length bytes == 0) bytes

-- ---- parts of lines

pub words_plain : (words : List (List ℕ)) → in_words words ≡ 0 → newlines (text.spaced words) ≡ 0
words_plain words h = spaced_plain words ∙ h

pub place_plain : (node vb : ℕ) → newlines (text.place_text node vb) ≡ 0
unfolding text.place_text
place_plain node vb = words_plain (decimal node ∷ decimal vb ∷ []) (omega (arith, decimal_plain node, decimal_plain vb))

pub link_plain : (link : ℕ) → newlines (text.link_text link) ≡ 0
unfolding text.link_text
link_plain link = omega (arith, newlines_both (codes "L") (decimal link), decimal_plain link)

pub client_plain : (node client : ℕ) → newlines (text.client_text node client) ≡ 0
unfolding text.client_text
client_plain node client =
    omega (arith, newlines_both (codes "C") (decimal node ++ 46 ∷ decimal client), newlines_both (decimal node) (46 ∷ decimal client), decimal_plain node, decimal_plain client)

pub stream_plain : (name : StreamName) → newlines (text.stream_text name) ≡ 0
stream_plain (stream.Link link) = link_plain link
stream_plain (stream.Client node client) = client_plain node client

pub extent_plain : (at ss se docs preps : ℕ) → newlines (text.extent_text at ss se docs preps) ≡ 0
unfolding text.extent_text
extent_plain at ss se docs preps =
    words_plain (decimal at ∷ decimal ss ∷ decimal se ∷ decimal docs ∷ decimal preps ∷ [])
    (omega (arith, decimal_plain at, decimal_plain ss, decimal_plain se, decimal_plain docs, decimal_plain preps))

pub parent_plain : (parent : Option ℕ) → newlines (text.parent_text parent) ≡ 0
parent_plain None = refl
parent_plain (Some uuid) = decimal_plain uuid

pub flag_plain : (flag : Bool) → newlines (text.flag_text flag) ≡ 0
flag_plain false = refl
flag_plain true = refl

pub role_plain : (r : Role) → newlines (text.role_text r) ≡ 0
role_plain role.Active = refl
role_plain role.Replica = refl
role_plain role.Pending = refl
role_plain role.Dead = refl

pub level_plain : (l : Level) → newlines (text.level_text l) ≡ 0
level_plain level.Majority = refl
level_plain level.MajorityPersistActive = refl
level_plain level.PersistMajority = refl

pub doc_plain : (doc : Doc) → newlines (text.doc_text doc) ≡ 0
unfolding text.doc_text
doc_plain doc =
    words_plain (decimal doc.cas ∷ decimal doc.rev ∷ decimal doc.flags ∷ decimal doc.expiry ∷ decimal doc.datatype ∷ text.hex_text doc.value ∷ [])
    (omega (arith, decimal_plain doc.cas, decimal_plain doc.rev, decimal_plain doc.flags, decimal_plain doc.expiry, decimal_plain doc.datatype, hex_text_plain doc.value))

pub act_plain : (key : List ℕ) (a : Act) → newlines (text.act_text key a) ≡ 0
unfolding text.act_text
act_plain key (act.Set doc) = words_plain (codes "set" ∷ text.hex_text key ∷ text.doc_text doc ∷ []) (omega (arith, hex_text_plain key, doc_plain doc))
act_plain key (act.Remove cas rev) =
    words_plain (codes "remove" ∷ text.hex_text key ∷ decimal cas ∷ decimal rev ∷ []) (omega (arith, hex_text_plain key, decimal_plain cas, decimal_plain rev))
act_plain key (act.Prepare level doc deleted) =
    words_plain (codes "prepare" ∷ text.hex_text key ∷ text.doc_text doc ∷ text.level_text level ∷ text.flag_text deleted ∷ [])
    (omega (arith, hex_text_plain key, doc_plain doc, level_plain level, flag_plain deleted))
act_plain key (act.Commit prepared doc deleted) =
    words_plain (codes "commit" ∷ text.hex_text key ∷ text.doc_text doc ∷ decimal prepared ∷ text.flag_text deleted ∷ [])
    (omega (arith, hex_text_plain key, doc_plain doc, decimal_plain prepared, flag_plain deleted))
act_plain key (act.Abort prepared) =
    words_plain (codes "abort" ∷ text.hex_text key ∷ decimal prepared ∷ []) (omega (arith, hex_text_plain key, decimal_plain prepared))

entry_plain : (entry : LogEntry) → newlines (text.entry_text entry) ≡ 0
unfolding text.entry_text
entry_plain entry = omega (arith, newlines_both (decimal entry.uuid) (58 ∷ decimal entry.seq), decimal_plain entry.uuid, decimal_plain entry.seq)

entries_plain : (log : List LogEntry) → in_words (map text.entry_text log) ≡ 0
entries_plain [] = refl
entries_plain (entry ∷ log) = omega (arith, entry_plain entry, entries_plain log)

pub log_plain : (log : List LogEntry) → newlines (text.log_text log) ≡ 0
log_plain [] = refl
log_plain (newest ∷ older) = commas_plain (map text.entry_text (newest ∷ older)) ∙ entries_plain (newest ∷ older)

pub ask_plain : (ask : StreamAsk) → newlines (text.ask_text ask) ≡ 0
unfolding text.ask_text
ask_plain ask =
    words_plain (decimal ask.uuid ∷ decimal ask.start ∷ decimal ask.end ∷ decimal ask.ss ∷ decimal ask.se ∷ decimal ask.flags ∷ [])
    (omega (arith, decimal_plain ask.uuid, decimal_plain ask.start, decimal_plain ask.end, decimal_plain ask.ss, decimal_plain ask.se, decimal_plain ask.flags))

pub verdict_plain : (said : AskAnswer) → newlines (text.verdict_text said) ≡ 0
verdict_plain asked.Go = refl
verdict_plain (asked.Roll seq) = words_plain (codes "roll" ∷ decimal seq ∷ []) (omega (arith, decimal_plain seq))
verdict_plain (asked.Refuse status) = words_plain (codes "refuse" ∷ decimal status ∷ []) (omega (arith, decimal_plain status))

pub request_plain : (high : ℕ) (log : List LogEntry) (said : AskAnswer) → newlines (text.request_text high log said) ≡ 0
unfolding text.request_text
request_plain high log said =
    words_plain (decimal high ∷ text.log_text log ∷ text.verdict_text said ∷ []) (omega (arith, decimal_plain high, log_plain log, verdict_plain said))

pub sent_plain : (a : ItemAct) → newlines (text.sent_text a) ≡ 0
sent_plain sent.Set = refl
sent_plain sent.Remove = refl
sent_plain sent.Prepare = refl
sent_plain sent.Commit = refl
sent_plain sent.Abort = refl

pub reason_plain : (r : EndReason) → newlines (text.reason_text r) ≡ 0
reason_plain reason.Cut = refl
reason_plain reason.Refused = refl
reason_plain reason.Protocol = refl
reason_plain reason.Done = refl
reason_plain reason.State = refl
reason_plain reason.Disk = refl

pub cause_plain : (c : Cause) → newlines (text.cause_text c) ≡ 0
cause_plain cause.UnknownNode = refl
cause_plain cause.NodeExists = refl
cause_plain cause.NodeUp = refl
cause_plain cause.NodeDown = refl
cause_plain cause.UnknownVb = refl
cause_plain cause.VbExists = refl
cause_plain cause.Limit = refl
cause_plain cause.UuidZero = refl
cause_plain cause.UuidUsed = refl
cause_plain cause.IdsShort = refl
cause_plain cause.WrongRole = refl
cause_plain cause.ChainBad = refl
cause_plain cause.LinkOpen = refl
cause_plain cause.LinkClosed = refl
cause_plain cause.BatchOut = refl
cause_plain cause.NothingTaken = refl
cause_plain cause.Closed = refl
cause_plain cause.Disk = refl
cause_plain cause.Stopped = refl

pub why_plain : (w : Why) → newlines (text.why_text w) ≡ 0
why_plain why.All = refl
why_plain why.Idle = refl
why_plain why.Full = refl
why_plain why.WaitState = refl
why_plain why.WaitSaved = refl
why_plain why.Disk = refl
