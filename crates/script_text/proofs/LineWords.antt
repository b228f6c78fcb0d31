-- each line that is printed is taken for what it tells
use Rattle.std.proofs.Common.{◌≡◌, ◌≢◌, ℕ, ◌^◌, ◌<◌, Bool, true, false, List, [], ◌∷◌, ◌++◌, take, Option, Some, refl, ap, ◌∙◌, arith}
use Rattle.std.specs.Prelude.{◌==◌, if◌then◌else◌, codes, decimal}
use Rattle.std.specs.Option.{option_map}
use Rattle.std.proofs.lemmas.Bool.{eqb-false}
use Rattle.std.proofs.lemmas.List.Elements.{All-cons}
use Rattle.vb_types.specs.declared.stream.AskAnswer.TheVariants as asked
use Rattle.vb_types.specs.declared.role.LogEntry.{LogEntry}
use Rattle.vb_events.specs.declared.event.Event.{Event}
use Rattle.vb_events.specs.declared.event.Event.TheVariants as event
use Rattle.vb_events.specs.declared.event.ItemAct.{ItemAct}
use Rattle.vb_events.specs.declared.event.ItemAct.TheVariants as sent
use Rattle.vb_events.specs.declared.event.EndReason.{EndReason}
use Rattle.vb_events.specs.declared.event.EndReason.TheVariants as reason
use Rattle.vb_events.specs.declared.event.Why.{Why}
use Rattle.vb_events.specs.declared.event.Why.TheVariants as why
use Rattle.vb_events.specs.declared.event.Cause.{Cause}
use Rattle.vb_events.specs.declared.event.Cause.TheVariants as cause
use Rattle.vb_events.specs.declared.event.Answer.{Answer}
use Rattle.vb_events.specs.declared.event.Answer.TheVariants as answer
use Rattle.script_text.specs.Lines.{words_of}
use Rattle.script_text.specs.Transcript.{spaced, stream_text, hex_text, log_text, role_text, level_text, sent_text, reason_text, why_text, cause_text, request_text, event_text, event_words, answer_text}
use Rattle.script_text.specs.Held.{IsLogHeld, IsEventHeld, IsAnswerHeld}
use Rattle.script_text.specs.Taken.{as_long, as_short, as_byte, as_stream, as_level, as_doc, as_sent, as_reason, as_why, as_cause}
use Rattle.script_text.specs.TakenLines.{document_with, as_worded, line_taken}
use Rattle.script_text.specs.ReadBack.{IsPlain}
use Rattle.script_text.specs.declared.line.TheConstants.{WORDS_READ}
use Rattle.script_text.specs.declared.read_lines.Line.{Line}
use Rattle.script_text.specs.declared.read_lines.Line.TheVariants as line
use Rattle.script_text.proofs.KindWords.{role_clean, level_clean, sent_clean, reason_clean, why_clean, cause_clean}
use Rattle.script_text.proofs.Rows.{Part, word_part, number_part, none, ◌⟫◌, row_part}
use Rattle.script_text.proofs.LineParts.{long_is, int_is, short_is, byte_is, int_part, byte_part, place_part, extent_part, link_is, link_part, stream_is, stream_part, parent_is, parent_part, role_is, level_is, bytes_are, bytes_part, key_is, doc_words, doc_part, doc_stands, doc_is, change_row, change_is, log_is, log_part, ask_part, ask_is}

-- ---- words of a kind

sent_is : (a : ItemAct) → as_sent (sent_text a) ≡ a
sent_is sent.Set = refl
sent_is sent.Remove = refl
sent_is sent.Prepare = refl
sent_is sent.Commit = refl
sent_is sent.Abort = refl

reason_is : (r : EndReason) → as_reason (reason_text r) ≡ r
reason_is reason.Cut = refl
reason_is reason.Refused = refl
reason_is reason.Protocol = refl
reason_is reason.Done = refl
reason_is reason.State = refl
reason_is reason.Disk = refl

why_is : (w : Why) → as_why (why_text w) ≡ w
why_is why.All = refl
why_is why.Idle = refl
why_is why.Full = refl
why_is why.WaitState = refl
why_is why.WaitSaved = refl
why_is why.Disk = refl

cause_is : (c : Cause) → as_cause (cause_text c) ≡ c
cause_is cause.UnknownNode = refl
cause_is cause.NodeExists = refl
cause_is cause.NodeUp = refl
cause_is cause.NodeDown = refl
cause_is cause.UnknownVb = refl
cause_is cause.VbExists = refl
cause_is cause.Limit = refl
cause_is cause.UuidZero = refl
cause_is cause.UuidUsed = refl
cause_is cause.IdsShort = refl
cause_is cause.WrongRole = refl
cause_is cause.ChainBad = refl
cause_is cause.LinkOpen = refl
cause_is cause.LinkClosed = refl
cause_is cause.BatchOut = refl
cause_is cause.NothingTaken = refl
cause_is cause.Closed = refl
cause_is cause.Disk = refl
cause_is cause.Stopped = refl

-- ---- how a request was answered

request_go : (high : ℕ) (log : List LogEntry) → high < 2 ^ 64 → IsLogHeld log → Part (request_text high log asked.Go) (decimal high ∷ log_text log ∷ codes "go" ∷ [])
unfolding request_text
request_go high log h k = row_part (number_part high h ⟫ log_part log k ⟫ word_part (codes "go") refl ⟫ none)

request_roll : (high : ℕ) (log : List LogEntry) (seq : ℕ) → high < 2 ^ 64 → IsLogHeld log → seq < 2 ^ 64
    → Part (request_text high log (asked.Roll seq)) (decimal high ∷ log_text log ∷ codes "roll" ∷ decimal seq ∷ [])
unfolding request_text
request_roll high log seq h k l = row_part (number_part high h ⟫ log_part log k ⟫ row_part (word_part (codes "roll") refl ⟫ number_part seq l ⟫ none) ⟫ none)

request_refuse : (high : ℕ) (log : List LogEntry) (status : ℕ) → high < 2 ^ 64 → IsLogHeld log → status < 2 ^ 16
    → Part (request_text high log (asked.Refuse status)) (decimal high ∷ log_text log ∷ codes "refuse" ∷ decimal status ∷ [])
unfolding request_text
request_refuse high log status h k l = row_part (number_part high h ⟫ log_part log k ⟫ row_part (word_part (codes "refuse") refl ⟫ number_part status (omega arith) ⟫ none) ⟫ none)

-- ---- an event's line

-- a text does not begin as the head of a group
abbrev no_head : List ℕ → Bool
no_head [] = true
no_head (b ∷ text) = if b == 35 then false else true

worded_by : (t : Bool) (x y : Option Line) → (if t then false else true) ≡ true → (if t then x else y) ≡ y
worded_by true x y h = absurd (cc h)
worded_by false x y h = refl

by_words : (text : List ℕ) → no_head text ≡ true → line_taken text ≡ as_worded (take WORDS_READ (words_of text))
unfolding line_taken
by_words [] h = refl
by_words (b ∷ text) h = worded_by (b == 35) _ _ h

-- a line is taken for this, and has no newline
pub record Takes (text : List ℕ) (l : Line) : Type 0 where
  pub taken : line_taken text ≡ Some l
  pub plain : IsPlain text

takes : (text : List ℕ) (words : List (List ℕ)) (l : Line) → no_head text ≡ true → Part text words → as_worded (take WORDS_READ words) ≡ Some l → Takes text l
takes text words l head part is = record {
  taken = by_words text head ∙ ap (λ ws. as_worded (take WORDS_READ ws)) part.words_are ∙ is;
  plain = part.plain;
}

tells : (e : Event) (words : List (List ℕ)) → no_head (spaced (event_words e)) ≡ true → Part (spaced (event_words e)) words → as_worded (take WORDS_READ words) ≡ Some (line.Event e) → Takes (event_text e) (line.Event e)
unfolding event_text
tells e words head part is = takes (event_text e) words (line.Event e) head part is

pub event_takes : (e : Event) → IsEventHeld e → Takes (event_text e) (line.Event e)
event_takes (event.Branch node vb uuid parent fork high) h =
    tells (event.Branch node vb uuid parent fork high) _ refl
    (row_part (word_part (codes "branch") refl ⟫ place_part node vb h.0 ⟫ number_part uuid h.1 ⟫ parent_part parent h.2 ⟫ number_part fork h.3 ⟫ number_part high h.4 ⟫ none))
    (λ i. Some (line.Event (event.Branch (byte_is node h.0.0 i) (short_is vb h.0.1 i) (long_is uuid h.1 i) (parent_is parent h.2 i) (long_is fork h.3 i) (long_is high h.4 i))))
event_takes (event.Role node vb role) h =
    tells (event.Role node vb role) _ refl
    (row_part (word_part (codes "role") refl ⟫ place_part node vb h ⟫ word_part (role_text role) (role_clean role) ⟫ none))
    (λ i. Some (line.Event (event.Role (byte_is node h.0 i) (short_is vb h.1 i) (role_is role i))))
event_takes (event.Changed node vb uuid change) h =
    tells (event.Changed node vb uuid change) _ refl
    (row_part (word_part (codes "change") refl ⟫ place_part node vb h.0 ⟫ number_part uuid h.1 ⟫ change_row change h.2))
    (ap (option_map (λ e. line.Event e)) (ap (option_map (event.Changed (as_byte (decimal node)) (as_short (decimal vb)) (as_long (decimal uuid)))) (change_is (codes "change") (decimal node) (decimal vb) (decimal uuid) change h.2))
    ∙ (λ i. Some (line.Event (event.Changed (byte_is node h.0.0 i) (short_is vb h.0.1 i) (long_is uuid h.1 i) change))))
event_takes (event.Reply node client bytes) h =
    tells (event.Reply node client bytes) _ refl
    (row_part (word_part (codes "reply") refl ⟫ byte_part node h.0 ⟫ int_part client h.1 ⟫ bytes_part bytes h.2 ⟫ none))
    (λ i. Some (line.Event (event.Reply (byte_is node h.0 i) (int_is client h.1 i) (bytes_are bytes h.2 i))))
event_takes (event.Closed node client) h =
    tells (event.Closed node client) _ refl
    (row_part (word_part (codes "closed") refl ⟫ byte_part node h.0 ⟫ int_part client h.1 ⟫ none))
    (λ i. Some (line.Event (event.Closed (byte_is node h.0 i) (int_is client h.1 i))))
event_takes (event.Asked stream node vb ask high log asked.Go) h =
    tells (event.Asked stream node vb ask high log asked.Go) _ refl
    (row_part (word_part (codes "ask") refl ⟫ stream_part stream h.0 ⟫ place_part node vb h.1 ⟫ ask_part ask h.2 ⟫ request_go high log h.3 h.4 ⟫ none))
    (λ i. Some (line.Event (event.Asked (stream_is stream h.0 i) (byte_is node h.1.0 i) (short_is vb h.1.1 i) (ask_is ask h.2 i) (long_is high h.3 i) (log_is log h.4 i) asked.Go)))
event_takes (event.Asked stream node vb ask high log (asked.Roll seq)) h =
    tells (event.Asked stream node vb ask high log (asked.Roll seq)) _ refl
    (row_part (word_part (codes "ask") refl ⟫ stream_part stream h.0 ⟫ place_part node vb h.1 ⟫ ask_part ask h.2 ⟫ request_roll high log seq h.3 h.4 h.5 ⟫ none))
    (λ i. Some (line.Event (event.Asked (stream_is stream h.0 i) (byte_is node h.1.0 i) (short_is vb h.1.1 i) (ask_is ask h.2 i) (long_is high h.3 i) (log_is log h.4 i) (asked.Roll (long_is seq h.5 i)))))
event_takes (event.Asked stream node vb ask high log (asked.Refuse status)) h =
    tells (event.Asked stream node vb ask high log (asked.Refuse status)) _ refl
    (row_part (word_part (codes "ask") refl ⟫ stream_part stream h.0 ⟫ place_part node vb h.1 ⟫ ask_part ask h.2 ⟫ request_refuse high log status h.3 h.4 h.5 ⟫ none))
    (λ i. Some (line.Event (event.Asked (stream_is stream h.0 i) (byte_is node h.1.0 i) (short_is vb h.1.1 i) (ask_is ask h.2 i) (long_is high h.3 i) (log_is log h.4 i) (asked.Refuse (short_is status h.5 i)))))
event_takes (event.Marked stream start end flags) h =
    tells (event.Marked stream start end flags) _ refl
    (row_part (word_part (codes "mark") refl ⟫ stream_part stream h.0 ⟫ number_part start h.1 ⟫ number_part end h.2 ⟫ int_part flags h.3 ⟫ none))
    (λ i. Some (line.Event (event.Marked (stream_is stream h.0 i) (long_is start h.1 i) (long_is end h.2 i) (int_is flags h.3 i))))
event_takes (event.Item stream seq act key) h =
    tells (event.Item stream seq act key) _ refl
    (row_part (word_part (codes "item") refl ⟫ stream_part stream h.0 ⟫ number_part seq h.1 ⟫ word_part (sent_text act) (sent_clean act) ⟫ bytes_part key h.2.0 ⟫ none))
    (ap (λ key. option_map (λ e. line.Event e) (option_map (event.Item (as_stream (stream_text stream)) (as_long (decimal seq)) (as_sent (sent_text act))) key)) (key_is key h.2)
    ∙ (λ i. Some (line.Event (event.Item (stream_is stream h.0 i) (long_is seq h.1 i) (sent_is act i) key))))
event_takes (event.Finished stream reason) h =
    tells (event.Finished stream reason) _ refl
    (row_part (word_part (codes "fin") refl ⟫ stream_part stream h.0 ⟫ int_part reason h.1 ⟫ none))
    (λ i. Some (line.Event (event.Finished (stream_is stream h.0 i) (int_is reason h.1 i))))
event_takes (event.Stated stream role) h =
    tells (event.Stated stream role) _ refl
    (row_part (word_part (codes "state") refl ⟫ stream_part stream h ⟫ word_part (role_text role) (role_clean role) ⟫ none))
    (λ i. Some (line.Event (event.Stated (stream_is stream h i) (role_is role i))))
event_takes (event.Adopted node vb log) h =
    tells (event.Adopted node vb log) _ refl
    (row_part (word_part (codes "adopt") refl ⟫ place_part node vb h.0 ⟫ log_part log h.1 ⟫ none))
    (λ i. Some (line.Event (event.Adopted (byte_is node h.0.0 i) (short_is vb h.0.1 i) (log_is log h.1 i))))
event_takes (event.Ranged node vb ss se) h =
    tells (event.Ranged node vb ss se) _ refl
    (row_part (word_part (codes "range") refl ⟫ place_part node vb h.0 ⟫ number_part ss h.1 ⟫ number_part se h.2 ⟫ none))
    (λ i. Some (line.Event (event.Ranged (byte_is node h.0.0 i) (short_is vb h.0.1 i) (long_is ss h.1 i) (long_is se h.2 i))))
event_takes (event.Got node vb stream change) h =
    tells (event.Got node vb stream change) _ refl
    (row_part (word_part (codes "got") refl ⟫ place_part node vb h.0 ⟫ stream_part stream h.1 ⟫ change_row change h.2))
    (ap (option_map (λ e. line.Event e)) (ap (option_map (event.Got (as_byte (decimal node)) (as_short (decimal vb)) (as_stream (stream_text stream)))) (change_is (codes "got") (decimal node) (decimal vb) (stream_text stream) change h.2))
    ∙ (λ i. Some (line.Event (event.Got (byte_is node h.0.0 i) (short_is vb h.0.1 i) (stream_is stream h.1 i) change))))
event_takes (event.Rolled node vb named to) h =
    tells (event.Rolled node vb named to) _ refl
    (row_part (word_part (codes "rolled") refl ⟫ place_part node vb h.0 ⟫ number_part named h.1 ⟫ number_part to h.2 ⟫ none))
    (λ i. Some (line.Event (event.Rolled (byte_is node h.0.0 i) (short_is vb h.0.1 i) (long_is named h.1 i) (long_is to h.2 i))))
event_takes (event.Acknowledged stream node vb seq saved) h =
    tells (event.Acknowledged stream node vb seq saved) _ refl
    (row_part (word_part (codes "ack") refl ⟫ stream_part stream h.0 ⟫ place_part node vb h.1 ⟫ number_part seq h.2 ⟫ number_part saved h.3 ⟫ none))
    (λ i. Some (line.Event (event.Acknowledged (stream_is stream h.0 i) (byte_is node h.1.0 i) (short_is vb h.1.1 i) (long_is seq h.2 i) (long_is saved h.3 i))))
event_takes (event.Counted stream node vb member seq) h =
    tells (event.Counted stream node vb member seq) _ refl
    (row_part (word_part (codes "acked") refl ⟫ stream_part stream h.0 ⟫ place_part node vb h.1 ⟫ byte_part member h.2 ⟫ number_part seq h.3 ⟫ none))
    (λ i. Some (line.Event (event.Counted (stream_is stream h.0 i) (byte_is node h.1.0 i) (short_is vb h.1.1 i) (byte_is member h.2 i) (long_is seq h.3 i))))
event_takes (event.Ended link reason) h =
    tells (event.Ended link reason) _ refl
    (row_part (word_part (codes "end") refl ⟫ link_part link h ⟫ word_part (reason_text reason) (reason_clean reason) ⟫ none))
    (λ i. Some (line.Event (event.Ended (link_is link h i) (reason_is reason i))))
event_takes (event.Batch node vb ss se at count) h =
    tells (event.Batch node vb ss se at count) _ refl
    (row_part (word_part (codes "batch") refl ⟫ place_part node vb h.0 ⟫ number_part ss h.1 ⟫ number_part se h.2 ⟫ number_part at h.3 ⟫ number_part count h.4 ⟫ none))
    (λ i. Some (line.Event (event.Batch (byte_is node h.0.0 i) (short_is vb h.0.1 i) (long_is ss h.1 i) (long_is se h.2 i) (long_is at h.3 i) (long_is count h.4 i))))
event_takes (event.Stat node vb windows items cursors saved high) h =
    tells (event.Stat node vb windows items cursors saved high) _ refl
    (row_part (word_part (codes "stat") refl ⟫ place_part node vb h.0 ⟫ number_part windows h.1 ⟫ number_part items h.2 ⟫ number_part cursors h.3 ⟫ number_part saved h.4 ⟫ number_part high h.5 ⟫ none))
    (λ i. Some (line.Event (event.Stat (byte_is node h.0.0 i) (short_is vb h.0.1 i) (long_is windows h.1 i) (long_is items h.2 i) (long_is cursors h.3 i) (long_is saved h.4 i) (long_is high h.5 i))))
event_takes (event.CallFailed node) h =
    tells (event.CallFailed node) _ refl
    (row_part (word_part (codes "failed") refl ⟫ byte_part node h ⟫ none))
    (λ i. Some (line.Event (event.CallFailed (byte_is node h i))))
event_takes (event.NodeStopped node) h =
    tells (event.NodeStopped node) _ refl
    (row_part (word_part (codes "stopped") refl ⟫ byte_part node h ⟫ none))
    (λ i. Some (line.Event (event.NodeStopped (byte_is node h i))))
event_takes (event.Shown node vb role uuid at ss se docs preps) h =
    tells (event.Shown node vb role uuid at ss se docs preps) _ refl
    (row_part (word_part (codes "shown") refl ⟫ place_part node vb h.0 ⟫ word_part (role_text role) (role_clean role) ⟫ number_part uuid h.1 ⟫ extent_part at ss se docs preps h.2 h.3 h.4 h.5 h.6 ⟫ none))
    (λ i. Some (line.Event (event.Shown (byte_is node h.0.0 i) (short_is vb h.0.1 i) (role_is role i) (long_is uuid h.1 i) (long_is at h.2 i) (long_is ss h.3 i) (long_is se h.4 i) (long_is docs h.5 i) (long_is preps h.6 i))))
event_takes (event.Logged node vb log) h =
    tells (event.Logged node vb log) _ refl
    (row_part (word_part (codes "logged") refl ⟫ place_part node vb h.0 ⟫ log_part log h.1 ⟫ none))
    (λ i. Some (line.Event (event.Logged (byte_is node h.0.0 i) (short_is vb h.0.1 i) (log_is log h.1 i))))
event_takes (event.Document key doc) h =
    tells (event.Document key doc) _ refl
    (row_part (word_part (codes "doc") refl ⟫ bytes_part key h.0.0 ⟫ doc_part doc h.1 ⟫ none))
    (let words = codes "doc" ∷ hex_text key ∷ doc_words doc in
    ap (λ k. option_map (λ e. line.Event e) (document_with k (as_doc words 2))) (key_is key h.0)
    ∙ ap (λ d. option_map (λ e. line.Event e) (document_with (Some key) d)) (doc_is words 2 doc h.1 (doc_stands words 2 doc refl refl refl refl refl refl)))
event_takes (event.Prepared key seq level) h =
    tells (event.Prepared key seq level) _ refl
    (row_part (word_part (codes "prep") refl ⟫ bytes_part key h.0.0 ⟫ number_part seq h.1 ⟫ word_part (level_text level) (level_clean level) ⟫ none))
    (ap (λ key. option_map (λ e. line.Event e) (option_map (λ key. event.Prepared key (as_long (decimal seq)) (as_level (level_text level))) key)) (key_is key h.0)
    ∙ (λ i. Some (line.Event (event.Prepared key (long_is seq h.1 i) (level_is level i)))))

-- ---- an answer's line, and a group's head

pub answer_takes : (a : Answer) → IsAnswerHeld a → Takes (answer_text a) (line.Answer a)
answer_takes answer.Ok h = takes (codes "ok") (codes "ok" ∷ []) (line.Answer answer.Ok) refl (word_part (codes "ok") refl) refl
answer_takes (answer.Number number) h =
    takes (answer_text (answer.Number number)) _ (line.Answer (answer.Number number)) refl (row_part (word_part (codes "ok") refl ⟫ number_part number h ⟫ none))
    (λ i. Some (line.Answer (answer.Number (long_is number h i))))
answer_takes (answer.Pulled frames why) h =
    takes (answer_text (answer.Pulled frames why)) _ (line.Answer (answer.Pulled frames why)) refl
    (row_part (word_part (codes "ok") refl ⟫ number_part frames h ⟫ word_part (why_text why) (why_clean why) ⟫ none))
    (λ i. Some (line.Answer (answer.Pulled (long_is frames h i) (why_is why i))))
answer_takes (answer.No cause) h =
    takes (answer_text (answer.No cause)) _ (line.Answer (answer.No cause)) refl (row_part (word_part (codes "no") refl ⟫ word_part (cause_text cause) (cause_clean cause) ⟫ none))
    (λ i. Some (line.Answer (answer.No (cause_is cause i))))

pub head_takes : (number : ℕ) → number < 2 ^ 64 → Takes (codes "#" ++ decimal number) (line.Head number)
unfolding line_taken
head_takes number h = record {
  taken = λ i. Some (line.Head (long_is number h i));
  plain = All-cons (λ b. b ≢ 10) 35 (decimal number) (eqb-false 35 10 refl) (number_part number h).plain;
}
