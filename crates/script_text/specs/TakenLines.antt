-- what a line of a transcript is taken for, by its words
use Rattle.std.specs.Prelude.{ℕ, ◌==◌, if◌then◌else◌, List, [], ◌∷◌, length, take, Option, Some, None, codes}
use Rattle.std.specs.Option.{option_map}
use Rattle.std.specs.Str.{bytes_eq}
use Rattle.vb_types.specs.Limits.{key_of}
use Rattle.vb_types.specs.declared.doc.Doc.{Doc}
use Rattle.vb_events.specs.declared.event.Event.{Event}
use Rattle.vb_events.specs.declared.event.Event.TheVariants as event
use Rattle.vb_events.specs.declared.event.Answer.{Answer}
use Rattle.vb_events.specs.declared.event.Answer.TheVariants as answer
use Rattle.script_text.specs.Numbers.{number_of}
use Rattle.script_text.specs.Lines.{words_of}
use Rattle.script_text.specs.Taken.{word_at, as_long, as_int, as_byte, as_short, as_link, as_stream, as_bytes, as_role, as_level, as_sent, as_reason, as_why, as_cause, as_log, as_doc, as_change, as_ask, as_verdict}
use Rattle.script_text.specs.declared.line.TheConstants.{WORDS_READ}
use Rattle.script_text.specs.declared.read_lines.Line.{Line}
use Rattle.script_text.specs.declared.read_lines.Line.TheVariants as line

-- the node that a line names in this word, and the vBucket that it names in the next
abbrev pub node_at : List (List ℕ) → ℕ → ℕ
node_at words at = as_byte (word_at words at)

-- a vBucket
abbrev pub vb_at : List (List ℕ) → ℕ → ℕ
vb_at words at = as_short (word_at words at)

-- a number of 64 bits
abbrev pub long_at : List (List ℕ) → ℕ → ℕ
long_at words at = as_long (word_at words at)

-- a number of 32 bits
abbrev pub int_at : List (List ℕ) → ℕ → ℕ
int_at words at = as_int (word_at words at)

-- ---- events

-- a line that tells of a node that an arm met
abbrev pub as_armed : List (List ℕ) → Option Event
as_armed words =
    if bytes_eq (word_at words 0) (codes "failed") then Some (event.CallFailed (node_at words 1))
    else if bytes_eq (word_at words 0) (codes "stopped") then Some (event.NodeStopped (node_at words 1))
    else None

-- a batch that was taken
abbrev pub as_batch : List (List ℕ) → Event
as_batch words = event.Batch (node_at words 1) (vb_at words 2) (long_at words 3) (long_at words 4) (long_at words 5) (long_at words 6)

-- the numbers of a vBucket
abbrev pub as_stat : List (List ℕ) → Event
as_stat words = event.Stat (node_at words 1) (vb_at words 2) (long_at words 3) (long_at words 4) (long_at words 5) (long_at words 6) (long_at words 7)

-- a line that tells numbers of what a vBucket holds and saves, or one of a kind above
abbrev pub as_counted : List (List ℕ) → Option Event
as_counted words =
    if bytes_eq (word_at words 0) (codes "batch")
    then Some (as_batch words)
    else if bytes_eq (word_at words 0) (codes "stat")
    then Some (as_stat words)
    else as_armed words

-- a document that is shown, if its key and its value are there
abbrev pub document_with : Option (List ℕ) → Option Doc → Option Event
document_with None doc = None
document_with (Some key) None = None
document_with (Some key) (Some doc) = Some (event.Document key doc)

-- a vBucket that is shown
abbrev pub as_extent : List (List ℕ) → Event
as_extent words = event.Shown (node_at words 1) (vb_at words 2) (as_role (word_at words 3)) (long_at words 4) (long_at words 5) (long_at words 6) (long_at words 7) (long_at words 8) (long_at words 9)

-- a document that is shown
abbrev pub as_document : List (List ℕ) → Option Event
as_document words = document_with (key_of (as_bytes (word_at words 1))) (as_doc words 2)

-- a pending prepare that is shown
abbrev pub as_prepared : List (List ℕ) → Option Event
as_prepared words = option_map (λ key. event.Prepared key (long_at words 2) (as_level (word_at words 3))) (key_of (as_bytes (word_at words 1)))

-- a line that shows a vBucket, or one of a kind above
abbrev pub as_shown : List (List ℕ) → Option Event
as_shown words =
    if bytes_eq (word_at words 0) (codes "shown")
    then Some (as_extent words)
    else if bytes_eq (word_at words 0) (codes "logged") then Some (event.Logged (node_at words 1) (vb_at words 2) (as_log (word_at words 3)))
    else if bytes_eq (word_at words 0) (codes "doc") then as_document words
    else if bytes_eq (word_at words 0) (codes "prep")
    then as_prepared words
    else as_counted words

-- a line of an acknowledgement, written or counted, or one of a kind above
abbrev pub as_acknowledged : List (List ℕ) → Option Event
as_acknowledged words =
    if bytes_eq (word_at words 0) (codes "ack")
    then Some (event.Acknowledged (as_stream (word_at words 1)) (node_at words 2) (vb_at words 3) (long_at words 4) (long_at words 5))
    else if bytes_eq (word_at words 0) (codes "acked")
    then Some (event.Counted (as_stream (word_at words 1)) (node_at words 2) (vb_at words 3) (node_at words 4) (long_at words 5))
    else as_shown words

-- a snapshot marker that a consumer took
abbrev pub as_ranged : List (List ℕ) → Event
as_ranged words = event.Ranged (node_at words 1) (vb_at words 2) (long_at words 3) (long_at words 4)

-- a change that a consumer took
abbrev pub as_got : List (List ℕ) → Option Event
as_got words = option_map (event.Got (node_at words 1) (vb_at words 2) (as_stream (word_at words 3))) (as_change words 4)

-- a consumer that rolled back
abbrev pub as_rolled : List (List ℕ) → Event
as_rolled words = event.Rolled (node_at words 1) (vb_at words 2) (long_at words 3) (long_at words 4)

-- a line of a consumer or its link, or one of a kind above
abbrev pub as_follower : List (List ℕ) → Option Event
as_follower words =
    if bytes_eq (word_at words 0) (codes "adopt") then Some (event.Adopted (node_at words 1) (vb_at words 2) (as_log (word_at words 3)))
    else if bytes_eq (word_at words 0) (codes "range") then Some (as_ranged words)
    else if bytes_eq (word_at words 0) (codes "got")
    then as_got words
    else if bytes_eq (word_at words 0) (codes "rolled")
    then Some (as_rolled words)
    else if bytes_eq (word_at words 0) (codes "end") then Some (event.Ended (as_link (word_at words 1)) (as_reason (word_at words 2)))
    else as_acknowledged words

-- a stream request, and how it was answered
abbrev pub as_asked : List (List ℕ) → Option Event
as_asked words =
    Some (event.Asked (as_stream (word_at words 1)) (node_at words 2) (vb_at words 3) (as_ask words 4) (long_at words 10) (as_log (word_at words 11)) (as_verdict words 12))

-- a change that is sent
abbrev pub as_item : List (List ℕ) → Option Event
as_item words = option_map (event.Item (as_stream (word_at words 1)) (long_at words 2) (as_sent (word_at words 3))) (key_of (as_bytes (word_at words 4)))

-- a line of a producer's stream, or one of a kind above
abbrev pub as_streamed : List (List ℕ) → Option Event
as_streamed words =
    if bytes_eq (word_at words 0) (codes "ask") then as_asked words
    else if bytes_eq (word_at words 0) (codes "mark")
    then Some (event.Marked (as_stream (word_at words 1)) (long_at words 2) (long_at words 3) (int_at words 4))
    else if bytes_eq (word_at words 0) (codes "item")
    then as_item words
    else if bytes_eq (word_at words 0) (codes "fin") then Some (event.Finished (as_stream (word_at words 1)) (int_at words 2))
    else if bytes_eq (word_at words 0) (codes "state") then Some (event.Stated (as_stream (word_at words 1)) (as_role (word_at words 2)))
    else as_follower words

-- a branch that was made
abbrev pub as_branch : List (List ℕ) → Event
as_branch words = event.Branch (node_at words 1) (vb_at words 2) (long_at words 3) (number_of (word_at words 4)) (long_at words 5) (long_at words 6)

-- a change that the active vBucket made
abbrev pub as_changed : List (List ℕ) → Option Event
as_changed words = option_map (event.Changed (node_at words 1) (vb_at words 2) (long_at words 3)) (as_change words 4)

-- a frame for a client
abbrev pub as_reply : List (List ℕ) → Option Event
as_reply words = Some (event.Reply (node_at words 1) (int_at words 2) (as_bytes (word_at words 3)))

-- a line of an event
abbrev pub as_event : List (List ℕ) → Option Event
as_event words =
    if bytes_eq (word_at words 0) (codes "branch")
    then Some (as_branch words)
    else if bytes_eq (word_at words 0) (codes "role") then Some (event.Role (node_at words 1) (vb_at words 2) (as_role (word_at words 3)))
    else if bytes_eq (word_at words 0) (codes "change")
    then as_changed words
    else if bytes_eq (word_at words 0) (codes "reply")
    then as_reply words
    else if bytes_eq (word_at words 0) (codes "closed") then Some (event.Closed (node_at words 1) (int_at words 2))
    else as_streamed words

-- ---- lines

-- an answer that is no refusal, by how many words it has
abbrev pub as_ok : List (List ℕ) → Answer
as_ok words =
    if length words == 1 then answer.Ok
    else if length words == 2 then answer.Number (long_at words 1)
    else answer.Pulled (long_at words 1) (as_why (word_at words 2))

-- a line that heads no group
abbrev pub as_worded : List (List ℕ) → Option Line
as_worded words =
    if bytes_eq (word_at words 0) (codes "ok") then Some (line.Answer (as_ok words))
    else if bytes_eq (word_at words 0) (codes "no") then Some (line.Answer (answer.No (as_cause (word_at words 1))))
    else option_map line.Event (as_event words)

-- what a line is taken for: one that begins with `#` heads a group
unfoldable pub line_taken : List ℕ → Option Line
line_taken [] = as_worded (take WORDS_READ (words_of []))
line_taken (b ∷ text) =
    if b == 35 then Some (line.Head (as_long text)) else as_worded (take WORDS_READ (words_of (b ∷ text)))
