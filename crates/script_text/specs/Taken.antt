-- What the words of a transcript's line are taken for. Where a line is one that is printed, each word says what it is taken
-- for; any other line is taken for some value too, and its text then differs from the line.
use Rattle.std.specs.Prelude.{ℕ, ◌+◌, ◌%◌, ◌^◌, ◌==◌, Bool, if◌then◌else◌, List, [], ◌∷◌, get_or, take, drop, position, Option, Some, None, map, codes}
use Rattle.std.specs.List.{slice_split}
use Rattle.std.specs.Option.{option_map, unwrap_or}
use Rattle.std.specs.Str.{bytes_eq}
use Rattle.vb_types.specs.Limits.{key_of, value_of}
use Rattle.vb_types.specs.declared.doc.Doc.{Doc}
use Rattle.vb_types.specs.declared.change.Act.{Act}
use Rattle.vb_types.specs.declared.change.Act.TheVariants as act
use Rattle.vb_types.specs.declared.change.Change.{Change}
use Rattle.vb_types.specs.declared.change.Level.{Level}
use Rattle.vb_types.specs.declared.change.Level.TheVariants as level
use Rattle.vb_types.specs.declared.role.Role.{Role}
use Rattle.vb_types.specs.declared.role.Role.TheVariants as role
use Rattle.vb_types.specs.declared.role.LogEntry.{LogEntry}
use Rattle.vb_types.specs.declared.stream.StreamAsk.{StreamAsk}
use Rattle.vb_types.specs.declared.stream.AskAnswer.{AskAnswer}
use Rattle.vb_types.specs.declared.stream.AskAnswer.TheVariants as asked
use Rattle.vb_events.specs.declared.event.StreamName.{StreamName}
use Rattle.vb_events.specs.declared.event.StreamName.TheVariants as stream
use Rattle.vb_events.specs.declared.event.ItemAct.{ItemAct}
use Rattle.vb_events.specs.declared.event.ItemAct.TheVariants as sent
use Rattle.vb_events.specs.declared.event.EndReason.{EndReason}
use Rattle.vb_events.specs.declared.event.EndReason.TheVariants as reason
use Rattle.vb_events.specs.declared.event.Why.{Why}
use Rattle.vb_events.specs.declared.event.Why.TheVariants as why
use Rattle.vb_events.specs.declared.event.Cause.{Cause}
use Rattle.vb_events.specs.declared.event.Cause.TheVariants as cause
use Rattle.script_text.specs.Numbers.{number_of}
use Rattle.script_text.specs.Grammar.{hex_bytes_of}

-- a word of a line, and no bytes behind the last one
abbrev pub word_at : List (List ℕ) → ℕ → List ℕ
word_at words at = get_or words at []

-- ---- numbers and bytes

-- a number of 64 bits, and 0 where the word is none
abbrev pub as_long : List ℕ → ℕ
as_long word = unwrap_or (number_of word) 0

-- a number of 32 bits
abbrev pub as_int : List ℕ → ℕ
as_int word = as_long word % 2 ^ 32

-- a number of 16 bits
abbrev pub as_short : List ℕ → ℕ
as_short word = as_long word % 2 ^ 16

-- a number of 8 bits
abbrev pub as_byte : List ℕ → ℕ
as_byte word = as_long word % 2 ^ 8

-- a link's number behind its `L`
abbrev pub as_link : List ℕ → ℕ
as_link [] = 0
as_link (b ∷ word) = as_int word

-- a client's connection, by where the dot stands between the node's number and the connection's
abbrev pub client_with : List ℕ → Option ℕ → StreamName
client_with text None = stream.Client 0 0
client_with text (Some at) = stream.Client (as_byte (take at text)) (as_int (drop (at + 1) text))

-- a client's connection, behind its `C`
abbrev pub as_client : List ℕ → StreamName
as_client text = client_with text (position (λ b. b == 46) text)

-- a stream's connection
abbrev pub as_stream : List ℕ → StreamName
as_stream [] = stream.Link 0
as_stream (b ∷ word) = if b == 67 then as_client word else stream.Link (as_int word)

-- bytes in hexadecimal digits, and none where the word is a dash
unfoldable pub as_bytes : List ℕ → List ℕ
as_bytes word = unwrap_or (hex_bytes_of word) []

-- ---- words of a kind

-- whether a document is deleted
abbrev pub as_flag : List ℕ → Bool
as_flag word = bytes_eq word (codes "1")

-- a role
abbrev pub as_role : List ℕ → Role
as_role word =
    if bytes_eq word (codes "active") then role.Active
    else if bytes_eq word (codes "replica") then role.Replica
    else if bytes_eq word (codes "pending") then role.Pending
    else role.Dead

-- a durability level
abbrev pub as_level : List ℕ → Level
as_level word =
    if bytes_eq word (codes "1") then level.Majority
    else if bytes_eq word (codes "2") then level.MajorityPersistActive
    else level.PersistMajority

-- a change that is sent
abbrev pub as_sent : List ℕ → ItemAct
as_sent word =
    if bytes_eq word (codes "set") then sent.Set
    else if bytes_eq word (codes "remove") then sent.Remove
    else if bytes_eq word (codes "prepare") then sent.Prepare
    else if bytes_eq word (codes "commit") then sent.Commit
    else sent.Abort

-- why a link ended
abbrev pub as_reason : List ℕ → EndReason
as_reason word =
    if bytes_eq word (codes "cut") then reason.Cut
    else if bytes_eq word (codes "refused") then reason.Refused
    else if bytes_eq word (codes "protocol") then reason.Protocol
    else if bytes_eq word (codes "done") then reason.Done
    else if bytes_eq word (codes "state") then reason.State
    else reason.Disk

-- why no more frames were put
abbrev pub as_why : List ℕ → Why
as_why word =
    if bytes_eq word (codes "-") then why.All
    else if bytes_eq word (codes "idle") then why.Idle
    else if bytes_eq word (codes "full") then why.Full
    else if bytes_eq word (codes "wait-state") then why.WaitState
    else if bytes_eq word (codes "wait-saved") then why.WaitSaved
    else why.Disk

-- why a line was refused that has to do with nodes that stop, with saving, or with what is open
abbrev pub as_later_cause : List ℕ → Cause
as_later_cause word =
    if bytes_eq word (codes "ids-short") then cause.IdsShort
    else if bytes_eq word (codes "wrong-role") then cause.WrongRole
    else if bytes_eq word (codes "chain-bad") then cause.ChainBad
    else if bytes_eq word (codes "link-open") then cause.LinkOpen
    else if bytes_eq word (codes "link-closed") then cause.LinkClosed
    else if bytes_eq word (codes "batch-out") then cause.BatchOut
    else if bytes_eq word (codes "nothing-taken") then cause.NothingTaken
    else if bytes_eq word (codes "closed") then cause.Closed
    else if bytes_eq word (codes "disk") then cause.Disk
    else cause.Stopped

-- why a line was refused
abbrev pub as_cause : List ℕ → Cause
as_cause word =
    if bytes_eq word (codes "unknown-node") then cause.UnknownNode
    else if bytes_eq word (codes "node-exists") then cause.NodeExists
    else if bytes_eq word (codes "node-up") then cause.NodeUp
    else if bytes_eq word (codes "node-down") then cause.NodeDown
    else if bytes_eq word (codes "unknown-vb") then cause.UnknownVb
    else if bytes_eq word (codes "vb-exists") then cause.VbExists
    else if bytes_eq word (codes "limit") then cause.Limit
    else if bytes_eq word (codes "uuid-zero") then cause.UuidZero
    else if bytes_eq word (codes "uuid-used") then cause.UuidUsed
    else as_later_cause word

-- ---- parts of more than one word; each begins at the word of this place

-- an entry of a failover log, by what stands before and behind its colon
abbrev pub as_entry : List ℕ → LogEntry
as_entry text =
    let parts = slice_split (λ b. b == 58) text in
    record { uuid = as_long (word_at parts 0); seq = as_long (word_at parts 1) }

-- a failover log
unfoldable pub as_log : List ℕ → List LogEntry
as_log word = if bytes_eq word (codes "-") then [] else map as_entry (slice_split (λ b. b == 44) word)

-- a document with this value
abbrev pub doc_with : List (List ℕ) → ℕ → List ℕ → Doc
doc_with words at value = record {
  value = value;
  cas = as_long (word_at words at);
  rev = as_long (word_at words (at + 1));
  flags = as_int (word_at words (at + 2));
  expiry = as_int (word_at words (at + 3));
  datatype = as_byte (word_at words (at + 4));
}

-- a document, unless its value is too long
abbrev pub as_doc : List (List ℕ) → ℕ → Option Doc
as_doc words at = option_map (doc_with words at) (value_of (as_bytes (word_at words (at + 5))))

-- a durable write that is announced
abbrev pub as_prepare : List (List ℕ) → ℕ → Option Act
as_prepare words at = option_map (λ doc. act.Prepare (as_level (word_at words (at + 8))) doc (as_flag (word_at words (at + 9)))) (as_doc words (at + 2))

-- a durable write that is made visible
abbrev pub as_commit : List (List ℕ) → ℕ → Option Act
as_commit words at = option_map (λ doc. act.Commit (as_long (word_at words (at + 8))) doc (as_flag (word_at words (at + 9)))) (as_doc words (at + 2))

-- what a change does, by its word, behind which its key stands
abbrev pub as_act : List (List ℕ) → ℕ → Option Act
as_act words at =
    if bytes_eq (word_at words at) (codes "set") then option_map act.Set (as_doc words (at + 2))
    else if bytes_eq (word_at words at) (codes "remove") then Some (act.Remove (as_long (word_at words (at + 2))) (as_long (word_at words (at + 3))))
    else if bytes_eq (word_at words at) (codes "prepare") then as_prepare words at
    else if bytes_eq (word_at words at) (codes "commit") then as_commit words at
    else Some (act.Abort (as_long (word_at words (at + 2))))

-- a change with this key that does this, if both are there
abbrev pub change_with : ℕ → Option (List ℕ) → Option Act → Option Change
change_with seq None act = None
change_with seq (Some key) None = None
change_with seq (Some key) (Some act) = Some (record { seq = seq; key = key; act = act })

-- a change
unfoldable pub as_change : List (List ℕ) → ℕ → Option Change
as_change words at =
    change_with (as_long (word_at words at)) (key_of (as_bytes (word_at words (at + 2)))) (as_act words (at + 1))

-- what a stream request asks for
abbrev pub as_ask : List (List ℕ) → ℕ → StreamAsk
as_ask words at = record {
  flags = as_int (word_at words (at + 5));
  start = as_long (word_at words (at + 1));
  end = as_long (word_at words (at + 2));
  uuid = as_long (word_at words at);
  ss = as_long (word_at words (at + 3));
  se = as_long (word_at words (at + 4));
}

-- how a stream request was answered
abbrev pub as_verdict : List (List ℕ) → ℕ → AskAnswer
as_verdict words at =
    if bytes_eq (word_at words at) (codes "go") then asked.Go
    else if bytes_eq (word_at words at) (codes "roll") then asked.Roll (as_long (word_at words (at + 1)))
    else asked.Refuse (as_short (word_at words (at + 1)))
