-- values as the types of the code hold them: numbers of their widths, keys and values of their lengths
use Rattle.std.specs.Prelude.{ℕ, ◌^◌, ◌<◌, List, Option, Some, None}
use Rattle.std.specs.List.{All}
use Rattle.hex.specs.Hex.{IsBytes}
use Rattle.vb_types.specs.Limits.{IsKey, IsValue}
use Rattle.vb_types.specs.declared.doc.Doc.{Doc}
use Rattle.vb_types.specs.declared.change.Act.{Act}
use Rattle.vb_types.specs.declared.change.Act.TheVariants as act
use Rattle.vb_types.specs.declared.change.Change.{Change}
use Rattle.vb_types.specs.declared.role.LogEntry.{LogEntry}
use Rattle.vb_types.specs.declared.stream.StreamAsk.{StreamAsk}
use Rattle.vb_types.specs.declared.stream.AskAnswer.{AskAnswer}
use Rattle.vb_types.specs.declared.stream.AskAnswer.TheVariants as asked
use Rattle.vb_events.specs.declared.event.Event.{Event}
use Rattle.vb_events.specs.declared.event.Event.TheVariants as event
use Rattle.vb_events.specs.declared.event.StreamName.{StreamName}
use Rattle.vb_events.specs.declared.event.StreamName.TheVariants as stream
use Rattle.vb_events.specs.declared.event.Answer.{Answer}
use Rattle.vb_events.specs.declared.event.Answer.TheVariants as answer
use Rattle.vb_events.specs.declared.event.Group.{Group}

-- a number of 64 bits: a seqno, a branch's id, a CAS, a count
abbrev pub IsLong : ℕ → Type 0
IsLong n = n < 2 ^ 64

-- a number of 32 bits: a connection's number, and what the wire has as one
abbrev pub IsInt : ℕ → Type 0
IsInt n = n < 2 ^ 32

-- a vBucket of a node
abbrev pub IsPlace : ℕ → ℕ → Type 0
IsPlace node vb = (node < 2 ^ 8) × (vb < 2 ^ 16)

-- a key's bytes
abbrev pub IsKeyHeld : List ℕ → Type 0
IsKeyHeld key = IsBytes key × IsKey key

-- a document
abbrev pub IsDocHeld : Doc → Type 0
IsDocHeld doc =
    IsLong doc.cas × IsLong doc.rev × IsInt doc.flags × IsInt doc.expiry × (doc.datatype < 2 ^ 8) × IsBytes doc.value × IsValue doc.value

-- what a change does
abbrev pub IsActHeld : Act → Type 0
IsActHeld (act.Set doc) = IsDocHeld doc
IsActHeld (act.Remove cas rev) = IsLong cas × IsLong rev
IsActHeld (act.Prepare level doc deleted) = IsDocHeld doc
IsActHeld (act.Commit prepared doc deleted) = IsDocHeld doc × IsLong prepared
IsActHeld (act.Abort prepared) = IsLong prepared

-- a change
abbrev pub IsChangeHeld : Change → Type 0
IsChangeHeld change = IsLong change.seq × IsKeyHeld change.key × IsActHeld change.act

-- an entry of a failover log
abbrev pub IsEntryHeld : LogEntry → Type 0
IsEntryHeld entry = IsLong entry.uuid × IsLong entry.seq

-- a failover log
abbrev pub IsLogHeld : List LogEntry → Type 0
IsLogHeld log = All IsEntryHeld log

-- a stream's connection
abbrev pub IsStreamHeld : StreamName → Type 0
IsStreamHeld (stream.Link link) = IsInt link
IsStreamHeld (stream.Client node client) = (node < 2 ^ 8) × IsInt client

-- a stream request
abbrev pub IsAskHeld : StreamAsk → Type 0
IsAskHeld ask = IsLong ask.uuid × IsLong ask.start × IsLong ask.end × IsLong ask.ss × IsLong ask.se × IsInt ask.flags

-- how a stream request was answered
abbrev pub IsVerdictHeld : AskAnswer → Type 0
IsVerdictHeld asked.Go = Unit {0}
IsVerdictHeld (asked.Roll seq) = IsLong seq
IsVerdictHeld (asked.Refuse status) = status < 2 ^ 16

-- the branch that a branch comes from, where it has one
abbrev pub IsParentHeld : Option ℕ → Type 0
IsParentHeld None = Unit {0}
IsParentHeld (Some uuid) = IsLong uuid

-- an event
abbrev pub IsEventHeld : Event → Type 0
IsEventHeld (event.Branch node vb uuid parent fork high) = IsPlace node vb × IsLong uuid × IsParentHeld parent × IsLong fork × IsLong high
IsEventHeld (event.Role node vb role) = IsPlace node vb
IsEventHeld (event.Changed node vb uuid change) = IsPlace node vb × IsLong uuid × IsChangeHeld change
IsEventHeld (event.Reply node client bytes) = (node < 2 ^ 8) × IsInt client × IsBytes bytes
IsEventHeld (event.Closed node client) = (node < 2 ^ 8) × IsInt client
IsEventHeld (event.Asked stream node vb ask high log answer) =
    IsStreamHeld stream × IsPlace node vb × IsAskHeld ask × IsLong high × IsLogHeld log × IsVerdictHeld answer
IsEventHeld (event.Marked stream start end flags) = IsStreamHeld stream × IsLong start × IsLong end × IsInt flags
IsEventHeld (event.Item stream seq act key) = IsStreamHeld stream × IsLong seq × IsKeyHeld key
IsEventHeld (event.Finished stream reason) = IsStreamHeld stream × IsInt reason
IsEventHeld (event.Stated stream role) = IsStreamHeld stream
IsEventHeld (event.Adopted node vb log) = IsPlace node vb × IsLogHeld log
IsEventHeld (event.Ranged node vb ss se) = IsPlace node vb × IsLong ss × IsLong se
IsEventHeld (event.Got node vb stream change) = IsPlace node vb × IsStreamHeld stream × IsChangeHeld change
IsEventHeld (event.Rolled node vb named to) = IsPlace node vb × IsLong named × IsLong to
IsEventHeld (event.Acknowledged stream node vb seq saved) = IsStreamHeld stream × IsPlace node vb × IsLong seq × IsLong saved
IsEventHeld (event.Counted stream node vb member seq) = IsStreamHeld stream × IsPlace node vb × (member < 2 ^ 8) × IsLong seq
IsEventHeld (event.Ended link reason) = IsInt link
IsEventHeld (event.Batch node vb ss se at count) = IsPlace node vb × IsLong ss × IsLong se × IsLong at × IsLong count
IsEventHeld (event.Stat node vb windows items cursors saved high) =
    IsPlace node vb × IsLong windows × IsLong items × IsLong cursors × IsLong saved × IsLong high
IsEventHeld (event.CallFailed node) = node < 2 ^ 8
IsEventHeld (event.NodeStopped node) = node < 2 ^ 8
IsEventHeld (event.Shown node vb role uuid at ss se docs preps) =
    IsPlace node vb × IsLong uuid × IsLong at × IsLong ss × IsLong se × IsLong docs × IsLong preps
IsEventHeld (event.Logged node vb log) = IsPlace node vb × IsLogHeld log
IsEventHeld (event.Document key doc) = IsKeyHeld key × IsDocHeld doc
IsEventHeld (event.Prepared key seq level) = IsKeyHeld key × IsLong seq

-- the answer to a script line
abbrev pub IsAnswerHeld : Answer → Type 0
IsAnswerHeld answer.Ok = Unit {0}
IsAnswerHeld (answer.Number number) = IsLong number
IsAnswerHeld (answer.Pulled frames why) = IsLong frames
IsAnswerHeld (answer.No cause) = Unit {0}

-- a group
abbrev pub IsGroupHeld : Group → Type 0
IsGroupHeld group = IsLong group.line × All IsEventHeld group.events × IsAnswerHeld group.answer
