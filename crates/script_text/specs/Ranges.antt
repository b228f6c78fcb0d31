-- values within the ranges that all of the code's values have: numbers of at most 64 bits, and texts of bytes
use Rattle.std.specs.Prelude.{ℕ, ◌^◌, ◌<◌, Option, Some, None}
use Rattle.std.specs.List.{All}
use Rattle.hex.specs.Hex.{IsBytes}
use Rattle.vb_types.specs.declared.doc.Doc.{Doc}
use Rattle.vb_types.specs.declared.change.Act.{Act}
use Rattle.vb_types.specs.declared.change.Act.TheVariants as act
use Rattle.vb_types.specs.declared.change.Change.{Change}
use Rattle.vb_types.specs.declared.role.LogEntry.{LogEntry}
use Rattle.vb_types.specs.declared.stream.StreamAsk.{StreamAsk}
use Rattle.vb_events.specs.declared.event.Event.{Event}
use Rattle.vb_events.specs.declared.event.Event.TheVariants as event
use Rattle.vb_events.specs.declared.event.StreamName.{StreamName}
use Rattle.vb_events.specs.declared.event.StreamName.TheVariants as stream
use Rattle.vb_types.specs.declared.stream.AskAnswer.{AskAnswer}
use Rattle.vb_types.specs.declared.stream.AskAnswer.TheVariants as asked
use Rattle.vb_events.specs.declared.event.Answer.{Answer}
use Rattle.vb_events.specs.declared.event.Answer.TheVariants as answer
use Rattle.vb_events.specs.declared.event.Group.{Group}

-- a number of at most 64 bits
abbrev pub IsWide : ℕ → Type 0
IsWide n = n < 2 ^ 64

-- a document in range
abbrev pub IsDocRanged : Doc → Type 0
IsDocRanged doc =
    IsWide doc.cas × IsWide doc.rev × IsWide doc.flags × IsWide doc.expiry × IsWide doc.datatype × IsBytes doc.value

-- an act in range
abbrev pub IsActRanged : Act → Type 0
IsActRanged (act.Set doc) = IsDocRanged doc
IsActRanged (act.Remove cas rev) = IsWide cas × IsWide rev
IsActRanged (act.Prepare level doc deleted) = IsDocRanged doc
IsActRanged (act.Commit prepared doc deleted) = IsDocRanged doc × IsWide prepared
IsActRanged (act.Abort prepared) = IsWide prepared

-- a change in range
abbrev pub IsChangeRanged : Change → Type 0
IsChangeRanged change = IsWide change.seq × IsBytes change.key × IsActRanged change.act

-- an entry of a failover log in range
abbrev pub IsEntryRanged : LogEntry → Type 0
IsEntryRanged entry = IsWide entry.uuid × IsWide entry.seq

-- a stream's connection in range
abbrev pub IsStreamRanged : StreamName → Type 0
IsStreamRanged (stream.Link link) = IsWide link
IsStreamRanged (stream.Client node client) = IsWide node × IsWide client

-- a stream request in range
abbrev pub IsAskRanged : StreamAsk → Type 0
IsAskRanged ask = IsWide ask.uuid × IsWide ask.start × IsWide ask.end × IsWide ask.ss × IsWide ask.se × IsWide ask.flags

-- a stream request's answer in range
abbrev pub IsVerdictRanged : AskAnswer → Type 0
IsVerdictRanged asked.Go = Unit {0}
IsVerdictRanged (asked.Roll seq) = IsWide seq
IsVerdictRanged (asked.Refuse status) = IsWide status

-- a branch's parent in range, where it has one
abbrev pub IsParentRanged : Option ℕ → Type 0
IsParentRanged None = Unit {0}
IsParentRanged (Some uuid) = IsWide uuid

-- an event in range
abbrev pub IsEventRanged : Event → Type 0
IsEventRanged (event.Branch node vb uuid parent fork high) =
    IsWide node × IsWide vb × IsWide uuid × IsParentRanged parent × IsWide fork × IsWide high
IsEventRanged (event.Role node vb role) = IsWide node × IsWide vb
IsEventRanged (event.Changed node vb uuid change) = IsWide node × IsWide vb × IsWide uuid × IsChangeRanged change
IsEventRanged (event.Reply node client bytes) = IsWide node × IsWide client × IsBytes bytes
IsEventRanged (event.Closed node client) = IsWide node × IsWide client
IsEventRanged (event.Asked stream node vb ask high log answer) =
    IsStreamRanged stream × IsWide node × IsWide vb × IsAskRanged ask × IsWide high × All IsEntryRanged log × IsVerdictRanged answer
IsEventRanged (event.Marked stream start end flags) = IsStreamRanged stream × IsWide start × IsWide end × IsWide flags
IsEventRanged (event.Item stream seq act key) = IsStreamRanged stream × IsWide seq × IsBytes key
IsEventRanged (event.Finished stream reason) = IsStreamRanged stream × IsWide reason
IsEventRanged (event.Stated stream role) = IsStreamRanged stream
IsEventRanged (event.Adopted node vb log) = IsWide node × IsWide vb × All IsEntryRanged log
IsEventRanged (event.Ranged node vb ss se) = IsWide node × IsWide vb × IsWide ss × IsWide se
IsEventRanged (event.Got node vb stream change) = IsWide node × IsWide vb × IsStreamRanged stream × IsChangeRanged change
IsEventRanged (event.Rolled node vb named to) = IsWide node × IsWide vb × IsWide named × IsWide to
IsEventRanged (event.Acknowledged stream node vb seq saved) =
    IsStreamRanged stream × IsWide node × IsWide vb × IsWide seq × IsWide saved
IsEventRanged (event.Counted stream node vb member seq) =
    IsStreamRanged stream × IsWide node × IsWide vb × IsWide member × IsWide seq
IsEventRanged (event.Ended link reason) = IsWide link
IsEventRanged (event.Batch node vb ss se at count) =
    IsWide node × IsWide vb × IsWide ss × IsWide se × IsWide at × IsWide count
IsEventRanged (event.Stat node vb windows items cursors saved high) =
    IsWide node × IsWide vb × IsWide windows × IsWide items × IsWide cursors × IsWide saved × IsWide high
IsEventRanged (event.CallFailed node) = IsWide node
IsEventRanged (event.NodeStopped node) = IsWide node
IsEventRanged (event.Shown node vb role uuid at ss se docs preps) =
    IsWide node × IsWide vb × IsWide uuid × IsWide at × IsWide ss × IsWide se × IsWide docs × IsWide preps
IsEventRanged (event.Logged node vb log) = IsWide node × IsWide vb × All IsEntryRanged log
IsEventRanged (event.Document key doc) = IsBytes key × IsDocRanged doc
IsEventRanged (event.Prepared key seq level) = IsBytes key × IsWide seq

-- the answer to a script line in range
abbrev pub IsAnswerRanged : Answer → Type 0
IsAnswerRanged answer.Ok = Unit {0}
IsAnswerRanged (answer.Number number) = IsWide number
IsAnswerRanged (answer.Pulled frames why) = IsWide frames
IsAnswerRanged (answer.No cause) = Unit {0}

-- a group in range
abbrev pub IsGroupRanged : Group → Type 0
IsGroupRanged group = IsWide group.line × All IsEventRanged group.events × IsAnswerRanged group.answer
