-- the text of a transcript
use Rattle.std.specs.Prelude.{ℕ, ◌≡◌, ◌==◌, Bool, true, false, if◌then◌else◌, List, [], ◌∷◌, ◌++◌, length, take, Option, Some, None, map, codes, decimal}
use Rattle.std.specs.List.{flat_map, join_with_byte}
use Rattle.hex.specs.Hex.{encode_lower}
use Rattle.script_text.specs.Lines.{ended}
use Rattle.vb_types.specs.declared.doc.Doc.{Doc}
use Rattle.vb_types.specs.declared.change.Act.{Act}
use Rattle.vb_types.specs.declared.change.Act.TheVariants as act
use Rattle.vb_types.specs.declared.change.Level.{Level}
use Rattle.vb_types.specs.declared.change.Level.TheVariants as level
use Rattle.vb_types.specs.declared.role.Role.{Role}
use Rattle.vb_types.specs.declared.role.Role.TheVariants as role
use Rattle.vb_types.specs.declared.role.LogEntry.{LogEntry}
use Rattle.vb_types.specs.declared.stream.StreamAsk.{StreamAsk}
use Rattle.vb_events.specs.declared.event.Event.{Event}
use Rattle.vb_events.specs.declared.event.Event.TheVariants as event
use Rattle.vb_events.specs.declared.event.StreamName.{StreamName}
use Rattle.vb_events.specs.declared.event.StreamName.TheVariants as stream
use Rattle.vb_types.specs.declared.stream.AskAnswer.{AskAnswer}
use Rattle.vb_types.specs.declared.stream.AskAnswer.TheVariants as asked
use Rattle.vb_events.specs.declared.event.ItemAct.{ItemAct}
use Rattle.vb_events.specs.declared.event.ItemAct.TheVariants as sent
use Rattle.vb_events.specs.declared.event.EndReason.{EndReason}
use Rattle.vb_events.specs.declared.event.EndReason.TheVariants as reason
use Rattle.vb_events.specs.declared.event.Why.{Why}
use Rattle.vb_events.specs.declared.event.Why.TheVariants as why
use Rattle.vb_events.specs.declared.event.Cause.{Cause}
use Rattle.vb_events.specs.declared.event.Cause.TheVariants as cause
use Rattle.vb_events.specs.declared.event.Answer.{Answer}
use Rattle.vb_events.specs.declared.event.Answer.TheVariants as answer
use Rattle.vb_events.specs.declared.event.Group.{Group}

-- a text begins with this one
abbrev pub StartsWith : List ℕ → List ℕ → Type 0
StartsWith text front = take (length front) text ≡ front

-- words with single spaces between
abbrev pub spaced : List (List ℕ) → List ℕ
spaced words = join_with_byte 32 words

-- bytes in hexadecimal digits, or a dash for none
unfoldable pub hex_text : List ℕ → List ℕ
hex_text bytes = if length bytes == 0 then codes "-" else encode_lower bytes

-- a vBucket of a node: `N V`
unfoldable pub place_text : ℕ → ℕ → List ℕ
place_text node vb = spaced (decimal node ∷ decimal vb ∷ [])

-- a link: `L` and its number
unfoldable pub link_text : ℕ → List ℕ
link_text link = codes "L" ++ decimal link

-- a client's connection of a node: `C`, the node's number, a dot, and the connection's
unfoldable pub client_text : ℕ → ℕ → List ℕ
client_text node client = codes "C" ++ decimal node ++ 46 ∷ decimal client

-- the connection of a stream
abbrev pub stream_text : StreamName → List ℕ
stream_text (stream.Link link) = link_text link
stream_text (stream.Client node client) = client_text node client

-- how far a history goes and how much is shown of it: `AT SS SE DOCS PREPS`
unfoldable pub extent_text : ℕ → ℕ → ℕ → ℕ → ℕ → List ℕ
extent_text at ss se docs preps = spaced (decimal at ∷ decimal ss ∷ decimal se ∷ decimal docs ∷ decimal preps ∷ [])

-- the branch that a branch comes from, or a dash for none
abbrev pub parent_text : Option ℕ → List ℕ
parent_text None = codes "-"
parent_text (Some uuid) = decimal uuid

-- whether a document is deleted
abbrev pub flag_text : Bool → List ℕ
flag_text false = codes "0"
flag_text true = codes "1"

-- a role's word
abbrev pub role_text : Role → List ℕ
role_text role.Active = codes "active"
role_text role.Replica = codes "replica"
role_text role.Pending = codes "pending"
role_text role.Dead = codes "dead"

-- a durability level's number
abbrev pub level_text : Level → List ℕ
level_text level.Majority = codes "1"
level_text level.MajorityPersistActive = codes "2"
level_text level.PersistMajority = codes "3"

-- a document: `CAS REV FLAGS EXPIRY DATATYPE VALUE`
unfoldable pub doc_text : Doc → List ℕ
doc_text doc =
    spaced (decimal doc.cas ∷ decimal doc.rev ∷ decimal doc.flags ∷ decimal doc.expiry ∷ decimal doc.datatype ∷ hex_text doc.value ∷ [])

-- what stands of a change behind its seqno
unfoldable pub act_text : List ℕ → Act → List ℕ
act_text key (act.Set doc) = spaced (codes "set" ∷ hex_text key ∷ doc_text doc ∷ [])
act_text key (act.Remove cas rev) = spaced (codes "remove" ∷ hex_text key ∷ decimal cas ∷ decimal rev ∷ [])
act_text key (act.Prepare level doc deleted) =
    spaced (codes "prepare" ∷ hex_text key ∷ doc_text doc ∷ level_text level ∷ flag_text deleted ∷ [])
act_text key (act.Commit prepared doc deleted) =
    spaced (codes "commit" ∷ hex_text key ∷ doc_text doc ∷ decimal prepared ∷ flag_text deleted ∷ [])
act_text key (act.Abort prepared) = spaced (codes "abort" ∷ hex_text key ∷ decimal prepared ∷ [])

-- an entry of a failover log: `UUID:SEQ`
unfoldable pub entry_text : LogEntry → List ℕ
entry_text entry = decimal entry.uuid ++ 58 ∷ decimal entry.seq

-- the entries of a failover log with commas between, the newest first, or a dash for none
abbrev pub log_text : List LogEntry → List ℕ
log_text [] = codes "-"
log_text (newest ∷ older) = join_with_byte 44 (map entry_text (newest ∷ older))

-- what a stream request asks for: `UUID START END SS SE FLAGS`
unfoldable pub ask_text : StreamAsk → List ℕ
ask_text ask =
    spaced (decimal ask.uuid ∷ decimal ask.start ∷ decimal ask.end ∷ decimal ask.ss ∷ decimal ask.se ∷ decimal ask.flags ∷ [])

-- how a stream request was answered
abbrev pub verdict_text : AskAnswer → List ℕ
verdict_text asked.Go = codes "go"
verdict_text (asked.Roll seq) = spaced (codes "roll" ∷ decimal seq ∷ [])
verdict_text (asked.Refuse status) = spaced (codes "refuse" ∷ decimal status ∷ [])

-- the producer's history, and how it answered a stream request: `HIGH LOG ANSWER`
unfoldable pub request_text : ℕ → List LogEntry → AskAnswer → List ℕ
request_text high log answer = spaced (decimal high ∷ log_text log ∷ verdict_text answer ∷ [])

-- the word of a change that is sent
abbrev pub sent_text : ItemAct → List ℕ
sent_text sent.Set = codes "set"
sent_text sent.Remove = codes "remove"
sent_text sent.Prepare = codes "prepare"
sent_text sent.Commit = codes "commit"
sent_text sent.Abort = codes "abort"

-- why a link ended
abbrev pub reason_text : EndReason → List ℕ
reason_text reason.Cut = codes "cut"
reason_text reason.Refused = codes "refused"
reason_text reason.Protocol = codes "protocol"
reason_text reason.Done = codes "done"
reason_text reason.State = codes "state"
reason_text reason.Disk = codes "disk"

-- the words of a line that tells of a node that an arm met, and none for an event of another kind
abbrev pub armed_words : Event → List (List ℕ)
armed_words (event.CallFailed node) = codes "failed" ∷ decimal node ∷ []
armed_words (event.NodeStopped node) = codes "stopped" ∷ decimal node ∷ []
armed_words other = []

-- the words of a line that tells numbers of what a vBucket holds and saves, or of a kind above
abbrev pub counted_words : Event → List (List ℕ)
counted_words (event.Batch node vb ss se at count) =
    codes "batch" ∷ place_text node vb ∷ decimal ss ∷ decimal se ∷ decimal at ∷ decimal count ∷ []
counted_words (event.Stat node vb windows items cursors saved high) =
    codes "stat" ∷ place_text node vb ∷ decimal windows ∷ decimal items ∷ decimal cursors ∷ decimal saved ∷ decimal high ∷ []
counted_words other = armed_words other

-- the words of a line that shows a vBucket, or of a kind above
abbrev pub shown_words : Event → List (List ℕ)
shown_words (event.Shown node vb role uuid at ss se docs preps) =
    codes "shown" ∷ place_text node vb ∷ role_text role ∷ decimal uuid ∷ extent_text at ss se docs preps ∷ []
shown_words (event.Logged node vb log) = codes "logged" ∷ place_text node vb ∷ log_text log ∷ []
shown_words (event.Document key doc) = codes "doc" ∷ hex_text key ∷ doc_text doc ∷ []
shown_words (event.Prepared key seq level) = codes "prep" ∷ hex_text key ∷ decimal seq ∷ level_text level ∷ []
shown_words other = counted_words other

-- the words of the line of an acknowledgement, written or counted, or of a kind above
abbrev pub acknowledged_words : Event → List (List ℕ)
acknowledged_words (event.Acknowledged stream node vb seq saved) =
    codes "ack" ∷ stream_text stream ∷ place_text node vb ∷ decimal seq ∷ decimal saved ∷ []
acknowledged_words (event.Counted stream node vb member seq) =
    codes "acked" ∷ stream_text stream ∷ place_text node vb ∷ decimal member ∷ decimal seq ∷ []
acknowledged_words other = shown_words other

-- the words of the line of a consumer or its link, or of a kind above
abbrev pub follower_words : Event → List (List ℕ)
follower_words (event.Adopted node vb log) = codes "adopt" ∷ place_text node vb ∷ log_text log ∷ []
follower_words (event.Ranged node vb ss se) = codes "range" ∷ place_text node vb ∷ decimal ss ∷ decimal se ∷ []
follower_words (event.Got node vb stream change) =
    codes "got" ∷ place_text node vb ∷ stream_text stream ∷ decimal change.seq ∷ act_text change.key change.act ∷ []
follower_words (event.Rolled node vb named to) = codes "rolled" ∷ place_text node vb ∷ decimal named ∷ decimal to ∷ []
follower_words (event.Ended link reason) = codes "end" ∷ link_text link ∷ reason_text reason ∷ []
follower_words other = acknowledged_words other

-- the words of the line of a producer's stream, or of a kind above
abbrev pub stream_words : Event → List (List ℕ)
stream_words (event.Asked stream node vb ask high log answer) =
    codes "ask" ∷ stream_text stream ∷ place_text node vb ∷ ask_text ask ∷ request_text high log answer ∷ []
stream_words (event.Marked stream start end flags) =
    codes "mark" ∷ stream_text stream ∷ decimal start ∷ decimal end ∷ decimal flags ∷ []
stream_words (event.Item stream seq act key) =
    codes "item" ∷ stream_text stream ∷ decimal seq ∷ sent_text act ∷ hex_text key ∷ []
stream_words (event.Finished stream reason) = codes "fin" ∷ stream_text stream ∷ decimal reason ∷ []
stream_words (event.Stated stream role) = codes "state" ∷ stream_text stream ∷ role_text role ∷ []
stream_words other = follower_words other

-- the words of an event's line
abbrev pub event_words : Event → List (List ℕ)
event_words (event.Branch node vb uuid parent fork high) =
    codes "branch" ∷ place_text node vb ∷ decimal uuid ∷ parent_text parent ∷ decimal fork ∷ decimal high ∷ []
event_words (event.Role node vb role) = codes "role" ∷ place_text node vb ∷ role_text role ∷ []
event_words (event.Changed node vb uuid change) =
    codes "change" ∷ place_text node vb ∷ decimal uuid ∷ decimal change.seq ∷ act_text change.key change.act ∷ []
event_words (event.Reply node client bytes) = codes "reply" ∷ decimal node ∷ decimal client ∷ hex_text bytes ∷ []
event_words (event.Closed node client) = codes "closed" ∷ decimal node ∷ decimal client ∷ []
event_words other = stream_words other

-- an event's line, without its newline
unfoldable pub event_text : Event → List ℕ
event_text e = spaced (event_words e)

-- why a line was refused
abbrev pub cause_text : Cause → List ℕ
cause_text cause.UnknownNode = codes "unknown-node"
cause_text cause.NodeExists = codes "node-exists"
cause_text cause.NodeUp = codes "node-up"
cause_text cause.NodeDown = codes "node-down"
cause_text cause.UnknownVb = codes "unknown-vb"
cause_text cause.VbExists = codes "vb-exists"
cause_text cause.Limit = codes "limit"
cause_text cause.UuidZero = codes "uuid-zero"
cause_text cause.UuidUsed = codes "uuid-used"
cause_text cause.IdsShort = codes "ids-short"
cause_text cause.WrongRole = codes "wrong-role"
cause_text cause.ChainBad = codes "chain-bad"
cause_text cause.LinkOpen = codes "link-open"
cause_text cause.LinkClosed = codes "link-closed"
cause_text cause.BatchOut = codes "batch-out"
cause_text cause.NothingTaken = codes "nothing-taken"
cause_text cause.Closed = codes "closed"
cause_text cause.Disk = codes "disk"
cause_text cause.Stopped = codes "stopped"

-- why no more frames were put, or a dash where as many were put as were asked for
abbrev pub why_text : Why → List ℕ
why_text why.All = codes "-"
why_text why.Idle = codes "idle"
why_text why.Full = codes "full"
why_text why.WaitState = codes "wait-state"
why_text why.WaitSaved = codes "wait-saved"
why_text why.Disk = codes "disk"

-- the answer to a script line: `ok`, with its number or with what was put, or `no` and the cause
abbrev pub answer_text : Answer → List ℕ
answer_text answer.Ok = codes "ok"
answer_text (answer.Number number) = spaced (codes "ok" ∷ decimal number ∷ [])
answer_text (answer.Pulled frames why) = spaced (codes "ok" ∷ decimal frames ∷ why_text why ∷ [])
answer_text (answer.No cause) = spaced (codes "no" ∷ cause_text cause ∷ [])

-- the lines of a group: the number of a script line, what happened, and the answer
unfoldable pub group_text : Group → List ℕ
group_text g = ended (codes "#" ++ decimal g.line) ++ flat_map (λ event. ended (event_text event)) g.events ++ ended (answer_text g.answer)

-- a whole transcript
abbrev pub print_of : List Group → List ℕ
print_of groups = flat_map group_text groups
