-- what a dial may do, whatever its vBucket replies and its journal answers
use Rattle.std.specs.Prelude.{◌≡◌, ◌<◌, ◌⊎◌, ℕ, ◌+◌, true, nat_lt, min, if◌then◌else◌, List, [], ◌∷◌, ◌++◌, map, Option, Some, None, IsTrue}
use Rattle.std.specs.List.{All, filter_map}
use Rattle.mcbp_frame.specs.Spelling.{spelling}
use Rattle.mcbp_frame.specs.declared.frame.Frame.{Frame}
use Rattle.mcbp_dcp.specs.declared.message.DcpMsg.TheVariants as msg
use Rattle.mcbp_dcp.specs.DcpFrames.{dcp_frame}
use Rattle.vb_events.specs.declared.event.EndReason.{EndReason}
use Rattle.vb_events.specs.declared.event.Event.{Event}
use Rattle.vb_events.specs.declared.event.Event.TheVariants as event
use Rattle.vb_events.specs.declared.event.StreamName.TheVariants as name
use Rattle.vb_types.specs.declared.stream.StreamAsk.{StreamAsk}
use Rattle.vb_calls.specs.declared.calls.VbCall.{VbCall}
use Rattle.vb_calls.specs.declared.calls.VbCall.TheVariants as call
use Rattle.vb_calls.specs.declared.calls.VbAnswer.{VbAnswer}
use Rattle.vb_calls.specs.declared.calls.VbAnswer.TheVariants as answer
use Rattle.vb_calls.specs.declared.calls.VbReply.{VbReply}
use Rattle.vb_calls.specs.Jobs.{Job, Ended, Call, Request}
use Rattle.vb_calls.specs.Shelves.{Ask, Got, Append, Read, Keep, Idle}
use Rattle.vb_types.specs.declared.journal.Record.TheVariants as noted
use Rattle.vb_types.specs.declared.role.Role.TheVariants as role
use Rattle.dcp_consumer.specs.Counting.{counted_bytes, is_counted}
use Rattle.dcp_consumer.specs.Machine.{over_why}
use Rattle.dcp_consumer.specs.Noops.{noop_answered, IsNoop}
use Rattle.dcp_consumer.specs.States.{state_answered}
use Rattle.dcp_consumer.specs.declared.handshake.Dialed.{Dialed}
use Rattle.node_core.specs.Dials.{PlainDial, DialResult}

-- the calls of a follower: it takes a failover log over, a marker or a change, goes back, names what it asks for, or tells what it may acknowledge
abbrev pub IsFollowing : VbCall → Type 0
IsFollowing (call.Adopt log) = Unit {0}
IsFollowing (call.Marker start end) = Unit {0}
IsFollowing (call.Receive change) = Unit {0}
IsFollowing (call.RollTo at image cas) = Unit {0}
IsFollowing call.Ask = Unit {0}
IsFollowing call.Due = Unit {0}
IsFollowing other = ⊥

-- the calls of one that takes over: it tells its role, is to take over, takes over, and tells its failover log
abbrev pub IsTakingOver : VbCall → Type 0
IsTakingOver call.Show = Unit {0}
IsTakingOver call.Pend = Unit {0}
IsTakingOver call.Own = Unit {0}
IsTakingOver call.Log = Unit {0}
IsTakingOver other = ⊥

-- a call to the vBucket of this link, as a follower, or as one that takes over, where the link is for that
abbrev pub FollowsAt : Dialed → ℕ → VbCall → Type 0
FollowsAt dialed v call = (v ≡ dialed.vb) × (IsFollowing call ⊎ ((dialed.takeover ≡ true) × IsTakingOver call))

-- what a rollback asks of a journal: its records, that the rollback is written down, and that no batch is on its way
abbrev pub IsOfRoll : Ask → Type 0
IsOfRoll Read = Unit {0}
IsOfRoll (Append (noted.Roll to)) = Unit {0}
IsOfRoll (Keep Idle) = Unit {0}
IsOfRoll other = ⊥

-- what a takeover asks of a journal: that the vBucket is active is written down
abbrev pub IsOfTakeover : Ask → Type 0
IsOfTakeover (Append (noted.State role.Active log)) = Unit {0}
IsOfTakeover other = ⊥

-- a request to the journal of the vBucket of this link, for a rollback, or for a takeover, where the link is for that
abbrev pub RollsAt : Dialed → ℕ → Ask → Type 0
RollsAt dialed v ask = (v ≡ dialed.vb) × (IsOfRoll ask ⊎ ((dialed.takeover ≡ true) × IsOfTakeover ask))

-- what a dial writes to its producer behind its first requests: a request for a stream, an acknowledgement of all up to a seqno, one of so many bytes, the answer to the NOOP of an opaque, or the answer to the state of one
pub data Writes : Type 0 where
  Asks : StreamAsk → Writes
  Acknowledges : ℕ → Writes
  AcknowledgesBytes : ℕ → Writes
  AnswersNoop : ℕ → Writes
  AnswersState : ℕ → Writes

-- what may be written on a link: an answer to a state only where it takes the vBucket over
abbrev pub MayWrite : Dialed → Writes → Type 0
MayWrite dialed (AnswersState opaque) = dialed.takeover ≡ true
MayWrite dialed other = Unit {0}

-- how many of these are requests for a stream
abbrev pub asks_in : List Writes → ℕ
asks_in [] = 0
asks_in (Asks ask ∷ more) = 1 + asks_in more
asks_in (Acknowledges seq ∷ more) = asks_in more
asks_in (AcknowledgesBytes bytes ∷ more) = asks_in more
asks_in (AnswersNoop opaque ∷ more) = asks_in more
asks_in (AnswersState opaque ∷ more) = asks_in more

-- requests for a stream of the vBucket vb, acknowledgements and answers as bytes: each request with the opaque that follows that of the one before, the first with the one that follows `asked`, and each acknowledgement with that of the last request; one of bytes is of the connection, and names the vBucket 0. An answer has the opaque of its NOOP or state
abbrev pub writes_past : ℕ → ℕ → List Writes → List ℕ
writes_past vb asked [] = []
writes_past vb asked (Asks ask ∷ more) = spelling (dcp_frame (msg.StreamRequest ask) (asked + 1) vb) ++ writes_past vb (asked + 1) more
writes_past vb asked (Acknowledges seq ∷ more) = spelling (dcp_frame (msg.SeqnoAcknowledged seq) asked vb) ++ writes_past vb asked more
writes_past vb asked (AcknowledgesBytes bytes ∷ more) = spelling (dcp_frame (msg.BufferAcknowledgement bytes) asked 0) ++ writes_past vb asked more
writes_past vb asked (AnswersNoop opaque ∷ more) = noop_answered opaque ++ writes_past vb asked more
writes_past vb asked (AnswersState opaque ∷ more) = state_answered opaque ++ writes_past vb asked more

-- a line of a dial names its vBucket and node, or its link: a log that was taken over, a rollback, a snapshot that begins, a change that was taken, what was acknowledged, or the link's end; and where the link takes the vBucket over, that this is pending or active, and a change that it makes then
abbrev pub IsOfDial : Dialed → Event → Type 0
IsOfDial dialed (event.Adopted n v log) = (n ≡ dialed.node) × (v ≡ dialed.vb)
IsOfDial dialed (event.Rolled n v point to) = (n ≡ dialed.node) × (v ≡ dialed.vb)
IsOfDial dialed (event.Ranged n v ss se) = (n ≡ dialed.node) × (v ≡ dialed.vb)
IsOfDial dialed (event.Got n v stream change) = (n ≡ dialed.node) × (v ≡ dialed.vb) × (stream ≡ name.Link dialed.link)
IsOfDial dialed (event.Acknowledged stream n v seq saved) = (n ≡ dialed.node) × (v ≡ dialed.vb) × (stream ≡ name.Link dialed.link)
IsOfDial dialed (event.Ended link why) = link ≡ dialed.link
IsOfDial dialed (event.Role n v new) = (dialed.takeover ≡ true) × (n ≡ dialed.node) × (v ≡ dialed.vb) × ((new ≡ role.Pending) ⊎ (new ≡ role.Active))
IsOfDial dialed (event.Changed n v uuid change) = (dialed.takeover ≡ true) × (n ≡ dialed.node) × (v ≡ dialed.vb)
IsOfDial dialed other = ⊥

-- the same link, for the producer nothing new but requests for a stream, each with the next opaque, acknowledgements, answers to NOOPs, and to states where the link takes the vBucket over, and behind the earlier lines only such as are the dial's own
pub record KeepsLink (old new : DialResult) : Type 0 where
  pub dialed : new.dial.consumer.dialed ≡ old.dial.consumer.dialed
  pub writes : (more : List Writes) × (new.out ≡ old.out ++ writes_past old.dial.consumer.dialed.vb old.dial.consumer.asked more) × (new.dial.consumer.asked ≡ old.dial.consumer.asked + asks_in more) × All (MayWrite old.dial.consumer.dialed) more
  pub lines : (more : List Event) × (new.events ≡ old.events ++ more) × All (IsOfDial old.dial.consumer.dialed) more

-- the call of a dial that comes next: any but Due; or Due
pub data NextCall : Type 0 where
  AnyOther : NextCall
  DueNext : NextCall

-- this call may come next
abbrev pub MayCome : NextCall → VbCall → Type 0
MayCome AnyOther call.Due = ⊥
MayCome AnyOther other = Unit {0}
MayCome DueNext call.Due = Unit {0}
MayCome DueNext other = ⊥

-- where the calls of a dial stand: which comes next, the last seqno that was acknowledged, and those that were acknowledged since it began, each with the seqno up to which all was written down
pub record Dues : Type 0 where
  pub next : NextCall
  pub last : ℕ
  pub met : List (ℕ × ℕ)

-- the answer of a reply; where there is no such vBucket, it is nothing
abbrev pub said : Option VbReply → VbAnswer
said None = answer.Nothing
said (Some reply) = reply.answer

-- behind a log that was taken over comes Due: the stream is granted
abbrev pub log_behind : Dues → VbAnswer → Dues
log_behind d answer.Done = record d { next = DueNext }
log_behind d other = d

-- so it does behind a message that was taken: the stream goes on
abbrev pub message_behind : Dues → VbAnswer → Dues
message_behind d answer.Done = record d { next = DueNext }
message_behind d (answer.Range ss se) = record d { next = DueNext }
message_behind d other = d

-- all up to a seqno was acknowledged, where all up to `saved` is written down
abbrev pub with_met : Dues → ℕ → ℕ → Dues
with_met d seq saved = record { next = AnyOther; last = seq; met = d.met ++ (seq, saved) ∷ [] }

-- behind a Due of a seqno above the last one that seqno is acknowledged, with what the same answer says is written down, and behind any other nothing
abbrev pub due_behind : Dues → VbAnswer → Dues
due_behind d (answer.Dues seq saved) = if nat_lt d.last seq then with_met d seq saved else record d { next = AnyOther }
due_behind d other = record d { next = AnyOther }

-- where a dial's calls stand behind one that was answered so
abbrev pub behind : Dues → VbCall → VbAnswer → Dues
behind d (call.Adopt log) a = log_behind d a
behind d (call.Marker start end) a = message_behind d a
behind d (call.Receive change) a = message_behind d a
behind d call.Due a = due_behind d a
behind d other a = d

-- whatever a job is replied and its journals answer, each call may come where it stands, and at its end holds what is to hold there
abbrev pub CallsAs : {A : Type 0} → (Dues → A → Type 0) → Dues → Job A → Type 0
CallsAs ends d (Ended a) = ends d a
CallsAs ends d (Call v call next) = MayCome d.next call × ((reply : Option VbReply) → CallsAs ends (behind d call (said reply)) (next reply))
CallsAs ends d (Request v ask next) = (got : Got ask) → CallsAs ends d (next got)

-- the seqno of an acknowledgement that is written
abbrev pub seqno_written : Writes → Option ℕ
seqno_written (Asks ask) = None
seqno_written (Acknowledges seq) = Some seq
seqno_written (AcknowledgesBytes bytes) = None
seqno_written (AnswersNoop opaque) = None
seqno_written (AnswersState opaque) = None

-- the number of an acknowledgement of bytes that is written
abbrev pub bytes_written : Writes → Option ℕ
bytes_written (Asks ask) = None
bytes_written (Acknowledges seq) = None
bytes_written (AcknowledgesBytes bytes) = Some bytes
bytes_written (AnswersNoop opaque) = None
bytes_written (AnswersState opaque) = None

-- the opaque of an answer to a NOOP that is written
abbrev pub noop_written : Writes → Option ℕ
noop_written (Asks ask) = None
noop_written (Acknowledges seq) = None
noop_written (AcknowledgesBytes bytes) = None
noop_written (AnswersNoop opaque) = Some opaque
noop_written (AnswersState opaque) = None

-- the two seqnos of a line that tells of one
abbrev pub seqnos_of_line : Event → Option (ℕ × ℕ)
seqnos_of_line (event.Acknowledged stream n v seq saved) = Some (seq, saved)
seqnos_of_line other = None

-- No Due is left to come; what was written and told as acknowledged is what was to be acknowledged, and these numbers of bytes; the NOOPs of these opaques were answered; and the bytes that came and are no whole frame yet stay as they were.
pub record Acknowledged (bytes noops : List ℕ) (old : DialResult) (d : Dues) (new : DialResult) : Type 0 where
  pub next : d.next ≡ AnyOther
  pub last : d.last ≡ new.dial.consumer.acked
  pub link : KeepsLink old new
  pub written : filter_map seqno_written link.writes.0 ≡ map (λ (m : ℕ × ℕ). m.0) d.met
  pub told : filter_map seqnos_of_line link.lines.0 ≡ d.met
  pub counted : filter_map bytes_written link.writes.0 ≡ bytes
  pub answered : filter_map noop_written link.writes.0 ≡ noops
  pub heard : new.dial.heard ≡ old.dial.heard

-- one of these frames counts
abbrev pub SomeCounts : List Frame → Type 0
SomeCounts frames = (before : List Frame) × (f : Frame) × (behind : List Frame) × (frames ≡ before ++ f ∷ behind) × IsTrue (is_counted f)

-- What a dial acknowledges by bytes behind a delivery of these frames: where its link has a buffer and goes on, and one of them counts, how long those that count are together, or as much as a message can tell; else nothing.
pub record OwesBytes (frames : List Frame) (dial : PlainDial) (bytes : List ℕ) : Type 0 where
  pub owed : over_why dial.consumer.handshake ≡ None → 0 < dial.consumer.dialed.buffer → SomeCounts frames → bytes ≡ min (counted_bytes frames) 4294967295 ∷ []
  pub over : (why : EndReason) → over_why dial.consumer.handshake ≡ Some why → bytes ≡ []
  pub unbuffered : dial.consumer.dialed.buffer ≡ 0 → bytes ≡ []
  pub uncounted : (SomeCounts frames → ⊥) → bytes ≡ []

-- these are the opaques of those frames that are NOOPs, in their order
abbrev pub AreNoopsOf : List Frame → List ℕ → Type 0
AreNoopsOf [] noops = noops ≡ []
AreNoopsOf (f ∷ frames) noops = (IsNoop f × ((more : List ℕ) × (noops ≡ f.opaque ∷ more) × AreNoopsOf frames more)) ⊎ ((IsNoop f → ⊥) × AreNoopsOf frames noops)

-- The NOOPs that a dial answers of a delivery of these frames, by their opaques: those of the first frames, which are all where the link goes on.
abbrev pub AnswersNoops : List Frame → PlainDial → List ℕ → Type 0
AnswersNoops frames dial noops =
    (taken : List Frame) × (behind : List Frame) × (frames ≡ taken ++ behind) × AreNoopsOf taken noops × (over_why dial.consumer.handshake ≡ None → behind ≡ [])

-- with these bytes heard, which are no whole frame yet
abbrev pub with_heard : DialResult → List ℕ → DialResult
with_heard s left = record s { dial = record s.dial { heard = left } }

-- A delivery of these frames, behind which these bytes are left: they are kept, what was to be acknowledged is, the NOOPs are answered, and behind all else that is written, what is acknowledged by bytes.
pub record Delivers (frames : List Frame) (left : List ℕ) (old : DialResult) (d : Dues) (new : DialResult) : Type 0 where
  pub bytes : List ℕ
  pub owes : OwesBytes frames new.dial bytes
  pub noops : List ℕ
  pub answers : AnswersNoops frames new.dial noops
  pub acknowledged : Acknowledged bytes noops (with_heard old left) d new
  pub last : (before : List Writes) × (acknowledged.link.writes.0 ≡ before ++ map AcknowledgesBytes bytes)

-- a dial of which nothing is acknowledged yet, where this call comes next
abbrev pub begins : NextCall → PlainDial → Dues
begins next dial = record { next = next; last = dial.consumer.acked; met = [] }
