-- the frames that a pull puts, and the lines that tell of them, pair by pair, in words beside the definitions
use Rattle.std.specs.Prelude.{◌≡◌, ◌⊎◌, ℕ, Bool, ◌+◌, ◌<◌, List, ◌++◌, length, map, Option, Some, None}
use Rattle.std.specs.List.{All, Contains, concat}
use Rattle.mcbp_frame.specs.Spelling.{spelling}
use Rattle.mcbp_frame.specs.declared.frame.Frame.{Frame}
use Rattle.mcbp_dcp.specs.DcpFrames.{IsSpelled, dcp_frame}
use Rattle.mcbp_dcp.specs.declared.message.DcpMsg.TheVariants as msg
use Rattle.vb_types.specs.Histories.{plain_act}
use Rattle.vb_types.specs.declared.change.Change.{Change}
use Rattle.vb_types.specs.declared.role.Role.{Role}
use Rattle.vb_types.specs.declared.stream.Snapshot.{Snapshot}
use Rattle.vb_types.specs.declared.role.Role.TheVariants as role
use Rattle.vb_events.specs.declared.event.Event.{Event}
use Rattle.vb_events.specs.declared.event.Event.TheVariants as event
use Rattle.vb_events.specs.declared.event.StreamName.{StreamName}
use Rattle.vb_calls.specs.declared.calls.VbAnswer.{VbAnswer}
use Rattle.vb_calls.specs.declared.calls.VbAnswer.TheVariants as answer
use Rattle.vb_calls.specs.declared.calls.VbCall.{VbCall}
use Rattle.vb_calls.specs.declared.calls.VbReply.{VbReply}
use Rattle.vb_calls.specs.Jobs.{Job, Ended, Call, Request, IsRead}
use Rattle.vb_calls.specs.Shelves.{Ask, Got, Read, Reading}
use Rattle.backfill.specs.Backfills.{backfilled}
use Rattle.backfill.specs.declared.backfilled.Backfilled.TheVariants as filled
use Rattle.dcp_producer.specs.declared.halt.Halt.{Halt}
use Rattle.dcp_producer.specs.declared.halt.Halt.TheVariants as halt
use Rattle.dcp_producer.specs.Frames.{act_message, act_sent}
use Rattle.dcp_producer.specs.Items.{IsNext}
use Rattle.dcp_producer.specs.Producers.{PlainStream, Served}

-- ---- a frame and its line

-- an item: the next one of a stream, in the message of its act, and the line says its seqno, its act and its key
abbrev pub IsItem : (PlainStream → Type 0) → StreamName → Frame × Event → Type 0
IsItem G name (f, line) =
    (stream : PlainStream) × G stream × (c : Change) × IsNext stream c
    × (f ≡ dcp_frame (act_message c c.act) stream.opaque stream.vb) × (line ≡ event.Item name c.seq (act_sent c.act) c.key)

-- a marker: the line has its numbers
abbrev pub IsMark : (PlainStream → Type 0) → StreamName → Frame × Event → Type 0
IsMark G name (f, line) =
    (stream : PlainStream) × G stream × (start : ℕ) × (end : ℕ) × (flags : ℕ)
    × (f ≡ dcp_frame (msg.SnapshotMarker start end flags) stream.opaque stream.vb) × (line ≡ event.Marked name start end flags)

-- a state, pending or active: the line has its role
abbrev pub IsState : (PlainStream → Type 0) → StreamName → Frame × Event → Type 0
IsState G name (f, line) =
    (stream : PlainStream) × G stream × (told : Role) × ((told ≡ role.Pending) ⊎ (told ≡ role.Active))
    × (f ≡ dcp_frame (msg.SetVbucketState told) stream.opaque stream.vb) × (line ≡ event.Stated name told)

-- the end of a stream: the line has its reason
abbrev pub IsOver : (PlainStream → Type 0) → StreamName → Frame × Event → Type 0
IsOver G name (f, line) =
    (stream : PlainStream) × G stream × (reason : ℕ)
    × (f ≡ dcp_frame (msg.StreamEnd reason) stream.opaque stream.vb) × (line ≡ event.Finished name reason)

-- one of these, of such a stream
abbrev pub IsPair : (PlainStream → Type 0) → StreamName → Frame × Event → Type 0
IsPair G name pair = IsItem G name pair ⊎ IsMark G name pair ⊎ IsOver G name pair ⊎ IsState G name pair

-- ---- a pull

-- so many frames were put, or fewer, by why no more were
abbrev pub PutFew : ℕ → ℕ → Halt → Type 0
PutFew k n halt.All = n ≡ k
PutFew k n other = n < k

-- A pull of k frames put these, each with its line, of such streams; nothing became of durable writes, and the connection is the same one
pub record PutsPairs (G : PlainStream → Type 0) (k : ℕ) (s left : Served) (halted : Halt) : Type 0 where
  pub pairs : List (Frame × Event)
  pub each : All (IsPair G s.end.desk.stream) pairs
  pub told : left.events ≡ s.events ++ map (λ x. x.1) pairs
  pub out : left.out ≡ s.out ++ concat (map (λ x. spelling x.0) pairs)
  pub count : left.count ≡ s.count + length pairs
  pub few : PutFew k (length pairs) halted
  pub resolved : left.resolved ≡ s.resolved
  pub desk : left.end.desk ≡ s.end.desk

abbrev pub PullsPairs : (PlainStream → Type 0) → ℕ → Served → Served × Halt → Type 0
PullsPairs G k s (left, halted) = PutsPairs G k s left halted

-- ---- the streams of a connection, and their items

-- a stream as one of these is known, with such items
pub record IsOneOf (I : Change → Type 0) (streams : List PlainStream) (stream : PlainStream) : Type 0 where
  pub known : PlainStream
  pub one : Contains streams known
  pub id : stream.id ≡ known.id
  pub vb : stream.vb ≡ known.vb
  pub opaque : stream.opaque ≡ known.opaque
  pub items : All I stream.items

-- the message of a change has a spelling, and so has that of the set or removal that a commit stands for
abbrev pub IsSpelledChange : Change → Type 0
IsSpelledChange c = IsSpelled (act_message c c.act) × IsSpelled (act_message c (plain_act c.act))

-- so has each of these streams' items
abbrev pub AreSpelled : List PlainStream → Type 0
AreSpelled streams = All (λ stream. All IsSpelledChange stream.items) streams

-- a vBucket gives no other items
abbrev pub GaveSpelled : VbAnswer → Type 0
GaveSpelled (answer.Taken snapshot) = All IsSpelledChange snapshot.items
GaveSpelled other = Unit {0}

abbrev pub GivesSpelled : VbCall → Option VbReply → Type 0
GivesSpelled call None = Unit {0}
GivesSpelled call (Some reply) = GaveSpelled reply.answer

-- and a journal none, from whatever place, up to whatever end and of whatever kind of stream it is read
abbrev pub ReadSpelled : Reading → Type 0
ReadSpelled reading = (start end : ℕ) (sync : Bool) (snapshot : Snapshot) → backfilled start end sync reading ≡ filled.Snapshot snapshot → All IsSpelledChange snapshot.items

abbrev pub GotSpelled : (ask : Ask) → Got ask → Type 0
GotSpelled Read reading = ReadSpelled reading
GotSpelled other got = Unit {0}

-- whatever is answered
abbrev pub AnyGot : (ask : Ask) → Got ask → Type 0
AnyGot ask got = Unit {0}

-- Whatever replies of one kind and answers of journals of another kind a job gets, each call that it makes is of a third kind, it reads of journals alone, and the answer that it comes to is of a fourth.
abbrev pub AlwaysGot : {A : Type 0} → (VbCall → Option VbReply → Type 0) → ((ask : Ask) → Got ask → Type 0) → (ℕ → VbCall → Type 0) → (A → Type 0) → Job A → Type 0
AlwaysGot replies gots calls answers (Ended a) = answers a
AlwaysGot replies gots calls answers (Call v call next) = calls v call × ((reply : Option VbReply) → replies call reply → AlwaysGot replies gots calls answers (next reply))
AlwaysGot replies gots calls answers (Request v ask next) = IsRead v ask × ((got : Got ask) → gots ask got → AlwaysGot replies gots calls answers (next got))

-- whatever a change is
abbrev pub AnyChange : Change → Type 0
AnyChange c = Unit {0}
