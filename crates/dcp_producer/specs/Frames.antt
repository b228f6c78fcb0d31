-- the next frame of a stream, as a job over its node's vBuckets and their journals
use Rattle.std.specs.Prelude.{ℕ, ◌+◌, max, Bool, false, true, if◌then◌else◌, nat_le, [], slice_get, Option, Some, None}
use Rattle.mcbp_dcp.specs.declared.message.DcpMsg.{DcpMsg}
use Rattle.mcbp_dcp.specs.declared.message.DcpMsg.TheVariants as msg
use Rattle.mcbp_dcp.specs.declared.message.Resolution.{Resolution}
use Rattle.mcbp_dcp.specs.DcpFrames.{IsSpelled}
use Rattle.vb_types.specs.Levels.{level_number}
use Rattle.vb_types.specs.declared.change.Act.{Act}
use Rattle.vb_types.specs.declared.change.Act.TheVariants as act
use Rattle.vb_types.specs.declared.change.Change.{Change}
use Rattle.vb_types.specs.declared.change.Level.{Level}
use Rattle.vb_types.specs.declared.doc.Doc.{Doc}
use Rattle.vb_types.specs.declared.role.Role.{Role}
use Rattle.vb_types.specs.declared.role.Role.TheVariants as role
use Rattle.takeover.specs.GivingUp.{done}
use Rattle.takeover.specs.declared.give_up.GiveStep.{GiveStep}
use Rattle.takeover.specs.declared.give_up.GiveStep.TheVariants as step
use Rattle.takeover.specs.declared.give_up.GiveUp.{GiveUp}
use Rattle.vb_events.specs.declared.event.Event.{Event}
use Rattle.vb_events.specs.declared.event.Event.TheVariants as event
use Rattle.vb_events.specs.declared.event.ItemAct.{ItemAct}
use Rattle.vb_events.specs.declared.event.ItemAct.TheVariants as item_act
use Rattle.vb_events.specs.declared.event.StreamName.{StreamName}
use Rattle.vb_types.specs.declared.stream.Place.{Place}
use Rattle.vb_types.specs.declared.stream.Place.TheVariants as place
use Rattle.vb_types.specs.declared.stream.Snapshot.{Snapshot}
use Rattle.vb_calls.specs.declared.calls.VbCall.TheVariants as call
use Rattle.vb_calls.specs.declared.calls.VbAnswer.{VbAnswer}
use Rattle.vb_calls.specs.declared.calls.VbAnswer.TheVariants as answer
use Rattle.vb_calls.specs.declared.calls.VbReply.{VbReply}
use Rattle.vb_calls.specs.Jobs.{Job, Ended, Call, bind_job}
use Rattle.backfill.specs.declared.backfilled.Backfilled.{Backfilled}
use Rattle.backfill.specs.declared.backfilled.Backfilled.TheVariants as filled
use Rattle.backfill.specs.Backfills.{backfill_job}
use Rattle.dcp_producer.specs.declared.next_frame.NextFrame.{NextFrame}
use Rattle.dcp_producer.specs.declared.next_frame.NextFrame.TheVariants as next
use Rattle.dcp_producer.specs.declared.next_frame.Waits.{Waits}
use Rattle.dcp_producer.specs.declared.next_frame.Waits.TheVariants as waits
use Rattle.dcp_producer.specs.Firsts.{as_sent}
use Rattle.dcp_producer.specs.Producers.{PlainStream}

-- a flag as a number
abbrev pub flag_number : Bool → ℕ
flag_number false = 0
flag_number true = 1

-- the message of a document that is stored
abbrev pub mutation_message : Change → Doc → DcpMsg
mutation_message c doc = msg.Mutation (record { seq = c.seq; rev = doc.rev; cas = doc.cas; flags = doc.flags; expiry = doc.expiry; datatype = doc.datatype; key = c.key; value = doc.value })

-- of a removal, with its own CAS and revision
abbrev pub deletion_message : Change → ℕ → ℕ → DcpMsg
deletion_message c cas rev = msg.Deletion (record { seq = c.seq; rev = rev; cas = cas; key = c.key })

-- of a prepare; one of a removal is sent without a value
abbrev pub prepare_message : Change → Level → Doc → Bool → DcpMsg
prepare_message c level doc deleted = msg.Prepare (record {
  seq = c.seq;
  rev = doc.rev;
  cas = doc.cas;
  flags = doc.flags;
  expiry = doc.expiry;
  datatype = doc.datatype;
  deleted = flag_number deleted;
  level = level_number level;
  key = c.key;
  value = if deleted then [] else doc.value;
})

-- what a commit or an abort says: the seqno of the prepare, and its own
abbrev pub resolution_of : Change → ℕ → Resolution
resolution_of c prepared = record { prepared = prepared; seq = c.seq; key = c.key }

-- the message of a change
abbrev pub act_message : Change → Act → DcpMsg
act_message c (act.Set doc) = mutation_message c doc
act_message c (act.Remove cas rev) = deletion_message c cas rev
act_message c (act.Prepare level doc deleted) = prepare_message c level doc deleted
act_message c (act.Commit prepared doc deleted) = msg.Commit (resolution_of c prepared)
act_message c (act.Abort prepared) = msg.Abort (resolution_of c prepared)

-- the act as it is sent
abbrev pub act_sent : Act → ItemAct
act_sent (act.Set doc) = item_act.Set
act_sent (act.Remove cas rev) = item_act.Remove
act_sent (act.Prepare level doc deleted) = item_act.Prepare
act_sent (act.Commit prepared doc deleted) = item_act.Commit
act_sent (act.Abort prepared) = item_act.Abort

-- what a turn of a stream comes to: its next frame, and the stream then
abbrev pub Next : Type 0
Next = NextFrame × PlainStream

-- the stream behind one more item, of this seqno
abbrev pub past_item : ℕ → PlainStream → PlainStream
past_item seq stream = record stream { next = stream.next + 1; reached = max stream.reached seq }

-- the stream at the front of a snapshot, behind its marker
abbrev pub with_snapshot : PlainStream → Snapshot → PlainStream
with_snapshot stream snapshot = record stream { items = snapshot.items; next = 0; marked = Some snapshot.end; place = snapshot.end }

-- the line of an item
abbrev pub item_line : StreamName → Change → Event
item_line name c = event.Item name c.seq (act_sent c.act) c.key

-- the frame of an item
abbrev pub item_frame : StreamName → Change → NextFrame
item_frame name c = next.Put (act_message c c.act) (item_line name c)

-- the next change of the snapshot that was taken last
abbrev pub item_next : StreamName → PlainStream → Change → Next
item_next name stream c = (item_frame name c, past_item c.seq stream)

-- a marker's flag: 1 from memory, 2 from disk
abbrev pub marker_flags : Bool → ℕ
marker_flags false = 1
marker_flags true = 2

-- the marker of a snapshot, with the flag that says whether it is from memory or from disk
abbrev pub marker_next : StreamName → PlainStream → Snapshot → Next
marker_next name stream snapshot = (
  next.Put (msg.SnapshotMarker snapshot.start snapshot.end (marker_flags snapshot.disk)) (event.Marked name snapshot.start snapshot.end (marker_flags snapshot.disk)),
  with_snapshot stream snapshot,
)

-- the reason of a stream's end: all up to the end that its consumer asked for was sent
abbrev pub ALL_SENT : ℕ
ALL_SENT = 0

-- its vBucket changed its role, or is gone
abbrev pub STATE_CHANGED : ℕ
STATE_CHANGED = 2

-- the stream is over, for this reason
abbrev pub over : ℕ → PlainStream → Next
over reason stream = (next.End reason, stream)

-- there is nothing to put now, and this is waited for
abbrev pub quiet : Waits → PlainStream → Next
quiet for stream = (next.Quiet for, stream)

-- the role that a step tells the consumer's vBucket to have next, where it tells one
abbrev pub role_of : GiveStep → Option Role
role_of step.SendAll = None
role_of step.SendPending = Some role.Pending
role_of step.AwaitPending = None
role_of step.Yield = None
role_of step.SendRest = None
role_of step.SendActive = Some role.Active
role_of step.AwaitActive = None
role_of step.End = None

-- a state is put, which ends its step
abbrev pub state_put : StreamName → PlainStream → GiveUp → Role → Next
state_put name stream g told = (next.Put (msg.SetVbucketState told) (event.Stated name told), record stream { gives = Some (done g) })

-- the state of a step that tells one; in any other the stream waits for the answer to one, or behind it until its vBucket is given up
abbrev pub state_next : StreamName → PlainStream → GiveUp → Option Role → Next
state_next name stream g (Some told) = state_put name stream g told
state_next name stream g None = quiet waits.State stream

-- there is no snapshot yet; for a stream that gives its vBucket up this ends the step, and the next one has its turn at once
abbrev pub none_next : StreamName → PlainStream → Option GiveUp → Next
none_next name stream None = quiet waits.Nothing stream
none_next name stream (Some g) = state_next name stream (done g) (role_of (done g).step)

-- the snapshot of an answer, as the stream sends it, or none where there is none yet. A vBucket that knows nothing of the stream ends it
abbrev pub taken_next : StreamName → PlainStream → VbAnswer → Next
taken_next name stream (answer.Taken snapshot) = marker_next name stream (as_sent stream snapshot)
taken_next name stream answer.Nothing = none_next name stream stream.gives
taken_next name stream other = over STATE_CHANGED stream

-- what a reply to a take comes to
abbrev pub take_answered : StreamName → PlainStream → Option VbReply → Next
take_answered name stream None = over STATE_CHANGED stream
take_answered name stream (Some reply) = taken_next name stream reply.answer

-- the vBucket is asked for the next snapshot
abbrev pub take_requested : StreamName → PlainStream → Job Next
take_requested name stream = Call stream.vb (call.Take stream.id) (λ reply. Ended (take_answered name stream reply))

-- a backfill up to `end` was answered, and is to be read; and it was read
abbrev pub with_unread : ℕ → PlainStream → PlainStream
with_unread end stream = record stream { unread = Some end }

abbrev pub read_up : PlainStream → PlainStream
read_up stream = record stream { unread = None }

-- what a turn comes to, where it comes to something
abbrev pub some_next : Next → Option NextFrame × PlainStream
some_next (next, stream) = (Some next, stream)

-- what is read of a backfill: the marker of its snapshot; nothing, where the stream sees nothing there; or that the journal can't be read, which leaves the stream as it was
abbrev pub read_comes : StreamName → PlainStream → Backfilled → Option NextFrame × PlainStream
read_comes name stream (filled.Snapshot snapshot) = some_next (marker_next name (read_up stream) (as_sent (read_up stream) snapshot))
read_comes name stream filled.Nothing = (None, read_up stream)
read_comes name stream filled.Disk = (Some next.Disk, stream)

-- the journal is read for it, once, from the place of the stream's consumer
abbrev pub read_job : StreamName → ℕ → PlainStream → Job (Option NextFrame × PlainStream)
read_job name end stream = bind_job (backfill_job stream.vb stream.place end stream.sync) (λ came. Ended (read_comes name stream came))

-- and where it gives nothing, the stream goes on so
abbrev pub go_on_by : (PlainStream → Job Next) → Option NextFrame × PlainStream → Job Next
go_on_by on (Some next, left) = Ended (next, left)
go_on_by on (None, left) = on left

abbrev pub backfill_next : StreamName → (PlainStream → Job Next) → ℕ → PlainStream → Job Next
backfill_next name on end stream = bind_job (read_job name end stream) (go_on_by on)

-- where the stream's next changes come from, by an answer; a vBucket that knows nothing of the stream does not say
abbrev pub place_told : VbAnswer → Option Place
place_told (answer.Placed from) = Some from
place_told other = None

-- the same of a reply
abbrev pub place_said : Option VbReply → Option Place
place_said None = None
place_said (Some reply) = place_told reply.answer

-- by that place: the next snapshot is taken; or the journal is read, and where it gives nothing, memory goes on from there; or the changes are to be saved first; a stream that its vBucket lost is over
abbrev pub placed_next : StreamName → PlainStream → Option Place → Job Next
placed_next name stream (Some place.Memory) = take_requested name stream
placed_next name stream (Some (place.Backfill end)) = backfill_next name (take_requested name) end (with_unread end stream)
placed_next name stream (Some place.WaitSaved) = Ended (quiet waits.Saved stream)
placed_next name stream None = Ended (over STATE_CHANGED stream)

-- the vBucket is asked where the stream's next changes come from
abbrev pub place_requested : StreamName → PlainStream → Job Next
place_requested name stream = Call stream.vb (call.Place stream.id) (λ reply. placed_next name stream (place_said reply))

-- the next changes: of a backfill that is not read, which comes first, and else of where the vBucket says
abbrev pub changes_next : StreamName → PlainStream → Option ℕ → Job Next
changes_next name stream None = place_requested name stream
changes_next name stream (Some end) = backfill_next name (place_requested name) end stream

-- the END of a marker that was sent reaches the end that was asked for
abbrev pub reaches_end : ℕ → Option ℕ → Bool
reaches_end until None = false
reaches_end until (Some end) = nat_le until end

-- the stream is closed at its vBucket, and over: all that was asked for was sent
abbrev pub close_sent : PlainStream → Job Next
close_sent stream = Call stream.vb (call.CloseStream stream.id) (λ reply. Ended (over ALL_SENT stream))

-- what a stream that gives its vBucket up puts in a step: the snapshots that there are, a state, or its end; in the other steps it waits
abbrev pub step_next : StreamName → PlainStream → GiveUp → GiveStep → Job Next
step_next name stream g step.SendAll = changes_next name stream stream.unread
step_next name stream g step.SendPending = Ended (state_next name stream g (role_of step.SendPending))
step_next name stream g step.AwaitPending = Ended (state_next name stream g (role_of step.AwaitPending))
step_next name stream g step.Yield = Ended (state_next name stream g (role_of step.Yield))
step_next name stream g step.SendRest = changes_next name stream stream.unread
step_next name stream g step.SendActive = Ended (state_next name stream g (role_of step.SendActive))
step_next name stream g step.AwaitActive = Ended (state_next name stream g (role_of step.AwaitActive))
step_next name stream g step.End = close_sent stream

-- what a stream puts that no change of role ended: its end where it reached the end that was asked for, and else the next snapshot's marker; of one that gives its vBucket up, what its step says, whatever end was asked for
abbrev pub alive_next : StreamName → PlainStream → Option GiveUp → Job Next
alive_next name stream None = if reaches_end stream.until stream.marked then close_sent stream else changes_next name stream stream.unread
alive_next name stream (Some g) = step_next name stream g g.step

-- behind the items: the end of a stream that a change of role ended, also of one that gives its vBucket up, and else what comes next
abbrev pub more_next : StreamName → PlainStream → Job Next
more_next name stream = if stream.ended then Ended (over STATE_CHANGED stream) else alive_next name stream stream.gives

-- the next item of the snapshot that was taken last, and what comes behind the last one
abbrev pub next_by : StreamName → PlainStream → Option Change → Job Next
next_by name stream (Some c) = Ended (item_next name stream c)
next_by name stream None = more_next name stream

-- the next frame of a stream
unfoldable pub next_frame : StreamName → PlainStream → Job Next
next_frame name stream = next_by name stream (slice_get stream.items stream.next)

-- what is put can be written
abbrev pub IsPuttable : NextFrame → Type 0
IsPuttable (next.Put m line) = IsSpelled m
IsPuttable other = Unit {0}
