-- how a stream goes on behind its next frame, and how frames and lines belong together, in words beside the definitions
use Rattle.std.specs.Prelude.{ℕ, ◌+◌, ◌<◌, ◌≤◌, ◌≡◌, ◌⊎◌, List, [], ◌∷◌, Option, Some, None}
use Rattle.std.specs.List.{All}
use Rattle.mcbp_frame.specs.declared.frame.Frame.{Frame}
use Rattle.mcbp_dcp.specs.declared.message.DcpMsg.{DcpMsg}
use Rattle.mcbp_dcp.specs.declared.message.DcpMsg.TheVariants as msg
use Rattle.vb_types.specs.declared.change.Change.{Change}
use Rattle.vb_types.specs.declared.role.Role.{Role}
use Rattle.vb_types.specs.declared.stream.Snapshot.{Snapshot}
use Rattle.vb_events.specs.declared.event.Event.{Event}
use Rattle.vb_events.specs.declared.event.Event.TheVariants as event
use Rattle.vb_events.specs.declared.event.ItemAct.{ItemAct}
use Rattle.vb_events.specs.declared.event.ItemAct.TheVariants as item_act
use Rattle.vb_events.specs.declared.event.StreamName.{StreamName}
use Rattle.vb_calls.specs.declared.calls.VbAnswer.TheVariants as answer
use Rattle.vb_calls.specs.declared.calls.VbCall.{VbCall}
use Rattle.vb_calls.specs.declared.calls.VbCall.TheVariants as call
use Rattle.vb_calls.specs.declared.calls.VbReply.{VbReply}
use Rattle.vb_calls.specs.Programs.{Made}
use Rattle.vb_calls.specs.Shelves.{Reading}
use Rattle.backfill.specs.Backfills.{backfilled}
use Rattle.backfill.specs.declared.backfilled.Backfilled.TheVariants as filled
use Rattle.dcp_producer.specs.declared.halt.Halt.{Halt}
use Rattle.dcp_producer.specs.declared.next_frame.NextFrame.{NextFrame}
use Rattle.dcp_producer.specs.declared.next_frame.NextFrame.TheVariants as next
use Rattle.dcp_producer.specs.FirstMarkers.{AreItems, IsStart}
use Rattle.dcp_producer.specs.Producers.{PlainStream, Served}
use Rattle.dcp_producer.specs.Endings.{calls_in}
use Rattle.dcp_producer.specs.Ends.{IsSaid, AsksOn, AskedTake, IsPromised}
use Rattle.dcp_producer.specs.Items.{IsNext}
use Rattle.dcp_producer.specs.Orders.{IsOut}
use Rattle.dcp_producer.specs.Pulls.{PullsInTurn}
use Rattle.dcp_producer.specs.Turns.{Tried, put_by}

-- n is the larger of both
abbrev pub IsLarger : ℕ → ℕ → ℕ → Type 0
IsLarger a b n = ((b ≤ a) × (n ≡ a)) ⊎ ((a < b) × (n ≡ b))

-- the snapshot of a backfill that was to be read, by some reading
abbrev pub IsFilled : PlainStream → List Made → Snapshot → Type 0
IsFilled stream made snapshot = (end : ℕ) × IsPromised stream made end × (reading : Reading) × (backfilled stream.place end stream.sync reading ≡ filled.Snapshot snapshot)

-- what its vBucket gave, or its journal
abbrev pub IsGiven : PlainStream → List Made → Snapshot → Type 0
IsGiven stream made snapshot = ((reply : Option VbReply) × AskedTake stream made reply × IsSaid reply (answer.Taken snapshot)) ⊎ IsFilled stream made snapshot

-- how a stream goes on: behind an item, which needs no call, one item further; behind the last one, where no end is due and no backfill is to be read, its vBucket is asked first where the next changes come from; a marker is that of the snapshot that it gave then, or its journal, as the stream sends it, whose items begin, and whose end is where its consumer was told of; behind a state all but how far the stream gives its vBucket up is as it was; and a stream that is quiet or over stays as it was. What was to be read is read then, but where the journal can't be read
pub record FollowsSo (stream : PlainStream) (made : List Made) (comes : NextFrame) (left : PlainStream) : Type 0 where
  pub item : (c : Change) → IsNext stream c → (made ≡ []) × (left ≡ record stream { next = stream.next + 1; reached = left.reached })
  pub asks : AsksOn stream → stream.unread ≡ None → (more : List (ℕ × VbCall)) × (calls_in made ≡ (stream.vb, call.Place stream.id) ∷ more)
  pub marker : (start end flags : ℕ) (line : Event) → comes ≡ next.Put (msg.SnapshotMarker start end flags) line
      → (snapshot : Snapshot) × IsGiven stream made snapshot
      × IsStart stream snapshot start × (end ≡ snapshot.end)
      × (items : List Change) × AreItems stream snapshot items × (left ≡ record stream { items = items; next = 0; marked = Some snapshot.end; place = snapshot.end; unread = None })
  pub state : (told : Role) (line : Event) → comes ≡ next.Put (msg.SetVbucketState told) line → left ≡ record stream { gives = left.gives; unread = left.unread }
  pub still : IsOut comes → left ≡ record stream { unread = left.unread }
  pub disk : comes ≡ next.Disk → AsksOn stream × ((end : ℕ) × IsPromised stream made end × (left.unread ≡ Some end))
  pub read : AsksOn stream → (comes ≡ next.Disk → ⊥) → left.unread ≡ None
  pub kept : (AsksOn stream → ⊥) → left.unread ≡ stream.unread

-- what the consumer of a stream may have: behind an item up to its seqno, if that is greater, and behind anything else what it might before
pub record ReachesSo (stream : PlainStream) (comes : NextFrame) (left : PlainStream) : Type 0 where
  pub item : (name : StreamName) (m : DcpMsg) (seq : ℕ) (sent : ItemAct) (key : List ℕ) → comes ≡ next.Put m (event.Item name seq sent key) → IsLarger stream.reached seq left.reached
  pub else : ((name : StreamName) (m : DcpMsg) (seq : ℕ) (sent : ItemAct) (key : List ℕ) → comes ≡ next.Put m (event.Item name seq sent key) → ⊥) → left.reached ≡ stream.reached

-- a frame of this connection's stream and the line that tells of it, by the opcode: a marker, a stored document, a removal, a prepare, a commit, an abort, a state, or the stream's end
abbrev pub TellsOf : StreamName → Frame → Event → Type 0
TellsOf name f (event.Marked stream start end flags) = (stream ≡ name) × (f.opcode ≡ 0x56)
TellsOf name f (event.Item stream seq item_act.Set key) = (stream ≡ name) × (f.opcode ≡ 0x57)
TellsOf name f (event.Item stream seq item_act.Remove key) = (stream ≡ name) × (f.opcode ≡ 0x58)
TellsOf name f (event.Item stream seq item_act.Prepare key) = (stream ≡ name) × (f.opcode ≡ 0x60)
TellsOf name f (event.Item stream seq item_act.Commit key) = (stream ≡ name) × (f.opcode ≡ 0x62)
TellsOf name f (event.Item stream seq item_act.Abort key) = (stream ≡ name) × (f.opcode ≡ 0x63)
TellsOf name f (event.Stated stream told) = (stream ≡ name) × (f.opcode ≡ 0x5b)
TellsOf name f (event.Finished stream reason) = (stream ≡ name) × (f.opcode ≡ 0x55)
TellsOf name f other = ⊥

-- it goes with the stream's opaque and for its vBucket
abbrev pub IsOfStream : StreamName → PlainStream → Frame × Event → Type 0
IsOfStream name stream (f, line) = TellsOf name f line × (f.opaque ≡ stream.opaque) × (f.vb_or_status ≡ stream.vb)

-- so does each frame that a stream puts
abbrev pub ComesWithLine : StreamName → Tried → Type 0
ComesWithLine name t = All (IsOfStream name t.stream) (put_by name t.next t.left)

-- so it is with each frame that a pull puts
pub record LinesTell (k : ℕ) (s : Served) (made : List Made) (left : Served) (halted : Halt) : Type 0 where
  pub pull : PullsInTurn k s made left halted
  pub each : All (ComesWithLine s.end.desk.stream) pull.tries
