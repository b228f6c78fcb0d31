-- what is put of markers, items and ends, in words beside the definitions
use Rattle.std.specs.Prelude.{ℕ, ◌≡◌, ◌⊎◌, Bool, true, false, List, [], ◌∷◌, ◌++◌, slice_get, Some, None}
use Rattle.mcbp_frame.specs.Spelling.{spelling}
use Rattle.mcbp_dcp.specs.declared.message.DcpMsg.{DcpMsg}
use Rattle.mcbp_dcp.specs.declared.message.DcpMsg.TheVariants as msg
use Rattle.mcbp_dcp.specs.DcpFrames.{dcp_frame}
use Rattle.mcbp_dcp.specs.DurableRows.{some_key}
use Rattle.vb_types.specs.Levels.{level_number}
use Rattle.vb_types.specs.declared.change.Act.{Act}
use Rattle.vb_types.specs.declared.change.Act.TheVariants as act
use Rattle.vb_types.specs.declared.change.Change.{Change}
use Rattle.vb_types.specs.declared.change.Level.{Level}
use Rattle.vb_types.specs.declared.doc.Doc.{Doc}
use Rattle.vb_types.specs.declared.stream.Snapshot.{Snapshot}
use Rattle.vb_events.specs.declared.event.Event.TheVariants as event
use Rattle.vb_events.specs.declared.event.ItemAct.{ItemAct}
use Rattle.vb_events.specs.declared.event.ItemAct.TheVariants as item_act
use Rattle.vb_calls.specs.declared.calls.VbAnswer.TheVariants as answer
use Rattle.vb_calls.specs.declared.calls.VbReply.{VbReply}
use Rattle.vb_calls.specs.Jobs.{Ended}
use Rattle.vb_calls.specs.Programs.{Turn, Stop}
use Rattle.vb_calls.specs.Shelves.{Reading}
use Rattle.backfill.specs.Backfills.{backfilled}
use Rattle.backfill.specs.declared.backfilled.Backfilled.TheVariants as filled
use Rattle.dcp_producer.specs.Producers.{PlainStream, Served}
use Rattle.dcp_producer.specs.FirstMarkers.{IsStart}
use Rattle.dcp_producer.specs.Frames.{Next, marker_next, over, read_comes, some_next, take_answered}
use Rattle.dcp_producer.specs.Pulling.{Halting, Pulling, QuietOnes, came, pull_of, stream_asked}

-- a stream of a connection is asked for its next frame, with these streams quiet before
pub record Asking : Type 0 where
  pub served : Served
  pub quiet : QuietOnes
  pub stream : PlainStream

-- its turn
abbrev pub turn_of_it : Asking → Next → Turn Pulling Halting
turn_of_it a next = came a.served a.quiet next

-- a marker's flags: 1 for a snapshot from memory, 2 for one from disk
abbrev pub IsSource : Bool → ℕ → Type 0
IsSource disk flags = ((disk ≡ false) × (flags ≡ 1)) ⊎ ((disk ≡ true) × (flags ≡ 2))

-- what a snapshot that the vBucket gave comes to: its marker, in a frame and a line with the same numbers, START as the stream sends it, and the stream's turn is over
pub record MarkerOf (a : Asking) (snapshot : Snapshot) (turn : Turn Pulling Halting) : Type 0 where
  pub then : Served
  pub goes_on : turn ≡ Stop (pull_of then a.quiet, None)
  pub start : ℕ
  pub starts : IsStart a.stream snapshot start
  pub flags : ℕ
  pub source : IsSource snapshot.disk flags
  pub line : then.events ≡ a.served.events ++ event.Marked a.served.end.desk.stream start snapshot.end flags ∷ []
  pub frame : then.out ≡ a.served.out ++ spelling (dcp_frame (msg.SnapshotMarker start snapshot.end flags) a.stream.opaque a.stream.vb)

-- each snapshot that a take is answered with comes to its marker
abbrev pub MarksSnapshots : Type 0
MarksSnapshots = (a : Asking) (snapshot : Snapshot) (reply : VbReply) → reply.answer ≡ answer.Taken snapshot
    → MarkerOf a snapshot (turn_of_it a (take_answered a.served.end.desk.stream a.stream (Some reply)))

-- and each that a journal gives, where it is read for a backfill
abbrev pub MarksBackfills : Type 0
MarksBackfills = (a : Asking) (end : ℕ) (reading : Reading) (snapshot : Snapshot) → backfilled a.stream.place end a.stream.sync reading ≡ filled.Snapshot snapshot
    → (next : Next) × (read_comes a.served.end.desk.stream a.stream (backfilled a.stream.place end a.stream.sync reading) ≡ some_next next) × MarkerOf a snapshot (turn_of_it a next)

-- this is the next item of the stream: that of the snapshot that was taken last, behind those that were put
abbrev pub IsNext : PlainStream → Change → Type 0
IsNext stream c = slice_get stream.items stream.next ≡ Some c

-- the next item of the stream is put, with this message and a line of this act, and its turn is over
pub record Puts (a : Asking) (c : Change) (sent : ItemAct) (m : DcpMsg) : Type 0 where
  pub then : Served
  pub goes_on : stream_asked a.served a.quiet a.stream ≡ Ended (Stop (pull_of then a.quiet, None))
  pub line : then.events ≡ a.served.events ++ event.Item a.served.end.desk.stream c.seq sent c.key ∷ []
  pub frame : then.out ≡ a.served.out ++ spelling (dcp_frame m a.stream.opaque a.stream.vb)

-- what is put of durable writes: a prepare with its document and the number of its level, one of a removal without a value, and a commit and an abort with the seqno of the prepare and their own
pub record PutsDurables (a : Asking) (c : Change) : Type 0 where
  pub prepare : (level : Level) (doc : Doc) → c.act ≡ act.Prepare level doc false
      → Puts a c item_act.Prepare
      (msg.Prepare (record { seq = c.seq; rev = doc.rev; cas = doc.cas; flags = doc.flags; expiry = doc.expiry; datatype = doc.datatype; deleted = 0; level = level_number level; key = c.key; value = doc.value }))
  pub removal : (level : Level) (doc : Doc) → c.act ≡ act.Prepare level doc true
      → Puts a c item_act.Prepare
      (msg.Prepare (record { seq = c.seq; rev = doc.rev; cas = doc.cas; flags = doc.flags; expiry = doc.expiry; datatype = doc.datatype; deleted = 1; level = level_number level; key = c.key; value = [] }))
  pub commit : (prepared : ℕ) (doc : Doc) (deleted : Bool) → c.act ≡ act.Commit prepared doc deleted
      → Puts a c item_act.Commit (msg.Commit (record { prepared = prepared; seq = c.seq; key = c.key }))
  pub abort : (prepared : ℕ) → c.act ≡ act.Abort prepared → Puts a c item_act.Abort (msg.Abort (record { prepared = prepared; seq = c.seq; key = c.key }))

-- the next item of a stream that goes with the opaque 0x0a0b0c0d and for the vBucket 0x0102 is put as these bytes
abbrev pub PutsBytes : Change → List ℕ → Type 0
PutsBytes c bytes =
    (a : Asking) → IsNext a.stream c → a.stream.opaque ≡ 0x0a0b0c0d → a.stream.vb ≡ 0x0102
    → (then : Served) × (stream_asked a.served a.quiet a.stream ≡ Ended (Stop (pull_of then a.quiet, None))) × (then.out ≡ a.served.out ++ bytes)

-- what is put of a set and of a removal: the document, or the removal's own CAS and revision, with the change's seqno and key
pub record PutsPlain (a : Asking) (c : Change) : Type 0 where
  pub stored : (doc : Doc) → c.act ≡ act.Set doc
      → Puts a c item_act.Set
      (msg.Mutation (record { seq = c.seq; rev = doc.rev; cas = doc.cas; flags = doc.flags; expiry = doc.expiry; datatype = doc.datatype; key = c.key; value = doc.value }))
  pub removed : (cas rev : ℕ) → c.act ≡ act.Remove cas rev
      → Puts a c item_act.Remove (msg.Deletion (record { seq = c.seq; rev = rev; cas = cas; key = c.key }))

-- what comes next of such a stream is put as these bytes
abbrev pub ComesAs : (Asking → Next) → List ℕ → Type 0
ComesAs next bytes =
    (a : Asking) → a.stream.opaque ≡ 0x0a0b0c0d → a.stream.vb ≡ 0x0102
    → (then : Served) × (turn_of_it a (next a) ≡ Stop (pull_of then a.quiet, None)) × (then.out ≡ a.served.out ++ bytes)

-- the marker of a snapshot, and its end for a reason
abbrev pub MarksBytes : Snapshot → List ℕ → Type 0
MarksBytes snapshot bytes = ComesAs (λ a. marker_next a.served.end.desk.stream a.stream snapshot) bytes

abbrev pub EndsBytes : ℕ → List ℕ → Type 0
EndsBytes reason bytes = ComesAs (λ a. over reason a.stream) bytes

-- a durable write of these numbers
abbrev pub durable_row : ℕ → Act → Change
durable_row seq a = record { seq = seq; key = some_key; act = a }

abbrev pub durable_doc : List ℕ → Doc
durable_doc value = record { value = value; cas = 0x3132333435363738; rev = 0x2122232425262728; flags = 0x01020304; expiry = 0x05060708; datatype = 0x01 }
