-- what is other in a stream's first snapshot than its vBucket gave it, in words beside the definitions
use Rattle.std.specs.Prelude.{ℕ, ◌≡◌, ◌≢◌, ◌<◌, ◌↔◌, true, false, List, [], ◌∷◌, Some, None}
use Rattle.vb_types.specs.declared.change.Act.{Act}
use Rattle.vb_types.specs.declared.change.Act.TheVariants as act
use Rattle.vb_types.specs.declared.change.Change.{Change}
use Rattle.vb_types.specs.declared.stream.Snapshot.{Snapshot}
use Rattle.vb_types.specs.declared.stream.StreamAsk.{StreamAsk}
use Rattle.mcbp_dcp.specs.declared.message.DcpMsg.TheVariants as msg
use Rattle.vb_events.specs.declared.event.Event.TheVariants as event
use Rattle.vb_events.specs.declared.event.StreamName.{StreamName}
use Rattle.dcp_producer.specs.declared.first.First.{First}
use Rattle.dcp_producer.specs.declared.next_frame.NextFrame.TheVariants as next
use Rattle.dcp_producer.specs.Frames.{Next}
use Rattle.dcp_producer.specs.Producers.{PlainStream}

-- ---- what a request means

-- a request at the end of the snapshot that it names means its start, and any other that snapshot's start; commits are sent as sets and removals exactly where that is below the request's start
pub record MeansFirst (ask : StreamAsk) (first : First) : Type 0 where
  pub at_end : ask.start ≡ ask.se → first.start ≡ ask.start
  pub within : ask.start ≢ ask.se → first.start ≡ ask.ss
  pub sets : (first.as_sets ≡ true) ↔ (first.start < ask.start)

-- ---- what is sent

-- an act with a commit written out, as the set or the removal of its document
abbrev pub IsWrittenOut : Act → Act → Type 0
IsWrittenOut (act.Set doc) a = a ≡ act.Set doc
IsWrittenOut (act.Remove cas rev) a = a ≡ act.Remove cas rev
IsWrittenOut (act.Prepare level doc deleted) a = a ≡ act.Prepare level doc deleted
IsWrittenOut (act.Commit prepared doc true) a = a ≡ act.Remove doc.cas doc.rev
IsWrittenOut (act.Commit prepared doc false) a = a ≡ act.Set doc
IsWrittenOut (act.Abort prepared) a = a ≡ act.Abort prepared

-- changes with their commits written out, one by one, with the same seqnos and keys
abbrev pub AreWrittenOut : List Change → List Change → Type 0
AreWrittenOut [] [] = Unit {0}
AreWrittenOut [] (x ∷ items) = ⊥
AreWrittenOut (c ∷ changes) [] = ⊥
AreWrittenOut (c ∷ changes) (x ∷ items) = (x.seq ≡ c.seq) × (x.key ≡ c.key) × IsWrittenOut c.act x.act × AreWrittenOut changes items

-- a marker's START: where the request means, exactly until a marker was sent, and then where its vBucket went on
pub record IsStart (stream : PlainStream) (snapshot : Snapshot) (start : ℕ) : Type 0 where
  pub first : stream.marked ≡ None → start ≡ stream.first.start
  pub later : (stream.marked ≡ None → ⊥) → start ≡ snapshot.start

-- the items behind it: those of its vBucket, with their commits written out exactly in a first snapshot from below the request's start
pub record AreItems (stream : PlainStream) (snapshot : Snapshot) (items : List Change) : Type 0 where
  pub sets : stream.marked ≡ None → stream.first.as_sets ≡ true → AreWrittenOut snapshot.items items
  pub same : ((stream.marked ≡ None) × (stream.first.as_sets ≡ true) → ⊥) → items ≡ snapshot.items

-- what a snapshot that its vBucket gave comes to: its marker, in a message and a line, and the stream at the front of its items, which is else as it was
pub record MarksFirst (name : StreamName) (stream : PlainStream) (snapshot : Snapshot) (comes : Next) : Type 0 where
  pub start : ℕ
  pub starts : IsStart stream snapshot start
  pub flags : ℕ
  pub items : List Change
  pub are : AreItems stream snapshot items
  pub is : comes ≡ (next.Put (msg.SnapshotMarker start snapshot.end flags) (event.Marked name start snapshot.end flags), record stream { items = items; next = 0; marked = Some snapshot.end; place = snapshot.end })
