-- what a stream puts of a backfill, in words beside the definitions
use Rattle.std.specs.Prelude.{◌≡◌, ◌↔◌, ◌⊎◌, ℕ, Option, Some, None}
use Rattle.vb_types.specs.declared.stream.Place.TheVariants as place
use Rattle.vb_types.specs.declared.stream.Snapshot.{Snapshot}
use Rattle.vb_events.specs.declared.event.StreamName.{StreamName}
use Rattle.vb_calls.specs.declared.calls.VbAnswer.TheVariants as answer
use Rattle.vb_calls.specs.declared.calls.VbReply.{VbReply}
use Rattle.vb_calls.specs.Jobs.{Job, Ended, Call, Request}
use Rattle.vb_calls.specs.Shelves.{Read, Reading, Shut, Unread, Broken}
use Rattle.backfill.specs.declared.backfilled.Backfilled.TheVariants as filled
use Rattle.backfill.specs.Backfills.{backfilled}
use Rattle.dcp_producer.specs.declared.next_frame.NextFrame.TheVariants as next
use Rattle.dcp_producer.specs.Ends.{AsksOn}
use Rattle.dcp_producer.specs.Firsts.{as_sent}
use Rattle.dcp_producer.specs.Frames.{Next, marker_next, next_frame, place_requested, take_requested}
use Rattle.dcp_producer.specs.Producers.{PlainStream}

-- what a job does behind one reading, where reading is first
abbrev pub read_as : {A : Type 0} → Reading → Job A → Job A
read_as reading (Request v Read next) = next reading
read_as reading other = other

-- it first reads the journal of v
abbrev pub ReadsFirst : {A : Type 0} → ℕ → Job A → Type 0
ReadsFirst v (Request w Read next) = w ≡ v
ReadsFirst v other = ⊥

-- the journal can't be read: it is closed, its disk failed, or it is damaged
abbrev pub IsUnreadable : Reading → Type 0
IsUnreadable r = (r ≡ Shut) ⊎ ((r ≡ Unread) ⊎ ((at : ℕ) × (r ≡ Broken at)))

-- the stream, where nothing is unread any more
abbrev pub with_none_unread : PlainStream → PlainStream
with_none_unread stream = record stream { unread = None }

-- A backfill of the stream up to `end` is read by this job, once, from the place of the stream's consumer. Then comes its marker; or that it can't be read, exactly where that is so, which leaves the stream as it was; or, where the stream sees nothing there, it goes on so.
pub record ReadsSo (name : StreamName) (stream : PlainStream) (end : ℕ) (job : Job Next) (on : Job Next) : Type 0 where
  pub first : ReadsFirst stream.vb job
  pub marker : (r : Reading) (s : Snapshot) → backfilled stream.place end stream.sync r ≡ filled.Snapshot s → read_as r job ≡ Ended (marker_next name (with_none_unread stream) (as_sent stream s))
  pub disk : (r : Reading) → (read_as r job ≡ Ended (next.Disk, stream)) ↔ IsUnreadable r
  pub nothing : (r : Reading) → backfilled stream.place end stream.sync r ≡ filled.Nothing → read_as r job ≡ on

-- what a job does behind this reply, where a call is first
abbrev pub replied_as : {A : Type 0} → Option VbReply → Job A → Job A
replied_as reply (Call v call next) = next reply
replied_as reply other = other

-- A backfill that is not read comes before the vBucket is asked, where behind its items the stream asks on; and where it gives nothing, the vBucket is asked.
abbrev pub BackfillsComeFirst : Type 0
BackfillsComeFirst = (name : StreamName) (stream : PlainStream) (end : ℕ) → AsksOn stream → stream.unread ≡ Some end
    → ReadsSo name stream end (next_frame name stream) (place_requested name (with_none_unread stream))

-- One that the vBucket answers is read at once; and where it gives nothing, memory goes on from there.
abbrev pub BackfillsAreRead : Type 0
BackfillsAreRead = (name : StreamName) (stream : PlainStream) (end : ℕ) (reply : VbReply) → AsksOn stream → stream.unread ≡ None → reply.answer ≡ answer.Placed (place.Backfill end)
    → ReadsSo name (record stream { unread = Some end }) end (replied_as (Some reply) (next_frame name stream)) (take_requested name (with_none_unread stream))
