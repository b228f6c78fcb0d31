-- what journals on disks do, in other words
use Rattle.std.specs.Prelude.{◌≡◌, ◌≢◌, ℕ, false, true, List, ◌∷◌, Option, Some, None}
use Rattle.vb_calls.specs.Flushes.{flush_job, roll_job}
use Rattle.vb_calls.specs.Flushing.{batch_of, unflushed_span}
use Rattle.vb_calls.specs.Jobs.{Job, Ended, Call, Request, RanJob, after_job, alone_asks, AlwaysJob}
use Rattle.vb_calls.specs.Programs.{AnyReply}
use Rattle.vb_calls.specs.Shelves.{Ask, Append, Read, Look, Keep, Got, Idle, Out, Written, Stood, WasClosed, DiskFailed, Shelf, Shelves, late_of}
use Rattle.vb_calls.specs.State.{Plain}
use Rattle.vb_calls.specs.States.{States}
use Rattle.vb_calls.specs.declared.calls.VbCall.{VbCall}
use Rattle.vb_calls.specs.declared.calls.VbCall.TheVariants as call
use Rattle.vb_calls.specs.declared.calls.VbReply.{VbReply}
use Rattle.vb_calls.specs.declared.journals.Flushed.TheVariants as flushed
use Rattle.vb_calls.specs.declared.span.Span.{Span}
use Rattle.vb_disk.specs.Fused.{FuseStorage}
use Rattle.vb_journal.specs.UnderArms.{all_pass, burnt_noting}
use Rattle.vb_types.specs.declared.journal.Batch.{Batch}
use Rattle.vb_types.specs.declared.journal.FlushPart.TheVariants as part
use Rattle.vb_types.specs.declared.journal.Record.{Record}
use Rattle.vb_types.specs.declared.journal.Record.TheVariants as noted
use Rattle.disk_journals.specs.Asking.{disk_asks}
use Rattle.disk_journals.specs.Devices.{Device, fuse_device}
use Rattle.disk_journals.specs.Seen.{Seen}
use Rattle.disk_journals.specs.Stands.{ShelvesStand}

-- over disks that tell the arm under which they are called, each answer is the plain one
abbrev pub ArmsAreExact : Type 0
ArmsAreExact =
    (old : List (Seen FuseStorage)) (v : ℕ) (ask : Ask) (got : Got ask) (new : List (Seen FuseStorage))
    → disk_asks fuse_device old v ask got new → alone_asks (ShelvesStand fuse_device) old v ask got new

-- the journal at v is this one after a step of writing down
abbrev pub LeavesShelf : ℕ → (States × Shelves) → Shelf → Type 0
LeavesShelf v left shelf = left.1 v ≡ Some shelf

-- after an append of this batch that failed: the journal is closed, no batch is on its way, and the calls burnt the arm. The batch is there to be found by a crash where its calls came that far.
abbrev pub broken_off : Batch → Shelf → Shelf
broken_off batch shelf = record shelf { is_closed = true; flush = Idle; late = late_of shelf.fuse (noted.Rows batch); fuse = burnt_noting shelf.fuse }

-- A batch has the failover log of its take. What is appended later is that batch, whatever became of the vBucket since.
pub record HasLogOfTake : Type 0 where
  pub taken : (states : States) (shelves : Shelves) (v : ℕ) (vb : Plain) (span : Span) (shelf : Shelf)
      → states v ≡ Some vb → shelves v ≡ Some shelf → shelf.flush ≡ Idle → unflushed_span vb ≡ Some span
      → LeavesShelf v (after_job (flush_job v part.Take) states shelves).0 (record shelf { flush = Out (batch_of vb span) })
  pub log : (vb : Plain) (span : Span) → (batch_of vb span).log ≡ vb.log
  -- it stands exactly where none of the append's calls is hit
  pub saved : (states : States) (shelves : Shelves) (v : ℕ) (batch : Batch) (shelf : Shelf)
      → shelves v ≡ Some shelf → shelf.is_closed ≡ false → shelf.flush ≡ Out batch → all_pass shelf.fuse ≡ true
      → LeavesShelf v (after_job (flush_job v part.Save) states shelves).0 (record shelf { book = noted.Rows batch ∷ shelf.book; flush = Written batch.position.at; fuse = burnt_noting shelf.fuse })
  pub broken : (states : States) (shelves : Shelves) (v : ℕ) (batch : Batch) (shelf : Shelf)
      → shelves v ≡ Some shelf → shelf.is_closed ≡ false → shelf.flush ≡ Out batch → all_pass shelf.fuse ≡ false
      → LeavesShelf v (after_job (flush_job v part.Save) states shelves).0 (broken_off batch shelf)

-- A step that is refused, as a batch is on its way, changes nothing. A batch that can't be appended, as an earlier append failed, is gone, and so is one that stands once its vBucket was told.
pub record LeavesNoBatch : Type 0 where
  pub refused : (states : States) (shelves : Shelves) (v : ℕ) (shelf : Shelf) → shelves v ≡ Some shelf → shelf.flush ≢ Idle
      → ((after_job (flush_job v part.Take) states shelves).0.0 ≡ states) × LeavesShelf v (after_job (flush_job v part.Take) states shelves).0 shelf
  pub closed : (states : States) (shelves : Shelves) (v : ℕ) (batch : Batch) (shelf : Shelf)
      → shelves v ≡ Some shelf → shelf.is_closed ≡ true → shelf.flush ≡ Out batch
      → LeavesShelf v (after_job (flush_job v part.Save) states shelves).0 (record shelf { flush = Idle })
  pub finished : (states : States) (shelves : Shelves) (v seq : ℕ) (shelf : Shelf)
      → shelves v ≡ Some shelf → shelf.flush ≡ Written seq
      → LeavesShelf v (after_job (flush_job v part.Done) states shelves).0 (record shelf { flush = Idle })

-- after a save whose disk failed: the batch is gone, and the journal is closed
pub record IsShut {D : Type 0} (dev : Device D) (v : ℕ) (shelf : Shelf) (new : List (Seen D)) : Type 0 where
  pub batch : Batch
  pub was_out : shelf.flush ≡ Out batch
  pub shelves : Shelves
  pub stands : ShelvesStand dev new shelves
  pub here : shelves v ≡ Some (broken_off batch shelf)

-- so it is after each such save
abbrev pub FailsShut : {W D : Type 0} → (W → ℕ → VbCall → Option VbReply → W → Type 0) → Device D → Type 0
FailsShut step dev =
    (v : ℕ) (w : _) (old : List (Seen _)) (w' : _) (new : List (Seen _)) (shelves : Shelves) (shelf : Shelf)
    → RanJob step (disk_asks dev) (flush_job v part.Save) w old flushed.DiskFailed w' new
    → ShelvesStand dev old shelves → shelves v ≡ Some shelf → IsShut dev v shelf new

-- the seqno that a call sends a vBucket back to, if it does
abbrev pub sent_to : VbCall → Option ℕ
sent_to (call.RollTo at image cas) = Some at
sent_to (call.Get key) = None
sent_to (call.Store write clock) = None
sent_to (call.Durable write clock level deadline waiter) = None
sent_to (call.OpenStream id ask sync) = None
sent_to (call.Place id) = None
sent_to (call.Take id) = None
sent_to (call.CloseStream id) = None
sent_to (call.DropCursor id) = None
sent_to (call.Chain chain) = None
sent_to (call.Ack member seq) = None
sent_to (call.Tick clock) = None
sent_to call.Due = None
sent_to call.Ask = None
sent_to (call.Adopt log) = None
sent_to (call.Marker start end) = None
sent_to (call.Receive change) = None
sent_to (call.Promote uuid) = None
sent_to call.Follow = None
sent_to call.Dead = None
sent_to call.Pend = None
sent_to call.Own = None
sent_to (call.Yield id) = None
sent_to call.Seal = None
sent_to call.Trim = None
sent_to call.FlushTake = None
sent_to (call.FlushDone seq) = None
sent_to call.Stat = None
sent_to call.Log = None
sent_to call.Show = None

-- a call that sends no vBucket back
abbrev pub StaysPut : ℕ → VbCall → Type 0
StaysPut v call = sent_to call ≡ None

-- a call that sends it to this seqno, if it does
abbrev pub GoesTo : ℕ → ℕ → VbCall → Type 0
GoesTo to v call = (at : ℕ) → sent_to call ≡ Some at → at ≡ to

-- any request, any answer
abbrev pub AnyAsk : ℕ → Ask → Type 0
AnyAsk v ask = Unit {0}

abbrev pub AnyAnswer : {A : Type 0} → A → Type 0
AnyAnswer a = Unit {0}

-- behind a rollback that stands the vBucket is sent there, and nowhere else
abbrev pub GoesBehind : {A : Type 0} → Record → Job A → Type 0
GoesBehind (noted.State role log) job = AlwaysJob AnyReply StaysPut AnyAsk AnyAnswer job
GoesBehind (noted.Rows batch) job = AlwaysJob AnyReply StaysPut AnyAsk AnyAnswer job
GoesBehind (noted.Roll to) job = AlwaysJob AnyReply (GoesTo to) AnyAsk AnyAnswer job

-- the vBucket stays until a record was appended that says that it goes back
abbrev pub AppendsFirst : {A : Type 0} → Job A → Type 0
AppendsFirst (Ended a) = Unit {0}
AppendsFirst (Call v call next) = StaysPut v call × ((reply : Option VbReply) → AppendsFirst (next reply))
AppendsFirst (Request v (Append what) next) = GoesBehind what (next Stood) × AppendsFirst (next WasClosed) × AppendsFirst (next DiskFailed)
AppendsFirst (Request v Read next) = (got : Got Read) → AppendsFirst (next got)
AppendsFirst (Request v Look next) = (got : Got Look) → AppendsFirst (next got)
AppendsFirst (Request v (Keep flush) next) = AppendsFirst (next tt)

-- so does each rollback
abbrev pub RollsAppendFirst : Type 0
RollsAppendFirst = (v named : ℕ) → AppendsFirst (roll_job v named)
