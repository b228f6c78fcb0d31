-- what a job that reads alone leaves of journals and makes of vBuckets, and in numbers
use Rattle.std.specs.Prelude.{true, ◌≡◌, ◌↔◌, ℕ, Option, Some, None}
use Rattle.vb_types.specs.declared.journal.Record.{Record}
use Rattle.vb_calls.specs.declared.calls.VbAnswer.TheVariants as answer
use Rattle.vb_calls.specs.declared.calls.VbCall.TheVariants as call
use Rattle.vb_calls.specs.declared.calls.VbReply.{VbReply}
use Rattle.vb_calls.specs.Jobs.{Job, Ended, Call, Request, after_job, after_reads, AlwaysJob, IsRead}
use Rattle.vb_calls.specs.Numbers.{all_taken, two_batches}
use Rattle.vb_calls.specs.Programs.{AnyReply, AnyCall}
use Rattle.vb_calls.specs.Shelves.{Ask, Append, Read, Look, Keep, Reading, Book, Shut, Flush, Shelf, Shelves, open_shelf, with_shelf_at}
use Rattle.vb_calls.specs.State.{quiet_reply}
use Rattle.vb_calls.specs.States.{States}

-- whatever it is answered, each request of a job reads
abbrev pub ReadsAlone : {A : Type 0} → Job A → Type 0
ReadsAlone job = AlwaysJob AnyReply AnyCall IsRead (λ a. Unit {0}) job

-- A job that reads alone leaves all journals as they are. What it makes of vBuckets and what it comes to are those that `after_reads` tells. And to read is one request of four.
pub record ReadsLeaveJournals (A : Type 0) : Type 0 where
  pub kept : (job : Job A) (states : States) (shelves : Shelves) → ReadsAlone job → (after_job job states shelves).0.1 ≡ shelves
  pub made : (job : Job A) (states : States) (shelves : Shelves) → ReadsAlone job → (after_job job states shelves).0.0 ≡ (after_reads job shelves states).0
  pub said : (job : Job A) (states : States) (shelves : Shelves) → ReadsAlone job → (after_job job states shelves).1 ≡ (after_reads job shelves states).1
  pub reads : (v : ℕ) (ask : Ask) → IsRead v ask ↔ (ask ≡ Read)

-- reads the journal of the vBucket 3, tells it that all up to 4 is written down, and reads that of the vBucket 4
abbrev pub two_readings : Job (Reading × Option VbReply × Reading)
two_readings = Request 3 Read (λ first. Call 3 (call.FlushDone 4) (λ reply. Request 4 Read (λ second. Ended (first, reply, second))))

-- two vBuckets, and a journal for the one of them
abbrev pub both_taken : States
both_taken = λ v. Some all_taken

abbrev pub at_3 : Shelf → Shelves
at_3 shelf = with_shelf_at (λ v. None) 3 shelf

abbrev pub said_saved : Option VbReply
said_saved = Some (quiet_reply (answer.Num 4))

-- The first reading gives two batches, and the second one none, as there is no such journal; the vBucket 3 alone is told, and its journal is as it was. A closed journal is read as such a one. A job that appends, looks or keeps does not read alone, also behind a reading.
pub record ReadsInNumbers : Type 0 where
  pub said : (after_reads two_readings (at_3 (open_shelf two_batches)) both_taken).1 ≡ (Book two_batches, said_saved, Shut)
  pub told : (after_reads two_readings (at_3 (open_shelf two_batches)) both_taken).0 3 ≡ Some (record all_taken { saved = 4 })
  pub other : (after_reads two_readings (at_3 (open_shelf two_batches)) both_taken).0 4 ≡ Some all_taken
  pub kept : (after_job two_readings both_taken (at_3 (open_shelf two_batches))).0.1 3 ≡ Some (open_shelf two_batches)
  pub closed : (after_reads two_readings (at_3 (record (open_shelf two_batches) { is_closed = true })) both_taken).1 ≡ (Shut, said_saved, Shut)
  pub reads : ReadsAlone two_readings
  pub appends : (r : Record) → ReadsAlone (Request 3 Read (λ reading. Request 3 (Append r) (λ fate. Ended fate))) → ⊥
  pub looks : ReadsAlone (Request 3 Look (λ flush. Ended flush)) → ⊥
  pub keeps : (flush : Flush) → ReadsAlone (Request 3 (Keep flush) (λ kept. Ended kept)) → ⊥
