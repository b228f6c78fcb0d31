-- what a flusher does, in other words
use Rattle.std.specs.Prelude.{◌≡◌, ◌≢◌, ℕ, true, [], ◌∷◌, ◌++◌, Some, None, option_map, Result, Ok, Err}
use Rattle.flusher.specs.declared.flusher.Flusher.{Flusher}
use Rattle.flusher.specs.declared.flusher.Flusher.TheVariants.{Idle, Out, Written}
use Rattle.flusher.specs.Saves.{Saved}
use Rattle.flusher.specs.Turns.{put_in, handed_back, receipt_in, without_receipt}
use Rattle.vb_disk.specs.Disks.{Storage}
use Rattle.vb_journal.specs.Books.{JournalState}
use Rattle.vb_journal.specs.declared.fault.AppendFault.{AppendFault}
use Rattle.vb_types.specs.declared.journal.Batch.{Batch}
use Rattle.vb_types.specs.declared.journal.Record.TheVariants.{Rows}

-- A batch is taken exactly where none is on its way, and comes back elsewhere, where nothing changes. A receipt is there exactly where a batch was appended, and once it was handed out none is.
pub record TakesTurns : Type 0 where
  pub taken : (batch : Batch) → (put_in Idle batch ≡ Out batch) × (handed_back Idle batch ≡ Ok tt)
  pub back : (flusher : Flusher) (batch : Batch) → flusher ≢ Idle → (put_in flusher batch ≡ flusher) × (handed_back flusher batch ≡ Err batch)
  pub receipt : (seq : ℕ) → (receipt_in (Written seq) ≡ Some seq) × (without_receipt (Written seq) ≡ Idle)
  pub no_receipt : (flusher : Flusher) → ((seq : ℕ) → flusher ≢ Written seq) → (receipt_in flusher ≡ None) × (without_receipt flusher ≡ flusher)

-- A batch that was saved stands at the end of an open journal's records, and the flusher has the receipt that names its seqno. One that was not is gone, and the journal is closed.
pub record SavesAs {D : Type 0} (storage : D → Storage) (batch : Batch) (after : Flusher) (old new : JournalState D) : Type 0 where
  pub written : (done : Unit {0}) → Saved storage (Out batch) after old new (Ok done)
      → (after ≡ Written batch.position.at) × (new.book ≡ option_map (λ records. records ++ Rows batch ∷ []) old.book)
  pub gone : (fault : AppendFault) → Saved storage (Out batch) after old new (Err fault) → (after ≡ Idle) × (new.closed ≡ true)
  pub taken_first : (before : Flusher) (came : Result (Unit {0}) AppendFault) → Saved storage before after old new came → (taken : Batch) × (before ≡ Out taken)

-- whatever disk the journal has
abbrev pub SavesAppend : {D : Type 0} → (D → Storage) → Type 0
SavesAppend storage = (batch : Batch) (after : Flusher) (old new : JournalState _) → SavesAs storage batch after old new
