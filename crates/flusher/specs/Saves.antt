-- what a save comes to
use Rattle.std.specs.Prelude.{◌≡◌, ℕ, true, List, Option, Result, Ok, Err}
use Rattle.flusher.specs.declared.flusher.Flusher.{Flusher}
use Rattle.flusher.specs.declared.flusher.Flusher.TheVariants.{Idle, Out, Written}
use Rattle.vb_disk.specs.Disks.{Storage}
use Rattle.vb_disk.specs.Outcomes.{LeftAlike}
use Rattle.vb_disk.specs.declared.fuse.Fuse.{Fuse}
use Rattle.vb_disk.specs.declared.made.Outcome.{Outcome}
use Rattle.vb_journal.specs.Books.{JournalState, Appended, IsUncalled}
use Rattle.vb_journal.specs.UnderArms.{ArmedBy, KeptByEach, StandsUnder}
use Rattle.vb_journal.specs.Payloads.{is_writable}
use Rattle.vb_journal.specs.declared.fault.AppendFault.{AppendFault}
use Rattle.vb_types.specs.declared.journal.Record.{Record}
use Rattle.vb_types.specs.declared.journal.Record.TheVariants.{State, Rows, Roll}
use Rattle.vb_journal.specs.Receipts.{seq_of}

-- a batch was taken that can be written down
abbrev pub IsSavable : Flusher → Type 0
IsSavable Idle = ⊥
IsSavable (Out batch) = is_writable (Rows batch) ≡ true
IsSavable (Written receipt) = ⊥

-- the batch of a record is on its way
abbrev pub out_again : Record → Flusher
out_again (State role log) = Idle
out_again (Rows batch) = Out batch
out_again (Roll to) = Idle

-- a record was appended, and its receipt is kept; or the append failed, and no batch is on its way
abbrev pub SavedBy : {D : Type 0} → (D → Storage) → Record → Flusher → JournalState D → JournalState D → Result (Unit {0}) AppendFault → Type 0
SavedBy storage what after old new (Ok done) = (after ≡ Written (seq_of what)) × Appended storage old new what (Ok (seq_of what))
SavedBy storage what after old new (Err fault) = (after ≡ Idle) × Appended storage old new what (Err fault)

-- what the append of a record answered, by what is told of its save
abbrev pub append_of : Record → Result (Unit {0}) AppendFault → Result ℕ AppendFault
append_of what (Ok done) = Ok (seq_of what)
append_of what (Err fault) = Err fault

-- What an append of a record leaves where its disk tells the arm under which it is called.
pub record AppendedUnder {D : Type 0} (storage : D → Storage) (armed : D → Option Fuse) (left : D → Outcome → Option (List ℕ)) (what : Record) (old new : JournalState D) (came : Result ℕ AppendFault) : Type 0 where
  pub arm : ArmedBy (armed old.disk) (armed new.disk) came
  pub stands : StandsUnder storage armed left old new what
  pub kept_by_each : KeptByEach (armed old.disk) (storage new.disk).held (left new.disk) came

-- the same of the batch that was taken
abbrev pub SavedUnder : {D : Type 0} → (D → Storage) → (D → Option Fuse) → (D → Outcome → Option (List ℕ)) → Flusher → JournalState D → JournalState D → Result (Unit {0}) AppendFault → Type 0
SavedUnder storage armed left Idle old new came = ⊥
SavedUnder storage armed left (Out batch) old new came = AppendedUnder storage armed left (Rows batch) old new (append_of (Rows batch) came)
SavedUnder storage armed left (Written receipt) old new came = ⊥

-- where memory was short the disk was not called, and its arm and what a crash leaves are as before
pub record IsUncalledUnder {D : Type 0} (storage : D → Storage) (armed : D → Option Fuse) (left : D → Outcome → Option (List ℕ)) (old new : JournalState D) : Type 0 where
  pub uncalled : IsUncalled storage old new
  pub same_arm : armed new.disk ≡ armed old.disk
  pub same_left : LeftAlike (left old.disk) (left new.disk)

-- the batch that was taken was saved, or it was not
abbrev pub Saved : {D : Type 0} → (D → Storage) → Flusher → Flusher → JournalState D → JournalState D → Result (Unit {0}) AppendFault → Type 0
Saved storage Idle after old new came = ⊥
Saved storage (Out batch) after old new came = SavedBy storage (Rows batch) after old new came
Saved storage (Written receipt) after old new came = ⊥
