-- a journal as it is seen, and what its calls do to it
use Rattle.std.specs.Prelude.{◌≡◌, ℕ, ◌+◌, ◌^◌, ◌<◌, ◌≤◌, ◌⊎◌, max, Bool, true, false, List, [], ◌∷◌, ◌++◌, length, drop, slice_range, Option, None, Some, IfSome, Result, Ok, Err, ⊤, refl}
use Rattle.std.specs.Option.{option_map}
use Rattle.std.specs.Coded.{Coded, code_by, coded×, coded_bool, coded_list, coded_option}
use Rattle.vb_disk.specs.Counts.{Rose}
use Rattle.vb_disk.specs.Disks.{Storage, Stays, Torn, Told, written}
use Rattle.vb_disk.specs.declared.Put.{Put}
use Rattle.vb_disk.specs.declared.Put.TheVariants as put
use Rattle.vb_types.specs.contracts.journal.Record as record_row
use Rattle.vb_types.specs.declared.journal.Record.{Record}
use Rattle.vb_journal.specs.declared.fault.AppendFault.{AppendFault}
use Rattle.vb_journal.specs.declared.fault.AppendFault.TheVariants as fault
use Rattle.vb_journal.specs.declared.fault.OpenFault.{OpenFault}
use Rattle.vb_journal.specs.declared.fault.OpenFault.TheVariants as opening
use Rattle.vb_journal.specs.declared.scan.Front.{Front}
use Rattle.vb_journal.specs.declared.scan.Front.TheVariants as front
use Rattle.vb_journal.specs.declared.scan.Scan.{Scan}
use Rattle.vb_journal.specs.declared.scan.Scan.TheVariants as scan
use Rattle.vb_journal.specs.declared.scan.TheConstants.{HEAD_LEN}
use Rattle.vb_journal.specs.Reading.{front_of, reading, records_in}
use Rattle.vb_journal.specs.Receipts.{seq_of}

-- A journal: its disk, the records that it holds, in their order, where its disk tells its bytes, and whether an append failed.
pub record JournalState (D : Type 0) : Type 0 where
  pub disk : D
  pub book : Option (List Record)
  pub closed : Bool

-- as a tuple of its fields
abbrev pub state_code : {D : Type 0} → Coded D → Coded (JournalState D)
state_code {D} code =
    code_by (D × (Option (List Record) × Bool))
    (coded× code (coded× (coded_option (coded_list record_row.the_row.coded)) coded_bool))
    (λ j. (j.disk, (j.book, j.closed))) (λ p. record { disk = p.0; book = p.1.0; closed = p.1.1 }) (λ _. refl)

-- the records that a disk holds, where it tells its bytes
abbrev pub book_of : Option (List ℕ) → Option (List Record)
book_of held = option_map records_in held

-- bytes that read as records up to a closed gate there
abbrev pub EndsAt : ℕ → List ℕ → Type 0
EndsAt end bytes = reading bytes ≡ scan.Whole (records_in bytes) end

-- the gate at which the next record is to stand
pub record StandsAt (end : ℕ) (s : Storage) : Type 0 where
  pub within : end < s.size
  pub few : end < 2 ^ 62
  pub told : IfSome s.held (EndsAt end)

-- bytes that read as records up to some closed gate
abbrev pub IsWhole : List ℕ → Type 0
IsWhole bytes = (end : ℕ) × EndsAt end bytes

-- What is kept of a journal: its disk reads as records, and until an append fails the place of the closed gate is known.
pub record IsKept (s : Storage) (end : ℕ) (closed : Bool) : Type 0 where
  pub whole : IfSome s.held IsWhole
  pub stands : closed ≡ false → StandsAt end s

-- after the writes of an append at this gate: what stands behind the gate, and then the gate open
abbrev pub noted_at : ℕ → List ℕ → List ℕ → List ℕ
noted_at gate behind bytes = written gate (1 ∷ []) (written (gate + 1) behind bytes)

-- after a write that may have failed, and then a sync that did: something in its range, or all of it
abbrev pub WrittenPart : ℕ → List ℕ → List ℕ → List ℕ → Type 0
WrittenPart at bytes old new = Torn at (length bytes) old new ⊎ (new ≡ written at bytes old)

-- a write and a sync are done, or one of them failed
abbrev pub Keeps : Storage → Storage → ℕ → List ℕ → Put → Type 0
Keeps old new at bytes put.Done = (new.size ≡ max old.size (at + length bytes)) × (new.held ≡ option_map (written at bytes) old.held)
Keeps old new at bytes put.Failed = Told (WrittenPart at bytes) old.held new.held

-- after an append that failed: something behind the gate; or all of that, and something in place of the gate; or all of it
abbrev pub NotedPart : ℕ → List ℕ → List ℕ → List ℕ → Type 0
NotedPart gate behind old new = Torn (gate + 1) (length behind) old new ⊎ WrittenPart gate (1 ∷ []) (written (gate + 1) behind old) new

-- the writes of an append are done, or one of its calls failed
abbrev pub Noted : Storage → Storage → ℕ → List ℕ → Put → Type 0
Noted old new gate behind put.Done = (gate + 1 + length behind ≤ new.size) × (new.held ≡ option_map (noted_at gate behind) old.held)
Noted old new gate behind put.Failed = Told (NotedPart gate behind) old.held new.held

-- What was taken off a disk: so many of its bytes at a place, where they are told. Nothing is taken where the disk failed.
abbrev pub Taken : Storage → Storage → ℕ → ℕ → Option (List ℕ) → Type 0
Taken old new place len None = Rose old.failures new.failures
Taken old new place len (Some taken) = (length taken ≡ len) × IfSome old.held (λ bytes. taken ≡ slice_range bytes place (place + len))

-- What was found at a place of a disk, where its bytes are told. Nothing is found where the disk failed.
abbrev pub Found : Storage → Storage → ℕ → Option Front → Type 0
Found old new place None = Rose old.failures new.failures
Found old new place (Some begins) = IfSome old.held (λ bytes. front_of (drop place bytes) ≡ begins)

-- what was found ends within the disk
abbrev pub IsWithin : ℕ → ℕ → Front → Type 0
IsWithin size place front.Closed = place < size
IsWithin size place (front.Holds r len) = place + (HEAD_LEN + len) ≤ size
IsWithin size place front.Outside = ⊤

-- what a disk reads as, where its bytes are told; nothing is read where it failed
abbrev pub Scanned : Storage → Storage → Option Scan → Type 0
Scanned old new None = Rose old.failures new.failures
Scanned old new (Some found) = IfSome old.held (λ bytes. reading bytes ≡ found)

-- the closed gate that was found stands within the disk
abbrev pub EndsWithin : ℕ → Scan → Type 0
EndsWithin size (scan.Whole records end) = end < size
EndsWithin size (scan.Damaged place) = ⊤

-- the count of a journal's disk
abbrev pub failures_of : {D : Type 0} → (D → Storage) → JournalState D → ℕ
failures_of storage j = (storage j.disk).failures

-- a disk is as it was, but for its count of failures
pub record IsSame (old new : Storage) : Type 0 where
  pub stays : Stays old new
  pub later : old.failures ≤ new.failures

-- nothing changed but the count of failures
pub record Rests {D : Type 0} (storage : D → Storage) (old new : JournalState D) : Type 0 where
  pub book : new.book ≡ old.book
  pub closed : new.closed ≡ old.closed
  pub disk : IsSame (storage old.disk) (storage new.disk)

-- The disk was not called: nothing changed but what memory is ready for.
pub record IsUncalled {D : Type 0} (storage : D → Storage) (old new : JournalState D) : Type 0 where
  pub book : new.book ≡ old.book
  pub closed : new.closed ≡ old.closed
  pub size : (storage new.disk).size ≡ (storage old.disk).size
  pub held : (storage new.disk).held ≡ (storage old.disk).held
  pub failures : failures_of storage new ≡ failures_of storage old

-- the records are those from before, or those and one more
abbrev pub OldOrNew : Option (List Record) → Record → Option (List Record) → Type 0
OldOrNew None r None = ⊤
OldOrNew (Some old) r (Some new) = (new ≡ old) ⊎ (new ≡ old ++ r ∷ [])
OldOrNew None r (Some new) = ⊥
OldOrNew (Some old) r None = ⊥

-- a record was appended, and the receipt names its seqno
pub record IsAppended {D : Type 0} (storage : D → Storage) (old new : JournalState D) (r : Record) (receipt : ℕ) : Type 0 where
  pub was_open : old.closed ≡ false
  pub stays_open : new.closed ≡ false
  pub book : new.book ≡ option_map (λ records. records ++ r ∷ []) old.book
  pub names : receipt ≡ seq_of r
  pub later : failures_of storage old ≤ failures_of storage new

-- the disk failed, and the journal is closed from now on
pub record IsBroken {D : Type 0} (storage : D → Storage) (old new : JournalState D) (r : Record) : Type 0 where
  pub was_open : old.closed ≡ false
  pub closes : new.closed ≡ true
  pub book : OldOrNew old.book r new.book
  pub later : failures_of storage old ≤ failures_of storage new
  pub rose : Rose (failures_of storage old) (failures_of storage new)

-- What an append answers: it was done; or an earlier one failed, and nothing was changed; or this one did.
abbrev pub Appended : {D : Type 0} → (D → Storage) → JournalState D → JournalState D → Record → Result ℕ AppendFault → Type 0
Appended storage old new r (Ok receipt) = IsAppended storage old new r receipt
Appended storage old new r (Err fault.Closed) = (old.closed ≡ true) × (new ≡ old)
Appended storage old new r (Err fault.DiskFailed) = IsBroken storage old new r
Appended storage old new r (Err (fault.Damaged place)) = ⊥

-- What reading the records answers: all, in their order; or an earlier append failed; or the disk did; or it told its bytes to nobody, and gave others.
abbrev pub ReadBack : {D : Type 0} → (D → Storage) → JournalState D → JournalState D → Result (List Record) AppendFault → Type 0
ReadBack storage old new (Ok records) = (old.closed ≡ false) × Rests storage old new × IfSome old.book (λ book. records ≡ book)
ReadBack storage old new (Err fault.Closed) = (old.closed ≡ true) × (new ≡ old)
ReadBack storage old new (Err fault.DiskFailed) = (old.closed ≡ false) × Rests storage old new × Rose (failures_of storage old) (failures_of storage new)
ReadBack storage old new (Err (fault.Damaged place)) = (old.closed ≡ false) × Rests storage old new × (old.book ≡ None)

-- a journal holds what its disk reads as, up to a closed gate
pub record Holds {D : Type 0} (storage : D → Storage) (disk : D) (j : JournalState D) (records : List Record) : Type 0 where
  pub same : IsSame (storage disk) (storage j.disk)
  pub is_open : j.closed ≡ false
  pub book : j.book ≡ option_map (λ bytes. records) (storage disk).held
  pub read : IfSome (storage disk).held (λ bytes. records ≡ records_in bytes)
  pub whole : IfSome (storage disk).held IsWhole

-- What opening answers: a journal and its records; or it hands the disk back, where memory was short, where it failed, and where its bytes are no journal's.
abbrev pub Opened : {D : Type 0} → (D → Storage) → D → Result (JournalState D × List Record) (OpenFault D) → Type 0
Opened storage disk (Ok (journal, records)) = Holds storage disk journal records
Opened storage disk (Err (opening.NoMemory back)) = IsSame (storage disk) (storage back)
Opened storage disk (Err (opening.DiskFailed back)) = IsSame (storage disk) (storage back) × Rose (storage disk).failures (storage back).failures
Opened storage disk (Err (opening.Damaged place back)) =
    IsSame (storage disk) (storage back) × IfSome (storage disk).held (λ bytes. reading bytes ≡ scan.Damaged place)

-- bytes that are told read as these records, up to some closed gate
abbrev pub Bears : Option (List ℕ) → Option (List Record) → Type 0
Bears held book = (book ≡ book_of held) × IfSome held IsWhole
