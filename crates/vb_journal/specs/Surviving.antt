-- what a crash leaves of a journal
use Rattle.std.specs.Prelude.{◌≡◌, ◌≢◌, ℕ, ◌+◌, ◌⊎◌, Bool, false, List, [], ◌∷◌, ◌++◌, length, take, get_or, Option, Some, IfSome, IsSome, Result, Ok, Err, ⊤}
use Rattle.vb_disk.specs.Crashes.{Among, Crashes, AtEachMoment, IsSettled, LeavesNoMore}
use Rattle.vb_disk.specs.Disks.{Storage, IsAsMade, Torn, written}
use Rattle.vb_types.specs.declared.journal.Record.{Record}
use Rattle.vb_journal.specs.declared.fault.AppendFault.{AppendFault}
use Rattle.vb_journal.specs.declared.fault.OpenFault.{OpenFault}
use Rattle.vb_journal.specs.declared.fault.OpenFault.TheVariants as opening
use Rattle.vb_journal.specs.declared.scan.Scan.TheVariants as scan
use Rattle.vb_journal.specs.declared.scan.TheConstants.{OPEN}
use Rattle.vb_journal.specs.Books.{JournalState, IsKept, IsWhole, NotedPart, noted_at}
use Rattle.vb_journal.specs.Reading.{reading, behind_gate, IsReadBack}

-- What a crash left opens to these records: it reads as them, up to some closed gate.
abbrev pub OpensTo : List Record → List ℕ → Type 0
OpensTo records image = (end : ℕ) × (reading image ≡ scan.Whole records end)

-- it opens to the records from before, or to them and one more
abbrev pub OpensToOldOrNew : List Record → Record → List ℕ → Type 0
OpensToOldOrNew records r image = OpensTo records image ⊎ OpensTo (records ++ r ∷ []) image

-- All that a journal's disk gives outlasts a crash.
abbrev pub IsKeptWhole : {D : Type 0} → (D → Storage) → (D → Crashes) → JournalState D → Type 0
IsKeptWhole storage crashes j = IsSettled (storage j.disk).held (crashes j.disk)

-- each image that a crash may leave now reads as records up to some closed gate, where the disk tells its bytes
abbrev pub LeavesWhole : Option (List ℕ) → Crashes → Type 0
LeavesWhole held c = IfSome held (λ bytes. Among IsWhole c.leaves)

-- What is kept of a journal and of what crashes leave of it: its disk reads as records, also what a crash leaves of it, and until an append fails all that it gives outlasts a crash.
pub record IsHeld (s : Storage) (c : Crashes) (end : ℕ) (closed : Bool) : Type 0 where
  pub kept : IsKept s end closed
  pub settled : closed ≡ false → IsSettled s.held c
  pub left : LeavesWhole s.held c

-- A DISK THAT IS NOT DAMAGED: what a read gives of it reads as records up to some closed gate, and so does whatever a crash may leave of it.
pub record IsUndamaged (s : Storage) (c : Crashes) : Type 0 where
  pub now : IfSome s.held IsWhole
  pub left : LeavesWhole s.held c

-- what an opening answers that found no damage: the disk that it hands back, or keeps, is not damaged either
abbrev pub FindsNone : {D : Type 0} → (D → Storage) → (D → Crashes) → Result (JournalState D × List Record) (OpenFault D) → Type 0
FindsNone storage crashes (Ok (journal, records)) = IsUndamaged (storage journal.disk) (crashes journal.disk)
FindsNone storage crashes (Err (opening.NoMemory back)) = IsUndamaged (storage back) (crashes back)
FindsNone storage crashes (Err (opening.DiskFailed back)) = IsUndamaged (storage back) (crashes back)
FindsNone storage crashes (Err (opening.Damaged place back)) = ⊥

-- an opening of a disk that tells its bytes and is not damaged
abbrev pub IsNeverDamaged : {D : Type 0} → (D → Storage) → (D → Crashes) → D → Result (JournalState D × List Record) (OpenFault D) → Type 0
IsNeverDamaged storage crashes disk answer = IfSome (storage disk).held (λ bytes. IsUndamaged (storage disk) (crashes disk) → FindsNone storage crashes answer)

-- after a crash: a read gives one of the images that it may leave, and a second crash would leave the same
pub record IsCrashed (c : Crashes) (s' : Storage) (c' : Crashes) : Type 0 where
  pub image : List ℕ
  pub left : c.leaves image
  pub held : s'.held ≡ Some image
  pub settled : IsSettled s'.held c'

-- at each moment of the two writes of an append a crash leaves something behind the closed gate, or all of that and something in place of the gate
abbrev pub NotesAtEachMoment : Option (List ℕ) → Crashes → Crashes → ℕ → List ℕ → Type 0
NotesAtEachMoment held old new gate behind = IfSome held (λ bytes. AtEachMoment old new (NotedPart gate behind bytes))

-- At each moment of an append to a journal that is open, what a crash leaves opens to the records from before, or to them and the new one.
abbrev pub OldOrNewAtEachMoment : {D : Type 0} → (D → Crashes) → JournalState D → JournalState D → Record → Type 0
OldOrNewAtEachMoment crashes old new r = old.closed ≡ false → IfSome old.book (λ records. AtEachMoment (crashes old.disk) (crashes new.disk) (OpensToOldOrNew records r))

-- what a crash may leave now opens to the records that a journal holds
abbrev pub OpensToAll : {D : Type 0} → (D → Crashes) → JournalState D → Type 0
OpensToAll crashes j = IfSome j.book (λ records. (image : List ℕ) → (crashes j.disk).leaves image → OpensTo records image)

-- Once an append has answered that it is done, all outlasts a crash, the new record too.
abbrev pub KeptOnceDone : {D : Type 0} → (D → Storage) → (D → Crashes) → JournalState D → Result ℕ AppendFault → Type 0
KeptOnceDone storage crashes new (Ok receipt) = IsKeptWhole storage crashes new × OpensToAll crashes new
KeptOnceDone storage crashes new (Err fault) = ⊤

-- A crash while a disk is opened leaves nothing that one could not have left before. Once it is done, all that was read outlasts a crash.
abbrev pub OpenedSafely : {D : Type 0} → (D → Storage) → (D → Crashes) → D → Result (JournalState D × List Record) (OpenFault D) → Type 0
OpenedSafely storage crashes disk (Ok (journal, records)) =
    LeavesNoMore (crashes disk) (crashes journal.disk) × IsKeptWhole storage crashes journal × OpensToAll crashes journal
OpenedSafely storage crashes disk (Err (opening.NoMemory back)) = LeavesNoMore (crashes disk) (crashes back)
OpenedSafely storage crashes disk (Err (opening.DiskFailed back)) = LeavesNoMore (crashes disk) (crashes back)
OpenedSafely storage crashes disk (Err (opening.Damaged place back)) = LeavesNoMore (crashes disk) (crashes back)

-- NEVER DAMAGED. Of disks of any kind that tell their bytes: one as it is made is not damaged; a crash leaves one that is not; and neither does one at any moment of an append to an open journal.
pub record NeverDamaged {D : Type 0} (storage : D → Storage) (crashes : D → Crashes) : Type 0 where
  pub made : (d : D) → IsAsMade (storage d) → IsSettled (storage d).held (crashes d) → IsUndamaged (storage d) (crashes d)
  pub crashed : (d d' : D) → IsSome (storage d).held → IsUndamaged (storage d) (crashes d) → IsCrashed (crashes d) (storage d') (crashes d') → IsUndamaged (storage d') (crashes d')
  pub meanwhile : (records : List Record) (r : Record) (d d' : D) → AtEachMoment (crashes d) (crashes d') (OpensToOldOrNew records r) → AtEachMoment (crashes d) (crashes d') IsWhole

-- THE GATE DECIDES. A journal's bytes read as records up to a closed gate. An append writes its record behind that gate and syncs, and only then writes the gate, and syncs.
pub record GateDecides (r : Record) (old : List ℕ) (records : List Record) (gate : ℕ) : Type 0 where
  -- Whatever a crash leaves of the first write, the gate is closed, and what stands behind a closed gate tells nothing.
  pub shut : (image : List ℕ) → Torn (gate + 1) (length (behind_gate r)) old image → reading image ≡ scan.Whole records gate
  -- Of the second write a crash leaves one byte, and that is the gate. Where it is open, the record is there, whole; where it is any other byte, the records from before are.
  pub opened : (image : List ℕ) → Torn gate 1 (written (gate + 1) (behind_gate r) old) image → get_or image gate 0 ≡ OPEN
      → reading image ≡ scan.Whole (records ++ r ∷ []) (gate + length (behind_gate r))
  pub left_shut : (image : List ℕ) → Torn gate 1 (written (gate + 1) (behind_gate r) old) image → get_or image gate 0 ≢ OPEN → reading image ≡ scan.Whole records gate
  -- After both it is open.
  pub all : reading (noted_at gate (behind_gate r) old) ≡ scan.Whole (records ++ r ∷ []) (gate + length (behind_gate r))
  -- And no opening reads behind a closed gate: bytes that agree up to it and with it open alike.
  pub behind : (image : List ℕ) → take (gate + 1) image ≡ take (gate + 1) old → reading image ≡ reading old

-- for each record that its payload gives back, on each disk that reads as records
abbrev pub TheGateDecides : Type 0
TheGateDecides = (r : Record) (old : List ℕ) (records : List Record) (gate : ℕ) → IsReadBack r → reading old ≡ scan.Whole records gate → GateDecides r old records gate
