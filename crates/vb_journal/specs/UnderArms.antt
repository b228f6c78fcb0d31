-- what an append leaves, where its disk tells the arm under which it is called
use Rattle.std.specs.Prelude.{◌≡◌, ℕ, ◌+◌, ◌==◌, ◌&&◌, not, Bool, true, false, if◌then◌else◌, List, [], ◌∷◌, ◌++◌, Option, None, Some, IfSome, Result, Ok, Err, ⊤}
use Rattle.std.specs.Option.{option_map}
use Rattle.vb_disk.specs.Arms.{hits, is_made, burnt}
use Rattle.vb_disk.specs.Disks.{Storage, written}
use Rattle.vb_disk.specs.Outcomes.{leaving, LeftAlike}
use Rattle.vb_disk.specs.declared.Put.{Put}
use Rattle.vb_disk.specs.declared.Put.TheVariants as put
use Rattle.vb_disk.specs.declared.fuse.Fuse.{Fuse}
use Rattle.vb_disk.specs.declared.made.Outcome.{Outcome}
use Rattle.vb_disk.specs.declared.made.Outcome.TheVariants as outcome
use Rattle.vb_types.specs.declared.journal.Record.{Record}
use Rattle.vb_journal.specs.declared.fault.AppendFault.{AppendFault}
use Rattle.vb_journal.specs.declared.fault.AppendFault.TheVariants as fault
use Rattle.vb_journal.specs.declared.fault.OpenFault.{OpenFault}
use Rattle.vb_journal.specs.declared.fault.OpenFault.TheVariants as opening
use Rattle.vb_journal.specs.declared.scan.TheConstants.{OPEN}
use Rattle.vb_journal.specs.Books.{JournalState}
use Rattle.vb_journal.specs.Surviving.{OpensTo}

-- what a crash of each outcome leaves is what a read gives
abbrev pub IsSettledEach : Option (List ℕ) → (Outcome → Option (List ℕ)) → Type 0
IsSettledEach held left = (out : Outcome) → left out ≡ held

-- what calls leave by each outcome, by the arm and by what a read gave before, where the disk was settled and tells both
abbrev pub LeavesUnder : Option Fuse → Option (List ℕ) → (Outcome → Option (List ℕ)) → (Outcome → Option (List ℕ)) → (Fuse → Outcome → List ℕ → List ℕ) → Type 0
LeavesUnder armed held old new leaves = IfSome armed (λ f. IfSome held (λ bytes. IsSettledEach (Some bytes) old → ((out : Outcome) → new out ≡ Some (leaves f out bytes))))

-- ---- a write, and a sync behind it

-- neither is hit
abbrev pub both_pass : Fuse → Bool
both_pass f = not (hits f) && not (hits (burnt f))

-- the arm behind them: the sync is called where the write was not hit
abbrev pub burnt_both : Fuse → Fuse
burnt_both f = if hits f then burnt f else burnt (burnt f)

-- what they leave: where the sync was done, the bytes that were written
abbrev pub left_writing : Fuse → Outcome → ℕ → List ℕ → List ℕ → List ℕ
left_writing f out at bytes old =
    if hits f then (if is_made f then leaving out at bytes old else old)
    else if hits (burnt f) then leaving out at bytes old
    else written at bytes old

abbrev pub BurnsBoth : Option Fuse → Option Fuse → Put → Type 0
BurnsBoth None now answer = now ≡ None
BurnsBoth (Some f) now answer = (now ≡ Some (burnt_both f)) × (answer ≡ (if both_pass f then put.Done else put.Failed))

-- ---- the two writes of an append, each with its sync

abbrev pub burnt_noting : Fuse → Fuse
burnt_noting f = if both_pass f then burnt_both (burnt_both f) else burnt_both f

abbrev pub all_pass : Fuse → Bool
all_pass f = both_pass f && both_pass (burnt_both f)

abbrev pub left_noting : Fuse → Outcome → ℕ → List ℕ → List ℕ → List ℕ
left_noting f out gate behind old =
    if both_pass f then left_writing (burnt_both f) out gate (1 ∷ []) (written (gate + 1) behind old)
    else left_writing f out (gate + 1) behind old

abbrev pub BurnsNoting : Option Fuse → Option Fuse → Put → Type 0
BurnsNoting None now answer = now ≡ None
BurnsNoting (Some f) now answer = (now ≡ Some (burnt_noting f)) × (answer ≡ (if all_pass f then put.Done else put.Failed))

-- ---- an append

-- the gate is left open
abbrev pub leaves_open : Outcome → Bool
leaves_open outcome.Old = false
leaves_open outcome.New = true
leaves_open (outcome.Fill byte) = byte == OPEN

-- The record of an append stands: where all four calls were done; and, where the third was made and stopped, or the fourth was hit, exactly where the crash leaves the gate open.
abbrev pub stands : Fuse → Outcome → Bool
stands f out =
    if not (both_pass f) then false
    else if hits (burnt_both f) then is_made (burnt_both f) && leaves_open out
    else if hits (burnt (burnt_both f)) then leaves_open out
    else true

-- the records with this one, or without it
abbrev pub with_if : Bool → List Record → Record → List Record
with_if true records r = records ++ r ∷ []
with_if false records r = records

-- what an append leaves under this arm, by each outcome of a crash
abbrev pub AppendLeaves : Fuse → Option (List Record) → (Outcome → Option (List ℕ)) → Record → Type 0
AppendLeaves f book left r = IfSome book (λ records. (out : Outcome) → IfSome (left out) (OpensTo (with_if (stands f out) records r)))

-- A call that is done leaves the same by each outcome: what a read gives.
abbrev pub EachSettled : Put → Option Fuse → Option (List ℕ) → (Outcome → Option (List ℕ)) → Type 0
EachSettled put.Done armed held left = IfSome armed (λ f. IsSettledEach held left)
EachSettled put.Failed armed held left = ⊤

abbrev pub KeptByEach : Option Fuse → Option (List ℕ) → (Outcome → Option (List ℕ)) → Result ℕ AppendFault → Type 0
KeptByEach armed held left (Ok receipt) = IfSome armed (λ f. IsSettledEach held left)
KeptByEach armed held left (Err fault) = ⊤

-- The arm behind an append: four calls burn it, or those up to the one that it hits, and the append fails exactly where it hits one of them. A journal that is closed calls nothing.
abbrev pub ArmedBy : Option Fuse → Option Fuse → Result ℕ AppendFault → Type 0
ArmedBy None now answer = now ≡ None
ArmedBy (Some f) now (Ok receipt) = (now ≡ Some (burnt_noting f)) × (all_pass f ≡ true)
ArmedBy (Some f) now (Err fault.Closed) = now ≡ Some f
ArmedBy (Some f) now (Err fault.DiskFailed) = (now ≡ Some (burnt_noting f)) × (all_pass f ≡ false)
ArmedBy (Some f) now (Err (fault.Damaged place)) = ⊥

-- where the disk of an open journal leaves the same by each outcome before an append
abbrev pub StandsUnder : {D : Type 0} → (D → Storage) → (D → Option Fuse) → (D → Outcome → Option (List ℕ)) → JournalState D → JournalState D → Record → Type 0
StandsUnder storage armed left old new r =
    old.closed ≡ false → IsSettledEach (storage old.disk).held (left old.disk) → IfSome (armed old.disk) (λ f. AppendLeaves f old.book (left new.disk) r)

-- ---- opening and reading

-- what was asked for was given, where the disk tells its arm, since none hits a read
abbrev pub GivesUnder : {A : Type 0} → Option Fuse → Option A → Type 0
GivesUnder None given = ⊤
GivesUnder (Some f) None = ⊥
GivesUnder (Some f) (Some given) = ⊤

abbrev pub ReadsUnder : Option Fuse → Result (List Record) AppendFault → Type 0
ReadsUnder None answer = ⊤
ReadsUnder (Some f) (Ok records) = ⊤
ReadsUnder (Some f) (Err fault.Closed) = ⊤
ReadsUnder (Some f) (Err fault.DiskFailed) = ⊥
ReadsUnder (Some f) (Err (fault.Damaged place)) = ⊤

-- An opening is one call that burns the arm, and fails exactly where it is hit. Once it is done each outcome of a crash leaves what was read.
abbrev pub OpensUnder : {D : Type 0} → (D → Storage) → (D → Option Fuse) → (D → Outcome → Option (List ℕ)) → D → Result (JournalState D × List Record) (OpenFault D) → Type 0
OpensUnder storage armed left disk (Ok (journal, records)) =
    (armed journal.disk ≡ option_map burnt (armed disk)) × IfSome (armed disk) (λ f. (hits f ≡ false) × IsSettledEach (storage journal.disk).held (left journal.disk))
OpensUnder storage armed left disk (Err (opening.NoMemory back)) = (armed back ≡ option_map burnt (armed disk)) × IfSome (armed disk) (λ f. hits f ≡ false)
OpensUnder storage armed left disk (Err (opening.DiskFailed back)) =
    (armed back ≡ option_map burnt (armed disk)) × IfSome (armed disk) (λ f. (hits f ≡ true) × LeftAlike (left disk) (left back))
OpensUnder storage armed left disk (Err (opening.Damaged place back)) = (armed back ≡ option_map burnt (armed disk)) × IfSome (armed disk) (λ f. hits f ≡ false)
