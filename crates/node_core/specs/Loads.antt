-- what loading a node from its disks comes to
use Rattle.std.specs.Prelude.{◌≡◌, ◌⊎◌, ℕ, true, false, List, [], filter, length, map}
use Rattle.disk_journals.specs.Devices.{Device}
use Rattle.disk_journals.specs.Opening.{AreOpened, FaultedBy, book_of, disk_of, seen_opened}
use Rattle.disk_journals.specs.declared.opening.OpenCause.TheVariants as cause
use Rattle.disk_journals.specs.declared.opening.OpenJournal.{OpenJournal}
use Rattle.disk_journals.specs.declared.opening.VbDisk.{VbDisk}
use Rattle.vbucket.specs.Stands.{SlotsStand}
use Rattle.node_core.specs.Loading.{are_short, is_there, loaded_states, starts_of}
use Rattle.node_core.specs.declared.node.Node.{Node}
use Rattle.node_core.specs.declared.node.loading.Loaded.{Loaded}
use Rattle.node_core.specs.declared.node.loading.LoadFault.{LoadFault}
use Rattle.node_core.specs.declared.node.loading.LoadFault.TheVariants as fault

-- a node of this number over these journals, with no connection and no dial
pub record IsBare {W J : Type 0} (n : ℕ) (journals : J) (node : Node W J) : Type 0 where
  pub number : node.number ≡ n
  pub disks : node.disks ≡ journals
  pub conns : node.conns.slots ≡ []
  pub dials : node.dials ≡ []

-- The node was loaded: all journals were opened, and there are ids enough. It has them, and its vBuckets stand for those of the records; those that were active are to take new branches, each with its id.
pub record Loads {D : Type 0} (dev : Device D) (n : ℕ) (disks : List (VbDisk D)) (ids : List ℕ) (loaded : Loaded D) : Type 0 where
  pub opened : List (OpenJournal D)
  pub are : AreOpened dev disks opened
  pub enough : are_short (map book_of opened) ids ≡ false
  pub stand : SlotsStand loaded.node.vbs (loaded_states n (map book_of opened))
  pub bare : IsBare n (map seen_opened opened) loaded.node
  pub starts : loaded.starts.items ≡ starts_of (map book_of opened) ids
  pub made : loaded.made ≡ length (filter is_there (map book_of opened))

-- all journals were opened, and their disks are handed back
pub record AllBack {D : Type 0} (dev : Device D) (disks : List (VbDisk D)) (opened : List (OpenJournal D)) (back : List (VbDisk D)) : Type 0 where
  pub are : AreOpened dev disks opened
  pub handed : back ≡ map disk_of opened

-- Why a node was not loaded, with all its disks: that of the first journal that was not opened; once all were, too few ids, or want of memory. So ids are short exactly where all were opened and there are too few
abbrev pub FailsBy : {D : Type 0} → Device D → List (VbDisk D) → List ℕ → LoadFault D → Type 0
FailsBy dev disks ids (fault.DiskFailed back) = FaultedBy dev disks cause.DiskFailed back.items
FailsBy dev disks ids (fault.Damaged place back) = FaultedBy dev disks (cause.Damaged place) back.items
FailsBy dev disks ids (fault.IdsShort back) = (opened : List (OpenJournal _)) × AllBack dev disks opened back.items × (are_short (map book_of opened) ids ≡ true)
FailsBy dev disks ids (fault.NoMemory back) = FaultedBy dev disks cause.NoMemory back.items ⊎ ((opened : List (OpenJournal _)) × AllBack dev disks opened back.items)
