-- the journals of a node, and what a job makes of them and of the vBuckets
use Rattle.std.proofs.Common.{◌≡◌, ℕ, Bool, true, false, List, refl, sym, ap, ◌∙◌, subst, Some}
use Rattle.std.specs.Prelude.{◌==◌, if◌then◌else◌}
use Rattle.std.proofs.lemmas.Bool.{eqb-true, eq-eqb}
use Rattle.disk_journals.specs.Asking.{disk_asks}
use Rattle.disk_journals.specs.Devices.{fuse_device}
use Rattle.disk_journals.specs.Seen.{Seen}
use Rattle.disk_journals.specs.Stands.{ShelvesStand}
use Rattle.disk_journals.proofs.UnderArms.{armed_ran}
use Rattle.vb_calls.specs.Jobs.{Job, after_job, RanJob}
use Rattle.vb_calls.specs.Programs.{alone_step}
use Rattle.vb_calls.specs.Shelves.{Ask, Got, Shelf, Shelves, with_shelf_at}
use Rattle.vb_calls.specs.State.{Plain}
use Rattle.vb_calls.specs.States.{States, with_vb_at}
use Rattle.vb_calls.proofs.JobReadings.{ComesTo, alone_after_job}
use Rattle.vb_disk.specs.Fused.{FuseStorage}
use Rattle.vbucket.specs.Stands.{SlotsStand}
use Rattle.node_world.specs.Stands.{MemNode}

-- the journals of a node
abbrev pub MemJournals : Type 0
MemJournals = List (Seen FuseStorage)

-- what is known of a request to them
abbrev pub MemAsks : MemJournals → ℕ → (ask : Ask) → Got ask → MemJournals → Type 0
MemAsks = disk_asks fuse_device

-- the answer of a job is the plain one's, and so are the vBuckets and journals after it
pub known_job : {A : Type 0} (job : Job A) (old : MemNode) (answer : A) (new : MemNode) → RanJob (alone_step SlotsStand) MemAsks job old.vbs old.disks answer new.vbs new.disks
    → (states : States) → SlotsStand old.vbs states → (shelves : Shelves) → ShelvesStand fuse_device old.disks shelves → ComesTo SlotsStand (ShelvesStand fuse_device) answer new.vbs new.disks (after_job job states shelves)
known_job job old answer new ran = alone_after_job SlotsStand (ShelvesStand fuse_device) job old.vbs old.disks answer new.vbs new.disks (armed_ran (alone_step SlotsStand) job old.vbs old.disks answer new.vbs new.disks ran)

-- journals that stay stand for what they stood for
pub same_shelves : (node other : MemNode) (shelves : Shelves) → node.disks ≡ other.disks → ShelvesStand fuse_device other.disks shelves → ShelvesStand fuse_device node.disks shelves
same_shelves node other shelves same stands = subst (λ (d : MemJournals). ShelvesStand fuse_device d shelves) (sym same) stands

-- what is there at v already
pub vb_again : (states : States) (v : ℕ) (vb : Plain) → states v ≡ Some vb → with_vb_at states v vb ≡ states
vb_again states v vb there = λ i u. by u (u == v) refl i
  where
    by : (u : ℕ) (b : Bool) → (u == v) ≡ b → (if b then Some vb else states u) ≡ states u
    by u true e = sym there ∙ ap states (sym (eqb-true u v e))
    by u false e = refl

-- one journal after another at v
pub shelf_over : (shelves : Shelves) (v : ℕ) (x y : Shelf) → with_shelf_at (with_shelf_at shelves v x) v y ≡ with_shelf_at shelves v y
shelf_over shelves v x y = λ i u. by u (u == v) i
  where
    by : (u : ℕ) (b : Bool) → (if b then Some y else if b then Some x else shelves u) ≡ (if b then Some y else shelves u)
    by u true = refl
    by u false = refl

-- the journal that stands at v now
pub shelf_here : (shelves : Shelves) (v : ℕ) (x : Shelf) → with_shelf_at shelves v x v ≡ Some x
shelf_here shelves v x = ap (λ b. if b then Some x else shelves v) (eq-eqb v v refl)
