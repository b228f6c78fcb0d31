-- nodes, and the arms under which their disks are called
use Rattle.std.specs.Prelude.{ℕ, ◌==◌, if◌then◌else◌, List, Option, None, Some}
use Rattle.disk_journals.specs.Arms.{arm_over, fuse_at}
use Rattle.disk_journals.specs.Books.{Book}
use Rattle.vb_calls.specs.Shelves.{Shelves}
use Rattle.vb_calls.specs.States.{States}
use Rattle.vb_disk.specs.declared.fuse.Fuse.{Fuse}
use Rattle.vb_disk.specs.declared.fuse.Fuse.TheVariants as fuse
use Rattle.vb_disk.specs.declared.made.Outcome.{Outcome}
use Rattle.vb_disk.specs.declared.made.Outcome.TheVariants.{Old}
use Rattle.node_world.specs.declared.arm.Arm.{Arm}
use Rattle.node_world.specs.declared.arm.Fired.{Fired}
use Rattle.node_world.specs.declared.arm.Fired.TheVariants as fired
use Rattle.node_core.specs.Clients.{PlainClient}

-- a node: its vBuckets and their journals, how many it made, what its clock shows in nanoseconds, and its open client connections by their numbers; its arm; and, where it is not running, the records that stand on its disks, by rising numbers, each journal's last record first
pub record PlainNode : Type 0 where
  pub vbs : States
  pub shelves : Shelves
  pub made : ℕ
  pub clock : ℕ
  pub clients : ℕ → Option PlainClient
  pub arm : Arm
  pub off : Option (List Book)

-- no device call is hit
abbrev pub no_arm : Arm
no_arm = record { fuse = fuse.Off; out = Old }

-- `stop N K OUT`: the process stops inside the K-th device call from now on, none for 0, and the crash leaves this
abbrev pub stop_arm : ℕ → Outcome → Arm
stop_arm k out = if k == 0 then no_arm else record { fuse = fuse.Stop k; out = out }

-- `fail N K`: that call fails
abbrev pub fail_arm : ℕ → Arm
fail_arm k = if k == 0 then no_arm else record { fuse = fuse.Fail k; out = Old }

-- a running node with no vBucket and no connection, whose clock stands at 0
abbrev pub empty_node : PlainNode
empty_node = record { vbs = λ v. None; shelves = λ v. None; made = 0; clock = 0; clients = λ c. None; arm = no_arm; off = None }

-- whether an arm fired between two moments, and how
abbrev pub fired_by : Fuse → Fuse → Fired
fired_by (fuse.Stop k) fuse.Off = fired.Stopped
fired_by (fuse.Fail k) fuse.Off = fired.Failed
fired_by before after = fired.No

-- what is left of an arm, by what is left over a journal, if there is one
abbrev pub fuse_or : Fuse → Option Fuse → Fuse
fuse_or before None = before
fuse_or before (Some left) = left

-- the node's arm is put over the disk of its vBucket v
abbrev pub placed : ℕ → PlainNode → PlainNode
placed v node = record node { shelves = arm_over node.shelves v node.arm.fuse }

-- what is left of it is taken off that disk
abbrev pub lifted : ℕ → PlainNode → PlainNode
lifted v node = record node { shelves = arm_over node.shelves v fuse.Off; arm = record node.arm { fuse = fuse_or node.arm.fuse (fuse_at node.shelves v) } }

-- what is done under the node's arm, where the vBucket v alone is written down
abbrev pub under_arm : {T : Type 0} → ℕ → (PlainNode → PlainNode × T) → PlainNode → PlainNode × T
under_arm v f node = let (node', told) = f (placed v node) in (lifted v node', told)
