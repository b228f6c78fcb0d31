-- what starting and stopping make of a node that is kept
use Rattle.std.specs.Prelude.{◌≡◌, ◌+◌, ◌≤◌, ℕ, Bool, true, false, List, [], ◌∷◌, ◌++◌, Some, None, is_some, length}
use Rattle.std.specs.List.{filter}
use Rattle.disk_journals.specs.Books.{AreBooks, Book}
use Rattle.disk_journals.specs.declared.opening.VbDisk.{VbDisk}
use Rattle.node_core.specs.Outs.{start_by}
use Rattle.node_core.specs.declared.node.starts.Started.{Started}
use Rattle.vb_disk.specs.Fused.{FuseStorage}
use Rattle.vb_disk.specs.declared.made.Outcome.{Outcome}
use Rattle.vb_events.specs.declared.event.Answer.TheVariants as answer
use Rattle.vb_events.specs.declared.event.Cause.TheVariants as cause
use Rattle.vb_events.specs.declared.event.Event.TheVariants as event
use Rattle.node_world.specs.declared.arm.Arm.{Arm}
use Rattle.node_world.specs.declared.arm.Fired.{Fired}
use Rattle.node_world.specs.declared.arm.Fired.TheVariants as fired
use Rattle.node_world.specs.declared.script_node.ScriptNode.{ScriptNode}
use Rattle.node_world.specs.declared.told.Told.{Told}
use Rattle.node_world.specs.Arms.{PlainNode, fired_by}
use Rattle.node_world.specs.Ends.{KeepsEnds, dial_under, peer_under}
use Rattle.node_world.specs.Power.{all_cut, first_no, start_at, start_books, start_one, starts_from, stopped_node, touches}
use Rattle.node_world.specs.Stands.{NodeMatch, Kept, WorldStands, node_number}
use Rattle.node_world.specs.Worlds.{PlainWorld}

-- no end of a link is there
pub record IsBare (node : ScriptNode) : Type 0 where
  pub peers : (key : ℕ) → peer_under node key ≡ None
  pub dials : (v : ℕ) → dial_under node v ≡ None

-- the node stops
abbrev pub Stops : Outcome → ScriptNode → ScriptNode → Type 0
Stops out old new = ((plain : PlainNode) → NodeMatch old plain → NodeMatch new (stopped_node out plain)) × (node_number new ≡ node_number old) × IsBare new

-- one more vBucket takes its new branch, under the arm
abbrev pub StartsOne : ℕ × ℕ → ScriptNode → Started → ScriptNode → Type 0
StartsOne start old told new = (plain : PlainNode) → NodeMatch old plain →
    let (node, said) = start_one (node_number old) start plain in NodeMatch new node × (start_by told ≡ said) × KeepsEnds old new

-- a node whose arm fired like this, what is told of it, and whether it stopped
abbrev pub met_by : ℕ → Arm → Fired → PlainNode → Told → PlainNode × Told × Bool
met_by n arm fired.No node told = (node, record { events = told.events; answer = told.answer }, false)
met_by n arm fired.Failed node told = (node, record { events = told.events ++ event.CallFailed n ∷ []; answer = told.answer }, false)
met_by n arm fired.Stopped node told = (stopped_node arm.out node, record { events = told.events ++ event.NodeStopped n ∷ []; answer = answer.No cause.Stopped }, true)

-- the arm fired since it was this one, or not; a node with no end of a link has none then
abbrev pub MeetsArm : Arm → ScriptNode → Told → ScriptNode → Told → Bool → Type 0
MeetsArm arm old told new told' over = (plain : PlainNode) → NodeMatch old plain → IsBare old →
    let (node, said, ends) = met_by (node_number old) arm (fired_by arm.fuse plain.arm.fuse) plain told in
    NodeMatch new node × (told' ≡ said) × (over ≡ ends) × (node_number new ≡ node_number old) × IsBare new

-- one more vBucket of a node takes its new branch, where this was told before, and the node's arm did what it did
abbrev pub next_start : ℕ → ℕ × ℕ → PlainNode → Told → PlainNode × Told × Bool
next_start n start node told =
    let (node', one) = start_one n start node in
    met_by n node.arm (fired_by node.arm.fuse node'.arm.fuse) node' (record { events = told.events ++ one.events; answer = first_no told.answer one.answer })

abbrev pub StartsNext : ℕ × ℕ → ScriptNode → Told → ScriptNode → Told → Bool → Type 0
StartsNext start old told new told' over = (plain : PlainNode) → NodeMatch old plain → IsBare old →
    let (node, said, ends) = next_start (node_number old) start plain told in
    NodeMatch new node × (told' ≡ said) × (over ≡ ends) × (node_number new ≡ node_number old) × IsBare new

-- the vBuckets that were active start one after the other, where this was told before
abbrev pub StartsFrom : List (ℕ × ℕ) → Told → ScriptNode → Told → ScriptNode → Type 0
StartsFrom starts so_far old told new = (plain : PlainNode) → NodeMatch old plain → IsBare old →
    let (node, said) = starts_from (node_number old) starts (plain, so_far) in NodeMatch new node × (told ≡ said) × (node_number new ≡ node_number old) × IsBare new

-- a node whose disks were taken out, and bear these records, starts with these ids, or stays down
abbrev pub StartsDisks : List (VbDisk FuseStorage) → List ℕ → ScriptNode → Told → ScriptNode → Type 0
StartsDisks disks ids old told new = (plain : PlainNode) (books : List Book) → AreBooks disks books → NodeMatch old (record plain { off = None }) → IsBare old →
    let (node, said) = start_books (node_number old) ids books (record plain { off = Some books }) in NodeMatch new node × (told ≡ said) × (node_number new ≡ node_number old) × IsBare new

-- a node that is down starts with these ids, or stays down
abbrev pub StartsUp : List ℕ → ScriptNode → Told → ScriptNode → Type 0
StartsUp ids old told new = (plain : PlainNode) → NodeMatch old plain → is_some plain.off ≡ true →
    let (node, said) = start_at (node_number old) ids plain in NodeMatch new node × (told ≡ said) × (node_number new ≡ node_number old) × IsBare new

-- links with an end at the node n end one after the other, in at most `count` turns, of which so many were made: the kept world stands for one of which the same is left in the end
pub record Cutting (n count turn : ℕ) (kept : Kept) (w : PlainWorld) : Type 0 where
  pub now : PlainWorld
  pub stands : WorldStands kept now
  pub rest : all_cut n now ≡ all_cut n w
  pub left : length (filter (touches n) now.links) + turn ≤ count
