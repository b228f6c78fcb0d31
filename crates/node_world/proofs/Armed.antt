-- what is done under the arm of a node
use Rattle.std.proofs.Common.{◌≡◌, ℕ, List, refl, ap, ◌∙◌, subst, Option, None, is_some}
use Rattle.std.specs.Prelude.{◌==◌, ◌&&◌, if◌then◌else◌}
use Rattle.std.specs.Option.{option_map}
use Rattle.disk_journals.specs.Arms.{arm_over, fuse_at}
use Rattle.disk_journals.specs.Devices.{fuse_device}
use Rattle.disk_journals.specs.Stands.{ShelvesStand}
use Rattle.vb_calls.specs.Shelves.{Shelves}
use Rattle.vb_disk.specs.declared.fuse.Fuse.{Fuse}
use Rattle.vb_disk.specs.declared.fuse.Fuse.TheVariants.{Off}
use Rattle.node_core.specs.declared.admin.AdminCall.{AdminCall}
use Rattle.node_core.specs.declared.out.NodeOut.{NodeOut}
use Rattle.node_core.specs.Admin.{AdminResult}
use Rattle.node_core.specs.Dials.{KeptDial, DialResult}
use Rattle.node_core.specs.Outcomes.{dial_left}
use Rattle.node_core.specs.Outs.{admin_out, dial_ended, dial_out}
use Rattle.node_world.specs.declared.arm.Arm.{Arm}
use Rattle.node_world.specs.declared.script_node.ScriptNode.{ScriptNode}
use Rattle.node_world.specs.declared.told.Told.{Told}
use Rattle.node_world.specs.Arms.{PlainNode, fuse_or, placed, under_arm}
use Rattle.node_world.specs.Ends.{Carries, FeedsDial, KeepsEnds, LiftsArm, PlacesArm, PutsDial, SetsRole, TellsEnds, dial_given, dial_under, kept_peer_ended, with_clients_told}
use Rattle.node_world.specs.Nodes.{save_line, flush_line}
use Rattle.node_world.specs.Stands.{NodeMatch, node_number}
use Rattle.node_world.specs.Turns.{called_at}
use Rattle.vb_types.specs.declared.journal.FlushPart.TheVariants as part
use Rattle.node_world.proofs.Nodes.{Turned, off_stays}
use Rattle.node_world.proofs.Peers.{FedDial}
use Rattle.node_world.proofs.Shelved.{MemJournals}

-- a node with these journals
abbrev pub with_journals : ScriptNode → MemJournals → ScriptNode
with_journals old disks = record old { node = record old.node { disks = disks } }

-- and under this arm
abbrev pub with_arm_too : ScriptNode → MemJournals → Arm → ScriptNode
with_arm_too old disks arm = record old { node = record old.node { disks = disks }; arm = arm }

-- both keep the ends of links
pub both_keep : (old mid new : ScriptNode) → KeepsEnds old mid → KeepsEnds mid new → KeepsEnds old new
both_keep old mid new first second = record {
  number = second.number ∙ first.number;
  peers = λ key. second.peers key ∙ first.peers key;
  dials = λ v. second.dials v ∙ first.dials v;
}

-- other journals, and another arm
pub rearmed : (old : ScriptNode) (disks : MemJournals) (arm arm' : Arm) (plain : PlainNode) (held : Shelves) → ShelvesStand fuse_device disks held → arm ≡ arm' → NodeMatch old plain
    → NodeMatch (with_arm_too old disks arm) (record plain { shelves = held; arm = arm' })
rearmed old disks arm arm' plain held shelves same stands = record {
  slots = stands.slots;
  shelves = shelves;
  made = stands.made;
  clock = stands.clock;
  clients = stands.clients;
  bases = stands.bases;
  arm = same;
  off = off_stays old (with_arm_too old disks arm) plain.off refl (λ key none. none) (λ v none. none) stands.off;
}

-- the arm is put over a disk
pub places : (old : ScriptNode) (v : ℕ) (disks : MemJournals) → ((shelves : Shelves) → ShelvesStand fuse_device old.node.disks shelves → ShelvesStand fuse_device disks (arm_over shelves v old.arm.fuse))
    → PlacesArm v old (with_journals old disks)
places old v disks armed = (
  λ plain stands. rearmed old disks old.arm plain.arm plain (arm_over plain.shelves v plain.arm.fuse)
      (subst (λ (a : Arm). ShelvesStand fuse_device disks (arm_over plain.shelves v a.fuse)) stands.arm (armed plain.shelves stands.shelves)) stands.arm stands,
  record { number = refl; peers = λ key. refl; dials = λ u. refl },
  refl,
)

-- what is left of it is taken off
pub lifts : (old : ScriptNode) (v : ℕ) (disks : MemJournals) (left : Option Fuse) → ((shelves : Shelves) → ShelvesStand fuse_device old.node.disks shelves → left ≡ fuse_at shelves v)
    → ((shelves : Shelves) → ShelvesStand fuse_device old.node.disks shelves → ShelvesStand fuse_device disks (arm_over shelves v Off))
    → LiftsArm v old (with_arm_too old disks (record old.arm { fuse = fuse_or old.arm.fuse left }))
lifts old v disks left told disarmed = (
  λ plain stands. rearmed old disks (record old.arm { fuse = fuse_or old.arm.fuse left }) (record plain.arm { fuse = fuse_or plain.arm.fuse (fuse_at plain.shelves v) }) plain (arm_over plain.shelves v Off)
      (disarmed plain.shelves stands.shelves) (same plain stands) stands,
  record { number = refl; peers = λ key. refl; dials = λ u. refl },
  refl,
)
  where
    left_of : Arm → Option Fuse → Arm
    left_of arm o = record arm { fuse = fuse_or arm.fuse o }

    same : (plain : PlainNode) → NodeMatch old plain → left_of old.arm left ≡ left_of plain.arm (fuse_at plain.shelves v)
    same plain stands = ap (left_of old.arm) (told plain.shelves stands.shelves) ∙ ap (λ (a : Arm). left_of a (fuse_at plain.shelves v)) stands.arm

-- a line under the arm
pub under_carried : (f : PlainNode → PlainNode × Told) (v : ℕ) (old ready mid new : ScriptNode) (told : Told) → PlacesArm v old ready → Carries f ready told mid → LiftsArm v mid new
    → Carries (under_arm v f) old told new
under_carried f v old ready mid new told placing went lifting plain stands =
    let came = went (placed v plain) (placing.0 plain stands) in
    (lifting.0 (f (placed v plain)).0 came.0, came.1, both_keep old mid new (both_keep old ready mid placing.1 came.2) lifting.1)

pub saves : (v : ℕ) (old ready mid new : ScriptNode) (told : Told) → PlacesArm v old ready → Carries (flush_line (node_number ready) v part.Save) ready told mid → LiftsArm v mid new
    → Carries (save_line (node_number old) v) old told new
saves v old ready mid new told placing went lifting =
    under_carried (flush_line (node_number old) v part.Save) v old ready mid new told placing (subst (λ n. Carries (flush_line n v part.Save) ready told mid) placing.1.number went) lifting

-- an operator's call under the arm
module _ (v : ℕ) (asked : AdminCall) (old ready mid new : ScriptNode) (out : NodeOut) (placing : PlacesArm v old ready) (went : Turned v asked ready out mid) (lifting : LiftsArm v mid new) where
  pub turns_under : SetsRole v asked old out new
  turns_under plain stands =
      let x : PlainNode × AdminResult = called_at (node_number old) v asked (placed v plain) in
      let came : NodeMatch mid (with_clients_told v x.1.ended x.0) × (out ≡ admin_out (dial_ended x.1.ended (dial_under ready v)) x.1) × TellsEnds ready mid v x.1.ended =
      subst (Came plain) placing.1.number (went (placed v plain) (placing.0 plain stands)) in (
        lifting.0 (with_clients_told v x.1.ended x.0) came.0,
        came.1 ∙ ap (λ d. admin_out (dial_ended x.1.ended d) x.1) (placing.1.dials v),
        record {
          number = lifting.1.number ∙ came.2.number ∙ placing.1.number;
          peers = λ key. lifting.1.peers key ∙ came.2.peers key ∙ ap (option_map (kept_peer_ended v x.1.ended)) (placing.1.peers key);
          dials = λ u. lifting.1.dials u ∙ came.2.dials u ∙ ap (λ (d : Option KeptDial). if is_some x.1.ended && u == v then None else d) (placing.1.dials u);
        },
      )
    where
      Came : PlainNode → ℕ → Type 0
      Came plain n =
          let x : PlainNode × AdminResult = called_at n v asked (placed v plain) in
          NodeMatch mid (with_clients_told v x.1.ended x.0) × (out ≡ admin_out (dial_ended x.1.ended (dial_under ready v)) x.1) × TellsEnds ready mid v x.1.ended

-- bytes for the dial of a vBucket under the arm
module _ (v : ℕ) (piece : List ℕ) (old ready mid new : ScriptNode) (out : NodeOut) (placing : PlacesArm v old ready) (went : FedDial v piece ready out mid) (lifting : LiftsArm v mid new) where
  pub feeds_under : FeedsDial v piece old out new
  feeds_under plain dial stands has =
      let x : PlainNode × DialResult = dial_given piece dial (placed v plain) in
      let came : NodeMatch mid x.0 × (out ≡ dial_out x.1) × PutsDial ready mid v (dial_left x.1.dial) = went (placed v plain) dial (placing.0 plain stands) (placing.1.dials v ∙ has) in (
        lifting.0 x.0 came.0,
        came.1,
        record {
          number = lifting.1.number ∙ came.2.number ∙ placing.1.number;
          changed = lifting.1.dials v ∙ came.2.changed;
          others = λ u ne. lifting.1.dials u ∙ came.2.others u ne ∙ placing.1.dials u;
          peers = λ key. lifting.1.peers key ∙ came.2.peers key ∙ placing.1.peers key;
        },
      )
