-- a node's arm is another one, and nothing else
use Rattle.std.specs.Prelude.{◌≡◌}
use Rattle.transcript_law.proofs.Words.{ℕ, false, Some, PlainNode, PlainWorld, with_node_at, Chronicle}
use Rattle.{node_world.specs.declared.arm.Arm.{Arm}, transcript_law.specs.Chronicles.{ArmKnown, with_id}}
use Rattle.transcript_law.proofs.{invariant.Agreement.{Agrees, IsArm, idle}, verbs.NodeLines.{rearmed_node}, invariant.OneLink.{carries_armed}}

-- as the lines tell it, of a node that is not down
abbrev pub told_arm : Arm → ArmKnown
told_arm arm = record { fuse = arm.fuse; out = arm.out; down = false }

-- the lines tell of another arm of the node n, which runs or is down as before
abbrev pub with_arm_told : Chronicle → ℕ → ArmKnown → Chronicle
with_arm_told r n told = record r { arm_at = with_id r.arm_at n (record told { down = (r.arm_at n).down }) }

-- all agrees as before
pub rearmed : (w : PlainWorld) (r : Chronicle) (n : ℕ) (node : PlainNode) (arm : Arm) → w.nodes n ≡ Some node → IsArm arm.fuse → Agrees w r → Agrees (with_node_at w n (record node { arm = arm })) (with_arm_told r n (told_arm arm))
rearmed w r n node arm known ok (c, a) = (c, carries_armed idle w (with_node_at w n (record node { arm = arm })) r c n (record { arm = node.arm; off = node.off; clock = node.clock }) arm a (rearmed_node w n node arm known) ok)
