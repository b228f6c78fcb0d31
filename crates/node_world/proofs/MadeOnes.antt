-- a vBucket that was made is there, whatever became of its first record
use Rattle.std.proofs.Common.{◌≡◌, ℕ, [], ◌∷◌, refl, ap, ◌∙◌, Some, None, is_some}
use Rattle.std.specs.Prelude.{◌≢◌, if◌then◌else◌}
use Rattle.std.proofs.lemmas.Bool.{eq-eqb, lt-leb, ne_eqb}
use Rattle.vb_disk.specs.declared.made.Outcome.{Outcome as Left}
use Rattle.vb_events.specs.declared.event.Answer.TheVariants as line
use Rattle.vb_events.specs.declared.event.Cause.TheVariants as cause
use Rattle.vb_types.specs.declared.role.Role.{Role}
use Rattle.vb_types.specs.declared.role.Role.TheVariants as role
use Rattle.vb_calls.specs.State.{new_vb}
use Rattle.node_world.specs.declared.arm.Fired.{Fired}
use Rattle.node_world.specs.declared.arm.Fired.TheVariants as fired
use Rattle.node_world.specs.declared.told.Told.{Told}
use Rattle.node_world.specs.Arguments.{MakesVb}
use Rattle.node_world.specs.Arms.{fired_by}
use Rattle.node_world.specs.MadeOnes.{MakesAnyway}
use Rattle.node_world.specs.Nodes.{PlainNode, replica_at, vb_at, vb_made}
use Rattle.node_world.specs.Power.{after_fire, with_arm}
use Rattle.node_world.specs.Worlds.{PlainWorld, Outcome, arm_in, on_node}
use Rattle.node_world.proofs.CallsMade.{leaves_so}
use Rattle.node_world.proofs.NodeCauses.{vb_row}

-- an arm that did not stop the node leaves the world
unstopped : (n : ℕ) (out : Left) (f : Fired) (came : Outcome) → (after_fire n out f came).1.answer ≢ line.No cause.Stopped → (after_fire n out f came).0 ≡ came.0
unstopped n out fired.No came live = refl
unstopped n out fired.Failed came live = refl
unstopped n out fired.Stopped came live = absurd (live refl)

module _ (w : PlainWorld) (n : ℕ) (node : PlainNode) (there : w.nodes n ≡ Some node) (up : node.off ≡ None) where
  module _ (v : ℕ) (r : Role) (uuid : ℕ) (f : PlainNode → PlainNode × Told) (is : f node ≡ vb_made n v r uuid node) where
    abbrev now : PlainNode
    now = (vb_made n v r uuid node).0

    here : (on_node w n f).0.nodes n ≡ Some now
    here = (leaves_so w n node there up f (vb_made n v r uuid node) is).is

    makes : (with_arm n w (on_node w n f)).1.answer ≢ line.No cause.Stopped → MakesVb n v r uuid node now (with_arm n w (on_node w n f))
    makes live = record {
      is = ap (λ (x : PlainWorld). x.nodes n) (unstopped n (arm_in (w.nodes n)).out (fired_by (arm_in (w.nodes n)).fuse (arm_in ((on_node w n f).0.nodes n)).fuse) (on_node w n f) live) ∙ here;
      made = ap (λ b. if b then Some (new_vb n r uuid) else node.vbs v) (eq-eqb v v refl);
      others = λ u ne. ap (λ b. if b then Some (new_vb n r uuid) else node.vbs u) (ne_eqb u v ne);
      count = refl;
    }

  pub makes_anyway : MakesAnyway w n node
  makes_anyway = record {
    active = λ number v uuid none room some free live. (
      (vb_made n v role.Active uuid node).0,
      makes v role.Active uuid (vb_at w.uuids n v uuid)
          (λ i. vb_row w n node there up (is_some (none i)) (lt-leb 64 node.made room i) ((ne_eqb uuid 0 some i, cause.UuidZero) ∷ (free i, cause.UuidUsed) ∷ []) (vb_made n v role.Active uuid node)) live,
    );
    replica = λ number v none room live. (
      (vb_made n v role.Replica 0 node).0,
      makes v role.Replica 0 (replica_at n v) (λ i. vb_row w n node there up (is_some (none i)) (lt-leb 64 node.made room i) [] (vb_made n v role.Replica 0 node)) live,
    );
  }
