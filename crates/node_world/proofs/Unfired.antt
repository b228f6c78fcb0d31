-- lines inside which the arm of a node does not fire
use Rattle.std.specs.Prelude.{◌-◌, ◌&&◌, not, if◌then◌else◌}
use Rattle.std.proofs.Common.{◌≡◌, ℕ, Bool, true, false, List, refl, ap, sym, ◌∙◌, Option, Some, None, is_some, option_map}
use Rattle.std.proofs.lemmas.Bool.{eq-eqb}
use Rattle.disk_journals.specs.Arms.{arm_over, armed_at, fuse_at, under}
use Rattle.disk_journals.specs.Books.{Book}
use Rattle.vb_calls.specs.Shelves.{Append, DiskFailed, Shelf, Shelves, Stood, WasClosed, after_fate, ask_at, fate_of, shelves_step}
use Rattle.vb_disk.specs.Arms.{burnt, hits}
use Rattle.vb_disk.specs.declared.fuse.Fuse.{Fuse}
use Rattle.vb_disk.specs.declared.fuse.Fuse.TheVariants as fuse
use Rattle.vb_journal.specs.UnderArms.{all_pass, both_pass, burnt_both, burnt_noting}
use Rattle.vb_events.specs.declared.event.Answer.TheVariants as answer
use Rattle.vb_events.specs.declared.event.Cause.{Cause}
use Rattle.vb_events.specs.declared.event.Cause.TheVariants as cause
use Rattle.vb_types.specs.declared.journal.Record.{Record}
use Rattle.node_world.specs.declared.arm.Fired.TheVariants as fired
use Rattle.node_world.specs.declared.told.Told.{Told}
use Rattle.node_world.specs.Arms.{PlainNode, fired_by, fuse_or}
use Rattle.node_world.specs.Nodes.{if_up, refusal}
use Rattle.node_world.specs.Power.{after_fire, with_arm}
use Rattle.node_world.specs.Worlds.{PlainWorld, Outcome, arm_in, node_outcome, on_made, on_node, with_node_at}
use Rattle.node_world.proofs.Shelved.{shelf_here}

-- ---- arms that are burnt and do not fire

-- both are off, or are to stop, or are to fail
abbrev Kin : Fuse → Fuse → Type 0
Kin f g = fired_by f fuse.Off ≡ fired_by g fuse.Off

kin_unfired : (f g : Fuse) → Kin f g → fired_by f g ≡ fired.No
kin_unfired fuse.Off g kin = refl
kin_unfired (fuse.Stop k) fuse.Off kin = cc
kin_unfired (fuse.Stop k) (fuse.Stop j) kin = refl
kin_unfired (fuse.Stop k) (fuse.Fail j) kin = refl
kin_unfired (fuse.Fail k) fuse.Off kin = cc
kin_unfired (fuse.Fail k) (fuse.Stop j) kin = refl
kin_unfired (fuse.Fail k) (fuse.Fail j) kin = refl

burnt_kin : (f : Fuse) → hits f ≡ false → Kin f (burnt f)
burnt_kin fuse.Off e = refl
burnt_kin (fuse.Stop k) e = sym (ap (λ b. fired_by (if b then fuse.Off else fuse.Stop (k - 1)) fuse.Off) e)
burnt_kin (fuse.Fail k) e = sym (ap (λ b. fired_by (if b then fuse.Off else fuse.Fail (k - 1)) fuse.Off) e)

both_kin : (f : Fuse) → both_pass f ≡ true → Kin f (burnt_both f)
both_kin f pass = by (hits f) (hits (burnt f)) refl refl pass
  where
    by : (a b : Bool) → hits f ≡ a → hits (burnt f) ≡ b → (not a && not b) ≡ true → Kin f (if a then burnt f else burnt (burnt f))
    by true b e g h = cc
    by false true e g h = cc
    by false false e g h = burnt_kin f e ∙ burnt_kin (burnt f) g

-- an arm that passes an append has not fired then
pub passed : (f : Fuse) → all_pass f ≡ true → fired_by f (burnt_noting f) ≡ fired.No
passed f pass = kin_unfired f (burnt_noting f) (by (both_pass f) (both_pass (burnt_both f)) refl refl pass)
  where
    by : (a b : Bool) → both_pass f ≡ a → both_pass (burnt_both f) ≡ b → (a && b) ≡ true → Kin f (if a then burnt_both (burnt_both f) else burnt_both f)
    by true true e g h = both_kin f e ∙ both_kin (burnt_both f) g
    by true false e g h = cc
    by false b e g h = cc

pub same_fuse : (f : Fuse) → fired_by f f ≡ fired.No
same_fuse f = kin_unfired f f refl

-- a record that stands was passed
pub stood_passed : (x : Shelf) → fate_of x ≡ Stood → all_pass x.fuse ≡ true
stood_passed x e = by x.is_closed (all_pass x.fuse) e
  where
    by : (b p : Bool) → (if b then WasClosed else if p then Stood else DiskFailed) ≡ Stood → p ≡ true
    by true p e = cc
    by false true e = refl
    by false false e = cc

-- ---- journals under the arm of their node

-- the arm is over the disk of a journal
pub over_is : (shelves : Shelves) (v : ℕ) (f : Fuse) (x : Shelf) → shelves v ≡ Some x → arm_over shelves v f v ≡ Some (under f x)
over_is shelves v f x there = ap (λ o. armed_at shelves v f o v) there ∙ shelf_here shelves v (under f x)

-- an append that stands burns it
pub append_burns : (shelves : Shelves) (v : ℕ) (r : Record) (x : Shelf) → shelves v ≡ Some x → fate_of x ≡ Stood → fuse_at (shelves_step shelves v (Append r)).0 v ≡ Some (burnt_noting x.fuse)
append_burns shelves v r x there sound =
    ap (λ o. fuse_at (ask_at shelves v (Append r) o).0 v) there
    ∙ ap (option_map (λ (y : Shelf). y.fuse)) (shelf_here shelves v (after_fate x r (fate_of x)))
    ∙ ap (λ fate. Some (after_fate x r fate).fuse) sound

pub append_stands : (shelves : Shelves) (v : ℕ) (r : Record) (x : Shelf) → shelves v ≡ Some x → fate_of x ≡ Stood → (shelves_step shelves v (Append r)).1 ≡ Stood
append_stands shelves v r x there sound = ap (λ o. (ask_at shelves v (Append r) o).1) there ∙ sound

-- what is left of it has not fired
pub left_burnt : (f : Fuse) (left : Option Fuse) → left ≡ Some (burnt_noting f) → all_pass f ≡ true → fired_by f (fuse_or f left) ≡ fired.No
left_burnt f left is pass = ap (λ o. fired_by f (fuse_or f o)) is ∙ passed f pass

pub left_whole : (f : Fuse) (left : Option Fuse) → left ≡ Some f → fired_by f (fuse_or f left) ≡ fired.No
left_whole f left is = ap (λ o. fired_by f (fuse_or f o)) is ∙ same_fuse f

-- so it is where it was over a disk and nothing was called
pub left_alone : (f : Fuse) (shelves : Shelves) (v : ℕ) → fired_by f (fuse_or f (fuse_at (arm_over shelves v f) v)) ≡ fired.No
left_alone f shelves v = by (shelves v) refl
  where
    by : (o : Option Shelf) → shelves v ≡ o → fired_by f (fuse_or f (fuse_at (arm_over shelves v f) v)) ≡ fired.No
    by None none = ap (λ o. fired_by f (fuse_or f (fuse_at (armed_at shelves v f o) v))) none ∙ ap (λ o. fired_by f (fuse_or f (option_map (λ (y : Shelf). y.fuse) o))) none ∙ same_fuse f
    by (Some x) there = left_whole f (fuse_at (arm_over shelves v f) v) (ap (option_map (λ (y : Shelf). y.fuse)) (over_is shelves v f x there))

-- ---- the answer of a line inside which no arm fires

pub unfired : (w : PlainWorld) (n : ℕ) (came : Outcome) → fired_by (arm_in (w.nodes n)).fuse (arm_in (came.0.nodes n)).fuse ≡ fired.No → (with_arm n w came).1 ≡ came.1
unfired w n came e = ap (λ f. (after_fire n (arm_in (w.nodes n)).out f came).1) e

-- a line that is refused, and leaves the world
pub refused_armed : (w : PlainWorld) (n : ℕ) (came : Outcome) (why : Cause) → came ≡ (w, refusal why) → (with_arm n w came).1.answer ≡ answer.No why
refused_armed w n came why is = ap (λ (x : Outcome). (with_arm n w x).1.answer) is ∙ ap (λ (t : Told). t.answer) (unfired w n (w, refusal why) (same_fuse (arm_in (w.nodes n)).fuse))

-- lines of a node that is made
module _ (w : PlainWorld) (n : ℕ) (node : PlainNode) (there : w.nodes n ≡ Some node) where
  pub made_as : (f : PlainNode → PlainNode × Told) → on_made w n f ≡ (with_node_at w n (f node).0, (f node).1)
  made_as f = ap (λ o. node_outcome w n (refusal cause.UnknownNode) o f) there

  pub armed_as : (f : PlainNode → PlainNode × Told) → fired_by node.arm.fuse (f node).0.arm.fuse ≡ fired.No → (with_arm n w (on_made w n f)).1 ≡ (f node).1
  armed_as f quiet =
      ap (λ (x : Outcome). (with_arm n w x).1) (made_as f)
      ∙ unfired w n (with_node_at w n (f node).0, (f node).1) ((λ i. fired_by (arm_in (there i)).fuse (arm_in (if eq-eqb n n refl i then Some (f node).0 else w.nodes n)).fuse) ∙ quiet)

  -- it is running
  module _ (up : node.off ≡ None) where
    pub up_as : (f : PlainNode → PlainNode × Told) → if_up f node ≡ f node
    up_as f = ap (λ (o : Option (List Book)). if is_some o then (node, refusal cause.NodeDown) else f node) up

    pub running : (f : PlainNode → PlainNode × Told) → (on_node w n f).1.answer ≡ (f node).1.answer
    running f = ap (λ (x : Outcome). x.1.answer) (made_as (if_up f)) ∙ ap (λ (x : PlainNode × Told). x.1.answer) (up_as f)

    pub running_armed : (f : PlainNode → PlainNode × Told) → fired_by node.arm.fuse (f node).0.arm.fuse ≡ fired.No → (with_arm n w (on_node w n f)).1.answer ≡ (f node).1.answer
    running_armed f quiet =
        ap (λ (t : Told). t.answer) (armed_as (if_up f) (ap (λ (x : PlainNode × Told). fired_by node.arm.fuse x.0.arm.fuse) (up_as f) ∙ quiet)) ∙ ap (λ (x : PlainNode × Told). x.1.answer) (up_as f)

    -- a line that is refused, and leaves the node
    pub running_refused : (f : PlainNode → PlainNode × Told) (why : Cause) → f node ≡ (node, refusal why) → (with_arm n w (on_node w n f)).1.answer ≡ answer.No why
    running_refused f why is =
        running_armed f (ap (λ (x : PlainNode × Told). fired_by node.arm.fuse x.0.arm.fuse) is ∙ same_fuse node.arm.fuse) ∙ ap (λ (x : PlainNode × Told). x.1.answer) is

  -- it is down
  module _ (down : is_some node.off ≡ true) where
    pub down_as : (f : PlainNode → PlainNode × Told) → if_up f node ≡ (node, refusal cause.NodeDown)
    down_as f = ap (λ b. if b then (node, refusal cause.NodeDown) else f node) down

    pub resting : (f : PlainNode → PlainNode × Told) → (on_node w n f).1.answer ≡ answer.No cause.NodeDown
    resting f = ap (λ (x : Outcome). x.1.answer) (made_as (if_up f)) ∙ ap (λ (x : PlainNode × Told). x.1.answer) (down_as f)

    pub resting_armed : (f : PlainNode → PlainNode × Told) → (with_arm n w (on_node w n f)).1.answer ≡ answer.No cause.NodeDown
    resting_armed f =
        ap (λ (t : Told). t.answer) (armed_as (if_up f) (ap (λ (x : PlainNode × Told). fired_by node.arm.fuse x.0.arm.fuse) (down_as f) ∙ same_fuse node.arm.fuse)) ∙ ap (λ (x : PlainNode × Told). x.1.answer) (down_as f)
