-- lines under the arm of a node
use Rattle.std.specs.Prelude.{if◌then◌else◌}
use Rattle.std.proofs.Common.{◌≡◌, ℕ, true, false, List, ◌++◌, refl, ap, sym, ◌∙◌, subst, append_assoc, Option, Some, None}
use Rattle.vb_events.specs.declared.event.Event.{Event}
use Rattle.vbucket.specs.Rows.{row_at}
use Rattle.node_world.specs.declared.arm.Arm.{Arm}
use Rattle.node_world.specs.declared.arm.Fired.{Fired}
use Rattle.script_text.specs.declared.verb.LinkVerb.TheVariants as link_verb
use Rattle.node_world.specs.declared.told.Told.{Told}
use Rattle.node_world.specs.Arms.{fired_by}
use Rattle.node_world.specs.Lines.{link_line_if, link_line_at}
use Rattle.node_world.specs.Links.{PlainLink, link_number, consumer_node}
use Rattle.node_world.specs.Power.{after_broken, after_fire, is_broken_answer, with_arm, with_broken}
use Rattle.node_world.specs.Stands.{Kept, WorldStands}
use Rattle.node_world.specs.World.{down_in, down_outcome, down_step, link_outcome, on_link}
use Rattle.node_world.specs.Worlds.{PlainWorld, Outcome, arm_in}

-- what is said of a line
abbrev pub Comes : Kept → Told → Outcome → Type 0
Comes kept told o = WorldStands kept o.0 × (told ≡ o.1)

-- by what became of the arm
pub fired_as : (n : ℕ) (arm : Arm) (told came : Told) (w : PlainWorld) (kept : Kept) (seen fired : Fired) → seen ≡ fired_by arm.fuse (arm_in (w.nodes n)).fuse → seen ≡ fired → Comes kept came (after_fire n arm.out fired (w, told))
    → Comes kept came (after_fire n arm.out (fired_by arm.fuse (arm_in (w.nodes n)).fuse) (w, told))
fired_as n arm told came w kept seen fired is also met = subst (λ f. Comes kept came (after_fire n arm.out f (w, told))) (sym also ∙ is) met

pub broken_as : (n l : ℕ) (arm : Arm) (told came : Told) (w : PlainWorld) (kept : Kept) (seen fired : Fired) → seen ≡ fired_by arm.fuse (arm_in (w.nodes n)).fuse → seen ≡ fired → Comes kept came (after_broken n l arm.out fired (w, told))
    → Comes kept came (after_broken n l arm.out (fired_by arm.fuse (arm_in (w.nodes n)).fuse) (w, told))
broken_as n l arm told came w kept seen fired is also met = subst (λ f. Comes kept came (after_broken n l arm.out f (w, told))) (sym also ∙ is) met

-- a line that was carried out, and then what became of the arm that the node had before
pub armed_line : (n : ℕ) (w : PlainWorld) (kept : Kept) (arm : Arm) (told came : Told) (x : Outcome) → arm ≡ arm_in (w.nodes n) → told ≡ x.1
    → Comes kept came (after_fire n arm.out (fired_by arm.fuse (arm_in (x.0.nodes n)).fuse) (x.0, told)) → Comes kept came (with_arm n w x)
armed_line n w kept arm told came x is said met =
    subst (λ (a : Arm). Comes kept came (after_fire n a.out (fired_by a.fuse (arm_in (x.0.nodes n)).fuse) (x.0, x.1))) is
    (subst (λ (t : Told). Comes kept came (after_fire n arm.out (fired_by arm.fuse (arm_in (x.0.nodes n)).fuse) (x.0, t))) said met)

-- `down L B` is the line at the consumer's end
pub down_is : (w : PlainWorld) (l wanted : ℕ) → link_line_at (link_verb.Down wanted) w l ≡ on_link w l consumer_node (down_in wanted)
down_is w l wanted = by (row_at link_number l w.links)
  where
    by : (o : Option PlainLink) → link_line_if (link_verb.Down wanted) w o ≡ link_outcome w l consumer_node (down_in wanted) o
    by None = refl
    by (Some link) = refl

-- the link is not open
pub down_none : (w : PlainWorld) (l wanted : ℕ) (kept : Kept) (told : Told) → row_at link_number l w.links ≡ None → Comes kept told (link_line_at (link_verb.Down wanted) w l) → Comes kept told (down_step w l wanted)
down_none w l wanted kept told none came =
    subst (λ o. Comes kept told (down_outcome w l o (on_link w l consumer_node (down_in wanted)))) (sym none) (subst (Comes kept told) (down_is w l wanted) came)

-- it is open
module _ (w : PlainWorld) (l wanted n : ℕ) (link : PlainLink) (there : row_at link_number l w.links ≡ Some link) (number : consumer_node link ≡ n) where
  abbrev x : Outcome
  x = on_link w l consumer_node (down_in wanted)

  -- by the answer
  down_by : (kept : Kept) (came : Told) → Comes kept came (with_broken n l w x) → Comes kept came (down_step w l wanted)
  down_by kept came said = subst (λ o. Comes kept came (down_outcome w l o x)) (sym there) (subst (λ m. Comes kept came (with_broken m l w x)) (sym number) said)

  -- a rollback could not be written down
  pub down_broken : (kept : Kept) (arm : Arm) (told came : Told) → arm ≡ arm_in (w.nodes n) → told ≡ (link_line_at (link_verb.Down wanted) w l).1 → is_broken_answer told.answer ≡ true
      → (let y = link_line_at (link_verb.Down wanted) w l in Comes kept came (after_broken n l arm.out (fired_by arm.fuse (arm_in (y.0.nodes n)).fuse) (y.0, told))) → Comes kept came (down_step w l wanted)
  down_broken kept arm told came is said broken met =
      let same : told ≡ x.1 = said ∙ ap (λ (o : Outcome). o.1) (down_is w l wanted) in
      let met' : Comes kept came (after_broken n l arm.out (fired_by arm.fuse (arm_in (x.0.nodes n)).fuse) (x.0, told))
      = subst (λ (o : Outcome). Comes kept came (after_broken n l arm.out (fired_by arm.fuse (arm_in (o.0.nodes n)).fuse) (o.0, told))) (down_is w l wanted) met in
      down_by kept came (
      subst (λ b. Comes kept came (if b then after_broken n l (arm_in (w.nodes n)).out (fired_by (arm_in (w.nodes n)).fuse (arm_in (x.0.nodes n)).fuse) (x.0, x.1) else (x.0, x.1))) (sym (sym (ap (λ (t : Told). is_broken_answer t.answer) same) ∙ broken))
      (subst (λ (a : Arm). Comes kept came (after_broken n l a.out (fired_by a.fuse (arm_in (x.0.nodes n)).fuse) (x.0, x.1))) is
      (subst (λ (t : Told). Comes kept came (after_broken n l arm.out (fired_by arm.fuse (arm_in (x.0.nodes n)).fuse) (x.0, t))) same met'))
      )

  -- or it went well
  pub down_well : (kept : Kept) (told : Told) → is_broken_answer told.answer ≡ false → Comes kept told (link_line_at (link_verb.Down wanted) w l) → Comes kept told (down_step w l wanted)
  down_well kept told well came =
      let there : Comes kept told x = subst (Comes kept told) (down_is w l wanted) came in
      down_by kept told (
      subst (λ b. Comes kept told (if b then after_broken n l (arm_in (w.nodes n)).out (fired_by (arm_in (w.nodes n)).fuse (arm_in (x.0.nodes n)).fuse) (x.0, x.1) else (x.0, x.1))) (sym (sym (ap (λ (t : Told). is_broken_answer t.answer) there.1) ∙ well)) there
      )

-- the lines of a node that stops
pub both_lines : (before events events' ends closed : List Event) → events ≡ before ++ ends → events' ≡ events ++ closed → events' ≡ before ++ (ends ++ closed)
both_lines before events events' ends closed first then_ = then_ ∙ ap (λ xs. xs ++ closed) first ∙ append_assoc before ends closed
