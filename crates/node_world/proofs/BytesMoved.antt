-- how many bytes a line moves over a link
use Rattle.std.proofs.Common.{◌≡◌, inl, inr, ℕ, arith, Bool, true, false, length, refl, ap, sym, ◌∙◌, subst, Option, Some, None}
use Rattle.std.specs.Prelude.{◌⊎◌, min, if◌then◌else◌}
use Rattle.vb_events.specs.declared.event.Answer.TheVariants as line
use Rattle.vb_events.specs.declared.event.Cause.{Cause}
use Rattle.vb_events.specs.declared.event.Cause.TheVariants as cause
use Rattle.vb_events.specs.declared.event.EndReason.{EndReason}
use Rattle.vbucket.specs.Rows.{row_at, row_out}
use Rattle.dcp_consumer.specs.Machine.{over_why}
use Rattle.node_core.specs.Dials.{is_broken}
use Rattle.node_world.specs.declared.arm.Fired.{Fired}
use Rattle.node_world.specs.declared.arm.Fired.TheVariants as fired
use Rattle.node_world.specs.Arms.{fired_by}
use Rattle.node_world.specs.BytesMoved.{BytesMoved, IsMost, Takes, given_down}
use Rattle.node_world.specs.Links.{PlainLink, LinkResult, consumer_node, down_answer, left_unless, link_number, moved_len, producer_node, up_at, with_down}
use Rattle.node_world.specs.Nodes.{PlainNode, refusal}
use Rattle.node_world.specs.Power.{after_broken, is_broken_answer}
use Rattle.node_world.specs.World.{down_in, down_outcome, down_step, link_outcome, on_link, relinked, with_link}
use Rattle.node_world.specs.Worlds.{PlainWorld, Outcome, arm_in, node_outcome, with_node_at}

no_number : (why : Cause) (k : ℕ) → line.No why ≡ line.Number k → ⊥
no_number why k e = cc

pub most : (wanted there : ℕ) → IsMost wanted there (min wanted there)
most wanted there = record { few = λ few. omega (arith, few); all = λ all. omega (arith, all) }

-- a line for an open link, which the node at this end carries out
module _ (w : PlainWorld) (l : ℕ) (link : PlainLink) (add_link : row_at link_number l w.links ≡ Some link) where
  abbrev carried : (PlainLink → ℕ) → (PlainLink → PlainNode → PlainNode × LinkResult) → PlainNode → Outcome
  carried end f x = with_link link (with_node_at w (end link) (f link x).0, (f link x).1)

  carried_is : (end : PlainLink → ℕ) (f : PlainLink → PlainNode → PlainNode × LinkResult) (x : PlainNode) → w.nodes (end link) ≡ Some x → on_link w l end f ≡ carried end f x
  carried_is end f x e = ap (link_outcome w l end f) add_link ∙ ap (λ o. with_link link (node_outcome w (end link) (Some link, refusal cause.UnknownNode) o (f link))) e

-- `down`, where it counts: what holds of the line that its node carries out holds of it
module _ (w : PlainWorld) (l : ℕ) (link : PlainLink) (node : PlainNode) (add_link : row_at link_number l w.links ≡ Some link) (there : w.nodes (consumer_node link) ≡ Some node) (wanted : ℕ) (P : ℕ → Outcome → Type 0) where
  abbrev pub count : ℕ
  count = moved_len wanted link.down

  abbrev n : ℕ
  n = consumer_node link

  abbrev came : Outcome
  came = on_link w l consumer_node (down_in wanted)

  abbrev pub why : Option EndReason
  why = over_why (given_down count link node).1.dial.consumer.handshake

  -- a link that could not go back is told otherwise
  broken : (f : Fired) (k : ℕ) → (after_broken n l (arm_in (w.nodes n)).out f came).1.answer ≡ line.Number k → P k (after_broken n l (arm_in (w.nodes n)).out f came)
  broken fired.No k e = absurd (no_number cause.Closed k e)
  broken fired.Failed k e = absurd (no_number cause.Disk k e)
  broken fired.Stopped k e = absurd (no_number cause.Stopped k e)

  number_of : (o : Option EndReason) (k : ℕ) → down_answer count o ≡ line.Number k → count ≡ k
  number_of o k e = by (is_broken o) e
    where
      by : (b : Bool) → (if b then line.No cause.Disk else line.Number count) ≡ line.Number k → count ≡ k
      by true e = cc
      by false e = cc

  module _ (so : P count (relinked link (left_unless why (with_down link count (given_down count link node).1)) (with_node_at w n (down_in wanted link node).0), (down_in wanted link node).1.1)) where
    whole : (k : ℕ) → came.1.answer ≡ line.Number k → P k came
    whole k e =
        let is : came ≡ carried w l link add_link consumer_node (down_in wanted) node = carried_is w l link add_link consumer_node (down_in wanted) node there in
        let same : count ≡ k = number_of why k (sym (ap (λ (o : Outcome). o.1.answer) is) ∙ e) in subst (λ j. P j came) same (subst (P count) (sym is) so)

    by_broken : (b : Bool) (k : ℕ) → let x : Outcome = if b then after_broken n l (arm_in (w.nodes n)).out (fired_by (arm_in (w.nodes n)).fuse (arm_in (came.0.nodes n)).fuse) came else came in x.1.answer ≡ line.Number k → P k x
    by_broken true k e = broken (fired_by (arm_in (w.nodes n)).fuse (arm_in (came.0.nodes n)).fuse) k e
    by_broken false k e = whole k e

    pub downs : (k : ℕ) → (down_step w l wanted).1.answer ≡ line.Number k → P k (down_step w l wanted)
    downs k e =
        let is : down_step w l wanted ≡ down_outcome w l (Some link) came = ap (λ o. down_outcome w l o came) add_link in
        subst (P k) (sym is) (by_broken (is_broken_answer came.1.answer) k (sym (ap (λ (o : Outcome). o.1.answer) is) ∙ e))

module _ (w : PlainWorld) (l : ℕ) (link : PlainLink) (producer node : PlainNode) (add_link : row_at link_number l w.links ≡ Some link) (from : w.nodes (producer_node link) ≡ Some producer) (there : w.nodes (consumer_node link) ≡ Some node) where
  abbrev Counts : ℕ → ℕ → Outcome → Type 0
  Counts wanted k x = IsMost wanted (length link.down) k × (x.1.events ≡ (given_down k link node).1.events)
      × (((now : PlainLink) × Takes (λ y. y.down) (λ y. y.up) k (given_down k link node).1.out link now w.links x.0.links) ⊎ (x.0.links ≡ row_out link_number (link_number link) w.links))

  left_by : (wanted : ℕ) (o : Option EndReason) → let k = moved_len wanted link.down in
      Counts wanted k (relinked link (left_unless o (with_down link k (given_down k link node).1)) (with_node_at w (consumer_node link) (down_in wanted link node).0), (down_in wanted link node).1.1)
  left_by wanted None = let k = moved_len wanted link.down in (most wanted (length link.down), refl, inl (with_down link k (given_down k link node).1, record { links_are = refl; left = refl; answered = refl }))
  left_by wanted (Some o) = (most wanted (length link.down), refl, inr refl)

  pub moves : BytesMoved w l link producer node
  moves = record {
    up = λ number wanted.
        let is : on_link w l producer_node (up_at wanted) ≡ carried w l link add_link producer_node (up_at wanted) producer = carried_is w l link add_link producer_node (up_at wanted) producer from in (
          moved_len wanted link.up,
          ap (λ (o : Outcome). o.1.answer) is,
          most wanted (length link.up),
          ap (λ (o : Outcome). o.1.events) is,
          _,
          record { links_are = ap (λ (o : Outcome). o.0.links) is; left = refl; answered = refl },
        );
    down = λ number wanted k e. downs w l link node add_link there wanted (Counts wanted) (left_by wanted (over_why (given_down (moved_len wanted link.down) link node).1.dial.consumer.handshake)) k e;
  }
