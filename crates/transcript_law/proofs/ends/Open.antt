-- over a link that is dialed, and not told over, each line is carried out, and one is dialed only where none is
use Rattle.std.specs.Prelude.{◌≡◌, ◌⊎◌, ◌∷◌, ◌==◌, ◌&&◌, ◌||◌, if◌then◌else◌}
use Rattle.transcript_law.proofs.Words.{ℕ, Bool, true, false, List, [], refl, ap, sym, ◌∙◌, subst, inl, inr, ⊎_elim, take, not, and_parts, eqb-true, Option, Some, None, is_some, Answer, Cause, Chronicle, PlainLink, PlainNode, PlainWorld, Outcome, Told, LinkResult}
use Rattle.transcript_law.proofs.Words.{after_job, ask_in, consumer_node, cut_outcome, dial_of, done, feeds, first_cause, is_taken, link_number, link_step, moved_len, node_outcome, on_link, producer_node, refusal, refused_or, row_at, up_at, vb_in, with_dialed, with_link, with_links}
use Rattle.dcp_consumer.specs.Machine.{over_why}
use Rattle.node_core.specs.Dials.{dial_bytes, is_broken}
use Rattle.node_world.specs.{Arms.{fired_by, placed}, Links.{drop_at}, Power.{after_broken, is_broken_answer, with_broken}, World.{cut_step, down_in, down_outcome, down_step, link_outcome, pump_outcome, pump_step}, Worlds.{arm_in, is_off}}
use Rattle.node_world.specs.declared.arm.Fired.{Fired}
use Rattle.node_world.specs.declared.arm.Fired.TheVariants as fired
use Rattle.transcript_law.proofs.ends.Links.{AllLinked, found}
use Rattle.transcript_law.proofs.{disks.Disks.{power_in}, invariant.{Agreement.{Agrees, IsLink, is_running}, LinkRows.{found_is_link}}, invariant.Ranged.{IsRanged}, links.{Dropped.{dropped_says}, PumpAnswers.{moved_few}}}
use Rattle.transcript_law.proofs.ends.Pumps.{pump_told}
use Rattle.transcript_law.proofs.verbs.{Dials.{free_links}, StopTellings.{dial_told, world_dialed}}
use Rattle.transcript_law.specs.{LineAnswers.{IsCut, IsDropped, IsLinked, IsMoved, IsOverIfNo, IsPumped}, LinesTold.{Dial, is_dial_for}}

module _ (w : PlainWorld) (r : Chronicle) (a : Agrees w r) (linked : AllLinked w r.dial_of) where
  -- one of which there is none is not dialed
  undialed : (l : ℕ) → row_at link_number l w.links ≡ None → r.dial_of l ≡ None
  undialed l none = by (r.dial_of l) refl
    where
      by : (o : Option Dial) → r.dial_of l ≡ o → o ≡ None
      by None e = refl
      by (Some d) e = let (x, i, s) = linked l d e in let (y, at) = found w.links x i in let z : None ≡ Some y = sym none ∙ ap (λ k. row_at link_number k w.links) (sym s) ∙ at in cc

  -- the nodes at its ends are made
  producer_made : (x : PlainLink) → IsLink x w.links → w.nodes (producer_node x) ≡ None → ⊥
  producer_made x i e = let z : false ≡ true = sym (ap (λ o. is_running (power_in o)) e) ∙ (a.1.ends x i).producer in cc

  consumer_made : (x : PlainLink) → IsLink x w.links → w.nodes (consumer_node x) ≡ None → ⊥
  consumer_made x i e = let there = a.1.links x i in let z : None ≡ Some there.follower = sym (ap (λ o. vb_in o x.consumer.dialed.vb) e) ∙ there.follower_is in cc

  -- a line that a node at its end carries out
  module _ (P : Told → Type 0) (l : ℕ) (end : PlainLink → ℕ) (f : PlainLink → PlainNode → PlainNode × LinkResult) (closed : r.dial_of l ≡ None → P (refusal Cause.LinkClosed)) (made : (x : PlainLink) → IsLink x w.links → w.nodes (end x) ≡ None → ⊥)
      (says : (link : PlainLink) (node : PlainNode) → P (f link node).1.1) where
    reached : P (on_link w l end f).1
    reached = by (row_at link_number l w.links) refl
      where
        at : (link : PlainLink) → IsLink link w.links → (o : Option PlainNode) → w.nodes (end link) ≡ o → P (with_link link (node_outcome w (end link) (Some link, refusal Cause.UnknownNode) o (f link))).1
        at link i None e = absurd (made link i e)
        at link i (Some node) e = says link node

        by : (o : Option PlainLink) → row_at link_number l w.links ≡ o → P (link_outcome w l end f o).1
        by None e = closed (undialed l e)
        by (Some link) e = at link (found_is_link l w.links link e).0 (w.nodes (end link)) refl

  pub up_answered : (l wanted : ℕ) → IsMoved (r.dial_of l) wanted (on_link w l producer_node (up_at wanted)).1.answer
  up_answered l wanted = reached (λ told. IsMoved (r.dial_of l) wanted told.answer) l producer_node (up_at wanted) (λ none. none) producer_made (λ link node. moved_few wanted link.up)

  pub drop_answered : (l : ℕ) → IsDropped r l (on_link w l producer_node drop_at).1.answer
  drop_answered l = by (row_at link_number l w.links) refl
    where
      at : (link : PlainLink) → row_at link_number l w.links ≡ Some link → (o : Option PlainNode) → w.nodes (producer_node link) ≡ o → IsDropped r l (with_link link (node_outcome w (producer_node link) (Some link, refusal Cause.UnknownNode) o (drop_at link))).1.answer
      at link e None none = absurd (producer_made link (found_is_link l w.links link e).0 none)
      at link e (Some node) known =
          let same : link_number link ≡ l = (found_is_link l w.links link e).1 in
          subst (λ k. IsDropped r k (drop_at link node).1.1.answer) same (dropped_says w r link node a.0 a.1 (subst (λ k. row_at link_number k w.links ≡ Some link) (sym same) e))

      by : (o : Option PlainLink) → row_at link_number l w.links ≡ o → IsDropped r l (link_outcome w l producer_node drop_at o).1.answer
      by None e = undialed l e
      by (Some link) e = at link e (w.nodes (producer_node link)) refl

  pub pump_answered : IsRanged w → (l frames : ℕ) → (let told = (pump_step w l frames).1 in IsPumped (r.dial_of l) frames told.events told.answer)
  pump_answered ranged l frames = by (row_at link_number l w.links) refl
    where
      Pumped : Told → Type 0
      Pumped told = IsPumped (r.dial_of l) frames told.events told.answer

      none : row_at link_number l w.links ≡ None → Pumped (pump_step w l frames).1
      none e = subst (λ o. Pumped (pump_outcome w l frames o).1) (sym e) (undialed l e)

      made : (link : PlainLink) → row_at link_number l w.links ≡ Some link → (o : Option PlainNode) → w.nodes (producer_node link) ≡ o → Pumped (pump_step w l frames).1
      made link e None none = absurd (producer_made link (found_is_link l w.links link e).0 none)
      made link e (Some node) known = pump_told w ranged (r.dial_of l) l frames link node e known

      by : (o : Option PlainLink) → row_at link_number l w.links ≡ o → Pumped (pump_step w l frames).1
      by None e = none e
      by (Some link) e = made link e (w.nodes (producer_node link)) refl

  pub cut_answered : (l : ℕ) → IsCut (r.dial_of l) (cut_step w l).1.answer
  cut_answered l = by (row_at link_number l w.links) refl
    where
      by : (o : Option PlainLink) → row_at link_number l w.links ≡ o → IsCut (r.dial_of l) (cut_outcome w o).1.answer
      by None e = undialed l e
      by (Some link) e = tt

  pub down_over : (l wanted : ℕ) → IsOverIfNo (r.dial_of l) (down_step w l wanted).1.answer
  down_over l wanted = by (row_at link_number l w.links) refl
    where
      Over : Outcome → Type 0
      Over o = IsOverIfNo (r.dial_of l) o.1.answer

      broken : (n : ℕ) (came : Outcome) → Over came → Over (with_broken n l w came)
      broken n came is = answered (is_broken_answer came.1.answer)
        where
          how : (x : Fired) → Over (after_broken n l (arm_in (w.nodes n)).out x came)
          how fired.No = tt
          how fired.Failed = tt
          how fired.Stopped = tt

          answered : (b : Bool) → Over (if b then after_broken n l (arm_in (w.nodes n)).out (fired_by (arm_in (w.nodes n)).fuse (arm_in (came.0.nodes n)).fuse) came else came)
          answered true = how (fired_by (arm_in (w.nodes n)).fuse (arm_in (came.0.nodes n)).fuse)
          answered false = is

      moved : (count : ℕ) (b : Bool) → IsOverIfNo (r.dial_of l) (if b then Answer.No Cause.Disk else Answer.Number count)
      moved count true = tt
      moved count false = tt

      at : (link : PlainLink) → IsLink link w.links → (o : Option PlainNode) → w.nodes (consumer_node link) ≡ o → Over (with_link link (node_outcome w (consumer_node link) (Some link, refusal Cause.UnknownNode) o (down_in wanted link)))
      at link i None e = absurd (consumer_made link i e)
      at link i (Some node) e = moved (moved_len wanted link.down) (is_broken (over_why (after_job (dial_bytes (take (moved_len wanted link.down) link.down) (dial_of link)) (placed link.consumer.dialed.vb node).vbs (placed link.consumer.dialed.vb node).shelves).1.dial.consumer.handshake))

      by : (o : Option PlainLink) → row_at link_number l w.links ≡ o → Over (down_outcome w l o (link_outcome w l consumer_node (down_in wanted) o))
      by None e = undialed l e
      by (Some link) e = broken (consumer_node link) (with_link link (node_outcome w (consumer_node link) (Some link, refusal Cause.UnknownNode) (w.nodes (consumer_node link)) (down_in wanted link))) (at link (found_is_link l w.links link e).0 (w.nodes (consumer_node link)) refl)

  -- ---- one that is dialed

  taken_by : (l n v : ℕ) (links : List PlainLink) → is_taken links l n v ≡ true → (x : PlainLink) × IsLink x links × ((link_number x == l || feeds n v x) ≡ true)
  taken_by l n v [] t = cc
  taken_by l n v (x ∷ xs) t = by (λ s. taken_by l n v xs s) (link_number x == l || feeds n v x) refl t
    where
      by : (is_taken xs l n v ≡ true → (y : PlainLink) × IsLink y xs × ((link_number y == l || feeds n v y) ≡ true))
          → (b : Bool) → (link_number x == l || feeds n v x) ≡ b → (b || is_taken xs l n v) ≡ true → (y : PlainLink) × IsLink y (x ∷ xs) × ((link_number y == l || feeds n v y) ≡ true)
      by rest true e s = (x, inl refl, e)
      by rest false e s = let (y, i, t) = rest s in (y, inr i, t)

  one_of : (a b : Bool) → (a || b) ≡ true → (a ≡ true) ⊎ (b ≡ true)
  one_of true b e = inl refl
  one_of false b e = inr e

  module _ (l n v : ℕ) where
    taken : is_taken w.links l n v ≡ true → IsLinked r.dial_of l n v (Answer.No Cause.LinkOpen)
    taken t =
        let (x, i, test) = taken_by l n v w.links t in let dialed : r.dial_of (link_number x) ≡ Some (dial_told x) = world_dialed w r a x i in
        ⊎_elim
        (λ same. inl (dial_told x, ap r.dial_of (sym (eqb-true (link_number x) l same)) ∙ dialed))
        (λ fed. inr (link_number x, ap (is_dial_for n v) dialed ∙ fed))
        (one_of (link_number x == l) (feeds n v x) test)

    free : is_taken w.links l n v ≡ false → IsLinked r.dial_of l n v Answer.Ok
    free t = (unused (r.dial_of l) refl, λ k. unfed k (r.dial_of k) refl)
      where
        unused : (o : Option Dial) → r.dial_of l ≡ o → o ≡ None
        unused None e = refl
        unused (Some d) e = let (x, i, s) = linked l d e in absurd ((free_links w.links l n v t x i).0 s)

        unfed : (k : ℕ) (o : Option Dial) → r.dial_of k ≡ o → is_dial_for n v o ≡ false
        unfed k None e = refl
        unfed k (Some d) e = by (is_dial_for n v (Some d)) refl
          where
            by : (b : Bool) → is_dial_for n v (Some d) ≡ b → b ≡ false
            by false q = refl
            by true q =
                let (x, i, s) = linked k d e in
                let same : Some (dial_told x) ≡ Some d = sym (world_dialed w r a x i) ∙ ap r.dial_of s ∙ e in
                let p = and_parts (consumer_node x == n) (x.consumer.dialed.vb == v) (ap (is_dial_for n v) same ∙ q) in
                absurd ((free_links w.links l n v t x i).1 (eqb-true (consumer_node x) n p.0) (eqb-true x.consumer.dialed.vb v p.1))

    linked_so : (x : Outcome) → x.1.answer ≡ Answer.Ok → (b c d o : Bool)
        → IsLinked r.dial_of l n v (refused_or (first_cause ((b, Cause.UnknownNode) ∷ (c, Cause.NodeDown) ∷ (d, Cause.UnknownVb) ∷ (o, Cause.WrongRole) ∷ (is_taken w.links l n v, Cause.LinkOpen) ∷ [])) w x).1.answer
    linked_so x ok true c d o = tt
    linked_so x ok false true d o = tt
    linked_so x ok false false true o = tt
    linked_so x ok false false false true = tt
    linked_so x ok false false false false = by (is_taken w.links l n v) refl
      where
        by : (e : Bool) → is_taken w.links l n v ≡ e → IsLinked r.dial_of l n v (refused_or (first_cause ((e, Cause.LinkOpen) ∷ [])) w x).1.answer
        by true e = taken e
        by false e = subst (IsLinked r.dial_of l n v) (sym ok) (free e)

  pub link_answered : (number l m n v buffer : ℕ) (takeover : Bool) → IsLinked r.dial_of l n v (link_step w number l m n v buffer takeover).1.answer
  link_answered number l m n v buffer takeover = linked_so l n v (with_links w (with_dialed number l m n v buffer takeover w.links (ask_in w n v)), done []) refl
      (not (is_some (w.nodes m) && is_some (w.nodes n))) (is_off (w.nodes m) || is_off (w.nodes n)) (not (is_some (vb_in (w.nodes n) v))) (not (is_some (ask_in w n v)))
