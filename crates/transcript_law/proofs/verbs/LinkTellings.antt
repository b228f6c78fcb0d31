-- an `up` and a `cut` of a link tell of nothing else than they may, by how the link was dialed
use Rattle.std.specs.Prelude.{◌≡◌, ◌∷◌, ◌++◌, ◌==◌, ◌&&◌, ◌||◌, if◌then◌else◌}
use Rattle.transcript_law.proofs.Words.{ℕ, Bool, true, false, List, [], take, refl, ap, sym, ◌∙◌, subst, eq-eqb, eqb-true, Option, Some, None, Cause, Chronicle, EndReason, Event, Frame, LinkVerb, StreamName, PlainLink, PlainNode, PlainWorld, Outcome, after_job}
use Rattle.transcript_law.proofs.Words.{LinkResult, consumer_node, cut_outcome, link_number, link_outcome, moved_len, node_outcome, on_link, producer_node, pump_at, refusal, row_at, up_at, with_link, with_node_at}
use Rattle.dcp_consumer.proofs.States.{comes_to_itself}
use Rattle.dcp_consumer.specs.Conduct.{Comes}
use Rattle.dcp_consumer.specs.Machine.{PlainConsumer, answered, frame_step, moved_by, over_why, streaming}
use Rattle.dcp_consumer.specs.States.{ComesTo}
use Rattle.dcp_consumer.specs.declared.handshake.ConsumerStep.{ConsumerStep}
use Rattle.dcp_consumer.specs.declared.handshake.ConsumerStep.TheVariants as step
use Rattle.dcp_consumer.specs.declared.handshake.Handshake.{Handshake}
use Rattle.dcp_consumer.specs.declared.handshake.Handshake.TheVariants as handshake
use Rattle.dcp_consumer.specs.declared.passive_stream.Passive.TheVariants as passive
use Rattle.dcp_consumer.specs.declared.handshake.Dialed.{Dialed}
use Rattle.dcp_producer.specs.Frames.{act_sent}
use Rattle.node_core.specs.Dials.{DialResult, dial_bytes}
use Rattle.node_world.proofs.Keeping.{fed_dialed}
use Rattle.node_world.specs.{Arms.{fired_by, placed}, Links.{dial_of, drop_at, left_unless, with_down}, Power.{after_broken, disk_end, down_lines, is_broken_answer, with_broken}, World.{cut_step, down_in, down_outcome, down_step, link_verb_step, relinked}, Worlds.{arm_in}}
use Rattle.node_world.specs.declared.arm.Fired.{Fired}
use Rattle.node_world.specs.declared.arm.Fired.TheVariants as fired
use Rattle.transcript_law.proofs.{invariant.{Agreement.{Agrees, IsLink}, LinkRows.{found_is_link}, Ranged.{IsRanged, NodeRanged, NodeRangedIf}}, lines.{DialTold.{KeepsSo, down_so}, LinkTold.{pump_so, up_so}}}
use Rattle.transcript_law.proofs.verbs.{DownFrames.{open_of}, StopTellings.{AreDialed, dial_told, ends_dialed, out_dialed, put_dialed, stop_ends, world_dialed}, Tellings.{Are, Tell, front_of, later_of, same_place, tell_all, tell_alone, tell_front}, VbTellings.{of_clients}}
use Rattle.transcript_law.specs.{Chronicles.{Dial}, LinesTold.{is_dial_at}, Tellings.{at_link, is_of_clients, is_of_down, is_of_end, is_of_pump, is_of_up}}

module _ (w : PlainWorld) (r : Chronicle) (a : Agrees w r) (l : ℕ) where
  abbrev Tells : Option Dial → LinkVerb → List Event → Type 0
  Tells dial what lines = Tell (at_link dial l what) (is_of_end r) lines

  dialed : AreDialed r w.links
  dialed = world_dialed w r a

  -- an open link is told as it was dialed
  told_so : (link : PlainLink) → IsLink link w.links → link_number link ≡ l → r.dial_of l ≡ Some (dial_told link)
  told_so link is e = ap r.dial_of (sym e) ∙ dialed link is

  -- a line over it, which the node at one of its ends carries out
  on_open : (what : LinkVerb) (end : PlainLink → ℕ) (f : PlainLink → PlainNode → PlainNode × LinkResult)
      → ((link : PlainLink) → IsLink link w.links → link_number link ≡ l → (node : PlainNode) → w.nodes (end link) ≡ Some node → Tells (Some (dial_told link)) what (f link node).1.1.events) → Tells (r.dial_of l) what (on_link w l end f).1.events
  on_open what end f each = by (row_at link_number l w.links) refl
    where
      at_node : (link : PlainLink) → IsLink link w.links → link_number link ≡ l → (o : Option PlainNode) → w.nodes (end link) ≡ o → Tells (Some (dial_told link)) what (with_link link (node_outcome w (end link) (Some link, refusal Cause.UnknownNode) o (f link))).1.events
      at_node link is e None at = refl
      at_node link is e (Some node) at = each link is e node at

      by : (o : Option PlainLink) → row_at link_number l w.links ≡ o → Tells (r.dial_of l) what (link_outcome w l end f o).1.events
      by None e = refl
      by (Some link) e = let is = found_is_link l w.links link e in subst (λ dial. Tells dial what (link_outcome w l end f (Some link)).1.events) (sym (told_so link is.0 is.1)) (at_node link is.0 is.1 (w.nodes (end link)) refl)

  -- what passes of the link passes of its stream
  passes : (link : PlainLink) → IsLink link w.links → link_number link ≡ l → (q : StreamName → Bool) → q (StreamName.Link l) ≡ true → q link.server.desk.stream ≡ true
  passes link is e q p = let (c, all) = a in subst (λ (s : StreamName). q s ≡ true) (sym ((all.links link is).dial.named ∙ ap StreamName.Link e)) p

  pub up_tells : IsRanged w → (wanted : ℕ) → Tells (r.dial_of l) (LinkVerb.Up wanted) (on_link w l producer_node (up_at wanted)).1.events
  up_tells ranged wanted = on_open (LinkVerb.Up wanted) producer_node (up_at wanted) (λ link is e node at.
      let here : NodeRanged (producer_node link) node = subst (NodeRangedIf (producer_node link)) at (ranged (producer_node link)) in let d = link.server.desk in let q : Event → Bool = at_link (Some (dial_told link)) l (LinkVerb.Up wanted) in
      tell_all q (is_of_end r) (λ m e. cc) (up_at wanted link node).1.1.events
      (up_so q d (λ v ask high log said. passes link is e (λ s. q (Event.Asked s d.node v ask high log said)) (λ i. eq-eqb l l refl i || false)) (λ v member seq. passes link is e (λ s. q (Event.Counted s d.node v member seq)) (λ i. eq-eqb l l refl i || false))
      (λ line c. later_of (is_of_up l line) (is_of_clients (producer_node link) line) (of_clients (producer_node link) line c)) wanted link node here.own refl))

  pub drop_tells : Tells (r.dial_of l) LinkVerb.Drop (on_link w l producer_node drop_at).1.events
  drop_tells = on_open LinkVerb.Drop producer_node drop_at (λ link is e node at. refl)

  pub cut_tells : Tells (r.dial_of l) LinkVerb.Cut (cut_step w l).1.events
  cut_tells = by (row_at link_number l w.links) refl
    where
      by : (o : Option PlainLink) → row_at link_number l w.links ≡ o → Tells (r.dial_of l) LinkVerb.Cut (cut_outcome w o).1.events
      by None e = refl
      by (Some link) e = let is = found_is_link l w.links link e in subst (λ dial. Tells dial LinkVerb.Cut (Event.Ended (link_number link) EndReason.Cut ∷ [])) (sym (told_so link is.0 is.1)) (λ i. eq-eqb (link_number link) l is.1 i && true)

  -- ---- bytes for its consumer

  module _ (link : PlainLink) (is : IsLink link w.links) (e : link_number link ≡ l) (wanted : ℕ) where
    abbrev d : Dialed
    d = link.consumer.dialed

    abbrev came : Option PlainNode → Outcome
    came o = with_link link (node_outcome w (consumer_node link) (Some link, refusal Cause.UnknownNode) o (down_in wanted link))

    -- it is as it was dialed behind them
    pub came_dialed : (o : Option PlainNode) → AreDialed r (came o).0.links
    came_dialed None = put_dialed r (link_number link) link w.links (dialed link is) dialed
    came_dialed (Some node) = by (over_why given.dial.consumer.handshake)
      where
        at : PlainNode
        at = placed d.vb node

        piece : List ℕ
        piece = take (moved_len wanted link.down) link.down

        given : DialResult
        given = (after_job (dial_bytes piece (dial_of link)) at.vbs at.shelves).1

        by : (why : Option EndReason) → AreDialed r (relinked link (left_unless why (with_down link (moved_len wanted link.down) given)) (with_node_at w (consumer_node link) (down_in wanted link node).0)).links
        by None = put_dialed r (link_number link) (with_down link (moved_len wanted link.down) given) w.links
            (ends_dialed r link (with_down link (moved_len wanted link.down) given) (fed_dialed piece (dial_of link) at.vbs at.shelves) refl (dialed link is)) dialed
        by (Some why) = out_dialed r (link_number link) w.links dialed
