-- behind a batch that is done the link that feeds its vBucket acknowledges what is due
use Rattle.std.proofs.Common.{◌≡◌, ◌≤◌, ◌<◌, ℕ, Bool, true, false, [], ◌∷◌, ◌++◌, append-nil, refl, ap, ◌∙◌, Option, Some, None}
use Rattle.std.specs.Prelude.{◌≢◌, ◌==◌, ◌&&◌, filter, if◌then◌else◌}
use Rattle.std.proofs.lemmas.Bool.{and_parts, eqb-true, le-ltb, lt-ltb}
use Rattle.vb_events.specs.declared.event.Answer.TheVariants as line
use Rattle.vb_events.specs.declared.event.Event.TheVariants as event
use Rattle.vb_events.specs.declared.event.StreamName.TheVariants as name
use Rattle.vb_calls.specs.declared.calls.VbCall.TheVariants as call
use Rattle.vb_calls.specs.Programs.{Done, Call, Prog, after}
use Rattle.vb_calls.specs.State.{Plain}
use Rattle.vb_calls.specs.States.{States, call_at, with_vb_at}
use Rattle.vbucket.specs.Rows.{row_put}
use Rattle.dcp_consumer.specs.declared.handshake.Handshake.TheVariants as handshake
use Rattle.dcp_consumer.specs.Machine.{is_streaming, may_acknowledge}
use Rattle.node_core.specs.Dials.{DialResult, acknowledged_result, dial_due, dues_in, due_requested, due_met, dues_of_reply, untold}
use Rattle.node_core.proofs.Acknowledging.{idle_is_silent}
use Rattle.node_world.specs.declared.told.Told.{Told}
use Rattle.node_world.specs.Cuts.{own_link}
use Rattle.node_world.specs.Dues.{due_at, due_in, due_of, with_acknowledged, is_counted}
use Rattle.node_world.specs.Links.{PlainLink, dial_of, feeds, link_number}
use Rattle.node_world.specs.Nodes.{PlainNode}
use Rattle.node_world.specs.Owed.{AcknowledgesDue, Acknowledges, MayAcknowledge, acknowledging}
use Rattle.node_world.specs.Worlds.{PlainWorld, Outcome}
use Rattle.node_world.proofs.OwnLinks.{found, found_none, meets}

module _ (n v : ℕ) (came : Outcome) where
  abbrev w : PlainWorld
  w = came.0

  abbrev told : Told
  told = came.1

  -- by the link that feeds the vBucket, and by whether a batch is done
  abbrev by_link : Option PlainLink → Outcome
  by_link o = due_of n w told o

  abbrev by_count : Bool → Outcome
  by_count b = if b then by_link (own_link n v w.links) else came

  -- an acknowledgement of nothing leaves what is told
  same_told : (t : Told) → record t { events = t.events ++ [] } ≡ t
  same_told t = λ i. record t { events = append-nil t.events i }

  module _ (link : PlainLink) (fed : filter (feeds n v) w.links ≡ link ∷ []) where
    owned : own_link n v w.links ≡ Some link
    owned = found (feeds n v) link [] w.links fed

    same : (link.consumer.dialed.node ≡ n) × (link.consumer.dialed.vb ≡ v)
    same =
        let parts = and_parts (link.consumer.dialed.node == n) (link.consumer.dialed.vb == v) (meets (feeds n v) link [] w.links fed) in
        (eqb-true link.consumer.dialed.node n parts.0, eqb-true link.consumer.dialed.vb v parts.1)

    -- a stream that is not granted
    idle : link.consumer.handshake ≢ handshake.Streaming → (due_in n v came).1 ≡ told
    idle ne = by (is_counted told.answer)
      where
        at : (o : Option PlainNode) → (due_at n link w told o).1 ≡ told
        at None = refl
        at (Some node) = ap (λ (p : Prog DialResult). (with_acknowledged n link node w told (after p node.vbs)).1) (idle_is_silent (dial_of link) ne) ∙ same_told told

        by : (b : Bool) → (by_count b).1 ≡ told
        by true = ap (λ o. (by_link o).1) owned ∙ at (w.nodes n)
        by false = refl

    module _ (count seq : ℕ) (node : PlainNode) (vb : Plain) (is : told.answer ≡ line.Number count) (may : MayAcknowledge w n v seq node vb link) (streams : link.consumer.handshake ≡ handshake.Streaming) where
      abbrev dv : ℕ
      dv = link.consumer.dialed.vb

      abbrev s : DialResult
      s = untold (dial_of link)

      here : node.vbs dv ≡ Some vb
      here = ap node.vbs same.1 ∙ may.here

      -- the vBuckets behind the question
      abbrev S : States
      S = with_vb_at node.vbs dv vb

      -- by whether there is something to acknowledge
      abbrev met : Bool → States × DialResult
      met b = (S, if b then acknowledged_result seq s vb.saved else s)

      asked : after (dial_due (dial_of link)) node.vbs ≡ met (may_acknowledge seq link.consumer)
      unfolding due_requested
      asked =
          ap (λ h. after (if is_streaming h then Call dv call.Due (λ reply. Done (due_met s (dues_of_reply reply))) else Done s) node.vbs) streams
          ∙ ap (λ o. let x = call_at node.vbs dv call.Due o in (x.0, due_met s (dues_of_reply x.1))) here ∙ ap (λ a. (S, due_met s (dues_in a))) may.due

      comes : due_in n v came ≡ with_acknowledged n link node w told (after (dial_due (dial_of link)) node.vbs)
      comes = ap (λ a. by_count (is_counted a)) is ∙ ap by_link owned ∙ ap (due_at n link w told) may.made

      owes : link.consumer.acked < seq → Acknowledges n v seq vb link came (due_in n v came)
      owes above =
          let whole : due_in n v came ≡ with_acknowledged n link node w told (met true) =
          comes ∙ ap (with_acknowledged n link node w told) (asked ∙ (λ i. met (is_streaming (streams i) && lt-ltb link.consumer.acked seq above i))) in
          record {
            told = ap (λ (o : Outcome). o.1) whole ∙ (λ i. record told { events = told.events ++ event.Acknowledged (name.Link (link_number link)) (same.0 i) (same.1 i) seq vb.saved ∷ [] });
            links = ap (λ (o : Outcome). o.0.links) whole ∙ ap (λ u. row_put link_number (link_number link) (acknowledging u seq link) w.links) same.1;
          }

      owes_nothing : seq ≤ link.consumer.acked → (due_in n v came).1 ≡ told
      owes_nothing below =
          ap (λ (o : Outcome). o.1) (comes ∙ ap (with_acknowledged n link node w told) (asked ∙ (λ i. met (is_streaming (streams i) && le-ltb link.consumer.acked seq below i)))) ∙ same_told told

  unfed : filter (feeds n v) w.links ≡ [] → due_in n v came ≡ came
  unfed none = by (is_counted told.answer)
    where
      by : (b : Bool) → by_count b ≡ came
      by true = ap by_link (found_none (feeds n v) w.links none)
      by false = refl

  pub acknowledges : AcknowledgesDue n v came (due_in n v came)
  acknowledges = record {
    owed = λ count seq node vb link is may streams above. owes link may.fed count seq node vb is may streams above;
    settled = λ count seq node vb link is may streams below. owes_nothing link may.fed count seq node vb is may streams below;
    ungranted = λ link fed ne. idle link fed ne;
    unfed = unfed;
    refused = λ why is. ap (λ a. by_count (is_counted a)) is;
  }
