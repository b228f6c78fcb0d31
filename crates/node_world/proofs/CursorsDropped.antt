-- whose cursor `drop L` takes away
use Rattle.std.proofs.Common.{◌≡◌, ℕ, Bool, true, false, [], ap, ◌∙◌, inl, inr, Option, Some, None}
use Rattle.std.specs.Prelude.{◌==◌, if◌then◌else◌}
use Rattle.std.specs.List.{find}
use Rattle.script_text.specs.declared.verb.Verb.TheVariants as verb
use Rattle.script_text.specs.declared.verb.LinkVerb.TheVariants as link_verb
use Rattle.vb_events.specs.declared.event.Cause.TheVariants as cause
use Rattle.vb_calls.specs.declared.calls.VbCall.TheVariants as call
use Rattle.vb_calls.specs.declared.stream.Stream.{Stream}
use Rattle.vb_calls.specs.Programs.{Prog, Done, Call, after}
use Rattle.vb_calls.specs.State.{Plain}
use Rattle.vb_calls.specs.States.{call_at}
use Rattle.vb_calls.specs.Trims.{has_cursor}
use Rattle.vbucket.specs.Rows.{row_at}
use Rattle.dcp_producer.specs.Dropping.{cursor_dropped, cursor_dropped_of, flag_said}
use Rattle.dcp_producer.specs.Producers.{PlainStream}
use Rattle.node_world.specs.CursorsDropped.{DropsCursor, HasNoneOpen, TellsCount, lacking, stream_of}
use Rattle.node_world.specs.Links.{PlainLink, LinkResult, drop_at, drop_result, link_number, moved, producer_node}
use Rattle.node_world.specs.Nodes.{PlainNode, refusal}
use Rattle.node_world.specs.World.{link_outcome, verb_step, with_link}
use Rattle.node_world.specs.Worlds.{PlainWorld, Outcome, node_outcome, with_node_at}
use Rattle.node_world.proofs.GivesFirst.{away, here}

module _ (w : PlainWorld) (l : ℕ) (link : PlainLink) (producer : PlainNode) (there : row_at link_number l w.links ≡ Some link) (made : w.nodes (producer_node link) ≡ Some producer) where
  abbrev dropped : Outcome
  dropped = verb_step w 0 (verb.AtLink l link_verb.Drop)

  abbrev put_at : PlainNode × LinkResult → Outcome
  put_at x = with_link link (with_node_at w (producer_node link) x.0, x.1)

  -- what the node's calls make of it
  came_by : (prog : Prog Bool) → cursor_dropped link.consumer.dialed.vb link.server ≡ prog → dropped ≡ put_at (drop_result link producer (after prog producer.vbs))
  came_by prog is =
      ap (link_outcome w l producer_node drop_at) there ∙ ap (λ o. with_link link (node_outcome w (producer_node link) (Some link, refusal cause.UnknownNode) o (drop_at link))) made
      ∙ ap (λ p. put_at (drop_result link producer (after p producer.vbs))) is

  tells : (node : PlainNode) (count : ℕ) → dropped ≡ put_at (node, (Some link, moved count [])) → TellsCount w link node count dropped
  tells node count is = record {
    told = ap (λ (o : Outcome). o.1) is;
    is = ap (λ (o : Outcome). o.0.nodes (producer_node link)) is ∙ here w (producer_node link) node;
    others = λ m other. ap (λ (o : Outcome). o.0.nodes m) is ∙ away w (producer_node link) m node other;
  }

  -- such a stream is open
  module _ (stream : PlainStream) (vb : Plain) (s : Stream) (feeds : stream_of link ≡ Some stream) (on : stream.ended ≡ false) (at : producer.vbs stream.vb ≡ Some vb) (open_one : find (λ s. s.id == stream.id) vb.streams ≡ Some s) where
    abbrev called : Option Plain → PlainNode × LinkResult
    called o = let came = call_at producer.vbs stream.vb (call.DropCursor stream.id) o in drop_result link producer (came.0, flag_said came.1)

    goes : (b : Bool) → s.cursor ≡ b → TellsCount w link (lacking producer stream vb) (if b then 1 else 0) dropped
    goes b is =
        tells (lacking producer stream vb) (if b then 1 else 0)
        (came_by (Call stream.vb (call.DropCursor stream.id) (λ reply. Done (flag_said reply)))
        (ap cursor_dropped_of feeds ∙ ap (λ b. if b then Done false else Call stream.vb (call.DropCursor stream.id) (λ reply. Done (flag_said reply))) on)
        ∙ ap (λ o. put_at (called o)) at ∙ ap (λ o. put_at (lacking producer stream vb, (Some link, moved (if has_cursor o then 1 else 0) []))) open_one
        ∙ ap (λ b. put_at (lacking producer stream vb, (Some link, moved (if b then 1 else 0) []))) is)

  none_open : HasNoneOpen link → cursor_dropped link.consumer.dialed.vb link.server ≡ Done false
  none_open (inl none) = ap cursor_dropped_of none
  none_open (inr (stream, feeds, over)) = ap cursor_dropped_of feeds ∙ ap (λ b. if b then Done false else Call stream.vb (call.DropCursor stream.id) (λ reply. Done (flag_said reply))) over

  pub drops_cursor : DropsCursor w l link producer
  drops_cursor = record {
    had = λ number stream vb s feeds on at open_one is. goes stream vb s feeds on at open_one true is;
    had_none = λ number stream vb s feeds on at open_one is. goes stream vb s feeds on at open_one false is;
    none = λ number none. tells producer 0 (came_by (Done false) (none_open none));
  }
