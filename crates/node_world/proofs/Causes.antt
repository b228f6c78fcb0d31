-- why lines are refused
use Rattle.std.proofs.Common.{ap}
use Rattle.std.specs.Prelude.{[], ◌∷◌, is_some}
use Rattle.vb_events.specs.declared.event.Cause.TheVariants as cause
use Rattle.node_world.specs.Causes.{CausesInOrder}
use Rattle.node_world.specs.Nodes.{done, empty_node, first_cause, refused_or}
use Rattle.node_world.specs.Worlds.{PlainWorld, with_node_at}
use Rattle.node_world.proofs.LinkCauses.{at_link, dials, dials_made, no_link}
use Rattle.node_world.proofs.NodeCauses.{at_made, at_node, at_shelf, at_made_vb, not_made}
use Rattle.node_world.proofs.StartCauses.{at_stopped_node}

pub causes : (w : PlainWorld) → CausesInOrder w
causes w = record {
  node = λ n e number. ap (λ o. (refused_or (first_cause ((is_some o, cause.NodeExists) ∷ [])) w (with_node_at w n empty_node, done [])).1.answer) e;
  no_node = not_made w;
  at_made = at_made w;
  at_stopped_node = at_stopped_node w;
  at_node = at_node w;
  at_made_vb = at_made_vb w;
  at_shelf = λ n v node vb shelf there up here kept notes. at_shelf w n v node vb there up here shelf kept notes;
  dials = dials w;
  dials_made = λ l m n v buffer takeover producer node here there. dials_made w l m n v buffer takeover producer node here there;
  no_link = no_link w;
  at_link = at_link w;
}
