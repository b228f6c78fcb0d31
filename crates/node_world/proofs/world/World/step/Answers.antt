use Rattle.std.proofs.Common.{◌++◌, List, refl, subst, sym}
use Rattle.std.specs.List.{flat_map}
use Rattle.vb_events.specs.declared.event.Event.{Event}
use Rattle.node_world.specs.Stands.{IdsStand, Kept, WorldStands}
use Rattle.node_world.specs.World.{branch_of_line, verb_step}
use Rattle.node_world.proofs.WorldRests.{stepped}
use Rattle.node_world.proofs.world.World.step.Goals as goal

pub returns : goal.returns
returns c = λ w stands rests.
    let (after, said) = c.in_ok-told.ensures w stands rests in
    stepped (record { nodes = c.self.inside.nodes.items; ids = c.self.inside.ids; links = c.self.inside.links.items }) (record { nodes = c.self.inside.nodes.items; ids = c.give_all.new.self; links = c.self.inside.links.items })
    w c.args.line.now c.in_ok-told.told (subst (λ (k : Kept). WorldStands k (verb_step w c.args.line.now.line c.args.line.now.verb).0) (sym c.self.view_is) after) said refl refl
    (λ uuids known. subst (λ (events : List Event). IdsStand c.give_all.new.self (uuids ++ flat_map branch_of_line events)) c.as_slice.ensures (c.in_ok-give_all.ensures uuids known)) rests
