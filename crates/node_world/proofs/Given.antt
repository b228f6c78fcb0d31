-- ids that are given, one line after the other
use Rattle.std.proofs.Common.{◌≡◌, ℕ, ◌+◌, ◌<◌, List, [], ◌∷◌, ◌++◌, length, get_or, take, ap, sym, ◌∙◌, subst}
use Rattle.std.specs.List.{flat_map}
use Rattle.std.proofs.lemmas.List.{flat_map_more, take_more}
use Rattle.vb_events.specs.declared.event.Event.{Event}
use Rattle.node_world.specs.Stands.{IdsStand}
use Rattle.node_world.specs.World.{branch_of_line}

pub given_more : (ids uuids : List ℕ) (events : List Event) (i : ℕ) (event : Event) → i < length events → event ≡ get_or events i event
    → IdsStand ids (uuids ++ flat_map branch_of_line (take i events) ++ branch_of_line event) → IdsStand ids (uuids ++ flat_map branch_of_line (take (i + 1) events))
given_more ids uuids events i event lt is stands =
    subst (IdsStand ids) (flat_map_more branch_of_line uuids (take i events) event ∙ ap (λ xs. uuids ++ flat_map branch_of_line xs) (ap (λ e. take i events ++ e ∷ []) is ∙ sym (take_more events i event lt))) stands
