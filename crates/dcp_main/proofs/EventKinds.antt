-- each event is of a kind, so one that is held where it is of a kind is held
use Rattle.std.proofs.Common.{◌≡◌, true, refl}
use Rattle.vb_events.specs.declared.event.Event.{Event}
use Rattle.vb_events.specs.declared.event.Event.TheVariants as event
use Rattle.script_text.specs.Held.{IsEventHeld}
use Rattle.dcp_main.specs.EventKinds.{is_of_branch, is_of_node, is_of_request, is_of_frame, is_of_consumer, is_of_acknowledged, is_of_saving, is_of_shown}

pub held_by_kind : (e : Event)
    → (is_of_branch e ≡ true → IsEventHeld e)
    → (is_of_node e ≡ true → IsEventHeld e)
    → (is_of_request e ≡ true → IsEventHeld e)
    → (is_of_frame e ≡ true → IsEventHeld e)
    → (is_of_consumer e ≡ true → IsEventHeld e)
    → (is_of_acknowledged e ≡ true → IsEventHeld e)
    → (is_of_saving e ≡ true → IsEventHeld e)
    → (is_of_shown e ≡ true → IsEventHeld e)
    → IsEventHeld e
held_by_kind (event.Branch node vb uuid parent fork high) h _ _ _ _ _ _ _ = h refl
held_by_kind (event.Role node vb role) h _ _ _ _ _ _ _ = h refl
held_by_kind (event.Changed node vb uuid change) h _ _ _ _ _ _ _ = h refl
held_by_kind (event.Reply node client bytes) _ h _ _ _ _ _ _ = h refl
held_by_kind (event.Closed node client) _ h _ _ _ _ _ _ = h refl
held_by_kind (event.Asked stream node vb ask high log answer) _ _ h _ _ _ _ _ = h refl
held_by_kind (event.Marked stream start end flags) _ _ _ h _ _ _ _ = h refl
held_by_kind (event.Item stream seq act key) _ _ _ h _ _ _ _ = h refl
held_by_kind (event.Finished stream reason) _ _ h _ _ _ _ _ = h refl
held_by_kind (event.Stated stream role) _ _ _ h _ _ _ _ = h refl
held_by_kind (event.Adopted node vb log) _ _ _ _ h _ _ _ = h refl
held_by_kind (event.Ranged node vb ss se) _ _ _ _ h _ _ _ = h refl
held_by_kind (event.Got node vb stream change) _ _ _ _ h _ _ _ = h refl
held_by_kind (event.Rolled node vb named to) _ _ _ _ h _ _ _ = h refl
held_by_kind (event.Acknowledged stream node vb seq saved) _ _ _ _ _ h _ _ = h refl
held_by_kind (event.Counted stream node vb member seq) _ _ _ _ _ h _ _ = h refl
held_by_kind (event.Ended link reason) _ _ _ _ h _ _ _ = h refl
held_by_kind (event.Batch node vb ss se at count) _ _ _ _ _ _ h _ = h refl
held_by_kind (event.Stat node vb windows items cursors saved high) _ _ _ _ _ _ h _ = h refl
held_by_kind (event.CallFailed node) _ h _ _ _ _ _ _ = h refl
held_by_kind (event.NodeStopped node) _ h _ _ _ _ _ _ = h refl
held_by_kind (event.Shown node vb role uuid at ss se docs preps) _ _ _ _ _ _ _ h = h refl
held_by_kind (event.Logged node vb log) _ _ _ _ _ _ _ h = h refl
held_by_kind (event.Document key doc) _ _ _ _ _ _ _ h = h refl
held_by_kind (event.Prepared key seq level) _ _ _ _ _ _ _ h = h refl
