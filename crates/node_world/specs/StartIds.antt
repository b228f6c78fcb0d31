-- which id each vBucket takes when its node starts
use Rattle.std.specs.Prelude.{◌≡◌, ◌⊎◌, ℕ, List, [], ◌∷◌, ◌++◌, zip, Option, option_map}
use Rattle.disk_journals.specs.Books.{Book}
use Rattle.script_text.specs.declared.verb.Verb.TheVariants as verb
use Rattle.script_text.specs.declared.verb.NodeVerb.TheVariants as node_verb
use Rattle.vb_calls.specs.declared.calls.VbCall.TheVariants as call
use Rattle.vb_calls.specs.State.{Plain}
use Rattle.vb_events.specs.declared.event.Answer.TheVariants as line
use Rattle.vb_events.specs.declared.event.Event.{Event}
use Rattle.vb_events.specs.declared.event.Event.TheVariants as event
use Rattle.node_core.specs.Loading.{active_ones, branch_lines_of_reply}
use Rattle.node_world.specs.CallsMade.{reply_of}
use Rattle.node_world.specs.World.{verb_step}
use Rattle.node_world.specs.Worlds.{PlainWorld}

-- each of these vBuckets of the node n is promoted to the branch of the id beside it, one after the other, and told so by its reply; behind each may stand a call that failed, and nothing else stands there
abbrev pub StartsSo : ℕ → List (ℕ × ℕ) → List Event → Type 0
StartsSo n [] events = events ≡ []
StartsSo n ((v, uuid) ∷ starts) events =
    (vb : Option Plain) × (failed : List Event) × (later : List Event) × (events ≡ branch_lines_of_reply n v (option_map (λ (x : Plain). reply_of x (call.Promote uuid)) vb) ++ (failed ++ later)) × ((failed ≡ []) ⊎ (failed ≡ event.CallFailed n ∷ []))
    × StartsSo n starts later

-- so those of the node n that were active, by these journals, take the ids of the line in their order
abbrev pub TakesIds : PlainWorld → ℕ → List Book → Type 0
TakesIds w n books = (number : ℕ) (uuids : List ℕ) → let came = verb_step w number (verb.AtNode n (node_verb.Start uuids)) in came.1.answer ≡ line.Ok → StartsSo n (zip (active_ones books) uuids) came.1.events
