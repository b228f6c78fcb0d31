-- which lines are bound to be refused, by what is told of nodes and links
use Rattle.std.specs.Prelude.{◌≡◌, ℕ, ◌||◌, if◌then◌else◌, ◌⊎◌, Bool, List, [], ◌∷◌, Option, Some, None}
use Rattle.script_text.specs.declared.verb.Verb.{Verb}
use Rattle.script_text.specs.declared.verb.Verb.TheVariants as verb
use Rattle.script_text.specs.declared.verb.NodeVerb.{NodeVerb}
use Rattle.script_text.specs.declared.verb.NodeVerb.TheVariants as node_verb
use Rattle.vb_events.specs.declared.event.Answer.{Answer}
use Rattle.vb_events.specs.declared.event.Answer.TheVariants as answer
use Rattle.vb_events.specs.declared.event.Cause.{Cause}
use Rattle.vb_events.specs.declared.event.Cause.TheVariants as cause
use Rattle.vb_events.specs.declared.event.Event.{Event}
use Rattle.transcript_law.specs.Chronicles.{Chronicle, Dial}
use Rattle.transcript_law.specs.LineAnswers.{LawfulAnswer}

-- the node n is told down
abbrev pub is_told_down : Chronicle → ℕ → Bool
is_told_down chronicle n = (chronicle.arm_at n).down

-- a line that a running node carries out
abbrev pub if_down : Bool → List Cause
if_down down = if down then cause.NodeDown ∷ [] else []

-- a line of a link, which has to be dialed, and not over
abbrev pub if_over : Option Dial → List Cause
if_over None = cause.LinkClosed ∷ []
if_over (Some dial) = []

-- a line for a node: one that is down is there, and carries out no line but those that arm and start it; one that is not told down does not start
abbrev pub bound_node : Bool → NodeVerb → List Cause
bound_node down (node_verb.Clock nanos) = if_down down
bound_node down (node_verb.Stop call out) = []
bound_node down (node_verb.Fail call) = []
bound_node down (node_verb.Crash out) = if_down down
bound_node down (node_verb.Start uuids) = if down then [] else cause.NodeUp ∷ cause.UnknownNode ∷ []

-- the causes for one of which a line is bound to be refused, by what it names, and none where it may be carried out: a node that is down carries out no line for its vBuckets or its clients; and over a link that is not dialed, or over, nothing goes
abbrev pub bound_by : Chronicle → Verb → List Cause
bound_by chronicle (verb.Node n) = if is_told_down chronicle n then cause.NodeExists ∷ [] else []
bound_by chronicle (verb.Link l m n v buffer takeover) = if is_told_down chronicle m || is_told_down chronicle n then cause.NodeDown ∷ cause.UnknownNode ∷ [] else []
bound_by chronicle (verb.AtNode n what) = bound_node (is_told_down chronicle n) what
bound_by chronicle (verb.AtVb n v what) = if_down (is_told_down chronicle n)
bound_by chronicle (verb.AtClient n c what) = if_down (is_told_down chronicle n)
bound_by chronicle (verb.AtLink l what) = if_over (chronicle.dial_of l)

-- a line is refused for one of these causes
abbrev pub IsNoOf : List Cause → Answer → Type 0
IsNoOf [] said = ⊥
IsNoOf (why ∷ more) said = (said ≡ answer.No why) ⊎ IsNoOf more said

-- where there are such causes, a line is refused for one of them, and tells of nothing; where there are none, this holds of it
abbrev pub IsBound : List Cause → Type 0 → List Event → Answer → Type 0
IsBound [] ruled lines said = ruled
IsBound (why ∷ more) ruled lines said = (lines ≡ []) × IsNoOf (why ∷ more) said

-- a line is refused where it is bound to be, and is answered as its verb says where it is not
abbrev pub IsAnswered : Chronicle → Verb → List Event → Answer → Type 0
IsAnswered chronicle line lines said = IsBound (bound_by chronicle line) (LawfulAnswer chronicle line lines said) lines said
