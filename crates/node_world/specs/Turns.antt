-- lines for one vBucket of a node: changes of role, and the other calls of an operator
use Rattle.std.specs.Prelude.{ℕ, Bool, false, not, List, [], ◌∷◌, ◌++◌, Option, Some, None, is_some, if◌then◌else◌}
use Rattle.vb_events.specs.declared.event.Answer.TheVariants as answer
use Rattle.vb_events.specs.declared.event.Cause.{Cause}
use Rattle.vb_events.specs.declared.event.Cause.TheVariants as cause
use Rattle.vb_events.specs.declared.event.Event.{Event}
use Rattle.vb_types.specs.declared.role.Role.{Role}
use Rattle.vb_types.specs.declared.role.Role.TheVariants as role
use Rattle.vb_calls.specs.Jobs.{after_job}
use Rattle.vb_calls.specs.Roles.{is_role}
use Rattle.vb_calls.specs.Shelves.{Shelves}
use Rattle.vb_calls.specs.State.{Plain}
use Rattle.vb_calls.specs.States.{States}
use Rattle.node_core.specs.Admin.{AdminResult, admin_job, admin_refused}
use Rattle.node_core.specs.declared.admin.AdminCall.{AdminCall}
use Rattle.node_core.specs.declared.admin.AdminCall.TheVariants as admin
use Rattle.node_world.specs.declared.told.Told.{Told}
use Rattle.node_world.specs.Arms.{under_arm}
use Rattle.node_world.specs.Nodes.{PlainNode, all_posted, first_cause, refused_or, uuid_causes, with_clients_ended, with_kept}
use Rattle.node_world.specs.Worlds.{PlainWorld, Outcome, is_off, node_outcome, with_links, with_node_at, with_node_if, vb_in}
use Rattle.vb_calls.specs.declared.calls.Resolved.{Resolved}
use Rattle.node_world.specs.Cuts.{own_link, cut_off, links_ended}

-- a node after an operator's call, which made this of its vBuckets and their journals
abbrev pub called : PlainNode → (States × Shelves) × AdminResult → PlainNode × AdminResult
called node (kept, told) = (with_kept node kept, told)

-- an operator's call to the vBucket v at the node n
abbrev pub called_at : ℕ → ℕ → AdminCall → PlainNode → PlainNode × AdminResult
called_at n v asked node = called node (after_job (admin_job n v asked) node.vbs node.shelves)

-- a call that gives a vBucket another role, which is written down under the node's arm; one of a node that is not running is refused
abbrev pub role_called : ℕ → ℕ → AdminCall → PlainNode → PlainNode × AdminResult
role_called n v asked node = if is_some node.off then (node, admin_refused cause.NodeDown) else under_arm v (called_at n v asked) node

-- what is told of a line that is an operator's call
abbrev pub call_told : AdminResult → Told
call_told told = record { events = told.events; answer = told.answer }

-- what is told of an operator's call is told of its line
abbrev pub line_of_call : PlainNode × AdminResult → PlainNode × Told
line_of_call (node, told) = (node, call_told told)

-- no call of these changes a role
abbrev pub KeepsRole : AdminCall → Type 0
KeepsRole admin.Seal = Unit {0}
KeepsRole admin.Trim = Unit {0}
KeepsRole admin.Stat = Unit {0}
KeepsRole admin.Show = Unit {0}
KeepsRole admin.Log = Unit {0}
KeepsRole other = ⊥

-- `seal N V`, `trim N V`, `stat N V`, `log N V` and `show N V` at the node N
abbrev pub admin_line : ℕ → ℕ → AdminCall → PlainNode → PlainNode × Told
admin_line n v asked node = line_of_call (called_at n v asked node)

-- a vBucket's role is this one
abbrev pub is_in_role : Role → Option Plain → Bool
is_in_role role None = false
is_in_role role (Some vb) = is_role vb.role role

-- what was cut off is told before the change of role
abbrev pub after_cuts : AdminResult → PlainWorld × List Event → Outcome
after_cuts told (w, cuts) = (w, record { events = cuts ++ told.events; answer = told.answer })

-- the world in which the producers at the node n, of links and of clients, are told which streams a change of role at its vBucket v ended
abbrev pub with_ended : ℕ → ℕ → List ℕ → PlainWorld → PlainWorld
with_ended n v ids w = with_links (with_node_if n (with_clients_ended v ids) w) (links_ended n v ids w.links)

-- the world after a change of role: the vBucket's own link, if it has one, is cut
abbrev pub turned : ℕ → ℕ → AdminResult → PlainWorld → Outcome
turned n v told w = after_cuts told (cut_off (own_link n v w.links) w)

-- a node after outcomes were posted to its clients, and what is told with that of its line
abbrev pub posts_added : ℕ → PlainWorld → Told → PlainNode × List Event → Outcome
posts_added n w told (node, lines) = (with_node_at w n node, record told { events = told.events ++ lines })

-- outcomes for the clients of a node, if it is made
abbrev pub posted_at : ℕ → List Resolved → PlainWorld → Told → Option PlainNode → Outcome
posted_at n resolved w told None = (w, told)
posted_at n resolved w told (Some node) = posts_added n w told (all_posted resolved node)

-- outcomes for the clients of the node n, behind what is told of the line
abbrev pub posted_in : ℕ → List Resolved → Outcome → Outcome
posted_in n resolved (w, told) = posted_at n resolved w told (w.nodes n)

-- a call that gave the vBucket another role ended streams, and told what became of durable writes; any other changes nothing of the world before
abbrev pub turned_if : ℕ → ℕ → PlainWorld → Option (List ℕ) → PlainWorld × AdminResult → Outcome
turned_if n v before None (w, told) = (before, call_told told)
turned_if n v before (Some ids) (w, told) = posted_in n told.resolved (turned n v told (with_ended n v ids w))

-- the same, by what the call tells
abbrev pub turned_after : ℕ → ℕ → PlainWorld → PlainWorld × AdminResult → Outcome
turned_after n v before (w, told) = turned_if n v before told.ended (w, told)

-- no such node is made
abbrev pub no_node : AdminResult
no_node = record { events = []; answer = answer.No cause.UnknownNode; ended = None; resolved = [] }

-- an operator's call that gives the vBucket v of the node n another role
abbrev pub role_outcome : ℕ → ℕ → AdminCall → PlainWorld → Outcome
role_outcome n v asked w = turned_after n v w (node_outcome w n no_node (w.nodes n) (role_called n v asked))

-- the causes to refuse that a vBucket takes this role, in their order
abbrev pub role_causes : Role → Option Plain → List (Bool × Cause)
role_causes role vb = (not (is_some vb), cause.UnknownVb) ∷ (is_in_role role vb, cause.WrongRole) ∷ []

-- `follow N V` and `dead N V`: the causes to refuse them, in their order
abbrev pub turn_causes : PlainWorld → ℕ → ℕ → Role → List (Bool × Cause)
turn_causes w n v role = (not (is_some (w.nodes n)), cause.UnknownNode) ∷ (is_off (w.nodes n), cause.NodeDown) ∷ role_causes role (vb_in (w.nodes n) v)

-- `promote N V U`: the causes to refuse it, in their order
abbrev pub promote_causes : PlainWorld → ℕ → ℕ → ℕ → List (Bool × Cause)
promote_causes w n v uuid = turn_causes w n v role.Active ++ uuid_causes w.uuids uuid

-- `promote N V U`: the vBucket becomes active on a new branch
abbrev pub promote_step : PlainWorld → ℕ → ℕ → ℕ → Outcome
promote_step w n v uuid = refused_or (first_cause (promote_causes w n v uuid)) w (role_outcome n v (admin.Promote uuid) w)

-- `follow N V` and `dead N V`: the vBucket takes another role
abbrev pub turn_step : PlainWorld → ℕ → ℕ → Role → AdminCall → Outcome
turn_step w n v role asked = refused_or (first_cause (turn_causes w n v role)) w (role_outcome n v asked w)
