-- the plain world: nodes, and the links between them, and what each line of a script makes of it
use Rattle.std.specs.Prelude.{ℕ, ◌&&◌, ◌||◌, Bool, not, List, [], ◌∷◌, ◌++◌, Option, Some, None, is_some, option_and_then}
use Rattle.std.specs.List.{flat_map}
use Rattle.script_text.specs.declared.verb.Verb.{Verb}
use Rattle.script_text.specs.declared.verb.Verb.TheVariants as verb
use Rattle.script_text.specs.declared.verb.VbVerb.{VbVerb}
use Rattle.script_text.specs.declared.verb.VbVerb.TheVariants as vb_verb
use Rattle.script_text.specs.declared.verb.NodeVerb.{NodeVerb}
use Rattle.script_text.specs.declared.verb.NodeVerb.TheVariants as node_verb
use Rattle.script_text.specs.declared.verb.LinkVerb.{LinkVerb}
use Rattle.script_text.specs.declared.verb.LinkVerb.TheVariants as link_verb
use Rattle.script_text.specs.declared.verb.ClientVerb.{ClientVerb}
use Rattle.script_text.specs.declared.verb.ClientVerb.TheVariants as client_verb
use Rattle.script_text.specs.declared.verb.ScriptLine.{ScriptLine}
use Rattle.vb_events.specs.declared.event.Cause.{Cause}
use Rattle.vb_events.specs.declared.event.Cause.TheVariants as cause
use Rattle.vb_events.specs.declared.event.Event.{Event}
use Rattle.vb_events.specs.declared.event.Event.TheVariants as event
use Rattle.vb_events.specs.declared.event.EndReason.TheVariants as reason
use Rattle.vb_types.specs.declared.journal.FlushPart.TheVariants as part
use Rattle.vb_types.specs.declared.role.Role.TheVariants as role
use Rattle.vb_events.specs.declared.event.Group.{Group}
use Rattle.vb_types.specs.declared.stream.StreamAsk.{StreamAsk}
use Rattle.node_core.specs.declared.admin.AdminCall.TheVariants as admin
use Rattle.vbucket.specs.Rows.{row_at, row_put}
use Rattle.node_world.specs.declared.told.Told.{Told}
pub use Rattle.node_world.specs.Nodes.{PlainNode, empty_node, done, refusal, first_cause, refused_or, is_one_of, vb_causes, with_vb, vb_at, replica_causes, replica_at, with_conn, with_client, client_at, with_states, fed, bytes_if, bytes_at, hang_at, pull_at, clock_at, flush_line, save_line, chain_line, tick_line}
use Rattle.node_world.specs.Nodes.{arm_at}
use Rattle.node_world.specs.Arms.{fail_arm, stop_arm, under_arm}
use Rattle.node_world.specs.Power.{crash_step, start_step, with_arm, with_broken}
pub use Rattle.node_world.specs.Worlds.{PlainWorld, empty_world, with_node_at, with_links, Outcome, node_outcome, on_made, on_node, is_off, shelf_in, vb_in}
use Rattle.node_world.specs.Cuts.{unlinked}
use Rattle.node_world.specs.Dues.{done_step}
use Rattle.node_world.specs.Pumps.{gives_at}
use Rattle.node_world.specs.Turns.{promote_step, turn_step, admin_line}
pub use Rattle.node_world.specs.Links.{base_of}
use Rattle.node_world.specs.Links.{PlainLink, LinkResult, link_number, producer_node, consumer_node, is_taken, ask_of, new_link, up_at, down_at, pump_at, drop_at}

-- `node N`: the causes to refuse it, in their order
abbrev pub node_causes : PlainWorld → ℕ → List (Bool × Cause)
node_causes w n = (is_some (w.nodes n), cause.NodeExists) ∷ []

-- `node N`: an empty node is made
abbrev pub node_step : PlainWorld → ℕ → Outcome
node_step w n = refused_or (first_cause (node_causes w n)) w (with_node_at w n empty_node, done [])

-- `vb N V active U`: an active vBucket is made
abbrev pub vb_step : PlainWorld → ℕ → ℕ → ℕ → Outcome
vb_step w n v uuid = with_arm n w (on_node w n (vb_at w.uuids n v uuid))

-- what the vBucket v of the node n asks for, where there is one that follows others
abbrev pub ask_in : PlainWorld → ℕ → ℕ → Option StreamAsk
ask_in w n v = option_and_then ask_of (vb_in (w.nodes n) v)

-- `link L M N V BUF follow` and `link L M N V BUF takeover`: the causes to refuse it, in their order
abbrev pub link_causes : PlainWorld → ℕ → ℕ → ℕ → ℕ → List (Bool × Cause)
link_causes w l m n v =
    (not (is_some (w.nodes m) && is_some (w.nodes n)), cause.UnknownNode) ∷ (is_off (w.nodes m) || is_off (w.nodes n), cause.NodeDown) ∷ (not (is_some (vb_in (w.nodes n) v)), cause.UnknownVb)
    ∷ (not (is_some (ask_in w n v)), cause.WrongRole) ∷ (is_taken w.links l n v, cause.LinkOpen) ∷ []

-- the links with one more, by what its consumer's vBucket asks for; the third cause is that it asks for nothing
abbrev pub with_dialed : ℕ → ℕ → ℕ → ℕ → ℕ → ℕ → Bool → List PlainLink → Option StreamAsk → List PlainLink
with_dialed line l m n v buffer takeover links None = links
with_dialed line l m n v buffer takeover links (Some ask) = links ++ new_link line l m n v buffer takeover ask ∷ []

-- `link L M N V BUF follow` and `link L M N V BUF takeover`: the consumer of the node N's vBucket V dials the node M, to follow its vBucket or to take it over, and asks for a window of BUF bytes there
abbrev pub link_step : PlainWorld → ℕ → ℕ → ℕ → ℕ → ℕ → ℕ → Bool → Outcome
link_step w line l m n v buffer takeover =
    refused_or (first_cause (link_causes w l m n v)) w (with_links w (with_dialed line l m n v buffer takeover w.links (ask_in w n v)), done [])

-- the world after a line for a link: it goes on as it is then, or it is over, and its streams are closed
abbrev pub relinked : PlainLink → Option PlainLink → PlainWorld → PlainWorld
relinked before None w = unlinked before w
relinked before (Some link) w = with_links w (row_put link_number (link_number before) link w.links)

-- the world after a line for a link, and what is told of the line
abbrev pub with_link : PlainLink → PlainWorld × LinkResult → Outcome
with_link before (w, (link, told)) = (relinked before link w, told)

-- a line that the node n carries out for a link: f says, and the nodes of a link are made
abbrev pub at_end : PlainWorld → ℕ → PlainLink → (PlainNode → PlainNode × LinkResult) → Outcome
at_end w n link f = with_link link (node_outcome w n (Some link, refusal cause.UnknownNode) (w.nodes n) f)

-- a line for the link l, which must be open
abbrev pub link_outcome : PlainWorld → ℕ → (PlainLink → ℕ) → (PlainLink → PlainNode → PlainNode × LinkResult) → Option PlainLink → Outcome
link_outcome w l end f None = (w, refusal cause.LinkClosed)
link_outcome w l end f (Some link) = at_end w (end link) link (f link)

-- a line for the link l, which the node at one of its ends carries out
abbrev pub on_link : PlainWorld → ℕ → (PlainLink → ℕ) → (PlainLink → PlainNode → PlainNode × LinkResult) → Outcome
on_link w l end f = link_outcome w l end f (row_at link_number l w.links)

-- bytes for the consumer of a link, whose vBucket may have to write down that it goes back
abbrev pub down_in : ℕ → PlainLink → PlainNode → PlainNode × LinkResult
down_in wanted link node = under_arm link.consumer.dialed.vb (down_at wanted link) node

-- `down L B`: what the node at the consumer's end is armed with may befall it
abbrev pub down_outcome : PlainWorld → ℕ → Option PlainLink → Outcome → Outcome
down_outcome w l None came = came
down_outcome w l (Some link) came = with_broken (consumer_node link) l w came

abbrev pub down_step : PlainWorld → ℕ → ℕ → Outcome
down_step w l wanted = down_outcome w l (row_at link_number l w.links) (on_link w l consumer_node (down_in wanted))

-- what is told of a line, behind what was told before its own work
abbrev pub told_behind : List Event → Outcome → Outcome
told_behind before (w, told) = (w, record told { events = before ++ told.events })

-- frames of the link l are put once vBuckets were given up, and told behind that
abbrev pub put_behind : ℕ → ℕ → Outcome → Outcome
put_behind l frames (w, gave) = told_behind gave.events (on_link w l producer_node (pump_at frames))

-- `pump L K`: of the link, which must be open, the producer's node gives up vBuckets whose time came, and then frames are put
abbrev pub pump_outcome : PlainWorld → ℕ → ℕ → Option PlainLink → Outcome
pump_outcome w l frames None = (w, refusal cause.LinkClosed)
pump_outcome w l frames (Some link) = put_behind l frames (gives_at frames link w (w.nodes (producer_node link)))

-- `pump L K`
abbrev pub pump_step : PlainWorld → ℕ → ℕ → Outcome
pump_step w l frames = pump_outcome w l frames (row_at link_number l w.links)

-- `cut L`: the link, which must be open, is cut
abbrev pub cut_outcome : PlainWorld → Option PlainLink → Outcome
cut_outcome w None = (w, refusal cause.LinkClosed)
cut_outcome w (Some link) = (unlinked link w, done (event.Ended (link_number link) reason.Cut ∷ []))

-- `cut L`
abbrev pub cut_step : PlainWorld → ℕ → Outcome
cut_step w l = cut_outcome w (row_at link_number l w.links)

-- a line for the node n
abbrev pub node_verb_step : PlainWorld → ℕ → NodeVerb → Outcome
node_verb_step w n (node_verb.Clock nanos) = on_node w n (clock_at nanos)
node_verb_step w n (node_verb.Stop call out) = on_made w n (arm_at (stop_arm call out))
node_verb_step w n (node_verb.Fail call) = on_made w n (arm_at (fail_arm call))
node_verb_step w n (node_verb.Crash out) = crash_step w n out
node_verb_step w n (node_verb.Start uuids) = start_step w n uuids

-- a line for the vBucket v of the node n
abbrev pub vb_verb_step : PlainWorld → ℕ → ℕ → VbVerb → Outcome
vb_verb_step w n v (vb_verb.MakeActive uuid) = vb_step w n v uuid
vb_verb_step w n v vb_verb.MakeReplica = with_arm n w (on_node w n (replica_at n v))
vb_verb_step w n v (vb_verb.Chain others) = on_node w n (chain_line n v others)
vb_verb_step w n v (vb_verb.Promote uuid) = with_arm n w (promote_step w n v uuid)
vb_verb_step w n v vb_verb.Follow = with_arm n w (turn_step w n v role.Replica admin.Follow)
vb_verb_step w n v vb_verb.Dead = with_arm n w (turn_step w n v role.Dead admin.Dead)
vb_verb_step w n v vb_verb.Tick = on_node w n (tick_line n v)
vb_verb_step w n v vb_verb.Seal = on_node w n (admin_line n v admin.Seal)
vb_verb_step w n v vb_verb.Trim = on_node w n (admin_line n v admin.Trim)
vb_verb_step w n v vb_verb.Take = on_node w n (flush_line n v part.Take)
vb_verb_step w n v vb_verb.Save = with_arm n w (on_node w n (save_line n v))
vb_verb_step w n v vb_verb.Done = done_step w n v
vb_verb_step w n v vb_verb.Stat = on_node w n (admin_line n v admin.Stat)
vb_verb_step w n v vb_verb.Log = on_node w n (admin_line n v admin.Log)
vb_verb_step w n v vb_verb.Show = on_node w n (admin_line n v admin.Show)

-- what the line of this number makes of a node, for the connection of the client c
abbrev pub client_verb_at : ℕ → ℕ → ℕ → ClientVerb → PlainNode → PlainNode × Told
client_verb_at n line c client_verb.Open = client_at n (base_of line) c
client_verb_at n line c (client_verb.Bytes bytes) = bytes_at c bytes
client_verb_at n line c client_verb.Hang = hang_at c
client_verb_at n line c (client_verb.Pull frames) = pull_at c frames

-- a line for the link l
abbrev pub link_verb_step : PlainWorld → ℕ → LinkVerb → Outcome
link_verb_step w l (link_verb.Up wanted) = on_link w l producer_node (up_at wanted)
link_verb_step w l (link_verb.Down wanted) = down_step w l wanted
link_verb_step w l (link_verb.Pump frames) = pump_step w l frames
link_verb_step w l link_verb.Drop = on_link w l producer_node drop_at
link_verb_step w l link_verb.Cut = cut_step w l

-- the world after the line of this number, by what its verb names
abbrev pub verb_step : PlainWorld → ℕ → Verb → Outcome
verb_step w line (verb.Node n) = node_step w n
verb_step w line (verb.Link l m n v buffer takeover) = link_step w line l m n v buffer takeover
verb_step w line (verb.AtNode n what) = node_verb_step w n what
verb_step w line (verb.AtVb n v what) = vb_verb_step w n v what
verb_step w line (verb.AtClient n c what) = on_node w n (client_verb_at n line c what)
verb_step w line (verb.AtLink l what) = link_verb_step w l what

-- the group of a line of which this is told
abbrev pub group_with : ℕ → Told → Group
group_with line told = record { line = line; events = told.events; answer = told.answer }

-- the branch that a line of a transcript tells of, if it tells of one
abbrev pub branch_of_line : Event → List ℕ
branch_of_line (event.Branch node vb uuid parent fork high) = uuid ∷ []
branch_of_line other = []

-- the world with the branches that these lines tell of among those that were made
abbrev pub with_branches : List Event → PlainWorld → PlainWorld
with_branches events w = record w { uuids = w.uuids ++ flat_map branch_of_line events }

-- the world and the group after a line of which this is told
abbrev pub line_outcome : ℕ → Outcome → PlainWorld × Group
line_outcome line (w, told) = (with_branches told.events w, group_with line told)

-- the world after a line, and the line's group
unfoldable pub world_step : PlainWorld → ScriptLine → PlainWorld × Group
world_step w line = line_outcome line.line (verb_step w line.line line.verb)

-- the groups of the lines that come next
abbrev pub groups_from : PlainWorld → List ScriptLine → List Group
groups_from w [] = []
groups_from w (line ∷ lines) = (world_step w line).1 ∷ groups_from (world_step w line).0 lines

-- the groups of a script
abbrev pub groups : List ScriptLine → List Group
groups script = groups_from empty_world script
