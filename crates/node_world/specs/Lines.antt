-- lines by what they name: a node, or a link
use Rattle.std.specs.Prelude.{ℕ, ◌+◌, ◌==◌, Bool, true, false, List, [], ◌∷◌, Option, Some, None, is_some, if◌then◌else◌}
use Rattle.vb_events.specs.declared.event.Answer.{Answer}
use Rattle.vb_events.specs.declared.event.Answer.TheVariants as answer
use Rattle.vb_events.specs.declared.event.Cause.{Cause}
use Rattle.vb_events.specs.declared.event.Cause.TheVariants as cause
use Rattle.vb_events.specs.declared.event.Event.TheVariants as event
use Rattle.vb_events.specs.declared.event.EndReason.TheVariants as reason
use Rattle.vb_types.specs.declared.journal.FlushPart.TheVariants as part
use Rattle.vb_types.specs.declared.role.Role.{Role}
use Rattle.vbucket.specs.Rows.{row_at}
use Rattle.node_core.specs.declared.admin.AdminCall.{AdminCall}
use Rattle.node_core.specs.declared.admin.AdminCall.TheVariants as admin
use Rattle.node_core.specs.declared.out.NodeOut.{NodeOut}
use Rattle.script_text.specs.declared.verb.LinkVerb.{LinkVerb}
use Rattle.script_text.specs.declared.verb.LinkVerb.TheVariants as link_verb
use Rattle.node_world.specs.declared.script_node.NodeLine.{NodeLine}
use Rattle.node_world.specs.declared.script_node.NodeLine.TheVariants as node_line
use Rattle.node_world.specs.declared.told.Told.{Told}
use Rattle.node_world.specs.Links.{PlainLink, LinkResult, link_number, producer_node, consumer_node, up_at, pump_at, drop_at}
use Rattle.node_world.specs.Nodes.{PlainNode, done, refusal, refused_or, is_one_of, vb_made, vb_at, save_line, replica_at, client_at, bytes_at, hang_at, pull_at, clock_at, flush_line, chain_line, tick_line}
use Rattle.node_world.specs.Turns.{admin_line}
use Rattle.node_world.specs.World.{down_in, with_link}
use Rattle.node_world.specs.Worlds.{PlainWorld, Outcome, node_outcome}

-- what a node's call hands out is told of its line
abbrev pub out_told : NodeOut → Told
out_told out = record { events = out.events; answer = out.answer }

-- what was moved, by the answer of a node's call, unless a rollback could not be written down
abbrev pub answer_if : ℕ → Answer → Answer
answer_if n (answer.No cause.Disk) = answer.No cause.Disk
answer_if n other = answer.Number n

abbrev pub moved_if : ℕ → NodeOut → Told
moved_if n out = record { events = out.events; answer = answer_if n out.answer }

-- a call came to a vBucket, by its answer
abbrev pub was_there : Answer → Bool
was_there (answer.No cause.UnknownVb) = false
was_there other = true

-- how many vBuckets were made, where the last call was answered so: one whose first record could not be appended is there
abbrev pub counted : Answer → ℕ → ℕ
counted (answer.No cause.VbExists) made = made
counted other made = made + 1

-- a vBucket is made, unless there is one of that number, and unless that is refused for another cause
abbrev pub made_unless : Option Cause → ℕ → ℕ → Role → ℕ → PlainNode → PlainNode × Told
made_unless refused n v role uuid node =
    if is_some (node.vbs v) then (node, refusal cause.VbExists)
    else refused_or refused node (vb_made n v role uuid node)

-- a line for the node n; `uuids` are the branches that were made before
abbrev pub at_node : List ℕ → ℕ → NodeLine → PlainNode → PlainNode × Told
at_node uuids n (node_line.VbActive v uuid) = vb_at uuids n v uuid
at_node uuids n (node_line.VbReplica v) = replica_at n v
at_node uuids n (node_line.Chain v others) = chain_line n v others.now
at_node uuids n (node_line.Client c base) = client_at n base c
at_node uuids n (node_line.Bytes c bytes) = bytes_at c bytes.now
at_node uuids n (node_line.Hang c) = hang_at c
at_node uuids n (node_line.Pull c frames) = pull_at c frames
at_node uuids n (node_line.Clock nanos) = clock_at nanos
at_node uuids n (node_line.Seal v) = admin_line n v admin.Seal
at_node uuids n (node_line.Trim v) = admin_line n v admin.Trim
at_node uuids n (node_line.Take v) = flush_line n v part.Take
at_node uuids n (node_line.Save v) = save_line n v
at_node uuids n (node_line.Done v) = flush_line n v part.Done
at_node uuids n (node_line.Tick v) = tick_line n v
at_node uuids n (node_line.Stat v) = admin_line n v admin.Stat
at_node uuids n (node_line.Log v) = admin_line n v admin.Log
at_node uuids n (node_line.Show v) = admin_line n v admin.Show

-- a line for a link, which the node at one of its ends carries out
abbrev pub end_line : PlainWorld → ℕ → PlainLink → (PlainNode → PlainNode × LinkResult) → PlainWorld × LinkResult
end_line w n link f = node_outcome w n (Some link, refusal cause.UnknownNode) (w.nodes n) f

-- a line for an open link
abbrev pub at_link : LinkVerb → PlainWorld → PlainLink → PlainWorld × LinkResult
at_link (link_verb.Up wanted) w link = end_line w (producer_node link) link (up_at wanted link)
at_link (link_verb.Down wanted) w link = end_line w (consumer_node link) link (down_in wanted link)
at_link (link_verb.Pump frames) w link = end_line w (producer_node link) link (pump_at frames link)
at_link link_verb.Drop w link = end_line w (producer_node link) link (drop_at link)
at_link link_verb.Cut w link = (w, (None, done (event.Ended (link_number link) reason.Cut ∷ [])))

-- a line for the link of a number
abbrev pub link_line_if : LinkVerb → PlainWorld → Option PlainLink → Outcome
link_line_if asked w None = (w, refusal cause.LinkClosed)
link_line_if asked w (Some link) = with_link link (at_link asked w link)

-- a line for the link l, which must be open
abbrev pub link_line_at : LinkVerb → PlainWorld → ℕ → Outcome
link_line_at asked w l = link_line_if asked w (row_at link_number l w.links)

-- each of these calls changes a role, unless it is refused
abbrev pub ChangesRole : AdminCall → Type 0
ChangesRole (admin.Promote uuid) = Unit {0}
ChangesRole admin.Follow = Unit {0}
ChangesRole admin.Dead = Unit {0}
ChangesRole other = ⊥

-- the branch that a promotion asks the vBucket for: none where the id is 0 or was given before
abbrev pub free_uuid : List ℕ → ℕ → ℕ
free_uuid uuids uuid = if is_one_of uuid uuids then 0 else uuid

-- a vBucket refuses every id that is not free as one that was used; where the line's is 0, that is the cause
abbrev pub named_cause : ℕ → Answer → Answer
named_cause uuid (answer.No cause.UuidUsed) = answer.No (if uuid == 0 then cause.UuidZero else cause.UuidUsed)
named_cause uuid other = other

-- the same of an outcome
abbrev pub with_named_cause : ℕ → Outcome → Outcome
with_named_cause uuid (w, told) = (w, record { events = told.events; answer = named_cause uuid told.answer })
