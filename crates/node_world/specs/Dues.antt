-- what a replica acknowledges once more of it is written down
use Rattle.std.specs.Prelude.{ℕ, Bool, true, false, if◌then◌else◌, ◌++◌, Option, Some, None}
use Rattle.vb_events.specs.declared.event.Answer.{Answer}
use Rattle.vb_events.specs.declared.event.Answer.TheVariants as answer
use Rattle.vb_types.specs.declared.journal.FlushPart.TheVariants as part
use Rattle.vb_calls.specs.Programs.{after}
use Rattle.vb_calls.specs.States.{States}
use Rattle.vbucket.specs.Rows.{row_put}
use Rattle.node_core.specs.Dials.{DialResult, dial_due}
use Rattle.node_world.specs.declared.told.Told.{Told}
use Rattle.node_world.specs.Cuts.{own_link}
use Rattle.node_world.specs.Links.{PlainLink, link_number, dial_of}
use Rattle.node_world.specs.Nodes.{PlainNode, flush_line, with_states}
use Rattle.node_world.specs.Worlds.{PlainWorld, Outcome, on_node, with_links, with_node_at}

-- the link after its consumer acknowledged, or had nothing to
abbrev pub with_due : PlainLink → DialResult → PlainLink
with_due link told = record link { consumer = told.dial.consumer; down_heard = told.dial.heard; up = link.up ++ told.out }

-- the world after the consumer of a link, at the node n, was asked what is due, which made this of the vBuckets; and behind what is told of the line, what it acknowledged
abbrev pub with_acknowledged : ℕ → PlainLink → PlainNode → PlainWorld → Told → States × DialResult → Outcome
with_acknowledged n link node w told (states, came) = (
  with_links (with_node_at w n (with_states node states)) (row_put link_number (link_number link) (with_due link came) w.links),
  record told { events = told.events ++ came.events },
)

-- what is due at the node n of a link's consumer, if it is made
abbrev pub due_at : ℕ → PlainLink → PlainWorld → Told → Option PlainNode → Outcome
due_at n link w told None = (w, told)
due_at n link w told (Some node) = with_acknowledged n link node w told (after (dial_due (dial_of link)) node.vbs)

-- what is due of the link that feeds a vBucket of the node n, if there is one
abbrev pub due_of : ℕ → PlainWorld → Told → Option PlainLink → Outcome
due_of n w told None = (w, told)
due_of n w told (Some link) = due_at n link w told (w.nodes n)

-- a batch is done, by the answer
abbrev pub is_counted : Answer → Bool
is_counted (answer.Number saved) = true
is_counted other = false

-- once a batch of the vBucket v of the node n is done, the link that feeds it acknowledges what is due
abbrev pub due_in : ℕ → ℕ → Outcome → Outcome
due_in n v (w, told) = if is_counted told.answer then due_of n w told (own_link n v w.links) else (w, told)

-- `done N V`
abbrev pub done_step : PlainWorld → ℕ → ℕ → Outcome
done_step w n v = due_in n v (on_node w n (flush_line n v part.Done))
