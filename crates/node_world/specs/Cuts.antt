-- links that end, and the streams that end with them
use Rattle.std.specs.Prelude.{ℕ, ◌==◌, if◌then◌else◌, List, [], ◌∷◌, map, Option, Some, None}
use Rattle.std.specs.List.{find}
use Rattle.vb_events.specs.declared.event.Event.{Event}
use Rattle.vb_events.specs.declared.event.Event.TheVariants as event
use Rattle.vb_events.specs.declared.event.EndReason.TheVariants as reason
use Rattle.vb_calls.specs.Programs.{after}
use Rattle.vbucket.specs.Rows.{row_out}
use Rattle.dcp_producer.specs.Ending.{ended_by, end_closed}
use Rattle.node_world.specs.Links.{PlainLink}
use Rattle.node_world.specs.Nodes.{PlainNode, with_states}
use Rattle.node_world.specs.Links.{link_number, producer_node, feeds}
use Rattle.node_world.specs.Worlds.{PlainWorld, with_links, with_node_if}

-- the producer's node after a link ended: the link's streams are closed at their vBuckets
abbrev pub closed_at : PlainLink → PlainNode → PlainNode
closed_at link node = with_states node (after (end_closed link.server) node.vbs).0

-- the world after a link ended, which is still there: its streams are closed
abbrev pub closed_in : PlainLink → PlainWorld → PlainWorld
closed_in link w = with_node_if (producer_node link) (closed_at link) w

-- the world without a link, whose streams are closed at its producer
abbrev pub unlinked : PlainLink → PlainWorld → PlainWorld
unlinked link w = with_links (closed_in link w) (row_out link_number (link_number link) w.links)

-- the open link that feeds the vBucket v of the node n, if there is one
abbrev pub own_link : ℕ → ℕ → List PlainLink → Option PlainLink
own_link n v links = find (feeds n v) links

-- the world without the link that fed a vBucket, if there was one, and the line that tells of its end
abbrev pub cut_off : Option PlainLink → PlainWorld → PlainWorld × List Event
cut_off None w = (w, [])
cut_off (Some link) w = (unlinked link w, event.Ended (link_number link) reason.Cut ∷ [])

-- a link whose producer is at the node n, where a change of role at its vBucket v ended the streams of these numbers
abbrev pub link_ended : ℕ → ℕ → List ℕ → PlainLink → PlainLink
link_ended n v ids link = if producer_node link == n then record link { server = ended_by v ids link.server } else link

-- the links after a change of role at the vBucket v of the node n, which ended the streams of these numbers
abbrev pub links_ended : ℕ → ℕ → List ℕ → List PlainLink → List PlainLink
links_ended n v ids links = map (link_ended n v ids) links
