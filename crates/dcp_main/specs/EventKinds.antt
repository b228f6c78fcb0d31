-- the kinds of events, each of which a function reads on its own
use Rattle.std.specs.Prelude.{Bool, true, false}
use Rattle.vb_events.specs.declared.event.Event.{Event}
use Rattle.vb_events.specs.declared.event.Event.TheVariants as event

-- a branch of a vBucket, its role, a change that it made
abbrev pub is_of_branch : Event → Bool
is_of_branch (event.Branch node vb uuid parent fork high) = true
is_of_branch (event.Role node vb role) = true
is_of_branch (event.Changed node vb uuid change) = true
is_of_branch other = false

-- an event of a node: a frame for its client, a client closed, a device call that failed or stopped it
abbrev pub is_of_node : Event → Bool
is_of_node (event.Reply node client bytes) = true
is_of_node (event.Closed node client) = true
is_of_node (event.CallFailed node) = true
is_of_node (event.NodeStopped node) = true
is_of_node other = false

-- the answer to a stream request, and the end of a stream
abbrev pub is_of_request : Event → Bool
is_of_request (event.Asked stream node vb ask high log answer) = true
is_of_request (event.Finished stream reason) = true
is_of_request other = false

-- what a producer puts on a stream
abbrev pub is_of_frame : Event → Bool
is_of_frame (event.Marked stream start end flags) = true
is_of_frame (event.Item stream seq act key) = true
is_of_frame (event.Stated stream role) = true
is_of_frame other = false

-- an event of a consumer or its link
abbrev pub is_of_consumer : Event → Bool
is_of_consumer (event.Adopted node vb log) = true
is_of_consumer (event.Ranged node vb ss se) = true
is_of_consumer (event.Got node vb stream change) = true
is_of_consumer (event.Rolled node vb named to) = true
is_of_consumer (event.Ended link reason) = true
is_of_consumer other = false

-- an acknowledgement, written or counted
abbrev pub is_of_acknowledged : Event → Bool
is_of_acknowledged (event.Acknowledged stream node vb seq saved) = true
is_of_acknowledged (event.Counted stream node vb member seq) = true
is_of_acknowledged other = false

-- a batch to be written down, and the numbers of a vBucket
abbrev pub is_of_saving : Event → Bool
is_of_saving (event.Batch node vb ss se at count) = true
is_of_saving (event.Stat node vb windows items cursors saved high) = true
is_of_saving other = false

-- a line of what is shown
abbrev pub is_of_shown : Event → Bool
is_of_shown (event.Shown node vb role uuid at ss se docs preps) = true
is_of_shown (event.Logged node vb log) = true
is_of_shown (event.Document key doc) = true
is_of_shown (event.Prepared key seq level) = true
is_of_shown other = false
