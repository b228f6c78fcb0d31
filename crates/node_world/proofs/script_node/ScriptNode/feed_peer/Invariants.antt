use Rattle.node_world.proofs.Frames.{FramesSoFar}
use Rattle.node_world.proofs.script_node.ScriptNode.feed_peer.Given as goal

-- so many frames were answered
abbrev pub invariant-loop-frame : goal.invariant-loop-frame
invariant-loop-frame l = FramesSoFar l.frame-items l.key l.piece l.fn.self l.frame-index l.events l.bytes.items l.self
