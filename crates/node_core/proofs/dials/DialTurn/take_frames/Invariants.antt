use Rattle.std.proofs.Common.{◌≡◌, take}
use Rattle.vb_calls.specs.Jobs.{RanJob}
use Rattle.node_core.specs.Dials.{frames_taken}
use Rattle.node_core.proofs.dials.DialTurn.take_frames.Given as goal

abbrev pub invariant-loop-frame : goal.invariant-loop-frame
invariant-loop-frame g l =
    RanJob g.A.VbAccess.step g.J.Journals.asks (frames_taken (take l.frame-index l.frames) l.initial.self) l.initial.vbs l.initial.disks l.self l.vbs l.disks
    × (l.self.dial.consumer.dialed ≡ l.initial.self.dial.consumer.dialed)
