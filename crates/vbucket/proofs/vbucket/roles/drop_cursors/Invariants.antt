use Rattle.std.proofs.Common.{drop}
use Rattle.vbucket.specs.Kept.{SameChanges}
use Rattle.vbucket.proofs.Dropping.{AreGone}
use Rattle.vbucket.proofs.vbucket.roles.drop_cursors.Given as goal

abbrev pub invariant-loop-stream : goal.invariant-loop-stream
invariant-loop-stream l = SameChanges l.fn.list l.list × AreGone l.fn.list.places l.kept l.list.places (drop l.stream-index l.streams)
