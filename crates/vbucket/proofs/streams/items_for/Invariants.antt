use Rattle.std.proofs.Common.{◌≡◌, take}
use Rattle.vbucket.specs.Kept.{sent_items}
use Rattle.vbucket.proofs.streams.items_for.Given as goal

abbrev pub invariant-loop-change : goal.invariant-loop-change
invariant-loop-change l = l.items ≡ sent_items l.stream (take l.change-index l.changes)
