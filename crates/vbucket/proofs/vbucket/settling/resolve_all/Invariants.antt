use Rattle.std.proofs.Common.{◌≡◌, take}
use Rattle.std.specs.List.{fold}
use Rattle.vbucket.specs.Settling.{waiting_behind}
use Rattle.vbucket.proofs.vbucket.settling.resolve_all.Given as goal

abbrev pub invariant-loop-change : goal.invariant-loop-change
invariant-loop-change l = l.durable ≡ record l.initial.durable { waiting = fold waiting_behind l.initial.durable.waiting (take l.change-index l.changes); spare = l.durable.spare }
