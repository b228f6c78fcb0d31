use Rattle.std.proofs.Common.{◌≡◌, ◌+◌, ◌≤◌, length}
use Rattle.script_text.specs.Scripts.{lines_behind}
use Rattle.script_text.proofs.script.Place.next.Given as goal

abbrev pub invariant-loop-alloc : goal.invariant-loop-alloc
invariant-loop-alloc l = record {
  left : lines_behind l.initial.self.line l.initial.self.rest.now ≡ lines_behind l.self.line l.self.rest.now;
  within : l.self.line + length l.self.rest.now ≤ l.initial.self.line + length l.initial.self.rest.now;
}

abbrev pub decreases-loop-alloc : goal.decreases-loop-alloc
decreases-loop-alloc l = length l.self.rest.now
