use Rattle.std.proofs.Common.{◌≡◌, ◌≤◌, length}
use Rattle.checkpoint.specs.Runs.{AreEntries, changes_there}
use Rattle.checkpoint.proofs.holes.drop_holes_behind.Given as goal

abbrev pub invariant-loop-entries : goal.invariant-loop-entries
invariant-loop-entries l = record {
  there : changes_there l.entries.items ≡ changes_there l.initial.entries.items;
  entries : AreEntries 0 l.entries.items;
  fewer : length l.entries.items ≤ length l.initial.entries.items;
}

abbrev pub decreases-loop-entries : goal.decreases-loop-entries
decreases-loop-entries l = length l.entries.items
