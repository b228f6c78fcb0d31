use Rattle.std.proofs.Common.{◌≡◌, ◌≤◌, length, map, take}
use Rattle.std.specs.Prelude.{filter}
use Rattle.disk_journals.specs.Opening.{book_of}
use Rattle.node_core.specs.Loading.{is_there}
use Rattle.node_core.proofs.node.loading.count_made.Given as goal

abbrev pub invariant-loop-at : goal.invariant-loop-at
invariant-loop-at g l = record {
  made : l.made ≡ length (filter is_there (map book_of (take l.at l.opened.items)));
  few : l.made ≤ l.at;
}
