use Rattle.std.proofs.Common.{◌≡◌, map, take}
use Rattle.disk_journals.specs.Opening.{book_of}
use Rattle.vbucket.specs.Stands.{SlotsStand}
use Rattle.node_core.specs.Loading.{active_ones, loaded_states}
use Rattle.node_core.proofs.node.loading.load_vbs.Given as goal

abbrev pub invariant-loop-at : goal.invariant-loop-at
invariant-loop-at g l = record {
  stand : SlotsStand l.vbs (loaded_states l.node (map book_of (take l.at l.opened.items)));
  active : l.active.items ≡ active_ones (map book_of (take l.at l.opened.items));
}
