-- the changes so far are appended
use Rattle.std.proofs.Common.{◌≡◌, ◌++◌, take}
use Rattle.std.specs.List.{flat_map, All}
use Rattle.vb_journal.specs.Payloads.{item_bytes}
use Rattle.vb_journal.specs.Fitting.{ItemFits}
use Rattle.vb_journal.proofs.payload.writer.put_items.Given as goal

abbrev pub invariant-loop-item : goal.invariant-loop-item
invariant-loop-item l = (l.out.items ≡ l.initial.out.items ++ flat_map item_bytes (take l.item-index l.items)) × All ItemFits (take l.item-index l.items)
