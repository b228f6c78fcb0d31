-- the changes so far, with what the rest is as the changes still to come, are what the bytes are as all changes
use Rattle.std.proofs.Common.{◌≡◌, ◌-◌, ◌++◌}
use Rattle.vb_journal.specs.Payloads.{front_map, items_in}
use Rattle.vb_journal.proofs.payload.reader.take_items.Given as goal

abbrev pub invariant-loop : goal.invariant-loop
invariant-loop l = front_map (λ items. l.items.items ++ items) (items_in (l.count - l.counter) l.rest) ≡ items_in l.count l.initial.rest
