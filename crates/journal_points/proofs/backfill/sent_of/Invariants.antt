use Rattle.std.proofs.Common.{◌≡◌, map, take}
use Rattle.std.specs.Prelude.{◌&&◌, nat_lt}
use Rattle.std.specs.List.{filter}
use Rattle.vb_types.specs.Histories.{plain}
use Rattle.branch_model.specs.Snapshots.{is_slot_last}
use Rattle.journal_points.proofs.backfill.sent_of.Given as goal

abbrev pub invariant-loop-change : goal.invariant-loop-change
invariant-loop-change l =
    l.sent ≡ map plain (filter (λ c. nat_lt l.start c.seq && is_slot_last (map (λ x. x.now) l.changes) c) (map (λ x. x.now) (take l.change-index l.changes)))
