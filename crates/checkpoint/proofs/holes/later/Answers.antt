use Rattle.std.proofs.Common.{ℕ, leb, rules, ap, ◌∙◌}
use Rattle.std.specs.Prelude.{Option}
use Rattle.std.proofs.lemmas.List.{take_rest}
use Rattle.std.proofs.lemmas.List.Sorted.{IsPartitionPoint-from_clause, IsPartitionedBy-leb}
use Rattle.vb_types.specs.declared.change.Change.{Change}
use Rattle.checkpoint.specs.Runs.{changes_there}
use Rattle.checkpoint.proofs.Runs.{later_there, rising}
use Rattle.checkpoint.proofs.holes.later.Goals as goal

pub returns : goal.returns
returns c =
    let es = c.args.entries.now in
    let parted = IsPartitionedBy-leb (λ (e : ℕ × Option Change). e.0) es c.args.place (rising 0 es c.requires) in
    ap changes_there (take_rest es c.partition_point-at.result)
    ∙ later_there c.args.place c.partition_point-at.result 0 es c.requires (IsPartitionPoint-from_clause (λ (e : ℕ × Option Change). leb e.0 c.args.place) _ _ c.partition_point-at.ensures.partitioned parted (λ a r q k. search rules))
