use Rattle.std.proofs.Common.{rules, ap, reverse, map, ◌≡◌, ◌∙◌, Bor}
use Rattle.std.specs.Prelude.{Ok}
use Rattle.std.specs.declared.alloc.AllocError.{AllocError}
use Rattle.std.proofs.lemmas.Iterator.{YieldsList-from_slice}
use Rattle.std.proofs.lemmas.Iterator.Consumers.{YieldsList-at, YieldsList-from_first, map_from_collect}
use Rattle.std.proofs.lemmas.Iterator.Adapters.{YieldsList-from_rev_slice, YieldsList-from_flat_map}
use Rattle.vb_types.specs.declared.change.Change.{Change}
use Rattle.vb_types.specs.declared.journal.Batch.{Batch}
use Rattle.journal_points.specs.declared.standing.Standing.{Standing}
use Rattle.journal_points.specs.Limits.{standing_within}
use Rattle.journal_points.proofs.Walks.{items_of_refs, yields_as}
use Rattle.journal_points.proofs.standing.changes_within.Goals as goal

pub returns : goal.returns
returns c =
    let records = c.args.records.now in
    let all = standing_within c.args.limit (reverse records) in
    let found : map (λ (b : Bor Batch). b.now) c.in_ok-batches.batches.items ≡ all =
    map_from_collect {E = AllocError} (Ok c.in_ok-batches.batches) c.in_ok-batches.ensures.ran (YieldsList-from_first (λ (y : Bor Batch). y.now) (λ (s : Standing). standing_within s.least (reverse s.records.now)) {s = c.new.result} all c.new.ensures) in
    let back = YieldsList-from_rev_slice {s = c.rev.result} c.in_ok-batches.batches.items (ap (λ x. x.rest.now) c.rev.ensures.source ∙ c.iter.ensures.rest ∙ c.deref.ensures.value) in
    map_from_collect _ c.collect-2.ensures.ran
    (yields_as (items_of_refs c.in_ok-batches.batches.items all found)
    (YieldsList-from_flat_map _ _ _ (λ (x : Bor Change). x.now) (λ (b : Bor Batch). b.now.items) _ (λ x u q k. (search rules, λ j b. YieldsList-from_slice _ (search rules)))
    (YieldsList-at c.flat_map.ensures.source back) c.flat_map.ensures.closure c.flat_map.ensures.front c.flat_map.ensures.back c.flat_map.ensures.done))
