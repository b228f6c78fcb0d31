use Rattle.std.proofs.Common.{rules, ap, reverse, map, ◌∙◌, Bor}
use Rattle.std.specs.Prelude.{Ok}
use Rattle.std.specs.declared.alloc.AllocError.{AllocError}
use Rattle.std.proofs.lemmas.Iterator.{items_from_collect, YieldsList-from_map}
use Rattle.std.proofs.lemmas.Iterator.Consumers.{YieldsList-at, YieldsList-from_first}
use Rattle.vb_types.specs.declared.journal.Batch.{Batch}
use Rattle.journal_points.specs.declared.standing.Standing.{Standing}
use Rattle.branch_model.specs.Journals as journal
use Rattle.journal_points.specs.Limits.{standing_within}
use Rattle.journal_points.proofs.Walks.{everything}
use Rattle.journal_points.proofs.ends.points.Goals as goal

pub returns : goal.returns
returns c =
    let found = items_from_collect {E = AllocError} (Ok c.in_ok-positions.positions) c.in_ok-positions.ensures.ran (YieldsList-from_map _ (λ (b : Batch). b.position) (YieldsList-at c.map.ensures.source (YieldsList-from_first (λ (y : Bor Batch). y.now) (λ (s : Standing). standing_within s.least (reverse s.records.now)) _ c.new.ensures)) c.map.ensures.closure (λ x r q k. search rules)) in
    c.from_vec.ensures ∙ c.reverse.ensures.items ∙ ap reverse (found ∙ ap (map (λ (b : Batch). b.position)) (everything (journal.batches (reverse c.args.records.now))))
