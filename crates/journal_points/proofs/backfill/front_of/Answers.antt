use Rattle.std.proofs.Common.{rules, tests, leb, Bor}
use Rattle.std.proofs.lemmas.Iterator.{YieldsList-from_slice, items_from_collect}
use Rattle.std.proofs.lemmas.Iterator.Consumers.{YieldsList-at, YieldsList-from_copied, YieldsList-from_filter}
use Rattle.vb_types.specs.declared.change.Change.{Change}
use Rattle.journal_points.proofs.Walks.{filtered_refs}
use Rattle.journal_points.proofs.backfill.front_of.Goals as goal

pub returns : goal.returns
returns c =
    filtered_refs (λ x. leb x.seq c.args.upto) c.args.changes.now _
    (items_from_collect _ c.collect.ensures.ran
    (YieldsList-from_filter _ (λ (x : Bor Change). leb x.now.seq c.args.upto) (YieldsList-at c.filter.ensures.source (YieldsList-from_copied (YieldsList-at c.copied.ensures.source (YieldsList-from_slice c.args.changes.now c.iter.ensures.rest)))) c.filter.ensures.closure (λ x r q k. search (rules, tests))))
