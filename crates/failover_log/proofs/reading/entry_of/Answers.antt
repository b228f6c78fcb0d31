-- the entry that is found is the first of those that pass
use Rattle.std.proofs.Common.{rules, tests, leb, ap, sym, ◌∙◌}
use Rattle.std.specs.Option.{option_map}
use Rattle.std.proofs.lemmas.Iterator.{YieldsList-from_slice}
use Rattle.std.proofs.lemmas.Iterator.Search.{find_from_yields_List}
use Rattle.branch_model.specs.Logs.{uuid_of}
use Rattle.failover_log.proofs.Newest.{newest}
use Rattle.failover_log.proofs.reading.entry_of.Goals as goal

pub returns-in-Some : goal.returns-in-Some
returns-in-Some c =
    ap (λ r. uuid_of (option_map (λ e. e.now) r)) (sym c.in-Some.is)
    ∙ ap uuid_of (find_from_yields_List (λ e. leb e.seq c.args.se) _ _ _ c.find.ensures.ran (YieldsList-from_slice c.args.entries.now cc) (λ x b q k. search (rules, tests))
    ∙ newest (λ e. leb e.seq c.args.se) c.args.entries.now)

pub returns-in-None : goal.returns-in-None
returns-in-None c =
    ap (λ r. uuid_of (option_map (λ e. e.now) r)) (sym c.in-None.is)
    ∙ ap uuid_of (find_from_yields_List (λ e. leb e.seq c.args.se) _ _ _ c.find.ensures.ran (YieldsList-from_slice c.args.entries.now cc) (λ x b q k. search (rules, tests))
    ∙ newest (λ e. leb e.seq c.args.se) c.args.entries.now)
