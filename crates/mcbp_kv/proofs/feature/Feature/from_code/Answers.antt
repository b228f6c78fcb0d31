-- the numbers of all features, one after the other
use Rattle.std.proofs.Common.{rules, tests, [], ◌∷◌, ◌∙◌}
use Rattle.std.specs.Prelude.{◌==◌}
use Rattle.std.proofs.lemmas.Iterator.{YieldsList-from_slice}
use Rattle.std.proofs.lemmas.Iterator.Search.{find_from_yields_List}
use Rattle.mcbp_kv.specs.Features.{feature_code}
use Rattle.mcbp_kv.specs.declared.feature.Feature.TheVariants.{MutationSeqnos, Json, AltRequests, SyncReplication}
use Rattle.mcbp_kv.proofs.feature.Feature.from_code.Goals as goal

pub returns : goal.returns
returns c =
    c.copied.ensures
    ∙ find_from_yields_List (λ f. c.args.code == feature_code f) _ _ _ c.find.ensures.ran
    (YieldsList-from_slice (MutationSeqnos ∷ Json ∷ AltRequests ∷ SyncReplication ∷ []) cc) (λ x b q k. search (rules, tests))
