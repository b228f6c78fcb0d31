-- what is accepted so far, with what is still asked, is what is accepted of all
use Rattle.std.proofs.Common.{◌≡◌, [], length}
use Rattle.std.specs.List.{fold}
use Rattle.mcbp_kv.specs.Features.{pairs, with_feature_code}
use Rattle.mcbp_kv.proofs.feature.accept.Given as goal

abbrev pub invariant-loop-rest : goal.invariant-loop-rest
invariant-loop-rest l = fold with_feature_code l.features (pairs l.rest) ≡ fold with_feature_code [] (pairs l.fn.asked)

abbrev pub decreases-loop-rest : goal.decreases-loop-rest
decreases-loop-rest l = length l.rest
