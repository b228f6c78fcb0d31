-- the codes of the features so far, two bytes each
use Rattle.std.proofs.Common.{◌≡◌, ◌*◌, length, take}
use Rattle.std.specs.Int.{w16, to_be_bytes}
use Rattle.std.specs.List.{flat_map}
use Rattle.mcbp_kv.specs.Features.{feature_code}
use Rattle.mcbp_kv.proofs.feature.hello_value.Given as goal

abbrev pub invariant-loop-feature : goal.invariant-loop-feature
invariant-loop-feature l =
    (l.out.items ≡ flat_map (λ f. to_be_bytes w16 (feature_code f)) (take l.feature-index l.features))
    × (length l.out.items ≡ 2 * l.feature-index)
