use Rattle.std.proofs.Common.{◌≡◌, fold, take}
use Rattle.storm_model.specs.Sums.{number_of}
use Rattle.storm_model.proofs.Numbers.{with_value}
use Rattle.storm_model.proofs.sums.summed.Given as goal

abbrev pub invariant-loop-key : goal.invariant-loop-key
invariant-loop-key l = l.sum ≡ fold (with_value (λ d. number_of d.1.now.value)) 0 (take l.key-index l.key-items)
