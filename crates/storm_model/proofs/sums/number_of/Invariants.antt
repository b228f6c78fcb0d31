use Rattle.std.proofs.Common.{◌≡◌, fold, take}
use Rattle.storm_model.proofs.Numbers.{with_digit}
use Rattle.storm_model.proofs.sums.number_of.Given as goal

abbrev pub invariant-loop-digit : goal.invariant-loop-digit
invariant-loop-digit l = l.number ≡ fold with_digit 0 (take l.digit-index l.digits)
