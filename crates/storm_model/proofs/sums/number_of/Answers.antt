use Rattle.std.proofs.Common.{fold, ap, ◌∙◌}
use Rattle.std.proofs.lemmas.List.{take_all}
use Rattle.storm_model.proofs.Numbers.{with_digit, digits_wrapped}
use Rattle.storm_model.proofs.sums.number_of.Goals as goal

pub returns : goal.returns
returns c = c.loop-digit.invariant ∙ ap (fold with_digit 0) (take_all c.loop-digit.digit-index c.args.digits.now c.loop-digit-test.false) ∙ digits_wrapped c.args.digits.now
