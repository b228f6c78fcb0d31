use Rattle.std.proofs.Common.{◌∙◌}
use Rattle.storm_model.proofs.Lengths.{value_is}
use Rattle.storm_model.proofs.writes.value_of_bytes.Goals as goal

pub unreachable-requires : goal.unreachable-requires
unreachable-requires c = let none = c.in_default.is in let some = c.in_ok-value.ensures ∙ value_is c.args.bytes.now c.requires in absurd (cc (none, some))
