use Rattle.std.proofs.Common.{◌∙◌}
use Rattle.storm_model.proofs.Lengths.{key_is}
use Rattle.storm_model.proofs.writes.key_of_bytes.Goals as goal

pub unreachable-requires : goal.unreachable-requires
unreachable-requires c = let none = c.in_default.is in let some = c.in_ok-key.ensures ∙ key_is c.args.bytes.now c.requires in absurd (cc (none, some))
