use Rattle.std.proofs.Common.{◌≡◌, ◌≤◌, length}
use Rattle.dcp_io.specs.Moves.{Drew}
use Rattle.dcp_io.specs.declared.input.TheConstants.{MAX_INPUT}
use Rattle.dcp_io.proofs.input.read_all.Given as goal

abbrev pub invariant-loop-turn : goal.invariant-loop-turn
invariant-loop-turn g l = Drew (g.I.Source.intake l.initial.input) (g.I.Source.intake l.input) l.bytes.items l.turn
    × ((g.I.Source.intake l.input).faults ≡ (g.I.Source.intake l.initial.input).faults)
    × (l.turn ≤ length l.bytes.items) × (length l.bytes.items ≤ MAX_INPUT)
