use Rattle.std.proofs.Common.{◌≡◌, take}
use Rattle.std.specs.Prelude.{◌-◌, ◌^◌, min}
use Rattle.dcp_consumer.specs.Counting.{counted_bytes}
use Rattle.dcp_consumer.proofs.counting.counted_bytes.Given as goal

abbrev pub invariant-loop-frame : goal.invariant-loop-frame
invariant-loop-frame l = l.bytes ≡ min (counted_bytes (take l.frame-index l.frames)) (2 ^ 32 - 1)
