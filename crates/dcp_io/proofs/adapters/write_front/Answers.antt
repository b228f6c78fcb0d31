use Rattle.std.proofs.Common.{arith, ap, length, length-drop}
use Rattle.std.proofs.KnownBytes.{Appends-trans}
use Rattle.std.proofs.Math.Seq.{take-add}
use Rattle.dcp_io.proofs.Parts.{rest_from}
use Rattle.dcp_io.proofs.adapters.write_front.Goals as goal

pub loop-count-preserved : goal.loop-count-preserved
loop-count-preserved g c = (
  omega (arith, c.in-Ok.ensures.bound, ap length (rest_from c.loop-count.count c.args.bytes.now), length-drop c.loop-count.count c.args.bytes.now),
  rw (take-add c.loop-count.count c.in-Ok.more c.args.bytes.now)
      (Appends-trans _ _ _ _ _ c.loop-count.invariant.1 (rw rest_from at c.in-Ok.ensures.bytes)),
)
