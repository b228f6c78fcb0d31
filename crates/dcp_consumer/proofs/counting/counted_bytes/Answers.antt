use Rattle.std.proofs.Common.{refl, ◌∙◌}
use Rattle.dcp_consumer.specs.Counting.{counted_bytes}
use Rattle.dcp_consumer.proofs.Counted.{sum_next}
use Rattle.dcp_consumer.proofs.counting.counted_bytes.Goals as goal

pub loop-frame-init : goal.loop-frame-init
unfolding counted_bytes
loop-frame-init c = refl

pub loop-frame-preserved : goal.loop-frame-preserved
loop-frame-preserved c =
    c.saturating_add-bytes.ensures
    ∙ sum_next c.args.frames.now c.loop-frame.frame-index c.frame-item.result c.loop-frame.bytes c.counted_len.result c.loop-frame-test.true c.frame-item.is c.loop-frame.invariant c.counted_len.ensures
