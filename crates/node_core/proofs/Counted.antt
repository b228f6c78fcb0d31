-- an acknowledgement of bytes, by their number as far as a message can tell it
use Rattle.std.proofs.Common.{◌≡◌, ℕ, List, ◌++◌, arith}
use Rattle.std.specs.Prelude.{◌==◌, ◌||◌, ◌-◌, ◌^◌, min, if◌then◌else◌}
use Rattle.std.proofs.lemmas.Bool.Decides.{nat_tests}
use Rattle.mcbp_frame.specs.declared.frame.Frame.{Frame}
use Rattle.mcbp_frame.specs.Spelling.{spelling}
use Rattle.mcbp_dcp.specs.declared.message.DcpMsg.TheVariants as msg
use Rattle.mcbp_dcp.specs.DcpFrames.{dcp_frame}
use Rattle.dcp_consumer.specs.Counting.{counted_bytes, bytes_acknowledged}
use Rattle.node_core.specs.Dials.{DialResult, is_over, bytes_counted}

none_left : (n : ℕ) → (n == 0) ≡ (min n (2 ^ 32 - 1) == 0)
none_left n = grind (arith, nat_tests)

clipped : (n : ℕ) → min n (2 ^ 32 - 1) ≡ min (min n (2 ^ 32 - 1)) (2 ^ 32 - 1)
clipped n = grind arith

-- an acknowledgement of these frames by that number
abbrev pub counted_as : ℕ → DialResult → DialResult
counted_as n s = if is_over s.dial || s.dial.consumer.dialed.buffer == 0 || n == 0 then s else record s { out = s.out ++ bytes_acknowledged n s.dial.consumer }

pub counted_by : (frames : List Frame) (s : DialResult) → bytes_counted frames s ≡ counted_as (min (counted_bytes frames) (2 ^ 32 - 1)) s
unfolding bytes_counted
counted_by frames s =
    let c = s.dial.consumer in
    λ i. if is_over s.dial || c.dialed.buffer == 0 || none_left (counted_bytes frames) i then s
    else record s { out = s.out ++ spelling (dcp_frame (msg.BufferAcknowledgement (clipped (counted_bytes frames) i)) c.asked 0) }
