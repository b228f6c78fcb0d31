use Rattle.std.proofs.Common.{◌≡◌, ◌+◌, ◌≤◌, ◌++◌, length}
use Rattle.mcbp_frame.specs.Cutting.{frames_in, cut_len}
use Rattle.mcbp_frame.proofs.frame.cut.Given as goal

abbrev pub invariant-loop-frames : goal.invariant-loop-frames
invariant-loop-frames l = record {
  frames : l.frames.items ++ frames_in l.rest ≡ frames_in l.bytes;
  len : cut_len l.rest + length l.bytes ≡ cut_len l.bytes + length l.rest;
  within : length l.rest ≤ length l.bytes;
}

abbrev pub decreases-loop-frames : goal.decreases-loop-frames
decreases-loop-frames l = length l.rest
