use Rattle.std.proofs.Common.{◌≡◌, ◌≤◌, take, vec_capacity}
use Rattle.std.specs.Prelude.{reverse}
use Rattle.vb_disk.specs.Memory.{content}
use Rattle.vb_disk.proofs.made.replay.Given as goal

abbrev pub invariant-loop-made : goal.invariant-loop-made
invariant-loop-made l = record {
  items : l.bytes.items ≡ content (reverse (take l.made-index l.past));
  capacity : vec_capacity l.initial.bytes ≤ vec_capacity l.bytes;
}
