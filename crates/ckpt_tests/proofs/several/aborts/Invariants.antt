use Rattle.std.proofs.Common.{◌≡◌}
use Rattle.ckpt_list.specs.Windows.{ArePartsAbove}
use Rattle.ckpt_tests.proofs.Parts.{end_of}
use Rattle.ckpt_tests.proofs.several.aborts.Given as goal

abbrev pub invariant-loop-n : goal.invariant-loop-n
invariant-loop-n l = record {
  parts : ArePartsAbove l.high l.changes.items;
  ends : end_of l.high l.changes.items ≡ l.seq;
}
