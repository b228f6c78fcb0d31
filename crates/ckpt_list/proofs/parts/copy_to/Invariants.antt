use Rattle.std.proofs.Common.{◌≡◌, ◌++◌, take}
use Rattle.ckpt_list.proofs.parts.copy_to.Given as goal

abbrev pub invariant-loop-change : goal.invariant-loop-change
invariant-loop-change l = l.copies ≡ l.initial.copies ++ take l.change-index l.items
