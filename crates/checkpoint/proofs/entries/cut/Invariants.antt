use Rattle.std.proofs.Common.{◌≡◌, ◌+◌, length}
use Rattle.std.specs.HashMap as hash
use Rattle.std.specs.Str.{bytes_eq}
use Rattle.vb_types.specs.Histories.{upto}
use Rattle.checkpoint.specs.Checkpoints.{items_weight}
use Rattle.checkpoint.specs.Finds.{Finds}
use Rattle.checkpoint.proofs.entries.cut.Given as goal

abbrev pub invariant-loop-change : goal.invariant-loop-change
invariant-loop-change l = record {
  finds : Finds l.changes (hash.get bytes_eq l.seqs);
  stay : upto l.changes l.last ≡ upto l.initial.changes l.last;
  weighs : l.freed + items_weight l.changes ≡ items_weight l.initial.changes;
}

abbrev pub decreases-loop-change : goal.decreases-loop-change
decreases-loop-change l = length l.changes
