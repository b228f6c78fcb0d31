use Rattle.vb_journal.proofs.Bearing.{made_kept, made_book}
use Rattle.vb_journal.proofs.Surviving.{settled_leaves}
use Rattle.vb_journal.proofs.journal.Journal.create.Goals as goal

pub invariant_of-result : goal.invariant_of-result
invariant_of-result g c =
    let s = g.D.Disk.storage in
    let kept = made_kept (s c.args.disk) c.requires.made in
    record { kept = kept; settled = λ e. c.requires.settled; left = settled_leaves (s c.args.disk).held (g.D.Disk.crashes c.args.disk) kept.whole c.requires.settled }

pub returns-clause-book : goal.returns-clause-book
returns-clause-book g c = made_book (g.D.Disk.storage c.args.disk) c.requires.made
