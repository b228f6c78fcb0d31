use Rattle.std.proofs.Common.{◌≡◌, ◌≤◌, ◌-◌, IfSome}
use Rattle.vb_disk.specs.Crashes.{LeavesNoMore}
use Rattle.vb_disk.specs.Disks.{Stays}
use Rattle.vb_disk.specs.Outcomes.{LeftAlike}
use Rattle.vb_journal.proofs.Coming.{Come}
use Rattle.vb_journal.proofs.scan.scan_disk.Given as goal

abbrev pub invariant-loop-records : goal.invariant-loop-records
invariant-loop-records g l =
    let old = g.D.Disk.storage l.initial.disk in
    let now = g.D.Disk.storage l.disk in
    record {
      stays : Stays old now;
      later : old.failures ≤ now.failures;
      crash : LeavesNoMore (g.D.Disk.crashes l.initial.disk) (g.D.Disk.crashes l.disk);
      arm : g.D.Disk.armed l.disk ≡ g.D.Disk.armed l.initial.disk;
      left : LeftAlike (g.D.Disk.left_by l.initial.disk) (g.D.Disk.left_by l.disk);
      within : l.place ≤ old.size;
      come : IfSome old.held (Come l.records l.place);
    }

abbrev pub decreases-loop-records : goal.decreases-loop-records
decreases-loop-records g l = (g.D.Disk.storage l.disk).size - l.place
