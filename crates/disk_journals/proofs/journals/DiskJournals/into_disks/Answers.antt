use Rattle.std.proofs.Common.{sym}
use Rattle.disk_journals.proofs.Opens.{ended_none}
use Rattle.disk_journals.proofs.journals.DiskJournals.into_disks.Goals as goal

pub loop-slot-init : goal.loop-slot-init
loop-slot-init g c = record {
  ends = ended_none g.D.Disk.storage c.self.inside.slots.items c.args.self c.self.inside.room.items (sym c.self.view_is) c.self.invariant.0;
  room = c.self.invariant.1;
}
