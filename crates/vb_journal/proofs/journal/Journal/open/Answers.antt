use Rattle.std.proofs.Common.{◌≡◌, ◌∙◌, refl, ap, subst}
use Rattle.std.specs.Prelude.{Some, IfSome}
use Rattle.vb_journal.specs.Books.{Scanned, EndsWithin}
use Rattle.vb_journal.specs.Reading.{reading}
use Rattle.vb_journal.specs.declared.scan.Scan.TheVariants as scan
use Rattle.vb_disk.proofs.Moments.{no_more_twice, stays_settled}
use Rattle.vb_journal.specs.UnderArms.{GivesUnder}
use Rattle.vb_journal.proofs.Opening.{sync_hit, sync_passed, sync_settled, none_read}
use Rattle.vb_journal.proofs.Surviving.{denies, opens_whole, settled_leaves, stays_undamaged}
use Rattle.vb_journal.proofs.Bearing.{read_kept, was_read}
use Rattle.vb_journal.proofs.journal.Journal.open.Goals as goal

pub invariant_of-journal : goal.invariant_of-journal
invariant_of-journal g c =
    let s = g.D.Disk.storage in
    let k = g.D.Disk.crashes in
    let at = c.in-Ok-Some-Whole in
    let is = at.field-0-is ∙ ap Some at.field-0-0-is in
    let read = subst (Scanned (s c.sync.new.self) (s c.scan_disk.new.disk)) is at.ensures.scanned in
    let within = subst (λ found. IfSome found (EndsWithin (s c.sync.new.self).size)) is at.ensures.within in
    let kept = read_kept (s c.sync.new.self) (s c.scan_disk.new.disk) at.records at.end at.ensures.stays read within at.ensures.few in
    let settled = stays_settled (s c.sync.new.self).held (s c.scan_disk.new.disk).held (k c.sync.new.self) (k c.scan_disk.new.disk) at.ensures.stays.held at.ensures.crash c.in-Done.ensures.crash.settled in record {
      kept = kept;
      settled = λ e. settled;
      left = settled_leaves (s c.scan_disk.new.disk).held (k c.scan_disk.new.disk) kept.whole settled;
    }

pub returns-in-Ok-Some-Whole-clause-opened : goal.returns-in-Ok-Some-Whole-clause-opened
returns-in-Ok-Some-Whole-clause-opened g c =
    let s = g.D.Disk.storage in
    let at = c.in-Ok-Some-Whole in
    let is = at.field-0-is ∙ ap Some at.field-0-0-is in
    let read = subst (Scanned (s c.sync.new.self) (s c.scan_disk.new.disk)) is at.ensures.scanned in
    let was = was_read (s c.args.disk) (s c.sync.new.self) (s c.scan_disk.new.disk) at.records at.end c.in-Done.ensures.moved at.ensures.stays at.ensures.later read in record {
      same = was.same;
      is_open = refl;
      book = was.book;
      read = was.are;
      whole = was.whole;
    }

pub returns-in-Ok-Some-Whole-clause-crash : goal.returns-in-Ok-Some-Whole-clause-crash
returns-in-Ok-Some-Whole-clause-crash g c =
    let s = g.D.Disk.storage in
    let k = g.D.Disk.crashes in
    let at = c.in-Ok-Some-Whole in
    let is = at.field-0-is ∙ ap Some at.field-0-0-is in
    let read = subst (Scanned (s c.sync.new.self) (s c.scan_disk.new.disk)) is at.ensures.scanned in
    let within = subst (λ found. IfSome found (EndsWithin (s c.sync.new.self).size)) is at.ensures.within in
    let kept = read_kept (s c.sync.new.self) (s c.scan_disk.new.disk) at.records at.end at.ensures.stays read within at.ensures.few in
    let settled = stays_settled (s c.sync.new.self).held (s c.scan_disk.new.disk).held (k c.sync.new.self) (k c.scan_disk.new.disk) at.ensures.stays.held at.ensures.crash c.in-Done.ensures.crash.settled in (
      no_more_twice (k c.args.disk) (k c.sync.new.self) (k c.scan_disk.new.disk) c.in-Done.ensures.crash.no_more at.ensures.crash,
      settled,
      opens_whole (s c.scan_disk.new.disk).held (k c.scan_disk.new.disk) kept.whole settled,
    )

pub returns-in-Failed-clause-arm : goal.returns-in-Failed-clause-arm
returns-in-Failed-clause-arm g c =
    let s = g.D.Disk.storage in
    let a = g.D.Disk.armed in
    let l = g.D.Disk.left_by in
    sync_hit (a c.args.disk) (a c.sync.new.self) (l c.args.disk) (l c.sync.new.self) (s c.sync.new.self).held c.in-Failed.ensures.arm c.in-Failed.ensures.left

pub returns-in-Ok-Some-Whole-clause-arm : goal.returns-in-Ok-Some-Whole-clause-arm
returns-in-Ok-Some-Whole-clause-arm g c =
    let s = g.D.Disk.storage in
    let a = g.D.Disk.armed in
    let l = g.D.Disk.left_by in
    let at = c.in-Ok-Some-Whole in
    sync_settled (a c.args.disk) (a c.sync.new.self) (a c.scan_disk.new.disk) (l c.args.disk) (l c.sync.new.self) (l c.scan_disk.new.disk) (s c.sync.new.self).held (s c.scan_disk.new.disk).held c.in-Done.ensures.arm at.ensures.arm
    c.in-Done.ensures.left at.ensures.left at.ensures.stays.held

pub returns-in-Ok-Some-Damaged-clause-arm : goal.returns-in-Ok-Some-Damaged-clause-arm
returns-in-Ok-Some-Damaged-clause-arm g c =
    let s = g.D.Disk.storage in
    let a = g.D.Disk.armed in
    let l = g.D.Disk.left_by in
    sync_passed (a c.args.disk) (a c.sync.new.self) (a c.scan_disk.new.disk) (l c.args.disk) (l c.sync.new.self) (l c.scan_disk.new.disk) (s c.sync.new.self).held (s c.scan_disk.new.disk).held c.in-Done.ensures.arm
    c.in-Ok-Some-Damaged.ensures.arm

pub returns-in-Ok-None-clause-arm : goal.returns-in-Ok-None-clause-arm
returns-in-Ok-None-clause-arm g c =
    let s = g.D.Disk.storage in
    let a = g.D.Disk.armed in
    let l = g.D.Disk.left_by in
    let given = subst (GivesUnder (a c.sync.new.self)) c.in-Ok-None.field-0-is c.in-Ok-None.ensures.given in
    none_read (a c.args.disk) (a c.sync.new.self) (a c.scan_disk.new.disk) (l c.args.disk) (l c.sync.new.self) (l c.scan_disk.new.disk) (s c.sync.new.self).held (s c.scan_disk.new.disk).held c.in-Done.ensures.arm
    c.in-Ok-None.ensures.arm given

pub returns-in-Err-clause-arm : goal.returns-in-Err-clause-arm
returns-in-Err-clause-arm g c =
    let s = g.D.Disk.storage in
    let a = g.D.Disk.armed in
    let l = g.D.Disk.left_by in
    sync_passed (a c.args.disk) (a c.sync.new.self) (a c.scan_disk.new.disk) (l c.args.disk) (l c.sync.new.self) (l c.scan_disk.new.disk) (s c.sync.new.self).held (s c.scan_disk.new.disk).held c.in-Done.ensures.arm
    c.in-Err.ensures.arm

pub returns-in-Failed-clause-undamaged : goal.returns-in-Failed-clause-undamaged
returns-in-Failed-clause-undamaged g c =
    let s = g.D.Disk.storage in
    let k = g.D.Disk.crashes in
    stays_undamaged (s c.args.disk) (s c.sync.new.self) (k c.args.disk) (k c.sync.new.self) c.in-Failed.ensures.moved.stays.held c.in-Failed.ensures.crash.no_more

pub returns-in-Ok-Some-Whole-clause-undamaged : goal.returns-in-Ok-Some-Whole-clause-undamaged
returns-in-Ok-Some-Whole-clause-undamaged g c =
    let s = g.D.Disk.storage in
    let k = g.D.Disk.crashes in
    let at = c.in-Ok-Some-Whole in
    let more = no_more_twice (k c.args.disk) (k c.sync.new.self) (k c.scan_disk.new.disk) c.in-Done.ensures.crash.no_more at.ensures.crash in
    stays_undamaged (s c.args.disk) (s c.scan_disk.new.disk) (k c.args.disk) (k c.scan_disk.new.disk) (at.ensures.stays.held ∙ c.in-Done.ensures.moved.stays.held) more

pub returns-in-Ok-Some-Damaged-clause-undamaged : goal.returns-in-Ok-Some-Damaged-clause-undamaged
returns-in-Ok-Some-Damaged-clause-undamaged g c =
    let s = g.D.Disk.storage in
    let k = g.D.Disk.crashes in
    let at = c.in-Ok-Some-Damaged in
    let is = at.field-0-is ∙ ap Some at.field-0-0-is in
    let read = subst (Scanned (s c.sync.new.self) (s c.scan_disk.new.disk)) is at.ensures.scanned in
    let found = subst (λ held. IfSome held (λ bytes. reading bytes ≡ scan.Damaged at.place)) c.in-Done.ensures.moved.stays.held read in
    denies (s c.args.disk) (k c.args.disk) at.place (s c.args.disk).held refl found

pub returns-in-Ok-None-clause-undamaged : goal.returns-in-Ok-None-clause-undamaged
returns-in-Ok-None-clause-undamaged g c =
    let s = g.D.Disk.storage in
    let k = g.D.Disk.crashes in
    let at = c.in-Ok-None in
    let more = no_more_twice (k c.args.disk) (k c.sync.new.self) (k c.scan_disk.new.disk) c.in-Done.ensures.crash.no_more at.ensures.crash in
    stays_undamaged (s c.args.disk) (s c.scan_disk.new.disk) (k c.args.disk) (k c.scan_disk.new.disk) (at.ensures.stays.held ∙ c.in-Done.ensures.moved.stays.held) more

pub returns-in-Err-clause-undamaged : goal.returns-in-Err-clause-undamaged
returns-in-Err-clause-undamaged g c =
    let s = g.D.Disk.storage in
    let k = g.D.Disk.crashes in
    let at = c.in-Err in
    let more = no_more_twice (k c.args.disk) (k c.sync.new.self) (k c.scan_disk.new.disk) c.in-Done.ensures.crash.no_more at.ensures.crash in
    stays_undamaged (s c.args.disk) (s c.scan_disk.new.disk) (k c.args.disk) (k c.scan_disk.new.disk) (at.ensures.stays.held ∙ c.in-Done.ensures.moved.stays.held) more
