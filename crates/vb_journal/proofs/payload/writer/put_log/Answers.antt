use Rattle.std.proofs.Common.{refl, get_or}
use Rattle.vb_types.specs.declared.role.LogEntry.{LogEntry}
use Rattle.vb_journal.specs.Payloads.{entry_bytes}
use Rattle.vb_journal.specs.Fitting.{EntryFits}
use Rattle.vb_journal.proofs.Putting.{bytes_more, all_more}
use Rattle.vb_journal.proofs.payload.writer.put_log.Goals as goal

pub loop-entry-preserved : goal.loop-entry-preserved
loop-entry-preserved c =
    let none : LogEntry = record { uuid = 0; seq = 0 } in
    let entry : LogEntry = get_or c.args.log.now c.loop-entry.entry-index none in (
      bytes_more entry_bytes c.args.log.now c.loop-entry.entry-index entry none c.put.new.out.items c.loop-entry.out.items c.put_entry.new.out.items c.loop-entry-test.true refl
          c.loop-entry.invariant.0 c.in_ok-put_entry.ensures.bytes,
      all_more EntryFits c.args.log.now c.loop-entry.entry-index entry none c.loop-entry-test.true refl c.loop-entry.invariant.1 c.in_ok-put_entry.ensures.fits,
    )
