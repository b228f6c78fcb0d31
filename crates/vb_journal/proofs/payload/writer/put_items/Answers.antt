use Rattle.vb_journal.specs.Payloads.{item_bytes}
use Rattle.vb_journal.specs.Fitting.{ItemFits}
use Rattle.vb_journal.proofs.Putting.{bytes_more, all_more}
use Rattle.vb_journal.proofs.payload.writer.put_items.Goals as goal

pub loop-item-preserved : goal.loop-item-preserved
loop-item-preserved c = (
  bytes_more item_bytes c.args.items.now c.loop-item.item-index c.item-item.result c.item-item.result c.args.out.now.items c.loop-item.out.items c.write_item.new.out.items c.loop-item-test.true c.item-item.is
      c.loop-item.invariant.0 c.in_ok-write_item.ensures.bytes,
  all_more ItemFits c.args.items.now c.loop-item.item-index c.item-item.result c.item-item.result c.loop-item-test.true c.item-item.is c.loop-item.invariant.1 c.in_ok-write_item.ensures.fits,
)
