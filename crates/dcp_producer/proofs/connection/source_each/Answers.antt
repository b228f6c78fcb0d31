use Rattle.std.proofs.Common.{ap, sym, ◌∙◌}
use Rattle.std.specs.Prelude.{slice_set}
use Rattle.std.proofs.lemmas.List.Edits.{map_over_more}
use Rattle.dcp_producer.specs.Serving.{with_source_at}
use Rattle.dcp_producer.proofs.connection.source_each.Goals as goal

pub loop-stream-preserved : goal.loop-stream-preserved
loop-stream-preserved c =
    let is = c.begin_if.ensures ∙ ap (with_source_at c.args.from c.args.id) (sym c.stream-item.is) in
    ap (slice_set c.loop-stream.stream-items c.loop-stream.stream-index) is
    ∙ map_over_more (with_source_at c.args.from c.args.id) c.deref_mut-stream-items.result.now c.loop-stream.stream-items c.loop-stream.stream-index c.stream-item.result
    c.loop-stream-test.true c.loop-stream.invariant c.stream-item.is
