use Rattle.std.proofs.Common.{◌<◌, get_or, slice_set, length, false, ap, sym, subst, ◌∙◌}
use Rattle.std.proofs.lemmas.List.{get_or_default}
use Rattle.std.proofs.lemmas.List.Edits.{map_over_more}
use Rattle.vb_calls.specs.declared.stream.Stream.{Stream}
use Rattle.vb_calls.specs.Streams.{with_cursor_as}
use Rattle.vbucket.proofs.streams.mark_fed.Goals as goal

pub loop-at-preserved : goal.loop-at-preserved
loop-at-preserved c =
    let none : Stream = record { id = 0; ask = record { flags = 0; start = 0; end = 0; uuid = 0; ss = 0; se = 0 }; sync = false; place = 0; cursor = false; taken = false } in
    let here : c.loop-at.at < length c.loop-at.streams = subst (λ n. c.loop-at.at < n) (sym c.loop-at.auto.streams) c.loop-at-test.true in
    let old : Stream = get_or c.loop-at.streams c.loop-at.at none in
    ap (slice_set c.loop-at.streams c.loop-at.at) c.with_its.ensures
    ∙ map_over_more (with_cursor_as c.args.has c.args.id) c.args.streams.now c.loop-at.streams c.loop-at.at old c.loop-at-test.true c.loop-at.invariant (get_or_default c.loop-at.streams c.loop-at.at none old here)
