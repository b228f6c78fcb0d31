use Rattle.std.proofs.Common.{[], subst, ap, ◌∙◌}
use Rattle.dcp_consumer.specs.Machine.{over_why}
use Rattle.vb_calls.specs.Jobs.{RanJob}
use Rattle.node_core.specs.Dials.{untold, is_over, bytes_taken}
use Rattle.node_core.specs.Outs.{dial_answer}
use Rattle.node_core.proofs.dials.Dial.feed.Goals as goal

pub returns-clause-ok : goal.returns-clause-ok
returns-clause-ok g c =
    let start = c.self.invariant ∙ ap (λ kept. untold kept.plain) c.self.view_is in
    let taken = c.take_bytes-taken.new.self in
    let rest = c.told-events.ensures.rest in (
      taken,
      subst (λ s. RanJob g.A.VbAccess.step g.J.Journals.asks (bytes_taken c.args.piece.now s) c.args.vbs.now c.args.disks.now taken c.take_bytes-taken.new.vbs c.take_bytes-taken.new.disks) start c.in_ok-taken.ensures.ok,
      c.handed_out.ensures ∙ (λ i. record {
        events = c.told-events.ensures.events i;
        out = (c.in_ok-out.ensures ∙ c.told-events.ensures.out) i;
        answer = dial_answer (over_why (rest i).dial.consumer.handshake);
        closed = is_over (rest i).dial;
        resolved = [];
      }),
      ap (λ s. s.dial) rest,
    )
