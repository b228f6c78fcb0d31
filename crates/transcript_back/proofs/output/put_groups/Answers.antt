use Rattle.std.proofs.Common.{[], ◌++◌, ap, sym, ◌∙◌, append_assoc, refl}
use Rattle.std.proofs.KnownBytes.{Appends-nil, Appends-trans}
use Rattle.dcp_io.proofs.Stopping.{stopped_after, wrote_stop}
use Rattle.script_text.specs.Transcript.{group_text}
use Rattle.transcript_back.proofs.Groups.{print_at}
use Rattle.transcript_back.proofs.output.put_groups.Goals as goal

pub loop-group-init : goal.loop-group-init
loop-group-init g c = record {
  done = [];
  appended = Appends-nil _;
  rest = refl;
  faults = refl;
}

pub returns-in_err-put_group : goal.returns-in_err-put_group
returns-in_err-put_group g c =
    let before = c.loop-group.invariant in
    let here = print_at c.args.groups.now c.loop-group.group-index c.group-item.result c.loop-group-test.true c.group-item.is in
    let stop = c.in_err-put_group.field-0.0 in
    let start = g.O.Sink.outlet c.args.output.now in
    let last = g.O.Sink.outlet c.put_group.new.output in
    wrote_stop start last _ c.from_residual.result stop c.from_residual.ensures.1
    (stopped_after start (g.O.Sink.outlet c.loop-group.output) last before.done (group_text c.group-item.result) _ _ stop before.faults before.appended
    (ap (λ t. before.done ++ t) (sym here) ∙ before.rest) c.in_err-put_group.ensures)

pub loop-group-preserved : goal.loop-group-preserved
loop-group-preserved g c =
    let before = c.loop-group.invariant in
    let here = print_at c.args.groups.now c.loop-group.group-index c.group-item.result c.loop-group-test.true c.group-item.is in
    let (appended, faults) = c.in_ok-put_group.ensures in
    let next = group_text c.group-item.result in
    record {
      done = before.done ++ next;
      appended = Appends-trans _ _ _ _ _ before.appended appended;
      rest = append_assoc before.done next _ ∙ ap (λ t. before.done ++ t) (sym here) ∙ before.rest;
      faults = faults ∙ before.faults;
    }
