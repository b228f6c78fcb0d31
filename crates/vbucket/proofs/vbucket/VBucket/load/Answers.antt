use Rattle.std.proofs.Common.{[], false, refl, ◌∙◌}
use Rattle.vb_calls.specs.declared.span.Origin.TheVariants.{Own}
use Rattle.vb_calls.specs.Spans.{no_spans}
use Rattle.vbucket.specs.Stands.{StandsFor}
use Rattle.vbucket.proofs.Steadying.{made_steady}
use Rattle.vbucket.proofs.Standing.{loaded_stands}
use Rattle.vbucket.proofs.vbucket.VBucket.load.Goals as goal

pub invariant_of-result : goal.invariant_of-result
invariant_of-result c =
    let at = c.args.saved.now.position.at in
    made_steady c.role_of.result c.in_ok-list.list c.new.result.items at at Own c.in_ok-list.ensures.list c.new.ensures.items refl

pub returns : goal.returns
unfolding StandsFor
returns c =
    let s = c.args.saved.now in
    let log = c.in_ok-log.ensures ∙ c.as_slice.ensures in
    loaded_stands _ c.args.node s.role s.log s.position s.cas s.image
    (λ i. record {
      node = c.args.node;
      role = c.role_of.ensures i;
      base = c.in_ok-table.ensures i;
      held = [];
      position = s.position;
      log = log i;
      last_cas = s.cas;
      spans = no_spans;
      streams = c.new.ensures.items i;
      first = false;
      floor = 0;
      saved = s.position.at;
      flushed = 0;
      others = c.in_ok-list.ensures.others i;
      acks = c.in_ok-list.ensures.acks i;
      waiting = c.in_ok-list.ensures.waiting i;
    })
    c.in_ok-list.ensures.list
