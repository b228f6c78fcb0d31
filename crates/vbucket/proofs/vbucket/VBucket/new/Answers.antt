use Rattle.std.proofs.Common.{[], false, ap}
use Rattle.vb_types.specs.declared.position.Position.{Position}
use Rattle.vb_calls.specs.declared.span.Origin.TheVariants.{Own}
use Rattle.vb_calls.specs.Spans.{no_spans}
use Rattle.vbucket.specs.Stands.{StandsFor}
use Rattle.vbucket.proofs.Steadying.{made_steady}
use Rattle.vbucket.proofs.Standing.{new_stands}
use Rattle.vbucket.proofs.vbucket.VBucket.new.Goals as goal

pub invariant_of-result : goal.invariant_of-result
invariant_of-result c = made_steady c.args.role c.in_ok-list.list c.new-2.result.items 0 c.complete_at.result.at Own c.in_ok-list.ensures.list c.new-2.ensures.items (ap (λ (p : Position). p.at) c.complete_at.ensures)

pub returns : goal.returns
unfolding StandsFor
returns c =
    new_stands _ c.args.node c.args.role c.args.uuid
    (λ i. record {
      node = c.args.node;
      role = c.args.role;
      base = c.new.ensures i;
      held = [];
      position = c.complete_at.ensures i;
      log = c.in_ok-log.ensures i;
      last_cas = 0;
      spans = no_spans;
      streams = c.new-2.ensures.items i;
      first = false;
      floor = 0;
      saved = 0;
      flushed = 0;
      others = c.in_ok-list.ensures.others i;
      acks = c.in_ok-list.ensures.acks i;
      waiting = c.in_ok-list.ensures.waiting i;
    })
    c.in_ok-list.ensures.list
