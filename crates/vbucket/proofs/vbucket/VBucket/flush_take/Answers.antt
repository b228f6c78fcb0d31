use Rattle.std.proofs.Common.{sym, subst}
use Rattle.vb_calls.specs.declared.calls.VbCall.TheVariants.{FlushTake}
use Rattle.vb_calls.specs.declared.calls.VbReply.{VbReply}
use Rattle.vb_calls.specs.Forms.{HasForm}
use Rattle.vbucket.proofs.Steadying.{flushed_steady}
use Rattle.ckpt_list.specs.Sound.{IsBatch}
use Rattle.vb_types.specs.declared.position.Position.{Position}
use Rattle.vbucket.proofs.Writing.{may_be_written}
use Rattle.vbucket.proofs.vbucket.VBucket.flush_take.Goals as goal

pub invariant_of-self : goal.invariant_of-self
invariant_of-self c = let v = c.self.inside in flushed_steady v.role v.position.at v.list v.streams.items c.advance.new.self c.in-Some.position.at c.self.invariant c.advance.ensures

pub invariant_of-self-2 : goal.invariant_of-self-2
invariant_of-self-2 c = let v = c.self.inside in flushed_steady v.role v.position.at v.list v.streams.items c.advance.new.self c.in-Some.position.at c.self.invariant c.advance.ensures

pub returns-clause-form : goal.returns-clause-form
returns-clause-form c =
    let v = c.self.inside in
    let p : Position = c.in-Some.position in
    let place = c.place_of_zero-place.result in
    let batch : IsBatch place p.at c.in_ok-items.items = subst (IsBatch place p.at) (sym c.in_ok-items.ensures) c.in-Some.ensures.batch in
    subst (λ (r : VbReply). HasForm FlushTake r.answer) (sym c.told-2.ensures)
    (may_be_written (record { position = p; cas = v.last_cas; log = c.in_ok-log.log; items = c.in_ok-items.items }) place p.at c.in_ok-log.ensures.short batch)
