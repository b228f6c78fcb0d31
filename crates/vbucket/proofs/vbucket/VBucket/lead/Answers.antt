use Rattle.std.proofs.Common.{◌≡◌, List, ap, ◌∙◌}
use Rattle.std.specs.List.{fold}
use Rattle.vb_types.specs.declared.change.Change.{Change}
use Rattle.vb_calls.specs.declared.calls.VbReply.{VbReply}
use Rattle.vb_calls.specs.Roles.{stream_ids}
use Rattle.vb_calls.specs.Streams.{without_stream}
use Rattle.ckpt_list.specs.Lists.{sealed_list}
use Rattle.vbucket.specs.Kept.{Kept}
use Rattle.vbucket.specs.Promoting.{led_with, turned_active}
use Rattle.vbucket.specs.Settling.{own_branch, with_made}
use Rattle.vbucket.proofs.Dropping.{without_zero}
use Rattle.vbucket.proofs.Promoting.{log_stays, turned_all}
use Rattle.vbucket.proofs.vbucket.VBucket.lead.Goals as goal

pub returns-clause-ok : goal.returns-clause-ok
returns-clause-ok c =
    let k : Kept = c.args.self.now in
    let left = c.args.left in
    let cs : List Change = c.args.plan.changes in
    let sealed : Kept = record k { list = sealed_list k.list } in
    let made : c.seal_and_make.new.self ≡ fold with_made sealed cs = c.in_ok-seal_and_make.ensures.ok ∙ ap (fold with_made sealed) c.as_slice.ensures in
    let new : c.turn_active.new.self ≡ (led_with k c.args.uuid c.args.answer left c.args.plan).0 = c.turn_active.ensures ∙ (λ i. turned_active (made i) left (c.as_slice-2.ensures i)) ∙ turned_all k left cs in
    let ended : c.in_ok-ended.ended ≡ stream_ids k.rest.streams =
    c.in_ok-ended.ensures ∙ ap (λ ss. stream_ids (without_stream 0 ss)) c.deref.ensures.value ∙ ap stream_ids (without_zero c.self.inside.streams.items c.self.invariant.fed.apart) ∙ ap (λ (x : Kept). stream_ids x.rest.streams) c.self.view_is in
    let branch : c.branch_if-branch.result ≡ own_branch c.args.uuid cs = c.branch_if-branch.ensures ∙ ap (own_branch c.args.uuid) c.as_slice-3.ensures in
    λ i. (new i, let r : VbReply = record { answer = c.args.answer; resolved = c.args.plan.resolved; ended = ended i; branch = branch i; changes = cs } in r)

pub returns-clause-log : goal.returns-clause-log
returns-clause-log c =
    let k : Kept = c.args.self.now in
    let cs : List Change = c.args.plan.changes in
    let sealed : Kept = record k { list = sealed_list k.list } in
    let made : c.seal_and_make.new.self ≡ fold with_made sealed cs = c.in_ok-seal_and_make.ensures.ok ∙ ap (fold with_made sealed) c.as_slice.ensures in
    let new : c.turn_active.new.self ≡ (led_with k c.args.uuid c.args.answer c.args.left c.args.plan).0 = c.turn_active.ensures ∙ (λ i. turned_active (made i) c.args.left (c.as_slice-2.ensures i)) ∙ turned_all k c.args.left cs in
    ap (λ (x : Kept). x.rest.log) new ∙ log_stays k c.args.left cs
