use Rattle.std.proofs.Common.{◌≡◌, List, ap, ◌∙◌}
use Rattle.std.specs.List.{fold}
use Rattle.durability.specs.Outstanding.{Known}
use Rattle.vb_types.specs.declared.change.Change.{Change}
use Rattle.vb_calls.specs.declared.calls.VbReply.{VbReply}
use Rattle.vb_calls.specs.State.{newest_branch}
use Rattle.vbucket.specs.Kept.{Kept}
use Rattle.vbucket.specs.Settling.{own_branch, waiting_behind, with_made, with_own}
use Rattle.vbucket.specs.contracts.vbucket.VBucket as row
use Rattle.vbucket.proofs.Carrying.{made_all, own_of, with_resolves}
use Rattle.vbucket.proofs.vbucket.VBucket.carry_out.Goals as goal

pub returns-clause-ok : goal.returns-clause-ok
returns-clause-ok c =
    let v = c.self.inside in
    let k : Kept = c.args.self.now in
    let cs : List Change = c.args.plan.changes in
    let made : row.the_view v ≡ fold with_made k cs = c.self.view_is ∙ c.in_ok-make.ensures.ok ∙ ap (fold with_made k) c.as_slice.ensures in
    let resolved : row.the_view (record v { durable = c.resolve_all.new.durable }) ≡ with_resolves cs (row.the_view v) =
    ap (λ (d : Known). row.the_view (record v { durable = d })) (c.resolve_all.ensures ∙ ap (λ xs. record v.durable { waiting = fold waiting_behind v.durable.waiting xs; spare = c.resolve_all.new.durable.spare }) c.as_slice-2.ensures) in
    let new : row.the_view (record v { durable = c.resolve_all.new.durable }) ≡ fold with_own k cs = resolved ∙ ap (with_resolves cs) made ∙ own_of k cs in
    let branch : c.branch_of-branch.result ≡ own_branch (newest_branch k.rest.log) cs =
    c.branch_of-branch.ensures ∙ ap (own_branch (newest_branch v.log)) c.as_slice-3.ensures ∙ ap (λ (x : Kept). own_branch (newest_branch x.rest.log) cs) (made ∙ made_all k cs) in
    λ i. (new i, let r : VbReply = record { answer = c.args.answer; resolved = c.args.plan.resolved; ended = c.new.ensures i; branch = branch i; changes = cs } in r)
