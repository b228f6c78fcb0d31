use Rattle.std.proofs.Common.{◌≡◌, List, ap, sym, subst, ◌∙◌}
use Rattle.std.specs.List.{fold}
use Rattle.vb_types.specs.Images.{applied}
use Rattle.vb_types.specs.declared.change.Change.{Change}
use Rattle.vb_types.specs.declared.position.Position.{Position}
use Rattle.vb_calls.specs.State.{complete_position}
use Rattle.ckpt_list.specs.Lists.{Ckpts, sealed_list}
use Rattle.vbucket.specs.Kept.{Kept}
use Rattle.vbucket.specs.Settling.{with_made}
use Rattle.vbucket.specs.Steady.{IsSteady}
use Rattle.vbucket.specs.contracts.vbucket.VBucket as row
use Rattle.vbucket.proofs.Carrying.{last_position, made_all, own_position, own_queued, queued_all_steady}
use Rattle.vbucket.proofs.vbucket.VBucket.seal_and_make.Goals as goal

pub invariant_of-self-in-Some : goal.invariant_of-self-in-Some
invariant_of-self-in-Some c =
    let v = c.self.inside in
    let cs : List Change = c.args.changes.now in
    let i = c.in-Some.ensures.item in
    let at : c.complete_at-self-inside.result ≡ own_position v.position cs = c.complete_at-self-inside.ensures ∙ ap (λ (x : Change). complete_position x.seq) i.1 ∙ sym (last_position v.position cs c.in-Some.last.now i.3.0) in
    let list : c.seal_and_put_all.new.list ≡ own_queued (sealed_list v.list) cs = c.in_ok-seal_and_put_all.ensures.list in
    let is : IsSteady v.role v.position.at (sealed_list v.list) v.streams.items = record { high = c.self.invariant.high; fed = c.self.invariant.fed; feeds = c.self.invariant.feeds } in
    subst (λ (p : Position). IsSteady v.role p.at c.seal_and_put_all.new.list v.streams.items) (sym at)
    (subst (λ (l : Ckpts). IsSteady v.role (own_position v.position cs).at l v.streams.items) (sym list) (queued_all_steady v.role v.position (sealed_list v.list) v.streams.items cs is))

pub returns-in-Some-clause-ok : goal.returns-in-Some-clause-ok
returns-in-Some-clause-ok c =
    let v = c.self.inside in
    let cs : List Change = c.args.changes.now in
    let i = c.in-Some.ensures.item in
    let at : c.complete_at-self-inside.result ≡ own_position v.position cs = c.complete_at-self-inside.ensures ∙ ap (λ (x : Change). complete_position x.seq) i.1 ∙ sym (last_position v.position cs c.in-Some.last.now i.3.0) in
    let list : c.seal_and_put_all.new.list ≡ own_queued (sealed_list v.list) cs = c.in_ok-seal_and_put_all.ensures.list in
    let base : c.seal_and_put_all.new.table.image ≡ fold applied v.table.image cs = c.in_ok-seal_and_put_all.ensures.table in
    let k : Kept = row.the_view v in
    (λ j. let m : Kept = record { rest = record k.rest { base = base j; position = at j }; list = list j } in m)
    ∙ sym (made_all (record k { list = sealed_list k.list }) cs)
    ∙ ap (λ (m : Kept). fold with_made (record m { list = sealed_list m.list }) cs) c.self.view_is
