use Rattle.std.proofs.Common.{◌≡◌, List, ap, sym, ◌∙◌, subst}
use Rattle.std.specs.List.{fold}
use Rattle.vb_types.specs.declared.change.Change.{Change}
use Rattle.vb_types.specs.declared.position.Position.{Position}
use Rattle.vb_types.specs.Images.{applied}
use Rattle.vb_calls.specs.State.{complete_position}
use Rattle.ckpt_list.specs.Lists.{Ckpts, high_of}
use Rattle.ckpt_list.specs.Windows.{ArePartsAbove}
use Rattle.vbucket.specs.Kept.{Kept}
use Rattle.vbucket.specs.Settling.{with_made}
use Rattle.vbucket.specs.Steady.{IsSteady}
use Rattle.vbucket.specs.contracts.vbucket.VBucket as row
use Rattle.vbucket.proofs.Carrying.{own_queued, own_position, made_all, last_position, queued_all_steady}
use Rattle.vbucket.proofs.Planning.{parts_above}
use Rattle.vbucket.proofs.vbucket.VBucket.make.Goals as goal

pub put_all-requires : goal.put_all-requires
put_all-requires c =
    let v = c.self.inside in
    let cs : List Change = c.args.changes.now in
    let low : c.args.self.now.rest.position.at ≡ high_of v.list = ap (λ (k : Kept). k.rest.position.at) (sym c.self.view_is) ∙ sym c.self.invariant.high in
    subst (λ n. ArePartsAbove n cs) low (parts_above c.args.self.now.rest.position.at c.requires.rises.0 cs c.requires.rises.1 c.requires.durable)

pub invariant_of-self-2 : goal.invariant_of-self-2
invariant_of-self-2 c =
    let v = c.self.inside in
    let cs : List Change = c.args.changes.now in
    let i = c.in-Some.ensures.item in
    let at : c.complete_at-self-inside.result ≡ own_position v.position cs = c.complete_at-self-inside.ensures ∙ ap (λ (x : Change). complete_position x.seq) i.1 ∙ sym (last_position v.position cs c.in-Some.last.now i.3.0) in
    let list : c.put_all.new.list ≡ own_queued v.list cs = c.in_ok-put_all.ensures.list in
    subst (λ (p : Position). IsSteady v.role p.at c.put_all.new.list v.streams.items) (sym at)
    (subst (λ (l : Ckpts). IsSteady v.role (own_position v.position cs).at l v.streams.items) (sym list) (queued_all_steady v.role v.position v.list v.streams.items cs c.self.invariant))

pub returns-clause-ok : goal.returns-clause-ok
returns-clause-ok c =
    let v = c.self.inside in
    let cs : List Change = c.args.changes.now in
    let i = c.in-Some.ensures.item in
    let at : c.complete_at-self-inside.result ≡ own_position v.position cs = c.complete_at-self-inside.ensures ∙ ap (λ (x : Change). complete_position x.seq) i.1 ∙ sym (last_position v.position cs c.in-Some.last.now i.3.0) in
    let list : c.put_all.new.list ≡ own_queued v.list cs = c.in_ok-put_all.ensures.list in
    let base : c.put_all.new.table.image ≡ fold applied v.table.image cs = c.in_ok-put_all.ensures.table in
    (λ j. let k : Kept = record { rest = record (row.the_view v).rest { base = base j; position = at j }; list = list j } in k)
    ∙ sym (made_all (row.the_view v) cs) ∙ ap (λ (k : Kept). fold with_made k cs) c.self.view_is
