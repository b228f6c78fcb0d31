use Rattle.std.proofs.Common.{◌≡◌, ◌<◌, true, false, max, ap, sym, subst, ◌∙◌, rules, arith}
use Rattle.std.specs.Prelude.{Some, None}
use Rattle.std.specs.List.Sorted.{IsNonDecreasingBy}
use Rattle.vb_types.specs.declared.change.Change.{Change}
use Rattle.checkpoint.specs.Checkpoints.{has_seen}
use Rattle.ckpt_list.specs.Lists.{Ckpts}
use Rattle.ckpt_list.specs.Sound.{IsSound}
use Rattle.ckpt_list.proofs.Stops.{first_of, first_within, stop_end, stop_or, stop_of_open, stop_none}
use Rattle.ckpt_list.proofs.Seals.{items_sorted}
use Rattle.ckpt_list.proofs.ckpt_list.CkptList.whole_end.Goals as goal

pub first_seen-requires : goal.first_seen-requires
first_seen-requires c = items_sorted _ c.self.invariant.sound

pub overflow_sub-max : goal.overflow_sub-max
overflow_sub-max c =
    let first : first_of c.args.place c.args.sync c.self.inside.items.items ≡ Some c.in-Some.seen = sym c.first_seen.ensures ∙ c.in-Some.is in
    let low : c.args.place < c.in-Some.seen = (first_within _ _ _ _ _ _ c.self.invariant.sound.items first).0 in
    let m : c.max.result ≡ max c.in-Some.seen c.args.need = search rules in
    omega arith

pub returns-in-Some-clause-stop : goal.returns-in-Some-clause-stop
returns-in-Some-clause-stop c =
    let l : Ckpts = c.args.self.now in
    let first : first_of c.args.place c.args.sync l.items ≡ Some c.in-Some.seen =
    sym (c.first_seen.ensures ∙ ap (first_of c.args.place c.args.sync) (ap (λ (m : Ckpts). m.items) c.self.view_is)) ∙ c.in-Some.is in
    let m : c.max.result ≡ max c.in-Some.seen c.args.need = search rules in
    stop_or l c.args.place c.args.need c.in-Some.seen c.args.sync c.max.result _ _ _ (subst IsSound c.self.view_is c.self.invariant.sound) first m c.sealed_stop.ensures c.open_stop.ensures c.or.ensures

pub returns-in-None-clause-stop : goal.returns-in-None-clause-stop
returns-in-None-clause-stop c =
    let l : Ckpts = c.args.self.now in
    let first : first_of c.args.place c.args.sync l.items ≡ None =
    sym (c.first_seen.ensures ∙ ap (first_of c.args.place c.args.sync) (ap (λ (m : Ckpts). m.items) c.self.view_is)) ∙ c.in-None.is in
    let seen : has_seen c.args.sync c.args.place l.newest.items ≡ true = sym (c.has_seen.ensures ∙ ap (λ (m : Ckpts). has_seen c.args.sync c.args.place m.newest.items) c.self.view_is) ∙ c.if-has_seen.true in
    c.open_stop-in-None.ensures ∙ stop_of_open l c.args.place c.args.need c.args.sync (subst IsSound c.self.view_is c.self.invariant.sound) first seen

pub returns-in-None-2-clause-stop : goal.returns-in-None-2-clause-stop
returns-in-None-2-clause-stop c =
    let l : Ckpts = c.args.self.now in
    let first : first_of c.args.place c.args.sync l.items ≡ None =
    sym (c.first_seen.ensures ∙ ap (first_of c.args.place c.args.sync) (ap (λ (m : Ckpts). m.items) c.self.view_is)) ∙ c.in-None.is in
    let seen : has_seen c.args.sync c.args.place l.newest.items ≡ false = sym (c.has_seen.ensures ∙ ap (λ (m : Ckpts). has_seen c.args.sync c.args.place m.newest.items) c.self.view_is) ∙ c.if-has_seen.false in
    stop_none l c.args.place c.args.need c.args.sync (subst IsSound c.self.view_is c.self.invariant.sound) first seen

pub returns-in-Some-clause-end : goal.returns-in-Some-clause-end
returns-in-Some-clause-end c = stop_end c.args.self.now c.args.place c.args.need c.args.sync _ (subst IsSound c.self.view_is c.self.invariant.sound) (returns-in-Some-clause-stop c)

pub returns-in-None-clause-end : goal.returns-in-None-clause-end
returns-in-None-clause-end c = stop_end c.args.self.now c.args.place c.args.need c.args.sync _ (subst IsSound c.self.view_is c.self.invariant.sound) (returns-in-None-clause-stop c)

pub returns-in-None-2-clause-end : goal.returns-in-None-2-clause-end
returns-in-None-2-clause-end c = stop_end c.args.self.now c.args.place c.args.need c.args.sync _ (subst IsSound c.self.view_is c.self.invariant.sound) (returns-in-None-2-clause-stop c)
