use Rattle.std.proofs.Common.{◌+◌, ◌<◌, [], take, sym, ◌∙◌, subst, refl}
use Rattle.std.specs.Prelude.{slice_set}
use Rattle.vb_calls.specs.Programs.{Ran, each}
use Rattle.dcp_producer.specs.Giving.{none_given, one_given}
use Rattle.dcp_producer.proofs.Turns.{on_err}
use Rattle.dcp_producer.proofs.Persisting.{all_persist, given_began, given_more, given_stopped, persist_more, rest_more}
use Rattle.dcp_producer.proofs.yields.give_each.Goals as goal

pub loop-at-init : goal.loop-at-init
loop-at-init g c = record { ran = ((λ i. record { streams = []; yielded = c.requires i }), refl); rest = refl; persist = all_persist c.args.streams.now.items }

pub returns-in_err-told-clause-err : goal.returns-in_err-told-clause-err
returns-in_err-told-clause-err g c =
    on_err c.from_residual.result _
    (given_began c.args.streams.now.items c.loop-at.streams.items c.loop-at.at c.index_mut.result.now (subst (λ n. c.loop-at.at < n) (c.len-at-end.ensures ∙ c.args.streams.now.ok.0) c.loop-at-test.true) c.loop-at.invariant.persist c.loop-at.invariant.rest c.index_mut.ensures.value
    g.A.VbAccess.step c.loop-at.yielded' c.args.vbs.now c.loop-at.vbs c.loop-at.invariant.ran c.give_up.new.vbs c.in_err-told.ensures.err)

pub returns-in_err-told-clause-same : goal.returns-in_err-told-clause-same
returns-in_err-told-clause-same g c =
    persist_more c.args.streams.now.items c.loop-at.streams.items c.loop-at.at c.index_mut.result.now (subst (λ n. c.loop-at.at < n) (c.len-at-end.ensures ∙ c.args.streams.now.ok.0) c.loop-at-test.true) c.loop-at.invariant.persist c.loop-at.invariant.rest c.index_mut.ensures.value
    c.give_up.new.self c.give_up.ensures.same

pub returns-in_err-list_told-clause-err : goal.returns-in_err-list_told-clause-err
returns-in_err-list_told-clause-err g c =
    on_err c.from_residual-in_err-list_told.result _
    (given_stopped c.args.streams.now.items c.loop-at.streams.items c.loop-at.at c.index_mut.result.now (subst (λ n. c.loop-at.at < n) (c.len-at-end.ensures ∙ c.args.streams.now.ok.0) c.loop-at-test.true) c.loop-at.invariant.persist c.loop-at.invariant.rest c.index_mut.ensures.value
    g.A.VbAccess.step c.loop-at.yielded' c.args.vbs.now c.loop-at.vbs c.loop-at.invariant.ran c.give_up.new.self c.in_ok-told.told c.give_up.new.vbs c.in_ok-told.ensures.ok)

pub returns-in_err-list_told-clause-same : goal.returns-in_err-list_told-clause-same
returns-in_err-list_told-clause-same g c =
    persist_more c.args.streams.now.items c.loop-at.streams.items c.loop-at.at c.index_mut.result.now (subst (λ n. c.loop-at.at < n) (c.len-at-end.ensures ∙ c.args.streams.now.ok.0) c.loop-at-test.true) c.loop-at.invariant.persist c.loop-at.invariant.rest c.index_mut.ensures.value
    c.give_up.new.self c.give_up.ensures.same

pub loop-at-preserved : goal.loop-at-preserved
loop-at-preserved g c = record {
  ran = subst (λ told. Ran g.A.VbAccess.step (each one_given (take (c.loop-at.at + 1) c.args.streams.now.items) none_given) c.args.vbs.now (record { streams = take (c.loop-at.at + 1) (slice_set c.loop-at.streams.items c.loop-at.at c.give_up.new.self); yielded = told }) c.give_up.new.vbs)
      (sym c.in_ok-list_told.ensures)
      (given_more c.args.streams.now.items c.loop-at.streams.items c.loop-at.at c.index_mut.result.now (subst (λ n. c.loop-at.at < n) (c.len-at-end.ensures ∙ c.args.streams.now.ok.0) c.loop-at-test.true) c.loop-at.invariant.persist c.loop-at.invariant.rest c.index_mut.ensures.value
      g.A.VbAccess.step c.loop-at.yielded' c.args.vbs.now c.loop-at.vbs c.loop-at.invariant.ran c.give_up.new.self c.in_ok-told.told c.give_up.new.vbs c.in_ok-told.ensures.ok);
  rest = rest_more c.args.streams.now.items c.loop-at.streams.items c.loop-at.at c.index_mut.result.now (subst (λ n. c.loop-at.at < n) (c.len-at-end.ensures ∙ c.args.streams.now.ok.0) c.loop-at-test.true) c.loop-at.invariant.persist c.loop-at.invariant.rest c.index_mut.ensures.value c.give_up.new.self;
  persist = persist_more c.args.streams.now.items c.loop-at.streams.items c.loop-at.at c.index_mut.result.now (subst (λ n. c.loop-at.at < n) (c.len-at-end.ensures ∙ c.args.streams.now.ok.0) c.loop-at-test.true) c.loop-at.invariant.persist c.loop-at.invariant.rest c.index_mut.ensures.value
      c.give_up.new.self c.give_up.ensures.same;
}
