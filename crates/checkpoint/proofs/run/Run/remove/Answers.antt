use Rattle.std.proofs.Common.{arith, ap, subst, sym, ◌∙◌}
use Rattle.checkpoint.specs.Runs.{IsAt, Lacks, change_at, lacking}
use Rattle.checkpoint.proofs.Runs.{lacked, taken_at, taken_count}
use Rattle.checkpoint.proofs.run.Run.remove.Goals as goal

pub returns-in_err-at-clause-taken : goal.returns-in_err-at-clause-taken
returns-in_err-at-clause-taken c =
    let none = subst (Lacks c.args.seq) c.deref.ensures.value c.in_err-at.ensures.none in
    c.from_residual.ensures ∙ sym (lacked c.args.seq 0 c.self.inside.entries.items c.self.invariant.entries none).0 ∙ ap (change_at c.args.seq) c.self.view_is

pub returns-in_err-at-clause-others : goal.returns-in_err-at-clause-others
returns-in_err-at-clause-others c =
    let none = subst (Lacks c.args.seq) c.deref.ensures.value c.in_err-at.ensures.none in
    sym c.self.view_is ∙ sym (lacked c.args.seq 0 c.self.inside.entries.items c.self.invariant.entries none).1 ∙ ap (lacking c.args.seq) c.self.view_is

pub returns-in_err-change-clause-taken : goal.returns-in_err-change-clause-taken
returns-in_err-change-clause-taken c =
    let is = subst (IsAt c.args.seq c.in_ok-at.at) c.deref.ensures.value c.in_ok-at.ensures.some in
    let k = taken_at c.args.seq c.in_ok-at.at c.self.inside.entries.items c.index_mut.result.now c.take.new.self c.self.invariant.entries is c.index_mut.ensures.value c.take.ensures.after in
    c.from_residual-in_err-change.ensures ∙ sym c.in_err-change.was ∙ c.take.ensures.value ∙ sym k.taken ∙ ap (change_at c.args.seq) c.self.view_is

pub returns-in_err-change-clause-others : goal.returns-in_err-change-clause-others
returns-in_err-change-clause-others c =
    let is = subst (IsAt c.args.seq c.in_ok-at.at) c.deref.ensures.value c.in_ok-at.ensures.some in
    let k = taken_at c.args.seq c.in_ok-at.at c.self.inside.entries.items c.index_mut.result.now c.take.new.self c.self.invariant.entries is c.index_mut.ensures.value c.take.ensures.after in
    k.others ∙ ap (lacking c.args.seq) c.self.view_is

pub close_up-requires-clause-entries : goal.close_up-requires-clause-entries
close_up-requires-clause-entries c =
    let is = subst (IsAt c.args.seq c.in_ok-at.at) c.deref.ensures.value c.in_ok-at.ensures.some in
    (taken_at c.args.seq c.in_ok-at.at c.self.inside.entries.items c.index_mut.result.now c.take.new.self c.self.invariant.entries is c.index_mut.ensures.value c.take.ensures.after).entries

pub close_up-requires-clause-counted : goal.close_up-requires-clause-counted
close_up-requires-clause-counted c =
    let is = subst (IsAt c.args.seq c.in_ok-at.at) c.deref.ensures.value c.in_ok-at.ensures.some in
    let k = taken_count c.in_ok-at.at c.self.inside.entries.items c.index_mut.result.now c.take.new.self c.in_ok-change.change is.inside c.index_mut.ensures.value c.take.ensures.after (sym c.take.ensures.value ∙ c.in_ok-change.was) in
    omega (arith, k, c.self.invariant.counted)

pub returns-clause-taken : goal.returns-clause-taken
returns-clause-taken c =
    let is = subst (IsAt c.args.seq c.in_ok-at.at) c.deref.ensures.value c.in_ok-at.ensures.some in
    let k = taken_at c.args.seq c.in_ok-at.at c.self.inside.entries.items c.index_mut.result.now c.take.new.self c.self.invariant.entries is c.index_mut.ensures.value c.take.ensures.after in
    sym c.in_ok-change.was ∙ c.take.ensures.value ∙ sym k.taken ∙ ap (change_at c.args.seq) c.self.view_is

pub returns-clause-others : goal.returns-clause-others
returns-clause-others c =
    let is = subst (IsAt c.args.seq c.in_ok-at.at) c.deref.ensures.value c.in_ok-at.ensures.some in
    let k = taken_at c.args.seq c.in_ok-at.at c.self.inside.entries.items c.index_mut.result.now c.take.new.self c.self.invariant.entries is c.index_mut.ensures.value c.take.ensures.after in
    c.close_up.ensures.there ∙ k.others ∙ ap (lacking c.args.seq) c.self.view_is
