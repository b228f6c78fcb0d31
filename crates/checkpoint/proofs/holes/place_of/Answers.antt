use Rattle.std.proofs.Common.{ℕ, rules, sym, subst}
use Rattle.std.specs.Prelude.{Option, IfSome, IfNone}
use Rattle.std.proofs.lemmas.List.Sorted.{answers_always}
use Rattle.vb_types.specs.declared.change.Change.{Change}
use Rattle.checkpoint.specs.Runs.{IsAt, Lacks}
use Rattle.checkpoint.proofs.Runs.{searched}
use Rattle.checkpoint.proofs.holes.place_of.Goals as goal

pub returns-clause-some : goal.returns-clause-some
returns-clause-some c =
    let facts = c.binary_search_by_key.ensures in
    let by_seq = facts.position (λ (e : ℕ × Option Change). e.0) (answers_always _ _ _ (λ f a r g called. search rules)) in
    subst (λ r. IfSome r (λ at. IsAt c.args.seq at c.args.entries.now)) (sym c.ok.ensures.value) (searched c.args.seq c.args.entries.now c.binary_search_by_key.result c.requires facts.bound by_seq).0

pub returns-clause-none : goal.returns-clause-none
returns-clause-none c =
    let facts = c.binary_search_by_key.ensures in
    let by_seq = facts.position (λ (e : ℕ × Option Change). e.0) (answers_always _ _ _ (λ f a r g called. search rules)) in
    subst (λ r. IfNone r (Lacks c.args.seq c.args.entries.now)) (sym c.ok.ensures.value) (searched c.args.seq c.args.entries.now c.binary_search_by_key.result c.requires facts.bound by_seq).1
