use Rattle.std.proofs.Common.{rules, ◌≡◌, ◌-◌, ℕ, List, [], length, take, ap, sym, ◌∙◌, arith}
use Rattle.std.proofs.lemmas.List.{nil_from_length}
use Rattle.std.specs.VecDeque.Iter.{deque_iter_rest}
use Rattle.durability.specs.declared.waiting.Waiting.{Waiting}
use Rattle.durability.specs.Chains.{committed_now}
use Rattle.durability.specs.Outstanding.{acked}
use Rattle.vbucket.specs.Kept.{Kept}
use Rattle.vbucket.specs.Settling.{with_commits}
use Rattle.vbucket.proofs.Planning.{committed_front}
use Rattle.vbucket.proofs.vbucket.VBucket.commit_ready.Goals as goal

pub returns-then-ready-eq0 : goal.returns-then-ready-eq0
returns-then-ready-eq0 c =
    let o = c.args.outstanding.now in
    let ready : ℕ → List Waiting = λ saved. committed_now (acked o.acks) o.others saved o.waiting in
    let none : ready c.args.self.now.rest.saved ≡ [] =
    ap (λ (k : Kept). ready k.rest.saved) (sym c.self.view_is) ∙ nil_from_length (ready c.self.inside.saved) (omega (arith, c.ready-ready.ensures.count, c.if-ready-eq0.true)) in
    ap (λ xs. with_commits c.args.uuid c.args.self.now.rest.base xs c.args.plan.now) (sym none)

pub loop-prepare-init : goal.loop-prepare-init
loop-prepare-init c =
    let o = c.args.outstanding.now in
    let ws : List Waiting = c.waiting.result.now.items in
    let ready : ℕ → List Waiting → List Waiting = λ saved xs. committed_now (acked o.acks) o.others saved xs in
    let count : c.ready-ready.result ≡ length (ready c.self.inside.saved ws) = c.ready-ready.ensures.count ∙ ap (λ xs. length (ready c.self.inside.saved xs)) (sym c.waiting.ensures.prepares) in
    let all : c.ready-ready.result - 0 ≡ c.ready-ready.result = omega arith in
    let front : take (c.ready-ready.result - 0) ws ≡ ready c.args.self.now.rest.saved o.waiting =
    ap (λ n. take n ws) (all ∙ count) ∙ committed_front (acked o.acks) o.others c.self.inside.saved ws ∙ ap (ready c.self.inside.saved) c.waiting.ensures.prepares
    ∙ ap (λ (k : Kept). ready k.rest.saved o.waiting) c.self.view_is in
    let rest : deque_iter_rest c.into_iter-prepare-iterator.result ≡ ready c.args.self.now.rest.saved o.waiting =
    ap deque_iter_rest c.into_iter-prepare-iterator.ensures.into_iter_gives ∙ c.range-prepare-items.ensures.rest ∙ front in
    (ap (λ xs. with_commits c.args.uuid c.args.self.now.rest.base xs c.args.plan.now) rest, search rules)
