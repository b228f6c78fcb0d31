use Rattle.std.proofs.Common.{◌≡◌, suc, ◌+◌, subst, arith}
use Rattle.storm.proofs.Turns.{Flushing, flush_begin, flush_end, flush_on, flush_stop}
use Rattle.storm.proofs.flushing.flush_all.Goals as goal

pub loop-init : goal.loop-init
loop-init g c = λ vb r. flush_begin c.args.v c.args.count vb c.args.seats.now c.in_ok-journals.journals r c.in_ok-journals.ensures

pub returns-then-not-branch : goal.returns-then-not-branch
returns-then-not-branch g c = λ vb r.
    flush_stop c.args.v c.args.count c.loop.counter vb c.loop.seats c.flush_next.new.seats c.loop.journals c.flush_next.new.journals c.in_ok-flush_next.field-0 c.loop-test.true (c.loop.invariant vb r) c.in_ok-flush_next.ensures c.if-not-branch.true

pub loop-preserved : goal.loop-preserved
loop-preserved g c = λ vb r.
    subst (λ n. Flushing c.args.v c.args.count n vb c.flush_next.new.seats c.flush_next.new.journals) (let e : suc c.loop.counter ≡ c.loop.counter + 1 = omega arith in e)
    (flush_on c.args.v c.args.count c.loop.counter vb c.loop.seats c.flush_next.new.seats c.loop.journals c.flush_next.new.journals c.in_ok-flush_next.field-0 c.loop-test.true (c.loop.invariant vb r) c.in_ok-flush_next.ensures)

pub returns : goal.returns
returns g c = λ vb r. flush_end c.args.v c.args.count c.loop.counter vb c.loop.seats c.loop.journals c.loop-test.false (c.loop.invariant vb r)
