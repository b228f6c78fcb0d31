use Rattle.std.proofs.Common.{◌≡◌, suc, ◌+◌, subst, arith}
use Rattle.storm.proofs.Turns.{Reading, is_read, read_begin, read_end, read_on, read_stop}
use Rattle.storm.proofs.reading.read_all.Goals as goal

pub loop-init : goal.loop-init
loop-init g c = λ vb r. read_begin c.args.v c.args.id c.args.count vb c.args.seats.now c.new-image.result c.new-image.ensures r

pub read_next-requires : goal.read_next-requires
read_next-requires g c = is_read c.args.v c.args.id c.args.count c.loop.counter c.requires.0 c.loop.seats c.loop.image (c.loop.invariant c.requires.0 c.requires.1)

pub returns-then-not-branch : goal.returns-then-not-branch
returns-then-not-branch g c = λ vb r.
    read_stop c.args.v c.args.id c.args.count c.loop.counter vb c.loop.seats c.read_next.new.seats c.loop.image c.read_next.new.image c.in_ok-read_next.field-0 c.loop-test.true (c.loop.invariant vb r) c.in_ok-read_next.ensures c.if-not-branch.true

pub loop-preserved : goal.loop-preserved
loop-preserved g c = λ vb r.
    subst (λ n. Reading c.args.v c.args.id c.args.count n vb c.read_next.new.seats c.read_next.new.image) (let e : suc c.loop.counter ≡ c.loop.counter + 1 = omega arith in e)
    (read_on c.args.v c.args.id c.args.count c.loop.counter vb c.loop.seats c.read_next.new.seats c.loop.image c.read_next.new.image c.in_ok-read_next.field-0 c.loop-test.true (c.loop.invariant vb r) c.in_ok-read_next.ensures)

pub returns : goal.returns
returns g c = λ vb r. read_end c.args.v c.args.id c.args.count c.loop.counter vb c.loop.seats c.loop.image c.loop-test.false (c.loop.invariant vb r)
