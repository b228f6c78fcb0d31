use Rattle.vb_calls.specs.declared.calls.VbCall.TheVariants as call
use Rattle.storm.proofs.Tail.{reads, told_numbers}
use Rattle.storm.proofs.ending.numbers.Goals as goal

pub returns : goal.returns
returns g c = λ vb r.
    let t = reads c.args.v c.args.seats.now c.call.new.self vb call.Stat c.in_ok-reply.field-0 r c.in_ok-reply.ensures.ok in
    let n = told_numbers vb c.in_ok-reply.field-0 c.in-Some.reply c.in-Stat.windows c.in-Stat.items c.in-Stat.cursors c.in-Stat.saved c.in-Stat.high t.0 c.in-Some.is c.in-Stat.is in
    (t.1, n.0, n.1)
