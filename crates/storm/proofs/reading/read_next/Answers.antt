use Rattle.vb_calls.specs.declared.calls.VbCall.TheVariants as call
use Rattle.storm.proofs.Tail.{next_read, reads}
use Rattle.storm.proofs.reading.read_next.Goals as goal

pub returns : goal.returns
returns g c =
    next_read c.args.v c.args.id c.args.seats.now c.call.new.self c.args.image.now c.take_in.new.image c.in_ok-reply.field-0 c.in-Some.reply c.take_in.result
    (λ vb r. reads c.args.v c.args.seats.now c.call.new.self vb (call.Take c.args.id) c.in_ok-reply.field-0 r c.in_ok-reply.ensures.ok)
    c.in-Some.is c.take_in.ensures.image c.take_in.ensures.more
