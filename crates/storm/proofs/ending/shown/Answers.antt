use Rattle.vb_calls.specs.declared.calls.VbCall.TheVariants as call
use Rattle.storm.proofs.Tail.{reads, told_image}
use Rattle.storm.proofs.ending.shown.Goals as goal

pub returns : goal.returns
returns g c = λ vb r.
    let t = reads c.args.v c.args.seats.now c.call.new.self vb call.Show c.in_ok-answer.field-0 r c.in_ok-answer.ensures.ok in
    (t.1, told_image vb c.in_ok-answer.field-0 c.in-Some.field-0 c.in-Shown.role c.in-Shown.uuid c.in-Shown.ss c.in-Shown.se c.in-Shown.at c.in-Shown.image t.0 c.in-Some.is c.in-Shown.is)
