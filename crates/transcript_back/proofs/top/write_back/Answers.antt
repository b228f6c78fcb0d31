use Rattle.transcript_back.proofs.Endings.{completes, unread}
use Rattle.transcript_back.proofs.top.write_back.Goals as goal

pub returns-in-Err-clause-complete : goal.returns-in-Err-clause-complete
returns-in-Err-clause-complete g c =
    let old = g.I.Source.intake c.args.input.now in
    let new = g.I.Source.intake c.read_all.new.input in
    let outlet = g.O.Sink.outlet c.args.output.now in
    completes old new outlet outlet c.in-Err.status (unread old new outlet c.in-Err.status c.in-Err.ensures.read)
