use Rattle.turn_tests.proofs.Puts.{weighed}
use Rattle.vb_turn.specs.Words.{view}
use Rattle.turn_tests.proofs.workers.weigh_all.Goals as goal

pub returns : goal.returns
returns g c = let e = c.in_ok-put_all.ensures in (e.0, weighed c.args.values.now (view c.args.seat) (view c.in_ok-put_all.field-0) e.1)
