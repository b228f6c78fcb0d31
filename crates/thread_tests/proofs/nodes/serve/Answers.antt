use Rattle.std.proofs.Common.{◌∙◌, ap}
use Rattle.thread_tests.proofs.Tables.{serves}
use Rattle.thread_tests.proofs.nodes.serve.Goals as goal

pub returns : goal.returns
returns g c =
    serves c.args.seats _ c.over-node.result c.open.new.self c.feed_all.new.node c.over-node.ensures.vbs
    (ap (λ n. n.vbs) c.in_ok-key.ensures.ok.rest) c.in_ok-answered.ensures (c.into_seats.ensures ∙ c.into_vbs.ensures)
