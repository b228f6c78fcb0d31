use Rattle.std.proofs.Common.{◌≡◌, ℕ}
use Rattle.node_threads.specs.Seats.{rows_of}
use Rattle.storm_model.specs.Sums.{storm_sum}
use Rattle.storm.specs.Ending.{EndsWith}
use Rattle.storm.specs.Rows.{AllTwo}
use Rattle.storm.proofs.Tail.{alone_each, if_ok, lines_are}
use Rattle.storm.proofs.whole.storm.Goals as goal

pub end_all-requires : goal.end_all-requires
end_all-requires g c =
    let plan = c.args.plan.now in
    alone_each plan.seed plan.clients plan.writes 0 (rows_of c.run_clients.new.slots.items) plan.fits c.in_ok-run_clients.ensures.1

pub returns : goal.returns
returns g c =
    let plan = c.args.plan.now in
    if_ok _ (λ lines. lines.items ≡ storm_sum plan.seed plan.clients plan.writes) c.end_all.result c.end_all.ensures
    (λ lines h. lines_are plan.seed plan.clients plan.writes (rows_of c.run_clients.new.slots.items) lines.items plan.fits c.in_ok-run_clients.ensures h)
