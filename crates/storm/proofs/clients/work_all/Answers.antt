use Rattle.std.proofs.Common.{◌≡◌, length, arith}
use Rattle.std.specs.Prelude.{vec_len}
use Rattle.storm.specs.Clients.{HasWorked}
use Rattle.storm.proofs.Jobs.{jobs_two}
use Rattle.storm.proofs.clients.work_all.Goals as goal

pub returns : goal.returns
returns g c =
    let many : vec_len c.args.clients ≡ length c.args.clients.items = omega arith in
    jobs_two _ _ (HasWorked c.args.plan.now) c.args.clients.items (λ n i r job. job.call.met) (vec_len c.args.clients) c.map_vec.result c.map_vec.ensures.len many c.map_vec.ensures.each
