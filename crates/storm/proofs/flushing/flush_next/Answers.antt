use Rattle.std.proofs.Common.{sym, ◌∙◌}
use Rattle.vb_calls.proofs.AllSteps.{all_steps}
use Rattle.disk_journals.specs.Asking.{disk_asks}
use Rattle.node_threads.specs.Seats.{seat_step}
use Rattle.storm.specs.Ending.{mem_device}
use Rattle.storm.proofs.Tail.{flushes}
use Rattle.storm.proofs.flushing.flush_next.Goals as goal

pub returns : goal.returns
returns g c = λ vb r q.
    let steps = all_steps seat_step (disk_asks mem_device) c.args.v c.args.seats.now c.args.journals.now c.in_ok-came.came c.flush.new.vbs c.flush.new.self c.in_ok-came.ensures.ok in
    let t = flushes c.args.v vb c.args.seats.now c.flush.new.vbs c.args.journals.now c.flush.new.self c.in_ok-came.came steps r q in
    (t.0, t.1, λ e. t.2 (sym c.is_done.ensures ∙ e))
