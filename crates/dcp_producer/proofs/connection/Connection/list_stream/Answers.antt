use Rattle.std.proofs.Common.{ap, subst, sym}
use Rattle.std.specs.Prelude.{◌<◌, ◌≤◌, ◌+◌, ◌*◌, ◌^◌}
use Rattle.std.specs.List.{All}
use Rattle.dcp_producer.proofs.Kept.{kept_more}
use Rattle.dcp_producer.proofs.connection.Connection.list_stream.Goals as goal

pub invariant_of-self-in-Ok : goal.invariant_of-self-in-Ok
invariant_of-self-in-Ok c =
    let later = subst (λ s. All (λ other. other.id < c.args.stream.id) s.end.streams) (sym c.self.view_is) c.requires.later in
    let asked = subst (λ s. c.args.stream.id ≤ s.end.desk.base * 2 ^ 32 + s.end.asked) (sym c.self.view_is) c.requires.asked in
    let id = ap (λ t. t.id) c.stream.view_is in
    rw (c.in_ok-push.ensures.items, c.in-Ok.ensures.ok, id) (kept_more c.self.inside.desk.base c.self.inside.asked c.self.inside.streams.items c.self.inside.ring c.args.stream later asked c.self.invariant)
