use Rattle.std.proofs.Common.{rules}
use Rattle.vb_turn.specs.Seats.{Finished, Called}
use Rattle.vb_turn.proofs.Steps.{held_by, called_by, if_ok}
use Rattle.vb_turn.proofs.seat.Turn.call.Goals as goal

pub call_and_release-requires : goal.call_and_release-requires
call_and_release-requires g c = let t = g.M.Machine in
    record { seat = (search rules, held_by t.stands t.next t.number c.args.seat.now.own.me c.claim.new.own.me c.claim.ensures.took c.args.seat.now.idle.0) }

pub returns-clause-ok : goal.returns-clause-ok
returns-clause-ok g c = let t = g.M.Machine in
    if_ok (λ reply. Finished t.stands t.next t.number c.claim.new.own.me.0 (c.args.call, reply) c.call_and_release.new.own.me)
    (λ reply. Called t.stands t.next t.number c.args.seat.now.own.me.0 (c.args.call, reply) c.call_and_release.new.own.me.0)
    c.call_and_release.result
    (λ reply finished. called_by t.stands t.next t.number c.args.seat.now.own.me c.claim.new.own.me c.call_and_release.new.own.me (c.args.call, reply) c.claim.ensures.took finished)
    c.call_and_release.ensures.ok
