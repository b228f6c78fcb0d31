use Rattle.std.proofs.Common.{rules, ◌<◌, sym, subst, arith}
use Rattle.vb_turn.specs.History.{Sound, Ends}
use Rattle.vb_turn.proofs.Keeps.{joins, loads}
use Rattle.vb_turn.proofs.Steps.{gathered_by}
use Rattle.vb_turn.proofs.seat.Turn.join_seat.Goals as goal

pub join_seat-requires : goal.join_seat-requires
join_seat-requires g c = let t = g.M.Machine in
    (search rules, search rules, search rules, search rules, joins (Sound t.stands t.next t.number) (Ends t.stands t.next) _ _ _ _ _ c.args.into.now.idle.3 c.args.gone.idle.1)

pub load-requires : goal.load-requires
load-requires g c = let t = g.M.Machine in let some_part = c.args.into.now.idle.3 in let now = c.join_seat.ensures.2 in
    (search rules, search rules, loads (Sound t.stands t.next t.number) (Ends t.stands t.next) _ _ _ _ (subst (λ m. 0 < m.0.parts) (sym now) (omega arith)))

pub returns-clause-joined : goal.returns-clause-joined
returns-clause-joined g c = let t = g.M.Machine in
    gathered_by t.stands t.next t.number c.args.into.now.own.me.0 c.args.gone.own.me.0 c.join_seat.new.seat.me c.load.new.seat.me _ c.load.result c.join_seat.ensures.2 c.load.ensures.2
