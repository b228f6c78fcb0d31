use Rattle.std.proofs.Common.{◌<◌, ap, sym, subst, length}
use Rattle.dcp_producer.specs.Pulling.{turn_of, pull_of}
use Rattle.dcp_producer.proofs.Kept.{kept_set, get_set}
use Rattle.dcp_producer.proofs.Staying.{stays_set, stays_behind_set}
use Rattle.dcp_producer.proofs.Turns.{on_err, if_ok, asked_began, asked_behind, asked_ran}
use Rattle.dcp_producer.proofs.connection.Connection.ask_stream.Goals as goal

pub invariant_of-self : goal.invariant_of-self
invariant_of-self g c =
    kept_set c.self.inside.desk.base c.self.inside.asked c.self.inside.streams.items c.self.inside.ring c.args.at c.index_mut.result.now c.next_frame.new.self
    c.index_mut.ensures.value (ap (λ n. n.0) c.next_frame.ensures.same) c.self.invariant

pub returns-in_err-next-clause-err : goal.returns-in_err-next-clause-err
returns-in_err-next-clause-err g c stream there =
    on_err c.from_residual.result _
    (asked_began g.A.VbAccess.step g.J.Journals.asks _ c.args.self.now c.self.view_is c.args.quiet.now c.args.at c.index_mut.result.now stream c.index_mut.ensures.value there c.args.vbs.now c.args.disks.now c.next_frame.new.vbs c.next_frame.new.disks
    c.in_err-next.ensures.err)

pub invariant_of-self-2 : goal.invariant_of-self-2
invariant_of-self-2 g c =
    kept_set c.self.inside.desk.base c.self.inside.asked c.self.inside.streams.items c.self.inside.ring c.args.at c.index_mut.result.now c.next_frame.new.self
    c.index_mut.ensures.value (ap (λ n. n.0) c.next_frame.ensures.same) c.self.invariant

pub returns-clause-err : goal.returns-clause-err
returns-clause-err g c stream there =
    on_err c.put_next.result _
    (asked_behind g.A.VbAccess.step g.J.Journals.asks _ c.args.self.now c.self.view_is c.args.quiet.now c.args.at c.index_mut.result.now stream c.index_mut.ensures.value there
    c.in_ok-next.next c.next_frame.new.self c.args.vbs.now c.args.disks.now c.next_frame.new.vbs c.next_frame.new.disks c.in_ok-next.ensures.ok)

pub returns-in_err-next-clause-same : goal.returns-in_err-next-clause-same
returns-in_err-next-clause-same g c =
    stays_set _ c.args.self.now.end (ap (λ s. s.end) c.self.view_is) c.args.at c.index_mut.result.now c.next_frame.new.self c.index_mut.ensures.value c.next_frame.ensures.same

pub returns-clause-ok : goal.returns-clause-ok
returns-clause-ok g c stream there =
    let low = subst (λ s. c.args.at < length s.end.streams) (sym c.self.view_is) c.requires.there in
    if_ok c.put_next.result _ _
    (λ turned came. asked_ran g.A.VbAccess.step g.J.Journals.asks _ c.args.self.now c.self.view_is c.args.quiet.now c.args.at c.index_mut.result.now stream c.index_mut.ensures.value there
    c.in_ok-next.next c.next_frame.new.self c.args.vbs.now c.args.disks.now c.next_frame.new.vbs c.next_frame.new.disks (turn_of turned (pull_of c.put_next.new.self c.put_next.new.quiet)) c.self.invariant.rise c.next_frame.ensures.same
    c.in_ok-next.ensures.ok came)
    (c.put_next.ensures.ok c.next_frame.new.self (get_set c.self.inside.streams.items c.args.at c.next_frame.new.self low))

pub returns-clause-same : goal.returns-clause-same
returns-clause-same g c =
    stays_behind_set _ c.args.self.now.end (ap (λ s. s.end) c.self.view_is) c.args.at c.index_mut.result.now c.next_frame.new.self c.put_next.new.self.end
    c.index_mut.ensures.value c.next_frame.ensures.same c.put_next.ensures.same
