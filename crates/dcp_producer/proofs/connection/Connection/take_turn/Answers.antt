use Rattle.std.proofs.Common.{ap, sym, ◌∙◌, refl, subst}
use Rattle.std.specs.Prelude.{◌==◌, IfOk, OnErr}
use Rattle.vb_calls.specs.Jobs.{BeganJob, RanJob}
use Rattle.dcp_producer.specs.Pulling.{is_quiet, one_turn, pull_of, turn_of}
use Rattle.std.specs.List.{position}
use Rattle.dcp_producer.proofs.Staying.{stays_turn, stays_behind_turn}
use Rattle.dcp_producer.proofs.Turns.{turn_quiet, turn_none, turn_asked}
use Rattle.dcp_producer.proofs.connection.Connection.take_turn.Goals as goal

pub returns-in_default-clause-same : goal.returns-in_default-clause-same
returns-in_default-clause-same g c = stays_turn _ c.args.self.now.end (ap (λ s. s.end) c.self.view_is) c.next.new.self.turn

pub returns-then-has-clause-ok : goal.returns-then-has-clause-ok
returns-then-has-clause-ok g c =
    rw c.has.ensures.same
    (turn_quiet g.A.VbAccess.step g.J.Journals.asks _ c.args.self.now c.self.view_is c.args.quiet.now c.self.inside.ring c.next.new.self c.self.invariant.ids refl c.in-Some.id (sym c.next.ensures.id ∙ c.in-Some.is)
    c.next.ensures.ring c.args.vbs.now c.args.disks.now (sym c.has.ensures.quiet ∙ c.if-has.true))

pub returns-then-has-clause-same : goal.returns-then-has-clause-same
returns-then-has-clause-same g c = stays_turn _ c.args.self.now.end (ap (λ s. s.end) c.self.view_is) c.next.new.self.turn

pub returns-in-Some-place_of-clause-ok : goal.returns-in-Some-place_of-clause-ok
returns-in-Some-place_of-clause-ok g c =
    let (t, there, so) = turn_asked g.A.VbAccess.step g.J.Journals.asks _ c.args.self.now c.self.view_is c.has.new.self c.self.inside.ring c.next.new.self c.self.invariant.ids refl c.in-Some.id
    (sym c.next.ensures.id ∙ c.in-Some.is) c.next.ensures.ring c.in-Some-place_of.at (ap (position (λ stream. stream.id == c.in-Some.id)) (sym c.deref.ensures.value) ∙ sym c.place_of.ensures ∙ c.in-Some-place_of.is)
    (ap (is_quiet c.in-Some.id) c.has.ensures.same ∙ sym c.has.ensures.quiet ∙ c.if-has.false) in
    subst (λ q. IfOk c.ask_stream.result (λ turned. RanJob g.A.VbAccess.step g.J.Journals.asks (one_turn (pull_of c.args.self.now q)) c.args.vbs.now c.args.disks.now (turn_of turned (pull_of c.ask_stream.new.self c.ask_stream.new.quiet)) c.ask_stream.new.vbs c.ask_stream.new.disks)) c.has.ensures.same (rw so (c.ask_stream.ensures.ok t there))

pub returns-in-Some-place_of-clause-err : goal.returns-in-Some-place_of-clause-err
returns-in-Some-place_of-clause-err g c =
    let (t, there, so) = turn_asked g.A.VbAccess.step g.J.Journals.asks _ c.args.self.now c.self.view_is c.has.new.self c.self.inside.ring c.next.new.self c.self.invariant.ids refl c.in-Some.id
    (sym c.next.ensures.id ∙ c.in-Some.is) c.next.ensures.ring c.in-Some-place_of.at (ap (position (λ stream. stream.id == c.in-Some.id)) (sym c.deref.ensures.value) ∙ sym c.place_of.ensures ∙ c.in-Some-place_of.is)
    (ap (is_quiet c.in-Some.id) c.has.ensures.same ∙ sym c.has.ensures.quiet ∙ c.if-has.false) in
    subst (λ q. OnErr c.ask_stream.result (BeganJob g.A.VbAccess.step g.J.Journals.asks (one_turn (pull_of c.args.self.now q)) c.args.vbs.now c.args.disks.now c.ask_stream.new.vbs c.ask_stream.new.disks)) c.has.ensures.same (rw so (c.ask_stream.ensures.err t there))

pub returns-in-Some-place_of-clause-same : goal.returns-in-Some-place_of-clause-same
returns-in-Some-place_of-clause-same g c =
    stays_behind_turn _ c.args.self.now.end (ap (λ s. s.end) c.self.view_is) c.next.new.self.turn c.ask_stream.new.self.end c.ask_stream.ensures.same

pub returns-in-None-clause-ok : goal.returns-in-None-clause-ok
returns-in-None-clause-ok g c =
    rw c.has.ensures.same
    (turn_none g.A.VbAccess.step g.J.Journals.asks _ c.args.self.now c.self.view_is c.args.quiet.now c.self.inside.ring c.next.new.self c.self.invariant.ids refl c.in-Some.id (sym c.next.ensures.id ∙ c.in-Some.is)
    c.next.ensures.ring c.args.vbs.now c.args.disks.now (ap (position (λ stream. stream.id == c.in-Some.id)) (sym c.deref.ensures.value) ∙ sym c.place_of.ensures ∙ c.in-None.is))

pub returns-in-None-clause-same : goal.returns-in-None-clause-same
returns-in-None-clause-same g c = stays_turn _ c.args.self.now.end (ap (λ s. s.end) c.self.view_is) c.next.new.self.turn
