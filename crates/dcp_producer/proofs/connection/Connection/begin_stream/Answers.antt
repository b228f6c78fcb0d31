use Rattle.std.proofs.Common.{◌≡◌, ap, refl, subst}
use Rattle.vb_types.specs.declared.stream.AskAnswer.{AskAnswer}
use Rattle.vb_types.specs.declared.stream.AskAnswer.TheVariants as ask_answer
use Rattle.vb_types.specs.declared.stream.Place.{Place}
use Rattle.vb_types.specs.declared.stream.Place.TheVariants as place
use Rattle.mcbp_frame.specs.declared.frame.Frame.{Frame}
use Rattle.vb_types.specs.declared.stream.StreamAsk.{StreamAsk}
use Rattle.flow_control.specs.Rings.{PlainRing}
use Rattle.dcp_producer.specs.Producers.{IsKept, PlainProducer, PlainStream, is_sync, with_opened, without_stream}
use Rattle.dcp_producer.specs.Serving.{kept_listed, new_stream, next_stream, with_asked, with_granted}
use Rattle.dcp_producer.proofs.Kept.{dropped_back, sourced_behind}
use Rattle.dcp_producer.proofs.connection.Connection.begin_stream.Goals as goal

abbrev listed : PlainProducer → Frame → StreamAsk → PlainStream
listed end f ask = new_stream (next_stream end) f ask (is_sync end.handshake) place.Memory

-- without it the connection is as it was, but for how many streams were asked for
back : (end : PlainProducer) (f : Frame) (ask : StreamAsk) (ring : PlainRing) → ring.turn ≡ end.turn → IsKept end.desk.base end.asked end.streams ring
    → without_stream (next_stream end) (with_opened (listed end f ask) (with_asked end)) ≡ with_asked end
back end f ask ring turn kept = dropped_back end ring (next_stream end) (listed end f ask) refl refl turn kept

-- as it is answered it is the one that is granted, or is gone
kept_so : (end : PlainProducer) (f : Frame) (ask : StreamAsk) (ring : PlainRing) → ring.turn ≡ end.turn → IsKept end.desk.base end.asked end.streams ring → (from : Place) (said : AskAnswer)
    → kept_listed said from (next_stream end) (with_opened (listed end f ask) (with_asked end)) ≡ with_granted (with_asked end) (next_stream end) f ask from said
kept_so end f ask ring turn kept from ask_answer.Go = ap (λ streams. record (with_asked end) { streams = streams }) (sourced_behind end ring from (next_stream end) (listed end f ask) refl refl kept)
kept_so end f ask ring turn kept from (ask_answer.Roll to) = back end f ask ring turn kept
kept_so end f ask ring turn kept from (ask_answer.Refuse code) = back end f ask ring turn kept

pub returns-in_err-list_stream-clause-back : goal.returns-in_err-list_stream-clause-back
returns-in_err-list_stream-clause-back c =
    back c.args.self.now.end c.args.f.now c.args.ask.now c.self.inside.ring (ap (λ s. s.end.turn) c.self.view_is) (subst (λ s. IsKept s.end.desk.base s.end.asked s.end.streams c.self.inside.ring) c.self.view_is c.self.invariant)

pub returns-in_err-list_stream-clause-kept : goal.returns-in_err-list_stream-clause-kept
returns-in_err-list_stream-clause-kept c =
    kept_so c.args.self.now.end c.args.f.now c.args.ask.now c.self.inside.ring (ap (λ s. s.end.turn) c.self.view_is) (subst (λ s. IsKept s.end.desk.base s.end.asked s.end.streams c.self.inside.ring) c.self.view_is c.self.invariant)

pub returns-clause-back : goal.returns-clause-back
returns-clause-back c =
    back c.args.self.now.end c.args.f.now c.args.ask.now c.self.inside.ring (ap (λ s. s.end.turn) c.self.view_is) (subst (λ s. IsKept s.end.desk.base s.end.asked s.end.streams c.self.inside.ring) c.self.view_is c.self.invariant)

pub returns-clause-kept : goal.returns-clause-kept
returns-clause-kept c =
    kept_so c.args.self.now.end c.args.f.now c.args.ask.now c.self.inside.ring (ap (λ s. s.end.turn) c.self.view_is) (subst (λ s. IsKept s.end.desk.base s.end.asked s.end.streams c.self.inside.ring) c.self.view_is c.self.invariant)
