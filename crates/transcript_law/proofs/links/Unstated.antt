-- what a frame comes to that tells no state which is in order, and which links obey a state
use Rattle.std.proofs.Common.{◌≡◌, Bool, true, false, refl, ap, sym, ◌∙◌, inl, Option, Some, None}
use Rattle.std.specs.Prelude.{◌==◌, ◌&&◌, if◌then◌else◌}
use Rattle.mcbp_frame.specs.declared.frame.Frame.{Frame}
use Rattle.mcbp_frame.specs.declared.frame.TheConstants.{RESPONSE}
use Rattle.mcbp_dcp.specs.Messages.{read_of}
use Rattle.takeover.specs.declared.take_over.TakeOver.{TakeOver}
use Rattle.takeover.specs.declared.take_over.TakeStep.{TakeStep}
use Rattle.vb_events.specs.declared.event.EndReason.{EndReason}
use Rattle.dcp_consumer.specs.Machine.{PlainConsumer, frame_step, is_streaming, over_why, state_due, state_in, state_or, state_told, taking_of, unstated_step}
use Rattle.dcp_consumer.specs.declared.handshake.ConsumerStep.{ConsumerStep}
use Rattle.dcp_consumer.specs.declared.handshake.ConsumerStep.TheVariants as step
use Rattle.dcp_consumer.specs.declared.handshake.Dialed.{Dialed}
use Rattle.dcp_consumer.specs.declared.handshake.Handshake.{Handshake}
use Rattle.dcp_consumer.specs.States.{ComesTo}
use Rattle.dcp_consumer.proofs.States.{comes_to_so, comes_to_itself}

-- ---- no state is told

untold : (c : PlainConsumer) (f : Frame) → state_told c f ≡ None → frame_step c f ≡ unstated_step c f
unfolding frame_step
untold c f e = ap (λ o. state_or f.opaque o (unstated_step c f)) e

-- an answer tells none
pub answer_unstated : (c : PlainConsumer) (f : Frame) → (f.magic == RESPONSE) ≡ true → frame_step c f ≡ unstated_step c f
answer_unstated c f e = untold c f (ap (λ b. if b then None else state_due (taking_of c) (state_in (read_of f))) e)

either_none : (b : Bool) (o : Option TakeStep) → o ≡ None → (if b then None else o) ≡ None
either_none true o e = refl
either_none false o e = e

none_due : (taking : Option TakeOver) → state_due taking None ≡ None
none_due None = refl
none_due (Some t) = refl

-- nor does a message that is none
pub message_unstated : (c : PlainConsumer) (f : Frame) → state_in (read_of f) ≡ None → frame_step c f ≡ unstated_step c f
message_unstated c f e =
    untold c f (either_none (f.magic == RESPONSE) (state_due (taking_of c) (state_in (read_of f))) (ap (state_due (taking_of c)) e ∙ none_due (taking_of c)))

-- before its stream is granted a consumer takes none
pub early_unstated : (c : PlainConsumer) (f : Frame) (h : Handshake) → c.handshake ≡ h → is_streaming h ≡ false → frame_step c f ≡ unstated_step c f
early_unstated c f h e early =
    untold c f (either_none (f.magic == RESPONSE) (state_due (taking_of c) (state_in (read_of f)))
    (ap (λ x. state_due (if is_streaming x && c.dialed.takeover then Some c.taking else None) (state_in (read_of f))) e
    ∙ ap (λ b. state_due (if b && c.dialed.takeover then Some c.taking else None) (state_in (read_of f))) early))

-- once the link is over, nothing is taken
pub over_dropped : (c : PlainConsumer) (f : Frame) (why : EndReason) → over_why c.handshake ≡ Some why → frame_step c f ≡ step.Dropped
over_dropped c f why e = comes_to_so c f step.Dropped (inl (λ none. let never : Some why ≡ None = sym e ∙ none in cc))

-- ---- a state is obeyed on a link alone that takes the vBucket over

abbrev pub OfTakeover : Dialed → ConsumerStep → Type 0
OfTakeover d (step.State take opaque) = d.takeover ≡ true
OfTakeover d other = Unit {0}

pub step_of_takeover : (c : PlainConsumer) (f : Frame) → OfTakeover c.dialed (frame_step c f)
step_of_takeover c f = by (frame_step c f) (comes_to_itself c f)
  where
    by : (s : ConsumerStep) → ComesTo c f s → OfTakeover c.dialed s
    by (step.State take opaque) p = p.0.0.2
    by other p = tt
