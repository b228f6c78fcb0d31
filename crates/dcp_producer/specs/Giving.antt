-- how a producer gives vBuckets up to its consumer's, in front of a pull, as a program over its node's vBuckets
use Rattle.std.specs.Prelude.{ℕ, ◌&&◌, not, Bool, true, false, nat_lt, nat_le, if◌then◌else◌, List, [], ◌∷◌, ◌++◌, length, Option, Some, None}
use Rattle.std.specs.Option.{option_map}
use Rattle.takeover.specs.GivingUp.{done}
use Rattle.takeover.specs.declared.give_up.GiveStep.{GiveStep}
use Rattle.takeover.specs.declared.give_up.GiveStep.TheVariants as step
use Rattle.takeover.specs.declared.give_up.GiveUp.{GiveUp}
use Rattle.vb_calls.specs.declared.calls.VbAnswer.{VbAnswer}
use Rattle.vb_calls.specs.declared.calls.VbAnswer.TheVariants as answer
use Rattle.vb_calls.specs.declared.calls.VbCall.TheVariants as call
use Rattle.vb_calls.specs.declared.calls.VbReply.{VbReply}
use Rattle.vb_calls.specs.Programs.{Prog, Done, Call, bind, each}
use Rattle.flow_control.specs.Windows.{is_open}
use Rattle.dcp_producer.specs.declared.yields.Yielded.{Yielded}
use Rattle.dcp_producer.specs.Producers.{PlainStream, PlainProducer}

-- the step in which a vBucket is given up
abbrev pub is_yield : GiveStep → Bool
is_yield step.SendAll = false
is_yield step.SendPending = false
is_yield step.AwaitPending = false
is_yield step.Yield = true
is_yield step.SendRest = false
is_yield step.SendActive = false
is_yield step.AwaitActive = false
is_yield step.End = false

-- a stream that gives its vBucket up is in that step; one that gives none up is in none
abbrev pub yields : Option GiveUp → Bool
yields None = false
yields (Some g) = is_yield g.step

-- the vBucket of a stream is to be given up: the stream is in that step, all of its items are put, and no change of role ended it
abbrev pub is_due : PlainStream → Bool
is_due stream = yields stream.gives && nat_le (length stream.items) stream.next && not stream.ended

-- what is told where the vBucket v was given up: which streams that ended there, and what became of durable writes that are waited for; any other answer says that it was not
abbrev pub told_by : ℕ → VbReply → VbAnswer → Option Yielded
told_by v reply answer.Done = Some (record { vb = v; ended = reply.ended; resolved = reply.resolved })
told_by v reply other = None

-- the same of a reply; where there is no such vBucket, none was given up
abbrev pub told_as : ℕ → Option VbReply → Option Yielded
told_as v None = None
told_as v (Some reply) = told_by v reply reply.answer

-- the stream then: its step is done where its vBucket was given up, and else it is ended, as by a change of role there
abbrev pub behind_yield : Option Yielded → PlainStream → PlainStream
behind_yield None stream = record stream { ended = true }
behind_yield (Some told) stream = record stream { gives = option_map done stream.gives }

-- the vBucket of a stream is given up, if it is to be; the stream then, and what was told
abbrev pub stream_given : PlainStream → Prog (PlainStream × Option Yielded)
stream_given stream =
    if is_due stream then Call stream.vb (call.Yield stream.id) (λ reply. Done (behind_yield (told_as stream.vb reply) stream, told_as stream.vb reply))
    else Done (stream, None)

-- the streams that had their turns so far, as they are then, and the vBuckets that were given up for them
pub record Given : Type 0 where
  pub streams : List PlainStream
  pub yielded : List Yielded

-- none
abbrev pub none_given : Given
none_given = record { streams = []; yielded = [] }

-- with what was told, if anything was
abbrev pub with_told : Option Yielded → List Yielded → List Yielded
with_told None yielded = yielded
with_told (Some told) yielded = yielded ++ told ∷ []

-- one more
abbrev pub with_given : Given → PlainStream × Option Yielded → Given
with_given g (stream, told) = record { streams = g.streams ++ stream ∷ []; yielded = with_told told g.yielded }

-- one more stream has its turn
abbrev pub one_given : PlainStream → Given → Prog Given
one_given stream g = bind (stream_given stream) (λ x. Done (with_given g x))

-- the connection behind, and the vBuckets that were given up
pub record Yields : Type 0 where
  pub end : PlainProducer
  pub yielded : List Yielded

-- the streams of a connection go on so; nothing else of it changes
abbrev pub given_of : PlainProducer → Given → Yields
given_of end g = record { end = record end { streams = g.streams }; yielded = g.yielded }

-- the vBuckets of its streams are given up that are to be, in the order in which the streams were opened
abbrev pub all_given : PlainProducer → Prog Yields
all_given end = bind (each one_given end.streams none_given) (λ g. Done (given_of end g))

-- in front of a pull of so many frames, the vBuckets are given up that are to be; none where no frame is asked for, or the window is shut
unfoldable pub given_up : ℕ → PlainProducer → Prog Yields
given_up k end =
    if nat_lt 0 k && is_open end.window then all_given end
    else Done (record { end = end; yielded = [] })
