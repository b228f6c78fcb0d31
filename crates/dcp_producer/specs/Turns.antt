-- the turns of a pull: which stream is asked for the next frame, in words beside the definitions
use Rattle.std.specs.Prelude.{◌≡◌, List, [], ◌∷◌, ◌++◌, take, drop}
use Rattle.std.specs.List.{flat_map}
use Rattle.mcbp_frame.specs.declared.frame.Frame.{Frame}
use Rattle.mcbp_dcp.specs.declared.message.DcpMsg.TheVariants as msg
use Rattle.mcbp_dcp.specs.DcpFrames.{dcp_frame}
use Rattle.vb_events.specs.declared.event.Event.{Event}
use Rattle.vb_events.specs.declared.event.Event.TheVariants as event
use Rattle.vb_events.specs.declared.event.StreamName.{StreamName}
use Rattle.vb_calls.specs.Programs.{Made}
use Rattle.vb_told.specs.Told.{ToldJob}
use Rattle.dcp_producer.specs.declared.next_frame.NextFrame.{NextFrame}
use Rattle.dcp_producer.specs.declared.next_frame.NextFrame.TheVariants as next
use Rattle.dcp_producer.specs.Frames.{next_frame}
use Rattle.dcp_producer.specs.Producers.{PlainStream, PlainProducer}

-- the streams of a connection in the order of their next turns: those behind the one that had the last turn, and then the others
abbrev pub turns_of : PlainProducer → List PlainStream
turns_of end = drop end.turn end.streams ++ take end.turn end.streams

-- a stream was asked for its next frame: as it stood, with these calls, what it came to, and as it went on
pub record Tried : Type 0 where
  pub stream : PlainStream
  pub made : List Made
  pub next : NextFrame
  pub left : PlainStream

-- the stream's next frame was so
abbrev pub IsTold : StreamName → Tried → Type 0
IsTold name t = ToldJob (next_frame name t.stream) t.made (t.next, t.left)

-- who waits for the next turn behind this one: a stream that put a frame comes last, as one whose journal can't be read, and one that is over or quiet waits for none
abbrev pub waiting : NextFrame → PlainStream → List PlainStream → List PlainStream
waiting (next.Put m line) left rest = rest ++ left ∷ []
waiting (next.End reason) left rest = rest
waiting (next.Quiet for) left rest = rest
waiting next.Disk left rest = rest ++ left ∷ []

-- streams were asked one after the other, always the first of those that wait
abbrev pub TakeTurns : StreamName → List PlainStream → List Tried → List PlainStream → Type 0
TakeTurns name awake [] left = left ≡ awake
TakeTurns name awake (t ∷ more) left =
    (rest : List PlainStream) × (awake ≡ t.stream ∷ rest) × IsTold name t × TakeTurns name (waiting t.next t.left rest) more left

-- the frame that was put with it and its line, or none
abbrev pub put_by : StreamName → NextFrame → PlainStream → List (Frame × Event)
put_by name (next.Put m line) left = (dcp_frame m left.opaque left.vb, line) ∷ []
put_by name (next.End reason) left = (dcp_frame (msg.StreamEnd reason) left.opaque left.vb, event.Finished name reason) ∷ []
put_by name (next.Quiet for) left = []
put_by name next.Disk left = []

-- all frames that were put, with their lines
abbrev pub put_in : StreamName → List Tried → List (Frame × Event)
put_in name tries = flat_map (λ t. put_by name t.next t.left) tries

-- all calls that were made
abbrev pub made_in : List Tried → List Made
made_in tries = flat_map (λ t. t.made) tries

-- the streams of a connection behind one turn, between those that were opened before and behind it: it is as it was left there, or over
abbrev pub standing_by : NextFrame → PlainStream → List PlainStream → List PlainStream → List PlainStream
standing_by (next.Put m line) left front back = front ++ left ∷ back
standing_by (next.End reason) left front back = front ++ back
standing_by (next.Quiet for) left front back = front ++ left ∷ back
standing_by next.Disk left front back = front ++ left ∷ back

-- the streams of a connection behind these turns: each leaves all others as they are, in their order
abbrev pub StandApart : List PlainStream → List Tried → List PlainStream → Type 0
StandApart streams [] left = left ≡ streams
StandApart streams (t ∷ more) left =
    (front : List PlainStream) × (back : List PlainStream) × (streams ≡ front ++ t.stream ∷ back) × StandApart (standing_by t.next t.left front back) more left

-- the order of the next turns behind one of a stream: behind one that put a frame, or whose journal can't be read, come those behind and then those before it, and it is the last; one that is over leaves the others so; and in a pull one that is quiet keeps its place, as each other one has a turn too before the pull says that there is nothing to put
abbrev pub NextOrder : NextFrame → PlainStream → PlainStream → List PlainStream → List PlainStream → Type 0
NextOrder (next.Put m line) stream left order after = (front : List PlainStream) × (back : List PlainStream) × (order ≡ front ++ stream ∷ back) × (after ≡ (back ++ front) ++ left ∷ [])
NextOrder (next.End reason) stream left order after = (front : List PlainStream) × (back : List PlainStream) × (order ≡ front ++ stream ∷ back) × (after ≡ back ++ front)
NextOrder (next.Quiet for) stream left order after = (front : List PlainStream) × (back : List PlainStream) × (order ≡ front ++ stream ∷ back) × (after ≡ front ++ left ∷ back)
NextOrder next.Disk stream left order after = (front : List PlainStream) × (back : List PlainStream) × (order ≡ front ++ stream ∷ back) × (after ≡ (back ++ front) ++ left ∷ [])

-- and behind these
abbrev pub TurnsOn : List PlainStream → List Tried → List PlainStream → Type 0
TurnsOn order [] after = after ≡ order
TurnsOn order (t ∷ more) after = (mid : List PlainStream) × NextOrder t.next t.stream t.left order mid × TurnsOn mid more after
