-- a client's connection: its session, and the producer of its streams, with what comes of bytes, of outcomes of durable writes and of frames that are asked for
use Rattle.std.specs.Prelude.{ℕ, suc, ◌+◌, nat_lt, Bool, true, false, if◌then◌else◌, List, [], ◌∷◌, ◌++◌, length, take, drop, Option, Some, None}
use Rattle.mcbp_frame.specs.Frames.{big_32_at}
use Rattle.mcbp_frame.specs.declared.frame.Frame.{Frame}
use Rattle.mcbp_frame.specs.declared.frame.TheConstants.{HEADER_LEN}
use Rattle.client_session.specs.Serving.{PlainSession, Served, served, new_session, bytes_handled, outcome_handled}
use Rattle.client_session.specs.declared.session.SessionStep.{SessionStep}
use Rattle.client_session.specs.declared.session.Who.{Who}
use Rattle.dcp_producer.specs.Ending.{ended_by, end_closed}
use Rattle.dcp_producer.specs.Producers.{PlainProducer, Served as Answered, begun, new_end}
use Rattle.dcp_producer.specs.Pulling.{frames_put, why_of}
use Rattle.dcp_producer.specs.Serving.{frame_answered}
use Rattle.dcp_producer.specs.declared.halt.Halt.{Halt}
use Rattle.vb_calls.specs.Jobs.{Job, Ended, bind_job}
use Rattle.vb_calls.specs.Programs.{Prog, Done, bind, Turn, More, Stop, repeated}
use Rattle.vb_calls.specs.declared.calls.Resolved.{Resolved}
use Rattle.vb_events.specs.declared.event.Answer.{Answer}
use Rattle.vb_events.specs.declared.event.Answer.TheVariants.{Pulled}
use Rattle.vb_events.specs.declared.event.Event.{Event}
use Rattle.vb_events.specs.declared.event.Event.TheVariants as event
use Rattle.vb_events.specs.declared.event.StreamName.TheVariants as name

-- a client's connection: its session, and the producer of its streams
pub record PlainClient : Type 0 where
  pub session : PlainSession
  pub producer : PlainProducer

-- a client's connection as it is kept; it is spent once memory was short for it, and does nothing any more but close its streams
pub record KeptClient : Type 0 where
  pub plain : PlainClient
  pub spent : Bool

-- a new connection
abbrev pub new_client : Who → PlainClient
new_client who = record { session = new_session who; producer = new_end (record { stream = name.Client who.node who.client; node = who.node; base = who.base }) }

-- ---- where the frames of a producer go

-- the length of the frame that bytes begin with: of its header, and of the body that the header tells of; less than a header is all of it
abbrev pub front_len : List ℕ → ℕ
front_len bytes = if nat_lt (length bytes) HEADER_LEN then length bytes else HEADER_LEN + big_32_at bytes 8

-- a frame that no other line tells of, if there is one
abbrev pub reply_alone : ℕ → ℕ → List ℕ → List Event
reply_alone n c [] = []
reply_alone n c (b ∷ bytes) = event.Reply n c (b ∷ bytes) ∷ []

-- a producer's lines with the frames that they tell of, as a client gets them: each frame is a reply directly behind its own line, and an answer of which no line tells stands alone
unfoldable pub with_replies : ℕ → ℕ → List Event → List ℕ → List Event
with_replies n c [] bytes = reply_alone n c bytes
with_replies n c (line ∷ lines) bytes = line ∷ event.Reply n c (take (front_len bytes) bytes) ∷ with_replies n c lines (drop (front_len bytes) bytes)

-- the same of the connection
abbrev pub delivered : Who → Answered → List Event
delivered who a = with_replies who.node who.client a.events a.out

-- a line that a producer tells with an answer: of a request for a stream, or of an acknowledgement with the changes that it made
abbrev pub IsAnswers : Event → Type 0
IsAnswers (event.Asked stream node v ask high log said) = Unit {0}
IsAnswers (event.Counted stream node v member seq) = Unit {0}
IsAnswers (event.Changed node v uuid change) = Unit {0}
IsAnswers other = ⊥

-- the same, or a line of a frame of a stream
abbrev pub IsProducers : Event → Type 0
IsProducers (event.Marked stream start end flags) = Unit {0}
IsProducers (event.Item stream seq act key) = Unit {0}
IsProducers (event.Finished stream reason) = Unit {0}
IsProducers (event.Stated stream role) = Unit {0}
IsProducers other = IsAnswers other

-- ---- bytes, and outcomes

-- a client's connection in a call: itself, the lines that tell what happened so far, and the frame of DCP that its session handed up last, if it is still to be answered
pub record Handling : Type 0 where
  pub client : PlainClient
  pub events : List Event
  pub dcp : Option Frame

-- the same, by what its session did last
abbrev pub handling : PlainClient → SessionStep → Handling
handling client step = record { client = client; events = step.events; dcp = step.dcp }

-- the session went on, with these lines in front and this producer
abbrev pub went_on : List Event → PlainProducer → Served → Handling
went_on events producer s = record { client = record { session = s.session; producer = producer }; events = events ++ s.events; dcp = s.dcp }

-- the producer answered, and the session goes on behind that
abbrev pub passed_on : ℕ → Handling → Answered → Prog (Turn Handling Handling)
passed_on clock h a =
    bind (bytes_handled clock [] (served h.client.session [])) (λ s. Done (More (went_on (h.events ++ delivered h.client.session.who a) a.end s)))

-- a frame that was handed up is answered by the producer; where there is none, no more turns are
abbrev pub passed_by : ℕ → Handling → Option Frame → Prog (Turn Handling Handling)
passed_by clock h None = Done (Stop h)
passed_by clock h (Some f) = bind (frame_answered f (begun h.client.producer)) (passed_on clock h)

unfoldable pub frame_passed : ℕ → Handling → Prog (Turn Handling Handling)
frame_passed clock h = passed_by clock h h.dcp

-- where the turns came to
abbrev pub came_to : Turn Handling Handling → Prog Handling
came_to (More h) = Done h
came_to (Stop h) = Done h

-- frame after frame, until the session hands none up; each that is handed up behind another was among the bytes that were kept
unfoldable pub frames_passed : ℕ → Handling → Prog Handling
frames_passed clock h = bind (repeated (suc (length h.client.session.reader)) (frame_passed clock) h) came_to

-- a connection that closed has its streams closed at their vBuckets, in the order in which they were opened
abbrev pub closed_if : Bool → Handling → Prog Handling
closed_if true h = bind (end_closed h.client.producer) (λ none. Done h)
closed_if false h = Done h

-- what the session came to, with all that follows
abbrev pub handled_on : ℕ → PlainProducer → Served → Prog Handling
handled_on clock producer s = bind (frames_passed clock (went_on [] producer s)) (λ h. closed_if h.client.session.closed h)

-- the next bytes from a client
unfoldable pub client_fed : ℕ → List ℕ → PlainClient → Prog Handling
client_fed clock piece client = bind (bytes_handled clock piece (served client.session [])) (handled_on clock client.producer)

-- what became of a durable write
unfoldable pub client_posted : ℕ → Resolved → PlainClient → Prog Handling
client_posted clock outcome client = bind (outcome_handled clock outcome (served client.session [])) (handled_on clock client.producer)

-- ---- frames of streams

-- what frames of a client's streams come to: the connection after them, the lines, and the answer
pub record ClientPulled : Type 0 where
  pub client : PlainClient
  pub events : List Event
  pub answer : Answer

-- what was told of frames that were put
abbrev pub client_pull : PlainSession → Answered × Halt → ClientPulled
client_pull session (a, halt) = record { client = record { session = session; producer = a.end }; events = delivered session.who a; answer = Pulled a.count (why_of halt) }

-- at most so many frames of a client's streams
abbrev pub client_pulled : ℕ → PlainClient → Job ClientPulled
client_pulled frames client = bind_job (frames_put frames (begun client.producer)) (λ put. Ended (client_pull client.session put))

-- the connection, where a change of role at the vBucket v ended the streams of these numbers
abbrev pub client_ended : ℕ → List ℕ → PlainClient → PlainClient
client_ended v ids client = record client { producer = ended_by v ids client.producer }
