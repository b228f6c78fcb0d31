-- how requests for streams are answered, in words beside the definitions
use Rattle.std.specs.List.{All}
use Rattle.std.specs.Prelude.{ℕ, ◌+◌, ◌*◌, ◌<◌, ◌≤◌, ◌≡◌, ◌≢◌, ◌⊎◌, ◌↔◌, Bool, true, false, IsTrue, List, [], ◌∷◌, ◌++◌, Option, Some, None}
use Rattle.mcbp_frame.specs.declared.frame.Frame.{Frame}
use Rattle.mcbp_frame.specs.Spelling.{spelling}
use Rattle.mcbp_dcp.specs.declared.message.DcpMsg.TheVariants as msg
use Rattle.mcbp_dcp.specs.declared.message.StreamVerdict.TheVariants as told
use Rattle.mcbp_dcp.specs.DcpFrames.{dcp_frame}
use Rattle.vb_types.specs.declared.stream.AskAnswer.{AskAnswer}
use Rattle.vb_types.specs.declared.stream.AskAnswer.TheVariants as ask_answer
use Rattle.vb_types.specs.declared.role.LogEntry.{LogEntry}
use Rattle.vb_types.specs.declared.role.Role.TheVariants as role
use Rattle.vb_types.specs.declared.stream.Place.{Place}
use Rattle.vb_types.specs.declared.stream.StreamAsk.{StreamAsk}
use Rattle.vb_events.specs.declared.event.Event.TheVariants as event
use Rattle.vb_calls.specs.declared.calls.VbCall.TheVariants as call
use Rattle.vb_calls.specs.declared.calls.VbAnswer.TheVariants as answer
use Rattle.vb_calls.specs.declared.calls.VbReply.{VbReply}
use Rattle.vb_calls.specs.Plain.{Plain}
use Rattle.vb_calls.specs.States.{States}
use Rattle.vb_calls.specs.Programs.{Made, Told, after}
use Rattle.dcp_producer.specs.declared.desk.Handshake.TheVariants as handshake
use Rattle.dcp_producer.specs.declared.desk.Named.{Named}
use Rattle.dcp_producer.specs.Producers.{PlainStream, PlainProducer, Served}
use Rattle.dcp_producer.specs.Handshaking.{IsGiven}
use Rattle.dcp_producer.specs.Having.{IsOpened, NoneOf, IsStreamOf}
use Rattle.dcp_producer.specs.Counting.{IsClients, IsLinks}
use Rattle.dcp_producer.specs.Ends.{IsAt}
use Rattle.dcp_producer.specs.FirstMarkers.{MeansFirst}
use Rattle.dcp_producer.specs.Serving.{stream_request}

-- the number of the stream that the connection asks for behind so many: the base of its desk above 32 bits, and then 1, 2, 3 and so on
abbrev pub number_behind : ℕ → PlainProducer → ℕ
number_behind asked end = end.desk.base * 4294967296 + (asked + 1)

-- a stream that has just begun, under this number: nothing of it was taken, marked or put, and its consumer has all up to the start that it asked for, up to which alone it was told of changes; with the flag 1, and with no other, it gives its vBucket up, and is in the first step
pub record Begins (id : ℕ) (f : Frame) (ask : StreamAsk) (stream : PlainStream) : Type 0 where
  pub number : stream.id ≡ id
  pub vb : stream.vb ≡ f.vb_or_status
  pub opaque : stream.opaque ≡ f.opaque
  pub until : stream.until ≡ ask.end
  pub first : MeansFirst ask stream.first
  pub place : stream.place ≡ ask.start
  pub items : stream.items ≡ []
  pub next : stream.next ≡ 0
  pub marked : stream.marked ≡ None
  pub reached : stream.reached ≡ ask.start
  pub ended : stream.ended ≡ false
  pub gives : ask.flags ≡ 1 → IsAt 1 stream
  pub feeds : ask.flags ≢ 1 → stream.gives ≡ None

-- a request for a stream is answered so, with so many streams asked for then: one frame and one line, and the line has the log and the last seqno. Where it is let continue under a number of its own a stream begins, behind all others; nothing else changes, and under no number nothing at all
pub record AnsweredWith (f : Frame) (ask : StreamAsk) (asked : ℕ) (s s' : Served) (log : List LogEntry) (high : ℕ) (verdict : AskAnswer) : Type 0 where
  pub line : s'.events ≡ s.events ++ event.Asked s.end.desk.stream s.end.desk.node f.vb_or_status ask high log verdict ∷ []
  pub rest : (s'.count ≡ s.count) × (s'.resolved ≡ s.resolved)
  pub go : verdict ≡ ask_answer.Go → s'.out ≡ s.out ++ spelling (dcp_frame (msg.StreamAnswer (told.Go log)) f.opaque 0)
  pub begins : verdict ≡ ask_answer.Go → asked ≡ s.end.asked + 1
      → (stream : PlainStream) × Begins (number_behind s.end.asked s.end) f ask stream × (s'.end ≡ record s.end { asked = asked; streams = s.end.streams ++ stream ∷ [] })
  pub roll : (point : ℕ) → verdict ≡ ask_answer.Roll point
      → (s'.out ≡ s.out ++ spelling (dcp_frame (msg.StreamAnswer (told.Roll point)) f.opaque 0)) × (s'.end ≡ record s.end { asked = asked })
  pub refused : (code : ℕ) → verdict ≡ ask_answer.Refuse code
      → (s'.out ≡ s.out ++ spelling (dcp_frame (msg.StreamAnswer (told.Refused code)) f.opaque 0)) × (s'.end ≡ record s.end { asked = asked })
  pub still : asked ≡ s.end.asked → s'.end ≡ s.end

-- what the producer itself has against a request: OPEN did not come, the flags are above 1, or 1 on a client's connection, or it asked for 2^32 - 1 streams before
abbrev pub IsAgainst : StreamAsk → Served → Type 0
IsAgainst ask s = (s.end.handshake ≡ handshake.Fresh) ⊎ (1 < ask.flags) ⊎ ((ask.flags ≡ 1) × IsClients s) ⊎ (4294967295 ≤ s.end.asked)

-- the flags are 0, or 1 on a link's connection
abbrev pub AreTaken : StreamAsk → Served → Type 0
AreTaken ask s = (ask.flags ≡ 0) ⊎ ((ask.flags ≡ 1) × IsLinks s)

-- nothing
pub record IsForIt (ask : StreamAsk) (s : Served) : Type 0 where
  pub opened : IsOpened s
  pub flags : AreTaken ask s
  pub numbers : s.end.asked < 4294967295

-- the call of a request for a stream: under the next number where the producer has nothing against it and the connection has no stream of this vBucket, which counts as one more; and else under 0, which opens none. With prepares exactly where CONTROL set both a name and synchronous writes
pub record AsksFor (v : ℕ) (ask : StreamAsk) (s : Served) (id asked : ℕ) (sync : Bool) : Type 0 where
  pub own : IsForIt ask s → NoneOf v s.end.streams → (id ≡ number_behind s.end.asked s.end) × (asked ≡ s.end.asked + 1)
  pub against : IsAgainst ask s → (id ≡ 0) × (asked ≡ s.end.asked)
  pub held : (stream : PlainStream) → IsStreamOf v stream s.end.streams → (id ≡ 0) × (asked ≡ s.end.asked)
  pub synced : IsTrue sync ↔ ((name : Named) × IsGiven name × (s.end.handshake ≡ handshake.Open true name))

-- the answer to this reply of the vBucket: its log and its last seqno, and what it says, where the producer has nothing against the request; it goes on where the vBucket opened a stream; where there is no such vBucket, the refusal is that of one that is not active
pub record Replies (f : Frame) (ask : StreamAsk) (asked : ℕ) (s s' : Served) (reply : Option VbReply) : Type 0 where
  pub told : (r : VbReply) (said : AskAnswer) (log : List LogEntry) (high : ℕ) → reply ≡ Some r → r.answer ≡ answer.Asked said log high
      → (verdict : AskAnswer) × AnsweredWith f ask asked s s' log high verdict × (IsForIt ask s → verdict ≡ said)
  pub opened : (r : VbReply) (log : List LogEntry) (high : ℕ) (from : Place) → reply ≡ Some r → r.answer ≡ answer.Opened log high from
      → (verdict : AskAnswer) × AnsweredWith f ask asked s s' log high verdict × (IsForIt ask s → verdict ≡ ask_answer.Go)
  pub absent : reply ≡ None → (verdict : AskAnswer) × AnsweredWith f ask asked s s' [] 0 verdict × (IsForIt ask s → verdict ≡ ask_answer.Refuse 7)

-- of a request for a stream the vBucket that it names is asked once, and what it says of its log and its last seqno in that one reply is what the line and the answer say
abbrev pub OneReply : Frame → StreamAsk → Served → Type 0
OneReply f ask s =
    (made : List Made) (s' : Served) → Told (stream_request f ask s) made s'
    → (id : ℕ) × (asked : ℕ) × (sync : Bool) × (reply : Option VbReply) × (made ≡ (f.vb_or_status, call.OpenStream id ask sync, reply) ∷ [])
    × AsksFor f.vb_or_status ask s id asked sync × Replies f ask asked s s' reply

-- a request for a stream is refused with this status, at vBuckets that are alone; so it opens none
pub record RefusedWith (code : ℕ) (f : Frame) (ask : StreamAsk) (s : Served) (states : States) : Type 0 where
  pub id : ℕ
  pub asked : ℕ
  pub sync : Bool
  pub asks : AsksFor f.vb_or_status ask s id asked sync
  pub log : List LogEntry
  pub high : ℕ
  pub answered : AnsweredWith f ask asked s (after (stream_request f ask s) states).1 log high (ask_answer.Refuse code)

-- the start that is asked for is above the end, or lies outside of the snapshot that is named
abbrev pub IsOutside : StreamAsk → Type 0
IsOutside ask = (ask.end < ask.start) ⊎ (ask.start < ask.ss) ⊎ (ask.se < ask.start)

-- the vBucket has no stream of this number
abbrev pub IsFree : ℕ → Plain → Type 0
IsFree id vb = All (λ stream. stream.id ≢ id) vb.streams

-- the vBucket is absent, or not active
abbrev pub IsInactive : Option Plain → Type 0
IsInactive o = (plain : Plain) → o ≡ Some plain → plain.role ≡ role.Active → ⊥
