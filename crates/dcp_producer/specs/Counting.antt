-- how acknowledgements are counted, in words beside the definitions
use Rattle.std.specs.Prelude.{ℕ, ◌≤◌, ◌≡◌, ◌⊎◌, Bool, true, false, List, [], ◌∷◌, ◌++◌, map, Option, Some, None}
use Rattle.mcbp_frame.specs.declared.frame.Frame.{Frame}
use Rattle.mcbp_dcp.specs.declared.message.DcpMsg.TheVariants as msg
use Rattle.vb_events.specs.declared.event.Event.TheVariants as event
use Rattle.vb_events.specs.declared.event.StreamName.TheVariants as name
use Rattle.vb_types.specs.declared.status.Status.{Status}
use Rattle.vb_types.specs.Statuses.{status_code}
use Rattle.vb_calls.specs.declared.calls.VbCall.TheVariants as call
use Rattle.vb_calls.specs.declared.calls.VbAnswer.TheVariants as answer
use Rattle.vb_calls.specs.declared.calls.VbReply.{VbReply}
use Rattle.vb_calls.specs.Programs.{Done, Made, Told}
use Rattle.dcp_producer.specs.declared.desk.Handshake.{Handshake}
use Rattle.dcp_producer.specs.declared.desk.Handshake.TheVariants as handshake
use Rattle.dcp_producer.specs.declared.desk.Named.TheVariants as named
use Rattle.dcp_producer.specs.Producers.{PlainStream, Served}
use Rattle.dcp_producer.specs.Having.{NoneOf, IsStreamOf}
use Rattle.dcp_producer.specs.Serving.{message_answered}
use Rattle.dcp_producer.specs.Handshaking.{Gets}

-- the connection is a client's
abbrev pub IsClients : Served → Type 0
IsClients s = (node client : ℕ) × (s.end.desk.stream ≡ name.Client node client)

-- the connection is a link's
abbrev pub IsLinks : Served → Type 0
IsLinks s = (number : ℕ) × (s.end.desk.stream ≡ name.Link number)

-- nothing is fed of the vBucket v: the connection is a client's, or has no stream of it, or one that a change of role ended
abbrev pub IsUnfed : ℕ → Served → Type 0
IsUnfed v s = IsClients s ⊎ NoneOf v s.end.streams ⊎ ((stream : PlainStream) × IsStreamOf v stream s.end.streams × (stream.ended ≡ true))

-- the connection is a link's and has this stream of the vBucket v, and no change of role ended it
abbrev pub IsFed : ℕ → PlainStream → Served → Type 0
IsFed v stream s = IsLinks s × IsStreamOf v stream s.end.streams × (stream.ended ≡ false)

-- the connection is open, and its consumer is no member: it gave no name, or a stranger's
abbrev pub IsNoMember : Handshake → Type 0
IsNoMember shaken = (sync : Bool) × ((shaken ≡ handshake.Open sync named.Nobody) ⊎ (shaken ≡ handshake.Open sync named.Stranger))

-- the consumer gave this member's name
abbrev pub IsMember : ℕ → Handshake → Type 0
IsMember member shaken = (sync : Bool) × (shaken ≡ handshake.Open sync (named.Member member))

-- an acknowledgement was counted: nothing is answered; the lines tell of it and of the reply's changes, on the reply's branch; and what became of durable writes is what the reply says
pub record IsCounted (f : Frame) (member seq : ℕ) (s s' : Served) (reply : VbReply) : Type 0 where
  pub end : s'.end ≡ s.end
  pub out : s'.out ≡ s.out
  pub count : s'.count ≡ s.count
  pub lines : s'.events ≡ s.events
      ++ event.Counted s.end.desk.stream s.end.desk.node f.vb_or_status member seq
      ∷ map (λ c. event.Changed s.end.desk.node f.vb_or_status reply.branch c) reply.changes
  pub resolved : s'.resolved ≡ reply.resolved

-- what an acknowledgement comes to by the vBucket's reply: NotMyVbucket where there is no such vBucket, next the status of the reply, and else it was counted
pub record CountsAs (f : Frame) (member seq : ℕ) (s s' : Served) (reply : Option VbReply) : Type 0 where
  pub absent : reply ≡ None → Gets 7 s.end.handshake f s (Done s')
  pub refused : (r : VbReply) (st : Status) → reply ≡ Some r → r.answer ≡ answer.Status st → Gets (status_code st) s.end.handshake f s (Done s')
  pub counted : (r : VbReply) → reply ≡ Some r → ((st : Status) → r.answer ≡ answer.Status st → ⊥) → IsCounted f member seq s s' r

-- the vBucket that the frame names is asked once, to count all up to this seqno for this member
abbrev pub OneCount : Frame → ℕ → ℕ → Served → Type 0
OneCount f member seq s =
    (made : List Made) (s' : Served) → Told (message_answered f (msg.SeqnoAcknowledged seq) s) made s'
    → (reply : Option VbReply) × (made ≡ (f.vb_or_status, call.Ack member seq, reply) ∷ []) × CountsAs f member seq s s' reply

-- an acknowledgement of all up to this seqno may be counted: the connection feeds the vBucket of the frame, its consumer gave a member's name, and the stream reached so far
pub record IsCountable (f : Frame) (seq : ℕ) (s : Served) : Type 0 where
  pub stream : PlainStream
  pub fed : IsFed f.vb_or_status stream s
  pub member : ℕ
  pub named : IsMember member s.end.handshake
  pub within : seq ≤ stream.reached
