-- how an operator takes away the cursor of a connection's stream, as a program over its node's vBuckets
use Rattle.std.specs.Prelude.{ℕ, ◌≡◌, ◌↔◌, Bool, true, false, if◌then◌else◌, List, [], ◌∷◌, Option, Some, None}
use Rattle.vb_calls.specs.declared.calls.VbCall.TheVariants as call
use Rattle.vb_calls.specs.declared.calls.VbAnswer.{VbAnswer}
use Rattle.vb_calls.specs.declared.calls.VbAnswer.TheVariants as answer
use Rattle.vb_calls.specs.declared.calls.VbReply.{VbReply}
use Rattle.vb_calls.specs.Programs.{Prog, Done, Call, Made}
use Rattle.dcp_producer.specs.Producers.{PlainStream, PlainProducer, stream_at}

-- whether the stream had a cursor, as its vBucket's answer tells it; one that knows nothing of the stream tells of none
abbrev pub flag_told : VbAnswer → Bool
flag_told (answer.Flag had) = had
flag_told other = false

-- the same of a reply
abbrev pub flag_said : Option VbReply → Bool
flag_said None = false
flag_said (Some reply) = flag_told reply.answer

-- the cursor of a stream is taken away, and it is told whether it had one; there is none where there is no such stream, or a change of role ended it, and then no vBucket is asked
abbrev pub cursor_dropped_of : Option PlainStream → Prog Bool
cursor_dropped_of None = Done false
cursor_dropped_of (Some stream) = if stream.ended then Done false else Call stream.vb (call.DropCursor stream.id) (λ reply. Done (flag_said reply))

-- of a connection's stream of the vBucket v
abbrev pub cursor_dropped : ℕ → PlainProducer → Prog Bool
cursor_dropped v end = cursor_dropped_of (stream_at v end.streams)

-- The cursor of this stream of the vBucket v was taken away: the vBucket was told so by one call, of the stream's number, unless a change of role ended the stream; then there was no call, as the number may be another stream's there. It had one exactly where there was a call, and its reply says so.
pub record DropsIt (v : ℕ) (stream : PlainStream) (made : List Made) (had : Bool) : Type 0 where
  pub told : stream.ended ≡ false → (reply : Option VbReply) × (made ≡ (v, call.DropCursor stream.id, reply) ∷ [])
  pub untold : stream.ended ≡ true → made ≡ []
  pub answers : (had ≡ true) ↔ ((r : VbReply) × (made ≡ (v, call.DropCursor stream.id, Some r) ∷ []) × (r.answer ≡ answer.Flag true))
