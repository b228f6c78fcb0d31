-- how a connection's streams end: by a change of role at their vBucket, or with the connection
use Rattle.std.specs.Prelude.{ℕ, ◌==◌, ◌&&◌, true, if◌then◌else◌, IsTrue, List, [], ◌∷◌, map}
use Rattle.std.specs.List.{All, list_any}
use Rattle.vb_calls.specs.Programs.{Prog, Done, Call}
use Rattle.vb_calls.specs.declared.calls.VbCall.{VbCall}
use Rattle.vb_calls.specs.declared.calls.VbCall.TheVariants as call
use Rattle.vb_calls.specs.Shelves.{Ask}
use Rattle.dcp_producer.specs.declared.halt.Halt.{Halt}
use Rattle.dcp_producer.specs.Producers.{PlainStream, PlainProducer, Served}

-- the stream, which is ended where it is one of the vBucket v and has one of these numbers
abbrev pub ended_in : ℕ → List ℕ → PlainStream → PlainStream
ended_in v ids stream = if stream.vb == v && list_any (λ i. i == stream.id) ids then record stream { ended = true } else stream

-- the connection, where a change of role at the vBucket v ended the streams of these numbers
abbrev pub ended_by : ℕ → List ℕ → PlainProducer → PlainProducer
ended_by v ids end = record end { streams = map (ended_in v ids) end.streams }

-- streams are closed at their vBuckets, one after the other, but for those that a change of role ended: the number of one that was ended may be another stream's there
abbrev pub streams_closed : List PlainStream → Prog (Unit {0})
streams_closed [] = Done tt
streams_closed (stream ∷ more) = if stream.ended then streams_closed more else Call stream.vb (call.CloseStream stream.id) (λ reply. streams_closed more)

-- the connection ends: its streams are closed, in the order in which they were opened
unfoldable pub end_closed : PlainProducer → Prog (Unit {0})
end_closed end = streams_closed end.streams

-- a change of role ended each of these streams
abbrev pub AreEnding : List PlainStream → Type 0
AreEnding streams = All (λ stream. IsTrue stream.ended) streams

-- so it is with the connection after a pull
abbrev pub LeavesEnding : Served × Halt → Type 0
LeavesEnding (s, halted) = AreEnding s.end.streams

-- no call is such a call
abbrev pub NoCall : ℕ → VbCall → Type 0
NoCall v call = ⊥

-- and no request to a journal is such a request
abbrev pub NoRequest : ℕ → Ask → Type 0
NoRequest v ask = ⊥
