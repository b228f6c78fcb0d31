-- what the streams of a connection have to do with each other, in words beside the definitions
use Rattle.std.specs.Prelude.{ℕ, ◌≡◌, ◌==◌, not, List}
use Rattle.std.specs.List.{filter}
use Rattle.dcp_producer.specs.Ending.{ended_by}
use Rattle.dcp_producer.specs.Producers.{PlainStream, PlainProducer, Served}

-- the streams of other vBuckets than v, in their order
abbrev pub elsewhere : ℕ → PlainProducer → List PlainStream
elsewhere v end = filter (λ stream. not (stream.vb == v)) end.streams

-- they are as they were
abbrev pub LeavesOthers : ℕ → PlainProducer → Served → Type 0
LeavesOthers v old s = elsewhere v s.end ≡ elsewhere v old

-- also behind a change of role there
abbrev pub EndsNoOthers : ℕ → List ℕ → PlainProducer → Type 0
EndsNoOthers v ids end = elsewhere v (ended_by v ids end) ≡ elsewhere v end
