-- which streams a connection has, in words beside the definitions
use Rattle.std.specs.Prelude.{ℕ, ◌+◌, ◌*◌, ◌≤◌, ◌≡◌, ◌≢◌, List, [], ◌∷◌, ◌++◌, length}
use Rattle.std.specs.List.{All}
use Rattle.dcp_producer.specs.declared.desk.Handshake.TheVariants as handshake
use Rattle.dcp_producer.specs.declared.halt.Halt.{Halt}
use Rattle.dcp_producer.specs.Giving.{Yields}
use Rattle.dcp_producer.specs.Producers.{PlainStream, PlainProducer, Rising, Served}

-- the connection is open
abbrev pub IsOpened : Served → Type 0
IsOpened s = (s.end.handshake ≡ handshake.Fresh) → ⊥

-- none of these streams is of the vBucket v
abbrev pub NoneOf : ℕ → List PlainStream → Type 0
NoneOf v streams = All (λ stream. stream.vb ≢ v) streams

-- this stream stands between these others
abbrev pub StandsIn : List PlainStream → PlainStream → List PlainStream → List PlainStream → Type 0
StandsIn front stream back streams = streams ≡ front ++ stream ∷ back

-- this is the stream of the vBucket v among these: the first one, and where each is of another vBucket the only one
pub record IsStreamOf (v : ℕ) (stream : PlainStream) (streams : List PlainStream) : Type 0 where
  pub front : List PlainStream
  pub back : List PlainStream
  pub stands : StandsIn front stream back streams
  pub of : stream.vb ≡ v
  pub first : NoneOf v front

-- each of these streams is of another vBucket than those behind it
abbrev pub AreOfOthers : List PlainStream → Type 0
AreOfOthers [] = Unit {0}
AreOfOthers (stream ∷ more) = NoneOf stream.vb more × AreOfOthers more

-- the streams of a connection are of different vBuckets, each has a greater number than those before and none above the last that was asked for, and the turn's place is one of theirs or their end
pub record IsSound (end : PlainProducer) : Type 0 where
  pub apart : AreOfOthers end.streams
  pub rise : Rising end.streams
  pub numbered : All (λ stream. stream.id ≤ end.desk.base * 4294967296 + end.asked) end.streams
  pub turn : end.turn ≤ length end.streams

-- so it is behind an answer, behind a pull, and where vBuckets were given up
abbrev pub AnswersSound : Served → Type 0
AnswersSound s = IsSound s.end

abbrev pub PullsSound : Served × Halt → Type 0
PullsSound (s, halted) = IsSound s.end

abbrev pub YieldsSound : Yields → Type 0
YieldsSound came = IsSound came.end
