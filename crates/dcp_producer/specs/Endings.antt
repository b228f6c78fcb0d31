-- how streams end with a change of role and with their connection, in words beside the definitions
use Rattle.std.specs.Prelude.{ℕ, ◌≡◌, ◌⊎◌, true, not, List, [], ◌∷◌, map}
use Rattle.std.specs.List.{filter}
use Rattle.vb_calls.specs.declared.calls.VbCall.{VbCall}
use Rattle.vb_calls.specs.declared.calls.VbCall.TheVariants as call
use Rattle.vb_calls.specs.Programs.{Made, Told}
use Rattle.dcp_producer.specs.Ending.{ended_by, end_closed}
use Rattle.dcp_producer.specs.Producers.{PlainProducer, PlainStream}

-- this number is among these
abbrev pub IsAmong : ℕ → List ℕ → Type 0
IsAmong n [] = ⊥
IsAmong n (m ∷ more) = (n ≡ m) ⊎ IsAmong n more

-- the change of role at the vBucket v names this stream
abbrev pub IsNamed : ℕ → List ℕ → PlainStream → Type 0
IsNamed v ids stream = (stream.vb ≡ v) × IsAmong stream.id ids

-- each stream that it names is ended then, and each other one is as it was
abbrev pub AreEnded : ℕ → List ℕ → List PlainStream → List PlainStream → Type 0
AreEnded v ids [] new = new ≡ []
AreEnded v ids (x ∷ old) [] = ⊥
AreEnded v ids (x ∷ old) (y ∷ new) =
    (IsNamed v ids x → y ≡ record x { ended = true }) × ((IsNamed v ids x → ⊥) → y ≡ x) × AreEnded v ids old new

-- nothing else of the connection changes
pub record EndsNamed (v : ℕ) (ids : List ℕ) (end : PlainProducer) : Type 0 where
  pub ended : AreEnded v ids end.streams (ended_by v ids end).streams
  pub rest : ended_by v ids end ≡ record end { streams = (ended_by v ids end).streams }

-- the calls, without what they were answered
abbrev pub calls_in : List Made → List (ℕ × VbCall)
calls_in made = map (λ m. (m.0, m.1)) made

-- the streams that no change of role ended, and that they are to be closed
abbrev pub alive : List PlainStream → List PlainStream
alive streams = filter (λ stream. not stream.ended) streams

abbrev pub ClosesAlive : PlainProducer → Type 0
ClosesAlive end =
    (made : List Made) (end' : Unit {0}) → Told (end_closed end) made end' → calls_in made ≡ map (λ stream. (stream.vb, call.CloseStream stream.id)) (alive end.streams)
