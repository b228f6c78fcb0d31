-- what is left of a producer where memory was wanting in a call
use Rattle.std.specs.Prelude.{ℕ, ◌≡◌, ◌⊎◌, Bool, true, List, [], ◌∷◌, map, Option, Result, Ok, Err}
use Rattle.vb_calls.specs.declared.calls.VbCall.{VbCall}
use Rattle.vb_calls.specs.declared.calls.VbReply.{VbReply}
use Rattle.vb_calls.specs.Programs.{Prog, Done, Call}
use Rattle.dcp_producer.specs.Producers.{PlainStream, PlainProducer, Served}

-- what is to be sent is sent, or memory was wanting for it; the connection is the same in both cases
abbrev pub Sent : {E : Type 0} → Result (Unit {0}) E → Served → Served → Type 0
Sent (Ok _) now wanted = now ≡ wanted
Sent (Err stop) now wanted = now.end ≡ wanted.end

-- all calls of a program were made, and the connection is as the program leaves it
abbrev pub Left : {W : Type 0} → (W → ℕ → VbCall → Option VbReply → W → Type 0) → Prog Served → W → PlainProducer → W → Type 0
Left step (Done s) old end new = (end ≡ s.end) × (new ≡ old)
Left step (Call v call next) old end new = (reply : Option VbReply) × (mid : _) × step old v call reply mid × Left step (next reply) mid end new

-- a connection as before, but for how many streams it asked for
abbrev pub Stood : PlainProducer → PlainProducer → Type 0
Stood before end = end ≡ record before { asked = end.asked }

-- nothing was done to the connection and the vBuckets, or all
abbrev pub Cut : {W : Type 0} → (W → ℕ → VbCall → Option VbReply → W → Type 0) → Prog Served → PlainProducer → W → PlainProducer → W → Type 0
Cut step prog before old end new = (Stood before end × (new ≡ old)) ⊎ Left step prog old end new

-- a stream as its vBucket and its consumer know it
abbrev pub standing : PlainStream → ℕ × ℕ × ℕ × Bool
standing stream = (stream.id, stream.vb, stream.opaque, stream.ended)

-- the second list is the first one, less some
abbrev pub IsPart : {X : Type 0} → List X → List X → Type 0
IsPart [] part = part ≡ []
IsPart (x ∷ all) [] = Unit {0}
IsPart (x ∷ all) (y ∷ part) = ((x ≡ y) × IsPart all part) ⊎ IsPart all (y ∷ part)

-- the connection is the same one with the same streams, less those that ended; of its window and of whose turn it is nothing is said
abbrev pub Stays : PlainProducer → PlainProducer → Type 0
Stays old new = (new.desk ≡ old.desk) × (new.handshake ≡ old.handshake) × (new.asked ≡ old.asked) × IsPart (map standing old.streams) (map standing new.streams)

-- a stream as its vBucket and its consumer knew it; a change of role may have ended it since
abbrev pub Persists : PlainStream → PlainStream → Type 0
Persists old new = (new.id ≡ old.id) × (new.vb ≡ old.vb) × (new.opaque ≡ old.opaque) × (old.ended ≡ true → new.ended ≡ true)

-- so it is with each of these
abbrev pub AllPersist : List PlainStream → List PlainStream → Type 0
AllPersist [] new = new ≡ []
AllPersist (x ∷ old) [] = ⊥
AllPersist (x ∷ old) (y ∷ new) = Persists x y × AllPersist old new

-- the connection is the same one with the same streams, of which more may be ended; of how far each of them is in giving its vBucket up nothing is said
abbrev pub Remains : PlainProducer → PlainProducer → Type 0
Remains old new = (new ≡ record old { streams = new.streams }) × AllPersist old.streams new.streams
