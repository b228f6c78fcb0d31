-- how vBuckets are given up, in other words: for which streams, what is told of each and to whom, and what becomes of durable writes that wait
use Rattle.std.specs.Prelude.{◌≡◌, ◌≢◌, ◌<◌, ◌⊎◌, ℕ, ◌==◌, ◌&&◌, ◌||◌, Bool, true, false, List, [], ◌∷◌, ◌++◌, map, Option, Some, None}
use Rattle.std.specs.List.{flat_map, list_any}
use Rattle.slab.specs.Slab.{get}
use Rattle.dcp_producer.specs.Ends.{IsAt, IsBehind}
use Rattle.dcp_producer.specs.Holding.{IsShut}
use Rattle.dcp_producer.specs.Producers.{PlainStream}
use Rattle.dcp_producer.specs.declared.yields.Yielded.{Yielded}
use Rattle.vb_calls.specs.Plain.{Plain}
use Rattle.vb_calls.specs.Programs.{after}
use Rattle.vb_calls.specs.States.{States}
use Rattle.vb_calls.specs.declared.calls.VbAnswer.TheVariants as answer
use Rattle.vb_calls.specs.declared.calls.VbCall.{VbCall}
use Rattle.vb_calls.specs.declared.calls.VbCall.TheVariants as call
use Rattle.vb_calls.specs.declared.calls.VbReply.{VbReply}
use Rattle.vb_events.specs.declared.event.Answer.TheVariants as line
use Rattle.vb_events.specs.declared.event.Event.TheVariants as event
use Rattle.vb_types.specs.declared.role.Role.TheVariants as role
use Rattle.vbucket.specs.DurableLaws.{AllAmbiguous}
use Rattle.vbucket.specs.Laws.{Ascend, Sound}
use Rattle.node_core.specs.declared.conn.Conn.{Conn}
use Rattle.node_core.specs.declared.conn.Conn.TheVariants as conn
use Rattle.node_core.specs.declared.node.Node.{Node}
use Rattle.node_core.specs.declared.out.NodeOut.{NodeOut}
use Rattle.node_core.specs.EndingLaws.{IsMade}
use Rattle.node_core.specs.GivingUp.{GaveUp, peer_gives_up}
use Rattle.node_core.specs.Peers.{KeptPeer, PlainPeer}

-- ---- for which streams

-- a stream's vBucket is to be given up: its consumer answered the state pending, all of its items are put, and no change of role ended it
pub record IsDue (stream : PlainStream) : Type 0 where
  pub step : IsAt 4 stream
  pub behind : IsBehind stream
  pub alive : stream.ended ≡ false

-- what a reply to a yield of this stream leaves of it, and tells: exactly where the vBucket made the call it was given up, and the stream sends the rest then; by any other reply, and by none, the stream is ended
pub record YieldsAs (stream : PlainStream) (reply : Option VbReply) (left : PlainStream) (told : List Yielded) : Type 0 where
  pub done : (r : VbReply) → reply ≡ Some r → r.answer ≡ answer.Done → (told ≡ record { vb = stream.vb; ended = r.ended; resolved = r.resolved } ∷ []) × IsAt 5 left × (left ≡ record stream { gives = left.gives })
  pub refused : (IsMade reply → ⊥) → (told ≡ []) × (left ≡ record stream { ended = true })

module _ {W : Type 0} (step : W → ℕ → VbCall → Option VbReply → W → Type 0) where
  -- a stream has its turn: its vBucket is called once where it is to be given up, and else not
  pub record GivesOne (stream : PlainStream) (old : W) (left : PlainStream) (told : List Yielded) (new : W) : Type 0 where
    pub due : IsDue stream → (reply : Option VbReply) × step old stream.vb (call.Yield stream.id) reply new × YieldsAs stream reply left told
    pub other : (IsDue stream → ⊥) → (new ≡ old) × (left ≡ stream) × (told ≡ [])

  -- streams have their turns so, one after the other, and no other call is made
  abbrev pub GivesAll : List PlainStream → W → List PlainStream → List Yielded → W → Type 0
  GivesAll [] old lefts given new = (new ≡ old) × (lefts ≡ []) × (given ≡ [])
  GivesAll (stream ∷ more) old lefts given new =
      (left : PlainStream) × (behind : List PlainStream) × (told : List Yielded) × (rest : List Yielded) × (mid : W)
      × GivesOne stream old left told mid × GivesAll more mid behind rest new × (lefts ≡ left ∷ behind) × (given ≡ told ++ rest)

  -- the streams of a peer's connection have their turns where a frame is asked for and its window is open, and else none has; nothing but its streams changes
  pub record PeerGives (frames : ℕ) (kept : KeptPeer) (old : W) (given : List Yielded) (left : KeptPeer) (new : W) : Type 0 where
    pub lefts : List PlainStream
    pub put : 0 < frames → (IsShut kept.plain.producer.window → ⊥) → GivesAll kept.plain.producer.streams old lefts given new
    pub held : (frames ≡ 0) ⊎ IsShut kept.plain.producer.window → (new ≡ old) × (lefts ≡ kept.plain.producer.streams) × (given ≡ [])
    pub same : left ≡ record kept { plain = record kept.plain { producer = record kept.plain.producer { streams = lefts } } }

  -- a client's connection gives nothing up
  abbrev pub Gives : ℕ → Conn → W → List Yielded → Conn → W → Type 0
  Gives frames (conn.Client kept) old given left new = (new ≡ old) × (given ≡ []) × (left ≡ conn.Client kept)
  Gives frames (conn.Peer kept) old given (conn.Peer left) new = (kept.spent ≡ false) × PeerGives frames kept old given left new
  Gives frames (conn.Peer kept) old given (conn.Client left) new = ⊥

-- ---- what is told, and to whom

-- a vBucket that was given up is the stream's, and the reply named the stream
abbrev pub names : PlainStream → Yielded → Bool
names stream one = stream.vb == one.vb && list_any (λ i. i == stream.id) one.ended

-- a stream is ended, if it was before, or if it is named where its vBucket was given up; all else of it stays
abbrev pub ended_also : List Yielded → PlainStream → PlainStream
ended_also given stream = record stream { ended = stream.ended || list_any (names stream) given }

-- so each stream of a connection; nothing else of it changes
abbrev pub losing : List Yielded → Conn → Conn
losing given (conn.Client kept) = conn.Client (record kept { plain = record kept.plain { producer = record kept.plain.producer { streams = map (ended_also given) kept.plain.producer.streams } } })
losing given (conn.Peer kept) = conn.Peer (record kept { plain = record kept.plain { producer = record kept.plain.producer { streams = map (ended_also given) kept.plain.producer.streams } } })

-- where there was a connection, it loses these streams
abbrev pub Loses : List Yielded → Option Conn → Option Conn → Type 0
Loses given None new = new ≡ None
Loses given (Some c) new = new ≡ Some (losing given c)

module _ {W J : Type 0} (step : W → ℕ → VbCall → Option VbReply → W → Type 0) where
  -- the connection of a key gave these vBuckets up. Each of them, and no other, is told dead, once and in that order, and what its reply named of durable writes is handed out, in the same order. Every connection, also this one, loses exactly the streams that the replies named. Nothing is written, appended or answered else, and each dial stays
  pub record GivesVbsUp (frames key : ℕ) (found : Conn) (old : Node W J) (out : NodeOut) (new : Node W J) : Type 0 where
    pub given : List Yielded
    pub left : Conn
    pub gives : Gives step frames found old.vbs given left new.vbs
    pub lines : out.events ≡ map (λ one. event.Role old.number one.vb role.Dead) given
    pub outcomes : out.resolved ≡ flat_map (λ one. one.resolved) given
    pub says : (out.out ≡ []) × (out.answer ≡ line.Ok) × (out.closed ≡ false)
    pub own : get new.conns key ≡ Some (losing given left)
    pub others : (other : ℕ) → other ≢ key → Loses given (get old.conns other) (get new.conns other)
    pub disks : new.disks ≡ old.disks
    pub dials : new.dials ≡ old.dials
    pub number : new.number ≡ old.number

-- so vBuckets are given up
abbrev pub VbsAreGivenUp : (W J : Type 0) → (W → ℕ → VbCall → Option VbReply → W → Type 0) → Type 0
VbsAreGivenUp W J step = (frames key : ℕ) (found : Conn) (old : Node W J) (out : NodeOut) (new : Node W J) → GaveUp step frames key found old out new → GivesVbsUp step frames key found old out new

-- ---- who waits

-- the vBucket was active and is dead. Each durable write that waited there is answered once that its outcome is not known, in the order of their prepares, which are by rising seqnos; nobody waits there any more
pub record TellsWaiters (before now : States) (one : Yielded) : Type 0 where
  pub was : Plain
  pub stood : before one.vb ≡ Some was
  pub active : was.role ≡ role.Active
  pub rising : Sound was → Ascend was.waiting
  pub told : AllAmbiguous was.waiting one.resolved
  pub is : Plain
  pub stands : now one.vb ≡ Some is
  pub dead : is.role ≡ role.Dead
  pub none : is.waiting ≡ []

-- so each of them
abbrev pub AllTell : States → States → List Yielded → Type 0
AllTell before now [] = Unit {0}
AllTell before now (one ∷ more) = TellsWaiters before now one × AllTell before now more

-- a vBucket is among those that were given up
abbrev pub IsGiven : ℕ → List Yielded → Type 0
IsGiven v [] = ⊥
IsGiven v (one ∷ more) = (v ≡ one.vb) ⊎ IsGiven v more

-- none is given up twice
abbrev pub GivenOnce : List Yielded → Type 0
GivenOnce [] = Unit {0}
GivenOnce (one ∷ more) = (IsGiven one.vb more → ⊥) × GivenOnce more

-- over plain vBuckets each that is given up is so once, and each other one stays as it is
pub record WaitersTold (frames : ℕ) (peer : PlainPeer) (states : States) : Type 0 where
  pub each : AllTell states (after (peer_gives_up frames peer) states).0 (after (peer_gives_up frames peer) states).1.given
  pub once : GivenOnce (after (peer_gives_up frames peer) states).1.given
  pub others : (v : ℕ) → (IsGiven v (after (peer_gives_up frames peer) states).1.given → ⊥) → (after (peer_gives_up frames peer) states).0 v ≡ states v
