-- what a producer is: its connection, what OPEN and CONTROL set, its streams in the order in which they were opened, and its window
use Rattle.std.specs.Prelude.{ℕ, ◌+◌, ◌*◌, ◌^◌, ◌<◌, ◌≤◌, ◌≡◌, ◌==◌, Bool, true, false, ◌&&◌, if◌then◌else◌, List, [], ◌∷◌, ◌++◌, map, Option, Some, None}
use Rattle.std.specs.List.{All, find, position, remove}
use Rattle.vb_types.specs.declared.change.Change.{Change}
use Rattle.vb_events.specs.declared.event.Event.{Event}
use Rattle.vb_events.specs.declared.event.StreamName.{StreamName}
use Rattle.vb_events.specs.declared.event.StreamName.TheVariants as name
use Rattle.takeover.specs.declared.give_up.GiveUp.{GiveUp}
use Rattle.dcp_producer.specs.declared.active_stream.StreamState.{StreamState}
use Rattle.dcp_producer.specs.declared.active_stream.StreamState.TheVariants as state
use Rattle.dcp_producer.specs.declared.desk.Desk.{Desk}
use Rattle.dcp_producer.specs.declared.desk.Handshake.{Handshake}
use Rattle.dcp_producer.specs.declared.desk.Handshake.TheVariants as handshake
use Rattle.dcp_producer.specs.declared.first.First.{First}
use Rattle.dcp_producer.specs.declared.desk.Named.{Named}
use Rattle.dcp_producer.specs.declared.desk.Named.TheVariants as named
use Rattle.vb_calls.specs.declared.calls.Resolved.{Resolved}
use Rattle.flow_control.specs.declared.window.Window.{Window}
use Rattle.flow_control.specs.Windows.{new_window}
use Rattle.flow_control.specs.Rings.{PlainRing, IsRing, closed, turned}

-- a change of role ended the stream
abbrev pub is_ended : StreamState → Bool
is_ended state.Memory = false
is_ended state.Ended = true

-- a stream: the number under which its vBucket opened it, of which vBucket it is, with which opaque its frames go, the end that its consumer asked for, how its first snapshot is sent, and whether prepares, commits and aborts are sent; up to where its consumer was told of changes (the requested start, or the END of the last marker), and the end of a backfill that was answered and not read, if there is one; the snapshot that was taken last, how many of its items have been put, and the END of its marker, if any was sent; the last seqno that its consumer may have (the requested start, or that of the last item that was put where it is greater), whether a change of role ended it, and, of one that gives its vBucket up to its consumer's, how far that is
pub record PlainStream : Type 0 where
  pub id : ℕ
  pub vb : ℕ
  pub opaque : ℕ
  pub until : ℕ
  pub first : First
  pub sync : Bool
  pub place : ℕ
  pub unread : Option ℕ
  pub items : List Change
  pub next : ℕ
  pub marked : Option ℕ
  pub reached : ℕ
  pub ended : Bool
  pub gives : Option GiveUp

-- a producer: how many streams it asked vBuckets to open, those that are open, in the order in which they were opened, the place behind the one that had the last turn, and the window through which their frames go
pub record PlainProducer : Type 0 where
  pub desk : Desk
  pub handshake : Handshake
  pub asked : ℕ
  pub streams : List PlainStream
  pub turn : ℕ
  pub window : Window

-- a producer in a call, with the lines that tell what happened, the bytes for the consumer, how many frames of its streams were put so far, and what became of durable writes that are waited for
pub record Served : Type 0 where
  pub end : PlainProducer
  pub events : List Event
  pub out : List ℕ
  pub count : ℕ
  pub resolved : List Resolved

-- a producer as its node keeps it; after want of memory it is spent, and does nothing any more but close its streams
pub record KeptProducer : Type 0 where
  pub plain : PlainProducer
  pub spent : Bool

-- a new connection; its window holds nothing back
abbrev pub new_end : Desk → PlainProducer
new_end desk = record { desk = desk; handshake = handshake.Fresh; asked = 0; streams = []; turn = 0; window = new_window 0 }

-- a call begins
abbrev pub begun : PlainProducer → Served
begun end = record { end = end; events = []; out = []; count = 0; resolved = [] }

-- the stream of a vBucket: a connection has at most one
abbrev pub stream_at : ℕ → List PlainStream → Option PlainStream
stream_at v streams = find (λ stream. stream.vb == v) streams

-- the stream of a number
abbrev pub stream_of_id : ℕ → List PlainStream → Option PlainStream
stream_of_id id streams = find (λ stream. stream.id == id) streams

-- with this stream in the place of the one of its number
abbrev pub replaced : PlainStream → List PlainStream → List PlainStream
replaced stream streams = map (λ other. if other.id == stream.id then stream else other) streams

-- without the one that stands at a place
abbrev pub without_place : Option ℕ → List PlainStream → List PlainStream
without_place None streams = streams
without_place (Some at) streams = remove streams at

-- without the stream of a number
abbrev pub without_id : ℕ → List PlainStream → List PlainStream
without_id id streams = without_place (position (λ stream. stream.id == id) streams) streams

-- whose turn it is, among the streams
abbrev pub ring_of : PlainProducer → PlainRing
ring_of end = record { ids = map (λ stream. stream.id) end.streams; turn = end.turn }

-- one more stream is open: it comes behind all others
abbrev pub with_opened : PlainStream → PlainProducer → PlainProducer
with_opened stream end = record end { streams = end.streams ++ stream ∷ [] }

-- a stream goes on so
abbrev pub with_stream : PlainStream → PlainProducer → PlainProducer
with_stream stream end = record end { streams = replaced stream end.streams }

-- a stream is over; the others keep their turns
abbrev pub without_stream : ℕ → PlainProducer → PlainProducer
without_stream id end = record end { streams = without_id id end.streams; turn = (closed id (ring_of end)).turn }

-- the next stream has its turn
abbrev pub with_turn : PlainProducer → PlainProducer
with_turn end = record end { turn = (turned (ring_of end)).turn }

-- the connection of this name is a client's
abbrev pub is_client : StreamName → Bool
is_client (name.Link number) = false
is_client (name.Client node client) = true

-- OPEN came
abbrev pub is_open : Handshake → Bool
is_open handshake.Fresh = false
is_open (handshake.Open sync_writes name) = true

-- the consumer gave its name
abbrev pub is_named : Named → Bool
is_named named.Nobody = false
is_named named.Stranger = true
is_named (named.Member node) = true

-- a stream carries prepares, commits and aborts
abbrev pub is_sync : Handshake → Bool
is_sync handshake.Fresh = false
is_sync (handshake.Open sync_writes name) = sync_writes && is_named name

-- which member of a chain the consumer is, by its name
abbrev pub member_named : Named → Option ℕ
member_named (named.Member node) = Some node
member_named other = None

-- the same of a handshake
abbrev pub member_of : Handshake → Option ℕ
member_of handshake.Fresh = None
member_of (handshake.Open sync_writes name) = member_named name

-- each stream has a greater number than those before
abbrev pub Rising : List PlainStream → Type 0
Rising [] = Unit {0}
Rising (stream ∷ more) = All (λ other. stream.id < other.id) more × Rising more

-- a producer's streams as it keeps them: its ring has their numbers, each of which is greater than those before and none above the last that it asked for, and the turn is at the place of one or at the end
pub record IsKept (base asked : ℕ) (streams : List PlainStream) (ring : PlainRing) : Type 0 where
  pub ids : ring.ids ≡ map (λ stream. stream.id) streams
  pub rise : Rising streams
  pub numbered : All (λ stream. stream.id ≤ base * 2 ^ 32 + asked) streams
  pub turn : IsRing ring
