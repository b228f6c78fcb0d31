-- what lines tell of the streams of links and of clients: items, snapshots, and what is known of a client's connection
use Rattle.std.specs.Prelude.{ℕ, Bool, false, List, [], Option, None, ◌==◌, ◌&&◌, if◌then◌else◌, ◌++◌, ◌∷◌}
use Rattle.vb_types.specs.declared.change.Change.{Change}
use Rattle.vb_types.specs.declared.stream.StreamAsk.{StreamAsk}
use Rattle.vb_events.specs.declared.event.ItemAct.{ItemAct}
use Rattle.client_session.specs.Serving.{no_settings}
use Rattle.client_session.specs.declared.session.Settings.{Settings}
use Rattle.flow_control.specs.Windows.{new_window}
use Rattle.flow_control.specs.declared.window.Window.{Window}

-- what an `item` line says of a change
pub record ItemLine : Type 0 where
  pub seq : ℕ
  pub act : ItemAct
  pub key : List ℕ

-- a marker's flags, by where its snapshot comes from: what its vBucket has in memory, or its journal
abbrev pub FROM_MEMORY : ℕ
FROM_MEMORY = 1

abbrev pub FROM_DISK : ℕ
FROM_DISK = 2

abbrev pub is_from_disk : ℕ → Bool
is_from_disk flags = flags == FROM_DISK

-- a snapshot that a marker began: its branch's history then, as the stream shows it, the places that it goes from and to, whether it comes from the journal, and the items behind the marker so far
pub record Begun : Type 0 where
  pub history : List Change
  pub from : ℕ
  pub end : ℕ
  pub disk : Bool
  pub items : List ItemLine

-- what OPEN and CONTROL set on a client's connection, as far as its streams hang on it: whether it is open, whether durable writes are asked for, and whether it gave a name
pub record Setup : Type 0 where
  pub opened : Bool
  pub sync : Bool
  pub named : Bool

-- a client's stream that was let continue: the request, and its opaque; whether prepares, commits and aborts are shown; its branch; the place up to which snapshots were begun, and the last one of them; whether its end was put; and whether its vBucket got a role since, and what that held before the first one
pub record ClientStream : Type 0 where
  pub ask : StreamAsk
  pub opaque : ℕ
  pub sync : Bool
  pub branch : ℕ
  pub place : ℕ
  pub last : Option Begun
  pub over : Bool
  pub turned : Bool
  pub left : List Change

-- what a line told of a client's stream, whose frame comes next: a marker, an item, or the stream's end
pub data StreamLine : Type 0 where
  Marks : (start end flags : ℕ) → StreamLine
  Sends : (item : ItemLine) → StreamLine
  Ends : StreamLine

-- what a client asked: the bytes that it sent behind the last frame that was answered, what the frames up to there set, for its streams and for its answers, and how many of them asked for a durable write
pub record Asking : Type 0 where
  pub bytes : List ℕ
  pub setup : Setup
  pub settings : Settings
  pub durables : ℕ
  pub answered : ℕ

-- the window of a client's connection, through which the frames of its streams go: the bytes behind those frames of the client that are counted into it, what these set, and the window
pub record FlowKnown : Type 0 where
  pub bytes : List ℕ
  pub setup : Setup
  pub window : Window

-- a client's connection: the bytes that it sent behind the last request for a stream that was answered, what the frames before those set, its streams by their vBuckets, how many it asked vBuckets to open, what was told of one whose frame comes next, what it asked, and its window
pub record ClientKnown : Type 0 where
  pub bytes : List ℕ
  pub setup : Setup
  pub streams : ℕ → Option ClientStream
  pub opened : ℕ
  pub told : Option StreamLine
  pub asking : Asking
  pub flow : FlowKnown

-- the connections of clients, by their nodes and their numbers
abbrev pub ClientsKnown : Type 0
ClientsKnown = ℕ → ℕ → ClientKnown

-- before OPEN nothing is set
abbrev pub no_setup : Setup
no_setup = record { opened = false; sync = false; named = false }

-- a client that sent nothing asked nothing
abbrev pub blank_asking : Asking
blank_asking = record { bytes = []; setup = no_setup; settings = no_settings; durables = 0; answered = 0 }

-- its window holds nothing back
abbrev pub blank_flow : FlowKnown
blank_flow = record { bytes = []; setup = no_setup; window = new_window 0 }

-- one that has just been opened, or is not open: it sent nothing, and has no stream
abbrev pub blank_client : ClientKnown
blank_client = record { bytes = []; setup = no_setup; streams = λ v. None; opened = 0; told = None; asking = blank_asking; flow = blank_flow }

-- a table by nodes and vBuckets, with x for the vBucket v of the node n
abbrev pub with_at : {A : Type 0} → (ℕ → ℕ → A) → ℕ → ℕ → A → ℕ → ℕ → A
with_at table n v x = λ m w. if m == n && w == v then x else table m w

-- a table by numbers, with x for the number k
abbrev pub with_id : {A : Type 0} → (ℕ → A) → ℕ → A → ℕ → A
with_id table k x = λ u. if u == k then x else table u

-- the snapshot with one more item
abbrev pub more_items : ItemLine → Begun → Begun
more_items item b = record { history = b.history; from = b.from; end = b.end; disk = b.disk; items = b.items ++ item ∷ [] }
