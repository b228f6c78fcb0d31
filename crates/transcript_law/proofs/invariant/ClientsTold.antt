-- what is known of a client's connection agrees with its session and its producer, and its streams are those of its node's vBuckets
use Rattle.std.specs.Prelude.{◌≡◌, ◌≤◌, ◌<◌, ◌^◌, ◌+◌, ◌++◌, ◌⊎◌, ℕ, Bool, true, false, List, [], ◌∷◌, length, map, take, Option, Some, None, is_some}
use Rattle.std.specs.List.{All, sum_by}
use Rattle.client_session.specs.Serving.{PlainSession}
use Rattle.client_session.specs.declared.session.Awaited.{Awaited}
use Rattle.dcp_producer.specs.Firsts.{first_of}
use Rattle.dcp_producer.specs.Producers.{PlainStream, is_named, is_open, stream_at as kept_at}
use Rattle.dcp_producer.specs.declared.desk.Handshake.{Handshake}
use Rattle.dcp_producer.specs.declared.desk.Handshake.TheVariants as handshake
use Rattle.flow_control.specs.declared.window.Window.{Window}
use Rattle.mcbp_frame.specs.Cutting.{frames_in}
use Rattle.mcbp_frame.specs.Frames.{frame_len}
use Rattle.mcbp_frame.specs.declared.frame.Frame.{Frame}
use Rattle.node_core.specs.Clients.{PlainClient}
use Rattle.node_world.specs.Worlds.{PlainWorld}
use Rattle.vb_calls.specs.State.{Plain, is_active}
use Rattle.vb_calls.specs.Streams.{stream_at}
use Rattle.vb_calls.specs.declared.stream.Stream.{Stream}
use Rattle.vb_events.specs.declared.event.StreamName.{StreamName}
use Rattle.vb_events.specs.declared.event.StreamName.TheVariants as name
use Rattle.vb_types.specs.declared.change.Change.{Change}
use Rattle.branch_model.specs.Snapshots.{Covers}
use Rattle.branch_model.specs.Trees.{Branch}
use Rattle.transcript_law.proofs.invariant.Holdings.{ChangeFits, vb_of}
use Rattle.transcript_law.proofs.invariant.OpenStreams.{AreKept, Among}
use Rattle.transcript_law.proofs.invariant.Owing.{Owed}
use Rattle.transcript_law.specs.ClientFrames.{first_request, is_closed_by, setup_after}
use Rattle.transcript_law.specs.ClientStreams.{held_for, stream_view}
use Rattle.transcript_law.specs.Feeding.{HasFed, client_in}
use Rattle.transcript_law.specs.LawfulAnswers.{HasNumber, WRITE_NUMBERS}
use Rattle.transcript_law.proofs.links.Sources.{ItemsFit}
use Rattle.transcript_law.specs.LawfulClients.{IsSentOf, NoneWithin}
use Rattle.transcript_law.specs.LinesTold.{Chronicle}
use Rattle.transcript_law.specs.StreamLaws.{item_of_change}
use Rattle.transcript_law.specs.Questions.{Question, first_question, window_after}
use Rattle.transcript_law.specs.Unanswered.{AsksDurably}
use Rattle.transcript_law.specs.StreamsTold.{Asking, Begun, ClientKnown, ClientStream, FlowKnown, Setup, no_setup}

-- the client's session and its producer are of this connection
pub record IsConn (n c : ℕ) (client : PlainClient) : Type 0 where
  pub node : client.session.who.node ≡ n
  pub number : client.session.who.client ≡ c
  pub desk : client.producer.desk ≡ record { stream = name.Client n c; node = n; base = client.session.who.base }

-- what is set is what the producer's handshake is
abbrev pub setup_of : Handshake → Setup
setup_of handshake.Fresh = no_setup
setup_of (handshake.Open sync_writes called) = record { opened = true; sync = sync_writes; named = is_named called }

-- bytes that are whole frames, whatever follows
pub record AreFrames (bytes : List ℕ) (frames : List Frame) : Type 0 where
  pub cut : (rest : List ℕ) → frames_in (bytes ++ rest) ≡ frames ++ frames_in rest
  pub long : length bytes ≡ sum_by frame_len frames

-- of the bytes that are known to have come behind the last request the front was served, with no request for a stream in it, and set what the handshake is; behind it stand those that the session keeps
pub record HeardIs (known : ClientKnown) (session : PlainSession) (set : Handshake) : Type 0 where
  pub served : List Frame
  pub front : List ℕ
  pub bytes : known.bytes ≡ front ++ session.reader
  pub frames : AreFrames front served
  pub none : first_request served ≡ None
  pub sets : setup_after known.setup served ≡ setup_of set

-- what an awaited outcome answers: the last one of these frames, which is the first that wants an answer, by its opcode and opaque. One that a session waits for is a durable write, for which a number was left; a frame that is being answered is awaited under no number
pub record IsOpenQuestion (k : Asking) (served : List Frame) (a : Awaited) : Type 0 where
  pub question : Question
  pub next : first_question k.setup served ≡ Some question
  pub last : served ≡ question.before ++ question.frame ∷ []
  pub opcode : a.opcode ≡ question.frame.opcode
  pub opaque : a.opaque ≡ question.frame.opaque
  pub durable : (a.waiter ≡ 0 → ⊥) → AsksDurably k.settings question.frame
  pub numbered : (a.waiter ≡ 0 → ⊥) → HasNumber k.durables

-- of these frames none wants an answer, but one that is awaited
abbrev pub AreAnswered : Option Awaited → Asking → List Frame → Type 0
AreAnswered None k served = first_question k.setup served ≡ None
AreAnswered (Some a) k served = IsOpenQuestion k served a

-- a session used so many numbers for so many durable writes: one for each, as long as there are any
pub record HasUsed (used count : ℕ) : Type 0 where
  pub most : used ≤ count
  pub each : used < WRITE_NUMBERS → count ≤ used

-- one that is awaited under a number is not answered yet; a frame that is in hand may have its number already
abbrev pub AreUsed : Option Awaited → ℕ → ℕ → Type 0
AreUsed None used count = HasUsed used count
AreUsed (Some a) used count = (a.waiter ≡ 0 → ⊥) → HasUsed used (count + 1)

-- of the bytes that came behind the last answer the front was served, and set what the handshake is; behind it stand those that the session keeps; each frame was answered that wants to be, but one that is awaited; and each durable write has its number
pub record AskingIs (k : Asking) (session : PlainSession) (set : Handshake) : Type 0 where
  pub served : List Frame
  pub front : List ℕ
  pub bytes : k.bytes ≡ front ++ session.reader
  pub frames : AreFrames front served
  pub sets : setup_after k.setup served ≡ setup_of set
  pub settings : k.settings ≡ session.settings
  pub answered : AreAnswered session.awaited k served
  pub numbers : AreUsed session.awaited session.used k.durables

-- of the bytes behind those that are counted into the window the front was served, and made of it what the producer's is
pub record FlowIs (flow : FlowKnown) (session : PlainSession) (set : Handshake) (window : Window) : Type 0 where
  pub served : List Frame
  pub front : List ℕ
  pub bytes : flow.bytes ≡ front ++ session.reader
  pub frames : AreFrames front served
  pub sets : setup_after flow.setup served ≡ setup_of set
  pub is : window_after flow.setup flow.window served ≡ window

-- the last snapshot that is known is the one that the producer took last, of which so many items were put; each is sent of what its vBucket holds, or held before it got a role
abbrev pub BegunIs : ClientStream → List Change → Option Begun → PlainStream → Type 0
BegunIs g held None stream = (stream.items ≡ []) × (stream.marked ≡ None)
BegunIs g held (Some b) stream =
    Covers stream.items b.history b.from b.end × (b.items ≡ map item_of_change (take stream.next stream.items)) × (stream.marked ≡ Some b.end)
    × All (IsSentOf g b (held_for g held)) stream.items × ItemsFit b stream.items

-- the vBucket's place is where the last snapshot ended, or, where the stream is not shown everything, above that, with nothing that it is shown in between
abbrev pub PlaceIs : Bool → List Change → ℕ → ℕ → Type 0
PlaceIs true h place at = at ≡ place
PlaceIs false h place at = (place ≤ at) × NoneWithin h place at

-- a stream that no change of role ended is open at its vBucket, which is active on the stream's branch
pub record IsOpenFor (tree : List Branch) (on : Option ℕ) (g : ClientStream) (id : ℕ) (pv : Option Plain) : Type 0 where
  pub vb : Plain
  pub there : pv ≡ Some vb
  pub active : is_active vb.role ≡ true
  pub branch : on ≡ Some g.branch
  pub stream : Stream
  pub opened : stream_at id vb.streams ≡ Some stream
  pub ask : stream.ask ≡ g.ask
  pub sync : stream.sync ≡ g.sync
  pub taken : stream.taken ≡ is_some g.last
  pub place : PlaceIs g.sync (stream_view tree g) g.place stream.place
  pub low : stream.place ≤ vb.position.at

-- before a first snapshot the stream stands where the request starts, and behind that above it
abbrev pub StartedAt : Option Begun → ClientStream → Type 0
StartedAt None g = g.place ≡ g.ask.start
StartedAt (Some b) g = g.ask.start < g.place

-- a stream as its producer keeps it is the one that is known, up to the place that is; no backfill of it is to be read
pub record StreamIs (tree : List Branch) (on : Option ℕ) (held : List Change) (pv : Option Plain) (g : ClientStream) (stream : PlainStream) : Type 0 where
  pub opaque : stream.opaque ≡ g.opaque
  pub small : stream.vb < 2 ^ 16
  pub until : stream.until ≡ g.ask.end
  pub first : stream.first ≡ first_of g.ask
  pub over : g.over ≡ false
  pub ended : stream.ended ≡ g.turned
  pub gives : stream.gives ≡ None
  pub shows : stream.sync ≡ g.sync
  pub put_place : stream.place ≡ g.place
  pub none_unread : stream.unread ≡ None
  pub fits : All ChangeFits stream.items
  pub next_in : stream.next ≤ length stream.items
  pub started : StartedAt g.last g
  pub begun : BegunIs g held g.last stream
  pub opens : stream.ended ≡ false → IsOpenFor tree on g stream.id pv

-- the stream of a vBucket, where its connection has one: it is known, and no frame behind the last request closed it. Where the connection has none, what is known of one is that its end was put, or that such a frame closed it
abbrev pub KeptIs : List Branch → Option ℕ → List Change → Option Plain → Bool → Option ClientStream → Option PlainStream → Type 0
KeptIs tree on held pv closed None None = Unit {0}
KeptIs tree on held pv closed (Some g) None = (closed ≡ true) ⊎ (g.over ≡ true)
KeptIs tree on held pv closed None (Some stream) = ⊥
KeptIs tree on held pv closed (Some g) (Some stream) = (closed ≡ false) × StreamIs tree on held pv g stream

-- a client's connection, between two frames
pub record ClientAgrees (w : PlainWorld) (r : Chronicle) (n c : ℕ) (client : PlainClient) : Type 0 where
  pub conn : IsConn n c client
  pub alive : client.session.closed ≡ false
  pub kept : AreKept client.producer
  pub one : (stream : PlainStream) → Among stream client.producer.streams → kept_at stream.vb client.producer.streams ≡ Some stream
  pub opened : (stream : PlainStream) → Among stream client.producer.streams → is_open client.producer.handshake ≡ true
  pub asked : client.producer.asked ≡ (r.clients_at n c).opened
  pub silent : (r.clients_at n c).told ≡ None
  pub heard : HeardIs (r.clients_at n c) client.session client.producer.handshake
  pub asks : AskingIs (r.clients_at n c).asking client.session client.producer.handshake
  pub flow : FlowIs (r.clients_at n c).flow client.session client.producer.handshake client.producer.window
  pub streams : (v : ℕ) → KeptIs r.tree (r.branch_at n v) (r.held n v) (vb_of w n v) (is_closed_by heard.served v) ((r.clients_at n c).streams v) (kept_at v client.producer.streams)

-- no stream of a client is another's too
abbrev pub ClientsApart : PlainWorld → Type 0
ClientsApart w = (n c v id : ℕ) (who : StreamName) → HasFed w (name.Client n c) n v id → HasFed w who n v id → who ≡ name.Client n c

-- all open connections of clients, and what is owed to them
pub record ClientsTold (w : PlainWorld) (r : Chronicle) : Type 0 where
  pub each : (n c : ℕ) (client : PlainClient) → client_in (w.nodes n) c ≡ Some client → ClientAgrees w r n c client
  pub apart : ClientsApart w
  pub owed : Owed w r
