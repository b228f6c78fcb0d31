-- a client's connection in other words: where the frames of its streams go, how a request of DCP is passed on, and how its streams end
use Rattle.std.specs.Prelude.{◌≡◌, ℕ, ◌==◌, ◌&&◌, ◌||◌, Bool, true, false, List, [], ◌∷◌, ◌++◌, map, Option, Some, None}
use Rattle.std.specs.List.{All, concat, flat_map, list_any}
use Rattle.mcbp_frame.specs.Spelling.{Fits, spelling}
use Rattle.mcbp_frame.specs.declared.frame.Frame.{Frame}
use Rattle.client_session.specs.Serving.{Served, served, bytes_handled, outcome_handled}
use Rattle.dcp_producer.specs.Producers.{PlainProducer, PlainStream, begun}
use Rattle.dcp_producer.specs.Serving.{frame_answered}
use Rattle.vb_calls.specs.Programs.{Prog, Done, bind, AnyCall, Always, Ran}
use Rattle.vb_calls.specs.declared.calls.Resolved.{Resolved}
use Rattle.vb_calls.specs.declared.calls.VbCall.{VbCall}
use Rattle.vb_calls.specs.declared.calls.VbCall.TheVariants as call
use Rattle.vb_calls.specs.declared.calls.VbReply.{VbReply}
use Rattle.vb_events.specs.declared.event.Event.{Event}
use Rattle.vb_events.specs.declared.event.Event.TheVariants as event
use Rattle.vb_events.specs.declared.event.StreamName.TheVariants as name
use Rattle.node_core.specs.declared.conn.Conn.TheVariants as conn
use Rattle.node_core.specs.declared.out.NodeOut.{NodeOut}
use Rattle.node_core.specs.Clients.{Handling, KeptClient, PlainClient, client_fed, client_posted, closed_if, frames_passed, went_on, with_replies}
use Rattle.node_core.specs.Outcomes.{ClientFed, ClientPosted, ConnShut, conn_ended}
use Rattle.node_core.specs.Peers.{KeptPeer}

-- ---- frames of streams

-- a line with its frame: the frame is a reply directly behind the line
abbrev pub told_with : ℕ → ℕ → Event × Frame → List Event
told_with n c (line, f) = line ∷ event.Reply n c (spelling f) ∷ []

-- a frame whose parts fit their length fields
abbrev pub IsFit : Event × Frame → Type 0
IsFit (line, f) = Fits f

-- lines of which each has its frame; and an answer that has none
pub record GetFrames : Type 0 where
  pub pairs : (n c : ℕ) (told : List (Event × Frame)) → All IsFit told → with_replies n c (map (λ p. p.0) told) (concat (map (λ p. spelling p.1) told)) ≡ flat_map (told_with n c) told
  pub alone : (n c : ℕ) (f : Frame) → with_replies n c [] (spelling f) ≡ event.Reply n c (spelling f) ∷ []
  pub none : (n c : ℕ) → with_replies n c [] [] ≡ []

-- a frame of which two bytes are the body, and one without a body
abbrev pub short_frame : List ℕ
short_frame = 0x80 ∷ 0x57 ∷ 0 ∷ 0 ∷ 0 ∷ 0 ∷ 0 ∷ 3 ∷ 0 ∷ 0 ∷ 0 ∷ 2 ∷ 0 ∷ 0 ∷ 0 ∷ 9 ∷ 0 ∷ 0 ∷ 0 ∷ 0 ∷ 0 ∷ 0 ∷ 0 ∷ 0 ∷ 7 ∷ 8 ∷ []

abbrev pub bare_frame : List ℕ
bare_frame = 0x80 ∷ 0x55 ∷ 0 ∷ 0 ∷ 0 ∷ 0 ∷ 0 ∷ 4 ∷ 0 ∷ 0 ∷ 0 ∷ 0 ∷ 0 ∷ 0 ∷ 0 ∷ 9 ∷ 0 ∷ 0 ∷ 0 ∷ 0 ∷ 0 ∷ 0 ∷ 0 ∷ 0 ∷ []

-- a marker's line and that of an end
abbrev pub marker_line : Event
marker_line = event.Marked (name.Client 1 2) 3 4 5

abbrev pub end_line : Event
end_line = event.Finished (name.Client 1 2) 6

-- two lines with their frames, a line with its frame and an answer behind it, and a line of which less than a frame came
pub record FramesInNumbers : Type 0 where
  pub two : with_replies 1 2 (marker_line ∷ end_line ∷ []) (short_frame ++ bare_frame) ≡ marker_line ∷ event.Reply 1 2 short_frame ∷ end_line ∷ event.Reply 1 2 bare_frame ∷ []
  pub behind : with_replies 1 2 (marker_line ∷ []) (bare_frame ++ short_frame) ≡ marker_line ∷ event.Reply 1 2 bare_frame ∷ event.Reply 1 2 short_frame ∷ []
  pub part : with_replies 1 2 (end_line ∷ []) (7 ∷ 8 ∷ []) ≡ end_line ∷ event.Reply 1 2 (7 ∷ 8 ∷ []) ∷ []

-- ---- requests of DCP

-- no frame was handed up
abbrev pub HandsNone : Served → Type 0
HandsNone s = s.dcp ≡ None

-- the connection has this session, with the producer as it was, and told what the session told
abbrev pub as_session : PlainProducer → Served → Handling
as_session producer s = record { client = record { session = s.session; producer = producer }; events = s.events; dcp = None }

-- a connection whose session hands no frame up does what the session does; a frame that is handed up is answered by the producer behind the lines so far, and then the session goes on, with no new byte, and all frames that it hands up after it are passed on so
pub record PassesOn : Type 0 where
  pub bytes : (clock : ℕ) (piece : List ℕ) (client : PlainClient) → Always AnyCall HandsNone (bytes_handled clock piece (served client.session []))
      → client_fed clock piece client ≡ bind (bytes_handled clock piece (served client.session [])) (λ s. closed_if s.session.closed (as_session client.producer s))
  pub outcomes : (clock : ℕ) (outcome : Resolved) (client : PlainClient) → Always AnyCall HandsNone (outcome_handled clock outcome (served client.session []))
      → client_posted clock outcome client ≡ bind (outcome_handled clock outcome (served client.session [])) (λ s. closed_if s.session.closed (as_session client.producer s))
  pub none : (clock : ℕ) (h : Handling) → h.dcp ≡ None → frames_passed clock h ≡ Done h
  pub frame : (clock : ℕ) (h : Handling) (f : Frame) → h.dcp ≡ Some f
      → frames_passed clock h
      ≡ bind (frame_answered f (begun h.client.producer)) (λ a. bind (bytes_handled clock [] (served h.client.session [])) (λ s. frames_passed clock (record {
        client = record { session = s.session; producer = a.end };
        events = (h.events ++ with_replies h.client.session.who.node h.client.session.who.client a.events a.out) ++ s.events;
        dcp = s.dcp;
      })))

-- ---- the end of streams

-- what a client's bytes come to, and an outcome, before streams are closed
abbrev pub bytes_passed : ℕ → List ℕ → PlainClient → Prog Handling
bytes_passed clock piece client = bind (bytes_handled clock piece (served client.session [])) (λ s. frames_passed clock (went_on [] client.producer s))

abbrev pub outcome_passed : ℕ → Resolved → PlainClient → Prog Handling
outcome_passed clock outcome client = bind (outcome_handled clock outcome (served client.session [])) (λ s. frames_passed clock (went_on [] client.producer s))

module _ {W : Type 0} (step : W → ℕ → VbCall → Option VbReply → W → Type 0) where
  -- a stream is closed at its vBucket, unless a change of role ended it
  abbrev pub ClosesOne : Bool → PlainStream → W → W → Type 0
  ClosesOne true stream old new = new ≡ old
  ClosesOne false stream old new = (reply : Option VbReply) × step old stream.vb (call.CloseStream stream.id) reply new

  -- streams are closed so, in their order, and no other call is made
  abbrev pub ClosesAll : List PlainStream → W → W → Type 0
  ClosesAll [] old new = new ≡ old
  ClosesAll (stream ∷ more) old new = (mid : W) × ClosesOne stream.ended stream old mid × ClosesAll more mid new

  -- what a client's bytes came to, or an outcome: where the connection is said to be closed, its streams are closed last, and elsewhere nothing is
  pub record ClosesLast (passed : Prog Handling) (old : W) (out : NodeOut) (left : KeptClient) (new : W) : Type 0 where
    pub mid : W
    pub came : Handling
    pub ran : Ran step passed old came mid
    pub same : left.plain ≡ came.client
    pub says : out.closed ≡ left.plain.session.closed
    pub closed : out.closed ≡ true → ClosesAll left.plain.producer.streams mid new
    pub still_open : out.closed ≡ false → new ≡ mid

  -- so it is with a client's connection, and where it is let go its streams are closed too, spent or not
  pub record ClosesStreams : Type 0 where
    pub bytes : (clock : ℕ) (piece : List ℕ) (kept : KeptClient) (old : W) (out : NodeOut) (left : KeptClient) (new : W) → ClientFed step clock piece kept old out left new
        → ClosesLast (bytes_passed clock piece kept.plain) old out left new
    pub outcomes : (clock : ℕ) (outcome : Resolved) (kept : KeptClient) (old : W) (out : NodeOut) (left : KeptClient) (new : W) → ClientPosted step clock outcome kept old out left new
        → ClosesLast (outcome_passed clock outcome kept.plain) old out left new
    pub shut : (kept : KeptClient) (old new : W) → ConnShut step (conn.Client kept) old new → ClosesAll kept.plain.producer.streams old new

-- a stream is ended, if it was before, or is one of the vBucket v and has one of these numbers; all else of it stays
abbrev pub ended_too : ℕ → List ℕ → PlainStream → PlainStream
ended_too v ids stream = record stream { ended = stream.ended || (stream.vb == v && list_any (λ i. i == stream.id) ids) }

-- a change of role at the vBucket v ends streams of a client's connection as those of a peer's, and changes nothing else of either; one that is refused changes nothing
pub record RolesEnd : Type 0 where
  pub clients : (v : ℕ) (ids : List ℕ) (kept : KeptClient) → conn_ended v (Some ids) (conn.Client kept)
      ≡ conn.Client (record kept { plain = record kept.plain { producer = record kept.plain.producer { streams = map (ended_too v ids) kept.plain.producer.streams } } })
  pub peers : (v : ℕ) (ids : List ℕ) (kept : KeptPeer) → conn_ended v (Some ids) (conn.Peer kept)
      ≡ conn.Peer (record kept { plain = record kept.plain { producer = record kept.plain.producer { streams = map (ended_too v ids) kept.plain.producer.streams } } })
  pub none : (v : ℕ) (kept : KeptClient) → conn_ended v None (conn.Client kept) ≡ conn.Client kept
