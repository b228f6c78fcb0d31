-- a pull so far: its lines are lawful, and the world with the connection as it is then agrees; and one more line with its frame
use Rattle.std.specs.Prelude.{◌≡◌, ◌⊎◌, ◌++◌, ◌∷◌, ◌==◌, ◌&&◌, ◌||◌, if◌then◌else◌}
use Rattle.transcript_law.proofs.Words.{ℕ, Bool, true, false, and_parts, eqb-true, List, [], length, refl, sym, ap, ◌∙◌, subst, inl, ⊎_elim, Some, None, option_map, eq-eqb, ne_eqb, Chronicle, Cluster, Event, Frame, LawfulLine, PlainNode, PlainStream, PlainWorld, Served, States, Turn, More, Stop, after_line, after_lines, is_frame, spelling}
use Rattle.client_session.specs.Serving.{PlainSession}
use Rattle.dcp_producer.specs.Cuts.{IsShort}
use Rattle.dcp_producer.specs.Producers.{replaced, stream_at as kept_at, without_id}
use Rattle.dcp_producer.specs.Pulling.{Pulling, QuietOnes, first_wait, with_quiet, Halting}
use Rattle.dcp_producer.specs.declared.next_frame.Waits.{Waits}
use Rattle.flow_control.specs.Windows.{is_open as lets_through, with_put}
use Rattle.mcbp_frame.specs.{Cutting.{frame_in}, Frames.{first_frame}}
use Rattle.node_core.specs.Clients.{PlainClient}
use Rattle.transcript_law.proofs.indexers.{Beside.{beside}, Flows.{now_is, put_flows}, Moments.{served_is}, Owning.{IsKnown, SameHeard, over_owned, owned, went_owned, with_streams}, Replacing.{open_replaced}, Replied.{LawfulTo, TellsAs, after_more_pair, after_pair, lawful_pair, pairs_more, known_behind, tells_more, with_frame}, Steps.{ClientStep}, Streams.{open_without}, Worlds.{client_here, step_quiet, stepped, vb_here, waited, world_with}}
use Rattle.transcript_law.proofs.invariant.{Agreement.{AgreesIn, idle, vb_of}, ClientsKept.{among_open}, ClientsTold.{ClientAgrees, FlowIs, KeptIs, StreamIs}, OpenStreams.{Among}, Owed.{Owed, waits_same}, Tables.{at_here}}
use Rattle.transcript_law.specs.{Asked.{ArePairs}, ClientFrames.{is_closed_by}, ClientStreams.{past_frame, told_of, vb_in_header, with_told}, LawfulClients.{IsQuiet, WaitsSaved}, Feeding.{HasOpen}, LinesTold.{made_line}, Questions.{flow_now, served_frames}, StreamsTold.{ClientKnown, ClientStream, StreamLine, with_at}}
use Rattle.vb_events.specs.declared.event.Event.TheVariants as event
use Rattle.transcript_law.proofs.answers.Committed.{kept_made}
use Rattle.transcript_law.specs.LinesTold.{OwnChange, is_durable}

-- a table with what it has
pub table_again : {A : Type 0} (table : ℕ → ℕ → A) (n c m d : ℕ) → with_at table n c (table n c) m d ≡ table m d
table_again table n c m d = elim (m == n && d == c) as (λ b. (m == n && d == c) ≡ b → (if b then table n c else table m d) ≡ table m d)
    [ true ↦ λ e. let both = and_parts (m == n) (d == c) e in (λ i. table (sym (eqb-true m n both.0) i) (sym (eqb-true d c both.1) i)) | false ↦ λ e. refl ] refl

-- ---- what is known behind a frame of the stream of the vBucket v

-- what a stream that is quiet waits for: that more is saved, or nothing. None waits for the answer to a state
abbrev pub wait_of : Bool → Waits
wait_of true = Waits.Saved
wait_of false = Waits.Nothing

pub both_wait : (a b : Bool) → first_wait (wait_of a) (wait_of b) ≡ wait_of (a || b)
both_wait true true = refl
both_wait true false = refl
both_wait false true = refl
both_wait false false = refl

module _ (r : Chronicle) (n c : ℕ) (bytes : List ℕ) (line : StreamLine) (v : ℕ) (header : vb_in_header bytes ≡ v) where
  abbrev k : ClientKnown
  k = r.clients_at n c

  abbrev after : Chronicle
  after = known_behind r n c bytes line

  known_is : after.clients_at n c ≡ past_frame r.tree bytes line k
  known_is = at_here r.clients_at n c (past_frame r.tree bytes line k)

  pub framed_here : (g : ClientStream) → k.streams v ≡ Some g → (after.clients_at n c).streams v ≡ Some (told_of r.tree line g)
  framed_here g known =
      ap (λ (x : ClientKnown). x.streams v) known_is
      ∙ ap (λ b. if b then option_map (told_of r.tree line) (k.streams v) else k.streams v) (eq-eqb v (vb_in_header bytes) (sym header))
      ∙ ap (option_map (told_of r.tree line)) known

  pub framed_there : (q : ℕ) → (q ≡ v → ⊥) → (after.clients_at n c).streams q ≡ k.streams q
  framed_there q ne =
      ap (λ (x : ClientKnown). x.streams q) known_is
      ∙ ap (λ b. if b then option_map (told_of r.tree line) (k.streams q) else k.streams q) (ne_eqb q (vb_in_header bytes) (λ e. ne (e ∙ header)))

  pub framed_heard : (w w' : PlainWorld) (client : PlainClient) (a : ClientAgrees w r n c client) → SameHeard w w' r after n c client a (after.clients_at n c)
  framed_heard w w' client a = record { bytes = ap (λ (x : ClientKnown). x.bytes) known_is; setup = ap (λ (x : ClientKnown). x.setup) known_is; told = ap (λ (x : ClientKnown). x.told) known_is; opened = ap (λ (x : ClientKnown). x.opened) known_is; asking = ap (λ (x : ClientKnown). x.asking) known_is }

module _ (w : PlainWorld) (r : Chronicle) (cl : Cluster) (n c : ℕ) (node : PlainNode) (session : PlainSession) where
  -- the connection, and the world, in the middle of a pull
  abbrev pub client_of : Served → PlainClient
  client_of s = record { session = session; producer = s.end }

  abbrev pub world_of : States → Served → PlainWorld
  world_of states s = world_with w n c node states (Some (client_of s))

  pub record SoFar (states : States) (s : Served) : Type 0 where
    pub rests : session.awaited ≡ None → frame_in (first_frame session.reader) ≡ None
    pub lines : List Event
    pub tells : TellsAs n c s.events s.out lines
    pub pairs : ArePairs lines
    pub lawful : LawfulTo r lines
    pub agrees : AgreesIn idle (world_of states s) (after_lines r lines) cl

  -- a stream has no more to put now, by what is known of it
  abbrev pub IsQuietNow : Chronicle → PlainStream → Type 0
  IsQuietNow k t = (y : ClientStream) → (k.clients_at n c).streams t.vb ≡ Some y → IsQuiet k n t.vb y

  -- or it waits, by that
  abbrev pub IsWaitingNow : Chronicle → PlainStream → Type 0
  IsWaitingNow k t = (y : ClientStream) → (k.clients_at n c).streams t.vb ≡ Some y → WaitsSaved k n t.vb y

  -- one of the two
  abbrev pub RestsNow : Chronicle → PlainStream → Type 0
  RestsNow k t = IsQuietNow k t ⊎ IsWaitingNow k t

  -- one of its streams waits
  pub record WaitsNow (k : Chronicle) (streams : List PlainStream) : Type 0 where
    pub stream : PlainStream
    pub at : kept_at stream.vb streams ≡ Some stream
    pub waits : IsWaitingNow k stream

  module _ (states : States) (s : Served) (g : SoFar states s) where
    abbrev pub read : Chronicle
    read = after_lines r g.lines

    abbrev pub now : PlainWorld
    now = world_of states s

    pub mine : ClientAgrees now read n c (client_of s)
    mine = g.agrees.clients.each n c (client_of s) (client_here w n c node states (Some (client_of s)))

    -- one of its streams, which is known, was closed by no frame that was served
    pub still_open : (t : PlainStream) → IsKnown now now read read n c (client_of s) mine t → is_closed_by (served_frames (read.clients_at n c)) t.vb ≡ false
    still_open t x = ap (λ fs. is_closed_by fs t.vb) (served_is (read.clients_at n c) session s.end.handshake mine.heard mine.asks g.rests) ∙ x.unclosed

    -- and its window lets a frame through where its producer's does
    pub still_through : lets_through s.end.window ≡ true → lets_through (flow_now (read.clients_at n c)).window ≡ true
    still_through opens = ap lets_through (now_is (read.clients_at n c) session s.end.handshake s.end.window mine.flow mine.asks g.rests) ∙ opens

    -- ---- what a turn of the stream t comes to

    -- its frame was put; what else is open was so before. No journal is read for it
    pub record PutSoFar (t : PlainStream) (states' : States) (s' : Served) : Type 0 where
      pub so : SoFar states' s'
      pub bytes : List ℕ
      pub line : StreamLine
      pub header : vb_in_header bytes ≡ t.vb
      pub read_is : after_lines r so.lines ≡ with_frame read n c bytes line
      pub others : (u : PlainStream) → Among u s'.end.streams → (u.id ≡ t.id → ⊥) → Among u s.end.streams
      pub stay : (q : ℕ) → (q ≡ t.vb → ⊥) → kept_at q s'.end.streams ≡ kept_at q s.end.streams

    -- or it was quiet, and is so till the pull ends
    pub record QuietSoFar (q : QuietOnes) (t : PlainStream) (states' : States) (p : Pulling) : Type 0 where
      pub so : SoFar states' p.served
      pub read_is : after_lines r so.lines ≡ read
      pub same : p.served.end ≡ s.end
      pub waits : Bool
      pub quiet_is : p.quiet ≡ with_quiet t.id (wait_of waits) q
      pub quiet : waits ≡ false → IsQuietNow read t
      pub waiting : waits ≡ true → IsWaitingNow read t

    abbrev pub TurnSoFar : QuietOnes → PlainStream → States × Turn Pulling Halting → Type 0
    TurnSoFar q t (states', More p) = QuietSoFar q t states' p
    TurnSoFar q t (states', Stop (p, None)) = PutSoFar t states' p.served × (p.quiet ≡ q)
    TurnSoFar q t (states', Stop (p, Some halted)) = ⊥

    -- one more line, and the frame behind it
    pub put_more : (t : PlainStream) (states' : States) (s' : Served) (told : Event) (f : Frame) (line : StreamLine) → s'.events ≡ s.events ++ told ∷ [] → s'.out ≡ s.out ++ spelling f → IsShort f → is_frame told ≡ true
        → vb_in_header (spelling f) ≡ t.vb → ((u : PlainStream) → Among u s'.end.streams → (u.id ≡ t.id → ⊥) → Among u s.end.streams) → ((q : ℕ) → (q ≡ t.vb → ⊥) → kept_at q s'.end.streams ≡ kept_at q s.end.streams)
        → after_line read told ≡ record read { clients_at = with_at read.clients_at n c (with_told line (read.clients_at n c)) }
        → ((more : List Event) → LawfulLine read told (event.Reply n c (spelling f) ∷ more))
        → AgreesIn idle (world_of states' s') (with_frame read n c (spelling f) line) cl → PutSoFar t states' s'
    put_more t states' s' told f line events out short frame header others stay after lawful agrees =
        let is : after_lines r (g.lines ++ told ∷ event.Reply n c (spelling f) ∷ []) ≡ with_frame read n c (spelling f) line = after_more_pair r g.lines told (event.Reply n c (spelling f)) ∙ after_pair read n c told (spelling f) line after in
        record {
          so = record {
            rests = g.rests;
            lines = g.lines ++ told ∷ event.Reply n c (spelling f) ∷ [];
            tells = subst (λ e. TellsAs n c e s'.out (g.lines ++ told ∷ event.Reply n c (spelling f) ∷ [])) (sym events)
                (subst (λ o. TellsAs n c (s.events ++ told ∷ []) o (g.lines ++ told ∷ event.Reply n c (spelling f) ∷ [])) (sym out) (tells_more n c s.events s.out g.lines told f short g.tells));
            pairs = pairs_more n c g.lines told (spelling f) frame g.pairs;
            lawful = lawful_pair r n c g.lines told (spelling f) g.lawful line (ap (λ (q : Chronicle). (q.clients_at n c).told) after ∙ ap (λ (k : ClientKnown). k.told) (at_here read.clients_at n c (with_told line (read.clients_at n c)))) lawful;
            agrees = subst (λ k. AgreesIn idle (world_of states' s') k cl) (sym is) agrees;
          };
          bytes = spelling f;
          line = line;
          header = header;
          read_is = is;
          others = others;
          stay = stay;
        }

    -- one of its streams, of which a frame was put
    module _ (t left : PlainStream) (i : Among t s.end.streams) (id : left.id ≡ t.id) (vb : left.vb ≡ t.vb) (bytes : List ℕ) (line : StreamLine) (header : vb_in_header bytes ≡ t.vb) (states' : States) (s' : Served)
        (step : ClientStep now (world_of states' s') n c) (same : (q : ℕ) → (q ≡ t.vb → ⊥) → states' q ≡ states q) (through : s'.end.window ≡ with_put (length bytes) s.end.window) where
      abbrev new : PlainWorld
      new = world_of states' s'

      -- what is known then, and what is read
      abbrev read' : Chronicle
      read' = known_behind read n c bytes line

      abbrev put' : Chronicle
      put' = with_frame read n c bytes line

      behind : AgreesIn idle new read' cl → AgreesIn idle new put' cl
      behind a = beside new read' read'.conn_at (made_line read.made (event.Reply n c bytes)) read.ticks false cl (λ one durable i. kept_made (λ (m : OwnChange). is_durable m.change.act) one read.made durable i) a

      others : (q : ℕ) → (q ≡ t.vb → ⊥) → (read'.tree ≡ read.tree) × (read'.branch_at n q ≡ read.branch_at n q) × (read'.held n q ≡ read.held n q) × (vb_of new n q ≡ vb_of now n q) × ((read'.clients_at n c).streams q ≡ (read.clients_at n c).streams q)
      others q ne = (refl, refl, refl, vb_here w n c node states' (Some (client_of s')) q ∙ same q ne ∙ sym (vb_here w n c node states (Some (client_of s)) q), framed_there read n c bytes line t.vb header q ne)

      -- its session is as it was, and what it asked is
      still_waits : {streams : List PlainStream} → client_of s' ≡ with_streams (client_of s) streams s'.end → Owed new read'
      still_waits is = waited w n c node states states' (client_of s) (client_of s') read (past_frame read.tree bytes line (read.clients_at n c)) cl g.agrees step
          (waits_same (read.clients_at n c).asking (client_of s).session (client_of s').session (ap (λ (y : PlainClient). y.session) is))

      -- the frame went through its window
      flow : FlowIs (read'.clients_at n c).flow session s.end.handshake s'.end.window
      flow = subst (λ (k : ClientKnown). FlowIs k.flow session s.end.handshake s'.end.window) (sym (at_here read.clients_at n c (past_frame read.tree bytes line (read.clients_at n c))))
          (put_flows (read.clients_at n c) session s.end.handshake s.end.window mine.flow mine.asks g.rests bytes s'.end.window through)

      -- its stream goes on
      pub went_agrees : client_of s' ≡ with_streams (client_of s) (replaced left s.end.streams) s'.end → left.ended ≡ t.ended → (x : IsKnown now now read read n c (client_of s) mine t)
          → StreamIs read.tree (read.branch_at n t.vb) (read.held n t.vb) (states' t.vb) (told_of read.tree line x.g) left → AgreesIn idle new put' cl
      went_agrees is ended x stands = behind (stepped w n c node states states' (client_of s) (client_of s') read (past_frame read.tree bytes line (read.clients_at n c)) cl g.agrees step
          (λ v k has. inl (⊎_elim (λ o. had v k o) (λ h. h) (open_replaced left v k s.end.streams (subst (λ (y : PlainClient). HasOpen v k y.producer.streams) is has))))
          (subst (ClientAgrees new read' n c) (sym is)
          (went_owned now new read read' n c (client_of s) mine t left i id vb s'.end (framed_heard read n c bytes line t.vb header now new (client_of s) mine) flow others (told_of read.tree line x.g) (framed_here read n c bytes line t.vb header x.g x.known) x.unclosed
          (subst (λ o. StreamIs read.tree (read.branch_at n t.vb) (read.held n t.vb) o (told_of read.tree line x.g) left) (sym (vb_here w n c node states' (Some (client_of s')) t.vb)) stands)))
          (still_waits is))
        where
          had : (v k : ℕ) → (left.vb ≡ v) × (left.id ≡ k) × (left.ended ≡ false) → HasOpen v k s.end.streams
          had v k o = subst (λ q. HasOpen q k s.end.streams) (sym vb ∙ o.0) (subst (λ q. HasOpen t.vb q s.end.streams) (sym id ∙ o.1) (among_open t s.end.streams i (sym ended ∙ o.2)))

      -- it is over
      pub over_agrees : client_of s' ≡ with_streams (client_of s) (without_id t.id s.end.streams) s'.end → (x : IsKnown now now read read n c (client_of s) mine t) → (told_of read.tree line x.g).over ≡ true → AgreesIn idle new put' cl
      over_agrees is x over = behind (stepped w n c node states states' (client_of s) (client_of s') read (past_frame read.tree bytes line (read.clients_at n c)) cl g.agrees step
          (λ v k has. inl (open_without v k t.id s.end.streams (subst (λ (y : PlainClient). HasOpen v k y.producer.streams) is has)))
          (subst (ClientAgrees new read' n c) (sym is)
          (over_owned now new read read' n c (client_of s) mine t left i id vb s'.end (framed_heard read n c bytes line t.vb header now new (client_of s) mine) flow others (told_of read.tree line x.g) (framed_here read n c bytes line t.vb header x.g x.known) over))
          (still_waits is))

    -- ---- nothing was put

    -- another turn
    pub turned_so_far : (s' : Served) → s'.events ≡ s.events → s'.out ≡ s.out → client_of s' ≡ with_streams (client_of s) s.end.streams s'.end → s'.end.window ≡ s.end.window → (so : SoFar states s') × (so.lines ≡ g.lines)
    turned_so_far s' events out is window = (
      record {
        rests = g.rests;
        lines = g.lines;
        tells = subst (λ e. TellsAs n c e s'.out g.lines) (sym events) (subst (λ o. TellsAs n c s.events o g.lines) (sym out) g.tells);
        pairs = g.pairs;
        lawful = g.lawful;
        agrees = subst (λ k. AgreesIn idle (world_of states s') k cl) (λ i. record read { clients_at = known_again i })
            (stepped w n c node states states (client_of s) (client_of s') read (read.clients_at n c) cl g.agrees (step_quiet w n c node states states (Some (client_of s)) (Some (client_of s')) (λ q. refl))
            (λ v k has. inl (subst (λ (y : PlainClient). HasOpen v k y.producer.streams) is has))
            (subst (λ k. ClientAgrees (world_of states s') k n c (client_of s')) (λ i. record read { clients_at = sym known_again i }) (subst (ClientAgrees (world_of states s') read n c) (sym is)
            (owned now (world_of states s') read read n c (client_of s) mine s.end.streams s'.end (record { ids = refl; rise = mine.kept.rise; numbered = mine.kept.numbered; turn = mine.kept.turn }) mine.one mine.opened
            (record { bytes = refl; setup = refl; told = mine.silent; opened = refl; asking = refl }) (subst (FlowIs (read.clients_at n c).flow session s.end.handshake) (sym window) mine.flow)
            (λ q. subst (λ o. KeptIs read.tree (read.branch_at n q) (read.held n q) o (is_closed_by mine.heard.served q) ((read.clients_at n c).streams q) (kept_at q s.end.streams))
            (vb_here w n c node states (Some (client_of s)) q ∙ sym (vb_here w n c node states (Some (client_of s')) q)) (mine.streams q)))))
            (waited w n c node states states (client_of s) (client_of s') read (read.clients_at n c) cl g.agrees (step_quiet w n c node states states (Some (client_of s)) (Some (client_of s')) (λ q. refl))
            (waits_same (read.clients_at n c).asking (client_of s).session (client_of s').session (ap (λ (y : PlainClient). y.session) is))));
      },
      refl,
    )
      where
        -- what is known of the connection, where it was
        known_again : with_at read.clients_at n c (read.clients_at n c) ≡ read.clients_at
        known_again = λ i m d. table_again read.clients_at n c m d i
