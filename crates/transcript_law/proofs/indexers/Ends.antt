-- a client's stream is over: a change of role ended it, or all that was asked for was put
use Rattle.std.specs.Prelude.{◌≡◌, ◌≤◌, ◌<◌, ◌^◌, ◌++◌, ◌∷◌, ◌==◌, cond, if◌then◌else◌}
use Rattle.transcript_law.proofs.Words.{ℕ, Bool, true, false, not, List, [], length, refl, sym, ap, ◌∙◌, subst, Option, Some, eq-eqb, eqb-true, ne_eqb, Chronicle, Cluster, Event, Frame, IsWholeIf, Plain, PlainNode, PlainStream, PlainWorld, STATE_CHANGED, Served, States, Stream, after, spelling, stream_at, with_vb_at, without_stream}
use Rattle.client_session.specs.Serving.{PlainSession}
unfoldable use Rattle.mcbp_dcp.specs.DcpFrames.{dcp_frame}
use Rattle.mcbp_dcp.specs.declared.message.DcpMsg.TheVariants as msg
use Rattle.dcp_producer.specs.Frames.{ALL_SENT, Next, close_sent, over, reaches_end}
use Rattle.dcp_producer.specs.Producers.{replaced, stream_at as kept_at, without_id}
use Rattle.dcp_producer.specs.Pulling.{QuietOnes, came, end_put, stream_went}
use Rattle.dcp_producer.specs.declared.desk.Desk.{Desk}
use Rattle.flow_control.specs.Windows.{is_open as lets_through}
use Rattle.node_core.specs.Clients.{PlainClient}
use Rattle.transcript_law.proofs.indexers.{Framed.{SoFar, TurnSoFar, client_of, mine, over_agrees, put_more, read, still_open, still_through, world_of}, Marked.{reaches_so, whole_put}, Owning.{IsKnown, stream_known, with_streams}, Replacing.{replaced_same}, Replied.{end_short, end_vb, header_is, put_is}, Steps.{ClientStep}, Streams.{among_without, closed_there}, Worlds.{client_here, open_own, step_at, step_quiet, vb_here, world_with}}
use Rattle.vbucket.proofs.Fed.{feeds_closed}
use Rattle.transcript_law.proofs.invariant.{Agreement.{AgreesAt, VbAgrees, vb_of}, Carried.{sound_streams}, Carrying.{StreamsChanged}, ClientsKept.{among_open}, ClientsTold.{IsOpenFor}, OpenStreams.{Among}, Seats.{seat}}
use Rattle.transcript_law.specs.{ClientFrames.{is_closed_by}, LawfulClients.{EndsAs, LawfulClientEnd}, Questions.{flow_now, served_frames}, StreamsTold.{ClientKnown, ClientStream, StreamLine}}
use Rattle.vb_calls.specs.States.{call_at}
use Rattle.vb_calls.specs.declared.calls.VbCall.TheVariants.{CloseStream}
use Rattle.vb_events.specs.declared.event.Event.TheVariants as event
use Rattle.vb_events.specs.declared.event.StreamName.TheVariants as name
use Rattle.vb_calls.specs.Jobs.{after_reads}

-- streams without one of them
pub without_there : (id x : ℕ) (streams : List Stream) → (x ≡ id → ⊥) → stream_at x (without_stream id streams) ≡ stream_at x streams
without_there id x [] ne = refl
without_there id x (s ∷ ss) ne = by (without_there id x ss ne) (s.id == id) refl
  where
    by : stream_at x (without_stream id ss) ≡ stream_at x ss → (b : Bool) → (s.id == id) ≡ b → stream_at x (without_stream id (s ∷ ss)) ≡ stream_at x (s ∷ ss)
    by rest true e =
        let other : (s.id == x) ≡ false = ne_eqb s.id x (λ f. ne (sym f ∙ eqb-true s.id id e)) in
        ap (λ b. stream_at x (cond (not b) (s ∷ without_stream id ss) (without_stream id ss))) e ∙ rest ∙ sym (ap (λ b. if b then Some s else stream_at x ss) other)
    by rest false e = ap (λ b. stream_at x (cond (not b) (s ∷ without_stream id ss) (without_stream id ss))) e ∙ ap (λ o. if s.id == x then Some s else o) rest

-- a vBucket without it
abbrev pub vb_without : Plain → ℕ → Plain
vb_without p id = record p { streams = without_stream id p.streams }

-- ---- the line

module _ (n c : ℕ) (known : ClientKnown) (g : ClientStream) (t : PlainStream) (there : known.streams t.vb ≡ Some g) (reason : ℕ) where
  abbrev Ends : ClientStream → Type 0
  Ends y = (y.over ≡ false) × IsWholeIf y.last × EndsAs y.turned y reason

  pub end_lawful : t.vb < 2 ^ 16 → t.opaque ≡ g.opaque → is_closed_by (served_frames known) t.vb ≡ false → lets_through (flow_now known).window ≡ true → Ends g → (more : List Event) → LawfulClientEnd known n c reason (event.Reply n c (spelling (dcp_frame (msg.StreamEnd reason) t.opaque t.vb)) ∷ more)
  end_lawful small opaque still through ends more =
      let (p, is, at) = put_is n c known (msg.StreamEnd reason) g t.opaque t.vb more (end_vb reason t.opaque t.vb) small there opaque still through in
      let (opens, whole, cause) = subst Ends (sym is) ends in
      record { put = p; opens = opens; whole = whole; cause = cause }

-- ---- its turn

module _ (w : PlainWorld) (r : Chronicle) (cl : Cluster) (n c : ℕ) (node : PlainNode) (session : PlainSession) (states : States) (s : Served) (g : SoFar w r cl n c node session states s) (q : QuietOnes) (t : PlainStream) (i : Among t s.end.streams) (through : lets_through s.end.window ≡ true) where
  abbrev here : Chronicle
  here = read w r cl n c node session states s g

  abbrev now : PlainWorld
  now = world_of w r cl n c node session states s

  abbrev client : PlainClient
  client = client_of w r cl n c node session s

  pub known : IsKnown now now here here n c client (mine w r cl n c node session states s g) t
  known = stream_known now now here here n c client (mine w r cl n c node session states s g) t i

  -- what its next frame comes to
  abbrev pub Comes : States × Next → Type 0
  Comes x = TurnSoFar w r cl n c node session states s g q t (x.0, came s q x.1)

  over_turn : (reason : ℕ) (states' : States) → (let s' : Served = end_put t reason (stream_went t s) in ClientStep now (world_of w r cl n c node session states' s') n c) → ((k : ℕ) → (k ≡ t.vb → ⊥) → states' k ≡ states k)
      → length t.items ≤ t.next → EndsAs known.g.turned known.g reason → Comes (states', over reason t)
  over_turn reason states' step same whole cause =
      let f : Frame = dcp_frame (msg.StreamEnd reason) t.opaque t.vb in
      let s' : Served = end_put t reason (stream_went t s) in
      let m = mine w r cl n c node session states s g in
      let named : s.end.desk.stream ≡ name.Client n c = ap (λ (d : Desk). d.stream) m.conn.desk in
      let told : Event = event.Finished (name.Client n c) reason in
      let si = known.is in
      let header = header_is f t.vb (end_vb reason t.opaque t.vb) si.small in (
        put_more w r cl n c node session states s g t states' s' told f StreamLine.Ends (ap (λ k. s.events ++ event.Finished k reason ∷ []) named) refl (end_short reason t.opaque t.vb) refl header
            (λ u j ne. subst (Among u) (replaced_same s.end.streams t m.kept.rise i) (among_without u t.id (replaced t s.end.streams) j))
            (λ k ne. ap (λ ss. kept_at k (without_id t.id ss)) (replaced_same s.end.streams t m.kept.rise i) ∙ closed_there t.vb t s.end.streams m.kept.rise m.one (m.one t i) k ne) refl
            (end_lawful n c (here.clients_at n c) known.g t known.known reason si.small si.opaque (still_open w r cl n c node session states s g t known) (still_through w r cl n c node session states s g through) (si.over, whole_put known.g (here.held n t.vb) known.g.last t si.begun whole, cause))
            (over_agrees w r cl n c node session states s g t t i refl refl (spelling f) StreamLine.Ends header states' s' step same refl
            (ap (λ xs. with_streams client (without_id t.id xs) s'.end) (replaced_same s.end.streams t m.kept.rise i)) known refl),
        refl,
      )

  -- a change of role ended it
  pub ended_turn : t.ended ≡ true → length t.items ≤ t.next → Comes (states, over STATE_CHANGED t)
  ended_turn ended whole =
      over_turn STATE_CHANGED states (step_quiet w n c node states states (Some client) (Some (client_of w r cl n c node session (end_put t STATE_CHANGED (stream_went t s)))) (λ k. refl)) (λ k ne. refl) whole
      (subst (λ b. EndsAs b known.g STATE_CHANGED) (sym ended ∙ known.is.ended) refl)

  -- none did
  module _ (going : t.ended ≡ false) where
    pub opens : IsOpenFor here.tree (here.branch_at n t.vb) known.g t.id (vb_of now n t.vb)
    opens = known.is.opens going

    pub has : states t.vb ≡ Some opens.vb
    has = sym (vb_here w n c node states (Some client) t.vb) ∙ opens.there

    pub vb_agrees : VbAgrees here n t.vb (cl.nodes (seat n t.vb)) opens.vb
    vb_agrees = subst (AgreesAt here n t.vb (cl.nodes (seat n t.vb))) opens.there (g.agrees.vbs n t.vb)

    -- its vBucket has other streams than before, but for this number
    pub moved_step : (moved : Plain) (o' : Option PlainClient) (states' : States) → StreamsChanged t.id opens.vb moved → states' t.vb ≡ Some moved → ((k : ℕ) → (k ≡ t.vb → ⊥) → states' k ≡ states k)
        → ClientStep now (world_with w n c node states' o') n c
    moved_step moved o' states' changed after there =
        step_at w n c node states states' (Some client) o' t.vb t.id opens.vb moved has after there changed
        (open_own w n c node now here cl g.agrees t.vb t.id (refl, (client, client_here w n c node states (Some client), among_open t s.end.streams i going)))

    -- what was asked for was put: its stream is closed at its vBucket
    pub reached_turn : length t.items ≤ t.next → reaches_end t.until t.marked ≡ true → Comes (after_reads (close_sent t) node.shelves states)
    reached_turn whole reached =
        let p' : Plain = vb_without opens.vb t.id in
        let states' : States = with_vb_at states t.vb p' in
        let si = known.is in
        let there : (k : ℕ) → (k ≡ t.vb → ⊥) → states' k ≡ states k = λ k ne. ap (λ b. if b then Some p' else states k) (ne_eqb k t.vb ne) in
        let is : after_reads (close_sent t) node.shelves states ≡ (states', over ALL_SENT t) = ap (λ o. ((call_at states t.vb (CloseStream t.id) o).0, over ALL_SENT t)) has in
        subst Comes (sym is)
        (over_turn ALL_SENT states'
        (moved_step p' (Some (client_of w r cl n c node session (end_put t ALL_SENT (stream_went t s)))) states' (record { sound = sound_streams opens.vb p'.streams vb_agrees.sound (feeds_closed opens.vb.role opens.vb.floor t.id opens.vb.streams vb_agrees.sound.feeds); alone = refl; others = λ x ne. without_there t.id x opens.vb.streams ne })
        (ap (λ b. if b then Some p' else states t.vb) (eq-eqb t.vb t.vb refl)) there)
        there whole (subst (λ b. EndsAs b known.g ALL_SENT) (sym going ∙ si.ended) (refl, reaches_so known.g (here.held n t.vb) known.g.last t si.until si.begun reached)))
