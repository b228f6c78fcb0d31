-- a line that brings a client's bytes closes its connection where they break off, and tells that last
use Rattle.std.specs.Prelude.{◌≡◌, ◌+◌, ◌∷◌, ◌++◌, drop}
use Rattle.std.specs.List.{list_any, sum_by}
use Rattle.transcript_law.proofs.Words.{ℕ, Bool, true, false, List, [], length, refl, ap, sym, ◌∙◌, subst, append_assoc, Option, Some, None, Result, Ok, Err, Chronicle, Event, Frame, FrameFault, StreamName, PlainNode, PlainProducer, PlainWorld, States, after, begun, frame_handled, frames_in, left_of, ended_at, bytes_at, bytes_if, on_node, Told, Handshake}
unfoldable use Rattle.mcbp_frame.specs.Frames.{first_frame}
use Rattle.client_session.proofs.{Conduct.{Stays, frame_stays}, Keeping.{front_of}, Turns.{handed_holds}}
use Rattle.client_session.specs.Answers.{fault_lines}
unfoldable use Rattle.client_session.specs.Answers.{reply_line}
use Rattle.client_session.specs.Serving.{PlainSession, Served, is_held, outcome_answered, served, with_bytes}
use Rattle.dcp_producer.specs.Ending.{end_closed}
use Rattle.dcp_producer.specs.Serving.{frame_answered}
use Rattle.mcbp_frame.proofs.Cutting.{left-none, left-one}
use Rattle.mcbp_frame.specs.{Cutting.{cut_len, fault_in, frame_in, front_fault}, Frames.{faulty_head, frame_len}}
use Rattle.mcbp_frame.specs.declared.frame.FaultyHead.{FaultyHead}
use Rattle.node_core.proofs.Handlings.{answered, posted_free, started}
use Rattle.node_core.specs.Clients.{Handling, PlainClient, client_fed, client_posted, went_on}
use Rattle.transcript_law.proofs.indexers.{Questions.{all_frames, more_asks}, Turns.{fed_goes}}
use Rattle.std.proofs.{Common.{drop-drop}, Math.Seq.{drop-append_seam}, lemmas.List.Sums.{sum_by-append}}
use Rattle.transcript_law.proofs.invariant.{Agreement.{Agrees, ClientAgrees}, ClientsTold.{AskingIs}, Ranged.{IsRanged, NodeRangedIf}}
use Rattle.transcript_law.proofs.verbs.NodeLines.{on_node_by}
use Rattle.transcript_law.proofs.lines.SessionLines.{AreTo, IsKept, LeftBy, fed_at}
use Rattle.transcript_law.specs.{Breaks.{BreaksOff, break_told, is_closing}, ClientStreams.{with_sent_bytes}, Feeding.{client_in}, Questions.{behind_frames}, StreamsTold.{Asking}}
use Rattle.vb_calls.proofs.Conduct.{after_always}
use Rattle.vb_calls.specs.Programs.{AnyCall}
use Rattle.vb_calls.specs.declared.calls.Resolved.{Resolved}

no_first : (reader : List ℕ) (x : Result Frame FrameFault) → reader ≡ [] → first_frame reader ≡ Some x → ⊥
unfolding first_frame
no_first reader x e first = let none : first_frame [] ≡ None = refl in let z : None ≡ Some x = sym none ∙ ap first_frame (sym e) ∙ first in cc

-- a session that serves handed nothing up
unhanded : (s : Served) → is_held s ≡ false → s.dcp ≡ None
unhanded s free = by s.dcp refl
  where
    by : (o : Option Frame) → s.dcp ≡ o → s.dcp ≡ None
    by None e = e
    by (Some f) e = let z : true ≡ false = sym (handed_holds s f e) ∙ free in cc

module _ (n c : ℕ) (left : List ℕ) where
  -- what was told of bytes that broke off
  pub record Broke (lines : List Event) : Type 0 where
    pub fault : FrameFault
    pub stands : front_fault left ≡ Some fault
    pub front : List Event
    pub last : lines ≡ front ++ fault_lines n c (faulty_head fault left)

  -- a connection that is open has these bytes behind its frames, and one that closed broke off
  abbrev pub So : Bool → Handling → Type 0
  So false h = left_of h.client.session.reader ≡ left
  So true h = (h.client.session.reader ≡ []) × (h.dcp ≡ None) × Broke h.events

  abbrev pub At : States × Handling → Type 0
  At x = (x.1.client.session.who.node ≡ n) × (x.1.client.session.who.client ≡ c) × So x.1.client.session.closed x.1

  module _ (clock : ℕ) where
    framed : (before : List Event) (producer : PlainProducer) (f : Frame) (states : States) (s : Served) → s.dcp ≡ None → first_frame s.session.reader ≡ Some (Ok f) → At (states, went_on before producer s)
        → let x = after (frame_handled clock f (front_of f s)) states in At (x.0, went_on before producer x.1)
    framed before producer f states s free first p =
        (ap (λ w. w.node) stays.who ∙ p.0, ap (λ w. w.client) stays.who ∙ p.1, subst (λ b. So b (went_on before producer x.1)) (sym stays.closed) (by s.session.closed refl p.2))
      where
        x : States × Served
        x = after (frame_handled clock f (front_of f s)) states

        stays : Stays (front_of f s) x.1
        stays = after_always AnyCall (Stays (front_of f s)) (frame_handled clock f (front_of f s)) states (frame_stays (front_of f s) clock f (front_of f s) (record { who = refl; reader = refl; closed = refl }))

        by : (b : Bool) → s.session.closed ≡ b → So b (went_on before producer s) → So b (went_on before producer x.1)
        by true e p = absurd (no_first s.session.reader (Ok f) p.0 first)
        by false e p = ap left_of stays.reader ∙ sym (left-one s.session.reader f (ap frame_in first)) ∙ p

    faulty : (before : List Event) (producer : PlainProducer) (fault : FrameFault) (states : States) (s : Served) → s.dcp ≡ None → first_frame s.session.reader ≡ Some (Err fault) → At (states, went_on before producer s)
        → At (states, went_on before producer (ended_at (Some fault) s))
    faulty before producer fault states s none first p = (p.0, p.1, by s.session.closed p.2)
      where
        lines : List Event
        lines = fault_lines s.session.who.node s.session.who.client (faulty_head fault s.session.reader)

        by : (b : Bool) → So b (went_on before producer s) → So true (went_on before producer (ended_at (Some fault) s))
        by true p = absurd (no_first s.session.reader (Err fault) p.0 first)
        by false q =
            let same : s.session.reader ≡ left = sym (left-none s.session.reader (ap frame_in first)) ∙ q in (
              refl,
              none,
              record {
                fault = fault;
                stands = ap front_fault (sym same) ∙ ap fault_in first;
                front = before ++ s.events;
                last = sym (append_assoc before s.events lines) ∙ (λ i. (before ++ s.events) ++ fault_lines (p.0 i) (p.1 i) (faulty_head fault (same i)));
              },
            )

    passed : (f : Frame) (states : States) (h : Handling) → h.dcp ≡ Some f → At (states, h) → let x = after (frame_answered f (begun h.client.producer)) states in At (x.0, answered h x.1)
    passed f states h e p = (p.0, p.1, by h.client.session.closed p.2)
      where
        by : (b : Bool) → So b h → So b (answered h (after (frame_answered f (begun h.client.producer)) states).1)
        by true p = let z : None ≡ Some f = sym p.1 ∙ e in cc
        by false p = p

    over : (states : States) (h : Handling) → h.dcp ≡ None → h.client.session.closed ≡ true → At (states, h) → At ((after (end_closed h.client.producer) states).0, h)
    over states h none closed p = p

    fed_so : (piece : List ℕ) (client : PlainClient) (states : States) → IsKept n c (Some client) → left_of (client.session.reader ++ piece) ≡ left → At (after (client_fed clock piece client) states)
    fed_so piece client states kept same =
        (fed_goes At clock (λ before producer f states s free. framed before producer f states s (unhanded s free)) (λ before producer fault states s free. faulty before producer fault states s (unhanded s free)) passed over piece client states kept.1 (kept.0.node, kept.0.number, subst (λ b. So b (went_on [] client.producer (with_bytes (client.session.reader ++ piece) (served client.session [])))) (sym kept.1) same)).0

    -- and so it is behind an outcome
    pub posted_so : (o : Resolved) (client : PlainClient) (states : States) → IsKept n c (Some client) → left_of client.session.reader ≡ left → At (after (client_posted clock o client) states)
    posted_so o client states kept same =
        posted_free At clock framed faulty passed At (λ states h e p. p) (λ states h e p. p) o client states
        (kept.0.node, kept.0.number, subst (λ b. So b (started client)) (sym kept.1) same)
        (λ a is. (kept.0.node, kept.0.number, subst (λ b. So b (went_on [] client.producer (outcome_answered a o.how (served client.session [])))) (sym kept.1) same))

-- ---- what a client asked

past_front : (front rest : List ℕ) (n : ℕ) → drop (length front + n) (front ++ rest) ≡ drop n rest
past_front front rest n = sym (drop-drop n (length front) (front ++ rest)) ∙ ap (drop n) (drop-append_seam front rest)

-- behind its whole frames stands what stands behind those that its session keeps
pub left_asked : (k : Asking) (session : PlainSession) (set : Handshake) (x : AskingIs k session set) → behind_frames k.bytes ≡ left_of session.reader
unfolding left_of cut_len
left_asked k session set x =
    (λ i. drop (sum_by frame_len (all_frames k session set x i)) (x.bytes i))
    ∙ ap (λ m. drop m (x.front ++ session.reader)) (sum_by-append frame_len x.served (frames_in session.reader) ∙ ap (λ m. m + sum_by frame_len (frames_in session.reader)) (sym x.frames.long))
    ∙ past_front x.front session.reader (sum_by frame_len (frames_in session.reader))

-- ---- its lines

told_so : (n c : ℕ) (head : Option FaultyHead) → fault_lines n c head ≡ break_told n c head
unfolding reply_line
told_so n c None = refl
told_so n c (Some head) = refl

pub none_closes : (n c : ℕ) (lines : List Event) → AreTo n c lines → list_any is_closing lines ≡ false
none_closes n c [] l = refl
none_closes n c (Event.Changed m v uuid change ∷ lines) l = none_closes n c lines l.1
none_closes n c (Event.Reply m d bytes ∷ lines) l = none_closes n c lines l.1
none_closes n c (Event.Asked (StreamName.Client m d) k v ask high log said ∷ lines) l = none_closes n c lines l.1
none_closes n c (other ∷ lines) l = absurd l.0

module _ (n c clock : ℕ) (piece : List ℕ) (client : PlainClient) (states : States) (kept : IsKept n c (Some client)) (k : Asking) (is : left_of (client.session.reader ++ piece) ≡ behind_frames k.bytes) where
  abbrev x : States × Handling
  x = after (client_fed clock piece client) states

  fed_breaks : list_any is_closing x.1.events ≡ true → BreaksOff n c k x.1.events
  fed_breaks closes = by x.1.client.session.closed (fed_so n c (behind_frames k.bytes) clock piece client states kept is).2 (fed_at n c clock client states kept piece).1
    where
      by : (b : Bool) → So n c (behind_frames k.bytes) b x.1 → LeftBy n c b x.1 → BreaksOff n c k x.1.events
      by false so left = let z : false ≡ true = sym (none_closes n c x.1.events left) ∙ closes in cc
      by true so left = let b = so.2 in record {
        fault = b.fault;
        stands = b.stands;
        front = b.front;
        last = b.last ∙ ap (λ lines. b.front ++ lines) (told_so n c (faulty_head b.fault (behind_frames k.bytes)));
      }

-- ---- the line

module _ (w : PlainWorld) (r : Chronicle) (n c : ℕ) (bytes : List ℕ) (ranged : IsRanged w) (a : Agrees w r) where
  abbrev Breaks : Told → Type 0
  Breaks told = list_any is_closing told.events ≡ true → BreaksOff n c (with_sent_bytes bytes (r.clients_at n c)).asking told.events

  pub bytes_break : Breaks (on_node w n (bytes_at c bytes)).1
  bytes_break = on_node_by (λ o. Breaks o.1) w n (bytes_at c bytes) (λ e. cc) (λ node known e. cc) (λ node known up. by node known (node.clients c) refl (subst (NodeRangedIf n) known (ranged n)).own)
    where
      by : (node : PlainNode) → w.nodes n ≡ Some node → (o : Option PlainClient) → node.clients c ≡ o → ((d : ℕ) → IsKept n d (node.clients d)) → Breaks (bytes_if c bytes node o).1
      by node known None is own e = cc
      by node known (Some client) is own e =
          let mine : ClientAgrees w r n c client = a.1.clients.each n c client (ap (λ o. client_in o c) known ∙ is) in
          let k : Asking = (with_sent_bytes bytes (r.clients_at n c)).asking in
          let session : PlainSession = record client.session { reader = client.session.reader ++ bytes } in
          let asks : AskingIs k session client.producer.handshake = more_asks (r.clients_at n c).asking client.session client.producer.handshake bytes mine.asks in
          fed_breaks n c node.clock bytes client node.vbs (subst (IsKept n c) is (own c)) k (sym (left_asked k session client.producer.handshake asks)) e
