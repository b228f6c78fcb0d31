-- a request for a stream of a client is answered: what is known then, and that its line is lawful
use Rattle.std.specs.Prelude.{◌≡◌, ◌∷◌, ◌++◌, is_some, not, take, drop}
use Rattle.transcript_law.proofs.Words.{ℕ, true, false, List, [], refl, sym, ap, ◌∙◌, subst, inl, inr, arith, append-nil, Option, Some, None, Cluster, Event, Frame, LogEntry, StreamAsk, AskAnswer, States, PlainNode, PlainWorld, PlainProducer, PlainStream, Chronicle, after_line, after_lines, begun, spelling, with_at}
use Rattle.dcp_producer.proofs.{ClientAnswers.{ask_short}, Headers.{front_cut, front_left}}
use Rattle.dcp_producer.specs.{Clients.{IsShortLog}, Cuts.{IsShort}, Producers.{Served, is_open, stream_at as kept_at}, Serving.{ask_line}}
unfoldable use Rattle.dcp_producer.specs.Serving.{stream_answered}
use Rattle.dcp_producer.specs.declared.desk.Desk.{Desk}
use Rattle.node_core.specs.Clients.{PlainClient, delivered, front_len}
unfoldable use Rattle.node_core.specs.Clients.{with_replies}
use Rattle.mcbp_dcp.specs.declared.message.DcpMsg.TheVariants as msg
use Rattle.transcript_law.proofs.answers.Messages.{IsAnswerTo, asks_stream, stream_answer_to, stream_wants}
use Rattle.transcript_law.proofs.indexers.{Flows.{flow_more}, Hands.{Goes, HandedUp, answered_agrees, answered_as, question_told, reply_lawful}, Known.{bytes_left, next_request, no_frames}, Moments.{told_is}, Passing.{agrees, before, behind, bytes_behind, cluster, own, same_settings, so_far}}
use Rattle.transcript_law.proofs.indexers.Questions.{dcp_numbers, free_numbers, hand_asks, hand_if, hand_zero, in_hand, next_is}
use Rattle.transcript_law.proofs.indexers.{Serving.{agrees_as, kept_past}, Steps.{ClientStep}, Streams.{AreOne}, Worlds.{OpensOwn, stepped, waited, world_with}}
use Rattle.transcript_law.proofs.invariant.{Agreement.{AgreesIn, answer_frame, idle}, ClientsTold.{ClientAgrees, HasUsed, KeptIs, setup_of}, Holdings.{vb_of}, OpenStreams.{Among, AreKept}, Owed.{idle_free, waits_hand}, Tables.{at_here}}
use Rattle.transcript_law.proofs.lines.Telling.{LawfulBefore, before_more, told_more}
use Rattle.transcript_law.specs.{ClientFrames.{Request, ask_of, is_closed_by, message_of, request_in, set_by, setup_after}, ClientStreams.{has_none, opened_after, past_asked, past_request, unclosed}}
use Rattle.transcript_law.proofs.answers.Calm.{durable_left}
use Rattle.transcript_law.specs.{LawfulAnswers.{AllDurable, FitsBy, FitsFrame, LawfulReply}, LawfulClients.{RefusesBy, RefusesOwn}, LawfulMessages.{FitsMessage, Moment, moment_of}, Questions.{Question, past_question, question_of, wants_answer, window_by}, StreamLaws.{LawfulSaid}, StreamsTold.{ClientKnown, ClientStream}}
use Rattle.vb_events.specs.declared.event.StreamName.TheVariants as name
use Rattle.transcript_law.specs.LawfulAnswers.{serving}

module _ (w : PlainWorld) (n c : ℕ) (node : PlainNode) (r : Chronicle) (f : Frame) (states : States) (lines : List Event) (client : PlainClient) (up : HandedUp w n c node r f states lines client) (ask : StreamAsk) (asks : ask_of f ≡ Some ask) where
  abbrev pub p : PlainProducer
  p = client.producer

  abbrev pub s : Served
  s = begun p

  abbrev pub v : ℕ
  v = f.vb_or_status

  abbrev pub was : PlainClient
  was = before w n c node r f states lines client up

  abbrev pub old : PlainWorld
  old = world_with w n c node states (Some was)

  abbrev pub told : Chronicle
  told = so_far w n c node r f states lines client up

  abbrev pub mine : ClientAgrees old told n c was
  mine = own w n c node r f states lines client up

  -- what is known of the connection, and its next request
  abbrev pub known : ClientKnown
  known = told.clients_at n c

  abbrev pub served : List Frame
  served = mine.heard.served

  abbrev pub request : Request
  request = record { before = served; frame = f; ask = ask }

  message_is : message_of f ≡ Some (msg.StreamRequest ask)
  message_is = asks_stream (message_of f) ask asks

  -- it wants an answer
  wanting : wants_answer (setup_of p.handshake) f ≡ true
  wanting = stream_wants (setup_of p.handshake) f ask up.asks message_is

  abbrev question : Question
  question = record { before = mine.asks.served; frame = f }

  abbrev k : Cluster
  k = cluster w n c node r f states lines client up

  is_next : request_in known.bytes ≡ Some request
  is_next = next_request known was.session client.session p.handshake p.handshake f up.goes.bytes up.first up.behind ask asks mine.heard

  left_bytes : (past_request request v [] (AskAnswer.Refuse 0) known).bytes ≡ client.session.reader
  left_bytes = bytes_left known was.session client.session p.handshake p.handshake f up.goes.bytes up.first up.behind ask asks mine.heard

  -- the streams that are known, without those that were closed
  abbrev pub left : ℕ → Option ClientStream
  left = unclosed served known.streams

  -- what is kept of a vBucket's stream whatever is answered, where that vBucket did not change
  pub kept_left : (q : ℕ) → KeptIs told.tree (told.branch_at n q) (told.held n q) (vb_of old n q) false (left q) (kept_at q p.streams)
  kept_left q = kept_past told.tree (told.branch_at n q) (told.held n q) (vb_of old n q) (is_closed_by served q) (known.streams q) (kept_at q p.streams) (mine.streams q)

  -- it is known of none of the vBucket exactly where the producer has none
  pub none_known : has_none (left v) ≡ not (is_some (kept_at v p.streams))
  none_known = by (left v) (kept_at v p.streams) (kept_left v)
    where
      by : (known : Option ClientStream) (kept : Option PlainStream) → KeptIs told.tree (told.branch_at n v) (told.held n v) (vb_of old n v) false known kept → has_none known ≡ not (is_some kept)
      by None None x = refl
      by (Some g) None (inl z) = cc
      by (Some g) None (inr over) = over
      by None (Some stream) x = absurd x
      by (Some g) (Some stream) x = x.1.over

  -- none is open that the producer does not have
  pub none_open : (q : ℕ) → kept_at q p.streams ≡ None → (g : ClientStream) → left q ≡ Some g → g.over ≡ false → ⊥
  none_open q none g e still = by (left q) (kept_at q p.streams) none e (kept_left q)
    where
      by : (known : Option ClientStream) (kept : Option PlainStream) → kept ≡ None → known ≡ Some g → KeptIs told.tree (told.branch_at n q) (told.held n q) (vb_of old n q) false known kept → ⊥
      by None kept k e x = cc
      by (Some h) (Some stream) k e x = cc
      by (Some h) None k e (inl z) = cc
      by (Some h) None k e (inr over) = let same : h ≡ g = cc in let z : true ≡ false = sym over ∙ ap (λ (x : ClientStream). x.over) same ∙ still in cc

  -- one that the producer has is known
  pub held_open : (stream : PlainStream) → kept_at v p.streams ≡ Some stream → (g : ClientStream) × (left v ≡ Some g) × (g.over ≡ false)
  held_open stream e = by (left v) (kept_at v p.streams) e refl (kept_left v)
    where
      by : (known : Option ClientStream) (kept : Option PlainStream) → kept ≡ Some stream → left v ≡ known → KeptIs told.tree (told.branch_at n v) (told.held n v) (vb_of old n v) false known kept → (g : ClientStream) × (left v ≡ Some g) × (g.over ≡ false)
      by (Some g) (Some x) k is (still, s) = (g, is, s.over)
      by None (Some x) k is none = absurd none
      by known None k is s = cc

  -- the request was answered so, which made this of the vBuckets and the producer
  module _ (st : States) (end : PlainProducer) (log : List LogEntry) (high : ℕ) (said : AskAnswer) where
    abbrev pub answer : Served
    answer = stream_answered f ask (record s { end = end }) log high said

    abbrev pub now : PlainClient
    now = record client { session = record client.session { awaited = Some (in_hand f) }; producer = end }

    abbrev pub new : PlainWorld
    new = world_with w n c node st (Some now)

    abbrev pub past : ClientKnown
    past = past_request request v log said known

    abbrev pub told_then : Chronicle
    told_then = record told { clients_at = with_at told.clients_at n c past }

    pub record Answers : Type 0 where
      pub lawful : LawfulSaid told n v ask high log said
      pub own : RefusesOwn (setup_of p.handshake) (left v) ask said
      pub reason : RefusesBy (setup_of p.handshake) p.asked (told.role_at n v) (left v) ask said
      pub count : end.asked ≡ opened_after (setup_of p.handshake) (left v) ask p.asked
      pub short : IsShortLog log
      pub step : ClientStep old new n c
      pub opens : OpensOwn w n c node states st was now told past (cluster w n c node r f states lines client up) (agrees w n c node r f states lines client up) step
      pub desk : end.desk ≡ p.desk
      pub shaken : end.handshake ≡ p.handshake
      pub window : end.window ≡ p.window
      pub kept : AreKept end
      pub one : AreOne end.streams
      pub opened : (stream : PlainStream) → Among stream end.streams → is_open p.handshake ≡ true
      pub streams : (q : ℕ) → KeptIs told.tree (told.branch_at n q) (told.held n q) (vb_of new n q) false (past.streams q) (kept_at q end.streams)

    module _ (a : Answers) where
      agrees_now : ClientAgrees new told_then n c now
      agrees_now = agrees_as new told_then n c now past (at_here told.clients_at n c past) (record {
        conn = record { node = mine.conn.node; number = mine.conn.number; desk = a.desk ∙ mine.conn.desk };
        alive = mine.alive;
        kept = a.kept;
        one = a.one;
        opened = λ stream i. ap is_open a.shaken ∙ a.opened stream i;
        asked = a.count ∙ (λ i. opened_after (sym mine.heard.sets i) (left v) ask (mine.asked i));
        silent = refl;
        heard = record { served = []; front = []; bytes = left_bytes; frames = no_frames; none = refl; sets = mine.heard.sets ∙ ap setup_of (sym a.shaken) };
        asks = hand_asks known.asking was.session now.session p.handshake end.handshake f up.goes.bytes up.first mine.asks up.free (ap (λ m. set_by m (setup_of p.handshake)) message_is ∙ ap setup_of (sym a.shaken)) up.behind refl (λ none. refl)
            (sym (ap (λ b. hand_if b f) wanting));
        flow = flow_more known.flow was.session now.session p.handshake end.handshake p.window end.window f up.goes.bytes up.first up.behind (ap (λ m. set_by m (setup_of p.handshake)) message_is ∙ ap setup_of (sym a.shaken))
            (ap (λ m. window_by m (setup_of p.handshake).opened p.window) message_is ∙ sym a.window) mine.flow;
        streams = a.streams;
      })

      -- the line of the request, and its answer directly behind it
      abbrev line : Event
      line = Event.Asked (name.Client n c) n v ask high log said

      abbrev bytes : List ℕ
      bytes = spelling (answer_frame f.opaque log said)

      short : IsShort (answer_frame f.opaque log said)
      short = ask_short log said f.opaque 0 a.short

      line_told : after_line told line ≡ told_then
      line_told = ap (λ o. record told { clients_at = with_at told.clients_at n c (past_asked o v log said known) }) is_next

      -- what is known then is what the request left, and it is to be answered next
      past_here : told_then.clients_at n c ≡ past
      past_here = at_here told.clients_at n c past

      asked_next : question_of (told_then.clients_at n c).asking ≡ Some question
      asked_next = ap (λ (k : ClientKnown). question_of k.asking) past_here ∙ next_is known.asking was.session was.session p.handshake p.handshake f up.goes.bytes up.first mine.asks up.free wanting

      abbrev told_both : Chronicle
      told_both = answered_as told_then n c (record (told_then.clients_at n c) { asking = past_question question (told_then.clients_at n c).asking })

      both_told : after_lines told (line ∷ Event.Reply n c bytes ∷ []) ≡ told_both
      both_told = ap (λ x. after_line x (Event.Reply n c bytes)) line_told ∙ question_told n c bytes told_then question (ap (λ (k : ClientKnown). k.told) past_here) asked_next

      answer_is : IsAnswerTo (λ g. Unit {0}) f true bytes
      answer_is = stream_answer_to f ask message_is up.asks log said

      both_lawful : LawfulBefore told (line ∷ Event.Reply n c bytes ∷ [])
      both_lawful more rest = (
        record {
          own_node = refl;
          request = request;
          next = is_next;
          numbers = refl;
          vb = refl;
          answered = a.lawful;
          own = subst (λ x. RefusesOwn x (left v) ask said) (sym mine.heard.sets) a.own;
          reason = subst (λ k. RefusesBy (setup_after known.setup served) k (told.role_at n v) (left v) ask said) mine.asked (subst (λ x. RefusesBy x p.asked (told.role_at n v) (left v) ask said) (sym mine.heard.sets) a.reason);
          frame = (more, refl);
        },
        ((λ z. subst (λ x. LawfulReply x n c (x.clients_at n c).asking bytes more) (sym line_told) answer_lawful), rest),
      )
        where
          -- a line told of it
          at : Moment
          at = moment_of (told_then.clients_at n c) (told_then.clients_at n c).asking question

          told_by_line : at.told ≡ true
          told_by_line =
              ap (λ (k : ClientKnown). (moment_of k k.asking question).told) past_here
              ∙ told_is known.asking was.session p.handshake mine.asks f past up.goes.bytes up.first (left_bytes ∙ up.behind)

          fits : (g : Frame) → FitsFrame (serving told_then n c (told_then.clients_at n c).asking) told_then n at (told_then.clients_at n c).asking.settings f g
          fits g = subst (λ b. FitsBy b (serving told_then n c (told_then.clients_at n c).asking) told_then n at (told_then.clients_at n c).asking.settings f g) (sym up.dcp) (subst (FitsMessage (told_then.role_at n v) (told_then.log_at n v) at f g) (sym message_is) told_by_line)

          answer_lawful : LawfulReply told_then n c (told_then.clients_at n c).asking bytes more
          answer_lawful =
              let (g, out, response, code, number, said_so) = answer_is in
              subst (λ out. LawfulReply told_then n c (told_then.clients_at n c).asking out more) (sym out)
              (reply_lawful told_then n c question g more asked_next response code number
              (fits g) (inr (inr (up.goes.calm, up.goes.still up.free))))

      -- so they are delivered
      named_at : (d : Desk) → d ≡ record { stream = name.Client n c; node = n; base = d.base } → (x y : ℕ) → x ≡ n → y ≡ c → with_replies x y (ask_line d f ask log high said ∷ []) bytes ≡ line ∷ Event.Reply n c bytes ∷ []
      unfolding with_replies
      named_at d at x y s t =
          (λ i. with_replies (s i) (t i) (ask_line (at i) f ask log high said ∷ []) bytes)
          ∙ ap (λ b. line ∷ Event.Reply n c (take (front_len bytes) bytes) ∷ with_replies n c [] b) (ap (λ b. drop (front_len b) b) (sym (append-nil bytes)) ∙ front_left (answer_frame f.opaque log said) [] short)
          ∙ ap (λ b. line ∷ Event.Reply n c b ∷ []) (ap (λ b. take (front_len b) b) (sym (append-nil bytes)) ∙ front_cut (answer_frame f.opaque log said) [] short)

      is_delivered : delivered client.session.who answer ≡ line ∷ Event.Reply n c bytes ∷ []
      unfolding with_replies stream_answered
      is_delivered = named_at end.desk (a.desk ∙ mine.conn.desk ∙ (λ i. record { stream = name.Client n c; node = n; base = sym (ap (λ (d : Desk). d.base) (a.desk ∙ mine.conn.desk)) i })) client.session.who.node client.session.who.client mine.conn.node mine.conn.number

      pub asked_goes : Goes w n c node r st (lines ++ delivered client.session.who answer) (behind w n c node r f states lines client up answer)
      unfolding stream_answered
      asked_goes = record {
        lawful = subst (λ es. LawfulBefore r (lines ++ es)) (sym is_delivered) (before_more r lines (line ∷ Event.Reply n c bytes ∷ []) up.goes.lawful both_lawful);
        agrees = (
          k,
          subst (λ x. AgreesIn idle (world_with w n c node st (Some (record client { producer = end }))) x k) (sym (ap (λ es. after_lines r (lines ++ es)) is_delivered ∙ told_more r lines (line ∷ Event.Reply n c bytes ∷ []) ∙ both_told))
              (answered_agrees w n c node st now told_then k (stepped w n c node states st was now told past k (agrees w n c node r f states lines client up) a.step a.opens agrees_now
              (waited w n c node states st was now told past k (agrees w n c node r f states lines client up) a.step (waits_hand known.asking past.asking was.session now.session refl (omega arith) (λ l. l) (λ x e. hand_zero true f x e) refl (idle_free was.session up.free)))) client.session refl refl refl
              (in_hand f) refl question asked_next up.free (same_settings w n c node r f states lines client up) (omega arith) (λ l. l) (dcp_numbers (told_then.clients_at n c).asking question up.dcp (subst (λ (k : ClientKnown). HasUsed client.session.used k.asking.durables) (sym past_here) (free_numbers known.asking was.session p.handshake mine.asks up.free)))),
        );
        bytes = bytes_behind w n c node r f states lines client up;
        calm = subst (λ (x : Chronicle). AllDurable x.made) (sym (ap (λ es. after_lines r (lines ++ es)) is_delivered ∙ told_more r lines (line ∷ Event.Reply n c bytes ∷ []) ∙ both_told)) (durable_left told_then.made);
        still = λ free. ap (λ (x : Chronicle). x.changed) (ap (λ es. after_lines r (lines ++ es)) is_delivered ∙ told_more r lines (line ∷ Event.Reply n c bytes ∷ []) ∙ both_told);
      }
