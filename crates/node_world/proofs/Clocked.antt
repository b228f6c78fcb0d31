-- a frame of a client is served at its node's clock
use Rattle.std.proofs.Common.{◌≡◌, ◌<◌, ℕ, Bool, true, false, List, [], ◌++◌, drop, refl, ap, ◌∙◌, Option, Some, None, Ok}
use Rattle.std.specs.Prelude.{if◌then◌else◌}
use Rattle.std.proofs.lemmas.Bool.{eq-eqb}
use Rattle.client_session.specs.Serving.{MOST_DURABLE, Served, bytes_handled, deadline_of, durable_called, durable_replied, frame_handled, next_waiter, refused, request_handled, served, told, turns_handled, with_bytes, with_used, PlainSession, is_held}
use Rattle.client_session.proofs.Chunks.{nothing}
use Rattle.client_session.proofs.Conduct.{durable_session, Stays, durable_unhanded}
use Rattle.client_session.proofs.Outcomes.{room_at}
use Rattle.client_session.proofs.Turns.{turns_frame, turns_none, turns_waiting, not_held}
use Rattle.mcbp_frame.specs.declared.frame.Frame.{Frame}
use Rattle.mcbp_frame.specs.Frames.{first_frame, frame_len}
use Rattle.mcbp_kv.specs.Requests.{request_of}
use Rattle.mcbp_kv.specs.declared.durable.Durability.{Durability}
use Rattle.mcbp_kv.specs.declared.request.KvRequest.{KvRequest}
use Rattle.mcbp_kv.specs.declared.request.KvRequest.TheVariants as asks
use Rattle.vb_types.specs.declared.status.Status.TheVariants as status
use Rattle.vb_types.specs.declared.write.Write.{Write}
use Rattle.vb_calls.specs.declared.calls.VbCall.{VbCall}
use Rattle.vb_calls.specs.declared.calls.VbCall.TheVariants as call
use Rattle.vb_calls.specs.declared.calls.VbReply.{VbReply}
use Rattle.vb_calls.specs.Plain.{plain_step}
use Rattle.vb_calls.specs.Programs.{Call, Done, after, bind}
use Rattle.vb_calls.specs.State.{Plain}
use Rattle.vb_calls.specs.States.{States, call_at}
use Rattle.node_core.specs.Clients.{PlainClient, Handling, client_fed, handled_on}
use Rattle.client_session.proofs.Rows.{asks_read}
use Rattle.node_core.proofs.Handlings.{on_none}
use Rattle.dcp_producer.specs.Producers.{PlainProducer}
use Rattle.node_world.specs.Clocked.{Clocked, IsOne, Makes}
use Rattle.node_world.specs.Nodes.{PlainNode, bytes_at, fed, bytes_if}
use Rattle.node_world.specs.Worlds.{PlainWorld, on_node}
use Rattle.node_world.proofs.CallsMade.{leaves_so}

-- with no bytes behind, the turns do nothing
pub still : (clock : ℕ) (t : Served) → t.session.reader ≡ [] → turns_handled clock t ≡ Done t
still clock t none = by (is_held t) refl
  where
    by : (b : Bool) → is_held t ≡ b → turns_handled clock t ≡ Done t
    by true e = turns_waiting clock t e
    by false e = turns_none clock t e (ap first_frame none ∙ nothing)

-- a connection that served its last bytes, handed nothing up and is open has nothing more to do
pub at_rest : (clock : ℕ) (producer : PlainProducer) (t : Served) (states : States) → t.session.reader ≡ [] → t.dcp ≡ None → t.session.closed ≡ false
    → (after (bind (turns_handled clock t) (handled_on clock producer)) states).0 ≡ states
at_rest clock producer t states none unhanded live =
    ap (λ prog. (after (bind prog (handled_on clock producer)) states).0) (still clock t none) ∙ ap (λ prog. (after prog states).0) (on_none clock producer t unhanded live)

-- so it is behind one call
pub one_call : (clock : ℕ) (producer : PlainProducer) (v : ℕ) (made : VbCall) (answered : Option VbReply → Served) (states : States) (vb : Plain) → states v ≡ Some vb → ((reply : Option VbReply) → (answered reply).session.reader ≡ [])
    → ((reply : Option VbReply) → (answered reply).dcp ≡ None) → ((reply : Option VbReply) → (answered reply).session.closed ≡ false)
    → (after (bind (bind (Call v made (λ reply. Done (answered reply))) (turns_handled clock)) (handled_on clock producer)) states).0 ≡ (call_at states v made (Some vb)).0
one_call clock producer v made answered states vb here reads unhanded live =
    ap (λ o. let x = call_at states v made o in (after (bind (turns_handled clock (answered x.1)) (handled_on clock producer)) x.0).0) here
    ∙ (let x = call_at states v made (Some vb) in at_rest clock producer (answered x.1) x.0 (reads x.1) (unhanded x.1) (live x.1))

module _ (w : PlainWorld) (n c : ℕ) (node : PlainNode) (there : w.nodes n ≡ Some node) (up : node.off ≡ None) (client : PlainClient) (open_one : node.clients c ≡ Some client) (bytes : List ℕ) (f : Frame) (one : IsOne client.session bytes f)
    (vb : Plain) (here : node.vbs f.vb_or_status ≡ Some vb) where
  abbrev clock : ℕ
  clock = node.clock

  abbrev v : ℕ
  v = f.vb_or_status

  -- the connection with the bytes, and behind its frame
  abbrev start : Served
  start = served client.session []

  abbrev front : Served
  front = with_bytes bytes start

  abbrev past : Served
  past = with_bytes (drop (frame_len f) bytes) front

  whole : bytes_handled clock bytes start ≡ bind (frame_handled clock f past) (turns_handled clock)
  unfolding bytes_handled
  whole =
      ap (λ b. if b then Done start else turns_handled clock (with_bytes (client.session.reader ++ bytes) start)) one.live
      ∙ ap (λ xs. turns_handled clock (with_bytes (xs ++ bytes) start)) one.empty ∙ turns_frame clock front f (not_held front one.free refl) one.whole

  -- a request that is one call
  module _ (asked : KvRequest) (made : VbCall) (answered : Option VbReply → Served) (is : request_of client.session.settings.json f ≡ Ok asked) (calls : request_handled clock f (Ok asked) past ≡ Call v made (λ reply. Done (answered reply)))
      (stays : (reply : Option VbReply) → Stays past (answered reply)) (unhanded : (reply : Option VbReply) → (answered reply).dcp ≡ None) where
    run : (after (client_fed clock bytes client) node.vbs).0 ≡ (call_at node.vbs v made (Some vb)).0
    unfolding client_fed
    run =
        ap (λ prog. (after (bind prog (handled_on clock client.producer)) node.vbs).0) (whole ∙ ap (λ prog. bind prog (turns_handled clock)) (asks_read clock f past asked one.asks is ∙ calls))
        ∙ one_call clock client.producer v made answered node.vbs vb here (λ reply. (stays reply).reader ∙ one.alone) unhanded (λ reply. (stays reply).closed ∙ one.live)

    makes : Makes n v vb made (on_node w n (bytes_at c bytes))
    makes =
        let came : States × Handling = after (client_fed clock bytes client) node.vbs in
        let left = leaves_so w n node there up (bytes_at c bytes) (fed c node came) (ap (bytes_if c bytes node) open_one) in
        ((fed c node came).0, left.is, ap (λ (s : States). s v) run ∙ ap (λ b. if b then Some (plain_step vb made).0 else node.vbs v) (eq-eqb v v refl))

  told_stays : (reply : Option VbReply) → Stays past (told f past reply)
  unfolding told
  told_stays reply = record { who = refl; reader = refl; closed = refl }

  told_unhanded : (reply : Option VbReply) → (told f past reply).dcp ≡ None
  unfolding told
  told_unhanded reply = refl

  stores : (write : Write) → request_handled clock f (Ok (asks.Write write None)) past ≡ Call v (call.Store write clock) (λ reply. Done (told f past reply))
  unfolding request_handled
  stores write = refl

  module _ (write : Write) (wish : Durability) (room : client.session.used < MOST_DURABLE) where
    abbrev asked_so : VbCall
    asked_so = call.Durable write clock wish.level (deadline_of clock wish.timeout) (next_waiter client.session)

    abbrev answered_so : Option VbReply → Served
    answered_so reply = durable_replied (next_waiter client.session) f (with_used past) reply

    prepares : request_handled clock f (Ok (asks.Write write (Some wish))) past ≡ Call v asked_so (λ reply. Done (answered_so reply))
    unfolding request_handled
    prepares = ap (λ b. if b then Done (refused f status.Etmpfail past) else durable_called f asked_so past) (room_at client.session.used room)

    stays_so : (reply : Option VbReply) → Stays past (answered_so reply)
    stays_so reply =
        let is = (durable_session (next_waiter client.session) f (with_used past) reply).1 in
        record { who = ap (λ (p : PlainSession). p.who) is; reader = ap (λ (p : PlainSession). p.reader) is; closed = ap (λ (p : PlainSession). p.closed) is }

  pub clocked : Clocked w n c node client bytes f vb
  clocked = record {
    write = λ number write is. makes (asks.Write write None) (call.Store write clock) (told f past) is (stores write) told_stays told_unhanded;
    durable = λ number write wish room is.
        makes (asks.Write write (Some wish)) (asked_so write wish room) (answered_so write wish room) is (prepares write wish room) (stays_so write wish room)
        (λ reply. durable_unhanded (next_waiter client.session) f (with_used past) reply);
  }
