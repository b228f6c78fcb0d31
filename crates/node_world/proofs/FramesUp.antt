-- frames that go up one after the other, and bytes that begin none
use Rattle.std.proofs.Common.{◌≡◌, ℕ, List, [], ◌∷◌, ◌++◌, append-nil, append_assoc, drop, refl, ap, ◌∙◌, Option, Some, None, Ok}
use Rattle.std.specs.Prelude.{if◌then◌else◌}
use Rattle.std.proofs.lemmas.Bool.{eq-eqb}
use Rattle.client_session.specs.declared.session.Awaited.{Awaited}
use Rattle.client_session.specs.Serving.{Served, frame_handled, outcome_by, outcome_handled, outcome_answered, request_handled, served, told, turns_handled, with_bytes}
use Rattle.client_session.proofs.Turns.{turns_frame}
use Rattle.mcbp_frame.proofs.Pieces.{fault_stays}
use Rattle.mcbp_frame.specs.Cutting.{front_fault}
use Rattle.mcbp_frame.specs.Frames.{frame_len}
use Rattle.mcbp_frame.specs.declared.frame.Frame.{Frame}
use Rattle.mcbp_frame.specs.declared.frame.FrameFault.{FrameFault}
use Rattle.mcbp_kv.specs.Requests.{request_of}
use Rattle.mcbp_kv.specs.declared.request.KvRequest.TheVariants as asks
use Rattle.vb_events.specs.declared.event.Cause.TheVariants as cause
use Rattle.vb_events.specs.declared.event.Event.{Event}
use Rattle.vb_types.specs.declared.write.Write.{Write}
use Rattle.vb_calls.specs.declared.calls.Resolved.{Resolved}
use Rattle.vb_calls.specs.declared.calls.VbCall.{VbCall}
use Rattle.vb_calls.specs.declared.calls.VbCall.TheVariants as call
use Rattle.vb_calls.specs.declared.calls.VbReply.{VbReply}
use Rattle.vb_calls.specs.Plain.{plain_step}
use Rattle.vb_calls.specs.Programs.{Call, Done, after, bind}
use Rattle.vb_calls.specs.State.{Plain}
use Rattle.vb_calls.specs.States.{States, call_at}
use Rattle.vbucket.specs.Rows.{row_at}
use Rattle.node_core.specs.Peers.{PeerResult, PlainPeer, peer_answered, peer_frames, peer_heard}
use Rattle.node_core.specs.Clients.{PlainClient, client_posted, handled_on}
use Rattle.client_session.proofs.Rows.{asks_read}
use Rattle.node_world.specs.FramesUp.{HoldsOne, PassesFaults, PostsBetween, ServesBehind, piece_up}
use Rattle.node_world.specs.Links.{PlainLink, frame_up, frames_up, link_number, peer_of, producer_node, untold_peer, up_at}
use Rattle.node_world.specs.Nodes.{PlainNode, all_posted, posted, refusal, with_states}
use Rattle.node_world.specs.Posting.{AwaitsAlone}
use Rattle.node_world.specs.World.{link_outcome, on_link, with_link}
use Rattle.node_world.specs.Worlds.{PlainWorld, Outcome, node_outcome, with_node_at}
use Rattle.node_world.proofs.Clocked.{one_call}
use Rattle.node_world.proofs.OutcomesTold.{frames_grow}
use Rattle.node_world.proofs.WhoAwaits.{told_is}

module _ (w : PlainWorld) (l : ℕ) (link : PlainLink) (producer : PlainNode) (add_link : row_at link_number l w.links ≡ Some link) (from : w.nodes (producer_node link) ≡ Some producer) (wanted : ℕ) where
  abbrev piece : List ℕ
  piece = piece_up wanted link

  abbrev peer : PlainPeer
  peer = peer_heard piece (peer_of link)

  abbrev begun : PlainNode × PeerResult
  begun = (producer, untold_peer peer)

  -- what frames come to
  abbrev carried : Outcome
  carried = with_link link (with_node_at w (producer_node link) (up_at wanted link producer).0, (up_at wanted link producer).1)

  up_is : on_link w l producer_node (up_at wanted) ≡ carried
  up_is = ap (link_outcome w l producer_node (up_at wanted)) add_link ∙ ap (λ o. with_link link (node_outcome w (producer_node link) (Some link, refusal cause.UnknownNode) o (up_at wanted link))) from

  -- ---- two frames

  module _ (f g : Frame) (more : List Frame) (first next : States × PeerResult) (frames : peer_frames piece (peer_of link) ≡ f ∷ g ∷ more) where
    abbrev posts : States × PeerResult → PlainNode × List Event
    posts x = all_posted x.1.resolved (with_states producer x.0)

    abbrev one : States × PeerResult → List Event
    one x = x.1.events ++ (posts x).1

    abbrev behind : States × PeerResult → States × PeerResult
    behind x = after (peer_answered g x.1.peer) (posts x).0.vbs

    abbrev later : States × PeerResult → States × PeerResult → List Event
    later x y = (all_posted y.1.resolved (with_states (posts x).0 y.0)).1

    abbrev two : States × PeerResult → States × PeerResult → List Event
    two x y = one x ++ (y.1.events ++ later x y)

    second : after (peer_answered f peer) producer.vbs ≡ first → behind first ≡ next → (rest : List Event) × ((on_link w l producer_node (up_at wanted)).1.events ≡ one first ++ (next.1.events ++ rest))
    second is goes =
        let (rest, grows) = frames_grow more (frame_up g (frame_up f begun)) in (
          later first next ++ rest,
          ap (λ (o : Outcome). o.1.events) up_is ∙ ap (λ fs. (frames_up fs begun).1.events) frames
              ∙ grows ∙ ap (λ (x : States × PeerResult). two x (behind x) ++ rest) is ∙ ap (λ (y : States × PeerResult). two first y ++ rest) goes
              ∙ append_assoc (one first) (next.1.events ++ later first next) rest ∙ ap (λ xs. one first ++ xs) (append_assoc next.1.events (later first next) rest),
        )

  -- ---- bytes that begin no frame

  module _ (fault : FrameFault) (is : front_fault link.up_heard ≡ Some fault) where
    none : peer_frames piece (peer_of link) ≡ []
    none = (fault_stays link.up_heard piece fault is).1

    silent : (on_link w l producer_node (up_at wanted)).1.events ≡ []
    silent = ap (λ (o : Outcome). o.1.events) up_is ∙ ap (λ fs. (frames_up fs begun).1.events) none

    same : (on_link w l producer_node (up_at wanted)).0.nodes (producer_node link) ≡ Some producer
    same =
        ap (λ (o : Outcome). o.0.nodes (producer_node link)) up_is
        ∙ ap (λ b. if b then Some (up_at wanted link producer).0 else w.nodes (producer_node link)) (eq-eqb (producer_node link) (producer_node link) refl) ∙ ap (λ fs. Some (frames_up fs begun).0) none

    nothing_down : link.down ++ (frames_up (peer_frames piece (peer_of link)) begun).1.out ≡ link.down
    nothing_down = ap (λ fs. link.down ++ (frames_up fs begun).1.out) none ∙ append-nil link.down

pub posts_between : (w : PlainWorld) (l : ℕ) (link : PlainLink) (producer : PlainNode) → row_at link_number l w.links ≡ Some link → w.nodes (producer_node link) ≡ Some producer → PostsBetween w l link producer
posts_between w l link producer add_link from = record {
  second = λ number wanted f g more first next frames is goes. second w l link producer add_link from wanted f g more first next frames is goes;
}

pub passes_faults : (w : PlainWorld) (l : ℕ) (link : PlainLink) (producer : PlainNode) → row_at link_number l w.links ≡ Some link → w.nodes (producer_node link) ≡ Some producer → PassesFaults w l link producer
passes_faults w l link producer add_link from = record {
  silent = λ number wanted fault is. silent w l link producer add_link from wanted fault is;
  node = λ number wanted fault is. same w l link producer add_link from wanted fault is;
  down = λ number wanted fault is. (_, ap (λ (o : Outcome). o.0.links) (up_is w l link producer add_link from wanted), nothing_down w l link producer add_link from wanted fault is);
}

-- ---- a request behind an outcome

module _ (r : Resolved) (c : ℕ) (client : PlainClient) (a : Awaited) (node : PlainNode) (f : Frame) (vb : Plain) (write : Write) (alone : AwaitsAlone r.waiter c client a node) (holds : HoldsOne client.session f)
    (is : request_of client.session.settings.json f ≡ Ok (asks.Write write None)) (here : node.vbs f.vb_or_status ≡ Some vb) where
  abbrev clock : ℕ
  clock = node.clock

  abbrev v : ℕ
  v = f.vb_or_status

  abbrev made : VbCall
  made = call.Store write clock

  -- the connection once it was told the outcome, and behind its frame
  abbrev start : Served
  start = served client.session []

  abbrev front : Served
  front = outcome_answered a r.how start

  abbrev past : Served
  past = with_bytes (drop (frame_len f) front.session.reader) front

  whole : outcome_handled clock r start ≡ bind (frame_handled clock f past) (turns_handled clock)
  unfolding outcome_handled
  whole =
      ap (outcome_by clock r start) alone.awaited
      ∙ ap (λ b. if b then turns_handled clock front else Done start) (eq-eqb a.waiter r.waiter alone.mine) ∙ turns_frame clock front f refl holds.whole

  stores : request_handled clock f (Ok (asks.Write write None)) past ≡ Call v made (λ reply. Done (told f past reply))
  unfolding request_handled
  stores = refl

  told_reads : (reply : Option VbReply) → (told f past reply).session.reader ≡ past.session.reader
  unfolding told
  told_reads reply = refl

  told_unhanded : (reply : Option VbReply) → (told f past reply).dcp ≡ None
  unfolding told
  told_unhanded reply = refl

  told_live : (reply : Option VbReply) → (told f past reply).session.closed ≡ client.session.closed
  unfolding told
  told_live reply = refl

  run : (after (client_posted clock r client) node.vbs).0 ≡ (call_at node.vbs v made (Some vb)).0
  unfolding client_posted
  run =
      ap (λ prog. (after (bind prog (handled_on clock client.producer)) node.vbs).0) (whole ∙ ap (λ prog. bind prog (turns_handled clock)) (asks_read clock f past (asks.Write write None) holds.asks is ∙ stores))
      ∙ one_call clock client.producer v made (told f past) node.vbs vb here (λ reply. told_reads reply ∙ holds.alone) told_unhanded (λ reply. told_live reply ∙ holds.live)

  served_so : (posted r node).0.vbs v ≡ Some (plain_step vb made).0
  served_so =
      ap (λ (x : PlainNode × List Event). x.0.vbs v) (told_is r node c client a alone)
      ∙ ap (λ (s : States). s v) run ∙ ap (λ b. if b then Some (plain_step vb made).0 else node.vbs v) (eq-eqb v v refl)

pub serves_behind : (r : Resolved) (c : ℕ) (client : PlainClient) (a : Awaited) (node : PlainNode) → ServesBehind r c client a node
serves_behind r c client a node f vb write alone holds is here = served_so r c client a node f vb write alone holds is here
