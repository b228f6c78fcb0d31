-- CLOSE_STREAM of a client: its stream of the vBucket is gone at both
use Rattle.std.specs.Prelude.{◌≡◌, ◌++◌, if◌then◌else◌}
use Rattle.transcript_law.proofs.Words.{ℕ, Bool, true, false, List, refl, sym, ap, ◌∙◌, subst, inl, Option, Some, None, Event, Status, Frame, States, PlainNode, PlainWorld, PlainProducer, PlainStream, Plain, Done, Call, after, begun, with_vb_at, call_at, close_row, Chronicle}
use Rattle.dcp_producer.specs.Producers.{Served, is_open, stream_at as kept_at, without_id}
use Rattle.dcp_producer.specs.Serving.{close_requested, closed_sent, status_frame, stream_closed}
unfoldable use Rattle.dcp_producer.specs.Serving.{status_sent}
use Rattle.mcbp_dcp.specs.declared.message.DcpMsg.TheVariants as msg
use Rattle.node_core.specs.Clients.{PlainClient, delivered}
use Rattle.transcript_law.proofs.indexers.{Hands.{Goes, HandedUp}, Moments.{close_none, close_some}, Passing.{FitsNow, agrees, asks_in_hand, before, behind, cluster, hand, is_behind, kept_as, own, passed_step, so_far, stream as stream_now}, Setting.{open_as}, Quiet.{put_here, put_there}}
use Rattle.transcript_law.proofs.indexers.{Serving.{served_close}, Steps.{ClientStep}, Streams.{among_without, closed_here, closed_there, found_is, none_at, one_closed, open_without}, Worlds.{client_here, open_own, step_at, step_quiet, vb_here, world_with}}
use Rattle.vbucket.proofs.Fed.{feeds_closed}
use Rattle.transcript_law.proofs.invariant.{Agreement.{AgreesAt, VbAgrees}, Carried.{sound_streams}, Carrying.{StreamsChanged}, ClientsKept.{found_open, open_known}, ClientsTold.{ClientAgrees, KeptIs, setup_of}, Holdings.{vb_of}, OpenStreams.{kept_over}, Seats.{seat}}
use Rattle.transcript_law.proofs.{answers.Messages.{close_answer_to}, answers.Statuses.{alone_as, once_open}, links.Cutting.{closed_others}}
use Rattle.transcript_law.specs.{ClientFrames.{ask_by, ask_of, is_close, is_closed_by, message_of, set_by}, Feeding.{HasFed, HasOpen}, LawfulMessages.{close_status}, Questions.{window_by}, StreamsTold.{ClientStream}}
use Rattle.vb_calls.specs.declared.calls.VbCall.TheVariants as call
use Rattle.vb_events.specs.declared.event.StreamName.TheVariants as name

module _ (w : PlainWorld) (n c : ℕ) (node : PlainNode) (r : Chronicle) (f : Frame) (states : States) (lines : List Event) (client : PlainClient) (up : HandedUp w n c node r f states lines client) (says : message_of f ≡ Some msg.CloseStream) where
  abbrev p : PlainProducer
  p = client.producer

  abbrev s : Served
  s = begun p

  abbrev v : ℕ
  v = f.vb_or_status

  abbrev old : PlainWorld
  old = world_with w n c node states (Some (before w n c node r f states lines client up))

  -- what it made of the vBuckets and the producer
  abbrev Comes : States × Served → Type 0
  Comes x = Goes w n c node r x.0 (lines ++ delivered client.session.who x.1) (behind w n c node r f states lines client up x.1)

  abbrev mine : ClientAgrees old (so_far w n c node r f states lines client up) n c (before w n c node r f states lines client up)
  mine = own w n c node r f states lines client up

  abbrev so : Chronicle
  so = so_far w n c node r f states lines client up

  no_ask : ask_of f ≡ None
  no_ask = ap ask_by says

  closing : is_close (message_of f) ≡ true
  closing = ap is_close says

  sets : set_by (message_of f) (setup_of p.handshake) ≡ setup_of p.handshake
  sets = ap (λ m. set_by m (setup_of p.handshake)) says

  flows : window_by (message_of f) (setup_of p.handshake).opened p.window ≡ p.window
  flows = ap (λ m. window_by m (setup_of p.handshake).opened p.window) says

  -- what is known of the stream is what the producer has
  abbrev stream_known : Option ClientStream
  stream_known = stream_now w n c node r f states lines client up

  -- a status alone fits, over an open connection by that
  abbrev Fits : Frame → Type 0
  Fits = FitsNow w n c node r f states lines client up (message_of f)

  fits_as : (st : Status) → (is_open p.handshake ≡ true → close_status stream_known ≡ st) → (is_open p.handshake ≡ false → st ≡ Status.Einval) → Fits (status_frame f st)
  fits_as st over before =
      subst (λ m. FitsNow w n c node r f states lines client up m (status_frame f st)) (sym says)
      (once_open (setup_of p.handshake).opened (so.role_at n v) (so.log_at n v) stream_known f (status_frame f st) msg.CloseStream
      (λ e. alone_as f st (close_status stream_known) (over (sym (open_as p.handshake) ∙ e))) (λ e. alone_as f st Status.Einval (sym (before (sym (open_as p.handshake) ∙ e)))))

  -- there is none
  unheld : (st : Status) → kept_at v p.streams ≡ None → Fits (status_frame f st) → Comes (states, status_sent f st s)
  unfolding status_sent
  unheld st none fits =
      let x : States × Served = (states, status_sent f st s) in
      let client' : PlainClient = hand w n c node r f states lines client up x.1 in
      let new : PlainWorld = world_with w n c node states (Some client') in
      let told : ClientAgrees new (so_far w n c node r f states lines client up) n c client' =
      served_close old new (so_far w n c node r f states lines client up) n c (before w n c node r f states lines client up) client' f mine up.goes.bytes up.first (is_behind w n c node r f states lines client up new x.1 refl) no_ask sets
      (asks_in_hand w n c node r f states lines client up x.1 sets) flows closing mine.kept refl mine.one (λ t i. i) refl none (λ q other. (refl, vb_here w n c node states (Some client') q ∙ sym (vb_here w n c node states (Some (before w n c node r f states lines client up)) q))) in
      passed_step w n c node r f states lines client up x refl (close_answer_to Fits (setup_of p.handshake) f says up.asks st fits) (step_quiet w n c node states states (Some (before w n c node r f states lines client up)) (Some client') (λ q. refl)) (λ q id has. inl has) told

  -- there is one
  module _ (over : is_open p.handshake ≡ true) (stream : PlainStream) (found : kept_at v p.streams ≡ Some stream) where
    fits : Fits (status_frame f Status.Success)
    fits = fits_as Status.Success
        (λ e. close_some so.tree (so.branch_at n v) (so.held n v) (vb_of old n v) (is_closed_by mine.heard.served v) ((so.clients_at n c).streams v) stream
        (subst (KeptIs so.tree (so.branch_at n v) (so.held n v) (vb_of old n v) (is_closed_by mine.heard.served v) ((so.clients_at n c).streams v)) found (mine.streams v)))
        (λ shut. let z : true ≡ false = sym over ∙ shut in cc)

    abbrev x_of : States → States × Served
    x_of st = (st, closed_sent f stream.id s)

    abbrev client_of : PlainClient
    client_of = record client { producer = (closed_sent f stream.id s).end }

    held : (st : States) → ((q : ℕ) → (q ≡ v → ⊥) → st q ≡ states q) → ClientStep old (world_with w n c node st (Some (hand w n c node r f states lines client up (closed_sent f stream.id s)))) n c → Comes (x_of st)
    unfolding status_sent
    held st others step =
        let x : States × Served = x_of st in
        let client' : PlainClient = hand w n c node r f states lines client up x.1 in
        let new : PlainWorld = world_with w n c node st (Some client') in
        let told : ClientAgrees new (so_far w n c node r f states lines client up) n c client' =
        served_close old new (so_far w n c node r f states lines client up) n c (before w n c node r f states lines client up) client' f mine up.goes.bytes up.first (is_behind w n c node r f states lines client up new x.1 refl) no_ask sets
        (asks_in_hand w n c node r f states lines client up x.1 sets) flows closing (kept_as (record p { streams = without_id stream.id p.streams }) x.1.end refl refl refl (kept_over p stream.id mine.kept)) refl (one_closed v stream p.streams mine.kept.rise mine.one found) (λ t i. among_without t stream.id p.streams i) refl
        (closed_here v stream p.streams mine.kept.rise mine.one found)
        (λ q other. (closed_there v stream p.streams mine.kept.rise mine.one found q other, vb_here w n c node st (Some client') q ∙ others q other ∙ sym (vb_here w n c node states (Some (before w n c node r f states lines client up)) q))) in
        passed_step w n c node r f states lines client up x refl (close_answer_to Fits (setup_of p.handshake) f says up.asks Status.Success fits) step (λ q id has. inl (open_without q id stream.id p.streams has)) told

    -- a change of role ended it before
    over_before : Comes (x_of states)
    unfolding status_sent
    over_before = held states (λ q other. refl) (step_quiet w n c node states states (Some (before w n c node r f states lines client up)) (Some (hand w n c node r f states lines client up (closed_sent f stream.id s))) (λ q. refl))

    -- it is closed at its vBucket
    closed_there_too : stream.ended ≡ false → Comes (after (Call stream.vb (call.CloseStream stream.id) (λ reply. Done (closed_sent f stream.id s))) states)
    closed_there_too open_still =
        let has : HasOpen v stream.id p.streams = found_open v p.streams stream found open_still in
        let at : stream.vb ≡ v = (found_is v p.streams stream found).1 in
        let (g, known, opens) = open_known old (so_far w n c node r f states lines client up) n c (before w n c node r f states lines client up) mine v stream.id has in
        let pv : Plain = opens.vb in
        let pv' : Plain = (close_row pv stream.id).0 in
        let there : states v ≡ Some pv = sym (vb_here w n c node states (Some (before w n c node r f states lines client up)) v) ∙ opens.there in
        let st : States = with_vb_at states v pv' in
        let agrees_there : VbAgrees (so_far w n c node r f states lines client up) n v ((cluster w n c node r f states lines client up).nodes (seat n v)) pv
        = subst (AgreesAt (so_far w n c node r f states lines client up) n v ((cluster w n c node r f states lines client up).nodes (seat n v))) opens.there ((agrees w n c node r f states lines client up).vbs n v) in
        let changed : StreamsChanged stream.id pv pv' = record { sound = sound_streams pv pv'.streams agrees_there.sound (feeds_closed pv.role pv.floor stream.id pv.streams agrees_there.sound.feeds); alone = refl; others = λ k ne. closed_others stream.id k pv.streams ne } in
        let fed : HasFed old (name.Client n c) n v stream.id = (refl, (before w n c node r f states lines client up, client_here w n c node states (Some (before w n c node r f states lines client up)), has)) in
        subst Comes {x = (st, closed_sent f stream.id s)} (sym (ap (λ q. after (Call q (call.CloseStream stream.id) (λ reply. Done (closed_sent f stream.id s))) states) at
        ∙ ap (λ o. ((call_at states v (call.CloseStream stream.id) o).0, closed_sent f stream.id s)) there))
        (held st (λ q other. put_there states v pv' q other)
        (step_at w n c node states st (Some (before w n c node r f states lines client up)) (Some (hand w n c node r f states lines client up (closed_sent f stream.id s))) v stream.id pv pv' there (put_here states v pv') (λ q other. put_there states v pv' q other) changed
        (open_own w n c node old (so_far w n c node r f states lines client up) (cluster w n c node r f states lines client up) (agrees w n c node r f states lines client up) v stream.id fed)))

    by_ended : (b : Bool) → stream.ended ≡ b → Comes (after (if b then Done (closed_sent f stream.id s) else Call stream.vb (call.CloseStream stream.id) (λ reply. Done (closed_sent f stream.id s))) states)
    by_ended true e = over_before
    by_ended false e = closed_there_too e

  by_stream : is_open p.handshake ≡ true → (o : Option PlainStream) → kept_at v p.streams ≡ o → Comes (after (stream_closed f s o) states)
  by_stream over None none =
      unheld Status.KeyEnoent none
      (fits_as Status.KeyEnoent
      (λ e. close_none so.tree (so.branch_at n v) (so.held n v) (vb_of old n v) (is_closed_by mine.heard.served v) ((so.clients_at n c).streams v)
      (subst (KeptIs so.tree (so.branch_at n v) (so.held n v) (vb_of old n v) (is_closed_by mine.heard.served v) ((so.clients_at n c).streams v)) none (mine.streams v)))
      (λ shut. let z : true ≡ false = sym over ∙ shut in cc))
  by_stream over (Some stream) found = by_ended over stream found stream.ended refl

  by_open : (b : Bool) → is_open p.handshake ≡ b → Comes (after (if b then stream_closed f s (kept_at v p.streams) else Done (status_sent f Status.Einval s)) states)
  by_open true e = by_stream e (kept_at v p.streams) refl
  by_open false e =
      unheld Status.Einval (none_at v p.streams (λ t i at. let z : false ≡ true = sym e ∙ mine.opened t i in cc))
      (fits_as Status.Einval (λ over. let z : true ≡ false = sym over ∙ e in cc) (λ shut. refl))

  pub passed_close : Comes (after (close_requested f s) states)
  passed_close = by_open (is_open p.handshake) refl
