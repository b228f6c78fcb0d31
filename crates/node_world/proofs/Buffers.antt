-- the BUF of a line that dials comes to its producer's window
use Rattle.std.proofs.Common.{◌≡◌, ◌<◌, ◌≤◌, ◌+◌, ℕ, Bool, true, false, List, [], ◌∷◌, ◌++◌, length, take, refl, ap, sym, ◌∙◌, subst, arith, Option, Some, None, append_assoc, append-nil, length-append}
use Rattle.std.proofs.Math.Seq.{take-append_seam}
use Rattle.std.proofs.lemmas.Bool.{eq-eqb, ne_eqb}
use Rattle.std.proofs.lemmas.Fmt.{length-decimal-le}
use Rattle.std.proofs.lemmas.List.Elements.{All-cons, All-nil}
use Rattle.std.specs.Fmt.{digits}
use Rattle.std.specs.List.{concat}
use Rattle.std.specs.Prelude.{◌==◌, ◌&&◌, ◌||◌, ◌^◌, codes, decimal, if◌then◌else◌, is_some, map, not}
use Rattle.mcbp_dcp.proofs.DcpBack.{message_back}
use Rattle.mcbp_dcp.proofs.DcpLens.{length_dcp}
use Rattle.mcbp_dcp.specs.DcpFrames.{dcp_frame}
use Rattle.mcbp_dcp.specs.Messages.{read_of}
use Rattle.mcbp_dcp.specs.Rows.{frame_row}
use Rattle.mcbp_dcp.specs.Shapes.{shape_fault}
use Rattle.script_text.specs.declared.verb.Verb.TheVariants as verb
use Rattle.script_text.specs.declared.verb.LinkVerb.TheVariants as link_verb
use Rattle.mcbp_dcp.specs.declared.message.DcpMsg.TheVariants as msg
use Rattle.mcbp_frame.proofs.Cases.{length-spelling}
use Rattle.mcbp_frame.proofs.Pieces.{frames-spellings}
use Rattle.mcbp_frame.specs.Cutting.{frames_in}
use Rattle.mcbp_frame.specs.Frames.{first_frame, frame_of}
use Rattle.mcbp_frame.specs.Spelling.{Readable, spelling}
use Rattle.mcbp_frame.specs.declared.frame.Frame.{Frame}
use Rattle.vb_events.specs.declared.event.Answer.TheVariants as answer
use Rattle.vb_events.specs.declared.event.Cause.{Cause}
use Rattle.vb_events.specs.declared.event.Cause.TheVariants as cause
use Rattle.vb_types.specs.declared.stream.StreamAsk.{StreamAsk}
use Rattle.vb_calls.specs.Programs.{Done, after, bind}
use Rattle.vb_calls.specs.States.{States}
use Rattle.vbucket.specs.Rows.{row_at, row_put}
use Rattle.dcp_producer.specs.declared.desk.Handshake.TheVariants as handshake
use Rattle.dcp_producer.specs.declared.desk.Named.TheVariants as named
use Rattle.dcp_producer.proofs.Decimals.{sizes}
use Rattle.dcp_producer.specs.Producers.{PlainProducer, begun}
use Rattle.dcp_producer.specs.Serving.{frame_answered, open_refusal, opened_unless, read_answered, sized, sized_as, status_sent}
use Rattle.dcp_producer.specs.Sizes.{size_of}
use Rattle.dcp_consumer.specs.Dialing.{buffer_request, flagged, member_name, name_request, numbered, open_request, requests, stream_opaque, sync_request}
use Rattle.node_core.specs.Peers.{PlainPeer, PeerResult, peer_answered, peer_heard, peer_result}
use Rattle.node_world.specs.Buffers.{BuffersBecomeWindows, BuffersInNumbers, IsBuffered}
use Rattle.node_world.specs.BytesMoved.{given_up}
use Rattle.node_world.specs.Links.{PlainLink, feeds, frame_up, frames_up, is_taken, link_number, moved_len, new_link, peer_given, peer_of, producer_node, untold_peer, up_at, with_up}
use Rattle.node_world.specs.Nodes.{PlainNode, done, first_cause, refusal, refused_or}
use Rattle.node_world.specs.World.{ask_in, link_outcome, verb_step, with_dialed, with_link}
use Rattle.node_world.specs.Worlds.{PlainWorld, Outcome, is_off, node_outcome, vb_in, with_links}
use Rattle.node_world.proofs.BytesMoved.{most}
use Rattle.node_world.proofs.Rows.{put_found}

-- ---- in numbers

pub in_numbers : (line l m v : ℕ) (takeover : Bool) (ask : StreamAsk) (producer : PlainNode) → BuffersInNumbers line l m v takeover ask producer
unfolding requests dcp_frame spelling digits frames_in first_frame frame_of frame_answered read_of frame_row shape_fault status_sent size_of
in_numbers line l m v takeover ask producer = record { all = refl; asks = refl; before = refl; behind = refl; fewer = refl; unasked = refl }

-- ---- the first two requests

module _ (n buffer : ℕ) (small : n < 16) (within : buffer < 4294967296) where
  abbrev opens : Frame
  opens = dcp_frame (open_request n) 1 0

  abbrev asks : Frame
  asks = dcp_frame (buffer_request buffer) 2 0

  abbrev first : List ℕ
  first = spelling opens ++ spelling asks

  abbrev count : ℕ
  count = 33 + length (decimal n) + 46 + length (decimal buffer)

  name_len : length (decimal n) ≤ 2
  name_len = length-decimal-le 2 n (omega arith) (omega arith) (omega arith)

  digits_len : length (decimal buffer) ≤ 10
  digits_len = length-decimal-le 10 buffer (omega arith) (omega arith) (omega arith)

  first_len : length first ≡ count
  first_len = length-append (spelling opens) (spelling asks) ∙ (λ i. (length-spelling opens ∙ length_dcp (open_request n) 1 0) i + (length-spelling asks ∙ length_dcp (buffer_request buffer) 2 0) i) ∙ omega arith

  open_spelled : (1 ≤ length (member_name n)) × (length (member_name n) ≤ 250)
  open_spelled = (omega arith, omega (arith, name_len))

  buffer_spelled : (length (codes "connection_buffer_size") < 2 ^ 16) × (length (codes "connection_buffer_size") + length (decimal buffer) < 2 ^ 32)
  buffer_spelled = (omega arith, omega (arith, digits_len))

  -- a reader takes both
  open_readable : Readable opens
  unfolding dcp_frame
  open_readable = record { fits = record { framing = omega arith; extras = omega arith; key = omega (arith, name_len); body = omega (arith, name_len) }; magic = refl; limit = omega (arith, name_len); vb_or_status = omega arith; opaque = omega arith; cas = omega arith }

  buffer_readable : Readable asks
  unfolding dcp_frame
  buffer_readable =
      record { fits = record { framing = omega arith; extras = omega arith; key = omega arith; body = omega (arith, digits_len) }; magic = refl; limit = omega (arith, digits_len); vb_or_status = omega arith; opaque = omega arith; cas = omega arith }

  none_in : frames_in [] ≡ []
  unfolding frames_in
  none_in = refl

  frames_are : frames_in first ≡ opens ∷ asks ∷ []
  frames_are =
      (λ i. frames_in (spelling opens ++ sym (append-nil (spelling asks)) i)) ∙ ap frames_in (sym (append-nil (spelling opens ++ (spelling asks ++ []))))
      ∙ frames-spellings (opens ∷ asks ∷ []) [] (All-cons Readable opens (asks ∷ []) open_readable (All-cons Readable asks [] buffer_readable (All-nil Readable)))
      ∙ ap (λ fs. opens ∷ asks ∷ fs) none_in

  -- they are the first of what goes up
  parted : (a b x y z : List ℕ) → (a ++ (b ++ (x ++ (y ++ [])))) ++ z ≡ (a ++ b) ++ (x ++ (y ++ z))
  parted a b x y z = simp (append_assoc, append-nil)

  front : (l v : ℕ) (takeover : Bool) (ask : StreamAsk) → 0 < buffer → (rest : List ℕ) × (requests (record { link = l; node = n; vb = v; buffer = buffer; takeover = takeover }) ask ≡ first ++ rest)
  unfolding requests
  front l v takeover ask some =
      let last = spelling (dcp_frame (msg.StreamRequest (flagged takeover ask)) (stream_opaque buffer) v) in
      let sync = spelling (dcp_frame sync_request 3 0) in
      let name = spelling (dcp_frame (name_request n) 4 0) in (
        sync ++ (name ++ last),
        ap (λ b. concat (map spelling (numbered 1 (open_request n ∷ (if b then [] else buffer_request buffer ∷ []) ++ sync_request ∷ name_request n ∷ []))) ++ last) (ne_eqb buffer 0 (λ e. omega (arith, e)))
            ∙ parted (spelling opens) (spelling asks) sync name last,
      )

  -- OPEN and the request for the window, answered
  opened : (peer : PlainPeer) (states : States) → peer.producer.handshake ≡ handshake.Fresh → (after (peer_answered opens peer) states).1.peer.producer ≡ record peer.producer { handshake = handshake.Open false named.Nobody }
  unfolding frame_answered dcp_frame status_sent
  opened peer states shut =
      ap (λ o. (after (bind (read_answered opens o (begun peer.producer)) (λ s. Done (peer_result peer.heard s))) states).1.peer.producer) (message_back (open_request n) 1 0 open_spelled (omega arith, omega arith))
      ∙ ap (λ h. (opened_unless (open_refusal h 1) opens (begun peer.producer)).end) shut

  windowed : (peer : PlainPeer) (states : States) → peer.producer.handshake ≡ handshake.Open false named.Nobody → (after (peer_answered asks peer) states).1.peer.producer.window ≡ record peer.producer.window { size = buffer }
  unfolding frame_answered dcp_frame status_sent
  windowed peer states shaken =
      ap (λ o. (after (bind (read_answered asks o (begun peer.producer)) (λ s. Done (peer_result peer.heard s))) states).1.peer.producer.window) (message_back (buffer_request buffer) 2 0 buffer_spelled tt)
      ∙ ap (λ h. (sized_as (sized h (decimal buffer)) asks (begun peer.producer)).end.window) shaken
      ∙ ap (λ o. (sized_as o asks (begun peer.producer)).end.window) ((sizes (decimal buffer) buffer).1 (refl, within))

  both : (came : PlainNode × PeerResult) → came.1.peer.producer.handshake ≡ handshake.Fresh → (frames_up (opens ∷ asks ∷ []) came).1.peer.producer.window ≡ record came.1.peer.producer.window { size = buffer }
  both came shut =
      let known = opened came.1.peer came.0.vbs shut in
      let next = frame_up opens came in
      windowed next.1.peer next.0.vbs (ap (λ (p : PlainProducer). p.handshake) known) ∙ ap (λ (p : PlainProducer). record p.window { size = buffer }) known

  -- given so many bytes, a new link's producer has the window
  module _ (line l m v : ℕ) (takeover : Bool) (ask : StreamAsk) (some : 0 < buffer) where
    abbrev new : PlainLink
    new = new_link line l m n v buffer takeover ask

    enough : count ≤ length new.up
    enough = let (rest, e) = front l v takeover ask some in omega (arith, ap length e, length-append first rest, first_len)

    piece : take count new.up ≡ first
    piece = let (rest, e) = front l v takeover ask some in ap (take count) e ∙ ap (λ k. take k (first ++ rest)) (sym first_len) ∙ take-append_seam first rest

    given : (producer : PlainNode) → (given_up count new producer).1.peer.producer.window ≡ record { size = buffer; outstanding = 0 }
    given producer =
        ap (λ p. (peer_given p (peer_of new) producer).1.peer.producer.window) piece
        ∙ ap (λ fs. (frames_up fs (producer, untold_peer (peer_heard first (peer_of new)))).1.peer.producer.window) frames_are
        ∙ both (producer, untold_peer (peer_heard first (peer_of new))) refl

-- ---- lines

no_ok : (why : Cause) → answer.No why ≡ answer.Ok → ⊥
no_ok why e = cc

-- a line that is answered `ok` is refused for no cause
module _ (w : PlainWorld) (came : Outcome) where
  abbrev Dialed : Bool → Bool → Bool → Outcome → Type 0
  Dialed a d e o = (a ≡ false) × (d ≡ false) × (e ≡ false) × (o ≡ came)

  let_through : (a b c d e : Bool)
      → (refused_or (first_cause ((a, cause.UnknownNode) ∷ (b, cause.NodeDown) ∷ (c, cause.UnknownVb) ∷ (d, cause.WrongRole) ∷ (e, cause.LinkOpen) ∷ [])) w came).1.answer ≡ answer.Ok
      → Dialed a d e (refused_or (first_cause ((a, cause.UnknownNode) ∷ (b, cause.NodeDown) ∷ (c, cause.UnknownVb) ∷ (d, cause.WrongRole) ∷ (e, cause.LinkOpen) ∷ [])) w came)
  let_through true b c d e ok = absurd (no_ok cause.UnknownNode ok)
  let_through false true c d e ok = absurd (no_ok cause.NodeDown ok)
  let_through false false true d e ok = absurd (no_ok cause.UnknownVb ok)
  let_through false false false true e ok = absurd (no_ok cause.WrongRole ok)
  let_through false false false false true ok = absurd (no_ok cause.LinkOpen ok)
  let_through false false false false false ok = (refl, refl, refl, refl)

made : (a b : Bool) → not (a && b) ≡ false → a ≡ true
made true b e = refl
made false b e = cc

there : {T : Type 0} (o : Option T) → is_some o ≡ true → (x : T) × (o ≡ Some x)
there None e = cc
there (Some x) e = (x, refl)

not_not : (b : Bool) → not b ≡ false → b ≡ true
not_not true e = refl
not_not false e = cc

-- the link behind links that have not its number
row_new : (l n v : ℕ) (links : List PlainLink) (x : PlainLink) → is_taken links l n v ≡ false → link_number x ≡ l → row_at link_number l (links ++ x ∷ []) ≡ Some x
row_new l n v [] x free is = ap (λ b. if b then Some x else None) (eq-eqb (link_number x) l is)
row_new l n v (y ∷ ys) x free is = by (link_number y == l) (feeds n v y) free (λ later. row_new l n v ys x later is)
  where
    by : (a b : Bool) → ((a || b) || is_taken ys l n v) ≡ false → (is_taken ys l n v ≡ false → row_at link_number l (ys ++ x ∷ []) ≡ Some x) → (if a then Some y else row_at link_number l (ys ++ x ∷ [])) ≡ Some x
    by true b e later = cc
    by false true e later = cc
    by false false e later = later e

module _ (w : PlainWorld) (l m n v buffer : ℕ) (takeover : Bool) (small : n < 16) (some : 0 < buffer) (within : buffer < 4294967296) (number next : ℕ) (ask : StreamAsk) (producer : PlainNode) (from : w.nodes m ≡ Some producer) (free : is_taken w.links l n v ≡ false) where
  abbrev link : PlainLink
  link = new_link number l m n v buffer takeover ask

  abbrev wanted : ℕ
  wanted = 33 + length (decimal n) + 46 + length (decimal buffer)

  abbrev dialed : PlainWorld
  dialed = with_links w (w.links ++ link ∷ [])

  abbrev now : PlainLink
  now = with_up link (moved_len wanted link.up) (given_up (moved_len wanted link.up) link producer).1

  row : row_at link_number l dialed.links ≡ Some link
  row = row_new l n v w.links link free refl

  fed : (verb_step dialed next (verb.AtLink l (link_verb.Up wanted))).0.links ≡ row_put link_number l now dialed.links
  fed =
      ap (λ o. (link_outcome dialed l producer_node (up_at wanted) o).0.links) row
      ∙ ap (λ o. (with_link link (node_outcome dialed m (Some link, refusal cause.UnknownNode) o (up_at wanted link))).0.links) from

  all_moved : moved_len wanted link.up ≡ wanted
  all_moved = (most wanted (length link.up)).few (enough n buffer small within number l m v takeover ask some)

  pub buffered : IsBuffered l buffer (verb_step dialed next (verb.AtLink l (link_verb.Up wanted)))
  buffered = record {
    link = now;
    there = ap (row_at link_number l) fed ∙ put_found link_number l dialed.links link now row refl;
    window = ap (λ k. (given_up k link producer).1.peer.producer.window) all_moved ∙ given n buffer small within number l m v takeover ask some producer;
  }

pub lines : (w : PlainWorld) (l m n v buffer : ℕ) (takeover : Bool) → BuffersBecomeWindows w l m n v buffer takeover
lines w l m n v buffer takeover number next ok small some within =
    let came : Outcome = (with_links w (with_dialed number l m n v buffer takeover w.links (ask_in w n v)), done []) in
    let (named, asks, free, is) = let_through w came (not (is_some (w.nodes m) && is_some (w.nodes n))) (is_off (w.nodes m) || is_off (w.nodes n)) (not (is_some (vb_in (w.nodes n) v))) (not (is_some (ask_in w n v))) (is_taken w.links l n v) ok in
    let (producer, from) = there (w.nodes m) (made (is_some (w.nodes m)) (is_some (w.nodes n)) named) in
    let (ask, asked) = there (ask_in w n v) (not_not (is_some (ask_in w n v)) asks) in
    let whole : (verb_step w number (verb.Link l m n v buffer takeover)).0 ≡ with_links w (w.links ++ new_link number l m n v buffer takeover ask ∷ []) = ap (λ (o : Outcome). o.0) is ∙ ap (λ o. with_links w (with_dialed number l m n v buffer takeover w.links o)) asked in
    subst (λ x. IsBuffered l buffer (verb_step x next (verb.AtLink l (link_verb.Up (33 + length (decimal n) + 46 + length (decimal buffer)))))) (sym whole) (buffered w l m n v buffer takeover small some within number next ask producer from free)
