-- a client's stream takes its next snapshot of its vBucket, and puts its marker, or waits
use Rattle.std.specs.Prelude.{◌≡◌, ◌≤◌, ◌<◌, ◌^◌, ◌++◌, ◌∷◌, ◌==◌, if◌then◌else◌, slice_get}
use Rattle.transcript_law.proofs.Words.{ℕ, StreamName, Change, Bool, true, false, List, [], length, refl, sym, ap, ◌∙◌, subst, Option, Some, None, arith, eq-eqb, eqb-true, ne_eqb, Chronicle, Cluster, Event, Frame, Plain, PlainNode, PlainStream, PlainWorld, STATE_CHANGED, Served, Snapshot, Span, States, Stream, TakesSnapshots, after, all_spans, end_span, plain_step, spelling, after_lines, stream_at, Sound, take_from, take_to, with_vb_at, VbReply}
use Rattle.client_session.specs.Serving.{PlainSession}
unfoldable use Rattle.mcbp_dcp.specs.DcpFrames.{dcp_frame}
unfoldable use Rattle.dcp_producer.specs.Frames.{next_frame}
use Rattle.mcbp_dcp.specs.declared.message.DcpMsg.TheVariants as msg
use Rattle.dcp_producer.specs.declared.next_frame.Waits.{Waits}
use Rattle.dcp_producer.specs.Firsts.{as_sent}
use Rattle.dcp_producer.specs.Frames.{Next, alive_next, none_next, close_sent, marker_flags, marker_next, next_by, over, place_requested, place_said, placed_next, quiet, reaches_end, take_answered, taken_next, with_snapshot, changes_next}
use Rattle.dcp_producer.specs.Pulling.{QuietOnes, came, frame_put, stream_went}
use Rattle.dcp_producer.specs.declared.desk.Desk.{Desk}
use Rattle.dcp_producer.specs.declared.next_frame.NextFrame.{NextFrame}
use Rattle.dcp_producer.specs.declared.next_frame.NextFrame.TheVariants as next
use Rattle.flow_control.specs.Windows.{is_open as lets_through}
use Rattle.node_core.specs.Clients.{PlainClient}
use Rattle.transcript_law.proofs.indexers.{Ends.{Comes, ended_turn, has, known, moved_step, opens, reached_turn, vb_agrees}, Given.{asked_given, given_so_far, given_states, has_given, turn_given}, Items.{item_turn}, Framed.{wait_of, IsQuietNow, IsWaitingNow, SoFar, client_of, mine, put_more, read, still_open, still_through, turned_so_far, went_agrees, world_of}, Marked.{marked_stream, marker_lawful}, Owning.{with_streams}, Stills.{quiet_stream, waiting_stream}, Replacing.{at_there_replaced, others_replaced, replaced_same}, Replied.{header_is, marker_short, marker_vb, put_is}}
use Rattle.transcript_law.proofs.invariant.{Agreement.{vb_of}, Carried.{sound_streams}, ClientsTold.{IsOpenFor, StreamIs}, OpenStreams.{Among}}
use Rattle.transcript_law.proofs.links.{Marking.{moved_there, moved_vb, span_snapshot}, Sent.{not_found}, Sources.{from_memory}}
use Rattle.transcript_law.specs.{ClientFrames.{is_closed_by}, ClientStreams.{vb_in_header, with_mark}, LawfulClients.{IsNextMarker, IsQuiet, LawfulClientMark, WaitsSaved}, Questions.{flow_now, served_frames}, StreamLaws.{FROM_MEMORY}, StreamsTold.{ClientKnown, ClientStream, StreamLine}}
use Rattle.vb_calls.specs.Streams.{is_in_memory, place_from, placed_by}
use Rattle.vb_calls.specs.States.{call_at}
use Rattle.vb_calls.specs.declared.calls.VbCall.TheVariants.{Place, Take}
use Rattle.vb_events.specs.declared.event.Event.TheVariants as event
use Rattle.vb_events.specs.declared.event.StreamName.TheVariants as name
use Rattle.vbucket.proofs.Fed.{feeds_moved}
use Rattle.vbucket.specs.Takes.{IsSnapshot, TakesExactly}
use Rattle.vb_calls.specs.Jobs.{Ended, after_reads}

-- ---- states that are the same

once_same : (states : States) (v : ℕ) (p : Plain) → states v ≡ Some p → with_vb_at states v p ≡ states
once_same states v p there = λ i q. at q i
  where
    at : (q : ℕ) → with_vb_at states v p q ≡ states q
    at q = elim (q == v) as (λ b. (q == v) ≡ b → (if b then Some p else states q) ≡ states q) [ true ↦ (λ e. sym there ∙ ap states (sym (eqb-true q v e))) | false ↦ (λ e. refl) ] refl

-- ---- the line

pub mark_lawful : (r : Chronicle) (n c : ℕ) (known : ClientKnown) (g : ClientStream) (t : PlainStream) (start end : ℕ) → known.streams t.vb ≡ Some g → t.vb < 2 ^ 16 → t.opaque ≡ g.opaque → is_closed_by (served_frames known) t.vb ≡ false → lets_through (flow_now known).window ≡ true → IsNextMarker r.tree g start end
    → (more : List Event) → LawfulClientMark r known n c start end FROM_MEMORY (event.Reply n c (spelling (dcp_frame (msg.SnapshotMarker start end FROM_MEMORY) t.opaque t.vb)) ∷ more)
mark_lawful r n c known g t start end there small opaque still through marker more =
    let (p, is, at) = put_is n c known (msg.SnapshotMarker start end FROM_MEMORY) g t.opaque t.vb more (marker_vb start end FROM_MEMORY t.opaque t.vb) small there opaque still through in
    record { put = p; source = from_memory end (r.disk_at n (vb_in_header p.bytes)).saved; marker = subst (λ (y : ClientStream). IsNextMarker r.tree y start end) (sym is) marker }

-- a marker, by where its snapshot came from
abbrev marker_by : StreamName → Bool → Snapshot → NextFrame
marker_by who disk snapshot = next.Put (msg.SnapshotMarker snapshot.start snapshot.end (marker_flags disk)) (event.Marked who snapshot.start snapshot.end (marker_flags disk))

-- a snapshot up to the end of a span
snapshot_is : TakesSnapshots → (vb : Plain) (id : ℕ) (o : Stream) (win : Span) → Sound vb → stream_at id vb.streams ≡ Some o → o.cursor ≡ true → end_span o (all_spans vb.spans) vb.held ≡ Some win
    → (stop : ℕ) × IsSnapshot vb o stop (span_snapshot vb o win) × ((take_to (Some win) o vb).0 ≡ moved_vb vb id stop)
snapshot_is takes vb id o win sound found near ends =
    let snapshot : Snapshot = span_snapshot vb o win in
    let step : plain_step vb (Take id) ≡ take_to (Some win) o vb = ap (λ x. take_from x vb) found ∙ ap (λ b. take_to (if b then end_span o (all_spans vb.spans) vb.held else None) o vb) near ∙ ap (λ x. take_to x o vb) ends in
    let (o', stop, found', is, after) = takes vb id snapshot sound (ap (λ x. x.1.answer) step) in
    let both : Some o' ≡ Some o = sym found' ∙ found in let same : o' ≡ o = cc in
    (stop, subst (λ x. IsSnapshot vb x stop snapshot) same is, sym (ap (λ x. x.0) step) ∙ after)

module _ (w : PlainWorld) (r : Chronicle) (cl : Cluster) (n c : ℕ) (node : PlainNode) (session : PlainSession) (states : States) (s : Served) (g : SoFar w r cl n c node session states s) (q : QuietOnes) (t : PlainStream) (i : Among t s.end.streams) (through : lets_through s.end.window ≡ true) where
  abbrev here : Chronicle
  here = read w r cl n c node session states s g

  abbrev now : PlainWorld
  now = world_of w r cl n c node session states s

  abbrev client : PlainClient
  client = client_of w r cl n c node session s

  abbrev pub Arrives : States × Next → Type 0
  Arrives x = Comes w r cl n c node session states s g q t i through x

  -- nothing was put
  quiet_turn : (waits : Bool) (states' : States) → states' ≡ states → (waits ≡ false → IsQuietNow w r cl n c node session here t) → (waits ≡ true → IsWaitingNow w r cl n c node session here t) → Arrives (states', quiet (wait_of waits) t)
  quiet_turn waits states' same still waiting =
      let again = replaced_same s.end.streams t (mine w r cl n c node session states s g).kept.rise i in
      subst (λ x. Arrives (x, quiet (wait_of waits) t)) (sym same)
      (let (so, lines) = turned_so_far w r cl n c node session states s g (stream_went t s) refl refl (ap (λ xs. with_streams client xs (stream_went t s).end) again) refl in record {
        so = so;
        read_is = ap (after_lines r) lines;
        same = ap (λ xs. record s.end { streams = xs }) again;
        waits = waits;
        quiet_is = refl;
        quiet = still;
        waiting = waiting;
      })

  -- it is for no takeover
  feeds : t.gives ≡ None
  feeds = (known w r cl n c node session states s g q t i through).is.gives

  module _ (going : t.ended ≡ false) where
    abbrev x : IsOpenFor here.tree (here.branch_at n t.vb) (known w r cl n c node session states s g q t i through).g t.id (vb_of now n t.vb)
    x = opens w r cl n c node session states s g q t i through going

    there_is : states t.vb ≡ Some x.vb
    there_is = has w r cl n c node session states s g q t i through going

    -- the marker of a snapshot
    marker_turn : (stop : ℕ) (snapshot : Snapshot) → IsSnapshot x.vb x.stream stop snapshot → x.vb.floor ≤ x.stream.place → snapshot.disk ≡ false → length t.items ≤ t.next → reaches_end t.until t.marked ≡ false
        → Arrives (with_vb_at (with_vb_at states t.vb x.vb) t.vb (moved_vb x.vb t.id stop), marker_next s.end.desk.stream t (as_sent t snapshot))
    marker_turn stop snapshot is near disk whole unreached =
        let sent : Snapshot = as_sent t snapshot in
        let k = known w r cl n c node session states s g q t i through in
        let f : Frame = dcp_frame (msg.SnapshotMarker sent.start sent.end FROM_MEMORY) t.opaque t.vb in
        let left : PlainStream = with_snapshot t sent in
        let s' : Served = frame_put f (event.Marked s.end.desk.stream sent.start sent.end FROM_MEMORY) (stream_went left s) in
        let moved : Plain = moved_vb x.vb t.id stop in
        let states' : States = with_vb_at (with_vb_at states t.vb x.vb) t.vb moved in
        let m = mine w r cl n c node session states s g in
        let sound : Sound x.vb = (vb_agrees w r cl n c node session states s g q t i through going).sound in
        let named : s.end.desk.stream ≡ name.Client n c = ap (λ (d : Desk). d.stream) m.conn.desk in
        let told : Event = event.Marked (name.Client n c) sent.start sent.end FROM_MEMORY in
        let header = header_is f t.vb (marker_vb sent.start sent.end FROM_MEMORY t.opaque t.vb) k.is.small in
        let after_is : states' t.vb ≡ Some moved = ap (λ b. if b then Some moved else with_vb_at states t.vb x.vb t.vb) (eq-eqb t.vb t.vb refl) in
        let others : (j : ℕ) → (j ≡ t.vb → ⊥) → states' j ≡ states j = λ j ne. ap (λ b. if b then Some moved else (if b then Some x.vb else states j)) (ne_eqb j t.vb ne) in
        subst (λ flag. Arrives (states', (marker_by s.end.desk.stream flag sent, left))) (sym disk) (
          put_more w r cl n c node session states s g t states' s' told f (StreamLine.Marks sent.start sent.end FROM_MEMORY) (ap (λ y. s.events ++ event.Marked y sent.start sent.end FROM_MEMORY ∷ []) named) refl
              (marker_short sent.start sent.end FROM_MEMORY t.opaque t.vb) refl header (λ u j ne. others_replaced left s.end.streams u j ne) (at_there_replaced left s.end.streams t m.kept.rise m.one i refl refl) refl
              (mark_lawful here n c (here.clients_at n c) k.g t sent.start sent.end k.known k.is.small k.is.opaque (still_open w r cl n c node session states s g t k) (still_through w r cl n c node session states s g through) (marker_lawful now here cl g.agrees n t.vb k.g t k.is x stop snapshot is near going whole unreached))
              (went_agrees w r cl n c node session states s g t left i refl refl (spelling f) (StreamLine.Marks sent.start sent.end FROM_MEMORY) header states' s'
              (moved_step w r cl n c node session states s g q t i through going moved (Some (client_of w r cl n c node session s')) states'
              (record { sound = sound_streams x.vb moved.streams sound (feeds_moved x.vb.role x.vb.floor t.id stop x.vb.streams x.stream sound.feeds x.opened (let above : x.stream.place < snapshot.end = is.covers.goes_on in let most : snapshot.end ≤ stop = is.within.0 in omega (arith, near, above, most))); alone = refl; others = λ y ne. moved_there t.id stop y x.vb.streams ne }) after_is others)
              others refl refl refl k
              (subst (λ o. StreamIs here.tree (here.branch_at n t.vb) (here.held n t.vb) o (with_mark here.tree sent.end FROM_MEMORY k.g) left) (sym after_is)
              (marked_stream now here cl g.agrees n t.vb k.g t k.is x stop snapshot is near going))),
          refl,
        )

    -- ---- what its vBucket says

    -- the states after a take, and what it comes to
    abbrev taken_turn : Plain × VbReply → States × Next
    taken_turn step = (with_vb_at (with_vb_at states t.vb x.vb) t.vb step.0, taken_next s.end.desk.stream t step.1.answer)

    -- the vBucket was asked where the stream's changes come from
    abbrev Placed : Bool → Bool → States × Next
    Placed has near =
        after_reads (placed_next s.end.desk.stream t (place_said (Some (placed_by has near x.stream x.vb).1))) node.shelves (with_vb_at states t.vb (placed_by has near x.stream x.vb).0)

    placed_turn : after_reads (place_requested s.end.desk.stream t) node.shelves states ≡ Placed x.stream.cursor (is_in_memory x.vb x.stream.place)
    placed_turn =
        ap (λ o. after_reads (placed_next s.end.desk.stream t (place_said (call_at states t.vb (Place t.id) o).1)) node.shelves (call_at states t.vb (Place t.id) o).0) there_is
        ∙ ap (λ o. after_reads (placed_next s.end.desk.stream t (place_said (Some (place_from o x.vb).1))) node.shelves (with_vb_at states t.vb (place_from o x.vb).0)) x.opened

    -- it has no cursor, and not all of them are in memory: the stream waits
    waited_turn : x.stream.cursor ≡ false → is_in_memory x.vb x.stream.place ≡ false → after_reads (place_requested s.end.desk.stream t) node.shelves states ≡ (with_vb_at states t.vb x.vb, quiet Waits.Saved t)
    waited_turn none far = placed_turn ∙ (λ j. Placed (none j) (far j))

    -- it has one: it was asked for the next snapshot
    asked_turn : x.stream.cursor ≡ true → after_reads (place_requested s.end.desk.stream t) node.shelves states ≡ taken_turn (take_to (end_span x.stream (all_spans x.vb.spans) x.vb.held) x.stream x.vb)
    asked_turn near =
        let first : States = with_vb_at states t.vb x.vb in
        placed_turn
        ∙ ap (λ b. Placed b (is_in_memory x.vb x.stream.place)) near
        ∙ ap (λ o. ((call_at first t.vb (Take t.id) o).0, take_answered s.end.desk.stream t (call_at first t.vb (Take t.id) o).1)) (ap (λ b. if b then Some x.vb else states t.vb) (eq-eqb t.vb t.vb refl))
        ∙ ap (λ o. taken_turn (take_from o x.vb)) x.opened
        ∙ ap (λ b. taken_turn (take_to (if b then end_span x.stream (all_spans x.vb.spans) x.vb.held else None) x.stream x.vb)) near

    once : with_vb_at states t.vb x.vb ≡ states
    once = once_same states t.vb x.vb there_is

    twice : with_vb_at (with_vb_at states t.vb x.vb) t.vb x.vb ≡ states
    twice = ap (λ y. with_vb_at y t.vb x.vb) once ∙ once

    -- nothing was given: it has no more to put
    still_now : TakesExactly → length t.items ≤ t.next → reaches_end t.until t.marked ≡ false → x.stream.cursor ≡ true → end_span x.stream (all_spans x.vb.spans) x.vb.held ≡ None → IsQuietNow w r cl n c node session here t
    still_now exactly whole unreached near ends y there =
        let k = known w r cl n c node session states s g q t i through in
        let same : Some k.g ≡ Some y = sym k.known ∙ there in let one : k.g ≡ y = cc in
        subst (IsQuiet here n t.vb) one (quiet_stream now here cl g.agrees n t.vb k.g t k.is x exactly going whole unreached near ends)

    -- or the stream waits
    waits_now : TakesExactly → length t.items ≤ t.next → reaches_end t.until t.marked ≡ false → is_in_memory x.vb x.stream.place ≡ false → IsWaitingNow w r cl n c node session here t
    waits_now exactly whole unreached far y there =
        let k = known w r cl n c node session states s g q t i through in
        let same : Some k.g ≡ Some y = sym k.known ∙ there in let one : k.g ≡ y = cc in
        subst (WaitsSaved here n t.vb) one (waiting_stream now here cl g.agrees n t.vb k.g t k.is x exactly going whole unreached far)

    -- what comes behind the items of the snapshot that was taken last, where the stream has a cursor or is given none
    pub place_turn : (x.stream.cursor ≡ false → is_in_memory x.vb x.stream.place ≡ false) → TakesSnapshots → TakesExactly → length t.items ≤ t.next → reaches_end t.until t.marked ≡ false → Arrives (after_reads (place_requested s.end.desk.stream t) node.shelves states)
    place_turn ready takes exactly whole unreached = in_memory x.stream.cursor refl
      where
        by : x.stream.cursor ≡ true → (o : Option Span) → end_span x.stream (all_spans x.vb.spans) x.vb.held ≡ o → Arrives (taken_turn (take_to o x.stream x.vb))
        by near None ends = subst (λ o. Arrives (with_vb_at (with_vb_at states t.vb x.vb) t.vb x.vb, none_next s.end.desk.stream t o)) (sym feeds) (quiet_turn false (with_vb_at (with_vb_at states t.vb x.vb) t.vb x.vb) twice (λ e. still_now exactly whole unreached near ends) (λ e. cc))
        by near (Some win) ends =
            let (stop, is, moved) = snapshot_is takes x.vb t.id x.stream win (vb_agrees w r cl n c node session states s g q t i through going).sound x.opened near ends in
            subst (λ vb. Arrives (with_vb_at (with_vb_at states t.vb x.vb) t.vb vb, marker_next s.end.desk.stream t (as_sent t (span_snapshot x.vb x.stream win)))) (sym moved)
            (marker_turn stop (span_snapshot x.vb x.stream win) is ((vb_agrees w r cl n c node session states s g q t i through going).sound.feeds.cursors t.id x.stream x.opened near) refl whole unreached)

        in_memory : (b : Bool) → x.stream.cursor ≡ b → Arrives (after_reads (place_requested s.end.desk.stream t) node.shelves states)
        in_memory false none = subst Arrives (sym (waited_turn none (ready none))) (quiet_turn true (with_vb_at states t.vb x.vb) once (λ e. cc) (λ e. waits_now exactly whole unreached (ready none)))
        in_memory true near = subst Arrives (sym (asked_turn near)) (by near (end_span x.stream (all_spans x.vb.spans) x.vb.held) refl)

module _ (w : PlainWorld) (r : Chronicle) (cl : Cluster) (n c : ℕ) (node : PlainNode) (session : PlainSession) (states : States) (s : Served) (g : SoFar w r cl n c node session states s) (q : QuietOnes) (t : PlainStream) (i : Among t s.end.streams) (through : lets_through s.end.window ≡ true) where
  abbrev Arriving : States × Next → Type 0
  Arriving x = Arrives w r cl n c node session states s g q t i through x

  module _ (going : t.ended ≡ false) where
    abbrev open_one : IsOpenFor (after_lines r g.lines).tree ((after_lines r g.lines).branch_at n t.vb) (known w r cl n c node session states s g q t i through).g t.id (vb_of (world_of w r cl n c node session states s) n t.vb)
    open_one = opens w r cl n c node session states s g q t i through going

    -- or it is given one first
    any_turn : TakesSnapshots → TakesExactly → length t.items ≤ t.next → reaches_end t.until t.marked ≡ false → Arriving (after_reads (place_requested s.end.desk.stream t) node.shelves states)
    any_turn takes exactly whole unreached = by open_one.stream.cursor (is_in_memory open_one.vb open_one.stream.place) refl refl
      where
        by : (c' m : Bool) → open_one.stream.cursor ≡ c' → is_in_memory open_one.vb open_one.stream.place ≡ m → Arriving (after_reads (place_requested s.end.desk.stream t) node.shelves states)
        by true m has near = place_turn w r cl n c node session states s g q t i through going (λ none. let z : true ≡ false = sym has ∙ none in cc) takes exactly whole unreached
        by false false none far = place_turn w r cl n c node session states s g q t i through going (λ e. far) takes exactly whole unreached
        by false true none near =
            let states' : States = given_states w r cl n c node session states s g q t i through going none near in
            let g' : SoFar w r cl n c node session states' s = given_so_far w r cl n c node session states s g q t i through going none near in
            let comes = after_reads (place_requested s.end.desk.stream t) node.shelves states' in
            subst Arriving (asked_given w r cl n c node session states s g q t i through going none near)
            (turn_given w r cl n c node session states s g q t i through going none near (comes.0, came s q comes.1)
            (place_turn w r cl n c node session states' s g' q t i through going (λ e. let z : true ≡ false = sym (has_given w r cl n c node session states s g q t i through going none near) ∙ e in cc) takes exactly whole unreached))

    -- its end, or the next marker
    going_turn : TakesSnapshots → TakesExactly → length t.items ≤ t.next → (b : Bool) → reaches_end t.until t.marked ≡ b → Arriving (after_reads (if b then close_sent t else changes_next s.end.desk.stream t t.unread) node.shelves states)
    going_turn takes exactly whole true reached = reached_turn w r cl n c node session states s g q t i through going whole reached
    going_turn takes exactly whole false unreached = subst (λ o. Arriving (after_reads (changes_next s.end.desk.stream t o) node.shelves states)) (sym (known w r cl n c node session states s g q t i through).is.none_unread) (any_turn takes exactly whole unreached)

  -- behind the items: the stream's end, or the next marker
  more_turn : TakesSnapshots → TakesExactly → length t.items ≤ t.next → (b : Bool) → t.ended ≡ b
      → Arriving (after_reads (if b then Ended (over STATE_CHANGED t) else alive_next s.end.desk.stream t t.gives) node.shelves states)
  more_turn takes exactly whole true ended = ended_turn w r cl n c node session states s g q t i through ended whole
  more_turn takes exactly whole false going = subst (λ o. Arriving (after_reads (alive_next s.end.desk.stream t o) node.shelves states)) (sym (feeds w r cl n c node session states s g q t i through)) (going_turn going takes exactly whole (reaches_end t.until t.marked) refl)

  -- the next frame of the stream
  pub next_turn : TakesSnapshots → TakesExactly → Arriving (after_reads (next_frame s.end.desk.stream t) node.shelves states)
  unfolding next_frame
  next_turn takes exactly = by (slice_get t.items t.next) refl
    where
      by : (o : Option Change) → slice_get t.items t.next ≡ o → Arriving (after_reads (next_by s.end.desk.stream t o) node.shelves states)
      by None e = more_turn takes exactly (not_found t.items t.next e) t.ended refl
      by (Some item) e = item_turn w r cl n c node session states s g q t i through item e
