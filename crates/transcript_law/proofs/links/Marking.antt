-- a producer takes its stream's next snapshot of its vBucket, and puts its marker
use Rattle.std.specs.Prelude.{◌≡◌, ◌≤◌, if◌then◌else◌, ◌<◌, ◌∷◌, ◌++◌, ◌==◌, ◌&&◌}
use Rattle.transcript_law.proofs.Words.{length-append, map-append, ℕ, true, false, refl, ap, sym, ◌∙◌, subst, arith, Some, Snapshot, Covers, Stream, Span, Plain, plain_step, all_spans, is_whole}
use Rattle.transcript_law.proofs.Words.{stream_at, need_of, end_span, take_to, take_from, Sound, TakesSnapshots, Bool, cond, List, [], length, map, drop, ⊎_elim, append_assoc, append-nil}
use Rattle.transcript_law.proofs.Words.{Option, None, is_some, not, All, eqb-true, ne_eqb, Frame, dcp_frame, Change, Position, StreamAsk, last_seq, effective_ss, effective_se, fork_of, Branch}
use Rattle.transcript_law.proofs.Words.{hist, Feed, Member, flight_from, flight_end, member_reach, Flight, PlainStream, Begun, Granted, stream_branch, with_begun, item_of_change, IsWholeIf, IsMarker, PlainProducer}
use Rattle.transcript_law.proofs.{Words.{PlainConsumer}, links.Sent.{fits_of, all_by_each, drop_whole, flight_frames_push, flight_end_push, sending_tail}, invariant.Agreement.{ChangeFits, BegunAgrees, GivenIn, Handing, Open, StreamAgrees, has_pended, is_sending, kept_stream, Streaming, tail_frames, top}}
use Rattle.transcript_law.proofs.{invariant.Agreement.{coming_items, flight_marks, marker_start, items_frames, flight_frames, flight_of, stream_frames, answer_frame, is_granted, Wants}, links.Firsts.{first_answers}, links.Comings.{marks_push, snapshot_comes}}
use Rattle.transcript_law.proofs.invariant.Tables.{never}
use Rattle.branch_model.proofs.Lists.{in_right, from_upto, last_in, rises_in, upto-append}
use Rattle.vb_types.specs.Histories.{Rises, Slot, last_by, last_of, touches, upto}
use Rattle.std.specs.Option.{option_or}
use Rattle.dcp_producer.specs.Firsts.{as_sent, first_of, start_sent}
use Rattle.dcp_producer.specs.Frames.{marker_flags}
use Rattle.transcript_law.proofs.invariant.FirstMarks.{covers_sent, start_of, starts_sent}
use Rattle.transcript_law.{proofs.links.Sources.{disk_told}, specs.StreamLaws.{IsUnreplaced}, specs.StreamsTold.{is_from_disk}}
use Rattle.{branch_model.proofs.Ruling.{reach_cases}, branch_model.specs.Snapshots.{plain_view, AllOf}, cluster_model.specs.Clusters.{Ground, FirstReaches}}
use Rattle.{mcbp_dcp.specs.declared.message.DcpMsg.TheVariants.{SnapshotMarker}, std.proofs.lemmas.Bool.{false_from_ne_true, true_from_ne_false}, std.proofs.lemmas.List.{take_all}}
use Rattle.{transcript_law.specs.Lawfulness.{next_marker_start, reach_after}, vb_calls.specs.Streams.{items_to, snapshot_of, moved_on}, vb_calls.specs.declared.calls.VbCall.TheVariants.{Take}}
use Rattle.{vb_types.specs.declared.stream.AskAnswer.TheVariants.{Go}, vbucket.specs.Takes.{IsSnapshot}}

-- a stream from which a snapshot up to `end` was taken
abbrev pub moved_stream : Stream → ℕ → Stream
moved_stream s end = record { id = s.id; ask = s.ask; sync = s.sync; place = end; cursor = s.cursor; taken = true }

-- it is found at its number, and the others as before
pub moved_here : (id end : ℕ) (ss : List Stream) (s : Stream) → stream_at id ss ≡ Some s → stream_at id (map (moved_on id end) ss) ≡ Some (moved_stream s end)
moved_here id end [] s e = cc
moved_here id end (x ∷ xs) s e = by (x.id == id) refl e (moved_here id end xs s)
  where
    by : (b : Bool) → (x.id == id) ≡ b → cond b (Some x) (stream_at id xs) ≡ Some s → (stream_at id xs ≡ Some s → stream_at id (map (moved_on id end) xs) ≡ Some (moved_stream s end))
        → cond ((if b then moved_stream x end else x).id == id) (Some (if b then moved_stream x end else x)) (stream_at id (map (moved_on id end) xs)) ≡ Some (moved_stream s end)
    by true t q rest = let k : x ≡ s = cc in ap (λ b. cond b (Some (moved_stream x end)) (stream_at id (map (moved_on id end) xs))) t ∙ ap (λ y. Some (moved_stream y end)) k
    by false t q rest = ap (λ b. cond b (Some x) (stream_at id (map (moved_on id end) xs))) t ∙ rest q

pub moved_there : (id end y : ℕ) (ss : List Stream) → (y ≡ id → ⊥) → stream_at y (map (moved_on id end) ss) ≡ stream_at y ss
moved_there id end y [] ne = refl
moved_there id end y (x ∷ xs) ne = by (x.id == id) refl (moved_there id end y xs ne)
  where
    by : (b : Bool) → (x.id == id) ≡ b → stream_at y (map (moved_on id end) xs) ≡ stream_at y xs → cond ((if b then moved_stream x end else x).id == y) (Some (if b then moved_stream x end else x)) (stream_at y (map (moved_on id end) xs)) ≡ cond (x.id == y) (Some x) (stream_at y xs)
    by true t rest =
        let away : (x.id == y) ≡ false = ne_eqb x.id y (λ e. ne (sym e ∙ eqb-true x.id id t)) in
        ap (λ b. cond b (Some (moved_stream x end)) (stream_at y (map (moved_on id end) xs))) away ∙ rest ∙ sym (ap (λ b. cond b (Some x) (stream_at y xs)) away)
    by false t rest = ap (λ o. cond (x.id == y) (Some x) o) rest

-- items of a history whose changes fit fit
pub items_fit : (items held : List Change) → AllOf items held → All ChangeFits held → All ChangeFits items
items_fit items held of fits = all_by_each ChangeFits items (λ x i. fits_of held x fits (of x i))

-- the snapshots on their way end at or above where they start
flight_above : (w : Ground) (u from : ℕ) (xs : List (ℕ × List Change)) → Flight w u from xs → from ≤ flight_end from xs
flight_above w u from [] f = omega arith
flight_above w u from (x ∷ more) f =
    let l : from < x.0 = f.0.goes_on in
    let m : x.0 ≤ flight_end x.0 more = flight_above w u x.0 more f.2 in omega arith

-- in a snapshot, up to its end
from_se : (kn : Member) (o : Option (List Change)) → last_seq kn.position.at (coming_items o) ≡ kn.position.se → flight_from kn o ≡ kn.position.se
from_se kn None e = e
from_se kn (Some []) e = e
from_se kn (Some (c ∷ rest)) e = refl

-- the snapshot before was put whole
pub whole_if : (stream : PlainStream) (q : Option Begun) → BegunAgrees q stream → length stream.items ≤ stream.next → IsWholeIf q
whole_if stream None begun l = tt
whole_if stream (Some b) begun l = record {
  whole = stream.items;
  covers = begun.0;
  front = sym (append-nil b.items ∙ begun.1 ∙ ap (map item_of_change) (take_all stream.next stream.items l));
}

module _ {o vb : ℕ} {g : Granted} {stream : PlainStream} {pv : Option Plain} {leader : Member} {feed : Feed} {kn : Member} {in_one : Bool} {h : Handing} (si : StreamAgrees o vb g stream pv leader feed kn in_one h) where
  -- a consumer of which a snapshot is on its way, or that is in one
  in_one_if : (b : Begun) → g.last ≡ Some b → feed.flight ≡ [] → in_one ≡ true
  in_one_if b e f = true_from_ne_false in_one (λ t. never (sym (ap is_some e) ∙ si.in_flight t f))

  asks_not : g.last ≡ None → in_one ≡ false
  asks_not e = false_from_ne_true in_one (λ t. never (sym (si.taken_one t) ∙ ap is_some e))

  flight_start : (b : Begun) → g.last ≡ Some b → (xs : List (ℕ × List Change)) → feed.flight ≡ xs → flight_end (marker_start in_one kn.position) xs ≡ flight_end (flight_from kn kn.coming) xs
  flight_start b e [] f =
      let t = in_one_if b e f in ap (λ q. marker_start q kn.position) t ∙ sym (from_se kn kn.coming (si.in_one_last t))
  flight_start b e (x ∷ more) f = refl

  module _ (s : Stream) (ask : s.ask ≡ g.ask) (place : s.place ≡ g.place) (taken : s.taken ≡ is_some g.last)
      (asks : in_one ≡ false → (g.ask.start ≡ kn.position.at) × (g.ask.ss ≡ kn.position.ss) × (g.ask.se ≡ kn.position.se)) where
    start_first : g.last ≡ None → start_of s ≡ effective_ss g.ask.start g.ask.ss g.ask.se
    start_first e = ap (λ b. if b then s.place else effective_ss s.ask.start s.ask.ss s.ask.se) (taken ∙ ap is_some e) ∙ ap (λ (a : StreamAsk). effective_ss a.start a.ss a.se) ask

    start_later : (b : Begun) → g.last ≡ Some b → start_of s ≡ g.place
    start_later b e = ap (λ t. if t then s.place else effective_ss s.ask.start s.ask.ss s.ask.se) (taken ∙ ap is_some e) ∙ place

    need_first : g.last ≡ None → need_of s ≡ effective_se g.ask.start g.ask.ss g.ask.se
    need_first e = ap (λ b. if b then 0 else effective_se s.ask.start s.ask.ss s.ask.se) (taken ∙ ap is_some e) ∙ ap (λ (a : StreamAsk). effective_se a.start a.ss a.se) ask

    -- the marker names the start that its consumer comes from
    pub start_is : (o : Option Begun) → g.last ≡ o → flight_end (marker_start in_one kn.position) feed.flight ≡ start_of s
    start_is None e =
        let a = asks (asks_not e) in
        ap (λ q. flight_end (marker_start q kn.position) feed.flight) (asks_not e) ∙ ap (λ xs. flight_end (fork_of kn.position) xs) (si.none_left (ap is_some e))
        ∙ sym (start_first e ∙ (λ i. effective_ss (a.0 i) (a.1 i) (a.2 i)))
    start_is (Some b) e = flight_start b e feed.flight refl ∙ sym (start_later b e ∙ si.place_is)

    start_lawful : (o : Option Begun) → g.last ≡ o → start_of s ≡ next_marker_start o g
    start_lawful None e = start_first e
    start_lawful (Some b) e = start_later b e

    reach_lawful : (end : ℕ) → need_of s ≤ end → (o : Option Begun) → g.last ≡ o → reach_after o g ≤ end
    reach_lawful end n None e = subst (λ m. m ≤ end) (need_first e) n
    reach_lawful end n (Some b) e = omega arith

    -- a snapshot ends where its consumer relies on its branch at least
    pub reaches : (w : Ground) (u end : ℕ) → need_of s ≤ end → s.place < end → Flight w u (flight_from kn kn.coming) feed.flight → FirstReaches (member_reach kn) feed.flight → kn.position.at ≤ kn.position.se
        → (o : Option Begun) → g.last ≡ o → member_reach kn ≤ end
    reaches w u end n above fl first within None e =
        let a = asks (asks_not e) in
        let same : need_of s ≡ member_reach kn = need_first e ∙ (λ i. effective_se (a.0 i) (a.1 i) (a.2 i)) in omega arith
    reaches w u end n above fl first within (Some b) e =
        let l : member_reach kn ≤ flight_end (flight_from kn kn.coming) feed.flight = behind b e feed.flight refl fl first in
        let p : s.place ≡ flight_end (flight_from kn kn.coming) feed.flight = place ∙ si.place_is in omega arith
      where
        behind : (b : Begun) → g.last ≡ Some b → (xs : List (ℕ × List Change)) → feed.flight ≡ xs → Flight w u (flight_from kn kn.coming) xs → FirstReaches (member_reach kn) xs → member_reach kn ≤ flight_end (flight_from kn kn.coming) xs
        behind b e [] f fl first =
            let z : flight_from kn kn.coming ≡ kn.position.se = from_se kn kn.coming (si.in_one_last (in_one_if b e f)) in
            ⊎_elim (λ c. let k : member_reach kn ≡ kn.position.at = c.1 in omega arith) (λ c. let k : member_reach kn ≡ kn.position.se = c in omega arith) (reach_cases kn.position.ss kn.position.se kn.position.at)
        behind b e (x ∷ more) f fl first =
            let l : member_reach kn ≤ x.0 = first in
            let m : x.0 ≤ flight_end x.0 more = flight_above w u x.0 more fl.2 in omega arith

    -- the marker is lawful
    pub marker_lawful : (tree : List Branch) (items : List Change) (end : ℕ) → g.over ≡ false → length stream.items ≤ stream.next → need_of s ≤ end → Covers items (hist tree (stream_branch g)) s.place end
        → IsMarker tree g (start_of s) end
    marker_lawful tree items end opens l n covers = record {
      opens = opens;
      starts = start_lawful g.last refl;
      behind = whole_if stream g.last si.last l;
      reaches = reach_lawful end n g.last refl;
      whole = (items, subst (λ p. Covers items (hist tree (stream_branch g)) p end) place covers);
    }

-- a consumer to which one more snapshot is on its way
abbrev pub sent_member : Member → Feed → List Change → ℕ → Member
sent_member kn feed items end = record kn { link = Some (record { u = feed.u; log = feed.log; flight = feed.flight ++ (end, items) ∷ []; given = feed.given }) }

-- a vBucket of which the stream took a snapshot up to `end`
abbrev pub moved_vb : Plain → ℕ → ℕ → Plain
moved_vb pv id end = record pv { streams = map (moved_on id end) pv.streams }

-- the stream behind its marker, which ends there
abbrev pub taken_stream : PlainStream → List Change → ℕ → PlainStream
taken_stream stream items end = record stream { items = items; next = 0; marked = Some end; place = end }

-- while a stream puts its snapshots, it does not matter up to where it did whether its vBucket was given up
given_sending : (h : Handing) (given : Option ℕ) (place end : ℕ) → is_sending h ≡ true → GivenIn h given place → GivenIn h given end
given_sending Handing.Unstated given place end e x = x
given_sending Handing.Ceded given place end e x = x
given_sending other given place end e x = cc

pended_sends : (h : Handing) → has_pended h ≡ true → is_sending h ≡ false
pended_sends Handing.Pended e = refl
pended_sends Handing.Due e = refl
pended_sends other e = cc

-- what the lines and the producer tell of the stream, after its marker
marked_stream_begun : {o vb : ℕ} {g : Granted} {stream : PlainStream} {pv : Option Plain} {leader : Member} {feed : Feed} {kn : Member} {in_one : Bool} {h : Handing} (tree : List Branch) (items : List Change) (start end flags : ℕ) (x : Open stream.id g pv leader feed h)
    → StreamAgrees o vb g stream pv leader feed kn in_one h → is_sending h ≡ true → end ≤ top → flight_end (marker_start in_one kn.position) feed.flight ≡ start → length stream.items ≤ stream.next → All ChangeFits items → Covers items (hist tree (stream_branch g)) g.place end → (is_from_disk flags ≡ true → All (IsUnreplaced (hist tree (stream_branch g)) end) items)
    → StreamAgrees o vb (with_begun tree start end flags g) (taken_stream stream items end) (Some (moved_vb x.producer stream.id end)) leader (record { u = feed.u; log = feed.log; flight = feed.flight ++ (end, items) ∷ []; given = feed.given }) (sent_member kn feed items end) in_one h
marked_stream_begun {g = g} {stream} {feed = feed} {kn} {in_one} {h} tree items start end flags x s sending low starts whole fits covers lasts =
    let (y, found, ask, sync, place, taken) = x.opened in
    record {
      put = record { vb_is = s.vb_is; opaque_is = s.opaque_is; no_end = record { until = s.no_end.until; marked = low }; first_is = s.first_is; marked_is = refl; sync_is = s.sync_is; put_place = refl; none_unread = s.none_unread; fits = fits; next_in = omega arith; last = (covers, refl, lasts); log_lines = s.log_lines; front_is = s.front_is };
      opens = λ q. record { producer = moved_vb x.producer stream.id end; producer_is = refl; active = x.active; leads = x.leads; opened = (moved_stream y end, moved_here stream.id end x.producer.streams y found, ask, sync, refl, refl); reached = λ q. never q };
      given_in = given_sending h feed.given g.place end sending s.given_in;
      all_taken = λ q. never (sym sending ∙ pended_sends h q);
      over_ended = s.over_ended;
      coming = snapshot_comes g.coming stream (taken_stream stream items end) feed.flight kn.coming end whole refl s.coming;
      way = record {
        place_is = sym (flight_end_push (flight_from (sent_member kn feed items end) kn.coming) end items feed.flight);
        marks = ap (λ ms. ms ++ (start, end) ∷ []) s.marks ∙ ap (λ k. flight_marks (marker_start in_one kn.position) feed.flight ++ (k, end) ∷ []) (sym starts)
            ∙ sym (marks_push (marker_start in_one kn.position) end items feed.flight);
        in_one_last = s.in_one_last;
        taken_one = λ b. refl;
        none_left = λ b. never b;
        not_in_one = s.not_in_one;
        in_flight = λ b f. absurd (omega (arith, length-append feed.flight ((end, items) ∷ []), ap (λ (xs : List (ℕ × List Change)). length xs) f));
      };
    }

-- the frames of a stream with one more snapshot
frames_more : (o vb : ℕ) (in_one : Bool) (p : Position) (coming : Option (List Change)) (snapshots : List (Bool × (ℕ × List Change))) (items : List Change) (start end : ℕ) (disk : Bool) (front put : List Frame) (f : Frame)
    → flight_end (marker_start in_one p) (flight_of snapshots) ≡ start → f ≡ dcp_frame (SnapshotMarker start end (marker_flags disk)) o vb → front ++ stream_frames o vb [] in_one p coming snapshots ≡ put
    → front ++ stream_frames o vb [] in_one p coming (snapshots ++ (disk, (end, items)) ∷ []) ≡ (put ++ f ∷ []) ++ items_frames o vb items
frames_more o vb in_one p coming snapshots items start end disk front put f starts is old =
    let first : ℕ = marker_start in_one p in let here : List Frame = items_frames o vb (coming_items coming) in
    let there : List Frame = flight_frames o vb [] first snapshots in let last : List Frame = items_frames o vb items in
    let marker : dcp_frame (SnapshotMarker (flight_end first (flight_of snapshots)) end (marker_flags disk)) o vb ≡ f = ap (λ s. dcp_frame (SnapshotMarker s end (marker_flags disk)) o vb) starts ∙ sym is in
    ap (λ fs. front ++ (here ++ fs)) (flight_frames_push o vb first end disk items snapshots ∙ ap (λ m. there ++ (m ∷ last)) marker)
    ∙ ap (λ fs. front ++ fs) (sym (append_assoc here there (f ∷ last)))
    ∙ sym (append_assoc front (here ++ there) (f ∷ last))
    ∙ ap (λ fs. fs ++ (f ∷ last)) old
    ∙ sym (append_assoc put (f ∷ []) last)

-- one more snapshot is on its way, of which the marker was put
pub marker_streaming : {fv : Wants} {kn : Member} {pv pv' : Option Plain} {leader : Member} {g g' : Option Granted} {served : PlainProducer} {asker : PlainConsumer} {up put : List Frame} (t : Streaming fv kn pv leader g served asker up put)
    (tree : List Branch) (items : List Change) (start end : ℕ) (disk : Bool) (f : Frame) (x : Open t.stream.id t.granted_is pv leader t.feed t.handing) → is_sending t.handing ≡ true → t.granted_is.over ≡ false → end ≤ top
    → length t.stream.items ≤ t.stream.next → All ChangeFits items → Covers items (hist tree (stream_branch t.granted_is)) t.granted_is.place end → (disk ≡ true → All (IsUnreplaced (hist tree (stream_branch t.granted_is)) end) items)
    → flight_end (marker_start (is_granted asker.dialed t.seen && not fv.first) kn.position) t.feed.flight ≡ start
    → f ≡ dcp_frame (SnapshotMarker start end (marker_flags disk)) asker.asked asker.dialed.vb → pv' ≡ Some (moved_vb x.producer t.stream.id end) → g' ≡ Some (with_begun tree start end (marker_flags disk) t.granted_is)
    → Streaming fv (sent_member kn t.feed items end) pv' leader g' (record served { streams = taken_stream t.stream items end ∷ [] }) asker up (put ++ f ∷ [])
marker_streaming {fv} {kn} {pv} {leader = leader} {asker = asker} {put = put} t tree items start end disk f x sending opens low whole fits covers lasts starts frame moved given =
    let o : ℕ = asker.asked in let vb : ℕ = asker.dialed.vb in let in_one : Bool = is_granted asker.dialed t.seen && not fv.first in
    let feed : Feed = record { u = t.feed.u; log = t.feed.log; flight = t.feed.flight ++ (end, items) ∷ []; given = t.feed.given } in
    let front : List Frame = drop t.seen (first_answers asker.dialed ++ answer_frame o t.feed.log Go ∷ []) in let one : Bool × (ℕ × List Change) = (disk, (end, items)) in
    let unput_none : t.unput ≡ [] = t.unput_is ∙ ap (items_frames o vb) (drop_whole t.stream.items t.stream.next whole) in
    let none_behind : tail_frames o vb t.handing t.granted_is.over ≡ [] = ap (tail_frames o vb t.handing) opens ∙ sending_tail o vb t.handing sending in
    let old : front ++ stream_frames o vb [] in_one kn.position kn.coming t.snapshots ≡ put =
    sym (ap (λ tail. front ++ stream_frames o vb tail in_one kn.position kn.coming t.snapshots) none_behind) ∙ t.all ∙ ap (λ u. put ++ u) unput_none ∙ append-nil put in
    record {
      granted_is = with_begun tree start end (marker_flags disk) t.granted_is;
      told = given;
      serving = record {
        stream = taken_stream t.stream items end;
        stream_is = ap (λ b. kept_stream b (taken_stream t.stream items end)) (sym opens);
        numbered = t.numbered;
        apart = t.apart;
        server = t.server;
        handing = t.handing;
        gives_is = t.gives_is;
        dialed_so = t.dialed_so;
        acks = t.acks;
        unput = items_frames o vb items;
        unput_is = refl;
        all_put = λ q. never (sym q ∙ opens);
        stated_behind = λ q. never (sym sending ∙ q);
      };
      feed = feed;
      fed = refl;
      sources = record { snapshots = t.snapshots ++ one ∷ []; are = map-append (λ s. s.1) t.snapshots (one ∷ []) ∙ ap (λ xs. xs ++ (end, items) ∷ []) t.are };
      log_fits = t.log_fits;
      seen = t.seen;
      taking = t.taking;
      streams = subst (λ y. StreamAgrees o vb (with_begun tree start end (marker_flags disk) t.granted_is) (taken_stream t.stream items end) y leader feed (sent_member kn t.feed items end) in_one t.handing) (sym moved)
          (marked_stream_begun tree items start end (marker_flags disk) x t.streams sending low starts whole fits covers (λ told. lasts (sym (disk_told disk) ∙ told)));
      all = ap (λ tail. front ++ stream_frames o vb tail in_one kn.position kn.coming (t.snapshots ++ one ∷ [])) none_behind
          ∙ frames_more o vb in_one kn.position kn.coming t.snapshots items start end disk front put f (ap (flight_end (marker_start in_one kn.position)) t.are ∙ starts) frame old;
    }

-- so far as it is handed over
pub marker_handing : {fv : Wants} {kn : Member} {pv pv' : Option Plain} {leader : Member} {g g' : Option Granted} {served : PlainProducer} {asker : PlainConsumer} {up put : List Frame} (t : Streaming fv kn pv leader g served asker up put)
    (tree : List Branch) (items : List Change) (start end : ℕ) (disk : Bool) (f : Frame) (x : Open t.stream.id t.granted_is pv leader t.feed t.handing) (sending : is_sending t.handing ≡ true) (opens : t.granted_is.over ≡ false) (low : end ≤ top)
    (whole : length t.stream.items ≤ t.stream.next) (fits : All ChangeFits items) (covers : Covers items (hist tree (stream_branch t.granted_is)) t.granted_is.place end) (lasts : disk ≡ true → All (IsUnreplaced (hist tree (stream_branch t.granted_is)) end) items)
    (starts : flight_end (marker_start (is_granted asker.dialed t.seen && not fv.first) kn.position) t.feed.flight ≡ start)
    (frame : f ≡ dcp_frame (SnapshotMarker start end (marker_flags disk)) asker.asked asker.dialed.vb) (moved : pv' ≡ Some (moved_vb x.producer t.stream.id end)) (given : g' ≡ Some (with_begun tree start end (marker_flags disk) t.granted_is))
    → (marker_streaming t tree items start end disk f x sending opens low whole fits covers lasts starts frame moved given).handing ≡ t.handing
unfolding marker_streaming
marker_handing t tree items start end disk f x sending opens low whole fits covers lasts starts frame moved given = refl

-- the last of more changes

last_more : (test : Change → Bool) (xs ys : List Change) → last_by test (xs ++ ys) ≡ option_or (last_by test ys) (last_by test xs)
last_more test [] ys = sym (or_none (last_by test ys))
  where
    or_none : (o : Option Change) → option_or o None ≡ o
    or_none None = refl
    or_none (Some c) = refl
last_more test (x ∷ xs) ys = ap (λ o. option_or o (if test x then Some x else None)) (last_more test xs ys) ∙ or_or (last_by test ys) (last_by test xs) (if test x then Some x else None)
  where
    or_or : (a b c : Option Change) → option_or (option_or a b) c ≡ option_or a (option_or b c)
    or_or None b c = refl
    or_or (Some d) b c = refl

-- a snapshot of changes is one of these with others at or below where it goes on from
pub covers_more : (floor : ℕ) (below changes full items : List Change) (from end : ℕ) → full ≡ below ++ changes → Rises 0 floor below → floor ≤ from → Covers items changes from end → Covers items full from end
covers_more floor below changes full items from end parts low l covers = subst (λ h. Covers items h from end) (sym parts) (record {
  goes_on = covers.goes_on;
  remains = record {
    rises = covers.remains.rises;
    of = λ x i. let (c, there, as_) = covers.remains.of x i in (c, in_right c below changes there, as_);
    has = λ slot c e above within. covers.remains.has slot c (later slot c (last_of slot (upto changes end)) refl above (e_of slot c e)) above within;
  };
  reaches = covers.reaches;
})
  where
    e_of : (slot : Slot) (c : Change) → last_of slot (upto (below ++ changes) end) ≡ Some c → option_or (last_of slot (upto changes end)) (last_of slot (upto below end)) ≡ Some c
    e_of slot c e = sym (last_more (touches slot) (upto below end) (upto changes end)) ∙ ap (last_of slot) (sym (upto-append below changes end)) ∙ e

    later : (slot : Slot) (c : Change) (o : Option Change) → last_of slot (upto changes end) ≡ o → from < c.seq → option_or (last_of slot (upto changes end)) (last_of slot (upto below end)) ≡ Some c → last_of slot (upto changes end) ≡ Some c
    later slot c (Some d) is above e = is ∙ sym (ap (λ o. option_or o (last_of slot (upto below end))) is) ∙ e
    later slot c None is above e =
        let old : last_of slot (upto below end) ≡ Some c = sym (ap (λ o. option_or o (last_of slot (upto below end))) is) ∙ e in
        let there = (from_upto c below end (last_in (touches slot) (upto below end) c old).0).0 in
        let most : c.seq ≤ floor = (rises_in 0 floor below c low there).1 in absurd (omega arith)

-- a snapshot that a stream with durable writes takes of a vBucket, and the vBucket after it
pub record SnapshotTaken (vb : Plain) (id : ℕ) (s : Stream) (snapshot : Snapshot) (after : Plain) : Type 0 where
  pub fed : vb.floor ≤ s.place
  pub disk : snapshot.disk ≡ false
  pub covers : Covers snapshot.items vb.held s.place snapshot.end
  pub need : need_of s ≤ snapshot.end
  pub whole : is_whole snapshot.end (all_spans vb.spans) ≡ true
  pub below : snapshot.end ≤ vb.position.at
  pub starts : snapshot.start ≡ start_of s
  pub after_is : after ≡ moved_vb vb id snapshot.end

-- the snapshot up to the end of a span
abbrev pub span_snapshot : Plain → Stream → Span → Snapshot
span_snapshot vb s w = snapshot_of s (items_to s (all_spans vb.spans) vb.held w.last)

-- it is sent as a snapshot, of which the marker starts where the request means, if it is the first one
pub taken_is : TakesSnapshots → (vb : Plain) (id : ℕ) (s : Stream) (w : Span) (t : PlainStream) → t.first ≡ first_of s.ask → is_some t.marked ≡ s.taken → Sound vb → stream_at id vb.streams ≡ Some s → s.sync ≡ true → s.cursor ≡ true
    → end_span s (all_spans vb.spans) vb.held ≡ Some w → SnapshotTaken vb id s (as_sent t (span_snapshot vb s w)) (take_to (Some w) s vb).0
taken_is takes vb id s w t first marked sound found sync near ends =
    let snapshot : Snapshot = span_snapshot vb s w in
    let step : plain_step vb (Take id) ≡ take_to (Some w) s vb = ap (λ o. take_from o vb) found ∙ ap (λ b. take_to (if b then end_span s (all_spans vb.spans) vb.held else None) s vb) near ∙ ap (λ o. take_to o s vb) ends in
    let (s', end, found', is', after) = takes vb id snapshot sound (ap (λ x. x.1.answer) step) in
    let both : Some s' ≡ Some s = sym found' ∙ found in let same : s' ≡ s = cc in
    let is : IsSnapshot vb s end snapshot = subst (λ x. IsSnapshot vb x end snapshot) same is' in
    let full : snapshot.end ≡ end = is.full sync in
    record {
      fed = sound.feeds.cursors id s found near;
      disk = refl;
      covers = covers_sent t.marked t.first snapshot.items vb.held s.place snapshot.end (subst (λ h. Covers snapshot.items h s.place snapshot.end) (ap (λ b. if b then vb.held else plain_view vb.held) sync) is.covers);
      need = let n : need_of s ≤ end = is.reaches in omega arith;
      whole = subst (λ i. is_whole i (all_spans vb.spans) ≡ true) (sym full) is.whole;
      below = let n : snapshot.end ≤ end = is.within.0 in let m : end ≤ vb.position.at = is.within.1 in omega arith;
      starts = ap (start_sent t.marked t.first) is.starts ∙ starts_sent s t first t.marked marked;
      after_is = sym (ap (λ x. x.0) step) ∙ after ∙ ap (λ n. moved_vb vb id n) (sym full);
    }
