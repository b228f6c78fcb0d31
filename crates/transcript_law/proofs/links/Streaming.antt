-- a stream's frames, as its consumer takes them
use Rattle.std.specs.Prelude.{◌≡◌, ◌<◌, ◌≤◌, ◌∷◌, ◌++◌, ◌&&◌, ◌^◌}
use Rattle.dcp_consumer.specs.Machine.{is_streaming}
use Rattle.dcp_producer.specs.Frames.{marker_flags}
use Rattle.transcript_law.proofs.links.{DownAsks.{counted_consumer, waits_last}, Downing.{answered_streams}}
use Rattle.transcript_law.specs.{TakeoverNotes.{is_role_of}, Tellings.{is_of_down}}
use Rattle.transcript_law.proofs.{Words.{eq-eqb}, invariant.Agreement.{flight_marks}, balance.Levels.{Has}, links.{Downing.{EndsSo}, Takes.{PendsIn, is_own_end, took_more, took_of}}, verbs.Tellings.{same_place}}
use Rattle.transcript_law.proofs.Words.{ℕ, Bool, true, false, List, [], map, drop, refl, ap, sym, ◌∙◌, subst, arith, option_map, Option, Some, None, not, is_some, suc, and_parts, length-append}
use Rattle.transcript_law.proofs.Words.{nat_tests, Frame, dcp_frame, Change, EndReason, Event, front, uuid_of, Position, Rises, last_seq, IsOf, HasLast, Covers, hist_rises, hist, Shared, image_of, ground, Linked}
use Rattle.transcript_law.proofs.Words.{stream_branch, above, member_reach, flight_from, Member, Move, SoundCluster, adopted, marked_by, received, keeps, kin_shared, VbCall, VbReply, Plain, plain_step, is_follower, is_answerable}
use Rattle.transcript_law.proofs.Words.{marker_fits, marked_vb, is_next, with_received_change, Call, Ended, lift, after_job, after_job_lift, STATE_CHANGED, with_handshake, DialResult, with_consumer, with_line, over_for}
use Rattle.transcript_law.proofs.{Words.{go_on_with, call_made, frame_taken, ItemLine, Chronicle, with_at, held_more, past_next, past_mark, after_line, after_lines, item_of_change, LawfulLine}, links.Sent.{act_told, change_line}}
use Rattle.transcript_law.proofs.{invariant.Agreement.{change_frame}, lines.Lines.{IsQuiet}, invariant.Seats.{seat, seat_one}, invariant.Agreement.{vb_of, ChangeFits, image_is, AgreesAt, own_history, VbAgrees, ConsumerIs, Streaming, LinkAgrees}}
use Rattle.transcript_law.proofs.{links.Firsts.{Next, first_answers, first_count, next_answer, waits_after}, links.Requests.{answers_count, few_first, waits_streaming}}
use Rattle.transcript_law.proofs.invariant.Agreement.{AckedIs, acked_still, StreamAgrees, is_granted, coming_items, flight_items, ComingIs, items_frames, end_frames, flight_frames, flight_of, marker_start, spoken, Sourced, stream_frames, top, consumer_seat}
use Rattle.transcript_law.proofs.{invariant.Agreement.{wants_of, EndsStand, UpIs, vb_row, vb_contents, DialAgrees}, invariant.Carrying.{TakenOf}, invariant.OneLink.{put_here, put_there, consumer_quiet}, links.Comings.{next_item_line}, links.Rolling.{not_for}}
use Rattle.transcript_law.proofs.{links.AckLines.{due_going}, links.Acknowledging.{due_none, on_stream}, invariant.Tables.{is_dialed, range_here, range_there, at_there, changed_here, changed_there, never}, links.Taken.{next_covers, next_of, next_fits, range_is_lawful, got_is_lawful, go_frame}}
use Rattle.transcript_law.proofs.{links.Taken.{is_none, stream_adopted, stream_marked, stream_received, first_taken, go_taken, marker_taken, change_taken, end_taken}, links.Followed.{came_of, own_is, adopt_is, adopted_agrees}}
use Rattle.transcript_law.proofs.{links.Followed.{received_shelf, marker_is, start_is_fork, start_low, marked_agrees, completes, receive_is, received_agrees}, links.Onward.{IsOnward, Kept}, links.Downing.{put_vb, same_shelves, all_answers, Asker, waits_for, Line, so_far, link_now, now}}
use Rattle.transcript_law.proofs.{links.Downing.{busy_at, Before, Reached, linked, counted, ended, vb_moved, moved_on, vb_here, vb_put, vb_others, next_downs, end_of}, invariant.Carried.{no_writer, talk_same}}
use Rattle.vb_calls.specs.Shelves.{Shelf}
use Rattle.branch_model.specs.Journals.{place_of}
use Rattle.transcript_law.proofs.{invariant.Agreement.{DiskIsIf, shelf_of}, disks.Disks.{ShelfIs, parts_of, sealed_spots, shelf_spanned}, invariant.OneLink.{disk_here, disk_there}, Words.{with_seal}}
use Rattle.{cluster_model.specs.Clusters.{Disk, Names, spanned, spanned_by, NextNames, Stands, set_node, marked_member}, dcp_consumer.specs.Machine.{answered, streaming as streaming_after}, dcp_consumer.specs.declared.handshake.Dialed.{Dialed}, std.proofs.lemmas.List.{drop_all}}
use Rattle.{mcbp_dcp.specs.declared.message.DcpMsg.TheVariants.{SnapshotMarker, StreamEnd}, node_core.specs.Dials.{message_result, adopt_result, due_requested}, std.proofs.lemmas.Bool.{true_from_ne_false}, std.specs.Prelude.{min}}
use Rattle.{vb_events.specs.declared.event.EndReason.TheVariants.{Protocol, State}, vb_events.specs.declared.event.StreamName.TheVariants.{Link}}
use Rattle.vb_events.specs.declared.event.Event.TheVariants as event
use Rattle.vb_calls.specs.declared.calls.VbCall.TheVariants as call
use Rattle.dcp_consumer.specs.declared.handshake.Handshake.TheVariants as waiting
use Rattle.cluster_model.proofs.Prepares.{next_fulfils}
use Rattle.transcript_law.proofs.invariant.Forked.{fork_held}
use Rattle.std.specs.FinMap.{get}
use Rattle.transcript_law.proofs.{invariant.Waiting.{commit_of}, Words.{Act, Doc, Pend, Picture}}
use Rattle.vb_calls.specs.{Following.{completed_act}, State.{pending_of}}
use Rattle.vb_types.specs.declared.change.Act.TheVariants.{Commit}
use Rattle.transcript_law.proofs.invariant.Owing.{later_same}
use Rattle.transcript_law.proofs.invariant.Agreement.{FollowsBy, Handing, follows_in, state_frames, stated_in, tail_frames}
use Rattle.takeover.specs.declared.take_over.TakeOver.{TakeOver}

-- a link with a stream that was granted, before its next frame is taken
pub record Course (line : Line) : Type 0 where
  pub before : Before line
  pub open before use *
  pub heard : (let a = linked line (f ∷ rest) states at events going in spoken a.talk.said ≡ f ∷ spoken (rest ++ a.talk.downs.behind))
  pub streaming : (let a = linked line (f ∷ rest) states at events going in
      Streaming (wants_of a.follower) (going.cluster.nodes (consumer_seat line.link)) (vb_of (now line states at) line.link.server.desk.node line.link.consumer.dialed.vb)
      (going.cluster.nodes (seat line.link.server.desk.node line.link.consumer.dialed.vb)) ((after_lines line.r events).stream_of (Link line.link.consumer.dialed.link) line.link.consumer.dialed.vb)
      line.link.server (end_of line at None) a.talk.asked (spoken a.talk.said))
  pub stated : (after_lines line.r events).stated_of line.link.consumer.dialed.link ≡ stated_in streaming.serving.handing

module _ (line : Line) (course : Course line) where
  -- the vBucket v of the node n is fed by the link l, from the node p, and is the member k; o is the opaque of the request, and `over` whether the stream's end was put
  open line use {w, r, link}
  open line.link.consumer.dialed use {node as n, vb as v, link as l}
  open line.link.server.desk use {node as p}
  open course use {before.{stays, f, rest, states, at, events, met, going, at.{asked as o}, going.{cluster as c}}, streaming, streaming.{feed, snapshots, granted_is.{over}}}

  abbrev pub dial : Dialed
  dial = link.consumer.dialed

  abbrev pub k : ℕ
  k = consumer_seat link

  abbrev pub told : Chronicle
  told = after_lines r events

  abbrev pub mine : LinkAgrees (now line states at) told going.cluster (link_now line at) [] (f ∷ rest)
  mine = linked line (f ∷ rest) states at events going

  open mine use {follower as fv}

  abbrev pub kn : Member
  kn = c.nodes k

  abbrev pub s : DialResult
  s = so_far line at None events

  abbrev pub in_one : Bool
  in_one = is_granted dial streaming.seen && not fv.first

  -- how far the vBucket is handed over, and what is behind the snapshots
  abbrev pub handed : Handing
  handed = streaming.serving.handing

  abbrev pub tail : List Frame
  tail = tail_frames o v handed over

  abbrev behind : List Frame
  behind = stream_frames o v tail in_one kn.position kn.coming snapshots

  -- the frames that are to come behind it, but for those that are dropped
  abbrev pub more : List Frame
  more = spoken (rest ++ mine.talk.downs.behind)

  pub known : states.0 v ≡ Some fv
  known = vb_here line states at fv mine.follower_is

  pub vb : VbAgrees told n v kn fv
  vb = subst (AgreesAt told n v kn) mine.follower_is (going.agrees.vbs n v)

  -- it follows, whatever it was told
  pub follows : is_follower fv.role ≡ true
  follows = follows_in handed fv.role (subst (λ (t : TakeOver). FollowsBy t.last fv.role) streaming.taking.taken_is mine.follows)

  pub quiet : kn.active ≡ false
  quiet = consumer_quiet (busy_at line (f ∷ rest)) (now line states at) told c (link_now line at) [] (f ∷ rest) going.agrees mine follows

  -- the producer is another member
  pub seats_apart : seat p v ≡ k → ⊥
  seats_apart e = streaming.apart (seat_one p v n v e).0

  -- an answer that is only counted
  counted_on : (others : List Frame) → drop streaming.seen (first_answers dial) ≡ f ∷ others → drop (suc streaming.seen) (all_answers dial (go_frame o feed)) ++ behind ≡ more ++ streaming.unput
      → Reached line rest (after_job (frame_taken f s) states.0 states.1)
  counted_on others h e =
      let few : streaming.seen < first_count dial = few_first dial streaming.seen f others h in
      let before : is_granted dial streaming.seen ≡ false = grind (arith, nat_tests) in
      let later : is_granted dial (suc streaming.seen) ≡ false = grind (arith, nat_tests) in
      let same : is_granted dial streaming.seen ≡ is_granted dial (suc streaming.seen) = before ∙ sym later in
      counted line f rest states at (answered dial.buffer at.waiting) events going met (answered_streams dial.buffer at.waiting) (first_taken streaming.seen f others s h streaming.consumer.waits)
      (EndsStand.IsStreaming (record {
        granted_is = streaming.granted_is;
        told = streaming.told;
        serving = streaming.serving;
        feed = feed;
        fed = streaming.fed;
        sources = streaming.sources;
        log_fits = streaming.log_fits;
        seen = suc streaming.seen;
        taking = record {
          not_more = omega arith;
          consumer = counted_consumer line at streaming.seen few streaming.consumer;
          adopted = streaming.adopted ∙ same;
          taken_is = streaming.taken_is;
          flag_is = streaming.flag_is;
          granted_first = λ q. sym same ∙ streaming.granted_first q;
          asks = λ q. streaming.asks (ap (λ b. b && not fv.first) before);
        };
        streams = subst (λ b. StreamAgrees o v streaming.granted_is streaming.stream (vb_of (now line states at) p v) (c.nodes (seat p v)) feed kn (b && not fv.first) handed) same streaming.streams;
        all = ap (λ b. drop (suc streaming.seen) (all_answers dial (go_frame o feed)) ++ stream_frames o v tail (b && not fv.first) kn.position kn.coming snapshots) (sym same) ∙ e;
      }) course.stated)

  -- what a call that was made carries over, where one line tells of it
  module _ (fv' : Plain) (kn' : Member) (at' : Asker) (tell : Event) (role_same : fv'.role ≡ fv.role) (dial_same : (after_line told tell).dial_of l ≡ told.dial_of l) (stated_same : (after_line told tell).stated_of l ≡ told.stated_of l) where
    abbrev states' : Kept
    states' = put_vb states v fv'

    -- where the stream's ends stand then
    abbrev Then : Type 0
    Then = Streaming (wants_of fv') kn' (vb_of (now line states at) p v) (c.nodes (seat p v)) ((after_line told tell).stream_of (Link l) v) link.server (end_of line at' None) mine.talk.asked more

    -- the line, the vBucket and the member go on together
    on_reached : is_role_of n v tell ≡ false → is_of_down l n v tell ≡ true → (PendsIn r dial at.taking events → ⊥) → at'.taking ≡ at.taking → is_streaming at'.waiting ≡ true → (AckedIs (told.stream_of (Link l) v) at.acked → AckedIs ((after_line told tell).stream_of (Link l) v) at'.acked) → (came : Kept × DialResult) → came ≡ after_job (lift (due_requested (so_far line at' None (events ++ tell ∷ [])))) states'.0 states'.1 → IsOnward tell → IsQuiet tell → LawfulLine told tell []
        → TakenOf l n v told (after_line told tell) → (d : Disk) → SoundCluster top (set_node c k kn' d) → VbAgrees (after_line told tell) n v kn' fv'
        → ((shelf : Shelf) → ShelfIs (told.disk_at n v) (c.disks k) shelf (parts_of fv) → ShelfIs ((after_line told tell).disk_at n v) d shelf (parts_of fv')) → UpIs (link_now line at') [] mine.talk.asked → (x : Then) → x.serving.handing ≡ handed → Reached line rest came
    on_reached no_role own unpended told_same granted acks came e o q lawful taken d sound agrees disk ups x still =
        subst (Reached line rest) (sym e) (due_going line rest states' at' (events ++ tell ∷ []) (moved_on line f rest states at at' events fv fv' tell (set_node c k kn' d) going no_role (took_more dial events tell (took_of r dial at.taking events going.tells unpended) own) told_same mine.follower_is follows (ap is_follower role_same ∙ follows) o q lawful taken
        (record { tree = refl; others = λ j ne. put_there c.nodes k kn' j ne; disks = λ j ne. disk_there c.disks k d j ne }) sound (subst (λ y. VbAgrees (after_line told tell) n v y fv') (sym (put_here c.nodes k kn')) agrees)
        (subst (λ y. DiskIsIf ((after_line told tell).disk_at n v) y (shelf_of (now line (put_vb states v fv') at') n v) (Some fv')) (sym (disk_here c.disks k d))
        (subst (λ y. DiskIsIf ((after_line told tell).disk_at n v) d y (Some fv')) (sym (same_shelves line (put_vb states v fv') states refl n v)) (disk_on (shelf_of (now line states at) n v) refl))) (record {
          follower = fv';
          follower_is = vb_put line states states.1 at' fv';
          follows = subst (λ (t : TakeOver). FollowsBy t.last fv'.role) (sym told_same) (subst (FollowsBy at.taking.last) (sym role_same) mine.follows);
          acks = acks mine.acks;
          dial = subst (λ o. DialAgrees o link.server.desk link.consumer.dialed) (sym dial_same) mine.dial;
          talk = talk_same (put_here c.nodes k kn') (vb_others line states states.1 at at' fv' p v (λ e f. streaming.apart e)) (put_there c.nodes k kn' (seat p v) seats_apart) refl refl refl
              (record { asked = mine.talk.asked; said = rest ++ mine.talk.downs.behind; stands = EndsStand.IsStreaming x (stated_same ∙ course.stated ∙ ap stated_in (sym still)); ups = ups; downs = next_downs line at at' f rest mine.talk.said mine.talk.downs });
        })) granted (took_more dial events tell (took_of r dial at.taking events going.tells unpended) own) handed (told_same ∙ streaming.taken_is))
      where
        disk_before : DiskIsIf (told.disk_at n v) (c.disks k) (shelf_of (now line states at) n v) (Some fv)
        disk_before = subst (DiskIsIf (told.disk_at n v) (c.disks k) (shelf_of (now line states at) n v)) mine.follower_is (going.agrees.disks n v)

        disk_on : (o : Option Shelf) → shelf_of (now line states at) n v ≡ o → DiskIsIf ((after_line told tell).disk_at n v) d o (Some fv')
        disk_on None e = absurd (subst (λ y. DiskIsIf (told.disk_at n v) (c.disks k) y (Some fv)) e disk_before)
        disk_on (Some shelf) e = disk shelf (subst (λ y. DiskIsIf (told.disk_at n v) (c.disks k) y (Some fv)) e disk_before)

  -- what a call comes to: what is told of it, and what is due behind it
  came_on : (call : VbCall) (next : Option VbReply → DialResult) (fv' : Plain) (reply : VbReply) → plain_step fv call ≡ (fv', reply)
      → after_job (lift (Call v call (λ y. due_requested (next y)))) states.0 states.1 ≡ after_job (lift (due_requested (next (Some reply)))) (put_vb states v fv').0 states.1
  came_on call next fv' reply q =
      after_job_lift (Call v call (λ y. due_requested (next y))) states.0 states.1 ∙ ap (λ y. ((y.0, states.1), y.1)) (came_of states.0 v call (λ y. due_requested (next y)) fv fv' reply known q)
      ∙ sym (after_job_lift (due_requested (next (Some reply))) (put_vb states v fv').0 states.1)

  -- the frame is refused, and the link is over
  over_reached : (at' : Asker) (why : EndReason) → is_own_end why ≡ true → EndsSo line why events → (call : VbCall) (next : Option VbReply → DialResult) (reply : VbReply) → plain_step fv call ≡ (fv, reply) → next (Some reply) ≡ so_far line at' (Some why) events
      → Reached line rest (after_job (lift (Call v call (λ y. due_requested (next y)))) states.0 states.1)
  over_reached at' why other ending call next reply q e = ended line stays f rest states (put_vb states v fv) at at' events why (after_job (lift (Call v call (λ y. due_requested (next y)))) states.0 states.1) going other ending
      (came_on call next fv reply q ∙ ap (λ y. after_job (lift (due_requested y)) (put_vb states v fv).0 states.1) e ∙ ap (λ y. after_job (lift y) (put_vb states v fv).0 states.1) (due_none (so_far line at' (Some why) events) refl)) (λ m q. vb_moved line states states.1 at at fv m q (λ e t. sym known ∙ ap states.0 (sym t))) refl

  -- behind all answers, also to the request for the stream
  abbrev pub last : ℕ
  last = suc (first_count dial)

  pub granted_last : is_granted dial last ≡ true
  granted_last = grind (arith, nat_tests)

  pub none_behind : drop last (all_answers dial (go_frame o feed)) ≡ []
  none_behind = drop_all last (all_answers dial (go_frame o feed)) (omega (arith, length-append (first_answers dial) (go_frame o feed ∷ []), answers_count dial))

  -- the stream's answer: the log is taken over

  adopt_on : streaming.seen ≡ first_count dial → behind ≡ more ++ streaming.unput → (b : Bool) → is_answerable feed.log ≡ b → Reached line rest (after_job (lift (go_on_with feed.log s)) states.0 states.1)
  unfolding go_on_with
  adopt_on all e false a = over_reached at Protocol refl tt (call.Adopt feed.log) (adopt_result feed.log s) _ (adopt_is fv feed.log false follows a) refl
  adopt_on all e true a =
      let fv' : Plain = record fv { log = feed.log; first = true } in let kn' : Member = adopted kn (Some feed) in
      let early : is_granted dial streaming.seen ≡ false = grind (arith, nat_tests, all) in let start : in_one ≡ false = ap (λ b. b && not fv.first) early in
      let none : kn.coming ≡ None = is_none kn.coming (streaming.adopted ∙ early) in
      let joined : Shared c.tree kn.br feed.u (member_reach kn) = kin_shared (ground c) kn.br feed.u (member_reach kn) (subst (λ y. Linked (ground c) kn y (Some feed)) none (subst (Linked (ground c) kn kn.coming) streaming.fed (going.agrees.sound.stands k).linked)).0.0 in
      let at' : Asker = waits_for at waiting.Streaming in
      let asks : at.waiting ≡ waiting.Asking = waits_last line at streaming.seen all streaming.consumer in
      on_reached fv' kn' at' (event.Adopted n v feed.log) refl refl refl refl (same_place n v) (λ p. let z : false ≡ true = sym early ∙ streaming.granted_first (sym streaming.taken_is ∙ (λ i. record { last = p.last i })) in cc) refl refl (λ x. x) (after_job (lift (go_on_with feed.log s)) states.0 states.1)
      (came_on (call.Adopt feed.log) (adopt_result feed.log s) fv' _ (adopt_is fv feed.log true follows a)
      ∙ ap (λ h. after_job (lift (due_requested (with_line (with_consumer s (with_handshake s.dial.consumer (streaming_after h))) (event.Adopted n v feed.log)))) (put_vb states v fv').0 states.1) asks) tt tt
      (l, p, streaming.granted_is, mine.dialed, streaming.told, sym streaming.streams.log_lines)
      (record {
        last = later_same _ _ refl refl;
        tree = refl;
        writer_of = λ u. refl;
        clients = λ m c. refl;
        rows = λ m q ne i. record (vb_row told m q) { contents = record (vb_contents told m q) { branch = at_there told.branch_at n v (option_map (λ y. y.uuid) (front feed.log)) m q ne i; log = at_there told.log_at n v (Some feed.log) m q ne i } };
        dials = λ j ne. refl;
        states = λ j ne. refl;
        streams = λ j q ne other. refl;
        points = λ j ne other. refl;
      })
      (c.disks k)
      (subst (λ y. SoundCluster top (set_node c k (adopted kn y) (c.disks k))) streaming.fed (keeps top c (Move.Adopt k) going.agrees.sound (quiet, none)))
      (adopted_agrees stays told c going.agrees.hists going.agrees.rootless n v kn fv feed vb follows a streaming.entries (ap (λ x. uuid_of (front x)) (sym streaming.streams.log_lines) ∙ streaming.streams.front_is) joined)
      (λ shelf x. x)
      mine.talk.ups
      (record {
        granted_is = streaming.granted_is;
        told = streaming.told;
        serving = streaming.serving;
        feed = feed;
        fed = refl;
        sources = streaming.sources;
        log_fits = streaming.log_fits;
        seen = last;
        taking = record {
          not_more = omega arith;
          consumer = record { waits = sym (waits_streaming dial); small = streaming.consumer.small };
          adopted = sym granted_last;
          taken_is = streaming.taken_is;
          flag_is = streaming.flag_is;
          granted_first = λ q. granted_last;
          asks = λ q. streaming.asks start;
        };
        streams = subst (λ b. StreamAgrees o v streaming.granted_is streaming.stream (vb_of (now line states at) p v) (c.nodes (seat p v)) feed kn' b handed) (sym (ap (λ b. b && not fv'.first) granted_last)) (stream_adopted none
            (subst (λ b. StreamAgrees o v streaming.granted_is streaming.stream (vb_of (now line states at) p v) (c.nodes (seat p v)) feed kn b handed) start streaming.streams));
        all = (λ i. none_behind i ++ stream_frames o v tail (granted_last i && not fv'.first) kn.position (Some []) snapshots)
            ∙ sym (ap (λ y. stream_frames o v tail in_one kn.position y snapshots) none ∙ ap (λ b. stream_frames o v tail b kn.position None snapshots) start) ∙ e;
      })
      refl

  adopt_next : streaming.seen ≡ first_count dial → go_frame o feed ≡ f → behind ≡ more ++ streaming.unput → Reached line rest (after_job (frame_taken f s) states.0 states.1)
  adopt_next all h e = subst (λ y. Reached line rest (after_job (frame_taken y s) states.0 states.1)) h
      (subst (λ y. Reached line rest (after_job y states.0 states.1)) (sym (go_taken feed.log s streaming.short streaming.entries (waits_last line at streaming.seen all streaming.consumer)))
      (adopt_on all e (is_answerable feed.log) refl))

  -- the position lies in its snapshot
  pub position_within : (kn.position.ss ≤ kn.position.at) × (kn.position.at ≤ kn.position.se) × (kn.position.se ≤ 2 ^ 48)
  position_within = subst (λ q. (q.ss ≤ q.at) × (q.at ≤ q.se) × (q.se ≤ 2 ^ 48)) (sym vb.member.position) (vb.sound.within.0, vb.sound.within.1, vb.sound.capped)

  -- once it took the log over, it is on the stream's branch
  pub on_it : is_some kn.coming ≡ true → told.branch_at n v ≡ Some (stream_branch streaming.granted_is)
  on_it adopted = on_stream (ground c) kn feed (told.branch_at n v) (going.agrees.sound.stands k) streaming.fed adopted vb.branch (λ e. vb.member.log ∙ vb.unlogged e) ∙ ap Some (sym streaming.streams.front_is)

  -- a marker: the next snapshot begins

  abbrev start : ℕ
  start = marker_start in_one kn.position

  covers : (x : ℕ × List Change) (later : List (ℕ × List Change)) → feed.flight ≡ x ∷ later → Covers x.1 (hist c.tree feed.u) (flight_from kn kn.coming) x.0 × (x.0 ≤ 2 ^ 48)
  covers x later e = next_covers (busy_at line (f ∷ rest)) (now line states at) told c k feed going.agrees streaming.fed x later e

  -- the first item that was put and not taken is that of the next change
  abbrev NextTold : Change → List Change → Type 0
  NextTold x later = (items : List ItemLine) × (streaming.granted_is.coming ≡ item_of_change x ∷ items) × (map item_of_change (later ++ flight_items feed.flight) ≡ items ++ map item_of_change (drop streaming.stream.next streaming.stream.items))

  pub granted_now : streaming.seen ≡ last → at.waiting ≡ waiting.Streaming
  granted_now all = streaming.consumer.waits ∙ ap (waits_after dial) all ∙ waits_streaming dial

  consumer_now : streaming.seen ≡ last → ConsumerIs (end_of line at None) last
  consumer_now all = record { waits = granted_now all ∙ sym (waits_streaming dial); small = streaming.consumer.small }

  marker_on : (x : ℕ × List Change) (later : List (ℕ × List Change)) (behind : Sourced later) → streaming.seen ≡ last → kn.coming ≡ Some [] → feed.flight ≡ x ∷ later → items_frames o v x.1 ++ flight_frames o v tail x.0 behind.snapshots ≡ more ++ streaming.unput
      → (b : Bool) → marker_fits fv.position fv.first start x.0 ≡ b → Reached line rest (after_job (lift (call_made (call.Marker start x.0) s)) states.0 states.1)
  unfolding call_made
  marker_on x later behind all none flight e false a = over_reached at Protocol refl tt (call.Marker start x.0) (message_result s) _ (marker_is fv start x.0 false follows a) refl
  marker_on x later behind all none flight e true a =
      let fv' : Plain = marked_vb fv start x.0 in let kn' : Member = marked_by kn feed (x ∷ later) in let whole = covers x later flight in
      let from : flight_from kn kn.coming ≡ kn.position.at = ap (flight_from kn) none in
      let above : kn.position.at < x.0 = subst (λ y. y < x.0) from whole.0.goes_on in
      let inside : (is_granted dial last && not fv'.first) ≡ true = ap (λ b. b && not fv'.first) granted_last in
      let ends : last_seq kn.position.at x.1 ≡ x.0 = subst (λ y. last_seq y x.1 ≡ x.0) from whole.0.reaches in
      on_reached fv' kn' at (event.Ranged n v (min start fv.position.at) x.0) refl refl refl refl (same_place n v) (λ p. let z : [] ≡ flight_marks start (x ∷ later) = sym (p.none streaming.granted_is streaming.told).1 ∙ streaming.streams.marks ∙ ap (flight_marks start) flight in cc) refl (ap is_streaming (granted_now all)) (acked_still _ past_mark (told.stream_of (Link l) v) at.acked (λ g. refl)) (after_job (lift (call_made (call.Marker start x.0) s)) states.0 states.1)
      (came_on (call.Marker start x.0) (message_result s) fv' _ (marker_is fv start x.0 true follows a)) tt tt
      (range_is_lawful (busy_at line (f ∷ rest)) (now line states at) told c k feed going.agrees streaming.fed n v l p fv.position.at streaming.granted_is mine.dialed streaming.told streaming.streams.front_is
      (ap (last_seq 0) vb.held ∙ vb.high) (on_it (ap is_some none)) start x later streaming.streams.marks flight (subst (λ (q : Position). q.at < x.0) vb.member.position above))
      (record { last = later_same _ _ refl refl; tree = refl; writer_of = λ u. refl; clients = λ m c. refl; rows = λ m q ne i. record (vb_row told m q) { opened = at_there told.open_at n v false m q ne i; contents = record (vb_contents told m q) { snap = at_there told.snap_at n v (Some (min start fv.position.at, x.0)) m q ne i } }; dials = λ j ne. refl; states = λ j ne. refl; streams = λ j q ne other. range_there told n v (min start fv.position.at) x.0 j q (not_for n v (told.dial_of j) other); points = λ j ne other. refl })
      (c.disks k)
      (subst (λ xs. SoundCluster top (set_node c k (marked_by kn feed xs) (c.disks k))) flight
      (subst (λ y. SoundCluster top (set_node c k (marked_member kn y) (c.disks k))) streaming.fed (keeps top c (Move.Marker k) going.agrees.sound (quiet, none))))
      (marked_agrees stays told n v kn fv feed x later start vb follows a (start_is_fork kn.position in_one position_within.0 (λ q. sym (ap (λ o. last_seq kn.position.at (coming_items o)) none) ∙ streaming.streams.in_one_last q)) above)
      (λ shelf x. shelf_spanned (with_seal fv.spans) x refl refl refl (sealed_spots (place_of (c.disks k).book).at fv.spans (c.disks k).stood x.spots))
      mine.talk.ups
      (record {
        granted_is = past_mark streaming.granted_is;
        told = range_here told l p n v (min start fv.position.at) x.0 mine.dialed ∙ ap (option_map past_mark) streaming.told;
        serving = streaming.serving;
        feed = record feed { flight = later };
        fed = refl;
        sources = behind;
        log_fits = streaming.log_fits;
        seen = last;
        taking = record { not_more = omega arith; consumer = consumer_now all; adopted = sym granted_last; taken_is = streaming.taken_is; flag_is = streaming.flag_is; granted_first = λ q. granted_last; asks = λ q. never (sym inside ∙ q) };
        streams = subst (λ b. StreamAgrees o v (past_mark streaming.granted_is) streaming.stream (vb_of (now line states at) p v) (c.nodes (seat p v)) (record feed { flight = later }) kn' b handed) (sym inside)
            (stream_marked x later in_one none flight above ends streaming.streams);
        all = (λ i. none_behind i ++ stream_frames o v tail (inside i) kn'.position kn'.coming behind.snapshots) ∙ e;
      })
      refl

  marker_next : (disk : Bool) (x : ℕ × List Change) (later : List (Bool × (ℕ × List Change))) → streaming.seen ≡ last → kn.coming ≡ Some [] → feed.flight ≡ x ∷ flight_of later
      → flight_frames o v tail start ((disk, x) ∷ later) ≡ f ∷ (more ++ streaming.unput) → Reached line rest (after_job (frame_taken f s) states.0 states.1)
  marker_next disk x later all none flight e =
      let same : dcp_frame (SnapshotMarker start x.0 (marker_flags disk)) o v ≡ f = cc in let low : x.0 ≤ 2 ^ 48 = (covers x (flight_of later) flight).1 in
      subst (λ y. Reached line rest (after_job (frame_taken y s) states.0 states.1)) same
      (subst (λ y. Reached line rest (after_job y states.0 states.1)) (sym (marker_taken start x.0 disk o v s (start_low kn.position in_one position_within.0 position_within.1 position_within.2) (omega arith) (granted_now all)))
      (marker_on x (flight_of later) (record { snapshots = later; are = refl }) all none flight (ap (drop 1) e) (marker_fits fv.position fv.first start x.0) refl))

  -- what waits at a key, in the vBucket and in its member
  waits_at : (key : List ℕ) → pending_of fv key ≡ get (image_of kn.held).pending key
  waits_at key = ap (λ (i : Picture). get i.pending key) (image_is vb.kept)

  -- a commit that is completed names the prepare that waits at its key
  waiting_named : (x : Change) (act : Act) → completed_act (pending_of fv x.key) (act_told x.act) ≡ Some act → Names (image_of kn.held) x
  waiting_named x act d number doc deleted q =
      let y = commit_of number (pending_of fv x.key) act (ap (λ b. completed_act (pending_of fv x.key) (act_told b)) (sym q) ∙ d) in
      (y.pend, sym (waits_at x.key) ∙ y.is, y.named)

  -- and that prepare has its document
  waiting_fulfilled : (x : Change) (later : List Change) → kn.coming ≡ Some (x ∷ later) → Names (image_of kn.held) x → (number : ℕ) (doc : Doc) (deleted : Bool) → x.act ≡ Commit number doc deleted
      → (e : Pend) × (pending_of fv x.key ≡ Some e) × (e.seq ≡ number) × (e.doc ≡ doc) × (e.deleted ≡ deleted)
  waiting_fulfilled x later coming names number doc deleted q =
      let sound = going.agrees.sound in
      let g = next_fulfils top (hist c.tree kn.br) (above kn.held kn.position.ss) later kn.position.ss kn.position.se kn.position.at (image_of kn.held) x (hist_rises top c.tree kn.br sound.grows) (sound.prepared kn.br)
      (sound.stands k).follows (next_of (busy_at line (f ∷ rest)) (now line states at) told c k feed going.agrees streaming.fed x later coming) names number doc deleted q in
      (g.0, waits_at x.key ∙ g.1, g.2, g.3, g.4)

  -- a change comes inside a snapshot

  receive_on : (x : Change) (later : List Change) → streaming.seen ≡ last → kn.coming ≡ Some (x ∷ later) → ChangeFits x → items_frames o v later ++ flight_frames o v tail start snapshots ≡ more ++ streaming.unput
      → (b : Bool) → is_next fv.position x.seq ≡ b → (o : Option Act) → completed_act (pending_of fv x.key) (act_told x.act) ≡ o → Reached line rest (after_job (lift (call_made (call.Receive (change_line x)) s)) states.0 states.1)
  unfolding call_made
  receive_on x later all coming fits e false a o d = over_reached at Protocol refl tt (call.Receive (change_line x)) (message_result s) _ (receive_is fv x false o follows a d) refl
  receive_on x later all coming fits e true a None d = over_reached at Protocol refl tt (call.Receive (change_line x)) (message_result s) _ (receive_is fv x true None follows a d) refl
  receive_on x later all coming fits e true a (Some act) d =
      let names : Names (image_of kn.held) x = waiting_named x act d in
      let done : completed_act (pending_of fv x.key) (act_told x.act) ≡ Some x.act = d ∙ ap Some (completes x.act act (pending_of fv x.key) (waiting_fulfilled x later coming names) d) in
      let fv' : Plain = (with_received_change fv x).0 in let kn' : Member = received kn (Some (x ∷ later)) in
      let up : fv.position.at < x.seq = grind (arith, nat_tests, a) in
      let inside : in_one ≡ true = true_from_ne_false in_one (λ q. let none : x ∷ later ≡ [] = sym (ap coming_items coming) ∙ streaming.streams.not_in_one q in cc) in
      let begun : (is_granted dial last && not fv.first) ≡ true = ap (λ b. b && not fv.first) granted_last ∙ (and_parts (is_granted dial streaming.seen) (not fv.first) inside).1 in
      let next : NextTold x later = next_item_line o v start handed over streaming.stream x later more streaming.unput streaming.unput_is streaming.all_put streaming.stated_behind snapshots feed.flight streaming.are streaming.granted_is.coming
      (subst (ComingIs streaming.granted_is.coming streaming.stream feed.flight) coming streaming.streams.coming) e in
      let told' : Chronicle = record told { held = held_more told n v x; open_at = with_at told.open_at n v true } in
      let disk : Disk = spanned_by (c.disks k) kn (Some (x ∷ later)) in
      let kept : SoundCluster top (set_node c k kn' disk) =
      subst (λ y. SoundCluster top (set_node c k (received kn y) (spanned_by (c.disks k) kn y))) coming
      (keeps top c (Move.Receive k) going.agrees.sound (quiet, subst (NextNames (image_of kn.held)) (sym coming) names)) in
      let own : hist c.tree kn.br ≡ own_history told n v = own_is told c n v kn going.agrees.hists going.agrees.rootless vb.branch in
      let points_of_branch : IsOf (own_history told n v) x = subst (λ h. IsOf h x) own (next_of (busy_at line (f ∷ rest)) (now line states at) told c k feed going.agrees streaming.fed x later coming) in
      let followed : HasLast (above kn'.held kn'.position.ss) (own_history told n v) kn'.position.ss kn'.position.at kn'.position.se =
      subst (λ h. HasLast (above kn'.held kn'.position.ss) h kn'.position.ss kn'.position.at kn'.position.se) own (subst (λ y. Stands (ground c) y) (put_here c.nodes k kn') (kept.stands k)).follows.has in
      on_reached fv' kn' at (event.Got n v (Link l) x) refl refl refl refl (λ i. eq-eqb l l refl i && same_place n v i) (λ p. let z : [] ≡ item_of_change x ∷ next.0 = sym (p.none streaming.granted_is streaming.told).0 ∙ next.1 in cc) refl (ap is_streaming (granted_now all)) (acked_still _ past_next (told.stream_of (Link l) v) at.acked (λ g. refl)) (after_job (lift (call_made (call.Receive (change_line x)) s)) states.0 states.1)
      (came_on (call.Receive (change_line x)) (message_result s) fv' _ (receive_is fv x true (Some x.act) follows a done)) tt tt
      (got_is_lawful (busy_at line (f ∷ rest)) (now line states at) told c k feed going.agrees streaming.fed n v l p fv.position.at streaming.granted_is mine.dialed streaming.told streaming.streams.front_is
      (ap (last_seq 0) vb.held ∙ vb.high) (on_it (ap is_some coming)) x later coming up next.0 next.1)
      (record { last = later_same _ _ refl refl; tree = refl; writer_of = λ u. refl; clients = λ m c. refl; rows = λ m q ne i. record (vb_row told m q) { opened = at_there told.open_at n v true m q ne i; contents = record (vb_contents told m q) { held = at_there told.held n v (told.held n v ++ x ∷ []) m q ne i } }; dials = λ j ne. refl; states = λ j ne. refl; streams = λ j q ne other. changed_there told' l past_next j q ne; points = λ j ne other. refl })
      disk
      kept
      (received_agrees stays told n v kn fv x later vb follows a fits done points_of_branch (subst (Rises 0 top) own (hist_rises top c.tree kn.br going.agrees.sound.grows)) (fork_held c k (own_history told n v) fv.position going.agrees.sound own vb.member.position) followed)
      (λ shelf y. subst (λ q. ShelfIs (told.disk_at n v) (spanned (c.disks k) q) shelf (parts_of fv')) (λ i. record { ss = (sym vb.member.position i).ss; se = (sym vb.member.position i).se; at = x.seq }) (received_shelf fv x (no_writer fv.role follows) vb.spanned y))
      mine.talk.ups
      (record {
        granted_is = past_next streaming.granted_is;
        told = changed_here told' l v past_next (is_dialed (told.dial_of l) p n v mine.dialed) ∙ ap (option_map past_next) streaming.told;
        serving = streaming.serving;
        feed = feed;
        fed = streaming.fed;
        sources = streaming.sources;
        log_fits = streaming.log_fits;
        seen = last;
        taking = record { not_more = omega arith; consumer = consumer_now all; adopted = sym granted_last; taken_is = streaming.taken_is; flag_is = streaming.flag_is; granted_first = λ q. granted_last; asks = λ q. never (sym begun ∙ q) };
        streams = subst (λ b. StreamAgrees o v (past_next streaming.granted_is) streaming.stream (vb_of (now line states at) p v) (c.nodes (seat p v)) feed kn' b handed) (sym begun)
            (stream_received x later coming next
            (subst (λ b. StreamAgrees o v streaming.granted_is streaming.stream (vb_of (now line states at) p v) (c.nodes (seat p v)) feed kn b handed) inside streaming.streams));
        all = (λ i. none_behind i ++ (items_frames o v later ++ flight_frames o v tail (marker_start (begun i) kn'.position) snapshots))
            ∙ sym (ap (λ b. items_frames o v later ++ flight_frames o v tail (marker_start b kn.position) snapshots) inside) ∙ e;
      })
      refl

  receive_next : (x : Change) (later : List Change) → streaming.seen ≡ last → kn.coming ≡ Some (x ∷ later) → items_frames o v (x ∷ later) ++ flight_frames o v tail start snapshots ≡ f ∷ (more ++ streaming.unput)
      → Reached line rest (after_job (frame_taken f s) states.0 states.1)
  receive_next x later all coming e =
      let fits : ChangeFits x = next_fits (busy_at line (f ∷ rest)) (now line states at) told c k feed going.agrees streaming.fed x later coming in
      let frames : change_frame o v x ∷ (items_frames o v later ++ flight_frames o v tail start snapshots) ≡ f ∷ (more ++ streaming.unput) = e in
      let same : change_frame o v x ≡ f = cc in
      subst (λ y. Reached line rest (after_job (frame_taken y s) states.0 states.1)) same
      (subst (λ y. Reached line rest (after_job y states.0 states.1)) (sym (change_taken x x.act o v s fits refl (granted_now all)))
      (receive_on x later all coming fits (ap (drop 1) frames) (is_next fv.position x.seq) refl (completed_act (pending_of fv x.key) (act_told x.act)) refl))

  -- the stream's end: the link is over
  end_next : streaming.seen ≡ last → (b : Bool) → over ≡ b → end_frames o v STATE_CHANGED b ≡ f ∷ (more ++ streaming.unput) → Reached line rest (after_job (frame_taken f s) states.0 states.1)
  end_next all false q h = never (let z : [] ≡ f ∷ (more ++ streaming.unput) = h in cc)
  end_next all true q h =
      let same : dcp_frame (StreamEnd STATE_CHANGED) o v ≡ f = cc in
      ended line stays f rest states states at at events State (after_job (frame_taken f s) states.0 states.1) going refl (record { opaque = o; at_vb = v; frame = subst (λ y. Has y line.all) (sym same) course.among; stream = streaming.granted_is; told = streaming.told; over = q })
      (ap (λ y. after_job y states.0 states.1) (subst (λ y. frame_taken y s ≡ Ended (over_for State s)) same (end_taken o v s (granted_now all)))) (λ m q. refl) refl

  -- a state that is next: behind it stands the stream's end at most
  abbrev pub StateNext : Handing → Type 0
  StateNext given = handed ≡ given → streaming.seen ≡ last → kn.coming ≡ Some [] → feed.flight ≡ [] → state_frames o v given ++ end_frames o v STATE_CHANGED over ≡ f ∷ (more ++ streaming.unput) → Reached line rest (after_job (frame_taken f s) states.0 states.1)

  module _ (pends : StateNext Handing.Offered) (owns : StateNext Handing.Stated) where
    -- what is behind the snapshots
    tail_next : (given : Handing) → handed ≡ given → streaming.seen ≡ last → kn.coming ≡ Some [] → feed.flight ≡ [] → tail_frames o v given over ≡ f ∷ (more ++ streaming.unput) → Reached line rest (after_job (frame_taken f s) states.0 states.1)
    tail_next Handing.Offered is all none empty e = pends is all none empty e
    tail_next Handing.Stated is all none empty e = owns is all none empty e
    tail_next Handing.Unstated is all none empty e = end_next all over refl e
    tail_next Handing.Pended is all none empty e = end_next all over refl e
    tail_next Handing.Due is all none empty e = end_next all over refl e
    tail_next Handing.Ceded is all none empty e = end_next all over refl e

    -- a frame behind the answers
    stream_next : streaming.seen ≡ last → behind ≡ f ∷ (more ++ streaming.unput) → Reached line rest (after_job (frame_taken f s) states.0 states.1)
    stream_next all e = by kn.coming refl snapshots refl
      where
        by : (o' : Option (List Change)) → kn.coming ≡ o' → (xs : List (Bool × (ℕ × List Change))) → snapshots ≡ xs → Reached line rest (after_job (frame_taken f s) states.0 states.1)
        by None q xs fl = never (sym granted_last ∙ sym (ap (is_granted dial) all) ∙ sym streaming.adopted ∙ ap is_some q)
        by (Some []) q [] fl = tail_next handed refl all q (sym streaming.are ∙ ap flight_of fl) (sym ((λ i. stream_frames o v tail in_one kn.position (q i) (fl i))) ∙ e)
        by (Some []) q (s ∷ later) fl = marker_next s.0 s.1 later all q (sym streaming.are ∙ ap flight_of fl) (sym ((λ i. stream_frames o v tail in_one kn.position (q i) (fl i))) ∙ e)
        by (Some (x ∷ later)) q xs fl = receive_next x later all q (sym (ap (λ y. stream_frames o v tail in_one kn.position y snapshots) q) ∙ e)

    -- the next frame of a link with a stream
    pub streaming_next : Reached line rest (after_job (frame_taken f s) states.0 states.1)
    streaming_next = by (next_answer (first_answers dial) (first_count dial) (go_frame o feed) f behind (more ++ streaming.unput) streaming.seen (answers_count dial) streaming.not_more (streaming.all ∙ ap (λ x. x ++ streaming.unput) course.heard))
      where
        by : Next (first_answers dial) (first_count dial) (go_frame o feed) f behind (more ++ streaming.unput) streaming.seen → Reached line rest (after_job (frame_taken f s) states.0 states.1)
        by (Next.IsFirst others h e) = counted_on others h e
        by (Next.IsLast all h e) = adopt_next all h e
        by (Next.IsBehind all e) = stream_next all e
