-- one frame of a link's producer: an item, the marker of the next snapshot, a state, the stream's end, or nothing
use Rattle.std.specs.Prelude.{◌≡◌, ◌+◌, ◌<◌, ◌≤◌, ◌++◌, if◌then◌else◌, ◌∷◌, ◌&&◌, ◌^◌}
use Rattle.transcript_law.proofs.Words.{All, All-nil, Granted, ℕ, Bool, true, false, [], length, refl, ap, sym, ◌∙◌, subst, List, Option, Some, None, slice_get, Frame, Event}
use Rattle.transcript_law.proofs.Words.{DcpMsg, dcp_frame, Change, StreamName, Member, Cluster, TakesSnapshots, Turn, after, row_at, row_put, States, past_item, item_line, act_message}
use Rattle.transcript_law.proofs.Words.{STATE_CHANGED, Halt, PlainStream, Served, PlainLink, link_number, producer_node, consumer_node, PlainNode, PlainWorld, Role, StreamAsk}
use Rattle.transcript_law.proofs.Words.{Chronicle, is_dial_of, with_item, finished, after_lines, item_of_change, Readable, inl, inr, ⊎_elim, arith, nat_tests, is_some, not, eq-eqb, ne_eqb}
use Rattle.transcript_law.proofs.Words.{Position, Snapshot, Covers, effective_se, fork_of, hist, hist_rises, Rises, ground, Move, SoundCluster, Linked, happens, flight_from, flight_end, start_cases, keeps, VbReply, Stream, Span}
use Rattle.transcript_law.proofs.Words.{Plain, all_spans, stream_at, end_span, is_active, take_to, take_from, with_vb_at, call_at, stream_branch, with_begun, IsMarker, LawfulMark}
use Rattle.transcript_law.proofs.invariant.Agreement.{acked_still, vb_of, is_granted, is_refused_ack, spoken, FeederIn, FollowsBy, Handing, follows_in, gives_in, is_sending, stated_in, kept_stream, Streaming, consumer_seat, producer_seat, LinkAgrees, IsLow, idle, AgreesIn, wants_of, EndsStand, own_history, VbAgrees}
use Rattle.transcript_law.proofs.{invariant.Agreement.{AgreesAt, Open, top}, invariant.Noted.{CameIf, KeptFor, NotedStream}, invariant.OneLink.{carries_producer, disk_here, disk_there}}
use Rattle.transcript_law.proofs.{links.Sent.{end_readable, marker_readable}, links.Putting.{StatesNext, begun_of, sent_is_told, item_handing, item_streaming, end_handing, end_streaming, item_readable, state_gives, stated_stream}, links.Marking.{whole_if, items_fit, moved_there}}
use Rattle.transcript_law.proofs.{links.Marking.{covers_more, moved_vb, sent_member, taken_stream, start_is, reaches, marker_handing, marker_lawful, marker_streaming, SnapshotTaken, taken_is, span_snapshot}, links.PumpWorlds.{others_stream, LinkKnown, OwnedBy, owned_one, kept_one, noted_one, pumped_shelves, served_link, pumped, so_far_again, stepped_one, SoFar}}
use Rattle.transcript_law.proofs.{links.PutFrames.{dialed_vb, downs_with, end_with, found_here, given_as, link_with, named, numbered, put_agrees, put_with, relinked_twice, stands_with}, links.StateTurns.{handed_is, marked_in, turned_is, state_so_far, stated_next, takes_none, waits_on, waits_saved, waits_state}}
use Rattle.transcript_law.proofs.{links.Spoken.{message_spoken}, links.PumpWorlds.{TurnsSoFar, told_stream, so_far_more, pumped_here, pumped_powers, pumped_where, once_same, twice_here, twice_there, twice_same}, links.Windows.{so_far_turned}, invariant.Seats.{seat_one}}
use Rattle.transcript_law.proofs.{links.Followed.{own_is}, invariant.Forked.{held_covers}, invariant.Carrying.{Changed, Became, FedMember, FeedChanged, NoNewStream}, invariant.Carried.{sound_streams, no_writer, talk_same}}
use Rattle.{cluster_model.specs.Clusters.{MaySend, sent}, dcp_producer.specs.declared.next_frame.Waits.{Waits}, dcp_producer.specs.Firsts.{as_sent, first_of}, dcp_producer.specs.Frames.{Next, act_sent, alive_next, none_next, close_sent, item_next, marker_flags, marker_next, next_by, over, place_requested, place_said, placed_next, quiet, reaches_end, take_answered, taken_next}}
use Rattle.{dcp_producer.proofs.OneStream.{one_came}, dcp_producer.specs.Pulling.{Pulling}, dcp_producer.specs.declared.desk.Desk.{Desk}, mcbp_dcp.specs.declared.message.DcpMsg.TheVariants.{SetVbucketState, SnapshotMarker, StreamEnd}, std.proofs.lemmas.Bool.{false_from_ne_true}, takeover.specs.declared.take_over.TakeOver.{TakeOver}}
use Rattle.{transcript_law.specs.Chronicles.{with_changed}, transcript_law.specs.Lawfulness.{line_act}, vb_calls.specs.Streams.{is_in_memory, place_from, placed_by}, vbucket.proofs.Fed.{feeds_moved}, vb_calls.specs.declared.calls.VbCall.TheVariants.{Place, Take}, vb_events.specs.declared.event.StreamName.TheVariants.{Link}}
use Rattle.transcript_law.proofs.{links.Idling.{active_is, all_put_by, no_more, none_told, put_whole}, links.PumpEnds.{act_none, marker_none, none_ends, so_ends}, lines.Takeovers.{lines_takeovers}}
use Rattle.vb_events.specs.declared.event.Event.TheVariants as event
use Rattle.transcript_law.{proofs.Words.{last_seq}, proofs.links.Sources.{from_memory}, specs.Lawfulness.{stream_saved}, specs.StreamLaws.{IsFromSource, IsUnreplaced}, specs.Feeding.{HasOpen}, specs.LinesTold.{TakeoverKnown}, specs.Undone.{AllPut, HasNoMore}}
use Rattle.vb_calls.specs.Jobs.{Ended, after_reads}
use Rattle.dcp_producer.specs.Frames.{changes_next}

module _ (w : PlainWorld) (r : Chronicle) (l : ℕ) (link : PlainLink) (node : PlainNode) (found : row_at link_number l w.links ≡ Some link) (states : States) (s : Served) (g : SoFar w r l link node states s) where
  -- the vBucket at both ends
  open link.consumer.dialed use {vb}

  -- the world, the lines and the link so far
  abbrev now : PlainWorld
  now = pumped w l link node states s

  abbrev read : Chronicle
  read = after_lines r s.events

  abbrev here : PlainLink
  here = served_link link s

  -- what is to hold after the turn
  abbrev Goal : States × Turn Pulling (Served × Halt) → Type 0
  Goal x = TurnsSoFar w r l link node x

  is_number : link_number here ≡ l
  is_number = numbered w r l link node found states s g

  here_is : row_at link_number l now.links ≡ Some here
  here_is = found_here w r l link node found states s g

  module _ (c : Cluster) (a : AgreesIn idle now read c) (la : LinkAgrees now read c here [] [])
      (t : Streaming (wants_of la.follower) (c.nodes (consumer_seat here)) (vb_of now (producer_node here) vb) (c.nodes (producer_seat here)) (read.stream_of (Link (link_number here)) vb) here.server here.consumer la.talk.asked (spoken la.talk.said))
      (stated : read.stated_of (link_number here) ≡ stated_in t.handing) (kept : s.end.streams ≡ t.stream ∷ []) where
    abbrev name : StreamName
    name = s.end.desk.stream

    -- what the stream's next frame comes to
    abbrev pub Comes : States × Next → Type 0
    Comes x = Goal (x.0, one_came s x.1)

    abbrev kn : Member
    kn = c.nodes (consumer_seat here)

    abbrev leader : Member
    leader = c.nodes (producer_seat here)

    -- the stream's end was not put yet
    opens : t.granted_is.over ≡ false
    opens = false_from_ne_true t.granted_is.over (λ e. let z : t.stream ∷ [] ≡ [] = sym kept ∙ t.stream_is ∙ ap (λ q. kept_stream q t.stream) e in cc)

    named_here : s.end.desk.stream ≡ Link l
    named_here = named w r l link node found states s g c a la

    told : read.stream_of (Link l) vb ≡ Some t.granted_is
    told = ap (λ k. read.stream_of (Link k) vb) (sym is_number) ∙ t.told

    dialed : is_dial_of vb (read.dial_of l) ≡ true
    dialed = dialed_vb w r l link node found states s g c a la

    -- what a line about the stream tells of it
    given : (change : Granted → Granted) → (with_changed read (Link l) change).stream_of (Link (link_number here)) vb ≡ Some (change t.granted_is)
    given change = given_as w r l link node found states s g c a la t.granted_is t.told change

    -- a frame of the stream is the one that its consumer's opaque and vBucket make
    frame_is : (m : DcpMsg) → dcp_frame m t.stream.opaque t.stream.vb ≡ dcp_frame m here.consumer.asked vb
    frame_is m = λ i. dcp_frame m (t.streams.opaque_is i) (t.streams.vb_is i)

    -- all agrees, where no vBucket changed
    frame_agrees : (streams : List PlainStream) (turned : ℕ) (f : Frame) (line : Event) (change : Granted → Granted) → ((g : Granted) → (change g).wrote ≡ g.wrote) → Readable f → is_refused_ack f ≡ false → NoNewStream here (link_with link s streams turned f line)
        → (x : Streaming (wants_of la.follower) kn (vb_of now (producer_node here) vb) leader ((with_changed read (Link l) change).stream_of (Link (link_number here)) vb) (record here.server { streams = streams }) here.consumer la.talk.asked (spoken la.talk.said ++ f ∷ [])) → x.handing ≡ t.handing
        → AgreesIn idle (pumped w l link node states (end_with s streams turned f line)) (with_changed read (Link l) change) c
    frame_agrees streams turned f line change same good heard less x still = put_agrees w r l link node found states s g c a la streams turned f line (with_changed read (Link l) change) (told_stream read l change) refl
        (acked_still _ change (read.stream_of (Link (link_number here)) vb) here.consumer.acked same la.acks) good heard less (EndsStand.IsStreaming x (stated ∙ ap stated_in (sym still)))

    -- what is noted of a stream that goes on in its step, of one with the same branch, stands
    noted_on : (streams : List PlainStream) (turned : ℕ) (f : Frame) (line : Event) (change : Granted → Granted) (x : PlainStream) → streams ≡ x ∷ [] → x.gives ≡ t.stream.gives → x.ended ≡ t.stream.ended → ((g : Granted) → stream_branch g ≡ stream_branch (change g))
        → LinkKnown r (with_changed read (Link l) change) (link_with link s streams turned f line)
    noted_on streams turned f line change x is gives ended same = record {
      noted = record {
        dialed = g.known.noted.dialed;
        each = subst (All (NotedStream (r.takeover_of (link_number link)))) (sym is)
            (noted_one (r.takeover_of (link_number link)) t.stream x s.end.streams kept ended (subst (CameIf (r.takeover_of (link_number link)).moved) (sym gives)) g.known.noted.each);
      };
      owned = subst (All (OwnedBy (r.takeover_of (link_number link)))) (sym is) (owned_one (r.takeover_of (link_number link)) t.stream x s.end.streams kept gives g.known.owned);
      kept = subst (All (KeptFor (with_changed read (Link l) change) (producer_node here) vb ((with_changed read (Link l) change).stream_of (Link (link_number link)) vb))) (sym is)
          (kept_one read (with_changed read (Link l) change) (producer_node here) vb (read.stream_of (Link (link_number link)) vb) ((with_changed read (Link l) change).stream_of (Link (link_number link)) vb) t.stream x s.end.streams kept gives ended
          (λ u w. record { made_or_took = w.made_or_took; on_branch = w.on_branch })
          (λ g' e. let z : Some (change t.granted_is) ≡ Some g' = sym (given change) ∙ e in let one : change t.granted_is ≡ g' = cc in (t.granted_is, t.told, same t.granted_is ∙ ap stream_branch one))
          g.known.kept);
    }

    -- and where the stream is gone there is none
    noted_gone : (turned : ℕ) (f : Frame) (line : Event) (after : Chronicle) → LinkKnown r after (link_with link s [] turned f line)
    noted_gone turned f line after = record { noted = record { dialed = g.known.noted.dialed; each = All-nil _ }; owned = All-nil _; kept = All-nil _ }

    -- an item is put
    pub item_turn : (item : Change) → slice_get t.stream.items t.stream.next ≡ Some item → Comes (states, item_next name t.stream item)
    item_turn item e =
        let m : DcpMsg = act_message item item.act in let f : Frame = dcp_frame m t.stream.opaque t.stream.vb in let line : Event = item_line name item in
        let left : List PlainStream = past_item item.seq t.stream ∷ [] in
        let (b, last, next, source) = begun_of t.granted_is.last t.stream item t.streams.last e in (
          so_far_more w r l link node states states s (end_with s left 1 f line).end f (s.count + 1) line (event.Item (Link l) item.seq (line_act item.act) item.key) g
              (ap (λ (n : StreamName). event.Item n item.seq (act_sent item.act) item.key) named_here ∙ ap (λ a. event.Item (Link l) item.seq a item.key) (sent_is_told item.act)) tt
              (t.granted_is, b, (vb, dialed, told), opens, last, next, source) g.desk (
                c,
                frame_agrees left 1 f line (with_item (item_of_change item)) (λ g. refl) (item_readable t item f e la.small.1 (frame_is m)) (message_spoken m t.stream.opaque t.stream.vb)
                    (λ v id has. subst (HasOpen v id) (sym kept) has) (item_streaming t item f opens e (frame_is m) (given (with_item (item_of_change item)))) (item_handing t item f opens e (frame_is m) (given (with_item (item_of_change item)))),
              )
              (noted_on left 1 f line (with_item (item_of_change item)) (past_item item.seq t.stream) refl refl refl (λ g. refl))
              (stepped_one l link.server.streams s.end.streams s.events (event.Item (Link l) item.seq (line_act item.act) item.key) t.stream (past_item item.seq t.stream) kept refl refl refl g.stepped) tt (eq-eqb l l refl) (others_stream w read l (with_item (item_of_change item))) (item_readable t item f e la.small.1 (frame_is m)) (none_ends r link f (act_none t.stream.opaque t.stream.vb item item.act)),
          refl,
        )

    -- the end of a stream that a change of role ended
    end_turn : t.stream.ended ≡ true → length t.stream.items ≤ t.stream.next → Comes (states, over STATE_CHANGED t.stream)
    end_turn ended whole =
        let f : Frame = dcp_frame (StreamEnd STATE_CHANGED) t.stream.opaque t.stream.vb in let f_is = frame_is (StreamEnd STATE_CHANGED) in
        let line : Event = event.Finished name STATE_CHANGED in (
          so_far_more w r l link node states states s (end_with s [] 0 f line).end f (s.count + 1) line (event.Finished (Link l) STATE_CHANGED) g (ap (λ (n : StreamName). event.Finished n STATE_CHANGED) named_here) tt
              (t.granted_is, (vb, dialed, told), opens, whole_if t.stream t.granted_is.last t.streams.last whole, λ no_takeover no_end. refl) g.desk (
                c,
                frame_agrees [] 0 f line finished (λ g. refl) (subst Readable (sym f_is) (end_readable here.consumer.asked vb t.consumer.small la.small.1)) (message_spoken (StreamEnd STATE_CHANGED) t.stream.opaque t.stream.vb)
                    (λ v id has. absurd has) (end_streaming t f opens ended whole f_is (given finished)) (end_handing t f opens ended whole f_is (given finished)),
              )
              (noted_gone 0 f line (with_changed read (Link l) finished)) (All-nil _) (λ d x is has. inr (refl, turned_is w r l link node found states s g c a la t stated kept ∙ ended)) (eq-eqb l l refl) (others_stream w read l finished) (subst Readable (sym f_is) (end_readable here.consumer.asked vb t.consumer.small la.small.1)) (so_ends r link f true here.consumer.asked vb f_is (λ takes. ap (λ k. (r.takeover_of k).turned) (is_number) ∙ ap (λ (q : ℕ → TakeoverKnown). (q l).turned) (sym (lines_takeovers r s.events)) ∙ turned_is w r l link node found states s g c a la t stated kept ∙ ended)),
          refl,
        )

    consumer_agrees : VbAgrees read (consumer_node here) vb kn la.follower
    consumer_agrees = subst (AgreesAt read (consumer_node here) vb kn) la.follower_is (a.vbs (consumer_node here) vb)

    -- the stream is open at its producer's vBucket
    module _ (going : t.stream.ended ≡ false) where
      abbrev pub at : Open t.stream.id t.granted_is (vb_of now (producer_node here) vb) leader t.feed t.handing
      at = t.streams.opens going

      open at use {producer as p}

      producer_agrees : VbAgrees read (producer_node here) vb leader p
      producer_agrees = subst (AgreesAt read (producer_node here) vb leader) at.producer_is (a.vbs (producer_node here) vb)

      -- what the vBucket's branch is, in the cluster and by the lines
      own_told : hist c.tree leader.br ≡ own_history read (producer_node here) vb
      own_told = own_is read c (producer_node here) vb leader a.hists a.rootless producer_agrees.branch

      has : states t.stream.vb ≡ Some p
      has = ap states t.streams.vb_is ∙ sym (pumped_here w l link node states s vb) ∙ ap (λ (d : Desk). vb_of now d.node vb) (sym g.desk) ∙ at.producer_is

      module _ (o : Stream) (snapshot : Snapshot) (taken : SnapshotTaken p t.stream.id o snapshot (moved_vb p t.stream.id snapshot.end))
          (opened : stream_at t.stream.id p.streams ≡ Some o) (asked : o.ask ≡ t.granted_is.ask) (placed : o.place ≡ t.granted_is.place) (before : o.taken ≡ is_some t.granted_is.last)
          (whole : length t.stream.items ≤ t.stream.next) (sending : is_sending t.handing ≡ true) where
        open snapshot use {end}

        abbrev in_one : Bool
        in_one = is_granted link.consumer.dialed t.seen && not la.follower.first

        abbrev moved : Plain
        moved = moved_vb p t.stream.id end

        abbrev states_after : States
        states_after = with_vb_at (with_vb_at states t.stream.vb p) t.stream.vb moved

        abbrev marker : Frame
        marker = dcp_frame (SnapshotMarker snapshot.start end (marker_flags snapshot.disk)) t.stream.opaque t.stream.vb

        abbrev marker_line : Event
        marker_line = event.Marked name snapshot.start end (marker_flags snapshot.disk)

        -- the link and the producer then
        abbrev left : List PlainStream
        left = taken_stream t.stream snapshot.items end ∷ []

        abbrev link_after : PlainLink
        link_after = link_with link s left 1 marker marker_line

        abbrev end_after : Served
        end_after = end_with s left 1 marker marker_line

        abbrev now_after : PlainWorld
        now_after = pumped w l link node states_after end_after

        abbrev marker_read : Chronicle
        marker_read = with_changed read (Link l) (with_begun read.tree snapshot.start end (marker_flags snapshot.disk))

        asks : in_one ≡ false → (t.granted_is.ask.start ≡ kn.position.at) × (t.granted_is.ask.ss ≡ kn.position.ss) × (t.granted_is.ask.se ≡ kn.position.se)
        asks q =
            let x = t.asks q in let same : la.follower.position ≡ kn.position = sym consumer_agrees.member.position in
            (x.0 ∙ ap (λ (y : Position). y.at) same, x.1 ∙ ap (λ (y : Position). y.ss) same, x.2 ∙ ap (λ (y : Position). y.se) same)

        -- the snapshot is sent to the consumer's member

        abbrev cluster_after : Cluster
        cluster_after = happens c (Move.Send (consumer_seat here) (producer_seat here) snapshot.items end)

        member_after : cluster_after.nodes (consumer_seat here) ≡ sent_member kn t.feed snapshot.items end
        member_after =
            ap (λ b. if b then sent kn kn.link snapshot.items end else kn) (eq-eqb (consumer_seat here) (consumer_seat here) refl) ∙ ap (λ x. sent kn x snapshot.items end) t.fed

        others_after : (j : ℕ) → (j ≡ consumer_seat here → ⊥) → cluster_after.nodes j ≡ c.nodes j
        others_after j ne = ap (λ b. if b then sent kn kn.link snapshot.items end else c.nodes j) (ne_eqb j (consumer_seat here) ne)

        linked : Linked (ground c) kn kn.coming (Some t.feed)
        linked = subst (Linked (ground c) kn kn.coming) t.fed (a.sound.stands (consumer_seat here)).linked

        -- the snapshot is one of the vBucket's branch

        fork_at : fork_of p.position ≡ p.position.at
        fork_at = subst (λ (q : Position). fork_of q ≡ q.at) producer_agrees.member.position
            (tip_of t.handing sending at.active)
          where
            tip_of : (h : Handing) → is_sending h ≡ true → FeederIn h p.role leader t.feed.given → fork_of leader.position ≡ leader.position.at
            tip_of Handing.Unstated sends active = ⊎_elim (λ y. y.1) (λ y. y.1 ∙ (a.sound.leads (producer_seat here) (producer_agrees.member.active ∙ active)).ss_at) (start_cases leader.position.ss leader.position.se leader.position.at)
            tip_of Handing.Ceded sends given = given.at_tip
            tip_of other sends active = cc

        covers_all : Covers snapshot.items leader.held o.place end
        covers_all = covers_more p.floor producer_agrees.below p.held leader.held snapshot.items o.place end producer_agrees.parts producer_agrees.low taken.fed taken.covers

        covers_own : Covers snapshot.items (own_history read (producer_node here) vb) o.place end
        covers_own =
            held_covers read (producer_node here) vb leader p snapshot.items o.place end producer_agrees (subst (Rises 0 top) own_told (hist_rises top c.tree leader.br a.sound.grows))
            ((taken.whole, (let low : end ≤ p.position.at = taken.below in let same = fork_at in omega (arith, low, same)), (let goes : o.place < end = taken.covers.goes_on in let fed = taken.fed in omega (arith, goes, fed))))
            covers_all

        covers_told : Covers snapshot.items (hist read.tree (stream_branch t.granted_is)) o.place end
        covers_told = subst (λ h. Covers snapshot.items h o.place end) (sym own_told ∙ a.hists leader.br ∙ ap (hist read.tree) (at.leads ∙ sym t.streams.front_is)) covers_own

        may_send : MaySend c kn leader (Some t.feed) snapshot.items end
        may_send = (
          sym at.leads,
          subst (λ h. Covers snapshot.items h (flight_end (flight_from kn kn.coming) t.feed.flight) end) (sym own_told)
              (subst (λ n. Covers snapshot.items (own_history read (producer_node here) vb) n end) (placed ∙ t.streams.place_is) covers_own),
          (reaches t.streams o asked placed before asks (ground c) t.feed.u end taken.need taken.covers.goes_on linked.1 linked.2 (a.sound.stands (consumer_seat here)).follows.within t.granted_is.last refl),
          subst (λ (q : Position). end ≤ q.at) (sym producer_agrees.member.position) taken.below,
        )

        sound_after : SoundCluster top cluster_after
        sound_after =
            let quiet : kn.active ≡ false = consumer_agrees.member.active ∙ no_writer la.follower.role (follows_in t.handing la.follower.role (subst (λ (x : TakeOver). FollowsBy x.last la.follower.role) t.taken_is la.follows)) in
            keeps top c (Move.Send (consumer_seat here) (producer_seat here) snapshot.items end) a.sound (quiet, subst (λ k. MaySend c kn leader k snapshot.items end) (sym t.fed) may_send)

        feed_changed : FeedChanged (consumer_seat here) c cluster_after
        feed_changed =
            let fed : FedMember kn (sent_member kn t.feed snapshot.items end) = record { active = refl; br = refl; held = refl; position = refl; log = refl } in
            record { changed = record { tree = refl; others = others_after; disks = λ j ne. disk_there c.disks (consumer_seat here) (c.disks (consumer_seat here)) j ne }; fed = subst (FedMember kn) (sym member_after) fed; disk = disk_here c.disks (consumer_seat here) (c.disks (consumer_seat here)) }

        -- the producer's vBucket has its stream at the snapshot's end

        became : Became now now_after (producer_node here) vb moved l link_after
        became = subst (λ v. Changed now now_after (producer_node here) v moved (row_put link_number l link_after now.links)) t.streams.vb_is
            (subst (λ (d : Desk). Changed now now_after d.node t.stream.vb moved (row_put link_number l link_after now.links)) (sym g.desk) (record {
              powers = pumped_powers w l link node states states_after s end_after;
              here = pumped_here w l link node states_after end_after t.stream.vb ∙ twice_here states t.stream.vb p moved;
              there = λ m q other. pumped_where w l link node states states_after s end_after m q (λ same. twice_there states t.stream.vb p moved q (λ e. other same e));
              shelves = λ m q other. pumped_shelves w l link node states states_after s end_after m q;
              uuids = refl;
              linked = relinked_twice w r l link node found states s g end_after;
            }))

        -- and its marker is on its way

        marker_is : marker ≡ dcp_frame (SnapshotMarker snapshot.start end (marker_flags snapshot.disk)) here.consumer.asked vb
        marker_is = λ i. dcp_frame (SnapshotMarker snapshot.start end (marker_flags snapshot.disk)) (t.streams.opaque_is i) (t.streams.vb_is i)

        marker_is_lawful : LawfulMark read (Link l) snapshot.start end (marker_flags snapshot.disk)
        marker_is_lawful =
            let is : IsMarker read.tree t.granted_is snapshot.start end = subst (λ n. IsMarker read.tree t.granted_is n end) (sym taken.starts)
            (marker_lawful t.streams o asked placed before asks read.tree snapshot.items end opens whole taken.need covers_told) in
            (t.granted_is, (vb, dialed, told), is, subst (λ b. IsFromSource (marker_flags b) end (stream_saved read (Link l))) (sym taken.disk) (from_memory end (stream_saved read (Link l))))

        -- it is not from the journal
        lasts : snapshot.disk ≡ true → All (IsUnreplaced (hist read.tree (stream_branch t.granted_is)) end) snapshot.items
        lasts from = let z : false ≡ true = sym taken.disk ∙ from in cc

        -- it ends at a seqno
        low : end ≤ top
        low = let x = producer_agrees.sound in let most : p.position.se ≤ 2 ^ 48 = x.capped in let within : p.position.at ≤ p.position.se = x.within.1 in let below : end ≤ p.position.at = taken.below in omega (arith, most, within, below)

        -- its consumer is to take it
        abbrev marker_streamed : Streaming (wants_of la.follower) (sent_member kn t.feed snapshot.items end) (vb_of now_after (producer_node here) vb) leader (marker_read.stream_of (Link (link_number here)) vb) (record here.server { streams = left }) here.consumer la.talk.asked (spoken la.talk.said ++ marker ∷ [])
        marker_streamed = marker_streaming t read.tree snapshot.items snapshot.start end snapshot.disk marker at sending opens low whole (items_fit snapshot.items leader.held covers_all.remains.of producer_agrees.fits)
            (subst (λ n. Covers snapshot.items (hist read.tree (stream_branch t.granted_is)) n end) placed covers_told) lasts (start_is t.streams o asked placed before asks t.granted_is.last refl ∙ sym taken.starts) marker_is became.here (given (with_begun read.tree snapshot.start end (marker_flags snapshot.disk)))

        marker_still : marker_streamed.handing ≡ t.handing
        marker_still = marker_handing t read.tree snapshot.items snapshot.start end snapshot.disk marker at sending opens low whole (items_fit snapshot.items leader.held covers_all.remains.of producer_agrees.fits)
            (subst (λ n. Covers snapshot.items (hist read.tree (stream_branch t.granted_is)) n end) placed covers_told) lasts (start_is t.streams o asked placed before asks t.granted_is.last refl ∙ sym taken.starts) marker_is became.here (given (with_begun read.tree snapshot.start end (marker_flags snapshot.disk)))

        -- a marker was put
        marker_so_far : SoFar w r l link node states_after (put_with s left 1 marker marker_line)
        marker_so_far = so_far_more w r l link node states states_after s link_after.server marker (s.count + 1)
            marker_line (event.Marked (Link l) snapshot.start end (marker_flags snapshot.disk)) g
            (ap (λ (n : StreamName). event.Marked n snapshot.start end (marker_flags snapshot.disk)) named_here) tt marker_is_lawful g.desk (
              cluster_after,
              carries_producer idle idle now now_after read marker_read c cluster_after l here link_after t.stream.id p moved a here_is (record { dialed = refl; desk = refl })
                  at.producer_is
                  (record { sound = sound_streams p moved.streams producer_agrees.sound (feeds_moved p.role p.floor t.stream.id end p.streams o producer_agrees.sound.feeds opened (let low = taken.fed in let above : o.place < end = taken.covers.goes_on in omega (arith, low, above))); alone = refl; others = λ x ne. moved_there t.stream.id end x p.streams ne })
                  became (pumped_shelves w l link node states states_after s end_after (producer_node here) vb) (inl (subst (HasOpen vb t.stream.id) (sym kept) (inl (t.streams.vb_is, refl, going))))
                  (λ v k has. ⊎_elim (λ h. (sym h.0 ∙ t.streams.vb_is, sym h.1)) (λ none. absurd none) has) (told_stream read l (with_begun read.tree snapshot.start end (marker_flags snapshot.disk))) feed_changed sound_after (λ k ne. refl) (record {
                    follower = la.follower;
                    follower_is = became.there (consumer_node here) vb (λ q e. t.apart (sym q)) ∙ la.follower_is;
                    follows = la.follows;
                    acks = acked_still _ (with_begun read.tree snapshot.start end (marker_flags snapshot.disk)) (read.stream_of (Link (link_number here)) vb) here.consumer.acked (λ g. refl) la.acks;
                    dial = la.dial;
                    talk = talk_same member_after refl (others_after (producer_seat here) (λ q. t.apart (seat_one (producer_node here) vb (consumer_node here) vb q).0)) refl refl refl (record {
                      asked = la.talk.asked;
                      said = la.talk.said ++ marker ∷ [];
                      stands = stands_with w r l link node found states s g c a la left 1 marker marker_line (sent_member kn t.feed snapshot.items end) leader marker_read now_after (message_spoken (SnapshotMarker snapshot.start end (marker_flags snapshot.disk)) t.stream.opaque t.stream.vb)
                          (EndsStand.IsStreaming marker_streamed (stated ∙ ap stated_in (sym marker_still)));
                      ups = la.talk.ups;
                      downs = downs_with w r l link node found states s g c a la left 1 marker marker_line (subst Readable (sym marker_is) (marker_readable snapshot.start end (marker_flags snapshot.disk) here.consumer.asked vb t.consumer.small la.small.1));
                    });
                  }),
            )
            (noted_on left 1 marker marker_line (with_begun read.tree snapshot.start end (marker_flags snapshot.disk)) (taken_stream t.stream snapshot.items end) refl refl refl (λ g. refl))
            (stepped_one l link.server.streams s.end.streams s.events (event.Marked (Link l) snapshot.start end (marker_flags snapshot.disk)) t.stream (taken_stream t.stream snapshot.items end) kept refl refl refl g.stepped)
            (marked_in w r l link node found states s g c a la t stated kept going sending) (eq-eqb l l refl) (others_stream w read l (with_begun read.tree snapshot.start end (marker_flags snapshot.disk))) (subst Readable (sym marker_is) (marker_readable snapshot.start end (marker_flags snapshot.disk) here.consumer.asked vb t.consumer.small la.small.1)) (none_ends r link marker (marker_none t.stream.opaque t.stream.vb snapshot.start end (marker_flags snapshot.disk)))

      -- what is taken is put, and else the states are the same

      -- what is so far, by the states that were put again
      again : (s' : Served) → SoFar w r l link node states s' → SoFar w r l link node (with_vb_at (with_vb_at states t.stream.vb p) t.stream.vb p) s'
      again s' x = so_far_again w r l link node states (with_vb_at (with_vb_at states t.stream.vb p) t.stream.vb p) s' (twice_same states t.stream.vb p has) x

      same_so_far : SoFar w r l link node (with_vb_at (with_vb_at states t.stream.vb p) t.stream.vb p) s
      same_so_far = again s g

      waiting_so_far : SoFar w r l link node (with_vb_at states t.stream.vb p) s
      waiting_so_far = so_far_again w r l link node states (with_vb_at states t.stream.vb p) s (once_same states t.stream.vb p has) g

      -- no marker reaches the end that was asked for
      endless : reaches_end t.stream.until t.stream.marked ≡ false
      endless = by t.stream.marked t.streams.no_end.marked
        where
          by : (o : Option ℕ) → IsLow o → reaches_end t.stream.until o ≡ false
          by None low = refl
          by (Some end) low = let far : top < t.stream.until = t.streams.no_end.until in let near : end ≤ top = low in grind (arith, nat_tests, far, near)

      -- the states after a take, and what it comes to
      abbrev taken_turn : Plain × VbReply → States × Next
      taken_turn step = (with_vb_at (with_vb_at states t.stream.vb p) t.stream.vb step.0, taken_next name t.stream step.1.answer)

      -- what the stream puts, by how far its vBucket is handed over
      gives_alive : (h : Handing) (b : Bool) → t.handing ≡ h → link.consumer.dialed.takeover ≡ b → after_reads (next_by name t.stream None) node.shelves states ≡ after_reads (alive_next name t.stream (gives_in b h)) node.shelves states
      gives_alive h b e f = ap (λ b. after_reads (if b then Ended (over STATE_CHANGED t.stream) else alive_next name t.stream t.stream.gives) node.shelves states) going ∙ ap (λ o. after_reads (alive_next name t.stream o) node.shelves states) (t.gives_is ∙ (λ i. gives_in (f i) (e i)))

      -- the vBucket is asked where the stream's changes come from
      abbrev pub Places : Type 0
      Places = after_reads (next_by name t.stream None) node.shelves states ≡ after_reads (place_requested name t.stream) node.shelves states

      abbrev Placed : Bool → Bool → Stream → States × Next
      Placed has_one near o = after_reads (placed_next name t.stream (place_said (Some (placed_by has_one near o p).1))) node.shelves (with_vb_at states t.stream.vb (placed_by has_one near o p).0)

      placed_turn : Places → (o : Stream) → stream_at t.stream.id p.streams ≡ Some o → after_reads (next_by name t.stream None) node.shelves states ≡ Placed o.cursor (is_in_memory p o.place) o
      placed_turn places o opened =
          let v : ℕ = t.stream.vb in let id : ℕ = t.stream.id in
          places
          ∙ ap (λ x. after_reads (placed_next name t.stream (place_said (call_at states v (Place id) x).1)) node.shelves (call_at states v (Place id) x).0) has
          ∙ ap (λ x. after_reads (placed_next name t.stream (place_said (Some (place_from x p).1))) node.shelves (with_vb_at states v (place_from x p).0)) opened

      -- it has no cursor, and not all of them are in memory: the stream waits
      waited_turn : Places → (o : Stream) → stream_at t.stream.id p.streams ≡ Some o → o.cursor ≡ false → is_in_memory p o.place ≡ false → after_reads (next_by name t.stream None) node.shelves states ≡ (with_vb_at states t.stream.vb p, quiet Waits.Saved t.stream)
      waited_turn places o opened none far = placed_turn places o opened ∙ (λ i. Placed (none i) (far i) o)

      -- it has one: it was asked for the next snapshot
      asked_turn : Places → (o : Stream) → stream_at t.stream.id p.streams ≡ Some o → o.cursor ≡ true → after_reads (next_by name t.stream None) node.shelves states ≡ taken_turn (take_to (end_span o (all_spans p.spans) p.held) o p)
      asked_turn places o opened near =
          let v : ℕ = t.stream.vb in let id : ℕ = t.stream.id in let first : States = with_vb_at states v p in
          placed_turn places o opened
          ∙ ap (λ b. Placed b (is_in_memory p o.place) o) near
          ∙ ap (λ x. ((call_at first v (Take id) x).0, take_answered name t.stream (call_at first v (Take id) x).1)) (ap (λ b. if b then Some p else states v) (eq-eqb v v refl))
          ∙ ap (λ x. taken_turn (take_from x p)) opened
          ∙ ap (λ b. taken_turn (take_to (if b then end_span o (all_spans p.spans) p.held else None) o p)) near

      -- with nothing put, the stream had its turn
      quiet_so_far : (states' : States) → SoFar w r l link node states' s → SoFar w r l link node states' (record s { end = record s.end { streams = t.stream ∷ []; turn = 1 } })
      quiet_so_far states' x = so_far_turned w r l link node found states' s (t.stream ∷ []) 1 kept x

      -- the vBucket gives nothing
      record IsNothing (o : Stream) : Type 0 where
        pub opened : stream_at t.stream.id p.streams ≡ Some o
        pub asked : o.ask ≡ t.granted_is.ask
        pub sync : o.sync ≡ true
        pub placed : o.place ≡ t.granted_is.place
        pub before : o.taken ≡ is_some t.granted_is.last
        pub near : o.cursor ≡ true
        pub ends : end_span o (all_spans p.spans) p.held ≡ None

      -- one that is active holds no more for the stream
      idle_now : is_active p.role ≡ true → (o : Stream) → IsNothing o → length t.stream.items ≤ t.stream.next → AllPut read l
      idle_now active o none whole =
          all_put_by read l (record { producer = producer_node here; node = consumer_node here; vb = vb }) (Some t.granted_is) (ap read.dial_of (sym is_number) ∙ la.dialed) told (λ g same goes.
          let one : t.granted_is ≡ g = cc in
          subst (HasNoMore read (producer_node here) vb) one (record {
            whole = put_whole t.granted_is.last t.stream t.streams.last whole;
            active = producer_agrees.role ∙ ap (λ x. Some (Some x)) (active_is p.role active);
            none = none_told t.granted_is o (last_seq 0 (read.held (producer_node here) vb)) p.position.at none.asked none.placed none.before (ap (last_seq 0) producer_agrees.held ∙ producer_agrees.high)
                (no_more p o producer_agrees.sound none.sync (producer_agrees.sound.feeds.cursors t.stream.id o none.opened none.near) none.ends);
          }))

      -- the stream got all of it
      got_all : (o : Stream) → IsNothing o → p.position.at ≤ t.granted_is.place
      got_all o none = ⊎_elim (λ l. let same = none.placed in omega (arith, l, same)) short (no_more p o producer_agrees.sound none.sync (producer_agrees.sound.feeds.cursors t.stream.id o none.opened none.near) none.ends)
        where
          short : (o.taken ≡ false) × (p.position.at < effective_se o.ask.start o.ask.ss o.ask.se) → p.position.at ≤ t.granted_is.place
          short x =
              let there : effective_se t.granted_is.ask.start t.granted_is.ask.ss t.granted_is.ask.se ≤ leader.position.at = at.reached (sym none.before ∙ x.0) in
              let above : p.position.at < effective_se t.granted_is.ask.start t.granted_is.ask.ss t.granted_is.ask.se = subst (λ (a : StreamAsk). p.position.at < effective_se a.start a.ss a.se) none.asked x.1 in
              let same : leader.position.at ≡ p.position.at = ap (λ (y : Position). y.at) producer_agrees.member.position in absurd (omega (arith, there, above, same))

      -- the stream has a cursor, or is given none
      abbrev pub IsPlaced : Type 0
      IsPlaced = (o : Stream) → stream_at t.stream.id p.streams ≡ Some o → o.cursor ≡ false → is_in_memory p o.place ≡ false

      -- what comes behind the items of the snapshot that was taken last, of a stream that puts its snapshots
      marker_turn : IsPlaced → TakesSnapshots → length t.stream.items ≤ t.stream.next → is_sending t.handing ≡ true → Places
          → ((o : Stream) → IsNothing o → Comes (with_vb_at (with_vb_at states t.stream.vb p) t.stream.vb p, none_next name t.stream t.stream.gives)) → Comes (after_reads (next_by name t.stream None) node.shelves states)
      marker_turn ready takes whole sending places nothing =
          let (o, opened, asked, sync, placed, before) = at.opened in
          in_memory o.cursor o opened asked sync placed before refl
        where
          by : (o : Stream) → stream_at t.stream.id p.streams ≡ Some o → o.ask ≡ t.granted_is.ask → o.sync ≡ true → o.place ≡ t.granted_is.place → o.taken ≡ is_some t.granted_is.last
              → o.cursor ≡ true → (x : Option Span) → end_span o (all_spans p.spans) p.held ≡ x → Comes (taken_turn (take_to x o p))
          by o opened asked sync placed before near None ends = nothing o (record { opened = opened; asked = asked; sync = sync; placed = placed; before = before; near = near; ends = ends })
          by o opened asked sync placed before near (Some win) ends =
              let snapshot : Snapshot = as_sent t.stream (span_snapshot p o win) in
              let taken : SnapshotTaken p t.stream.id o snapshot (take_to (Some win) o p).0 = taken_is takes p t.stream.id o win t.stream (t.streams.first_is ∙ ap first_of (sym asked)) (t.streams.marked_is ∙ sym before) producer_agrees.sound opened sync near ends in
              let moved_is : SnapshotTaken p t.stream.id o snapshot (moved_vb p t.stream.id snapshot.end) = subst (SnapshotTaken p t.stream.id o snapshot) taken.after_is taken in
              subst (λ x. Comes (with_vb_at (with_vb_at states t.stream.vb p) t.stream.vb x, marker_next name t.stream snapshot)) (sym taken.after_is)
              (marker_so_far o snapshot moved_is opened asked placed before whole sending, refl)

          in_memory : (b : Bool) (o : Stream) → stream_at t.stream.id p.streams ≡ Some o → o.ask ≡ t.granted_is.ask → o.sync ≡ true → o.place ≡ t.granted_is.place → o.taken ≡ is_some t.granted_is.last
              → o.cursor ≡ b → Comes (after_reads (next_by name t.stream None) node.shelves states)
          in_memory false o opened asked sync placed before none = subst Comes (sym (waited_turn places o opened none (ready o opened none)))
              (quiet_so_far (with_vb_at states t.stream.vb p) waiting_so_far, waits_saved w r l link node found states s g c a la t stated kept going sending, record { full = λ e. cc; some = λ e. cc; waiting = λ e. cc })
          in_memory true o opened asked sync placed before near = subst Comes (sym (asked_turn places o opened near)) (by o opened asked sync placed before near (end_span o (all_spans p.spans) p.held) refl)

      -- a state is put where the stream got all
      state_turn : (next : Handing) (role : Role) → StatesNext t.handing next role → link.consumer.dialed.takeover ≡ true → length t.stream.items ≤ t.stream.next → (o : Stream) → IsNothing o
          → Comes (with_vb_at (with_vb_at states t.stream.vb p) t.stream.vb p, stated_next name t.stream next role)
      state_turn next role step takeover whole o none = (
        again (put_with s (stated_stream t.stream (state_gives next) ∷ []) 1 (dcp_frame (SetVbucketState role) t.stream.opaque t.stream.vb) (event.Stated name role))
            (state_so_far w r l link node found states s g c a la t stated kept going next role step takeover whole (got_all o none)),
        refl,
      )

      -- one that waits puts nothing
      wait_turn : is_sending t.handing ≡ false → Comes (states, quiet Waits.State t.stream)
      wait_turn rests = (quiet_so_far states g, waits_state w r l link node found states s g c a la t stated kept going rests, record { full = λ e. cc; some = λ e. cc; waiting = λ e. (t.stream, refl, going, waits_on w r l link node found states s g c a la t stated kept going rests) })

      -- no backfill of it is to be read
      none_read : after_reads (changes_next name t.stream t.stream.unread) node.shelves states ≡ after_reads (place_requested name t.stream) node.shelves states
      none_read = ap (λ o. after_reads (changes_next name t.stream o) node.shelves states) t.streams.none_unread

      -- one that puts its snapshots asks its vBucket
      pub asks_place : is_sending t.handing ≡ true → Places
      asks_place sending = by t.handing link.consumer.dialed.takeover refl refl sending
        where
          by : (h : Handing) (b : Bool) → t.handing ≡ h → link.consumer.dialed.takeover ≡ b → is_sending h ≡ true → Places
          by Handing.Unstated false e f sends = gives_alive Handing.Unstated false e f ∙ ap (λ b. after_reads (if b then close_sent t.stream else changes_next name t.stream t.stream.unread) node.shelves states) endless ∙ none_read
          by Handing.Unstated true e f sends = gives_alive Handing.Unstated true e f ∙ none_read
          by Handing.Ceded b e f sends = gives_alive Handing.Ceded b e f ∙ none_read
          by other b e f sends = cc

      -- what comes behind the items, by how far the vBucket is handed over
      pub alive_turn : (is_sending t.handing ≡ true → IsPlaced) → TakesSnapshots → length t.stream.items ≤ t.stream.next → (h : Handing) (b : Bool) → t.handing ≡ h → link.consumer.dialed.takeover ≡ b → Comes (after_reads (next_by name t.stream None) node.shelves states)
      alive_turn ready takes whole Handing.Unstated false e f =
          marker_turn (ready (ap is_sending e)) takes whole (ap is_sending e) (asks_place (ap is_sending e))
          (λ o none. subst (λ x. Comes (with_vb_at (with_vb_at states t.stream.vb p) t.stream.vb p, none_next name t.stream x)) (sym (t.gives_is ∙ (λ i. gives_in (f i) (e i)))) (
            quiet_so_far (with_vb_at (with_vb_at states t.stream.vb p) t.stream.vb p) same_so_far,
            record {
              idle = λ q. (idle_now (subst (λ h. FeederIn h p.role leader t.feed.given) e at.active) o none whole, takes_none w r l link node found states s g c a la t stated kept going f);
              saved = λ q. cc;
              state = λ q. cc;
              unread = λ q. cc;
            },
            record { full = λ q. cc; some = λ q. cc; waiting = λ q. cc },
          ))
      alive_turn ready takes whole Handing.Unstated true e f = marker_turn (ready (ap is_sending e)) takes whole (ap is_sending e) (asks_place (ap is_sending e))
          (λ o none. subst (λ x. Comes (with_vb_at (with_vb_at states t.stream.vb p) t.stream.vb p, none_next name t.stream x)) (sym (t.gives_is ∙ (λ i. gives_in (f i) (e i))))
          (state_turn Handing.Offered Role.Pending (subst (λ h. StatesNext h Handing.Offered Role.Pending) (sym e) StatesNext.Offers) f whole o none))
      alive_turn ready takes whole Handing.Ceded b e f = marker_turn (ready (ap is_sending e)) takes whole (ap is_sending e) (asks_place (ap is_sending e))
          (λ o none. subst (λ x. Comes (with_vb_at (with_vb_at states t.stream.vb p) t.stream.vb p, none_next name t.stream x)) (sym (t.gives_is ∙ (λ i. gives_in (f i) (e i))))
          (state_turn Handing.Stated Role.Active (subst (λ h. StatesNext h Handing.Stated Role.Active) (sym e) StatesNext.States)
          (handed_is link.consumer.dialed.takeover t.handing t.dialed_so (λ q. let z : Handing.Ceded ≡ Handing.Unstated = sym e ∙ q in cc)) whole o none))
      alive_turn ready takes whole Handing.Offered b e f = subst Comes (sym (gives_alive Handing.Offered b e f)) (wait_turn (ap is_sending e))
      alive_turn ready takes whole Handing.Pended b e f = subst Comes (sym (gives_alive Handing.Pended b e f)) (wait_turn (ap is_sending e))
      alive_turn ready takes whole Handing.Due b e f = subst Comes (sym (gives_alive Handing.Due b e f)) (wait_turn (ap is_sending e))
      alive_turn ready takes whole Handing.Stated b e f = subst Comes (sym (gives_alive Handing.Stated b e f)) (wait_turn (ap is_sending e))

    -- the end of a stream that a change of role ended, behind its items
    pub ended_turn : t.stream.ended ≡ true → length t.stream.items ≤ t.stream.next → Comes (after_reads (next_by name t.stream None) node.shelves states)
    ended_turn ended whole =
        subst (λ b. Comes (after_reads (if b then Ended (over STATE_CHANGED t.stream) else alive_next name t.stream t.stream.gives) node.shelves states)) (sym ended) (end_turn ended whole)
