-- what a link's producer puts once the consumer's vBucket took the branch over: the stream's end, or nothing, until the answer came
use Rattle.std.specs.Prelude.{◌≡◌, ◌≤◌, ◌⊎◌, ◌+◌, ◌∷◌, ◌++◌, if◌then◌else◌}
use Rattle.transcript_law.proofs.Words.{Bool, Change, Chronicle, Cluster, Event, Frame, Granted, Why, None, Option, Plain, PlainLink, PlainNode, PlainWorld, Readable, Role, STATE_CHANGED, Served, Some, States, StaysSound, StreamName, eq-eqb, ne_eqb}
use Rattle.transcript_law.proofs.Words.{[], All, All-head, All-nil, after_lines, ap, arith, call_at, consumer_node, dcp_frame, false, finished, inl, inr, link_number, producer_node, refl, row_at, row_put, slice_get, subst, sym, true, with_changed, with_vb_at, without_stream, ℕ, ◌∙◌}
use Rattle.transcript_law.proofs.invariant.Agreement.{AgreesAt, AgreesIn, EndsStand, FollowsBy, Heir, LinkAgrees, OpenYet, VbAgrees, acked_still, consumer_seat, end_frames, end_reason, heir_step, idle, kept_stream, producer_seat, spoken, vb_of}
use Rattle.transcript_law.proofs.invariant.{Carried.{fed_same}, Carrying.{Became, Changed, FeedChanged}, Noted.{CameIf, NotedLink, NotedStream}, OneLink.{carries_producer}, Tables.{never}}
use Rattle.transcript_law.proofs.links.{Cutting.{closed_others}, PumpWorlds.{others_stream, LinkKnown, OwnedBy, SoFar, Stopped, TurnsSoFar, pumped, pumped_here, pumped_powers, pumped_shelves, pumped_where, so_far_more, told_stream}, PutFrames.{dial_told, dialed_vb, downs_with, end_with, found_here, given_as, link_with, named, noted_here, numbered, own_dial, put_agrees, relinked_twice, stands_with}, Sent.{done_readable, end_readable, found_below}, Spoken.{message_spoken}, Windows.{so_far_turned}}
use Rattle.transcript_law.proofs.{links.PumpWorlds.{served_link}, lines.Pulling.{lets_through}, lines.Takeovers.{lines_takeovers}}
use Rattle.{mcbp_frame.specs.declared.frame.TheConstants.{HEADER_LEN}, takeover.specs.declared.give_up.GiveStep.TheVariants.{End}}
use Rattle.dcp_producer.{proofs.OneStream.{one_came, one_frame_of}, specs.Frames.{ALL_SENT, Next, alive_next, next_by, next_frame, over, quiet}, specs.Pulling.{none_quiet, one_frame, pull_of}, specs.declared.desk.Desk.{Desk}, specs.declared.next_frame.Waits.{Waits}}
use Rattle.{mcbp_dcp.specs.declared.message.DcpMsg.TheVariants.{StreamEnd}, std.proofs.lemmas.Bool.{false_from_ne_true}, vb_calls.specs.declared.calls.VbCall.{VbCall}}
use Rattle.transcript_law.specs.{Feeding.{HasOpen}, Heirs.{IsHanded}, LinesTold.{Dial, TakeoverKnown}, TakeoverLines.{EndsHanded, IsTakeover}, Lawfulness.{LawfulFinish}}
use Rattle.takeover.specs.declared.{take_over.TakeOver.{TakeOver}, take_over.TakeStep.TheVariants.{Own}}
use Rattle.transcript_law.proofs.links.PumpEnds.{so_ends}
use Rattle.vb_events.specs.declared.event.StreamName.TheVariants.{Link}
use Rattle.vb_events.specs.declared.event.Event.TheVariants as event
use Rattle.vb_calls.proofs.JobReadings.{after_reads_bind}
use Rattle.vb_calls.specs.Jobs.{Ended, after_reads}

-- the vBucket without a stream of it
abbrev pub closed_vb : Plain → ℕ → Plain
closed_vb p id = record p { streams = without_stream id p.streams }

module _ (w : PlainWorld) (r : Chronicle) (l : ℕ) (link : PlainLink) (node : PlainNode) (found : row_at link_number l w.links ≡ Some link) (states : States) (s : Served) (g : SoFar w r l link node states s) (c : Cluster)
    (a : AgreesIn idle (pumped w l link node states s) (after_lines r s.events) c) (la : LinkAgrees (pumped w l link node states s) (after_lines r s.events) c (served_link link s) [] []) where
  open link.consumer.dialed use {vb}

  abbrev now : PlainWorld
  now = pumped w l link node states s

  abbrev read : Chronicle
  read = after_lines r s.events

  abbrev here : PlainLink
  here = served_link link s

  abbrev dial : Dial
  dial = own_dial w r l link node found states s g

  noted : NotedLink (read.takeover_of l) here
  noted = noted_here w r l link node found states s g

  is_number : link_number here ≡ l
  is_number = numbered w r l link node found states s g

  module _ (t : Heir (vb_of now (producer_node here) vb) (read.stream_of (Link (link_number here)) vb) here.server here.consumer la.talk.asked (spoken la.talk.said)) (said : read.stated_of (link_number here) ≡ Some Role.Active) (kept : s.end.streams ≡ t.stream ∷ []) where
    abbrev name : StreamName
    name = s.end.desk.stream

    abbrev Comes : States × Next → Type 0
    Comes x = TurnsSoFar w r l link node (x.0, one_came s x.1)

    left : t.granted_is.over ≡ false
    left = false_from_ne_true t.granted_is.over (λ e. let z : t.stream ∷ [] ≡ [] = sym kept ∙ t.stream_is ∙ ap (λ q. kept_stream q t.stream) e in cc)

    told : read.stream_of (Link l) vb ≡ Some t.granted_is
    told = ap (λ k. read.stream_of (Link k) vb) (sym is_number) ∙ t.told

    -- what is noted of its stream
    noted_head : NotedStream (read.takeover_of l) t.stream
    noted_head = All-head (NotedStream (read.takeover_of l)) t.stream [] (subst (All (NotedStream (read.takeover_of l))) kept noted.each)

    noted_turned : (read.takeover_of l).turned ≡ t.stream.ended
    noted_turned = noted_head.turned

    -- as it was before the group
    turned_before : (r.takeover_of (link_number link)).turned ≡ (read.takeover_of l).turned
    turned_before = ap (λ k. (r.takeover_of k).turned) is_number ∙ ap (λ (q : ℕ → TakeoverKnown). (q l).turned) (sym (lines_takeovers r s.events))

    owned_head : OwnedBy (read.takeover_of l) t.stream
    owned_head = All-head (OwnedBy (read.takeover_of l)) t.stream [] (subst (All (OwnedBy (read.takeover_of l))) kept
        (subst (λ (t : ℕ → TakeoverKnown). All (OwnedBy (t l)) s.end.streams) (sym (lines_takeovers r s.events)) (subst (λ k. All (OwnedBy (r.takeover_of k)) s.end.streams) is_number g.known.owned)))

    -- ---- the end is put

    -- the two ends stand so then
    ends_with : (pv : Option Plain) (why : ℕ) (f : Frame) → (f ≡ dcp_frame (StreamEnd why) here.consumer.asked vb) → why ≡ end_reason t.stream.ended → (t.stream.ended ≡ false → t.answered ≡ true)
        → Heir pv ((with_changed read (Link l) finished).stream_of (Link (link_number here)) vb) (record here.server { streams = [] }) here.consumer la.talk.asked (spoken la.talk.said ++ f ∷ [])
    ends_with pv why f is reason done = record {
      granted_is = finished t.granted_is;
      told = given_as w r l link node found states s g c a la t.granted_is t.told finished;
      stream = t.stream;
      stream_is = refl;
      vb_is = t.vb_is;
      opaque_is = t.opaque_is;
      numbered = t.numbered;
      apart = t.apart;
      whole = t.whole;
      last = t.last;
      server = t.server;
      answered = t.answered;
      gives_is = t.gives_is;
      for_takeover = t.for_takeover;
      flag_is = t.flag_is;
      owns = t.owns;
      granted = t.granted;
      small = t.small;
      acks = t.acks;
      over_done = λ q e. done e;
      opens = λ e q. never q;
      none_marked = t.none_marked;
      none_coming = t.none_coming;
      end_is = ap (λ fs. fs ++ f ∷ []) (t.end_is ∙ ap (end_frames here.consumer.asked vb (end_reason t.stream.ended)) left) ∙ ap (λ x. x ∷ []) (is ∙ ap (λ n. dcp_frame (StreamEnd n) here.consumer.asked vb) reason);
    }

    frame_is : (why : ℕ) → dcp_frame (StreamEnd why) t.stream.opaque t.stream.vb ≡ dcp_frame (StreamEnd why) here.consumer.asked vb
    frame_is why = λ i. dcp_frame (StreamEnd why) (t.opaque_is i) (t.vb_is i)

    -- its line is lawful
    lawful : (why : ℕ) → (t.granted_is.ask.flags ≡ 0 → why ≡ 2) → LawfulFinish read (Link l) why
    lawful why by = (t.granted_is, (vb, dialed_vb w r l link node found states s g c a la, told), left, t.last, λ flags none. by flags)

    known : (f : Frame) (line : Event) → LinkKnown r (with_changed read (Link l) finished) (link_with link s [] 0 f line)
    known f line = record { noted = record { dialed = g.known.noted.dialed; each = All-nil _ }; owned = All-nil _; kept = All-nil _ }

    -- of a stream that a change of role ended
    ended_turn : t.stream.ended ≡ true → Comes (states, over STATE_CHANGED t.stream)
    ended_turn ended =
        let f : Frame = dcp_frame (StreamEnd STATE_CHANGED) t.stream.opaque t.stream.vb in let f_is = frame_is STATE_CHANGED in
        let line : Event = event.Finished name STATE_CHANGED in (
          so_far_more w r l link node states states s (end_with s [] 0 f line).end f (s.count + 1) line (event.Finished (Link l) STATE_CHANGED) g (ap (λ n. event.Finished n STATE_CHANGED) (named w r l link node found states s g c a la)) tt
              (lawful STATE_CHANGED (λ flags. refl)) g.desk (
                c,
                put_agrees w r l link node found states s g c a la [] 0 f line (with_changed read (Link l) finished) (told_stream read l finished) refl
                    (acked_still _ finished (read.stream_of (Link (link_number here)) vb) here.consumer.acked (λ x. refl) la.acks)
                    (subst Readable (sym f_is) (end_readable here.consumer.asked vb t.small la.small.1)) (message_spoken (StreamEnd STATE_CHANGED) t.stream.opaque t.stream.vb) (λ v id has. absurd has)
                    (EndsStand.IsHeir (ends_with (vb_of now (producer_node here) vb) STATE_CHANGED f f_is (ap end_reason (sym ended)) (λ e. let z : true ≡ false = sym ended ∙ e in cc)) said),
              )
              (known f line) (All-nil _) (λ d x is has. inr (refl, noted_turned ∙ ended)) (eq-eqb l l refl) (others_stream w read l finished) (subst Readable (sym f_is) (end_readable here.consumer.asked vb t.small la.small.1))
              (so_ends r link f true here.consumer.asked vb f_is (λ takes. turned_before ∙ noted_turned ∙ ended)),
          refl,
        )

    module _ (going : t.stream.ended ≡ false) where
      abbrev at : OpenYet t.stream.id (vb_of now (producer_node here) vb)
      at = t.opens going left

      open at use {producer as p}

      producer_agrees : VbAgrees read (producer_node here) vb (c.nodes (producer_seat here)) p
      producer_agrees = subst (AgreesAt read (producer_node here) vb (c.nodes (producer_seat here))) at.producer_is (a.vbs (producer_node here) vb)

      steady : (read.takeover_of l).turned ≡ false
      steady = noted_turned ∙ going

      -- the vBucket was handed over
      handed : IsHanded read l dial
      handed = record { steady = steady; stated = ap read.stated_of (sym is_number) ∙ said; dead = producer_agrees.role ∙ ap (λ x. Some (Some x)) at.dead }

      -- its consumer's took over, or was given up again since
      consumer_agrees : VbAgrees read (consumer_node here) vb (c.nodes (consumer_seat here)) la.follower
      consumer_agrees = subst (AgreesAt read (consumer_node here) vb (c.nodes (consumer_seat here))) la.follower_is (a.vbs (consumer_node here) vb)

      owns_by : (role : Role) → read.role_at (consumer_node here) vb ≡ Some (Some role) → FollowsBy (Some Own) role → (read.role_at (consumer_node here) vb ≡ Some (Some Role.Active)) ⊎ (read.role_at (consumer_node here) vb ≡ Some (Some Role.Dead))
      owns_by Role.Active has own = inl has
      owns_by Role.Dead has own = inr has
      owns_by Role.Replica has own = cc
      owns_by Role.Pending has own = cc

      owned_over : t.answered ≡ true → (d : Dial) (g' : Granted) → IsTakeover read l d → read.stream_of (Link l) d.vb ≡ Some g' → EndsHanded read l d g' ALL_SENT
      owned_over answered d g' x has =
          let both : Some dial ≡ Some d = sym (dial_told w r l link node found states s g c a la) ∙ x.0 in let same : dial ≡ d = cc in
          let mine : Some t.granted_is ≡ Some g' = sym told ∙ subst (λ (y : Dial). read.stream_of (Link l) y.vb ≡ Some g') (sym same) has in let one : t.granted_is ≡ g' = cc in
          let gives : t.stream.gives ≡ Some (record { step = End }) = t.gives_is ∙ ap (λ b. Some (heir_step b)) answered in
          let came : HEADER_LEN ≤ (read.takeover_of l).moved = subst (CameIf (read.takeover_of l).moved) gives noted_head.came in
          subst (λ y. EndsHanded read l y g' ALL_SENT) same (subst (λ h. EndsHanded read l dial h ALL_SENT) one (inl (
            refl,
            record {
              handed = handed;
              answered = record { has = owns_by la.follower.role consumer_agrees.role (subst (λ last. FollowsBy last la.follower.role) (ap (λ (x : TakeOver). x.last) t.owns) la.follows); told = owned_head gives; marks = t.none_marked; items = t.none_coming; moved = came };
            },
          )))

      -- of one that was not answered yet none is put
      waits : Stopped read l Why.WaitState
      waits = record {
        idle = λ e. cc;
        saved = λ e. cc;
        state = λ e. (
          dial,
          t.granted_is,
          record {
            takes_on = record { dialed = dial_told w r l link node found states s g c a la; takeover = noted.dialed ∙ t.for_takeover; stream = told; goes_on = left };
            stated = inr handed;
          },
        );
        unread = λ e. cc;
      }

      wait_turn : t.answered ≡ false → Comes (states, quiet Waits.State t.stream)
      wait_turn answered = (so_far_turned w r l link node found states s (t.stream ∷ []) 1 kept g, waits, record { full = λ e. cc; some = λ e. cc; waiting = λ e. (t.stream, refl, going, inr (inr (t.gives_is ∙ ap (λ b. Some (heir_step b)) answered))) })

      -- of one that was, the stream is closed
      has : states t.stream.vb ≡ Some p
      has = ap states t.vb_is ∙ sym (pumped_here w l link node states s vb) ∙ ap (λ (d : Desk). vb_of now d.node vb) (sym g.desk) ∙ at.producer_is

      abbrev closed : Plain
      closed = closed_vb p t.stream.id

      abbrev states_after : States
      states_after = with_vb_at states t.stream.vb closed

      abbrev f : Frame
      f = dcp_frame (StreamEnd ALL_SENT) t.stream.opaque t.stream.vb

      abbrev line : Event
      line = event.Finished name ALL_SENT

      abbrev now_after : PlainWorld
      now_after = pumped w l link node states_after (end_with s [] 0 f line)

      became : Became now now_after (producer_node here) vb closed l (link_with link s [] 0 f line)
      became = subst (λ v. Changed now now_after (producer_node here) v closed (row_put link_number l (link_with link s [] 0 f line) now.links)) t.vb_is
          (subst (λ (d : Desk). Changed now now_after d.node t.stream.vb closed (row_put link_number l (link_with link s [] 0 f line) now.links)) (sym g.desk) (record {
            powers = pumped_powers w l link node states states_after s (end_with s [] 0 f line);
            here = pumped_here w l link node states_after (end_with s [] 0 f line) t.stream.vb ∙ closed_here;
            there = λ m q other. pumped_where w l link node states states_after s (end_with s [] 0 f line) m q (λ same. closed_there q (λ e. other same e));
            shelves = λ m q other. pumped_shelves w l link node states states_after s (end_with s [] 0 f line) m q;
            uuids = refl;
            linked = relinked_twice w r l link node found states s g (end_with s [] 0 f line);
          }))
        where
          closed_here : states_after t.stream.vb ≡ Some closed
          closed_here = ap (λ b. if b then Some closed else states t.stream.vb) (eq-eqb t.stream.vb t.stream.vb refl)

          closed_there : (q : ℕ) → (q ≡ t.stream.vb → ⊥) → states_after q ≡ states q
          closed_there q ne = ap (λ b. if b then Some closed else states q) (ne_eqb q t.stream.vb ne)

      fed : FeedChanged (consumer_seat here) c c
      fed = record { changed = record { tree = refl; others = λ j ne. refl; disks = λ j ne. refl }; fed = fed_same (c.nodes (consumer_seat here)); disk = refl }

      closed_agrees : StaysSound → t.answered ≡ true → AgreesIn idle now_after (with_changed read (Link l) finished) c
      closed_agrees stays answered = carries_producer idle idle now now_after read (with_changed read (Link l) finished) c c l here (link_with link s [] 0 f line) t.stream.id p closed a (found_here w r l link node found states s g) (record { dialed = refl; desk = refl })
          at.producer_is (record { sound = stays p (VbCall.CloseStream t.stream.id) producer_agrees.sound tt; alone = refl; others = λ x ne. closed_others t.stream.id x p.streams ne })
          became (pumped_shelves w l link node states states_after s (end_with s [] 0 f line) (producer_node here) vb) (inl (subst (HasOpen vb t.stream.id) (sym kept) (inl (t.vb_is, refl, going))))
          (λ v k has. absurd has) (told_stream read l finished) fed a.sound (λ k ne. refl) (record {
            follower = la.follower;
            follower_is = became.there (consumer_node here) vb (λ q e. t.apart (sym q)) ∙ la.follower_is;
            follows = la.follows;
            acks = acked_still _ finished (read.stream_of (Link (link_number here)) vb) here.consumer.acked (λ x. refl) la.acks;
            dial = la.dial;
            talk = record {
              asked = la.talk.asked;
              said = la.talk.said ++ f ∷ [];
              stands = stands_with w r l link node found states s g c a la [] 0 f line (c.nodes (consumer_seat here)) (c.nodes (producer_seat here)) (with_changed read (Link l) finished) now_after (message_spoken (StreamEnd ALL_SENT) t.stream.opaque t.stream.vb)
                  (EndsStand.IsHeir (ends_with (vb_of now_after (producer_node here) vb) ALL_SENT f (frame_is ALL_SENT) (ap end_reason (sym going)) (λ e. answered)) said);
              ups = la.talk.ups;
              downs = downs_with w r l link node found states s g c a la [] 0 f line (subst Readable (sym (frame_is ALL_SENT)) (done_readable here.consumer.asked vb t.small la.small.1));
            };
          })

      close_turn : StaysSound → t.answered ≡ true → Comes (states_after, over ALL_SENT t.stream)
      close_turn stays answered = (
        so_far_more w r l link node states states_after s (end_with s [] 0 f line).end f (s.count + 1) line (event.Finished (Link l) ALL_SENT) g (ap (λ n. event.Finished n ALL_SENT) (named w r l link node found states s g c a la)) tt
            (lawful ALL_SENT (λ flags. let z : ◌≡◌ {A = ℕ} 1 0 = sym t.flag_is ∙ flags in absurd (omega (arith, z)))) g.desk (c, closed_agrees stays answered) (known f line) (All-nil _) (owned_over answered) (eq-eqb l l refl) (others_stream w read l finished) (subst Readable (sym (frame_is ALL_SENT)) (done_readable here.consumer.asked vb t.small la.small.1))
            (so_ends r link f false here.consumer.asked vb (frame_is ALL_SENT) (λ takes. turned_before ∙ steady)),
        refl,
      )

      step_turn : StaysSound → (b : Bool) → t.answered ≡ b → Comes (after_reads (alive_next name t.stream (Some (heir_step b))) node.shelves states)
      step_turn stays true answered = subst (λ x. Comes x) (sym (ap (λ o. ((call_at states t.stream.vb (VbCall.CloseStream t.stream.id) o).0, over ALL_SENT t.stream)) has)) (close_turn stays answered)
      step_turn stays false answered = wait_turn answered

    by_end : StaysSound → (b : Bool) → t.stream.ended ≡ b → Comes (after_reads (next_by name t.stream None) node.shelves states)
    by_end stays true ended = subst (λ b. Comes (after_reads (if b then Ended (over STATE_CHANGED t.stream) else alive_next name t.stream t.stream.gives) node.shelves states)) (sym ended) (ended_turn ended)
    by_end stays false going = subst (λ b. Comes (after_reads (if b then Ended (over STATE_CHANGED t.stream) else alive_next name t.stream t.stream.gives) node.shelves states)) (sym going)
        (subst (λ o. Comes (after_reads (alive_next name t.stream o) node.shelves states)) (sym t.gives_is) (step_turn going stays t.answered refl))

    next_turn : StaysSound → Comes (after_reads (next_frame name t.stream) node.shelves states)
    unfolding next_frame
    next_turn stays = by (slice_get t.stream.items t.stream.next) refl
      where
        by : (o : Option Change) → slice_get t.stream.items t.stream.next ≡ o → Comes (after_reads (next_by name t.stream o) node.shelves states)
        by None e = by_end stays t.stream.ended refl
        by (Some item) e = let l = found_below t.stream.items t.stream.next item e in let whole = t.whole in absurd (omega (arith, l, whole))

    pub heir_turn : StaysSound → lets_through s.end ≡ true → TurnsSoFar w r l link node (after_reads (one_frame (pull_of s none_quiet)) node.shelves states)
    heir_turn stays free =
        subst (λ prog. TurnsSoFar w r l link node (after_reads prog node.shelves states)) (sym (one_frame_of s t.stream kept free))
        (subst (TurnsSoFar w r l link node) (sym (after_reads_bind (next_frame name t.stream) (λ next. Ended (one_came s next)) node.shelves states)) (next_turn stays))
