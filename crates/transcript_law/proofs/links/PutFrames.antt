-- a frame of a link's stream is put: what that leaves at the two ends, where no vBucket changes
use Rattle.std.specs.Prelude.{◌≡◌, ◌∷◌, ◌++◌}
use Rattle.transcript_law.proofs.Words.{Granted, ℕ, true, false, [], refl, ap, sym, ◌∙◌, subst, append_assoc, List, Some, option_map, Frame, Event, spelling, Member, Cluster}
use Rattle.transcript_law.proofs.Words.{Readable, States, Served, PlainLink, PlainNode, PlainStream, PlainWorld, Chronicle, Dial, after_lines, is_dial_of, link_number, producer_node, consumer_node, row_at, row_put, with_changed}
use Rattle.transcript_law.proofs.invariant.Agreement.{AckedIs, AgreesIn, DownAgrees, EndsStand, LinkAgrees, idle, is_refused_ack, producer_seat, consumer_seat, spoken, vb_of, wants_of}
use Rattle.transcript_law.proofs.invariant.{Carrying.{NoNewStream, ToldOf}, LinkRows.{found_is_link, put_is_found, put_twice}, OneLink.{carries_link}, Tables.{changed_here, is_dialed}}
use Rattle.transcript_law.proofs.links.{PumpWorlds.{SoFar, pumped, served_link}, Spoken.{spoken_push}, Talks.{more_down}, Windows.{stands_served}}
use Rattle.{dcp_producer.specs.Pulling.{frame_put}, vb_events.specs.declared.event.StreamName.TheVariants.{Link}}
use Rattle.transcript_law.proofs.{invariant.Noted.{NotedLink}, lines.Takeovers.{lines_takeovers}}
use Rattle.transcript_law.specs.LinesTold.{TakeoverKnown}

-- a producer's end that put one more frame, with these streams; its link; and what there is of it behind a line
abbrev pub put_with : Served → List PlainStream → ℕ → Frame → Event → Served
put_with s streams turned f line = frame_put f line (record s { end = record s.end { streams = streams; turn = turned } })

abbrev pub link_with : PlainLink → Served → List PlainStream → ℕ → Frame → Event → PlainLink
link_with link s streams turned f line = record (served_link link s) { server = (put_with s streams turned f line).end; down = link.down ++ (s.out ++ spelling f) }

abbrev pub end_with : Served → List PlainStream → ℕ → Frame → Event → Served
end_with s streams turned f line = record { end = (put_with s streams turned f line).end; events = []; out = s.out ++ spelling f; count = 0; resolved = [] }

module _ (w : PlainWorld) (r : Chronicle) (l : ℕ) (link : PlainLink) (node : PlainNode) (found : row_at link_number l w.links ≡ Some link) (states : States) (s : Served) (g : SoFar w r l link node states s) where
  -- the vBucket at both ends
  open link.consumer.dialed use {vb}

  -- the world, the lines and the link so far
  abbrev pub now : PlainWorld
  now = pumped w l link node states s

  abbrev pub read : Chronicle
  read = after_lines r s.events

  abbrev pub here : PlainLink
  here = served_link link s

  pub numbered : link_number here ≡ l
  numbered = (found_is_link l w.links link found).1

  pub found_here : row_at link_number l now.links ≡ Some here
  found_here = put_is_found l w.links link here found numbered

  -- the link with another end, in a world with other vBuckets of the node
  pub relinked_twice : (s' : Served) → row_put link_number l (served_link link s') w.links ≡ row_put link_number l (served_link link s') now.links
  relinked_twice s' = sym (put_twice l w.links here (served_link link s') numbered)

  -- what is noted of takeovers is what was before the group
  pub noted_here : NotedLink (read.takeover_of l) here
  noted_here = subst (λ (t : ℕ → TakeoverKnown). NotedLink (t l) here) (sym (lines_takeovers r s.events)) (subst (λ k. NotedLink (r.takeover_of k) here) numbered g.known.noted)

  -- the link as it was dialed
  abbrev pub own_dial : Dial
  own_dial = record { producer = producer_node here; node = consumer_node here; vb = vb }

  module _ (c : Cluster) (a : AgreesIn idle now read c) (la : LinkAgrees now read c here [] []) where
    pub named : s.end.desk.stream ≡ Link l
    named = la.named ∙ ap (λ n. Link n) numbered

    pub dial_told : read.dial_of l ≡ Some own_dial
    dial_told = ap read.dial_of (sym numbered) ∙ la.dialed

    pub dialed_vb : is_dial_of vb (read.dial_of l) ≡ true
    dialed_vb = is_dialed (read.dial_of l) (producer_node here) (consumer_node here) vb dial_told

    -- what a line about the stream tells of it
    pub given_as : (told : Granted) → read.stream_of (Link (link_number here)) vb ≡ Some told → (change : Granted → Granted) → (with_changed read (Link l) change).stream_of (Link (link_number here)) vb ≡ Some (change told)
    given_as told is change = ap (λ k. (with_changed read (Link l) change).stream_of (Link k) vb) numbered ∙ changed_here read l vb change dialed_vb ∙ ap (λ k. option_map change (read.stream_of (Link k) vb)) (sym numbered) ∙ ap (option_map change) is

    -- the link with these streams at its producer and one more frame on its way
    module _ (streams : List PlainStream) (turned : ℕ) (f : Frame) (line : Event) where
      abbrev after : PlainLink
      after = link_with link s streams turned f line

      abbrev left : Served
      left = end_with s streams turned f line

      pub downs_with : Readable f → DownAgrees after [] (la.talk.said ++ f ∷ [])
      downs_with good = more_down here after.server after.down f la.talk.said (sym (append_assoc link.down s.out (spelling f))) good la.talk.downs

      -- its consumer hears one more
      pub stands_with : (kn : Member) (leader : Member) (r' : Chronicle) (w' : PlainWorld) → is_refused_ack f ≡ false
          → EndsStand (wants_of la.follower) kn (vb_of w' (producer_node here) vb) leader (r'.stream_of (Link (link_number here)) vb) (r'.stated_of (link_number here)) (r'.point_of (link_number here)) (record here.server { streams = streams }) here.consumer la.talk.asked (spoken la.talk.said ++ f ∷ [])
          → EndsStand (wants_of la.follower) kn (vb_of w' (producer_node here) vb) leader (r'.stream_of (Link (link_number here)) vb) (r'.stated_of (link_number here)) (r'.point_of (link_number here)) after.server here.consumer la.talk.asked (spoken (la.talk.said ++ f ∷ []))
      stands_with kn leader r' w' heard x =
          subst (EndsStand (wants_of la.follower) kn (vb_of w' (producer_node here) vb) leader (r'.stream_of (Link (link_number here)) vb) (r'.stated_of (link_number here)) (r'.point_of (link_number here)) after.server here.consumer la.talk.asked) (sym (spoken_push la.talk.said f heard))
          (stands_served x after.server (record { desk = refl; handshake = refl; asked = refl; streams = refl }))

      -- all agrees, where no vBucket changed
      pub put_agrees : (r' : Chronicle) → ToldOf l read r' → r'.dial_of (link_number here) ≡ read.dial_of (link_number here) → AckedIs (r'.stream_of (Link (link_number here)) vb) here.consumer.acked → Readable f → is_refused_ack f ≡ false → NoNewStream here after
          → EndsStand (wants_of la.follower) (c.nodes (consumer_seat here)) (vb_of now (producer_node here) vb) (c.nodes (producer_seat here)) (r'.stream_of (Link (link_number here)) vb) (r'.stated_of (link_number here)) (r'.point_of (link_number here)) (record here.server { streams = streams }) here.consumer la.talk.asked (spoken la.talk.said ++ f ∷ [])
          → AgreesIn idle (pumped w l link node states left) r' c
      put_agrees r' told dials acks good heard less x = carries_link idle idle now (pumped w l link node states left) read r' c l here after a found_here
          (record { dialed = refl; desk = refl }) (record { powers = λ m. refl; vbs = λ m q. refl; shelves = λ m q. refl; uuids = refl; linked = relinked_twice left }) less told (λ k ne. refl) (record {
            follower = la.follower;
            follower_is = la.follower_is;
            follows = la.follows;
            acks = acks;
            dial = record { dialed = dials ∙ la.dial.dialed; named = la.dial.named; small = la.dial.small };
            talk = record { asked = la.talk.asked; said = la.talk.said ++ f ∷ []; stands = stands_with (c.nodes (consumer_seat here)) (c.nodes (producer_seat here)) r' now heard x; ups = la.talk.ups; downs = downs_with good };
          })
