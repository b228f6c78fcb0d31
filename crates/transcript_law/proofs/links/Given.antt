-- a link's stream that has no cursor is given one where its changes come from memory: of that no line tells
use Rattle.std.specs.Prelude.{◌≡◌, ◌∷◌, if◌then◌else◌}
use Rattle.transcript_law.proofs.Words.{ℕ, true, false, [], map, refl, ap, sym, ◌∙◌, subst, Some, inl, ⊎_elim, eq-eqb, ne_eqb, Chronicle, Cluster, Plain, PlainLink, PlainNode, PlainWorld, Served, States, Stream, StreamName, after_lines, consumer_node, link_number, producer_node, row_at, row_put, stream_at, with_vb_at}
use Rattle.dcp_producer.specs.Frames.{place_requested, place_said, placed_next}
use Rattle.dcp_producer.specs.declared.desk.Desk.{Desk}
use Rattle.std.proofs.lemmas.Bool.{leb-true}
use Rattle.transcript_law.proofs.invariant.{Agreement.{AgreesAt, AgreesIn, EndsStand, LinkAgrees, Open, Streaming, VbAgrees, consumer_seat, idle, producer_seat, spoken, stated_in, vb_of, wants_of}, Carried.{sound_streams, told_of_same}, Carrying.{Became, Changed, StreamsChanged}, OneLink.{carries_producer, fed_none}}
use Rattle.transcript_law.proofs.links.{PumpWorlds.{SoFar, pumped, pumped_here, pumped_powers, pumped_shelves, pumped_where, served_link}, PutFrames.{found_here, relinked_twice}}
use Rattle.transcript_law.specs.Feeding.{HasOpen}
use Rattle.vb_calls.proofs.Placing.{given_again, given_here, given_there, with_cursor}
use Rattle.vb_calls.specs.Streams.{given_cursor, is_in_memory}
use Rattle.vb_events.specs.declared.event.StreamName.TheVariants.{Link}
use Rattle.vbucket.proofs.Fed.{feeds_given}
use Rattle.vb_calls.specs.Jobs.{after_reads}

module _ (w : PlainWorld) (r : Chronicle) (l : ℕ) (link : PlainLink) (node : PlainNode) (found : row_at link_number l w.links ≡ Some link) (states : States) (s : Served) (g : SoFar w r l link node states s) where
  open link.consumer.dialed use {vb}

  abbrev now : PlainWorld
  now = pumped w l link node states s

  abbrev read : Chronicle
  read = after_lines r s.events

  abbrev here : PlainLink
  here = served_link link s

  module _ (c : Cluster) (a : AgreesIn idle now read c) (la : LinkAgrees now read c here [] [])
      (t : Streaming (wants_of la.follower) (c.nodes (consumer_seat here)) (vb_of now (producer_node here) vb) (c.nodes (producer_seat here)) (read.stream_of (Link (link_number here)) vb) here.server here.consumer la.talk.asked (spoken la.talk.said))
      (stated : read.stated_of (link_number here) ≡ stated_in t.handing) (kept : s.end.streams ≡ t.stream ∷ []) (going : t.stream.ended ≡ false) where
    abbrev name : StreamName
    name = s.end.desk.stream

    abbrev pub at : Open t.stream.id t.granted_is (vb_of now (producer_node here) vb) (c.nodes (producer_seat here)) t.feed t.handing
    at = t.streams.opens going

    open at use {producer as p}

    has : states t.stream.vb ≡ Some p
    has = ap states t.streams.vb_is ∙ sym (pumped_here w l link node states s vb) ∙ ap (λ (d : Desk). vb_of now d.node vb) (sym g.desk) ∙ at.producer_is

    agrees : VbAgrees read (producer_node here) vb (c.nodes (producer_seat here)) p
    agrees = subst (AgreesAt read (producer_node here) vb (c.nodes (producer_seat here))) at.producer_is (a.vbs (producer_node here) vb)

    module _ (o : Stream) (opened : stream_at t.stream.id p.streams ≡ Some o) (none : o.cursor ≡ false) (near : is_in_memory p o.place ≡ true) where
      abbrev given : Plain
      given = record p { streams = map (given_cursor t.stream.id) p.streams }

      -- the vBuckets then
      abbrev pub given_states : States
      given_states = with_vb_at states t.stream.vb given

      abbrev now_then : PlainWorld
      now_then = pumped w l link node given_states s

      pub changed : StreamsChanged t.stream.id p given
      changed = record {
        sound = sound_streams p given.streams agrees.sound (feeds_given p.role p.floor t.stream.id p.streams o agrees.sound.feeds opened (leb-true p.floor o.place near));
        alone = refl;
        others = λ y ne. given_there t.stream.id y p.streams ne;
      }

      pub became : Became now now_then (producer_node here) vb given l here
      became = subst (λ v. Changed now now_then (producer_node here) v given (row_put link_number l here now.links)) t.streams.vb_is
          (subst (λ (d : Desk). Changed now now_then d.node t.stream.vb given (row_put link_number l here now.links)) (sym g.desk) (record {
            powers = pumped_powers w l link node states given_states s s;
            here = pumped_here w l link node given_states s t.stream.vb ∙ ap (λ b. if b then Some given else states t.stream.vb) (eq-eqb t.stream.vb t.stream.vb refl);
            there = λ m q other. pumped_where w l link node states given_states s s m q (λ same. ap (λ b. if b then Some given else states q) (ne_eqb q t.stream.vb (λ e. other same e)));
            shelves = λ m q other. pumped_shelves w l link node states given_states s s m q;
            uuids = refl;
            linked = relinked_twice w r l link node found states s g s;
          }))

      -- the stream stands as it did
      abbrev pub streaming_given : Streaming (wants_of la.follower) (c.nodes (consumer_seat here)) (vb_of now_then (producer_node here) vb) (c.nodes (producer_seat here)) (read.stream_of (Link (link_number here)) vb) here.server here.consumer la.talk.asked (spoken la.talk.said)
      streaming_given = record {
        granted_is = t.granted_is;
        told = t.told;
        serving = t.serving;
        feed = t.feed;
        fed = t.fed;
        sources = t.sources;
        log_fits = t.log_fits;
        seen = t.seen;
        taking = t.taking;
        streams = record {
          put = t.streams.put;
          opens = λ q. record {
            producer = given;
            producer_is = became.here;
            active = at.active;
            leads = at.leads;
            opened = (let (y, its, ask, sync, place, taken) = at.opened in (with_cursor y, given_here t.stream.id p.streams y its, ask, sync, place, taken));
            reached = at.reached;
          };
          given_in = t.streams.given_in;
          all_taken = t.streams.all_taken;
          over_ended = t.streams.over_ended;
          coming = t.streams.coming;
          way = t.streams.way;
        };
        all = t.all;
      }

      abbrev pub link_given : LinkAgrees now_then read c here [] []
      link_given = record {
        follower = la.follower;
        follower_is = became.there (consumer_node here) vb (λ q e. t.apart (sym q)) ∙ la.follower_is;
        follows = la.follows;
        acks = la.acks;
        dial = la.dial;
        talk = record { asked = la.talk.asked; said = la.talk.said; stands = EndsStand.IsStreaming streaming_given stated; ups = la.talk.ups; downs = la.talk.downs };
      }

      pub agrees_given : AgreesIn idle now_then read c
      agrees_given =
          carries_producer idle idle now now_then read read c c l here here t.stream.id p given a (found_here w r l link node found states s g) (record { dialed = refl; desk = refl })
          at.producer_is changed became (pumped_shelves w l link node states given_states s s (producer_node here) vb)
          (inl (subst (HasOpen vb t.stream.id) (sym kept) (inl (t.streams.vb_is, refl, going))))
          (λ v k open_one. ⊎_elim (λ h. (sym h.0 ∙ t.streams.vb_is, sym h.1)) (λ no. absurd no) (subst (HasOpen v k) kept open_one))
          (told_of_same l read) (fed_none (consumer_seat here) c) a.sound (λ k ne. refl) link_given

      -- it is so far as it was
      abbrev pub given_so_far : SoFar w r l link node given_states s
      given_so_far = record { lawful = g.lawful; quiet = g.quiet; desk = g.desk; agrees = (c, agrees_given); known = g.known; stepped = g.stepped; hands = g.hands; own = g.own; beside = g.beside; ends = g.ends }

      -- and its vBucket is asked as before it
      pub asked_given : after_reads (place_requested name t.stream) node.shelves given_states ≡ after_reads (place_requested name t.stream) node.shelves states
      asked_given =
          let again = given_again states t.stream.vb t.stream.id p o has opened none near in
          λ j. after_reads (placed_next name t.stream (place_said (again j).1)) node.shelves (again j).0
