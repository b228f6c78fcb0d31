-- one frame of a link's producer, of a stream that has a cursor or is given one, or waits
use Rattle.std.specs.Prelude.{◌≡◌, ◌≤◌, ◌∷◌, slice_get}
use Rattle.transcript_law.proofs.Words.{ℕ, Bool, true, false, [], length, map, refl, ap, sym, ◌∙◌, subst, Option, Some, None, Change, Chronicle, Cluster, Plain, PlainLink, PlainNode, PlainWorld, Served, States, Stream, StreamName, TakesSnapshots, after_lines, link_number, producer_node, row_at, stream_at}
use Rattle.dcp_producer.proofs.OneStream.{one_came, one_frame_of}
unfoldable use Rattle.dcp_producer.specs.Frames.{next_frame}
use Rattle.dcp_producer.specs.Frames.{Next, next_by}
use Rattle.dcp_producer.specs.Pulling.{none_quiet, one_frame, pull_of}
use Rattle.transcript_law.proofs.invariant.Agreement.{AgreesIn, LinkAgrees, Open, Streaming, consumer_seat, idle, is_sending, producer_seat, spoken, stated_in, vb_of, wants_of}
use Rattle.transcript_law.proofs.lines.Pulling.{lets_through}
use Rattle.transcript_law.proofs.links.{Given.{agrees_given, asked_given, given_so_far, given_states, link_given, streaming_given}, PumpWorlds.{SoFar, TurnsSoFar, pumped, served_link}, Sent.{not_found}, Turns.{Comes, IsPlaced, alive_turn, asks_place, ended_turn, item_turn}}
use Rattle.vb_calls.proofs.Placing.{given_here, with_cursor}
use Rattle.vb_calls.specs.Streams.{given_cursor, is_in_memory}
use Rattle.vb_events.specs.declared.event.StreamName.TheVariants.{Link}
use Rattle.vb_calls.proofs.JobReadings.{after_reads_bind}
use Rattle.vb_calls.specs.Jobs.{Ended, after_reads}

module _ (w : PlainWorld) (r : Chronicle) (l : ℕ) (link : PlainLink) (node : PlainNode) (found : row_at link_number l w.links ≡ Some link) (states : States) (s : Served) (g : SoFar w r l link node states s) where
  open link.consumer.dialed use {vb}

  abbrev now : PlainWorld
  now = pumped w l link node states s

  abbrev read : Chronicle
  read = after_lines r s.events

  abbrev here : PlainLink
  here = served_link link s

  module _ (c : Cluster) (a : AgreesIn idle now read c) (la : LinkAgrees now read c here [] [])
      (t : Streaming (wants_of la.follower) (c.nodes (consumer_seat here)) (vb_of now (producer_node here) vb) (c.nodes (producer_seat here)) (read.stream_of (Link (link_number here)) vb) here.server here.consumer la.talk.asked (spoken la.talk.said))
      (stated : read.stated_of (link_number here) ≡ stated_in t.handing) (kept : s.end.streams ≡ t.stream ∷ []) where
    abbrev name : StreamName
    name = s.end.desk.stream

    abbrev Coming : States × Next → Type 0
    Coming x = Comes w r l link node found states s g c a la t stated kept x

    module _ (going : t.stream.ended ≡ false) (takes : TakesSnapshots) (whole : length t.stream.items ≤ t.stream.next) where
      abbrev at : Open t.stream.id t.granted_is (vb_of now (producer_node here) vb) (c.nodes (producer_seat here)) t.feed t.handing
      at = t.streams.opens going

      abbrev p : Plain
      p = at.producer

      -- it has a cursor, or is given none
      as_it_is : (is_sending t.handing ≡ true → IsPlaced w r l link node found states s g c a la t stated kept going) → Coming (after_reads (next_by name t.stream None) node.shelves states)
      as_it_is ready = alive_turn w r l link node found states s g c a la t stated kept going ready takes whole t.handing link.consumer.dialed.takeover refl refl

      -- or it is given one first
      given_one : (o : Stream) → stream_at t.stream.id p.streams ≡ Some o → o.cursor ≡ false → is_in_memory p o.place ≡ true → is_sending t.handing ≡ true → Coming (after_reads (next_by name t.stream None) node.shelves states)
      given_one o opened none near sending =
          let then : States = given_states w r l link node found states s g c a la t stated kept going o opened none near in
          let g' : SoFar w r l link node then s = given_so_far w r l link node found states s g c a la t stated kept going o opened none near in
          let a' = agrees_given w r l link node found states s g c a la t stated kept going o opened none near in
          let la' = link_given w r l link node found states s g c a la t stated kept going o opened none near in
          let t' = streaming_given w r l link node found states s g c a la t stated kept going o opened none near in
          subst Coming
          (asks_place w r l link node found then s g' c a' la' t' stated kept going sending
          ∙ asked_given w r l link node found states s g c a la t stated kept going o opened none near
          ∙ sym (asks_place w r l link node found states s g c a la t stated kept going sending))
          (alive_turn w r l link node found then s g' c a' la' t' stated kept going (λ sends q its lost. absurd (has_one o opened q its lost)) takes whole t.handing link.consumer.dialed.takeover refl refl)
        where
          has_one : (o : Stream) → stream_at t.stream.id p.streams ≡ Some o → (q : Stream) → stream_at t.stream.id (map (given_cursor t.stream.id) p.streams) ≡ Some q → q.cursor ≡ false → ⊥
          has_one o opened q its lost =
              let same : Some (with_cursor o) ≡ Some q = sym (given_here t.stream.id p.streams o opened) ∙ its in
              let one : with_cursor o ≡ q = cc in
              let z : true ≡ false = ap (λ (y : Stream). y.cursor) one ∙ lost in cc

      going_turn : Coming (after_reads (next_by name t.stream None) node.shelves states)
      going_turn = by (at.opened.0).cursor (is_in_memory p (at.opened.0).place) (is_sending t.handing) refl refl refl
        where
          -- the stream of its number is this one
          only : (o : Stream) → stream_at t.stream.id p.streams ≡ Some o → (at.opened.0) ≡ o
          only o its = let same : Some (at.opened.0) ≡ Some o = sym at.opened.1 ∙ its in cc

          by : (has m sends : Bool) → (at.opened.0).cursor ≡ has → is_in_memory p (at.opened.0).place ≡ m → is_sending t.handing ≡ sends → Coming (after_reads (next_by name t.stream None) node.shelves states)
          by true m sends has near e = as_it_is (λ q o its none. let z : true ≡ false = sym has ∙ ap (λ (y : Stream). y.cursor) (only o its) ∙ none in cc)
          by false false sends none far e = as_it_is (λ q o its lost. ap (λ (y : Stream). is_in_memory p y.place) (sym (only o its)) ∙ far)
          by false true true none near e = given_one (at.opened.0) at.opened.1 none near e
          by false true false none near e = as_it_is (λ q. let z : true ≡ false = sym q ∙ e in cc)

    -- the next frame of the stream
    next_turn : TakesSnapshots → Coming (after_reads (next_frame name t.stream) node.shelves states)
    unfolding next_frame
    next_turn takes = by (slice_get t.stream.items t.stream.next) refl
      where
        more : length t.stream.items ≤ t.stream.next → (b : Bool) → t.stream.ended ≡ b → Coming (after_reads (next_by name t.stream None) node.shelves states)
        more whole true ended = ended_turn w r l link node found states s g c a la t stated kept ended whole
        more whole false going = going_turn going takes whole

        by : (o : Option Change) → slice_get t.stream.items t.stream.next ≡ o → Coming (after_reads (next_by name t.stream o) node.shelves states)
        by None e = more (not_found t.stream.items t.stream.next e) t.stream.ended refl
        by (Some item) e = item_turn w r l link node found states s g c a la t stated kept item e

    -- the next frame of the connection
    pub stream_turn : TakesSnapshots → lets_through s.end ≡ true → TurnsSoFar w r l link node (after_reads (one_frame (pull_of s none_quiet)) node.shelves states)
    stream_turn takes free =
        subst (λ prog. TurnsSoFar w r l link node (after_reads prog node.shelves states)) (sym (one_frame_of s t.stream kept free))
        (subst (TurnsSoFar w r l link node) (sym (after_reads_bind (next_frame name t.stream) (λ next. Ended (one_came s next)) node.shelves states)) (next_turn takes))
