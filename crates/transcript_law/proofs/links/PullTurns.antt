-- one frame of a link's producer, wherever the two ends stand
use Rattle.std.specs.Prelude.{◌≡◌, ◌∷◌, ◌++◌}
use Rattle.transcript_law.proofs.Words.{Bool, Chronicle, Cluster, Granted, Halt, None, Option, PlainLink, PlainNode, PlainWorld, Served, Some, States, StaysSound, TakesSnapshots, Turn}
use Rattle.transcript_law.proofs.Words.{[], after_lines, ap, false, link_number, producer_node, refl, row_at, subst, sym, true, ℕ, ◌∙◌, ⊎_elim}
use Rattle.transcript_law.proofs.invariant.Agreement.{AgreesIn, EndsStand, LinkAgrees, consumer_seat, idle, kept_stream, producer_seat, spoken, vb_of, wants_of}
use Rattle.transcript_law.proofs.{invariant.LinkRows.{found_is_link}, lines.Pulling.{lets_through}}
use Rattle.transcript_law.proofs.links.{HeirTurns.{heir_turn}, Idling.{all_put_by}, PumpWorlds.{SoFar, TurnsSoFar, full_stopped, pumped, served_link}, PutFrames.{dial_told, found_here, numbered, own_dial}, StreamTurns.{stream_turn}}
use Rattle.dcp_producer.{proofs.OneStream.{no_frame_of, one_came, one_frame_of, shut_frame_of}, specs.Frames.{Next, next_frame}, specs.Pulling.{Pulling, none_quiet, one_frame, pull_of}}
use Rattle.dcp_producer.specs.declared.next_frame.NextFrame.TheVariants as frame
use Rattle.dcp_producer.specs.declared.next_frame.Waits.{Waits}
use Rattle.transcript_law.proofs.{Words.{Event, Frame, List, Member, More, Plain, PlainStream, Role, Stop, Why, why_of}, invariant.Agreement.{Wants}}
use Rattle.{std.proofs.lemmas.Bool.{cases_Bool}, vb_events.specs.declared.event.StreamName.TheVariants.{Link}}
use Rattle.transcript_law.specs.{LinesTold.{Dial}, TakeoverAnswers.{NoneTakesOn}, Undone.{AllPut}}
use Rattle.vb_calls.proofs.JobReadings.{after_reads_bind}
use Rattle.vb_calls.specs.Jobs.{Ended, after_reads}

module _ (w : PlainWorld) (r : Chronicle) (l : ℕ) (link : PlainLink) (node : PlainNode) (found : row_at link_number l w.links ≡ Some link) (states : States) (s : Served) (g : SoFar w r l link node states s) where
  -- the vBucket at both ends
  open link.consumer.dialed use {vb}

  abbrev now : PlainWorld
  now = pumped w l link node states s

  abbrev read : Chronicle
  read = after_lines r s.events

  abbrev here : PlainLink
  here = served_link link s

  -- what is to hold after the turn
  abbrev Goal : Type 0
  Goal = TurnsSoFar w r l link node (after_reads (one_frame (pull_of s none_quiet)) node.shelves states)

  is_number : link_number here ≡ l
  is_number = numbered w r l link node found states s g

  abbrev dial : Dial
  dial = own_dial w r l link node found states s g

  module _ (c : Cluster) (a : AgreesIn idle now read c) (la : LinkAgrees now read c here [] []) where
    dialed : read.dial_of l ≡ Some dial
    dialed = dial_told w r l link node found states s g c a la

    same_dial : (d : Dial) → read.dial_of l ≡ Some d → dial ≡ d
    same_dial d e = let z : Some dial ≡ Some d = sym dialed ∙ e in cc

    stream_told : (o : Option Granted) → read.stream_of (Link (link_number here)) vb ≡ o → read.stream_of (Link l) vb ≡ o
    stream_told o e = ap (λ k. read.stream_of (Link k) vb) (sym is_number) ∙ e

    -- a link of which no stream is told, and one whose stream is over, have no more to put, and take nothing over
    untold_put : read.stream_of (Link (link_number here)) vb ≡ None → AllPut read l × NoneTakesOn read l
    untold_put none = (
      all_put_by read l dial None dialed (stream_told None none) (λ g is over. cc),
      λ d other x. let z : None ≡ Some other = sym (stream_told None none) ∙ subst (λ (y : Dial). read.stream_of (Link l) y.vb ≡ Some other) (sym (same_dial d x.dialed)) x.stream in cc,
    )

    over_put : (g : Granted) → read.stream_of (Link (link_number here)) vb ≡ Some g → g.over ≡ true → AllPut read l × NoneTakesOn read l
    over_put g is over = (
      all_put_by read l dial (Some g) dialed (stream_told (Some g) is)
          (λ g' same goes. let one : g ≡ g' = cc in let z : true ≡ false = sym over ∙ ap (λ (x : Granted). x.over) one ∙ goes in cc),
      λ d other x.
          let q : Some g ≡ Some other = sym (stream_told (Some g) is) ∙ subst (λ (y : Dial). read.stream_of (Link l) y.vb ≡ Some other) (sym (same_dial d x.dialed)) x.stream in
          let one : g ≡ other = cc in let z : true ≡ false = sym over ∙ ap (λ (y : Granted). y.over) one ∙ x.goes_on in cc,
    )

    -- where the connection has no stream, nothing is put
    none_turn : AllPut read l × NoneTakesOn read l → s.end.streams ≡ [] → lets_through s.end ≡ true → Goal
    none_turn put none free = subst (λ prog. TurnsSoFar w r l link node (after_reads prog node.shelves states)) (sym (no_frame_of s none free)) (g, record { idle = λ e. put; saved = λ e. cc; state = λ e. cc; unread = λ e. cc }, record { full = λ e. cc; some = λ e. cc; waiting = λ e. cc })

    talk_turn : TakesSnapshots → StaysSound → lets_through s.end ≡ true
        → EndsStand (wants_of la.follower) (c.nodes (consumer_seat here)) (vb_of now (producer_node here) vb) (c.nodes (producer_seat here)) (read.stream_of (Link (link_number here)) vb) (read.stated_of (link_number here)) (read.point_of (link_number here)) here.server here.consumer
        la.talk.asked (spoken la.talk.said) → Goal
    talk_turn takes stays free (EndsStand.IsAsking ask none t) = none_turn (untold_put none.0) t.no_stream free
    talk_turn takes stays free (EndsStand.IsRefusedYet none t) = none_turn (untold_put none.0) t.no_stream free
    talk_turn takes stays free (EndsStand.IsStreaming t stated) = ⊎_elim (λ e. none_turn (over_put t.granted_is t.told e) (t.stream_is ∙ ap (λ q. kept_stream q t.stream) e) free)
        (λ e. stream_turn w r l link node found states s g c a la t stated (t.stream_is ∙ ap (λ q. kept_stream q t.stream) e) takes free) (cases_Bool t.granted_is.over)
    talk_turn takes stays free (EndsStand.IsHeir t stated) = ⊎_elim (λ e. none_turn (over_put t.granted_is t.told e) (t.stream_is ∙ ap (λ q. kept_stream q t.stream) e) free)
        (λ e. heir_turn w r l link node found states s g c a la t stated (t.stream_is ∙ ap (λ q. kept_stream q t.stream) e) stays free) (cases_Bool t.granted_is.over)

  -- the next frame, while the window is open
  open_turn : TakesSnapshots → StaysSound → lets_through s.end ≡ true → Goal
  open_turn takes stays free =
      let (c, a) = g.agrees in let la = a.links here (found_is_link l now.links here (found_here w r l link node found states s g)).0 in talk_turn c a la takes stays free la.talk.stands

  -- and whether it is open or shut
  pub turn : TakesSnapshots → StaysSound → Goal
  turn takes stays = by (lets_through s.end) refl
    where
      by : (b : Bool) → lets_through s.end ≡ b → Goal
      by true free = open_turn takes stays free
      by false shut = subst (λ prog. TurnsSoFar w r l link node (after_reads prog node.shelves states)) (sym (shut_frame_of s none_quiet shut)) (g, full_stopped read l, record { full = λ e. shut; some = λ e. cc; waiting = λ e. cc })

  -- ---- what is told

  -- one line more where a frame was put, and none where none was
  abbrev pub Grows : Turn Pulling (Served × Halt) → Type 0
  Grows (More p) = (line : Event) × (p.served.events ≡ s.events ++ line ∷ [])
  Grows (Stop stopped) = (stopped.0.events ≡ s.events) × (why_of stopped.1 ≡ Why.Full → lets_through s.end ≡ false)

  one_grows : (next : Next) → Grows (one_came s next)
  one_grows (frame.Put m line, left) = (line, refl)
  one_grows (frame.End reason, left) = (Event.Finished s.end.desk.stream reason, refl)
  one_grows (frame.Quiet Waits.Nothing, left) = (refl, λ e. cc)
  one_grows (frame.Quiet Waits.Saved, left) = (refl, λ e. cc)
  one_grows (frame.Quiet Waits.State, left) = (refl, λ e. cc)
  one_grows (frame.Disk, left) = (refl, λ e. cc)

  none_grows : s.end.streams ≡ [] → lets_through s.end ≡ true → Grows (after_reads (one_frame (pull_of s none_quiet)) node.shelves states).1
  none_grows none free = subst (λ prog. Grows (after_reads prog node.shelves states).1) (sym (no_frame_of s none free)) (refl, λ e. cc)

  stream_grows : (t : PlainStream) → s.end.streams ≡ t ∷ [] → lets_through s.end ≡ true → Grows (after_reads (one_frame (pull_of s none_quiet)) node.shelves states).1
  stream_grows t one free =
      subst (λ prog. Grows (after_reads prog node.shelves states).1) (sym (one_frame_of s t one free))
      (subst (λ (x : States × Turn Pulling (Served × Halt)). Grows x.1) (sym (after_reads_bind (next_frame s.end.desk.stream t) (λ next. Ended (one_came s next)) node.shelves states)) (one_grows (after_reads (next_frame s.end.desk.stream t) node.shelves states).1))

  pub turn_grows : Grows (after_reads (one_frame (pull_of s none_quiet)) node.shelves states).1
  turn_grows = by (lets_through s.end) refl
    where
      kept_grows : (over : Bool) (t : PlainStream) → s.end.streams ≡ kept_stream over t → lets_through s.end ≡ true → Grows (after_reads (one_frame (pull_of s none_quiet)) node.shelves states).1
      kept_grows true t is free = none_grows is free
      kept_grows false t is free = stream_grows t is free

      stands : {fv : Wants} {kn : Member} {pv : Option Plain} {leader : Member} {o : Option Granted} {said : Option Role} {point : Option ℕ} {asked put : List Frame} → EndsStand fv kn pv leader o said point here.server here.consumer asked put → lets_through s.end ≡ true
          → Grows (after_reads (one_frame (pull_of s none_quiet)) node.shelves states).1
      stands (EndsStand.IsAsking ask none t) free = none_grows t.no_stream free
      stands (EndsStand.IsRefusedYet none t) free = none_grows t.no_stream free
      stands (EndsStand.IsStreaming t stated) free = kept_grows t.granted_is.over t.stream t.stream_is free
      stands (EndsStand.IsHeir t stated) free = kept_grows t.granted_is.over t.stream t.stream_is free

      by : (b : Bool) → lets_through s.end ≡ b → Grows (after_reads (one_frame (pull_of s none_quiet)) node.shelves states).1
      by true free = let (c, a) = g.agrees in stands (a.links here (found_is_link l now.links here (found_here w r l link node found states s g)).0).talk.stands free
      by false shut = subst (λ prog. Grows (after_reads prog node.shelves states).1) (sym (shut_frame_of s none_quiet shut)) (refl, λ e. shut)
