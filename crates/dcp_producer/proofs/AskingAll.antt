-- a pull that passes over who was quiet comes to the same as one that asks everybody
use Rattle.std.proofs.Common.{◌≡◌, ◌≢◌, ◌+◌, ◌<◌, ℕ, zero, suc, Bool, true, false, List, [], ◌∷◌, ◌++◌, length, refl, sym, ap, ◌∙◌, subst, inl, inr, append-nil, append_assoc, arith, Option, Some, None}
use Rattle.std.specs.Prelude.{if◌then◌else◌, ◌==◌}
use Rattle.std.specs.List.{All}
use Rattle.std.proofs.lemmas.Bool.{false_from_ne_true, eqb-true}
use Rattle.std.proofs.lemmas.Bool.Decides.{nat_tests}
use Rattle.std.proofs.lemmas.List.Elements.{All-head, All-tail, All-nil, All-cons, All-append}
use Rattle.mcbp_dcp.specs.declared.message.DcpMsg.TheVariants as msg
use Rattle.mcbp_dcp.specs.DcpFrames.{dcp_frame}
use Rattle.vb_events.specs.declared.event.Event.TheVariants as event
use Rattle.vb_events.specs.declared.event.StreamName.{StreamName}
use Rattle.vb_calls.specs.States.{States}
use Rattle.vb_calls.specs.Jobs.{Job, Ended, after_reads, bind_job, go_on_job, repeated_job}
use Rattle.vb_calls.specs.Programs.{Turn, More, Stop}
use Rattle.vb_calls.specs.Shelves.{Shelves}
use Rattle.vb_calls.proofs.JobBinds.{bind_job_assoc}
use Rattle.vb_calls.proofs.JobReadings.{after_reads_bind}
use Rattle.flow_control.specs.Windows.{is_open}
use Rattle.dcp_producer.specs.declared.halt.Halt.{Halt}
use Rattle.dcp_producer.specs.declared.halt.Halt.TheVariants as halt
use Rattle.dcp_producer.specs.declared.next_frame.NextFrame.{NextFrame}
use Rattle.dcp_producer.specs.declared.next_frame.NextFrame.TheVariants as next
use Rattle.dcp_producer.specs.declared.next_frame.Waits.{Waits}
use Rattle.dcp_producer.specs.declared.next_frame.Waits.TheVariants as wait
use Rattle.dcp_producer.specs.AskingAll.{IsAsIfAllAsked, Tries, all_asked, answered, each_asked, place_behind, tried, turn_behind}
use Rattle.dcp_producer.specs.Frames.{Next, next_frame}
use Rattle.dcp_producer.specs.Having.{AreOfOthers, IsSound}
use Rattle.dcp_producer.specs.Producers.{PlainStream, PlainProducer, Served}
use Rattle.dcp_producer.specs.Pulling.{Halting, Pulling, QuietOnes, came, end_put, first_wait, frame_put, frames_put, halt_of, is_quiet, none_quiet, one_frame, one_turn, past_turn, pull_of, pulled, quiet_halt, stream_asked, stream_went, turn_had, turns_came, with_quiet}
use Rattle.dcp_producer.specs.Turns.{turns_of}
use Rattle.dcp_producer.proofs.Anew.{AreStill, end_still, first_still, first_turn, passed_still, put_still, quiet_still, waits_at, waits_now, waits_same}
use Rattle.dcp_producer.proofs.Awake.{quiet_then, says_wait, waits_in, waits_more}
use Rattle.dcp_producer.proofs.Framing.{GoesOn, Same}
use Rattle.dcp_producer.proofs.Pulling.{all_turns}
use Rattle.dcp_producer.proofs.Stills.{IsStill, after_same, elsewhere, quiet_again, same_next}
use Rattle.dcp_producer.proofs.Turning.{InTurn, before, behind, in_turn, turn_is, turned_so, end_with, went_so, over_so, order_with, order_less, sound_with, sound_less}

module _ (shelves : Shelves) where
  -- between two turns of a pull: the connection is sound, and who was quiet is so still
  record Keeps (p : Pulling) (states : States) : Type 0 where
    pub sound : IsSound p.served.end
    pub still : AreStill p.served.end.desk.stream shelves p.quiet states (turns_of p.served.end)

  -- what the turns for one frame come to, where who was quiet is passed over and where everybody is asked: both put the same frame, or none, or end the pull for the same reason
  SameTries : States × Turn Pulling Halting → States × (Served × Option Halt) → Type 0
  SameTries (left, Stop (p, None)) (left', (s, None)) = (left ≡ left') × (p.served ≡ s) × Keeps p left
  SameTries (left, Stop (p, Some why_it)) (left', (s, Some halted)) = (left ≡ left') × (p.served ≡ s) × (why_it ≡ halted)
  SameTries (left, More p) (left', (s, Some halted)) = (left ≡ left') × (p.served ≡ s) × (quiet_halt p.quiet ≡ halted)
  SameTries (left, Stop (p, None)) (left', (s, Some halted)) = ⊥
  SameTries (left, Stop (p, Some why_it)) (left', (s, None)) = ⊥
  SameTries (left, More p) (left', (s, None)) = ⊥

  abbrev AreQuiet : QuietOnes → List PlainStream → Type 0
  AreQuiet q done = All (λ x. is_quiet x.id q ≡ true) done

  -- so it is with these turns, behind those of streams that were quiet
  abbrev TryThem : List PlainStream → Type 0
  TryThem todo =
      (done : List PlainStream) (waits : Waits) (p : Pulling) (states : States) → Keeps p states → turns_of p.served.end ≡ todo ++ done → AreQuiet p.quiet done → waits ≡ waits_in (waits_at p.served.end.desk.stream shelves states) done
      → SameTries (after_reads (repeated_job (length todo) one_turn p) shelves states) (after_reads (each_asked todo waits p.served) shelves states)

  -- where each one was quiet, they wait for what the pull knows
  all_quiet : (name : StreamName) (q : QuietOnes) (states : States) (xs : List PlainStream) → AreQuiet q xs → waits_in (waits_now name shelves q states) xs ≡ waits_in (waits_at name shelves states) xs
  all_quiet name q states [] all = refl
  all_quiet name q states (x ∷ xs) all = λ i.
      first_wait (if All-head (λ (y : PlainStream). is_quiet y.id q ≡ true) x xs all i then waits_at name shelves states x else wait.Nothing)
      (all_quiet name q states xs (All-tail (λ (y : PlainStream). is_quiet y.id q ≡ true) x xs all) i)

  none_more : TryThem []
  unfolding SameTries
  none_more done waits p states keeps order quiet is =
      let name : StreamName = p.served.end.desk.stream in
      let known : p.quiet.waits ≡ waits = keeps.still.waits ∙ ap (waits_in (waits_now name shelves p.quiet states)) order ∙ all_quiet name p.quiet states done quiet ∙ sym is in
      (refl, refl, ap halt_of known)

  -- ---- a turn

  place_there : (front : List PlainStream) (x : PlainStream) (back : List PlainStream) → All (λ y. y.id ≢ x.id) front → place_behind x.id (front ++ x ∷ back) ≡ length front + 1
  place_there [] x back differ =
      let same : (x.id == x.id) ≡ true = grind (arith, nat_tests) in
      ap (λ b. if b then 1 else suc (place_behind x.id back)) same
  place_there (y ∷ front) x back differ =
      ap (λ b. if b then 1 else suc (place_behind x.id (front ++ x ∷ back))) (false_from_ne_true (y.id == x.id) (λ t. All-head (λ (z : PlainStream). z.id ≢ x.id) y front differ (eqb-true y.id x.id t)))
      ∙ ap suc (place_there front x back (All-tail (λ (z : PlainStream). z.id ≢ x.id) y front differ)) ∙ omega arith

  others_vb : (x : PlainStream) (front back : List PlainStream) → AreOfOthers (front ++ x ∷ back) → All (λ y. y.vb ≢ x.vb) (back ++ front)
  others_vb x front back apart = All-append (λ (y : PlainStream). y.vb ≢ x.vb) back front (ahead front apart) (older front apart)
    where
      ahead : (front : List PlainStream) → AreOfOthers (front ++ x ∷ back) → All (λ (y : PlainStream). y.vb ≢ x.vb) back
      ahead [] apart = apart.0
      ahead (y ∷ front) apart = ahead front apart.1

      there : (P : PlainStream → Type 0) (front : List PlainStream) → All P (front ++ x ∷ back) → P x
      there P [] all = All-head P x back all
      there P (y ∷ front) all = there P front (All-tail P y (front ++ x ∷ back) all)

      older : (front : List PlainStream) → AreOfOthers (front ++ x ∷ back) → All (λ (y : PlainStream). y.vb ≢ x.vb) front
      older [] apart = All-nil (λ (y : PlainStream). y.vb ≢ x.vb)
      older (y ∷ front) apart = All-cons (λ (z : PlainStream). z.vb ≢ x.vb) y front (λ is. there (λ (z : PlainStream). z.vb ≢ y.vb) front apart.0 (sym is)) (older front apart.1)

  all_right : (P : PlainStream → Type 0) (xs ys : List PlainStream) → All P (xs ++ ys) → All P ys
  all_right P [] ys all = all
  all_right P (x ∷ xs) ys all = all_right P xs ys (All-tail P x (xs ++ ys) all)

  module _ (p : Pulling) (states : States) (keeps : Keeps p states) (it : InTurn p.served.end) where
    abbrev s : Served
    s = p.served

    abbrev name : StreamName
    name = p.served.end.desk.stream

    abbrev x : PlainStream
    x = it.stream

    abbrev rest : List PlainStream
    rest = it.back ++ it.front

    abbrev sound : IsSound p.served.end
    sound = keeps.sound

    abbrev with_one : PlainStream → Served
    with_one left = record s { end = end_with p.served.end sound it left }

    itself : Same x x
    itself = record { id = refl; vb = refl; opaque = refl; until = refl; ended = refl }

    its_still : AreStill name shelves p.quiet states (x ∷ rest)
    its_still = subst (AreStill name shelves p.quiet states) it.order keeps.still

    differ : All (λ y. y.id ≢ x.id) rest
    differ = All-append (λ (y : PlainStream). y.id ≢ x.id) it.back it.front (behind p.served.end sound it) (before p.served.end sound it)

    apart : All (λ y. y.vb ≢ x.vb) rest
    apart = others_vb x it.front it.back (subst AreOfOthers it.stands sound.apart)

    -- behind its turn
    turn_past : past_turn s ≡ with_one x
    turn_past = ap (λ e. record s { end = e }) (turned_so p.served.end sound it)

    turn_put : turn_behind x s ≡ with_one x
    turn_put = λ i. record s { end = record s.end { streams = it.stands i; turn = (ap (place_behind x.id) it.stands ∙ place_there it.front x it.back (before p.served.end sound it)) i } }

    went : (left : PlainStream) → Same x left → stream_went left (with_one x) ≡ with_one left
    went left same = ap (stream_went left) (sym turn_past) ∙ ap (λ e. record s { end = e }) (went_so p.served.end sound it left same)

    -- it has its turn, where who was quiet is passed over
    one_is : one_turn p ≡ (if is_quiet x.id p.quiet then Ended (More (pull_of (with_one x) p.quiet)) else stream_asked (with_one x) p.quiet x)
    unfolding one_turn
    one_is = (λ i. turn_had (turn_past i) p.quiet (turn_is p.served.end sound it i))

    abbrev run : States × Next
    run = after_reads (next_frame name x) shelves states

    -- and where everybody is asked
    abbrev on : List PlainStream → Waits → Next → Tries
    on more waits next = answered next waits (with_one x) (λ waits' s'. each_asked more waits' s')

    all_is : (more : List PlainStream) (waits : Waits) → after_reads (each_asked (x ∷ more) waits s) shelves states ≡ after_reads (on more waits run.1) shelves run.0
    all_is more waits =
        after_reads_bind (next_frame name x) (λ next. answered next waits (turn_behind x s) (λ waits' s'. each_asked more waits' s')) shelves states
        ∙ (λ i. after_reads (answered run.1 waits (turn_put i) (λ waits' s'. each_asked more waits' s')) shelves run.0)

    module _ (more : List PlainStream) (later : TryThem more) (done : List PlainStream) (order : rest ≡ more ++ done) (quiet : AreQuiet p.quiet done) (waits : Waits) (is : waits ≡ waits_in (waits_at name shelves states) done) where
      abbrev Goes : Job (Turn Pulling Halting) → Type 0
      Goes prog = SameTries (after_reads (bind_job prog (go_on_job (repeated_job (length more) one_turn))) shelves states) (after_reads (on more waits run.1) shelves run.0)

      order_is : (stream : PlainStream) → Same x stream → turns_of (end_with p.served.end sound it stream) ≡ more ++ (done ++ stream ∷ [])
      order_is stream same = order_with p.served.end sound it stream same ∙ ap (λ xs. xs ++ stream ∷ []) order ∙ append_assoc more done (stream ∷ [])

      -- behind a turn in which it was quiet, now or before
      goes_on : (q : QuietOnes) (saves : Waits) (left : States) (stream : PlainStream) → Same x stream → run ≡ (left, (next.Quiet saves, stream)) → after_reads (next_frame name stream) shelves left ≡ (left, (next.Quiet saves, stream))
          → waits_in (waits_at name shelves states) done ≡ waits_in (waits_at name shelves left) done → AreStill name shelves q left (rest ++ stream ∷ []) → AreQuiet q (done ++ stream ∷ [])
          → SameTries (after_reads (repeated_job (length more) one_turn (pull_of (with_one stream) q)) shelves left) (after_reads (on more waits run.1) shelves run.0)
      goes_on q saves left stream alike comes again same still all =
          let now : waits_at name shelves left stream ≡ saves = ap (λ (y : States × Next). says_wait y.1.0) again in
          let told : first_wait waits saves ≡ waits_in (waits_at name shelves left) (done ++ stream ∷ []) =
          (λ i. first_wait ((is ∙ same) i) saves) ∙ (λ i. first_wait (waits_in (waits_at name shelves left) done) (sym now i)) ∙ sym (waits_more (waits_at name shelves left) done stream) in
          subst (SameTries (after_reads (repeated_job (length more) one_turn (pull_of (with_one stream) q)) shelves left))
          (sym ((λ i. after_reads (on more waits (comes i).1) shelves (comes i).0) ∙ (λ i. after_reads (each_asked more (first_wait waits saves) (went stream alike i)) shelves left)))
          (later (done ++ stream ∷ []) (first_wait waits saves) (pull_of (with_one stream) q) left
          (record { sound = sound_with p.served.end sound it stream alike; still = subst (AreStill name shelves q left) (sym (order_with p.served.end sound it stream alike)) still })
          (order_is stream alike) all told)

      -- it was quiet before
      goes_past : is_quiet x.id p.quiet ≡ true → Goes (Ended (More (pull_of (with_one x) p.quiet)))
      goes_past now =
          let (saves, comes) = first_still name shelves p.quiet states x rest its_still now in
          goes_on p.quiet saves states x itself comes comes refl (passed_still name shelves p.quiet states x rest its_still)
          (All-append (λ (y : PlainStream). is_quiet y.id p.quiet ≡ true) done (x ∷ []) quiet (All-cons (λ (y : PlainStream). is_quiet y.id p.quiet ≡ true) x [] now (All-nil (λ (y : PlainStream). is_quiet y.id p.quiet ≡ true))))

      -- it is asked
      module _ (fresh : is_quiet x.id p.quiet ≡ false) where
        quiet_more : (id : ℕ) (saves : Waits) (xs : List PlainStream) → AreQuiet p.quiet xs → AreQuiet (with_quiet id saves p.quiet) xs
        quiet_more id saves [] all = All-nil (λ (y : PlainStream). is_quiet y.id (with_quiet id saves p.quiet) ≡ true)
        quiet_more id saves (y ∷ ys) all =
            All-cons (λ (z : PlainStream). is_quiet z.id (with_quiet id saves p.quiet) ≡ true) y ys
            (quiet_then p.quiet id saves y.id (inl (All-head (λ (z : PlainStream). is_quiet z.id p.quiet ≡ true) y ys all))) (quiet_more id saves ys (All-tail (λ (z : PlainStream). is_quiet z.id p.quiet ≡ true) y ys all))

        others : (left : States) (n : Next) → run ≡ (left, n) → All (λ y. states y.vb ≡ left y.vb) rest
        others left n comes = by rest apart
          where
            by : (xs : List PlainStream) → All (λ (y : PlainStream). y.vb ≢ x.vb) xs → All (λ (y : PlainStream). states y.vb ≡ left y.vb) xs
            by [] all = All-nil (λ (y : PlainStream). states y.vb ≡ left y.vb)
            by (y ∷ ys) all =
                All-cons (λ (z : PlainStream). states z.vb ≡ left z.vb) y ys (sym (elsewhere name x shelves states y.vb (All-head (λ (z : PlainStream). z.vb ≢ x.vb) y ys all)) ∙ (λ i. (comes i).0 y.vb))
                (by ys (All-tail (λ (z : PlainStream). z.vb ≢ x.vb) y ys all))

        -- so those that are of other vBuckets wait for what they waited for
        each_same : (left : States) (xs : List PlainStream) → All (λ y. states y.vb ≡ left y.vb) xs → All (λ y. waits_at name shelves states y ≡ waits_at name shelves left y) xs
        each_same left [] all = All-nil (λ (y : PlainStream). waits_at name shelves states y ≡ waits_at name shelves left y)
        each_same left (y ∷ ys) all =
            All-cons (λ (z : PlainStream). waits_at name shelves states z ≡ waits_at name shelves left z) y ys (ap (λ (n : Next). says_wait n.0) (same_next name shelves y states left (All-head (λ (z : PlainStream). states z.vb ≡ left z.vb) y ys all)))
            (each_same left ys (All-tail (λ (z : PlainStream). states z.vb ≡ left z.vb) y ys all))

        same_left : (left : States) (what : NextFrame) (stream : PlainStream) → run ≡ (left, (what, stream)) → Same x stream
        same_left left what stream comes = subst (λ (y : States × Next). GoesOn x y.1) comes (after_same name x shelves states)

        asked : (left : States) (what : NextFrame) (stream : PlainStream) → run ≡ (left, (what, stream))
            → SameTries (after_reads (go_on_job (repeated_job (length more) one_turn) (came (with_one x) p.quiet (what, stream))) shelves left) (after_reads (on more waits (what, stream)) shelves left)
        unfolding SameTries
        asked left (next.Put m line) stream comes =
            let same : Same x stream = same_left left (next.Put m line) stream comes in
            let still : AreStill name shelves p.quiet left (rest ++ stream ∷ []) = put_still name shelves p.quiet states x rest its_still fresh left (others left (next.Put m line, stream) comes) stream same.id in
            let sounds = sound_with p.served.end sound it stream same in (
              refl,
              refl,
              subst (λ t. Keeps (pull_of (frame_put (dcp_frame m stream.opaque stream.vb) line t) p.quiet) left) (sym (went stream same))
                  (record {
                    sound = record { apart = sounds.apart; rise = sounds.rise; numbered = sounds.numbered; turn = sounds.turn };
                    still = subst (AreStill name shelves p.quiet left) (sym (order_with p.served.end sound it stream same)) still;
                  }),
            )
        asked left (next.End reason) stream comes =
            let same : Same x stream = same_left left (next.End reason) stream comes in
            let still : AreStill name shelves p.quiet left rest = end_still name shelves p.quiet states x rest its_still fresh left (others left (next.End reason, stream) comes) in
            let sounds = sound_less p.served.end sound it in (
              refl,
              refl,
              subst (λ t. Keeps (pull_of (end_put stream reason t) p.quiet) left) (sym (went stream same))
                  (subst (λ e. Keeps (pull_of (frame_put (dcp_frame (msg.StreamEnd reason) stream.opaque stream.vb) (event.Finished name reason) (record s { end = e })) p.quiet) left) (sym (over_so p.served.end sound it stream same))
                  (record {
                    sound = record { apart = sounds.apart; rise = sounds.rise; numbered = sounds.numbered; turn = sounds.turn };
                    still = subst (AreStill name shelves p.quiet left) (sym (order_less p.served.end sound it)) still;
                  })),
            )
        asked left next.Disk stream comes = (refl, refl, refl)
        asked left (next.Quiet saves) stream comes =
            let alike : Same x stream = same_left left (next.Quiet saves) stream comes in
            let again : after_reads (next_frame name stream) shelves left ≡ (left, (next.Quiet saves, stream)) = quiet_again name shelves x states left saves stream comes in
            let apart_so : All (λ (y : PlainStream). states y.vb ≡ left y.vb) rest = others left (next.Quiet saves, stream) comes in
            let same : waits_in (waits_at name shelves states) done ≡ waits_in (waits_at name shelves left) done =
            waits_same (waits_at name shelves states) (waits_at name shelves left) done
            (each_same left done (all_right (λ (y : PlainStream). states y.vb ≡ left y.vb) more done (subst (All (λ (y : PlainStream). states y.vb ≡ left y.vb)) order apart_so))) in
            let q : QuietOnes = with_quiet stream.id saves p.quiet in
            let now : is_quiet stream.id q ≡ true = quiet_then p.quiet stream.id saves stream.id (inr refl) in
            let goes = goes_on q saves left stream alike comes again same (quiet_still name shelves p.quiet states x rest its_still fresh left apart_so saves stream alike.id again differ)
            (All-append (λ (y : PlainStream). is_quiet y.id q ≡ true) done (stream ∷ []) (quiet_more stream.id saves done quiet) (All-cons (λ (y : PlainStream). is_quiet y.id q ≡ true) stream [] now (All-nil (λ (y : PlainStream). is_quiet y.id q ≡ true)))) in
            let code : after_reads (go_on_job (repeated_job (length more) one_turn) (came (with_one x) p.quiet (next.Quiet saves, stream))) shelves left ≡ after_reads (repeated_job (length more) one_turn (pull_of (with_one stream) q)) shelves left =
            (λ i. after_reads (repeated_job (length more) one_turn (pull_of (went stream alike i) q)) shelves left) in
            subst (λ y. SameTries y (after_reads (on more waits (next.Quiet saves, stream)) shelves left)) (sym code)
            (subst (SameTries (after_reads (repeated_job (length more) one_turn (pull_of (with_one stream) q)) shelves left)) (λ i. after_reads (on more waits (comes i).1) shelves (comes i).0) goes)

        goes_asked : Goes (stream_asked (with_one x) p.quiet x)
        goes_asked =
            let next : after_reads (stream_asked (with_one x) p.quiet x) shelves states ≡ (run.0, came (with_one x) p.quiet run.1) = after_reads_bind (next_frame name x) (λ next. Ended (came (with_one x) p.quiet next)) shelves states in
            subst (λ y. SameTries y (after_reads (on more waits run.1) shelves run.0))
            (sym (after_reads_bind (stream_asked (with_one x) p.quiet x) (go_on_job (repeated_job (length more) one_turn)) shelves states ∙ (λ i. after_reads (go_on_job (repeated_job (length more) one_turn) (next i).1) shelves (next i).0)))
            (asked run.0 run.1.0 run.1.1 refl)

      goes : Goes (one_turn p)
      goes = subst Goes (sym one_is) (by (is_quiet x.id p.quiet) refl)
        where
          by : (b : Bool) → is_quiet x.id p.quiet ≡ b → Goes (if b then Ended (More (pull_of (with_one x) p.quiet)) else stream_asked (with_one x) p.quiet x)
          by true now = goes_past now
          by false now = goes_asked now

      try_it : SameTries (after_reads (repeated_job (suc (length more)) one_turn p) shelves states) (after_reads (each_asked (x ∷ more) waits s) shelves states)
      try_it =
          subst (λ prog. SameTries (after_reads prog shelves states) (after_reads (each_asked (x ∷ more) waits s) shelves states)) (sym (first_turn one_turn (length more) p))
          (subst (SameTries (after_reads (bind_job (one_turn p) (go_on_job (repeated_job (length more) one_turn))) shelves states)) (sym (all_is more waits)) goes)

  -- ---- the turns for one frame

  some_streams : (end : PlainProducer) (x : PlainStream) (xs : List PlainStream) → turns_of end ≡ x ∷ xs → 0 < length end.streams
  some_streams end x xs is =
      let many : length (turns_of end) ≡ length end.streams = all_turns end.turn end.streams in
      let e : length (turns_of end) ≡ suc (length xs) = ap length is in
      omega (arith, many, e)

  first_is : (x y : PlainStream) (xs ys : List PlainStream) → x ∷ xs ≡ y ∷ ys → (x ≡ y) × (xs ≡ ys)
  first_is x y xs ys is = (cc is, cc is)

  try_them : (todo : List PlainStream) → TryThem todo
  try_them [] done waits p states keeps order quiet is = none_more done waits p states keeps order quiet is
  try_them (y ∷ more) done waits p states keeps order quiet is =
      let it : InTurn p.served.end = in_turn p.served.end keeps.sound (some_streams p.served.end y (more ++ done) order) in
      let (first, others) = first_is it.stream y (it.back ++ it.front) (more ++ done) (sym it.order ∙ order) in
      subst (λ z. SameTries (after_reads (repeated_job (suc (length more)) one_turn p) shelves states) (after_reads (each_asked (z ∷ more) waits p.served) shelves states)) first
      (try_it p states keeps it more (try_them more) done others quiet waits is)

  -- ---- a pull

  module _ (k : ℕ) (so : (p : Pulling) (states : States) → Keeps p states → after_reads (bind_job (repeated_job k one_frame p) pulled) shelves states ≡ after_reads (all_asked k p.served) shelves states) where
    -- behind the turns for a frame
    behind_tries : (y : States × Turn Pulling Halting) (z : States × (Served × Option Halt)) → SameTries y z
        → after_reads (bind_job (go_on_job (repeated_job k one_frame) (turns_came y.1)) pulled) shelves y.0 ≡ after_reads (tried (λ s'. all_asked k s') z.1) shelves z.0
    unfolding SameTries
    behind_tries (left, Stop (p, None)) (left', (s, None)) (at, same, keeps) = so p left keeps ∙ (λ i. after_reads (all_asked k (same i)) shelves (at i))
    behind_tries (left, More p) (left', (s, Some halted)) (at, same, why) = λ i. (at i, (same i, why i))
    behind_tries (left, Stop (p, Some why_it)) (left', (s, Some halted)) (at, same, why) = λ i. (at i, (same i, why i))
    behind_tries (left, Stop (p, None)) (left', (s, Some halted)) none = absurd none
    behind_tries (left, Stop (p, Some why_it)) (left', (s, None)) none = absurd none
    behind_tries (left, More p) (left', (s, None)) none = absurd none

    module _ (p : Pulling) (states : States) (keeps : Keeps p states) where
      abbrev turns : Job (Turn Pulling Halting)
      turns = repeated_job (length p.served.end.streams) one_turn p

      abbrev all_tried : Tries
      all_tried = each_asked (turns_of p.served.end) wait.Nothing p.served

      abbrev frame_if : Bool → States × Turn Pulling (Served × Halt)
      frame_if b = after_reads (if b then bind_job turns (λ turns. Ended (turns_came turns)) else Ended (Stop (p.served, halt.Full))) shelves states

      same_tries : SameTries (after_reads turns shelves states) (after_reads all_tried shelves states)
      same_tries =
          subst (λ n. SameTries (after_reads (repeated_job n one_turn p) shelves states) (after_reads all_tried shelves states)) (all_turns p.served.end.turn p.served.end.streams)
          (try_them (turns_of p.served.end) [] wait.Nothing p states keeps (sym (append-nil (turns_of p.served.end))) (All-nil (λ (x : PlainStream). is_quiet x.id p.quiet ≡ true)) refl)

      by_window : (b : Bool) → after_reads (bind_job (go_on_job (repeated_job k one_frame) (frame_if b).1) pulled) shelves (frame_if b).0
          ≡ after_reads (if b then bind_job all_tried (tried (λ s'. all_asked k s')) else Ended (p.served, halt.Full)) shelves states
      by_window true =
          let run : States × Turn Pulling Halting = after_reads turns shelves states in
          let comes : frame_if true ≡ (run.0, turns_came run.1) = after_reads_bind turns (λ turns. Ended (turns_came turns)) shelves states in
          (λ i. after_reads (bind_job (go_on_job (repeated_job k one_frame) (comes i).1) pulled) shelves (comes i).0)
          ∙ behind_tries run (after_reads all_tried shelves states) same_tries
          ∙ sym (after_reads_bind all_tried (tried (λ s'. all_asked k s')) shelves states)
      by_window false = refl

      frame_is : after_reads (one_frame p) shelves states ≡ frame_if (is_open p.served.end.window)
      unfolding one_frame
      frame_is = refl

      next_frames : after_reads (bind_job (repeated_job (suc k) one_frame p) pulled) shelves states ≡ after_reads (all_asked (suc k) p.served) shelves states
      next_frames =
          ap (λ prog. after_reads (bind_job prog pulled) shelves states) (first_turn one_frame k p) ∙ ap (λ prog. after_reads prog shelves states) (bind_job_assoc (one_frame p) (go_on_job (repeated_job k one_frame)) pulled)
          ∙ after_reads_bind (one_frame p) (λ t. bind_job (go_on_job (repeated_job k one_frame) t) pulled) shelves states
          ∙ (λ i. after_reads (bind_job (go_on_job (repeated_job k one_frame) (frame_is i).1) pulled) shelves (frame_is i).0)
          ∙ by_window (is_open p.served.end.window)

  frames : (k : ℕ) (p : Pulling) (states : States) → Keeps p states → after_reads (bind_job (repeated_job k one_frame p) pulled) shelves states ≡ after_reads (all_asked k p.served) shelves states
  frames zero p states keeps = refl
  frames (suc k) p states keeps = next_frames k (λ p states keeps. frames k p states keeps) p states keeps

  none_were : (name : StreamName) (states : States) (xs : List PlainStream) → AreStill name shelves none_quiet states xs
  none_were name states xs = record { still = still xs; waits = waits xs }
    where
      still : (xs : List PlainStream) → All (λ (x : PlainStream). is_quiet x.id none_quiet ≡ true → IsStill name shelves x states) xs
      still [] = All-nil (λ (x : PlainStream). is_quiet x.id none_quiet ≡ true → IsStill name shelves x states)
      still (x ∷ xs) = All-cons (λ (y : PlainStream). is_quiet y.id none_quiet ≡ true → IsStill name shelves y states) x xs (λ is. absurd (cc is)) (still xs)

      waits : (xs : List PlainStream) → wait.Nothing ≡ waits_in (waits_now name shelves none_quiet states) xs
      waits [] = refl
      waits (x ∷ xs) = waits xs

  -- each pull is as if all were asked
  pub as_if_all_asked : (k : ℕ) (s : Served) (states : States) → IsSound s.end → IsAsIfAllAsked k s states shelves
  unfolding frames_put
  as_if_all_asked k s states sound = frames k (pull_of s none_quiet) states (record { sound = sound; still = none_were s.end.desk.stream states (turns_of s.end) })
