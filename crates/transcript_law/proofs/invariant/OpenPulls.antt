-- frames that a producer puts: each stream that a vBucket has more is the connection's own, which it keeps until that is over
use Rattle.std.specs.Prelude.{if◌then◌else◌, ◌≡◌, ◌⊎◌}
use Rattle.transcript_law.proofs.Words.{ℕ, zero, suc, length, Bool, true, false, refl, sym, ◌∙◌, subst, inl, inr, ⊎_elim, Option, Some, None, slice_get, Change, Plain, Span, Stream, States}
use Rattle.transcript_law.proofs.Words.{Turn, More, Stop, Halt, PlainStream, Served, StreamName, stream_at, call_at}
use Rattle.transcript_law.proofs.invariant.OpenStreams.{AreKept, Among, id_among, kept_over, kept_went, only_open, replaced_has, replaced_ids, without_has}
use Rattle.transcript_law.proofs.invariant.Unopened.{NoNew, closed_here, none_new, step_new}
use Rattle.transcript_law.specs.Feeding.{HasIn, HasOpen, IsOpenAt}
use Rattle.dcp_producer.proofs.Framing.{GoesOn, Same, frame_same}
use Rattle.takeover.specs.GivingUp.{done}
use Rattle.takeover.specs.declared.give_up.GiveStep.{GiveStep}
use Rattle.takeover.specs.declared.give_up.GiveUp.{GiveUp}
use Rattle.vb_types.specs.declared.role.Role.{Role}
use Rattle.dcp_producer.specs.Frames.{Next, alive_next, backfill_next, changes_next, close_sent, go_on_by, none_next, role_of, state_next, step_next, next_by, next_frame, over, place_requested, place_said, place_told, placed_next, read_comes, read_up, reaches_end, STATE_CHANGED, take_answered, take_requested, taken_next, with_unread}
use Rattle.dcp_producer.specs.Producers.{replaced, with_stream, without_stream}
use Rattle.dcp_producer.specs.Pulling.{Halting, Pulling, QuietOnes, came, frames_put, is_quiet, none_quiet, one_frame, one_turn, past_turn, pull_of, pulled, stream_asked, stream_in, stream_in_turn, turn_had, turns_came}
use Rattle.dcp_producer.specs.declared.next_frame.NextFrame.{NextFrame}
use Rattle.dcp_producer.specs.declared.next_frame.NextFrame.TheVariants as next
use Rattle.transcript_law.proofs.lines.Pulling.{lets_through}
use Rattle.vb_calls.specs.Programs.{AnyCall}
use Rattle.vb_calls.specs.States.{states_step}
use Rattle.vb_calls.specs.Spans.{all_spans}
use Rattle.vb_calls.specs.Streams.{end_span, is_in_memory, place_from, placed_by, take_from, take_to}
use Rattle.vb_calls.specs.declared.calls.VbCall.TheVariants as call
use Rattle.vb_types.specs.declared.stream.Place.{Place}
use Rattle.vb_types.specs.declared.stream.Place.TheVariants as place
use Rattle.backfill.specs.Backfills.{backfilled}
use Rattle.backfill.specs.declared.backfilled.Backfilled.{Backfilled}
use Rattle.backfill.specs.declared.backfilled.Backfilled.TheVariants as filled
use Rattle.vb_calls.specs.Shelves.{Read, Shelves, shelves_step}
use Rattle.vb_calls.proofs.JobReadings.{after_reads_bind, reads_always}
use Rattle.vb_calls.specs.Jobs.{Ended, IsRead, Job, after_reads, bind_job, go_on_job, repeated_job}
use Rattle.transcript_law.proofs.invariant.Openings.{Holds, has_none}

-- a stream is over
abbrev IsOver : NextFrame → Type 0
IsOver (next.End reason) = Unit {0}
IsOver other = ⊥

-- none is over where its vBucket gives it nothing
not_over : (name : StreamName) (stream : PlainStream) (o : Option GiveUp) → IsOver (none_next name stream o).0 → ⊥
not_over name stream None is = is
not_over name stream (Some g) is = by (role_of (done g).step) is
  where
    by : (told : Option Role) → IsOver (state_next name stream (done g) told).0 → ⊥
    by None is = is
    by (Some told) is = is

-- a vBucket that knows nothing of a stream, or is absent, has none of its number
module _ (states : States) (v i : ℕ) where
  unplaced_none : place_said (states_step states v (call.Place i)).1 ≡ None → (k : ℕ) → HasIn (states v) k → k ≡ i → ⊥
  unplaced_none = by (states v)
    where
      placed_so : (c m : Bool) (s : Stream) (vb : Plain) → place_told (placed_by c m s vb).1.answer ≡ None → Some s ≡ None
      placed_so true m s vb is = cc
      placed_so false true s vb is = cc
      placed_so false false s vb is = cc

      placed : (vb : Plain) (o : Option Stream) → place_told (place_from o vb).1.answer ≡ None → o ≡ None
      placed vb None is = refl
      placed vb (Some s) is = placed_so s.cursor (is_in_memory vb s.place) s vb is

      by : (o : Option Plain) → place_said (call_at states v (call.Place i) o).1 ≡ None → (k : ℕ) → HasIn o k → k ≡ i → ⊥
      by None lost k h e = absurd h
      by (Some vb) lost k h e = has_none i vb.streams (placed vb (stream_at i vb.streams) lost) k h e

  untaken_none : (name : StreamName) (stream : PlainStream) → IsOver (take_answered name stream (states_step states v (call.Take i)).1).0 → (k : ℕ) → HasIn (states v) k → k ≡ i → ⊥
  untaken_none name stream = by (states v)
    where
      given : (vb : Plain) (s : Stream) (w : Option Span) → IsOver (taken_next name stream (take_to w s vb).1.answer).0 → Some s ≡ None
      given vb s None is = absurd (not_over name stream stream.gives is)
      given vb s (Some w) is = absurd is

      taken : (vb : Plain) (o : Option Stream) → IsOver (taken_next name stream (take_from o vb).1.answer).0 → o ≡ None
      taken vb None is = refl
      taken vb (Some s) is = given vb s (if s.cursor then end_span s (all_spans vb.spans) vb.held else None) is

      by : (o : Option Plain) → IsOver (take_answered name stream (call_at states v (call.Take i) o).1).0 → (k : ℕ) → HasIn o k → k ≡ i → ⊥
      by None lost k h e = absurd h
      by (Some vb) lost k h e = has_none i vb.streams (taken vb (stream_at i vb.streams) lost) k h e

module _ (others : ℕ → ℕ → Type 0) where
  -- ---- the next frame of a stream

  module _ (shelves : Shelves) (name : StreamName) (t : PlainStream) where
    -- the stream's vBucket has none of its number
    abbrev IsGone : States → Type 0
    IsGone states = (k : ℕ) → HasIn (states t.vb) k → k ≡ t.id → ⊥

    -- no vBucket has a new stream; and where this one is over, it was ended, or its vBucket has it no more
    abbrev Comes : States → States × Next → Type 0
    Comes states x = NoNew states x.0 × (IsOver x.1.0 → (t.ended ≡ true) ⊎ IsGone x.0)

    -- the next snapshot is taken, for the stream as it is then
    taken_comes : (u : PlainStream) → u.vb ≡ t.vb → u.id ≡ t.id → (old states : States) → NoNew old states → Comes old (after_reads (take_requested name u) shelves states)
    taken_comes u vb id old states less =
        let taken : States = (states_step states u.vb (call.Take u.id)).0 in
        let fresh : NoNew states taken = step_new states u.vb (call.Take u.id) tt in
        (none_new old states taken less fresh, λ over. inr (λ k h e. untaken_none states u.vb u.id name u over k (fresh u.vb k (subst (λ q. HasIn (taken q) k) (sym vb) h)) (e ∙ sym id)))

    -- a backfill is read, and where it gives nothing, the stream goes on so
    read_comes_to : (u : PlainStream) → u.vb ≡ t.vb → u.id ≡ t.id → (on : PlainStream → Job Next) (end : ℕ) (old states : States) → NoNew old states → Comes old (after_reads (on (read_up u)) shelves states) → Comes old (after_reads (backfill_next name on end u) shelves states)
    read_comes_to u vb id on end old states less next = by (backfilled u.place end u.sync (shelves_step shelves u.vb Read).1)
      where
        by : (came : Backfilled) → Comes old (after_reads (go_on_by on (read_comes name u came)) shelves states)
        by (filled.Snapshot snapshot) = (less, λ over. absurd over)
        by filled.Nothing = next
        by filled.Disk = (less, λ over. absurd over)

    placed_comes : (u : PlainStream) → u.vb ≡ t.vb → u.id ≡ t.id → (old states : States) (o : Option Place) → NoNew old states → (o ≡ None → IsGone states) → Comes old (after_reads (placed_next name u o) shelves states)
    placed_comes u vb id old states (Some place.Memory) less gone = taken_comes u vb id old states less
    placed_comes u vb id old states (Some (place.Backfill end)) less gone = read_comes_to (with_unread end u) vb id (take_requested name) end old states less (taken_comes (read_up (with_unread end u)) vb id old states less)
    placed_comes u vb id old states (Some place.WaitSaved) less gone = (less, λ over. absurd over)
    placed_comes u vb id old states None less gone = (less, λ over. inr (gone refl))

    place_comes : (u : PlainStream) → u.vb ≡ t.vb → u.id ≡ t.id → (states : States) → Comes states (after_reads (place_requested name u) shelves states)
    place_comes u vb id states =
        let step = states_step states u.vb (call.Place u.id) in
        let less : NoNew states step.0 = step_new states u.vb (call.Place u.id) tt in
        placed_comes u vb id states step.0 (place_said step.1) less (λ lost k h e. unplaced_none states u.vb u.id lost k (less u.vb k (subst (λ q. HasIn (step.0 q) k) (sym vb) h)) (e ∙ sym id))

    changes_come : (states : States) (o : Option ℕ) → Comes states (after_reads (changes_next name t o) shelves states)
    changes_come states None = place_comes t refl refl states
    changes_come states (Some end) = read_comes_to t refl refl (place_requested name) end states states (λ v k h. h) (place_comes (read_up t) refl refl states)

    reached_comes : (states : States) (b : Bool) → Comes states (after_reads (if b then close_sent t else changes_next name t t.unread) shelves states)
    reached_comes states true = (
      step_new states t.vb (call.CloseStream t.id) tt,
      λ over. inr (λ k h e. closed_here states t.vb t.id (subst (HasIn ((states_step states t.vb (call.CloseStream t.id)).0 t.vb)) e h)),
    )
    reached_comes states false = changes_come states t.unread

    next_comes : (states : States) → Comes states (after_reads (next_frame name t) shelves states)
    unfolding next_frame
    next_comes states = by (slice_get t.items t.next)
      where
        steps : (g : GiveUp) (s : GiveStep) → Comes states (after_reads (step_next name t g s) shelves states)
        steps g GiveStep.SendAll = changes_come states t.unread
        steps g GiveStep.SendPending = (λ v k h. h, λ over. absurd over)
        steps g GiveStep.AwaitPending = (λ v k h. h, λ over. absurd over)
        steps g GiveStep.Yield = (λ v k h. h, λ over. absurd over)
        steps g GiveStep.SendRest = changes_come states t.unread
        steps g GiveStep.SendActive = (λ v k h. h, λ over. absurd over)
        steps g GiveStep.AwaitActive = (λ v k h. h, λ over. absurd over)
        steps g GiveStep.End = reached_comes states true

        alive : (o : Option GiveUp) → Comes states (after_reads (alive_next name t o) shelves states)
        alive None = reached_comes states (reaches_end t.until t.marked)
        alive (Some g) = steps g g.step

        more : (b : Bool) → t.ended ≡ b → Comes states (after_reads (if b then Ended (over STATE_CHANGED t) else alive_next name t t.gives) shelves states)
        more true e = (λ v k h. h, λ over. inl e)
        more false e = alive t.gives

        by : (o : Option Change) → Comes states (after_reads (next_by name t o) shelves states)
        by (Some c) = (λ v k h. h, λ over. absurd over)
        by None = more t.ended refl

  -- ---- frames are put

  -- the connection after a turn
  abbrev served_of : Turn Pulling Halting → Served
  served_of (More p) = p.served
  served_of (Stop (p, o)) = p.served

  module _ (shelves : Shelves) (s : Served) (q : QuietOnes) (t : PlainStream) (among : Among t s.end.streams) (states : States) (held : Holds others states s.end) where
    module _ (states' : States) (left : PlainStream) (same : Same t left) where
      stands : (v k : ℕ) → IsOpenAt v k t → IsOpenAt v k left
      stands v k o = (same.vb ∙ o.0, same.id ∙ o.1, same.ended ∙ o.2)

      went : (v k : ℕ) → HasOpen v k s.end.streams → HasOpen v k (replaced left s.end.streams)
      went v k own = replaced_has v k left s.end.streams (λ e. stands v k (only_open v k s.end.streams t held.1.rise among own (e ∙ same.id))) own

      kept : AreKept (with_stream left s.end)
      kept = kept_went s.end (replaced left s.end.streams) (replaced_ids left s.end.streams) held.1

      goes_on : NoNew states states' → Holds others states' (with_stream left s.end)
      goes_on less = (λ v k h. ⊎_elim (λ o. inl o) (λ own. inr (went v k own)) (held.0 v k (less v k h)), kept)

      ends : NoNew states states' → (t.ended ≡ true) ⊎ IsGone shelves s.end.desk.stream t states' → Holds others states' (without_stream left.id (with_stream left s.end))
      ends less over = (
        λ v k h. ⊎_elim (λ o. inl o)
            (λ own. inr (without_has v k left.id (replaced left s.end.streams) (λ e. never v k h (e ∙ same.id) (only_open v k s.end.streams t held.1.rise among own (e ∙ same.id))) (went v k own))) (held.0 v k (less v k h)),
        kept_over (with_stream left s.end) left.id kept,
      )
        where
          never : (v k : ℕ) → HasIn (states' v) k → k ≡ t.id → IsOpenAt v k t → ⊥
          never v k h e o = ⊎_elim (λ ended. let z : true ≡ false = sym ended ∙ o.2 in cc) (λ gone. gone k (subst (λ u. HasIn (states' u) k) (sym o.0) h) e) over

    came_holds : (x : States × Next) → Same t x.1.1 → Comes shelves s.end.desk.stream t states x → Holds others x.0 (served_of (came s q x.1)).end
    came_holds (states', (next.Put m line, left)) same c = goes_on states' left same c.0
    came_holds (states', (next.End reason, left)) same c = ends states' left same c.0 (c.1 tt)
    came_holds (states', (next.Quiet waits, left)) same c = goes_on states' left same c.0
    came_holds (states', (next.Disk, left)) same c = goes_on states' left same c.0

    asked_holds : let x = after_reads (stream_asked s q t) shelves states in Holds others x.0 (served_of x.1).end
    asked_holds =
        let name : StreamName = s.end.desk.stream in
        subst (λ (x : States × Turn Pulling Halting). Holds others x.0 (served_of x.1).end) (sym (after_reads_bind (next_frame name t) (λ x. Ended (came s q x)) shelves states))
        (came_holds (after_reads (next_frame name t) shelves states) (reads_always AnyCall IsRead (GoesOn t) (next_frame name t) shelves states (frame_same name t)) (next_comes shelves name t states))

  module _ (shelves : Shelves) where
    abbrev Turned : States × Turn Pulling Halting → Type 0
    Turned x = Holds others x.0 (served_of x.1).end

    turn : (p : Pulling) (states : States) → Holds others states p.served.end → Turned (after_reads (one_turn p) shelves states)
    unfolding one_turn
    turn p states held = by (stream_in_turn p.served.end) (λ t e. in_turn t _ e)
      where
        in_turn : (t : PlainStream) (o : Option ℕ) → stream_in o p.served.end.streams ≡ Some t → Among t p.served.end.streams
        in_turn t None e = cc
        in_turn t (Some id) e = id_among id p.served.end.streams t e

        whether : (t : PlainStream) → Among t p.served.end.streams → (b : Bool) → Turned (after_reads (if b then Ended (More (pull_of (past_turn p.served) p.quiet)) else stream_asked (past_turn p.served) p.quiet t) shelves states)
        whether t among true = held
        whether t among false = asked_holds shelves (past_turn p.served) p.quiet t among states held

        by : (o : Option PlainStream) → ((t : PlainStream) → o ≡ Some t → Among t p.served.end.streams) → Turned (after_reads (turn_had (past_turn p.served) p.quiet o) shelves states)
        by None among = held
        by (Some t) among = whether t (among t refl) (is_quiet t.id p.quiet)

    turns : (n : ℕ) (p : Pulling) (states : States) → Holds others states p.served.end → Turned (after_reads (repeated_job n one_turn p) shelves states)
    turns zero p states held = held
    turns (suc n) p states held =
        subst Turned (sym (after_reads_bind (repeated_job n one_turn p) (go_on_job one_turn) shelves states))
        (goes (after_reads (repeated_job n one_turn p) shelves states).1 (after_reads (repeated_job n one_turn p) shelves states).0 (turns n p states held))
      where
        goes : (t : Turn Pulling Halting) (states : States) → Turned (states, t) → Turned (after_reads (go_on_job one_turn t) shelves states)
        goes (More p) states x = turn p states x
        goes (Stop p) states x = x

    -- the connection after a frame, or where none was put
    abbrev framed_of : Turn Pulling (Served × Halt) → Served
    framed_of (More p) = p.served
    framed_of (Stop stopped) = stopped.0

    abbrev Framed : States × Turn Pulling (Served × Halt) → Type 0
    Framed x = Holds others x.0 (framed_of x.1).end

    frame : (p : Pulling) (states : States) → Holds others states p.served.end → Framed (after_reads (one_frame p) shelves states)
    unfolding one_frame
    frame p states held = by (lets_through p.served.end)
      where
        all : Job (Turn Pulling Halting)
        all = repeated_job (length p.served.end.streams) one_turn p

        comes : (t : Turn Pulling Halting) (states : States) → Turned (states, t) → Framed (states, turns_came t)
        comes (Stop (q, None)) states x = x
        comes (Stop (q, Some halted)) states x = x
        comes (More q) states x = x

        by : (b : Bool) → Framed (after_reads (if b then bind_job all (λ turns. Ended (turns_came turns)) else Ended (Stop (p.served, Halt.Full))) shelves states)
        by true = subst Framed (sym (after_reads_bind all (λ turns. Ended (turns_came turns)) shelves states)) (comes (after_reads all shelves states).1 (after_reads all shelves states).0 (turns (length p.served.end.streams) p states held))
        by false = held

    frames : (n : ℕ) (p : Pulling) (states : States) → Holds others states p.served.end → Framed (after_reads (repeated_job n one_frame p) shelves states)
    frames zero p states held = held
    frames (suc n) p states held =
        subst Framed (sym (after_reads_bind (repeated_job n one_frame p) (go_on_job one_frame) shelves states))
        (goes (after_reads (repeated_job n one_frame p) shelves states).1 (after_reads (repeated_job n one_frame p) shelves states).0 (frames n p states held))
      where
        goes : (t : Turn Pulling (Served × Halt)) (states : States) → Framed (states, t) → Framed (after_reads (go_on_job one_frame t) shelves states)
        goes (More p) states x = frame p states x
        goes (Stop stopped) states x = x

    pub puts_keep : (n : ℕ) (s : Served) (states : States) → Holds others states s.end → let x = after_reads (frames_put n s) shelves states in Holds others x.0 x.1.0.end
    unfolding frames_put
    puts_keep n s states held =
        let first : Pulling = pull_of s none_quiet in
        subst (λ (x : States × (Served × Halt)). Holds others x.0 x.1.0.end) (sym (after_reads_bind (repeated_job n one_frame first) pulled shelves states))
        (by (after_reads (repeated_job n one_frame first) shelves states).1 (after_reads (repeated_job n one_frame first) shelves states).0 (frames n first states held))
      where
        by : (t : Turn Pulling (Served × Halt)) (st : States) → Framed (st, t) → let x = after_reads (pulled t) shelves st in Holds others x.0 x.1.0.end
        by (More p) st x = x
        by (Stop stopped) st x = x
