-- what a connection comes to as it puts the frames of its streams in turn, and which calls it makes, by what vBuckets may reply
use Rattle.std.proofs.Common.{◌≡◌, ◌⊎◌, inl, inr, ◌<◌, ℕ, zero, suc, Bool, true, false, List, [], ◌∷◌, length, take, drop, refl, subst, arith, Option, Some, None}
use Rattle.std.specs.Prelude.{◌==◌, if◌then◌else◌, slice_get}
use Rattle.std.specs.List.{All, find, position}
use Rattle.std.proofs.lemmas.List.Elements.{All-append, All-drop, All-head, All-map, All-tail, All-take, All-weaker}
use Rattle.mcbp_frame.specs.declared.frame.Frame.{Frame}
use Rattle.mcbp_dcp.specs.DcpFrames.{dcp_frame}
use Rattle.mcbp_dcp.specs.declared.message.DcpMsg.TheVariants as msg
use Rattle.vb_types.specs.declared.change.Change.{Change}
use Rattle.vb_types.specs.declared.stream.Place.{Place}
use Rattle.vb_types.specs.declared.stream.Place.TheVariants as place
use Rattle.vb_types.specs.declared.stream.Snapshot.{Snapshot}
use Rattle.vb_types.specs.declared.role.Role.{Role}
use Rattle.vb_types.specs.declared.role.Role.TheVariants as role
use Rattle.takeover.specs.GivingUp.{done}
use Rattle.takeover.specs.declared.give_up.GiveStep.{GiveStep}
use Rattle.takeover.specs.declared.give_up.GiveStep.TheVariants as step
use Rattle.takeover.specs.declared.give_up.GiveUp.{GiveUp}
use Rattle.vb_events.specs.declared.event.Event.{Event}
use Rattle.vb_events.specs.declared.event.Event.TheVariants as event
use Rattle.vb_events.specs.declared.event.StreamName.{StreamName}
use Rattle.vb_calls.specs.declared.calls.VbAnswer.{VbAnswer}
use Rattle.vb_calls.specs.declared.calls.VbAnswer.TheVariants as answer
use Rattle.vb_calls.specs.declared.calls.VbCall.{VbCall}
use Rattle.vb_calls.specs.declared.calls.VbCall.TheVariants as call
use Rattle.vb_calls.specs.declared.calls.VbReply.{VbReply}
use Rattle.vb_calls.specs.Jobs.{Ended, Job, bind_job, go_on_job, repeated_job}
use Rattle.vb_calls.specs.Programs.{More, Stop, Turn}
use Rattle.vb_calls.specs.Shelves.{Ask, Got, Read, Reading}
use Rattle.backfill.specs.Backfills.{backfilled}
use Rattle.backfill.specs.declared.backfilled.Backfilled.{Backfilled}
use Rattle.backfill.specs.declared.backfilled.Backfilled.TheVariants as filled
use Rattle.flow_control.specs.Windows.{is_open}
use Rattle.dcp_producer.specs.declared.halt.Halt.{Halt}
use Rattle.dcp_producer.specs.declared.halt.Halt.TheVariants as halt
use Rattle.dcp_producer.specs.declared.next_frame.NextFrame.TheVariants as next
use Rattle.dcp_producer.specs.declared.next_frame.Waits.{Waits}
use Rattle.dcp_producer.specs.declared.next_frame.Waits.TheVariants as wait
use Rattle.dcp_producer.specs.Firsts.{as_sent, start_sent}
use Rattle.dcp_producer.specs.Frames.{Next, STATE_CHANGED, alive_next, backfill_next, changes_next, go_on_by, none_next, read_comes, read_up, take_requested, with_unread, role_of, state_next, step_next, act_message, close_sent, item_line, marker_flags, next_by, next_frame, over, past_item, place_requested, place_said, placed_next, reaches_end, take_answered, taken_next, with_snapshot}
use Rattle.dcp_producer.specs.Pairs.{AlwaysGot, PutFew}
use Rattle.dcp_producer.specs.Producers.{PlainProducer, PlainStream, Served, replaced, with_stream, without_id, without_place, without_stream}
use Rattle.dcp_producer.specs.Pulling.{Halting, Pulling, QuietOnes, came, frame_put, frames_put, halt_of, is_quiet, none_quiet, one_frame, one_turn, past_turn, pull_of, pulled, quiet_halt, stream_asked, stream_in, stream_in_turn, stream_went, turn_had, turns_came}
use Rattle.dcp_producer.proofs.Gots.{got_bind}

-- the calls that a stream makes for its next frame, and what holds of it as it goes on
pub record Takes (replies : VbCall → Option VbReply → Type 0) (gots : (ask : Ask) → Got ask → Type 0) (calls : ℕ → VbCall → Type 0) (G : PlainStream → Type 0) : Type 0 where
  pub places : (stream : PlainStream) → G stream → calls stream.vb (call.Place stream.id)
  pub takes : (stream : PlainStream) → G stream → calls stream.vb (call.Take stream.id)
  pub closes : (stream : PlainStream) → G stream → calls stream.vb (call.CloseStream stream.id)
  pub passed : (stream : PlainStream) (c : Change) → slice_get stream.items stream.next ≡ Some c → G stream → G (past_item c.seq stream)
  pub marked : (stream : PlainStream) (reply : VbReply) (snapshot : Snapshot) → replies (call.Take stream.id) (Some reply) → reply.answer ≡ answer.Taken snapshot → G stream → G (with_snapshot stream (as_sent stream snapshot))
  pub read : (stream : PlainStream) (end : ℕ) (reading : Reading) (snapshot : Snapshot) → gots Read reading → backfilled stream.place end stream.sync reading ≡ filled.Snapshot snapshot → G stream
      → G (with_snapshot (read_up stream) (as_sent stream snapshot))
  pub unread : (stream : PlainStream) (unread : Option ℕ) → G stream → G (record stream { unread = unread })
  pub given : (stream : PlainStream) (gives : Option GiveUp) → G stream → G (record stream { gives = gives })

-- so it is with its frames and their lines
pub record Lines (replies : VbCall → Option VbReply → Type 0) (gots : (ask : Ask) → Got ask → Type 0) (G : PlainStream → Type 0) (L : StreamName → Frame → Event → Type 0) : Type 0 where
  pub items : (name : StreamName) (stream : PlainStream) (c : Change) → slice_get stream.items stream.next ≡ Some c → G stream → L name (dcp_frame (act_message c c.act) stream.opaque stream.vb) (item_line name c)
  pub markers : (name : StreamName) (stream : PlainStream) (snapshot : Snapshot)
      → ((reply : VbReply) × replies (call.Take stream.id) (Some reply) × (reply.answer ≡ answer.Taken snapshot)) ⊎ ((end : ℕ) × (reading : Reading) × gots Read reading × (backfilled stream.place end stream.sync reading ≡ filled.Snapshot snapshot)) → G stream
      → L name (dcp_frame (msg.SnapshotMarker (start_sent stream.marked stream.first snapshot.start) snapshot.end (marker_flags snapshot.disk)) stream.opaque stream.vb)
      (event.Marked name (start_sent stream.marked stream.first snapshot.start) snapshot.end (marker_flags snapshot.disk))
  pub states : (name : StreamName) (stream : PlainStream) (told : Role) → (told ≡ role.Pending) ⊎ (told ≡ role.Active) → G stream → L name (dcp_frame (msg.SetVbucketState told) stream.opaque stream.vb) (event.Stated name told)
  pub ends : (name : StreamName) (stream : PlainStream) (reason : ℕ) → G stream → L name (dcp_frame (msg.StreamEnd reason) stream.opaque stream.vb) (event.Finished name reason)

-- ---- streams among others

module _ (G : PlainStream → Type 0) where
  either_stream : (b : Bool) (x y : PlainStream) → G x → G y → G (if b then x else y)
  either_stream true x y p q = p
  either_stream false x y p q = q

  pub all_replaced : (left : PlainStream) (xs : List PlainStream) → G left → All G xs → All G (replaced left xs)
  all_replaced left xs one all =
      All-map G (λ (other : PlainStream). if other.id == left.id then left else other) xs
      (All-weaker G (λ (other : PlainStream). G (if other.id == left.id then left else other)) (λ other g. either_stream (other.id == left.id) left other one g) xs all)

  all_place : (at : Option ℕ) (xs : List PlainStream) → All G xs → All G (without_place at xs)
  all_place None xs all = all
  all_place (Some at) xs all = All-append G (take at xs) (drop (suc at) xs) (All-take G at xs all) (All-drop G (suc at) xs all)

  pub all_without : (id : ℕ) (xs : List PlainStream) → All G xs → All G (without_id id xs)
  all_without id xs all = all_place (position (λ stream. stream.id == id) xs) xs all

  found_by : (y x : PlainStream) (more : Option PlainStream) (b : Bool) → (if b then Some y else more) ≡ Some x → G y → (more ≡ Some x → G x) → G x
  found_by y x more true here one later = let same : y ≡ x = cc here in subst G same one
  found_by y x more false there one later = later there

  found_so : (test : PlainStream → Bool) (xs : List PlainStream) (x : PlainStream) → find test xs ≡ Some x → All G xs → G x
  found_so test [] x is all = absurd (cc is)
  found_so test (y ∷ xs) x is all = found_by y x (find test xs) (test y) is (All-head G y xs all) (λ there. found_so test xs x there (All-tail G y xs all))

  pub turn_so : (o : Option ℕ) (xs : List PlainStream) (x : PlainStream) → stream_in o xs ≡ Some x → All G xs → G x
  turn_so None xs x is all = absurd (cc is)
  turn_so (Some id) xs x is all = found_so (λ stream. stream.id == id) xs x is all

quiet_short : (q : QuietOnes) → quiet_halt q ≡ halt.All → ⊥
quiet_short q = by q.waits
  where
    by : (w : Waits) → halt_of w ≡ halt.All → ⊥
    by wait.Nothing e = absurd (cc e)
    by wait.Saved e = absurd (cc e)
    by wait.State e = absurd (cc e)

few_put : (k n : ℕ) (h : Halt) → n < k → (h ≡ halt.All → ⊥) → PutFew k n h
few_put k n halt.All few short = absurd (short refl)
few_put k n halt.Idle few short = few
few_put k n halt.Full few short = few
few_put k n halt.WaitState few short = few
few_put k n halt.WaitSaved few short = few
few_put k n halt.Disk few short = few

module _ (replies : VbCall → Option VbReply → Type 0) (gots : (ask : Ask) → Got ask → Type 0) (calls : ℕ → VbCall → Type 0) (G : PlainStream → Type 0) (L : StreamName → Frame → Event → Type 0) (takes : Takes replies gots calls G) (lines : Lines replies gots G L) where
  -- ---- the next frame of a stream

  module _ (name : StreamName) where
    abbrev pub IsLine : Next → Type 0
    IsLine (next.Put m line, left) = G left × L name (dcp_frame m left.opaque left.vb) line
    IsLine (next.End reason, left) = G left × L name (dcp_frame (msg.StreamEnd reason) left.opaque left.vb) (event.Finished name reason)
    IsLine (next.Quiet waits, left) = G left
    IsLine (next.Disk, left) = G left

    abbrev Nexts : Job Next → Type 0
    Nexts job = AlwaysGot replies gots calls IsLine job

    either_next : (b : Bool) (x y : Job Next) → Nexts x → Nexts y → Nexts (if b then x else y)
    either_next true x y p q = p
    either_next false x y p q = q

    module _ (stream : PlainStream) (g : G stream) where
      end_next : (reason : ℕ) → IsLine (over reason stream)
      end_next reason = (g, lines.ends name stream reason g)

      state_line : (h : GiveUp) (s : GiveStep) → IsLine (state_next name stream h (role_of s))
      state_line h step.SendPending = (takes.given stream (Some (done h)) g, lines.states name stream role.Pending (inl refl) g)
      state_line h step.SendActive = (takes.given stream (Some (done h)) g, lines.states name stream role.Active (inr refl) g)
      state_line h step.SendAll = g
      state_line h step.AwaitPending = g
      state_line h step.Yield = g
      state_line h step.SendRest = g
      state_line h step.AwaitActive = g
      state_line h step.End = g

      none_line : (o : Option GiveUp) → IsLine (none_next name stream o)
      none_line None = g
      none_line (Some h) = state_line (done h) (done h).step

      take_next : (reply : Option VbReply) → replies (call.Take stream.id) reply → IsLine (take_answered name stream reply)
      take_next None may = end_next STATE_CHANGED
      take_next (Some reply) may = by reply.answer refl
        where
          by : (a : VbAnswer) → reply.answer ≡ a → IsLine (taken_next name stream a)
          by (answer.Taken snapshot) is = (takes.marked stream reply snapshot may is g, lines.markers name stream snapshot (inl (reply, may, is)) g)
          by answer.Nothing is = none_line stream.gives
          by other is = end_next STATE_CHANGED

    -- whatever is read of a backfill
    read_line : (on : PlainStream → Job Next) → ((left : PlainStream) → G left → Nexts (on left)) → (end : ℕ) (stream : PlainStream) → G stream → Nexts (backfill_next name on end stream)
    read_line on goes end stream g = (tt, λ reading may. by reading may (backfilled stream.place end stream.sync reading) refl)
      where
        by : (reading : Reading) → gots Read reading → (came : Backfilled) → backfilled stream.place end stream.sync reading ≡ came → Nexts (go_on_by on (read_comes name stream came))
        by reading may (filled.Snapshot snapshot) is = (takes.read stream end reading snapshot may is g, lines.markers name stream snapshot (inr (end, reading, may, is)) g)
        by reading may filled.Nothing is = goes (read_up stream) (takes.unread stream None g)
        by reading may filled.Disk is = g

    taking_line : (stream : PlainStream) → G stream → Nexts (take_requested name stream)
    taking_line stream g = (takes.takes stream g, λ reply may. take_next stream g reply may)

    place_next : (stream : PlainStream) → G stream → (o : Option Place) → Nexts (placed_next name stream o)
    place_next stream g (Some place.Memory) = taking_line stream g
    place_next stream g (Some (place.Backfill end)) = read_line (take_requested name) taking_line end (with_unread end stream) (takes.unread stream (Some end) g)
    place_next stream g (Some place.WaitSaved) = g
    place_next stream g None = end_next stream g STATE_CHANGED

    placing_line : (stream : PlainStream) → G stream → Nexts (place_requested name stream)
    placing_line stream g = (takes.places stream g, λ reply may. place_next stream g (place_said reply))

    changes_line : (stream : PlainStream) → G stream → (unread : Option ℕ) → Nexts (changes_next name stream unread)
    changes_line stream g None = placing_line stream g
    changes_line stream g (Some end) = read_line (place_requested name) placing_line end stream g

    module _ (stream : PlainStream) (g : G stream) where
      close_line : Nexts (close_sent stream)
      close_line = (takes.closes stream g, λ reply may. end_next stream g 0)

      step_line : (h : GiveUp) (s : GiveStep) → Nexts (step_next name stream h s)
      step_line h step.SendAll = changes_line stream g stream.unread
      step_line h step.SendPending = state_line stream g h step.SendPending
      step_line h step.AwaitPending = g
      step_line h step.Yield = g
      step_line h step.SendRest = changes_line stream g stream.unread
      step_line h step.SendActive = state_line stream g h step.SendActive
      step_line h step.AwaitActive = g
      step_line h step.End = close_line

      alive_line : (o : Option GiveUp) → Nexts (alive_next name stream o)
      alive_line None = either_next (reaches_end stream.until stream.marked) (close_sent stream) (changes_next name stream stream.unread) close_line (changes_line stream g stream.unread)
      alive_line (Some h) = step_line h h.step

      any_next : (o : Option Change) → slice_get stream.items stream.next ≡ o → Nexts (next_by name stream o)
      any_next (Some c) is = (takes.passed stream c is g, lines.items name stream c is g)
      any_next None is =
          either_next stream.ended (Ended (over STATE_CHANGED stream)) (alive_next name stream stream.gives) (end_next stream g STATE_CHANGED) (alive_line stream.gives)

      pub next_so : Nexts (next_frame name stream)
      unfolding next_frame
      next_so = any_next (slice_get stream.items stream.next) refl

  -- ---- what holds of a connection after so many frames

  module _ (Q : ℕ → Served → Type 0) (keeps : (n : ℕ) (s : Served) (end : PlainProducer) → end.desk ≡ s.end.desk → Q n s → Q n (record s { end = end }))
      (puts : (n : ℕ) (s : Served) (f : Frame) (line : Event) → L s.end.desk.stream f line → Q n s → Q (suc n) (frame_put f line s)) where
    -- and of its streams
    abbrev Both : ℕ → Served → Type 0
    Both n s = Q n s × All G s.end.streams

    -- a stream's turn
    abbrev Turned : ℕ → Turn Pulling Halting → Type 0
    Turned n (More p) = Both n p.served
    Turned n (Stop (p, None)) = Both (suc n) p.served
    Turned n (Stop (p, Some halted)) = Both n p.served × (halted ≡ halt.All → ⊥)

    came_so : (n : ℕ) (s : Served) (q : QuietOnes) → Both n s → (x : Next) → IsLine s.end.desk.stream x → Turned n (came s q x)
    came_so n s q c (next.Put m line, left) is = (
      puts n (stream_went left s) (dcp_frame m left.opaque left.vb) line is.1 (keeps n s (with_stream left s.end) refl c.0),
      all_replaced G left s.end.streams is.0 c.1,
    )
    came_so n s q c (next.End reason, left) is = (
      puts n (record s { end = without_stream left.id (with_stream left s.end) }) (dcp_frame (msg.StreamEnd reason) left.opaque left.vb) (event.Finished s.end.desk.stream reason) is.1
          (keeps n s (without_stream left.id (with_stream left s.end)) refl c.0),
      all_without G left.id (replaced left s.end.streams) (all_replaced G left s.end.streams is.0 c.1),
    )
    came_so n s q c (next.Quiet waits, left) is = (keeps n s (with_stream left s.end) refl c.0, all_replaced G left s.end.streams is c.1)
    came_so n s q c (next.Disk, left) is = ((keeps n s (with_stream left s.end) refl c.0, all_replaced G left s.end.streams is c.1), λ e. absurd (cc e))

    asked_so : (n : ℕ) (s : Served) (q : QuietOnes) (stream : PlainStream) → G stream → Both n s → AlwaysGot replies gots calls (Turned n) (stream_asked s q stream)
    asked_so n s q stream g c = got_bind replies gots calls (IsLine s.end.desk.stream) (Turned n) (next_frame s.end.desk.stream stream) (λ x. Ended (came s q x)) (next_so s.end.desk.stream stream g) (came_so n s q c)

    had_so : (n : ℕ) (s : Served) (q : QuietOnes) (o : Option PlainStream) → ((stream : PlainStream) → o ≡ Some stream → G stream) → Both n s → AlwaysGot replies gots calls (Turned n) (turn_had s q o)
    had_so n s q None one c = c
    had_so n s q (Some stream) one c = by (is_quiet stream.id q)
      where
        by : (b : Bool) → AlwaysGot replies gots calls (Turned n) (if b then Ended (More (pull_of s q)) else stream_asked s q stream)
        by true = c
        by false = asked_so n s q stream (one stream refl) c

    one_so : (n : ℕ) (p : Pulling) → Both n p.served → AlwaysGot replies gots calls (Turned n) (one_turn p)
    unfolding one_turn
    one_so n p c = had_so n (past_turn p.served) p.quiet (stream_in_turn p.served.end) (λ stream is. turn_so G _ p.served.end.streams stream is c.1) (keeps n p.served _ refl c.0, c.1)

    turns_so : (n k : ℕ) (p : Pulling) → Both n p.served → AlwaysGot replies gots calls (Turned n) (repeated_job k one_turn p)
    turns_so n zero p c = c
    turns_so n (suc k) p c = got_bind replies gots calls (Turned n) (Turned n) (repeated_job k one_turn p) (go_on_job one_turn) (turns_so n k p c) goes
      where
        goes : (t : Turn Pulling Halting) → Turned n t → AlwaysGot replies gots calls (Turned n) (go_on_job one_turn t)
        goes (More q) d = one_so n q d
        goes (Stop (q, None)) d = d
        goes (Stop (q, Some halted)) d = d

    -- a frame of the connection
    abbrev Framed : ℕ → Turn Pulling (Served × Halt) → Type 0
    Framed k (More p) = Both k p.served
    Framed k (Stop stopped) = (n : ℕ) × Both n stopped.0 × (n < k) × (stopped.1 ≡ halt.All → ⊥)

    framed_so : (n : ℕ) (p : Pulling) → Both n p.served → AlwaysGot replies gots calls (Framed (suc n)) (one_frame p)
    unfolding one_frame
    framed_so n p c = by (is_open p.served.end.window)
      where
        comes : (t : Turn Pulling Halting) → Turned n t → Framed (suc n) (turns_came t)
        comes (Stop (q, None)) d = d
        comes (Stop (q, Some halted)) d = (n, d.0, omega arith, d.1)
        comes (More q) d = (n, d, omega arith, quiet_short q.quiet)

        by : (b : Bool) → AlwaysGot replies gots calls (Framed (suc n)) (if b then bind_job (repeated_job (length p.served.end.streams) one_turn p) (λ turns. Ended (turns_came turns)) else Ended (Stop (p.served, halt.Full)))
        by true = got_bind replies gots calls (Turned n) (Framed (suc n)) (repeated_job (length p.served.end.streams) one_turn p) (λ turns. Ended (turns_came turns)) (turns_so n (length p.served.end.streams) p c) comes
        by false = (n, c, omega arith, λ e. absurd (cc e))

    frames_so : (k : ℕ) (p : Pulling) → Both 0 p.served → AlwaysGot replies gots calls (Framed k) (repeated_job k one_frame p)
    frames_so zero p c = c
    frames_so (suc k) p c = got_bind replies gots calls (Framed k) (Framed (suc k)) (repeated_job k one_frame p) (go_on_job one_frame) (frames_so k p c) goes
      where
        goes : (t : Turn Pulling (Served × Halt)) → Framed k t → AlwaysGot replies gots calls (Framed (suc k)) (go_on_job one_frame t)
        goes (More q) d = framed_so k q d
        goes (Stop stopped) d = let few = d.2 in (d.0, d.1, omega (arith, few), d.3)

    -- what a pull comes to
    abbrev pub Puts : ℕ → Served × Halt → Type 0
    Puts k put = (n : ℕ) × Q n put.0 × All G put.0.end.streams × PutFew k n put.1

    pub frames_come : (k : ℕ) (s : Served) → Q 0 s → All G s.end.streams → AlwaysGot replies gots calls (Puts k) (frames_put k s)
    unfolding frames_put
    frames_come k s c all = got_bind replies gots calls (Framed k) (Puts k) (repeated_job k one_frame (pull_of s none_quiet)) pulled (frames_so k (pull_of s none_quiet) (c, all)) comes
      where
        comes : (t : Turn Pulling (Served × Halt)) → Framed k t → AlwaysGot replies gots calls (Puts k) (pulled t)
        comes (More p) d = (k, d.0, d.1, refl)
        comes (Stop stopped) d = (d.0, d.1.0, d.1.1, few_put k d.0 stopped.1 d.2 d.3)
