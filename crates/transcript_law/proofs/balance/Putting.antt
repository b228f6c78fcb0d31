-- a frame that is put counts as a whole, and goes through the window
use Rattle.std.proofs.Common.{◌≡◌, ◌+◌, ◌<◌, ℕ, Bool, true, false, List, [], ◌∷◌, ◌++◌, length, refl, sym, ap, ◌∙◌, subst, inl, inr, arith, ◌⊎◌, Option, Some, None}
use Rattle.std.specs.Prelude.{if◌then◌else◌, ◌==◌, ◌^◌, slice_get}
use Rattle.std.proofs.lemmas.Bool.Decides.{nat_tests}
use Rattle.mcbp_frame.specs.declared.frame.Frame.{Frame}
use Rattle.mcbp_frame.specs.Spelling.{spelling, Readable}
use Rattle.mcbp_frame.proofs.Cases.{length-spelling}
use Rattle.mcbp_dcp.specs.declared.message.DcpMsg.TheVariants as msg
use Rattle.mcbp_dcp.specs.DcpFrames.{dcp_frame}
use Rattle.vb_types.specs.declared.change.Act.{Act}
use Rattle.vb_types.specs.declared.change.Act.TheVariants as act
use Rattle.vb_types.specs.declared.change.Change.{Change}
use Rattle.vb_types.specs.declared.stream.Place.{Place}
use Rattle.vb_types.specs.declared.stream.Place.TheVariants as place
use Rattle.vb_types.specs.declared.stream.Snapshot.{Snapshot}
use Rattle.vb_events.specs.declared.event.Event.{Event}
use Rattle.vb_events.specs.declared.event.Event.TheVariants as event
use Rattle.vb_events.specs.declared.event.StreamName.{StreamName}
use Rattle.vb_calls.specs.declared.calls.VbAnswer.{VbAnswer}
use Rattle.vb_calls.specs.declared.calls.VbAnswer.TheVariants as answer
use Rattle.vb_calls.specs.declared.calls.VbReply.{VbReply}
use Rattle.vb_calls.specs.Programs.{Turn, More, Stop, AnyCall, AnyReply}
use Rattle.vb_calls.specs.States.{States}
use Rattle.dcp_consumer.specs.Counting.{CountsAsMessage}
use Rattle.dcp_consumer.proofs.Counted.{messages}
use Rattle.dcp_producer.proofs.OneStream.{no_frame_of, one_came, one_frame_of, shut_frame_of}
use Rattle.dcp_producer.specs.declared.halt.Halt.{Halt}
use Rattle.dcp_producer.specs.declared.next_frame.NextFrame.TheVariants as next
use Rattle.takeover.specs.GivingUp.{done}
use Rattle.takeover.specs.declared.give_up.{GiveStep.{GiveStep}, GiveUp.{GiveUp}}
use Rattle.vb_types.specs.declared.role.Role.{Role}
use Rattle.dcp_producer.specs.Firsts.{start_sent}
use Rattle.dcp_producer.specs.Frames.{Next, STATE_CHANGED, act_message, alive_next, none_next, role_of, state_next, step_next, close_sent, marker_flags, next_by, next_frame, over, place_requested, place_said, placed_next, reaches_end, take_answered, taken_next, backfill_next, changes_next, go_on_by, read_comes, read_up, take_requested, with_unread}
use Rattle.dcp_producer.specs.Producers.{PlainStream, Served}
use Rattle.dcp_producer.specs.Pulling.{Pulling, frame_put, none_quiet, one_frame, pull_of}
use Rattle.transcript_law.proofs.balance.Rooms.{Room, room_of}
use Rattle.transcript_law.proofs.lines.Pulling.{lets_through}
use Rattle.transcript_law.specs.Balance.{is_of_stream, stream_len}
use Rattle.backfill.specs.declared.backfilled.Backfilled.TheVariants as filled
use Rattle.backfill.specs.Backfills.{backfilled}
use Rattle.backfill.specs.declared.backfilled.Backfilled.{Backfilled}
use Rattle.vb_calls.proofs.JobConduct.{always_bind_job}
use Rattle.vb_calls.proofs.JobReadings.{reads_always}
use Rattle.vb_calls.specs.Jobs.{AlwaysJob, Ended, IsRead, Job, after_reads}
use Rattle.vb_calls.specs.Shelves.{Shelves}

-- readers take what may be put of a stream next
pub record StreamFits (stream : PlainStream) : Type 0 where
  pub opaque : stream.opaque < 2 ^ 32
  pub vb : stream.vb < 2 ^ 16
  pub item : (c : Change) → slice_get stream.items stream.next ≡ Some c → Readable (dcp_frame (act_message c c.act) stream.opaque stream.vb)

-- a frame that a reader takes, and that counts as a whole
abbrev pub IsPut : Frame → Type 0
IsPut f = Readable f × (is_of_stream f ≡ true)

pub put_len : (f : Frame) → is_of_stream f ≡ true → stream_len f ≡ length (spelling f)
put_len f is = ap (λ b. if b then 24 + (length f.framing + length f.extras + length f.key + length f.value) else 0) is ∙ sym (length-spelling f)

-- there is a stream
abbrev pub HasStream : Served → Type 0
HasStream s = s.end.streams ≡ [] → ⊥

-- so many bytes went through a window: at size 0 nothing changes, and else less than its size was outstanding, and so many more are then
abbrev pub Passes : ℕ → Room → Room → Type 0
Passes len w after = (after.size ≡ w.size) × (((w.size ≡ 0) × (after.outstanding ≡ w.outstanding)) ⊎ ((w.outstanding < w.size) × (after.outstanding ≡ w.outstanding + len)))

-- ---- the next frame of a stream

act_counts : (c : Change) (a : Act) → CountsAsMessage (act_message c a)
act_counts c (act.Set doc) = tt
act_counts c (act.Remove cas rev) = tt
act_counts c (act.Prepare level doc deleted) = tt
act_counts c (act.Commit prepared doc deleted) = tt
act_counts c (act.Abort prepared) = tt

-- it is such a frame, or there is none
abbrev NextIs : Next → Type 0
NextIs (next.Put m line, left) = IsPut (dcp_frame m left.opaque left.vb)
NextIs (next.End reason, left) = IsPut (dcp_frame (msg.StreamEnd reason) left.opaque left.vb)
NextIs (next.Quiet for, left) = Unit {0}
NextIs (next.Disk, left) = Unit {0}

abbrev Nexts : Job Next → Type 0
Nexts one = AlwaysJob AnyReply AnyCall IsRead NextIs one

module _ (name : StreamName) (stream : PlainStream) (fits : StreamFits stream) where
  end_readable : (reason : ℕ) → Readable (dcp_frame (msg.StreamEnd reason) stream.opaque stream.vb)
  unfolding dcp_frame
  end_readable reason = let o = fits.opaque in let v = fits.vb in search arith

  marker_readable : (start end flags : ℕ) → Readable (dcp_frame (msg.SnapshotMarker start end flags) stream.opaque stream.vb)
  unfolding dcp_frame
  marker_readable start end flags = let o = fits.opaque in let v = fits.vb in search arith

  end_is : (reason : ℕ) → NextIs (over reason stream)
  end_is reason = (end_readable reason, (messages (msg.StreamEnd reason) stream.opaque stream.vb).1 tt)

  state_readable : (told : Role) → Readable (dcp_frame (msg.SetVbucketState told) stream.opaque stream.vb)
  unfolding dcp_frame
  state_readable told = let o = fits.opaque in let v = fits.vb in search arith

  -- a state counts too, and where none is put nothing is
  state_is : (g : GiveUp) (told : Option Role) → NextIs (state_next name stream g told)
  state_is g None = tt
  state_is g (Some told) = (state_readable told, (messages (msg.SetVbucketState told) stream.opaque stream.vb).1 tt)

  none_is : (o : Option GiveUp) → NextIs (none_next name stream o)
  none_is None = tt
  none_is (Some g) = state_is (done g) (role_of (done g).step)

  marker_is : (x : Snapshot) → NextIs (taken_next name stream (answer.Taken x))
  marker_is x = let start : ℕ = start_sent stream.marked stream.first x.start in (marker_readable start x.end (marker_flags x.disk), (messages (msg.SnapshotMarker start x.end (marker_flags x.disk)) stream.opaque stream.vb).1 tt)

  take_is : (reply : Option VbReply) → NextIs (take_answered name stream reply)
  take_is None = end_is STATE_CHANGED
  take_is (Some reply) = by reply.answer
    where
      by : (a : VbAnswer) → NextIs (taken_next name stream a)
      by (answer.Taken snapshot) = marker_is snapshot
      by answer.Nothing = none_is stream.gives
      by other = end_is STATE_CHANGED

  asks_is : Nexts (take_requested name stream)
  asks_is = (tt, λ reply any. take_is reply)

  -- a backfill is read, and where it gives nothing, the stream goes on so
  read_is : (on : PlainStream → Job Next) (end : ℕ) → Nexts (on (read_up stream)) → Nexts (backfill_next name on end stream)
  read_is on end next = (tt, λ got. by (backfilled stream.place end stream.sync got))
    where
      by : (came : Backfilled) → Nexts (go_on_by on (read_comes name stream came))
      by (filled.Snapshot x) = let start : ℕ = start_sent stream.marked stream.first x.start in (marker_readable start x.end (marker_flags x.disk), (messages (msg.SnapshotMarker start x.end (marker_flags x.disk)) stream.opaque stream.vb).1 tt)
      by filled.Nothing = next
      by filled.Disk = tt

-- a stream with nothing to read, or with something
up_fits : (stream : PlainStream) → StreamFits stream → StreamFits (read_up stream)
up_fits stream fits = record { opaque = fits.opaque; vb = fits.vb; item = fits.item }

unread_fits : (end : ℕ) (stream : PlainStream) → StreamFits stream → StreamFits (with_unread end stream)
unread_fits end stream fits = record { opaque = fits.opaque; vb = fits.vb; item = fits.item }

module _ (name : StreamName) where
  place_is : (stream : PlainStream) → StreamFits stream → (from : Option Place) → Nexts (placed_next name stream from)
  place_is stream fits (Some place.Memory) = asks_is name stream fits
  place_is stream fits (Some (place.Backfill end)) = read_is name (with_unread end stream) (unread_fits end stream fits) (take_requested name) end (asks_is name (read_up (with_unread end stream)) (up_fits (with_unread end stream) (unread_fits end stream fits)))
  place_is stream fits (Some place.WaitSaved) = tt
  place_is stream fits None = end_is name stream fits STATE_CHANGED

  places_is : (stream : PlainStream) → StreamFits stream → Nexts (place_requested name stream)
  places_is stream fits = (tt, λ reply any. place_is stream fits (place_said reply))

  changes_is : (stream : PlainStream) → StreamFits stream → (o : Option ℕ) → Nexts (changes_next name stream o)
  changes_is stream fits None = places_is stream fits
  changes_is stream fits (Some end) = read_is name stream fits (place_requested name) end (places_is (read_up stream) (up_fits stream fits))

module _ (name : StreamName) (stream : PlainStream) (fits : StreamFits stream) where
  reached_is : (b : Bool) → Nexts (if b then close_sent stream else changes_next name stream stream.unread)
  reached_is true = (tt, λ reply any. end_is name stream fits 0)
  reached_is false = changes_is name stream fits stream.unread

  step_is : (g : GiveUp) (step : GiveStep) → Nexts (step_next name stream g step)
  step_is g GiveStep.SendAll = reached_is false
  step_is g GiveStep.SendPending = state_is name stream fits g (role_of GiveStep.SendPending)
  step_is g GiveStep.AwaitPending = state_is name stream fits g (role_of GiveStep.AwaitPending)
  step_is g GiveStep.Yield = state_is name stream fits g (role_of GiveStep.Yield)
  step_is g GiveStep.SendRest = reached_is false
  step_is g GiveStep.SendActive = state_is name stream fits g (role_of GiveStep.SendActive)
  step_is g GiveStep.AwaitActive = state_is name stream fits g (role_of GiveStep.AwaitActive)
  step_is g GiveStep.End = reached_is true

  alive_is : (o : Option GiveUp) → Nexts (alive_next name stream o)
  alive_is None = reached_is (reaches_end stream.until stream.marked)
  alive_is (Some g) = step_is g g.step

  more_is : (b : Bool) → Nexts (if b then Ended (over STATE_CHANGED stream) else alive_next name stream stream.gives)
  more_is true = end_is name stream fits STATE_CHANGED
  more_is false = alive_is stream.gives

  next_is : Nexts (next_frame name stream)
  unfolding next_frame
  next_is = by (slice_get stream.items stream.next) refl
    where
      by : (o : Option Change) → slice_get stream.items stream.next ≡ o → Nexts (next_by name stream o)
      by None here = more_is stream.ended
      by (Some c) here = (fits.item c here, (messages (act_message c c.act) stream.opaque stream.vb).1 (act_counts c c.act))

-- ---- a frame of a connection with one stream

-- such a frame is put through the window, or nothing is done
abbrev pub Went : Served → Turn Pulling (Served × Halt) → Type 0
Went s (More p) = (f : Frame) × IsPut f × HasStream s × (p.served.out ≡ s.out ++ spelling f) × Passes (length (spelling f)) (room_of s.end) (room_of p.served.end)
Went s (Stop stopped) = (room_of stopped.0.end ≡ room_of s.end) × (stopped.0.out ≡ s.out)

-- what is put goes through a window that is open
passes : (s : Served) (f : Frame) (line : Event) (streams : List PlainStream) (turn : ℕ) → lets_through s.end ≡ true
    → Passes (length (spelling f)) (room_of s.end) (room_of (frame_put f line (record s { end = record s.end { streams = streams; turn = turn } })).end)
passes s f line streams turn free = by (s.end.window.size == 0) refl
  where
    by : (b : Bool) → (s.end.window.size == 0) ≡ b
        → Passes (length (spelling f)) (room_of s.end) (room_of (record s.end { window = if b then s.end.window else record s.end.window { outstanding = s.end.window.outstanding + length (spelling f) } }))
    by true none = (refl, inl (grind (arith, nat_tests), refl))
    by false some = (refl, inr (grind (arith, nat_tests, free, some), refl))

module _ (s : Served) (shelves : Shelves) (states : States) where
  abbrev Goes : Type 0
  Goes = Went s (after_reads (one_frame (pull_of s none_quiet)) shelves states).1

  shut_went : lets_through s.end ≡ false → Goes
  shut_went shut = subst (λ prog. Went s (after_reads prog shelves states).1) (sym (shut_frame_of s none_quiet shut)) (refl, refl)

  -- there is none
  pub none_went : s.end.streams ≡ [] → Goes
  none_went none = by (lets_through s.end) refl
    where
      by : (b : Bool) → lets_through s.end ≡ b → Goes
      by true free = subst (λ prog. Went s (after_reads prog shelves states).1) (sym (no_frame_of s none free)) (refl, refl)
      by false shut = shut_went shut

  -- the one that there is
  pub one_went : (stream : PlainStream) → s.end.streams ≡ stream ∷ [] → StreamFits stream → Goes
  one_went stream one fits = by (lets_through s.end) refl
    where
      some : HasStream s
      some none = let z : [] ≡ stream ∷ [] = sym none ∙ one in cc

      came : lets_through s.end ≡ true → (x : Next) → NextIs x → Went s (one_came s x)
      came free (next.Put m line, left) is = (dcp_frame m left.opaque left.vb, is, some, refl, passes s (dcp_frame m left.opaque left.vb) line (left ∷ []) 1 free)
      came free (next.End reason, left) is =
          (dcp_frame (msg.StreamEnd reason) left.opaque left.vb, is, some, refl, passes s (dcp_frame (msg.StreamEnd reason) left.opaque left.vb) (event.Finished s.end.desk.stream reason) [] 0 free)
      came free (next.Quiet for, left) is = (refl, refl)
      came free (next.Disk, left) is = (refl, refl)

      by : (b : Bool) → lets_through s.end ≡ b → Goes
      by true free = subst (λ prog. Went s (after_reads prog shelves states).1) (sym (one_frame_of s stream one free))
          (reads_always AnyCall IsRead (Went s) _ shelves states
          (always_bind_job AnyReply AnyCall IsRead NextIs (Went s) (next_frame s.end.desk.stream stream) (λ next. Ended (one_came s next)) (next_is s.end.desk.stream stream fits) (came free)))
      by false shut = shut_went shut
