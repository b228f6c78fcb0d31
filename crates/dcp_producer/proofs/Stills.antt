-- a stream that is quiet, over plain vBuckets: it changes nothing, and it is quiet again as long as its own vBucket stays as it is
use Rattle.std.proofs.Common.{◌≡◌, ◌⊎◌, ℕ, Bool, true, false, inl, inr, refl, sym, ap, ◌∙◌, subst, Option, Some, None}
use Rattle.std.specs.Prelude.{◌==◌, if◌then◌else◌, slice_get}
use Rattle.std.proofs.lemmas.Bool.{eqb-true, eq-eqb}
use Rattle.vb_types.specs.declared.change.Change.{Change}
use Rattle.vb_types.specs.declared.stream.Place.{Place}
use Rattle.vb_types.specs.declared.stream.Place.TheVariants as place
use Rattle.vb_types.specs.declared.role.Role.{Role}
use Rattle.takeover.specs.GivingUp.{done}
use Rattle.takeover.specs.declared.give_up.GiveStep.{GiveStep}
use Rattle.takeover.specs.declared.give_up.GiveStep.TheVariants as step
use Rattle.takeover.specs.declared.give_up.GiveUp.{GiveUp}
use Rattle.vb_events.specs.declared.event.StreamName.{StreamName}
use Rattle.vb_calls.specs.declared.calls.VbCall.{VbCall}
use Rattle.vb_calls.specs.declared.calls.VbCall.TheVariants as call
use Rattle.vb_calls.specs.declared.calls.VbReply.{VbReply}
use Rattle.vb_calls.specs.declared.span.Span.{Span}
use Rattle.vb_calls.specs.declared.stream.Stream.{Stream}
use Rattle.vb_calls.specs.Plain.{Plain, plain_step}
use Rattle.vb_calls.specs.Spans.{all_spans}
use Rattle.vb_calls.specs.States.{States, call_at, states_step, with_vb_at}
use Rattle.vb_calls.specs.Streams.{end_span, stream_at, take_from, take_to}
use Rattle.vb_calls.specs.Jobs.{Job, Ended, Call, Request, after_reads, AlwaysJob, IsRead}
use Rattle.vb_calls.specs.Programs.{AnyCall, AnyReply}
use Rattle.vb_calls.specs.Shelves.{Read, Shelves, shelves_step}
use Rattle.vb_calls.proofs.JobReadings.{reads_always, reads_elsewhere}
use Rattle.backfill.specs.Backfills.{backfilled}
use Rattle.backfill.specs.declared.backfilled.Backfilled.{Backfilled}
use Rattle.backfill.specs.declared.backfilled.Backfilled.TheVariants as filled
use Rattle.vb_calls.proofs.Placing.{with_itself}
use Rattle.dcp_producer.specs.declared.next_frame.NextFrame.TheVariants as next
use Rattle.dcp_producer.specs.declared.next_frame.Waits.{Waits}
use Rattle.dcp_producer.specs.Frames.{Next, ALL_SENT, STATE_CHANGED, alive_next, backfill_next, changes_next, go_on_by, none_next, read_comes, read_up, take_requested, with_unread, role_of, state_next, step_next, close_sent, next_by, next_frame, over, place_requested, place_said, placed_next, reaches_end, take_answered, taken_next}
use Rattle.dcp_producer.specs.AskingAll.{StaysQuiet}
use Rattle.dcp_producer.specs.Producers.{PlainStream}
use Rattle.dcp_producer.proofs.Framing.{GoesOn, frame_same}
use Rattle.dcp_producer.proofs.Settling.{MayGive, may_give, memory_then, places_settle, said_then}

-- what a stream that is quiet leaves: the vBuckets and itself as they were
abbrev LeavesAll : States → PlainStream → States × Next → Type 0
LeavesAll states stream (left, (next.Put m line, s)) = Unit {0}
LeavesAll states stream (left, (next.End reason, s)) = Unit {0}
LeavesAll states stream (left, (next.Quiet waits, s)) = (left ≡ states) × (s ≡ stream)
LeavesAll states stream (left, (next.Disk, s)) = Unit {0}

-- of a stream of which all is read
module _ (name : StreamName) (shelves : Shelves) (base : PlainStream) (states : States) where
  abbrev all_read : PlainStream
  all_read = read_up base

  abbrev v : ℕ
  v = base.vb

  abbrev id : ℕ
  id = base.id

  -- a state, or none
  state_leaves : (g : GiveUp) (o : Option Role) → LeavesAll states all_read (states, state_next name all_read g o)
  state_leaves g None = (refl, refl)
  state_leaves g (Some told) = tt

  none_leaves : (o : Option GiveUp) → LeavesAll states all_read (states, none_next name all_read o)
  none_leaves None = (refl, refl)
  none_leaves (Some g) = state_leaves (done g) (role_of (done g).step)

  -- behind a take
  taken : (o : Option Plain) → states v ≡ o → LeavesAll states all_read ((call_at states v (call.Take id) o).0, take_answered name all_read (call_at states v (call.Take id) o).1)
  taken None there = tt
  taken (Some vb) there = by (stream_at id vb.streams)
    where
      given : (s : Stream) (w : Option Span) → LeavesAll states all_read (with_vb_at states v (take_to w s vb).0, taken_next name all_read (take_to w s vb).1.answer)
      given s None = subst (λ (left : States). LeavesAll states all_read (left, none_next name all_read base.gives)) (sym (with_itself states v vb there)) (none_leaves base.gives)
      given s (Some w) = tt

      by : (o : Option Stream) → LeavesAll states all_read (with_vb_at states v (take_from o vb).0, taken_next name all_read (take_from o vb).1.answer)
      by None = tt
      by (Some s) = given s (if s.cursor then end_span s (all_spans vb.spans) vb.held else None)

  -- and where a backfill gave nothing
  read : (end : ℕ) (came : Backfilled) → LeavesAll states all_read (after_reads (go_on_by (take_requested name) (read_comes name (with_unread end all_read) came)) shelves states)
  read end (filled.Snapshot snapshot) = tt
  read end filled.Nothing = taken (states v) refl
  read end filled.Disk = tt

  placed : (from : Option Place) → LeavesAll states all_read (after_reads (placed_next name all_read from) shelves states)
  placed None = tt
  placed (Some place.Memory) = taken (states v) refl
  placed (Some (place.Backfill end)) = read end (backfilled base.place end base.sync (shelves_step shelves base.vb Read).1)
  placed (Some place.WaitSaved) = (refl, refl)

  -- where it is told of memory behind a backfill that gave nothing, it is quiet so too
  settles : (from : Option Place) (left : States) (waits : Waits) (s : PlainStream) → after_reads (placed_next name all_read from) shelves states ≡ (left, (next.Quiet waits, s))
      → after_reads (placed_next name all_read (memory_then from)) shelves states ≡ (left, (next.Quiet waits, s))
  settles None left waits s is = is
  settles (Some place.Memory) left waits s is = is
  settles (Some place.WaitSaved) left waits s is = is
  settles (Some (place.Backfill end)) left waits s is = by (backfilled base.place end base.sync (shelves_step shelves base.vb Read).1) is
    where
      put_quiet : {m : _} {line : _} → next.Put m line ≡ next.Quiet waits → ⊥
      put_quiet e = absurd (cc e)

      disk_quiet : next.Disk ≡ next.Quiet waits → ⊥
      disk_quiet e = absurd (cc e)

      by : (came : Backfilled) → after_reads (go_on_by (take_requested name) (read_comes name (with_unread end all_read) came)) shelves states ≡ (left, (next.Quiet waits, s))
          → after_reads (take_requested name all_read) shelves states ≡ (left, (next.Quiet waits, s))
      by (filled.Snapshot snapshot) e = absurd (put_quiet (ap (λ (y : States × Next). y.1.0) e))
      by filled.Nothing e = e
      by filled.Disk e = absurd (disk_quiet (ap (λ (y : States × Next). y.1.0) e))

-- ---- a stream that is quiet

-- so it is as it was, or all of it is read, and so are the vBuckets but for that; and over those that are left it is quiet so again, and nothing changes
pub record QuietSo (shelves : Shelves) (stream : PlainStream) (first rest : Job Next) (states left : States) (waits : Waits) (s : PlainStream) : Type 0 where
  pub gives : MayGive stream states left
  pub again : ((s ≡ stream) × (after_reads first shelves left ≡ (left, (next.Quiet waits, stream)))) ⊎ ((s ≡ read_up stream) × (after_reads rest shelves left ≡ (left, (next.Quiet waits, read_up stream))))

abbrev pub Quietly : Shelves → PlainStream → Job Next → Job Next → States → Type 0
Quietly shelves stream first rest states = (left : States) (waits : Waits) (s : PlainStream) → after_reads first shelves states ≡ (left, (next.Quiet waits, s)) → QuietSo shelves stream first rest states left waits s

module _ (name : StreamName) (shelves : Shelves) (stream : PlainStream) (states : States) where
  -- one that makes no call
  none_called : (x : Next) (rest : Job Next) → LeavesAll states stream (states, x) → Quietly shelves stream (Ended x) rest states
  none_called x rest leaves left waits s is =
      let (same, itself) = subst (LeavesAll states stream) is leaves in
      record { gives = inl same; again = inl (itself, (λ i. (left, (is i).1)) ∙ (λ i. (left, (next.Quiet waits, itself i)))) }

  -- where all is read, its vBucket is asked
  asked_then : (left : States) (waits : Waits) (s : PlainStream) → after_reads (place_requested name (read_up stream)) shelves states ≡ (left, (next.Quiet waits, s))
      → (MayGive stream states left) × (s ≡ read_up stream) × (after_reads (place_requested name (read_up stream)) shelves left ≡ (left, (next.Quiet waits, read_up stream)))
  asked_then left waits s is =
      let placed_at : States × Option VbReply = states_step states stream.vb (call.Place stream.id) in
      let (same, itself) = subst (LeavesAll placed_at.0 (read_up stream)) is (placed name shelves stream placed_at.0 (place_said placed_at.1)) in
      let once_more = places_settle states stream.vb stream.id in (
        subst (MayGive stream states) (sym same) (may_give stream states),
        itself,
        ap (after_reads (place_requested name (read_up stream)) shelves) same
            ∙ (λ i. after_reads (placed_next name (read_up stream) (place_said (once_more i).1)) shelves (once_more i).0)
            ∙ ap (λ from. after_reads (placed_next name (read_up stream) from) shelves placed_at.0) (said_then placed_at.1)
            ∙ settles name shelves stream placed_at.0 (place_said placed_at.1) left waits s is
            ∙ (λ i. (left, (next.Quiet waits, itself i))),
      )

  -- so behind a backfill that gave nothing, and where there was none
  asked_behind : (end : ℕ) (came : Backfilled) → Quietly shelves stream (go_on_by (place_requested name) (read_comes name stream came)) (place_requested name (read_up stream)) states
  asked_behind end (filled.Snapshot snapshot) left waits s is = absurd (put_quiet (ap (λ (y : States × Next). y.1.0) is))
    where
      put_quiet : {m : _} {line : _} → next.Put m line ≡ next.Quiet waits → ⊥
      put_quiet e = absurd (cc e)
  asked_behind end filled.Nothing left waits s is = let so = asked_then left waits s is in record { gives = so.0; again = inr (so.1, so.2) }
  asked_behind end filled.Disk left waits s is = let e : next.Disk ≡ next.Quiet waits = ap (λ (y : States × Next). y.1.0) is in absurd (cc e)

  asked : (unread : Option ℕ) → stream.unread ≡ unread → Quietly shelves stream (changes_next name stream unread) (place_requested name (read_up stream)) states
  asked None is left waits s comes =
      let same : read_up stream ≡ stream = λ i. record stream { unread = sym is i } in
      let so = asked_then left waits s (ap (λ t. after_reads (place_requested name t) shelves states) same ∙ comes) in
      record { gives = so.0; again = inr (so.1, so.2) }
  asked (Some end) is left waits s comes =
      let so = asked_behind end (backfilled stream.place end stream.sync (shelves_step shelves stream.vb Read).1) left waits s comes in
      record { gives = so.gives; again = so.again }

  reached : (b : Bool) → Quietly shelves stream (if b then close_sent stream else changes_next name stream stream.unread) (if b then close_sent (read_up stream) else place_requested name (read_up stream)) states
  reached true = λ left waits s is. let z : next.End ALL_SENT ≡ next.Quiet waits = ap (λ (y : States × Next). y.1.0) is in cc
  reached false = asked stream.unread refl

  steps : (g : GiveUp) (s : GiveStep) → Quietly shelves stream (step_next name stream g s) (step_next name (read_up stream) g s) states
  steps g step.SendAll = asked stream.unread refl
  steps g step.SendPending = none_called _ _ tt
  steps g step.AwaitPending = none_called _ _ (refl, refl)
  steps g step.Yield = none_called _ _ (refl, refl)
  steps g step.SendRest = asked stream.unread refl
  steps g step.SendActive = none_called _ _ tt
  steps g step.AwaitActive = none_called _ _ (refl, refl)
  steps g step.End = reached true

  alive : (o : Option GiveUp) → Quietly shelves stream (alive_next name stream o) (alive_next name (read_up stream) o) states
  alive None = reached (reaches_end stream.until stream.marked)
  alive (Some g) = steps g g.step

  ended : (b : Bool) → Quietly shelves stream (if b then Ended (over STATE_CHANGED stream) else alive_next name stream stream.gives) (if b then Ended (over STATE_CHANGED (read_up stream)) else alive_next name (read_up stream) stream.gives) states
  ended true = none_called (over STATE_CHANGED stream) _ tt
  ended false = alive stream.gives

  items : (item : Option Change) → Quietly shelves stream (next_by name stream item) (next_by name (read_up stream) item) states
  items None = ended stream.ended
  items (Some c) = none_called _ _ tt

  -- a stream that is quiet changes nothing, but that all of it is read, and that its vBucket may give it a cursor; and asked again, it is quiet so
  quiet_so : Quietly shelves stream (next_frame name stream) (next_frame name (read_up stream)) states
  unfolding next_frame
  quiet_so = items (slice_get stream.items stream.next)

  module _ (left : States) (waits : Waits) (s : PlainStream) (is : after_reads (next_frame name stream) shelves states ≡ (left, (next.Quiet waits, s))) where
    so : QuietSo shelves stream (next_frame name stream) (next_frame name (read_up stream)) states left waits s
    so = quiet_so left waits s is

    pub quiet_gives : MayGive stream states left
    quiet_gives = so.gives

    pub quiet_itself : (s ≡ stream) ⊎ (s ≡ read_up stream)
    quiet_itself = by so.again
      where
        by : ((s ≡ stream) × (after_reads (next_frame name stream) shelves left ≡ (left, (next.Quiet waits, stream)))) ⊎ ((s ≡ read_up stream) × (after_reads (next_frame name (read_up stream)) shelves left ≡ (left, (next.Quiet waits, read_up stream))))
            → (s ≡ stream) ⊎ (s ≡ read_up stream)
        by (inl (same, again)) = inl same
        by (inr (same, again)) = inr same

    pub quiet_again : after_reads (next_frame name s) shelves left ≡ (left, (next.Quiet waits, s))
    quiet_again = by so.again
      where
        by : ((s ≡ stream) × (after_reads (next_frame name stream) shelves left ≡ (left, (next.Quiet waits, stream)))) ⊎ ((s ≡ read_up stream) × (after_reads (next_frame name (read_up stream)) shelves left ≡ (left, (next.Quiet waits, read_up stream))))
            → after_reads (next_frame name s) shelves left ≡ (left, (next.Quiet waits, s))
        by (inl (same, again)) = subst (λ t. after_reads (next_frame name t) shelves left ≡ (left, (next.Quiet waits, t))) (sym same) again
        by (inr (same, again)) = subst (λ t. after_reads (next_frame name t) shelves left ≡ (left, (next.Quiet waits, t))) (sym same) again

-- ---- a stream calls its own vBucket alone

abbrev AtOnly : ℕ → ℕ → VbCall → Type 0
AtOnly v w called = w ≡ v

abbrev Any : Next → Type 0
Any next = Unit {0}

module _ (name : StreamName) (v : ℕ) where
  abbrev Own : Job Next → Type 0
  Own job = AlwaysJob AnyReply (AtOnly v) IsRead Any job

  taking_own : (stream : PlainStream) → stream.vb ≡ v → Own (take_requested name stream)
  taking_own stream at = (at, λ reply any. tt)

  read_own : (on : PlainStream → Job Next) → ((left : PlainStream) → left.vb ≡ v → Own (on left)) → (end : ℕ) (stream : PlainStream) → stream.vb ≡ v → Own (backfill_next name on end stream)
  read_own on goes end stream at = (tt, λ reading. by (backfilled stream.place end stream.sync reading))
    where
      by : (came : Backfilled) → Own (go_on_by on (read_comes name stream came))
      by (filled.Snapshot snapshot) = tt
      by filled.Nothing = goes (read_up stream) at
      by filled.Disk = tt

  placed_own : (stream : PlainStream) → stream.vb ≡ v → (from : Option Place) → Own (placed_next name stream from)
  placed_own stream at None = tt
  placed_own stream at (Some place.Memory) = taking_own stream at
  placed_own stream at (Some (place.Backfill end)) = read_own (take_requested name) taking_own end (with_unread end stream) at
  placed_own stream at (Some place.WaitSaved) = tt

  place_own : (stream : PlainStream) → stream.vb ≡ v → Own (place_requested name stream)
  place_own stream at = (at, λ reply any. placed_own stream at (place_said reply))

  changes_own : (stream : PlainStream) → stream.vb ≡ v → (unread : Option ℕ) → Own (changes_next name stream unread)
  changes_own stream at None = place_own stream at
  changes_own stream at (Some end) = read_own (place_requested name) place_own end stream at

module _ (name : StreamName) (stream : PlainStream) where
  abbrev OwnOne : Job Next → Type 0
  OwnOne job = Own name stream.vb job

  reached_own : (b : Bool) → OwnOne (if b then close_sent stream else changes_next name stream stream.unread)
  reached_own true = (refl, λ reply any. tt)
  reached_own false = changes_own name stream.vb stream refl stream.unread

  step_own : (g : GiveUp) (s : GiveStep) → OwnOne (step_next name stream g s)
  step_own g step.SendAll = reached_own false
  step_own g step.SendPending = tt
  step_own g step.AwaitPending = tt
  step_own g step.Yield = tt
  step_own g step.SendRest = reached_own false
  step_own g step.SendActive = tt
  step_own g step.AwaitActive = tt
  step_own g step.End = reached_own true

  alive_own : (o : Option GiveUp) → OwnOne (alive_next name stream o)
  alive_own None = reached_own (reaches_end stream.until stream.marked)
  alive_own (Some g) = step_own g g.step

  ended_own : (b : Bool) → OwnOne (if b then Ended (over STATE_CHANGED stream) else alive_next name stream stream.gives)
  ended_own true = tt
  ended_own false = alive_own stream.gives

  items_own : (item : Option Change) → OwnOne (next_by name stream item)
  items_own None = ended_own stream.ended
  items_own (Some c) = tt

  own : OwnOne (next_frame name stream)
  unfolding next_frame
  own = items_own (slice_get stream.items stream.next)

  module _ (shelves : Shelves) where
    -- so it leaves all other vBuckets
    pub elsewhere : (states : States) (w : ℕ) → (w ≡ stream.vb → ⊥) → (after_reads (next_frame name stream) shelves states).0 w ≡ states w
    elsewhere states w other = reads_elsewhere (AtOnly stream.vb) IsRead Any (next_frame name stream) shelves states w (λ asked. other) own

    -- and goes on as the same one
    pub after_same : (states : States) → GoesOn stream (after_reads (next_frame name stream) shelves states).1
    after_same states = reads_always AnyCall IsRead (GoesOn stream) (next_frame name stream) shelves states (frame_same name stream)

-- ---- what a job that calls one vBucket comes to

reply_same : (a b : States) (v w : ℕ) (asked : VbCall) → w ≡ v → a v ≡ b v → (states_step a w asked).1 ≡ (states_step b w asked).1
reply_same a b v w asked at same = by (a w) ∙ ap (λ o. (call_at b w asked o).1) (ap a at ∙ same ∙ sym (ap b at))
  where
    by : (o : Option Plain) → (call_at a w asked o).1 ≡ (call_at b w asked o).1
    by None = refl
    by (Some vb) = refl

step_same : (a b : States) (v w : ℕ) (asked : VbCall) → w ≡ v → a v ≡ b v → (states_step a w asked).0 v ≡ (states_step b w asked).0 v
step_same a b v w asked at same = by (a w) ∙ ap (λ o. (call_at b w asked o).0 v) (ap a at ∙ same ∙ sym (ap b at))
  where
    by : (o : Option Plain) → (call_at a w asked o).0 v ≡ (call_at b w asked o).0 v
    by None = same
    by (Some vb) = ap (λ o. if v == w then Some (plain_step vb asked).0 else o) same

module _ (shelves : Shelves) where
  -- it leaves that one the same where it is the same
  own_after : {A : Type 0} (v : ℕ) (answers : A → Type 0) (job : Job A) (a b : States) → AlwaysJob AnyReply (AtOnly v) IsRead answers job → a v ≡ b v → (after_reads job shelves a).0 v ≡ (after_reads job shelves b).0 v
  own_after v answers (Ended x) a b always same = same
  own_after v answers (Call w asked next) a b always same =
      let x : States × Option VbReply = states_step a w asked in
      let y : States × Option VbReply = states_step b w asked in
      own_after v answers (next x.1) x.0 y.0 (always.1 x.1 tt) (step_same a b v w asked always.0 same)
      ∙ ap (λ reply. (after_reads (next reply) shelves y.0).0 v) (reply_same a b v w asked always.0 same)
  own_after v answers (Request w ask next) a b always same = own_after v answers (next (shelves_step shelves w ask).1) a b (always.1 (shelves_step shelves w ask).1) same

  -- it comes to the same where that one is the same
  after_own : {A : Type 0} (v : ℕ) (answers : A → Type 0) (job : Job A) (a b : States) → AlwaysJob AnyReply (AtOnly v) IsRead answers job → a v ≡ b v → (after_reads job shelves a).1 ≡ (after_reads job shelves b).1
  after_own v answers (Ended x) a b always same = refl
  after_own v answers (Call w asked next) a b always same =
      let x : States × Option VbReply = states_step a w asked in
      let y : States × Option VbReply = states_step b w asked in
      after_own v answers (next x.1) x.0 y.0 (always.1 x.1 tt) (step_same a b v w asked always.0 same)
      ∙ ap (λ reply. (after_reads (next reply) shelves y.0).1) (reply_same a b v w asked always.0 same)
  after_own v answers (Request w ask next) a b always same = after_own v answers (next (shelves_step shelves w ask).1) a b (always.1 (shelves_step shelves w ask).1) same

module _ (name : StreamName) (shelves : Shelves) (stream : PlainStream) where
  pub same_next : (a b : States) → a stream.vb ≡ b stream.vb → (after_reads (next_frame name stream) shelves a).1 ≡ (after_reads (next_frame name stream) shelves b).1
  same_next a b same = after_own shelves stream.vb Any (next_frame name stream) a b (own name stream) same

  -- it is quiet so, and changes nothing
  abbrev IsStillSo : Waits → States → Type 0
  IsStillSo waits states = after_reads (next_frame name stream) shelves states ≡ (states, (next.Quiet waits, stream))

  -- and so it is again while its vBucket stays as it is
  again_so : (a b : States) (waits : Waits) → a stream.vb ≡ b stream.vb → IsStillSo waits a → IsStillSo waits b
  again_so a b waits same is =
      let x : States × Next = after_reads (next_frame name stream) shelves b in
      let comes : x.1 ≡ (next.Quiet waits, stream) = sym (same_next a b same) ∙ ap (λ (y : States × Next). y.1) is in
      let whole : x ≡ (x.0, (next.Quiet waits, stream)) = λ i. (x.0, comes i) in
      let kept : x.0 stream.vb ≡ b stream.vb =
      own_after shelves stream.vb Any (next_frame name stream) b a (own name stream) (sym same) ∙ ap (λ (y : States × Next). y.0 stream.vb) is ∙ same in
      let left : x.0 ≡ b = λ i w. by x.0 kept (elsewhere name stream shelves b) w (w == stream.vb) refl i in
      whole ∙ (λ i. (left i, (next.Quiet waits, stream)))
    where
      by : (left : States) → left stream.vb ≡ b stream.vb → ((w : ℕ) → (w ≡ stream.vb → ⊥) → left w ≡ b w) → (w : ℕ) (own_one : Bool) → (w == stream.vb) ≡ own_one → left w ≡ b w
      by left kept others w true e = let at : w ≡ stream.vb = eqb-true w stream.vb e in ap left at ∙ kept ∙ ap b (sym at)
      by left kept others w false e = others w (λ at. let z : true ≡ false = sym (eq-eqb w stream.vb at) ∙ e in cc)

  -- the same, whether it waits or not
  abbrev pub IsStill : States → Type 0
  IsStill states = (waits : Waits) × IsStillSo waits states

  pub still_again : (a b : States) → a stream.vb ≡ b stream.vb → IsStill a → IsStill b
  still_again a b same (waits, is) = (waits, again_so a b waits same is)

module _ (name : StreamName) (shelves : Shelves) (stream : PlainStream) where
  pub stays_quiet : (states : States) → StaysQuiet name stream states shelves
  stays_quiet states = record {
    still = λ waits behind left is. (quiet_itself name shelves stream states behind waits left is, quiet_gives name shelves stream states behind waits left is);
    again = λ waits behind left is now same.
        settled waits behind left now (quiet_itself name shelves stream states behind waits left is) same (quiet_again name shelves stream states behind waits left is);
    apart = elsewhere name stream shelves states;
  }
    where
      still_so : (left : PlainStream) (a b : States) (waits : Waits) → a left.vb ≡ b left.vb → after_reads (next_frame name left) shelves a ≡ (a, (next.Quiet waits, left)) → after_reads (next_frame name left) shelves b ≡ (b, (next.Quiet waits, left))
      still_so left a b waits same is = again_so name shelves left a b waits same is

      at_left : (left : PlainStream) (behind now : States) → left.vb ≡ stream.vb → now stream.vb ≡ behind stream.vb → behind left.vb ≡ now left.vb
      at_left left behind now is same = ap behind is ∙ sym same ∙ sym (ap now is)

      settled : (waits : Waits) (behind : States) (left : PlainStream) (now : States) → (left ≡ stream) ⊎ (left ≡ read_up stream) → now stream.vb ≡ behind stream.vb → after_reads (next_frame name left) shelves behind ≡ (behind, (next.Quiet waits, left))
          → after_reads (next_frame name left) shelves now ≡ (now, (next.Quiet waits, left))
      settled waits behind left now (inl is) same again = still_so left behind now waits (at_left left behind now (ap (λ (s : PlainStream). s.vb) is) same) again
      settled waits behind left now (inr is) same again = still_so left behind now waits (at_left left behind now (ap (λ (s : PlainStream). s.vb) is) same) again
