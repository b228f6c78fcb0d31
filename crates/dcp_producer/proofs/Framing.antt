-- what holds of each next frame of a stream
use Rattle.std.proofs.Common.{◌≡◌, ◌⊎◌, ℕ, Bool, true, false, List, [], ◌∷◌, ◌++◌, append-nil, refl, sym, ap, ◌∙◌, subst, inl, inr, arith, Option, Some, None}
use Rattle.std.specs.Prelude.{if◌then◌else◌, slice_get}
use Rattle.vb_types.specs.declared.change.Change.{Change}
use Rattle.vb_types.specs.declared.stream.Place.{Place}
use Rattle.vb_types.specs.declared.stream.Place.TheVariants as place
use Rattle.vb_types.specs.declared.stream.Snapshot.{Snapshot}
use Rattle.vb_events.specs.declared.event.StreamName.{StreamName}
use Rattle.vb_calls.specs.declared.calls.VbAnswer.{VbAnswer}
use Rattle.vb_calls.specs.declared.calls.VbAnswer.TheVariants as answer
use Rattle.vb_calls.specs.declared.calls.VbCall.TheVariants as call
use Rattle.vb_calls.specs.declared.calls.VbReply.{VbReply}
use Rattle.vb_calls.specs.Jobs.{Job, Ended, AlwaysJob, IsRead}
use Rattle.vb_calls.specs.Programs.{AnyCall, AnyReply, Made}
use Rattle.vb_calls.specs.Shelves.{Reading}
use Rattle.vb_told.specs.Told.{ToldJob}
use Rattle.backfill.specs.Backfills.{backfilled}
use Rattle.backfill.specs.declared.backfilled.Backfilled.{Backfilled}
use Rattle.backfill.specs.declared.backfilled.Backfilled.TheVariants as filled
use Rattle.dcp_producer.specs.declared.next_frame.NextFrame.{NextFrame}
use Rattle.dcp_producer.specs.declared.next_frame.NextFrame.TheVariants as next
use Rattle.dcp_producer.specs.declared.next_frame.Waits.TheVariants as waits
use Rattle.takeover.specs.GivingUp.{behind, done}
use Rattle.takeover.specs.declared.give_up.GiveStep.{GiveStep}
use Rattle.takeover.specs.declared.give_up.GiveStep.TheVariants as step
use Rattle.takeover.specs.declared.give_up.GiveUp.{GiveUp}
use Rattle.vb_types.specs.declared.role.Role.{Role}
use Rattle.vb_types.specs.declared.role.Role.TheVariants as role
use Rattle.dcp_producer.specs.Producers.{PlainStream}
use Rattle.dcp_producer.specs.Firsts.{as_sent}
use Rattle.dcp_producer.specs.Frames.{Next, ALL_SENT, STATE_CHANGED, alive_next, backfill_next, changes_next, go_on_by, none_next, over, quiet, read_comes, read_up, role_of, state_next, state_put, step_next, item_next, marker_next, place_told, taken_next, take_answered, take_requested, placed_next, place_said, place_requested, reaches_end, close_sent, next_by, next_frame, with_unread}

-- what an answer to a take says: a snapshot, that there is none yet, or nothing of the stream
pub data TakeAnswer (a : VbAnswer) : Type 0 where
  is_taken : (snapshot : Snapshot) → a ≡ answer.Taken snapshot → TakeAnswer a
  is_nothing : a ≡ answer.Nothing → TakeAnswer a
  is_none : ((name : StreamName) (stream : PlainStream) → taken_next name stream a ≡ over STATE_CHANGED stream) → TakeAnswer a

pub take_answer : (a : VbAnswer) → TakeAnswer a
take_answer (answer.Status st) = is_none (λ name stream. refl)
take_answer answer.Absent = is_none (λ name stream. refl)
take_answer answer.Nothing = is_nothing refl
take_answer answer.Done = is_none (λ name stream. refl)
take_answer (answer.Flag b) = is_none (λ name stream. refl)
take_answer (answer.Num n) = is_none (λ name stream. refl)
take_answer (answer.Dues seq saved) = is_none (λ name stream. refl)
take_answer (answer.Branch uuid parent fork high) = is_none (λ name stream. refl)
take_answer (answer.Found doc) = is_none (λ name stream. refl)
take_answer (answer.Stored uuid seq cas) = is_none (λ name stream. refl)
take_answer (answer.Prepared seq cas) = is_none (λ name stream. refl)
take_answer (answer.Asked said log high) = is_none (λ name stream. refl)
take_answer (answer.Opened log high from) = is_none (λ name stream. refl)
take_answer (answer.Placed place) = is_none (λ name stream. refl)
take_answer (answer.Taken snapshot) = is_taken snapshot refl
take_answer (answer.Rows batch) = is_none (λ name stream. refl)
take_answer (answer.Stat windows items cursors saved high) = is_none (λ name stream. refl)
take_answer (answer.Named ask) = is_none (λ name stream. refl)
take_answer (answer.Range ss se) = is_none (λ name stream. refl)
take_answer (answer.Logged log) = is_none (λ name stream. refl)
take_answer (answer.Shown role uuid ss se at image) = is_none (λ name stream. refl)

-- the stream as it goes on: the same one, of the same vBucket, with the same opaque and the same end
pub record Same (old new : PlainStream) : Type 0 where
  pub id : new.id ≡ old.id
  pub vb : new.vb ≡ old.vb
  pub opaque : new.opaque ≡ old.opaque
  pub until : new.until ≡ old.until
  pub ended : new.ended ≡ old.ended

abbrev pub GoesOn : PlainStream → Next → Type 0
GoesOn stream next = Same stream next.1

-- whatever is replied and read, what comes goes on so, and of journals it is read alone
abbrev pub AlwaysOn : PlainStream → Job Next → Type 0
AlwaysOn stream job = AlwaysJob AnyReply AnyCall IsRead (GoesOn stream) job

module _ (name : StreamName) (first : PlainStream) where
  -- as another one of which this is the same
  alike : (a b : PlainStream) → Same first a → b.id ≡ a.id → b.vb ≡ a.vb → b.opaque ≡ a.opaque → b.until ≡ a.until → b.ended ≡ a.ended → Same first b
  alike a b s id vb opaque until ended =
      record { id = id ∙ s.id; vb = vb ∙ s.vb; opaque = opaque ∙ s.opaque; until = until ∙ s.until; ended = ended ∙ s.ended }

  module _ (stream : PlainStream) (same : Same first stream) where
    state_same : (g : GiveUp) (o : Option Role) → GoesOn first (state_next name stream g o)
    state_same g None = same
    state_same g (Some told) = alike stream (state_put name stream g told).1 same refl refl refl refl refl

    none_same : (o : Option GiveUp) → GoesOn first (none_next name stream o)
    none_same None = same
    none_same (Some g) = state_same (done g) (role_of (done g).step)

    taken_same : (a : VbAnswer) → TakeAnswer a → GoesOn first (taken_next name stream a)
    taken_same a (is_taken snapshot is) =
        subst (λ b. GoesOn first (taken_next name stream b)) (sym is) (alike stream (marker_next name stream (as_sent stream snapshot)).1 same refl refl refl refl refl)
    taken_same a (is_nothing is) = subst (λ b. GoesOn first (taken_next name stream b)) (sym is) (none_same stream.gives)
    taken_same a (is_none is) = subst (GoesOn first) (sym (is name stream)) same

    take_same : (reply : Option VbReply) → GoesOn first (take_answered name stream reply)
    take_same None = same
    take_same (Some reply) = taken_same reply.answer (take_answer reply.answer)

    close_same : AlwaysOn first (close_sent stream)
    close_same = (tt, λ reply any. same)

  taking_same : (stream : PlainStream) → Same first stream → AlwaysOn first (take_requested name stream)
  taking_same stream same = (tt, λ reply any. take_same stream same reply)

  -- where it goes on so, whatever is read of a backfill
  read_same : (on : PlainStream → Job Next) → ((left : PlainStream) → Same first left → AlwaysOn first (on left)) → (end : ℕ) (stream : PlainStream) → Same first stream
      → AlwaysOn first (backfill_next name on end stream)
  read_same on goes end stream same = (tt, λ reading. by (backfilled stream.place end stream.sync reading))
    where
      by : (came : Backfilled) → AlwaysOn first (go_on_by on (read_comes name stream came))
      by (filled.Snapshot snapshot) = alike stream (marker_next name (read_up stream) (as_sent (read_up stream) snapshot)).1 same refl refl refl refl refl
      by filled.Nothing = goes (read_up stream) (alike stream (read_up stream) same refl refl refl refl refl)
      by filled.Disk = same

  placed_same : (stream : PlainStream) → Same first stream → (from : Option Place) → AlwaysOn first (placed_next name stream from)
  placed_same stream same None = same
  placed_same stream same (Some place.Memory) = taking_same stream same
  placed_same stream same (Some (place.Backfill end)) = read_same (take_requested name) taking_same end (with_unread end stream) (alike stream (with_unread end stream) same refl refl refl refl refl)
  placed_same stream same (Some place.WaitSaved) = same

  place_same : (stream : PlainStream) → Same first stream → AlwaysOn first (place_requested name stream)
  place_same stream same = (tt, λ reply any. placed_same stream same (place_said reply))

  changes_same : (stream : PlainStream) → Same first stream → (unread : Option ℕ) → AlwaysOn first (changes_next name stream unread)
  changes_same stream same None = place_same stream same
  changes_same stream same (Some end) = read_same (place_requested name) place_same end stream same

module _ (name : StreamName) (stream : PlainStream) where
  same : Same stream stream
  same = record { id = refl; vb = refl; opaque = refl; until = refl; ended = refl }

  reached_same : (b : Bool) → AlwaysOn stream (if b then close_sent stream else changes_next name stream stream.unread)
  reached_same true = close_same name stream stream same
  reached_same false = changes_same name stream stream same stream.unread

  step_same : (g : GiveUp) (s : GiveStep) → AlwaysOn stream (step_next name stream g s)
  step_same g step.SendAll = changes_same name stream stream same stream.unread
  step_same g step.SendPending = state_same name stream stream same g (role_of step.SendPending)
  step_same g step.AwaitPending = same
  step_same g step.Yield = same
  step_same g step.SendRest = changes_same name stream stream same stream.unread
  step_same g step.SendActive = state_same name stream stream same g (role_of step.SendActive)
  step_same g step.AwaitActive = same
  step_same g step.End = close_same name stream stream same

  alive_same : (o : Option GiveUp) → AlwaysOn stream (alive_next name stream o)
  alive_same None = reached_same (reaches_end stream.until stream.marked)
  alive_same (Some g) = step_same g g.step

  ended_same : (b : Bool) → AlwaysOn stream (if b then Ended (over STATE_CHANGED stream) else alive_next name stream stream.gives)
  ended_same true = same
  ended_same false = alive_same stream.gives

  next_same : (item : Option Change) → AlwaysOn stream (next_by name stream item)
  next_same None = ended_same stream.ended
  next_same (Some c) = record { id = refl; vb = refl; opaque = refl; until = refl; ended = refl }

  -- whatever is next, the stream goes on as the same one, and of journals it is read alone
  pub frame_same : AlwaysOn stream (next_frame name stream)
  unfolding next_frame
  frame_same = next_same (slice_get stream.items stream.next)

-- where a vBucket says that changes come from, or that it lost the stream
pub place_is : (a : VbAnswer) (from : Place) → place_told a ≡ Some from → a ≡ answer.Placed from
place_is (answer.Status st) from is = absurd (cc is)
place_is answer.Absent from is = absurd (cc is)
place_is answer.Nothing from is = absurd (cc is)
place_is answer.Done from is = absurd (cc is)
place_is (answer.Flag b) from is = absurd (cc is)
place_is (answer.Num n) from is = absurd (cc is)
place_is (answer.Dues seq saved) from is = absurd (cc is)
place_is (answer.Branch uuid parent fork high) from is = absurd (cc is)
place_is (answer.Found doc) from is = absurd (cc is)
place_is (answer.Stored uuid seq cas) from is = absurd (cc is)
place_is (answer.Prepared seq cas) from is = absurd (cc is)
place_is (answer.Asked said log high) from is = absurd (cc is)
place_is (answer.Opened log high source) from is = absurd (cc is)
place_is (answer.Placed place) from is = let e : place ≡ from = cc is in ap answer.Placed e
place_is (answer.Taken snapshot) from is = absurd (cc is)
place_is (answer.Rows batch) from is = absurd (cc is)
place_is (answer.Stat windows items cursors saved high) from is = absurd (cc is)
place_is (answer.Named ask) from is = absurd (cc is)
place_is (answer.Range ss se) from is = absurd (cc is)
place_is (answer.Logged log) from is = absurd (cc is)
place_is (answer.Shown role uuid ss se at image) from is = absurd (cc is)

-- what was said to a place or a take, or that there was no such vBucket
unfoldable pub Says : Option VbReply → VbAnswer → Type 0
Says None a = ⊥
Says (Some reply) a = reply.answer ≡ a

-- all that was taken is put
abbrev pub IsAllPut : PlainStream → Type 0
IsAllPut stream = slice_get stream.items stream.next ≡ None

-- the steps in which all that there is is sent, and those in which a stream waits
abbrev pub IsSending : GiveStep → Type 0
IsSending step.SendAll = Unit {0}
IsSending step.SendRest = Unit {0}
IsSending other = ⊥

abbrev pub IsAwaiting : GiveStep → Type 0
IsAwaiting step.AwaitPending = Unit {0}
IsAwaiting step.Yield = Unit {0}
IsAwaiting step.AwaitActive = Unit {0}
IsAwaiting other = ⊥

-- behind one that sends comes one that tells a state
sends_then : (s : GiveStep) → IsSending s → (told : Role) × (role_of (behind s) ≡ Some told)
sends_then step.SendAll sends = (role.Pending, refl)
sends_then step.SendRest sends = (role.Active, refl)
sends_then step.SendPending sends = absurd sends
sends_then step.AwaitPending sends = absurd sends
sends_then step.Yield sends = absurd sends
sends_then step.SendActive sends = absurd sends
sends_then step.AwaitActive sends = absurd sends
sends_then step.End sends = absurd sends

-- behind the items there is neither an end by a change of role nor one that was asked for, or all is sent first
pub record AsksMore (stream : PlainStream) : Type 0 where
  pub put : IsAllPut stream
  pub alive : stream.ended ≡ false
  pub below : ((stream.gives ≡ None) × (reaches_end stream.until stream.marked ≡ false)) ⊎ ((g : GiveUp) × (stream.gives ≡ Some g) × IsSending g.step)

-- the end of a stream is due that was asked for, or in which its vBucket is another one's
abbrev pub IsSent : PlainStream → Type 0
IsSent stream = ((stream.gives ≡ None) × (reaches_end stream.until stream.marked ≡ true)) ⊎ ((g : GiveUp) × (stream.gives ≡ Some g) × (g.step ≡ step.End))

-- a frame, an end, or none
abbrev pub frame_kind : NextFrame → ℕ
frame_kind (next.Put m line) = 0
frame_kind (next.End reason) = 1
frame_kind (next.Quiet waits) = 2
frame_kind next.Disk = 3

-- where a vBucket says that changes come from, such that it is asked for them: from memory, or from the journal, which then gave nothing
abbrev pub SaysOn : Option VbReply → Type 0
SaysOn from = Says from (answer.Placed place.Memory) ⊎ ((end : ℕ) × Says from (answer.Placed (place.Backfill end)))

-- a backfill up to `end` is to be read: it is not read yet, and nothing was called; or the vBucket answered it now
abbrev pub IsPromised : PlainStream → List Made → ℕ → Type 0
IsPromised stream made end =
    ((stream.unread ≡ Some end) × (made ≡ [])) ⊎ ((from : Option VbReply) × Says from (answer.Placed (place.Backfill end)) × (made ≡ (stream.vb, call.Place stream.id, from) ∷ []))

-- the journal of a stream can't be read
abbrev pub disk_of : PlainStream → Next
disk_of stream = (next.Disk, stream)

-- so it is for a backfill up to `end`
abbrev pub unreadable : ℕ → PlainStream → Next
unreadable end stream = disk_of (with_unread end stream)

-- what a next frame is, with the calls that were made. Where more is asked for, what is not read was read, and gave nothing, but for the last two
pub data FrameCase (name : StreamName) (stream : PlainStream) (made : List Made) (next : Next) : Type 0 where
  an_item : (c : Change) → slice_get stream.items stream.next ≡ Some c → made ≡ [] → next ≡ item_next name stream c → FrameCase name stream made next
  by_role : IsAllPut stream → stream.ended ≡ true → made ≡ [] → next ≡ over STATE_CHANGED stream → FrameCase name stream made next
  all_sent : IsAllPut stream → stream.ended ≡ false → IsSent stream → (reply : Option VbReply) → made ≡ (stream.vb, call.CloseStream stream.id, reply) ∷ [] → next ≡ over ALL_SENT stream
      → FrameCase name stream made next
  it_waits : AsksMore stream → (reply : Option VbReply) → Says reply (answer.Placed place.WaitSaved) → made ≡ (stream.vb, call.Place stream.id, reply) ∷ [] → next ≡ quiet waits.Saved (read_up stream)
      → FrameCase name stream made next
  no_place : AsksMore stream → (reply : Option VbReply) → place_said reply ≡ None → made ≡ (stream.vb, call.Place stream.id, reply) ∷ [] → next ≡ over STATE_CHANGED (read_up stream)
      → FrameCase name stream made next
  a_marker : AsksMore stream → (from reply : Option VbReply) (snapshot : Snapshot) → SaysOn from → Says reply (answer.Taken snapshot)
      → made ≡ (stream.vb, call.Place stream.id, from) ∷ (stream.vb, call.Take stream.id, reply) ∷ [] → next ≡ marker_next name (read_up stream) (as_sent stream snapshot) → FrameCase name stream made next
  nothing : AsksMore stream → stream.gives ≡ None → (from reply : Option VbReply) → SaysOn from → Says reply answer.Nothing
      → made ≡ (stream.vb, call.Place stream.id, from) ∷ (stream.vb, call.Take stream.id, reply) ∷ [] → next ≡ quiet waits.Nothing (read_up stream) → FrameCase name stream made next
  all_up : AsksMore stream → (g : GiveUp) → stream.gives ≡ Some g → (told : Role) → role_of (done g).step ≡ Some told → (from reply : Option VbReply) → SaysOn from → Says reply answer.Nothing
      → made ≡ (stream.vb, call.Place stream.id, from) ∷ (stream.vb, call.Take stream.id, reply) ∷ [] → next ≡ state_put name (read_up stream) (done g) told → FrameCase name stream made next
  a_state : IsAllPut stream → stream.ended ≡ false → (g : GiveUp) → stream.gives ≡ Some g → (told : Role) → role_of g.step ≡ Some told → made ≡ [] → next ≡ state_put name stream g told → FrameCase name stream made next
  awaits : IsAllPut stream → stream.ended ≡ false → (g : GiveUp) → stream.gives ≡ Some g → IsAwaiting g.step → made ≡ [] → next ≡ quiet waits.State stream → FrameCase name stream made next
  no_take : AsksMore stream → (from reply : Option VbReply) → SaysOn from → ((snapshot : Snapshot) → Says reply (answer.Taken snapshot) → ⊥) → (Says reply answer.Nothing → ⊥)
      → made ≡ (stream.vb, call.Place stream.id, from) ∷ (stream.vb, call.Take stream.id, reply) ∷ [] → next ≡ over STATE_CHANGED (read_up stream) → FrameCase name stream made next
  from_disk : AsksMore stream → (end : ℕ) (reading : Reading) (snapshot : Snapshot) → IsPromised stream made end → backfilled stream.place end stream.sync reading ≡ filled.Snapshot snapshot
      → next ≡ marker_next name (read_up stream) (as_sent stream snapshot) → FrameCase name stream made next
  no_disk : AsksMore stream → (end : ℕ) (reading : Reading) → IsPromised stream made end → backfilled stream.place end stream.sync reading ≡ filled.Disk
      → next ≡ unreadable end stream → FrameCase name stream made next

-- what was said of the place
place_says : (reply : Option VbReply) (from : Place) → place_said reply ≡ Some from → Says reply (answer.Placed from)
unfolding Says
place_says None from is = absurd (cc is)
place_says (Some reply) from is = place_is reply.answer from is

module _ (name : StreamName) (stream : PlainStream) where
  -- a take
  take_case : AsksMore stream → (m n : Made) → m.0 ≡ stream.vb → m.1 ≡ call.Place stream.id → SaysOn m.2 → n.0 ≡ stream.vb → n.1 ≡ call.Take stream.id
      → (next : Next) → next ≡ take_answered name (read_up stream) n.2 → FrameCase name stream (m ∷ n ∷ []) next
  unfolding Says
  take_case more m n at is from at' is' next comes = by n.2 refl
    where
      made_so : (reply : Option VbReply) → n.2 ≡ reply → m ∷ n ∷ [] ≡ (stream.vb, call.Place stream.id, m.2) ∷ (stream.vb, call.Take stream.id, reply) ∷ []
      made_so reply there = λ i. (at i, is i, m.2) ∷ (at' i, is' i, there i) ∷ []

      said : (r : VbReply) → n.2 ≡ Some r → TakeAnswer r.answer → FrameCase name stream (m ∷ n ∷ []) next
      said r there (is_taken snapshot tells) = a_marker more m.2 (Some r) snapshot from tells (made_so (Some r) there) (comes ∙ ap (take_answered name (read_up stream)) there ∙ ap (taken_next name (read_up stream)) tells)
      said r there (is_nothing tells) = none_by more.below
        where
          none_is : next ≡ none_next name (read_up stream) stream.gives
          none_is = comes ∙ ap (take_answered name (read_up stream)) there ∙ ap (taken_next name (read_up stream)) tells

          none_by : ((stream.gives ≡ None) × (reaches_end stream.until stream.marked ≡ false)) ⊎ ((g : GiveUp) × (stream.gives ≡ Some g) × IsSending g.step) → FrameCase name stream (m ∷ n ∷ []) next
          none_by (inl (none, below)) = nothing more none m.2 (Some r) from tells (made_so (Some r) there) (none_is ∙ ap (none_next name (read_up stream)) none)
          none_by (inr (g, gives, sends)) =
              let (told, is) = sends_then g.step sends in
              all_up more g gives told is m.2 (Some r) from tells (made_so (Some r) there) (none_is ∙ ap (none_next name (read_up stream)) gives ∙ ap (state_next name (read_up stream) (done g)) is)
      said r there (is_none tells) =
          no_take more m.2 (Some r) from
          (λ snapshot taken. absurd (not_marker snapshot (sym (tells name stream) ∙ ap (taken_next name stream) taken)))
          (λ none. absurd (not_over stream.gives (ap (λ (x : Next). frame_kind x.0) (sym (tells name stream) ∙ ap (taken_next name stream) none))))
          (made_so (Some r) there) (comes ∙ ap (take_answered name (read_up stream)) there ∙ tells name (read_up stream))
        where
          not_marker : (snapshot : Snapshot) → over STATE_CHANGED stream ≡ marker_next name stream (as_sent stream snapshot) → ⊥
          not_marker snapshot is = absurd (let e : 1 ≡ 0 = ap (λ (x : Next). frame_kind x.0) is in omega (arith, e))

          not_told : (g : GiveUp) (o : Option Role) → 1 ≡ frame_kind (state_next name stream g o).0 → ⊥
          not_told g None is = absurd (omega (arith, is))
          not_told g (Some told) is = absurd (omega (arith, is))

          not_over : (o : Option GiveUp) → 1 ≡ frame_kind (none_next name stream o).0 → ⊥
          not_over None is = absurd (omega (arith, is))
          not_over (Some g) is = not_told (done g) (role_of (done g).step) is

      by : (reply : Option VbReply) → n.2 ≡ reply → FrameCase name stream (m ∷ n ∷ []) next
      by None there = no_take more m.2 None from (λ snapshot taken. taken) (λ none. none) (made_so None there) (comes ∙ ap (take_answered name (read_up stream)) there)
      by (Some r) there = said r there (take_answer r.answer)

  taking_case : AsksMore stream → (m : Made) (made : List Made) → m.0 ≡ stream.vb → m.1 ≡ call.Place stream.id → SaysOn m.2 → (next : Next) → ToldJob (take_requested name (read_up stream)) made next
      → FrameCase name stream (m ∷ made) next
  taking_case more m [] at is from next told = absurd told
  taking_case more m (n ∷ []) at is from next (at', is', comes) = take_case more m n at is from at' is' next comes
  taking_case more m (n ∷ o ∷ made) at is from next (at', is', told) = absurd told

  -- a backfill that is read: of a stream as this one, but for what is not read
  module _ (more : AsksMore stream) (end : ℕ) where
    read_case : (unread : Option ℕ) (on : PlainStream → Job Next) (front made : List Made) (next : Next)
        → ToldJob (backfill_next name on end (record stream { unread = unread })) made next → IsPromised stream front end → record stream { unread = unread } ≡ with_unread end stream
        → (ToldJob (on (read_up stream)) made next → FrameCase name stream (front ++ made) next) → FrameCase name stream (front ++ made) next
    read_case unread on front made next (reading, told) promised alike goes = by (backfilled stream.place end stream.sync reading) refl told
      where
        done_so : (x : Next) → (made : List Made) → ToldJob (Ended x) made next → (IsPromised stream front end → next ≡ x → FrameCase name stream front next) → FrameCase name stream (front ++ made) next
        done_so x [] comes case = subst (λ ms. FrameCase name stream ms next) (sym (append-nil front)) (case promised comes)
        done_so x (m ∷ made) told case = absurd told

        by : (came : Backfilled) → backfilled stream.place end stream.sync reading ≡ came → ToldJob (go_on_by on (read_comes name (record stream { unread = unread }) came)) made next → FrameCase name stream (front ++ made) next
        by (filled.Snapshot snapshot) is told =
            done_so (marker_next name (read_up stream) (as_sent stream snapshot)) made told (λ promised comes. from_disk more end reading snapshot promised is comes)
        by filled.Nothing is told = goes told
        by filled.Disk is told = done_so (disk_of (record stream { unread = unread })) made told (λ promised comes. no_disk more end reading promised is (comes ∙ ap (λ (s : PlainStream). disk_of s) alike))

  placed_case : AsksMore stream → (m : Made) (made : List Made) (from : Option Place) → m.0 ≡ stream.vb → m.1 ≡ call.Place stream.id → place_said m.2 ≡ from
      → (next : Next) → ToldJob (placed_next name (read_up stream) from) made next → FrameCase name stream (m ∷ made) next
  placed_case more m [] None at is said next told = no_place more m.2 said (λ i. (at i, is i, m.2) ∷ []) told
  placed_case more m (n ∷ made) None at is said next told = absurd told
  placed_case more m [] (Some place.WaitSaved) at is said next told = it_waits more m.2 (place_says m.2 place.WaitSaved said) (λ i. (at i, is i, m.2) ∷ []) told
  placed_case more m (n ∷ made) (Some place.WaitSaved) at is said next told = absurd told
  placed_case more m made (Some place.Memory) at is said next told = taking_case more m made at is (inl (place_says m.2 place.Memory said)) next told
  placed_case more m made (Some (place.Backfill end)) at is said next told =
      read_case more end (Some end) (take_requested name) (m ∷ []) made next told (inr (m.2, place_says m.2 (place.Backfill end) said, (λ i. (at i, is i, m.2) ∷ []))) refl
      (λ on. taking_case more m made at is (inr (end, place_says m.2 (place.Backfill end) said)) next on)

  place_case : AsksMore stream → (made : List Made) (next : Next) → ToldJob (place_requested name (read_up stream)) made next → FrameCase name stream made next
  place_case more [] next told = absurd told
  place_case more (m ∷ made) next (at, asked, told) = placed_case more m made (place_said m.2) at asked refl next told

  -- one of which all was read
  none_unread : (unread : Option ℕ) → stream.unread ≡ unread → record stream { unread = unread } ≡ stream
  none_unread unread is = λ i. record stream { unread = sym is i }

  changes_case : AsksMore stream → (unread : Option ℕ) → stream.unread ≡ unread → (made : List Made) (next : Next) → ToldJob (changes_next name stream unread) made next → FrameCase name stream made next
  changes_case more None is made next told = place_case more made next (subst (λ s. ToldJob (place_requested name s) made next) (sym (none_unread None is)) told)
  changes_case more (Some end) is made next told =
      read_case more end stream.unread (place_requested name) [] made next told (inl (is, refl)) (ap (λ u. record stream { unread = u }) is) (λ on. place_case more made next on)

  fed_case : (b : Bool) → IsAllPut stream → stream.ended ≡ false → stream.gives ≡ None → reaches_end stream.until stream.marked ≡ b → (made : List Made) (next : Next)
      → ToldJob (if b then close_sent stream else changes_next name stream stream.unread) made next → FrameCase name stream made next
  fed_case true put alive none is [] next told = absurd told
  fed_case true put alive none is (m ∷ []) next (at, asked, comes) = all_sent put alive (inl (none, is)) m.2 (λ i. (at i, asked i, m.2) ∷ []) comes
  fed_case true put alive none is (m ∷ n ∷ made) next (at, asked, told) = absurd told
  fed_case false put alive none is made next told =
      changes_case (record { put = put; alive = alive; below = inl (none, is) }) stream.unread refl made next told

  module _ (put : IsAllPut stream) (alive : stream.ended ≡ false) (g : GiveUp) (gives : stream.gives ≡ Some g) where
    sends_case : IsSending g.step → (made : List Made) (next : Next) → ToldJob (changes_next name stream stream.unread) made next → FrameCase name stream made next
    sends_case sends made next told =
        changes_case (record { put = put; alive = alive; below = inr (g, gives, sends) }) stream.unread refl made next told

    told_case : (told : Role) → role_of g.step ≡ Some told → (made : List Made) (next : Next) → ToldJob (Ended (state_put name stream g told)) made next → FrameCase name stream made next
    told_case told is [] next comes = a_state put alive g gives told is refl comes
    told_case told is (m ∷ made) next comes = absurd comes

    awaits_case : IsAwaiting g.step → (made : List Made) (next : Next) → ToldJob (Ended (quiet waits.State stream)) made next → FrameCase name stream made next
    awaits_case is [] next comes = awaits put alive g gives is refl comes
    awaits_case is (m ∷ made) next comes = absurd comes

    end_case : g.step ≡ step.End → (made : List Made) (next : Next) → ToldJob (close_sent stream) made next → FrameCase name stream made next
    end_case is [] next told = absurd told
    end_case is (m ∷ []) next (at, asked, comes) = all_sent put alive (inr (g, gives, is)) m.2 (λ i. (at i, asked i, m.2) ∷ []) comes
    end_case is (m ∷ n ∷ made) next (at, asked, told) = absurd told

    step_case : (s : GiveStep) → g.step ≡ s → (made : List Made) (next : Next) → ToldJob (step_next name stream g s) made next → FrameCase name stream made next
    step_case step.SendAll is = sends_case (subst IsSending (sym is) tt)
    step_case step.SendPending is = told_case role.Pending (ap role_of is)
    step_case step.AwaitPending is = awaits_case (subst IsAwaiting (sym is) tt)
    step_case step.Yield is = awaits_case (subst IsAwaiting (sym is) tt)
    step_case step.SendRest is = sends_case (subst IsSending (sym is) tt)
    step_case step.SendActive is = told_case role.Active (ap role_of is)
    step_case step.AwaitActive is = awaits_case (subst IsAwaiting (sym is) tt)
    step_case step.End is = end_case is

  alive_case : (o : Option GiveUp) → stream.gives ≡ o → IsAllPut stream → stream.ended ≡ false → (made : List Made) (next : Next) → ToldJob (alive_next name stream o) made next → FrameCase name stream made next
  alive_case None gives put alive made next told = fed_case (reaches_end stream.until stream.marked) put alive gives refl made next told
  alive_case (Some g) gives put alive made next told = step_case put alive g gives g.step refl made next told

  ended_case : (b : Bool) → IsAllPut stream → stream.ended ≡ b → (made : List Made) (next : Next)
      → ToldJob (if b then Ended (over STATE_CHANGED stream) else alive_next name stream stream.gives) made next → FrameCase name stream made next
  ended_case true put is [] next told = by_role put is refl told
  ended_case true put is (m ∷ made) next told = absurd told
  ended_case false put is made next told = alive_case stream.gives refl put is made next told

  item_case : (item : Option Change) → slice_get stream.items stream.next ≡ item → (made : List Made) (next : Next) → ToldJob (next_by name stream item) made next → FrameCase name stream made next
  item_case None is made next told = ended_case stream.ended is refl made next told
  item_case (Some c) is [] next told = an_item c is refl told
  item_case (Some c) is (m ∷ made) next told = absurd told

  -- whatever is told of it, the next frame is one of these
  pub frame_told : (made : List Made) (next : Next) → ToldJob (next_frame name stream) made next → FrameCase name stream made next
  unfolding next_frame
  frame_told made next told = item_case (slice_get stream.items stream.next) refl made next told
