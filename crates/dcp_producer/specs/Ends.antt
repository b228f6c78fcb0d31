-- why a stream is over, and why it is quiet, in words beside the definitions
use Rattle.std.specs.Prelude.{ℕ, ◌≤◌, ◌≡◌, ◌⊎◌, ◌↔◌, true, false, List, [], ◌∷◌, length, Option, Some, None}
use Rattle.takeover.specs.Laws.{at}
use Rattle.takeover.specs.declared.give_up.GiveUp.{GiveUp}
use Rattle.mcbp_dcp.specs.declared.message.DcpMsg.TheVariants as msg
use Rattle.vb_events.specs.declared.event.Event.{Event}
use Rattle.vb_types.specs.declared.stream.Place.{Place}
use Rattle.vb_types.specs.declared.stream.Place.TheVariants as place
use Rattle.vb_types.specs.declared.stream.Snapshot.{Snapshot}
use Rattle.vb_calls.specs.declared.calls.VbAnswer.{VbAnswer}
use Rattle.vb_calls.specs.declared.calls.VbAnswer.TheVariants as answer
use Rattle.vb_calls.specs.declared.calls.VbCall.TheVariants as call
use Rattle.vb_calls.specs.declared.calls.VbReply.{VbReply}
use Rattle.vb_calls.specs.Programs.{Made}
use Rattle.dcp_producer.specs.declared.next_frame.NextFrame.{NextFrame}
use Rattle.dcp_producer.specs.declared.next_frame.NextFrame.TheVariants as next
use Rattle.dcp_producer.specs.declared.next_frame.Waits.TheVariants as waits
use Rattle.dcp_producer.specs.Producers.{PlainStream}
use Rattle.dcp_producer.specs.Endings.{calls_in}

-- all items of the snapshot that was taken last are put
abbrev pub IsBehind : PlainStream → Type 0
IsBehind stream = length stream.items ≤ stream.next

-- the END of the stream's last marker is the end that was asked for, or above it
abbrev pub Reaches : PlainStream → Type 0
Reaches stream = (end : ℕ) × (stream.marked ≡ Some end) × (stream.until ≤ end)

-- the stream gives its vBucket up, and is at the step of this number: 1 it sends all there is, 2 the state pending, 3 it waits for the answer, 4 for its vBucket to be given up, 5 it sends the rest, 6 the state active, 7 it waits for the answer, and 8 it ends
abbrev pub IsAt : ℕ → PlainStream → Type 0
IsAt n stream = (g : GiveUp) × (stream.gives ≡ Some g) × (at g ≡ n)

-- the vBucket is there, and answered so
abbrev pub IsSaid : Option VbReply → VbAnswer → Type 0
IsSaid reply a = (r : VbReply) × (reply ≡ Some r) × (r.answer ≡ a)

-- behind the items the stream's vBucket is to be asked: no change of role ended the stream; and it gives no vBucket up and its last marker does not reach the end that was asked for, or it gives one up and is in the first or the fifth step, whatever end was asked for
pub record AsksOn (stream : PlainStream) : Type 0 where
  pub behind : IsBehind stream
  pub alive : stream.ended ≡ false
  pub below : ((stream.gives ≡ None) × (Reaches stream → ⊥)) ⊎ IsAt 1 stream ⊎ IsAt 5 stream

-- its vBucket was asked once, where its next changes come from, with this reply
abbrev pub AskedPlace : PlainStream → List Made → Option VbReply → Type 0
AskedPlace stream made reply = made ≡ (stream.vb, call.Place stream.id, reply) ∷ []

-- they come from memory, or from the journal, which then gave nothing
abbrev pub SaysTake : Option VbReply → Type 0
SaysTake from = IsSaid from (answer.Placed place.Memory) ⊎ ((end : ℕ) × IsSaid from (answer.Placed (place.Backfill end)))

-- they do, and it was asked for the next snapshot, with this reply
abbrev pub AskedTake : PlainStream → List Made → Option VbReply → Type 0
AskedTake stream made reply =
    (from : Option VbReply) × SaysTake from × (made ≡ (stream.vb, call.Place stream.id, from) ∷ (stream.vb, call.Take stream.id, reply) ∷ [])

-- a backfill up to `end` is to be read: one that was not read yet, and its vBucket was asked for nothing; or one that its vBucket answered now
abbrev pub IsPromised : PlainStream → List Made → ℕ → Type 0
IsPromised stream made end = ((stream.unread ≡ Some end) × (made ≡ [])) ⊎ ((from : Option VbReply) × IsSaid from (answer.Placed (place.Backfill end)) × AskedPlace stream made from)

-- its vBucket lost it: it is absent, or does not say where the stream's changes come from; or it neither gives a snapshot nor says that there is none yet
abbrev pub IsLost : PlainStream → List Made → Type 0
IsLost stream made =
    ((reply : Option VbReply) × AskedPlace stream made reply × ((from : Place) → IsSaid reply (answer.Placed from) → ⊥))
    ⊎ ((reply : Option VbReply) × AskedTake stream made reply × ((snapshot : Snapshot) → IsSaid reply (answer.Taken snapshot) → ⊥) × (IsSaid reply answer.Nothing → ⊥))

-- a stream is over with reason 0 exactly where, behind its items, no change of role ended it, and it gives no vBucket up and its last marker reaches the end that was asked for, or it gives one up and is in the eighth step; and then alone it is closed at its vBucket; with reason 2 exactly where, behind its items, a change of role ended it, or else its vBucket lost it; and for no other reason. No marker comes behind a snapshot that reached the end
pub record EndsSo (stream : PlainStream) (made : List Made) (comes : NextFrame) : Type 0 where
  pub sent : (comes ≡ next.End 0) ↔ (IsBehind stream × (stream.ended ≡ false) × (((stream.gives ≡ None) × Reaches stream) ⊎ IsAt 8 stream))
  pub over : (comes ≡ next.End 2) ↔ (IsBehind stream × ((stream.ended ≡ true) ⊎ (AsksOn stream × IsLost stream made)))
  pub only : (reason : ℕ) → comes ≡ next.End reason → (reason ≡ 0) ⊎ (reason ≡ 2)
  pub closed : (comes ≡ next.End 0) ↔ (calls_in made ≡ (stream.vb, call.CloseStream stream.id) ∷ [])
  pub marked : (start end flags : ℕ) (line : Event) → comes ≡ next.Put (msg.SnapshotMarker start end flags) line → AsksOn stream

-- a stream is quiet exactly where its vBucket is asked behind its items and says that the changes are to be saved first, for which it waits then, or, to one that gives no vBucket up, that there is no snapshot yet; and, without a call, where it gives its vBucket up and is in the third, the fourth or the seventh step, in which it waits for its state's answer
pub record IsQuietSo (stream : PlainStream) (made : List Made) (comes : NextFrame) : Type 0 where
  pub saves : (comes ≡ next.Quiet waits.Saved) ↔ (AsksOn stream × ((reply : Option VbReply) × IsSaid reply (answer.Placed place.WaitSaved) × AskedPlace stream made reply))
  pub none : (comes ≡ next.Quiet waits.Nothing) ↔ ((stream.gives ≡ None) × AsksOn stream × ((reply : Option VbReply) × IsSaid reply answer.Nothing × AskedTake stream made reply))
  pub states : (comes ≡ next.Quiet waits.State) ↔ (IsBehind stream × (stream.ended ≡ false) × (IsAt 3 stream ⊎ IsAt 4 stream ⊎ IsAt 7 stream))
