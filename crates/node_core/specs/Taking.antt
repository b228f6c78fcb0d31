-- what a dial does at the states of a takeover, in words
use Rattle.std.specs.Prelude.{◌≡◌, ◌≢◌, ◌⊎◌, ℕ, List, [], ◌∷◌, ◌++◌, map, Option, Some, None, Ok}
use Rattle.mcbp_frame.specs.declared.frame.Frame.{Frame}
use Rattle.mcbp_dcp.specs.declared.message.DcpMsg.TheVariants as msg
use Rattle.takeover.specs.declared.take_over.TakeStep.{TakeStep}
use Rattle.vb_events.specs.declared.event.EndReason.TheVariants as reason
use Rattle.vb_events.specs.declared.event.Event.TheVariants as event
use Rattle.vb_types.specs.declared.journal.Record.TheVariants as noted
use Rattle.vb_types.specs.declared.role.Role.{Role}
use Rattle.vb_types.specs.declared.role.Role.TheVariants as role
use Rattle.vb_calls.specs.declared.calls.VbAnswer.{VbAnswer}
use Rattle.vb_calls.specs.declared.calls.VbAnswer.TheVariants as answer
use Rattle.vb_calls.specs.declared.calls.VbCall.{VbCall}
use Rattle.vb_calls.specs.declared.calls.VbCall.TheVariants as call
use Rattle.vb_calls.specs.declared.calls.VbReply.{VbReply}
use Rattle.vb_calls.specs.Flushes.{log_of_reply}
use Rattle.vb_calls.specs.Jobs.{Ended}
use Rattle.vb_calls.specs.Shelves.{Ask, Append, Got, Fate, Stood, WasClosed, DiskFailed}
use Rattle.dcp_consumer.specs.Conduct.{Reads}
use Rattle.dcp_consumer.specs.Machine.{over_why}
use Rattle.dcp_consumer.specs.States.{IsNoOrder, Obeys, state_answered}
use Rattle.node_core.specs.Dials.{DialResult, frame_taken, over_for, state_made, with_consumer}
use Rattle.node_core.specs.EndingLaws.{IsMade}
use Rattle.node_core.specs.Noting.{IsRefused}

-- a vBucket says that it is to take over already
abbrev pub SaysPending : VbAnswer → Type 0
SaysPending (answer.Shown role.Pending uuid ss se at image) = Unit {0}
SaysPending other = ⊥

-- there is such a vBucket, and it says so
abbrev pub TellsPending : Option VbReply → Type 0
TellsPending reply = (r : VbReply) × (reply ≡ Some r) × SaysPending r.answer

module _ {W : Type 0} (step : W → ℕ → VbCall → Option VbReply → W → Type 0) where
  -- At a state pending the vBucket is asked what it is, and then it is to take over. Exactly where it made that call the state is answered, and a line tells the role unless it was to take over already; else the link is over for `protocol`, and nothing is told or written.
  pub record PendsAs (opaque : ℕ) (s : DialResult) (old : W) (told : DialResult) (now : W) : Type 0 where
    pub shown : Option VbReply
    pub mid : W
    pub asked : step old s.dial.consumer.dialed.vb call.Show shown mid
    pub reply : Option VbReply
    pub called : step mid s.dial.consumer.dialed.vb call.Pend reply now
    pub done : IsMade reply → (told.out ≡ s.out ++ state_answered opaque) × (told.dial ≡ s.dial)
    pub first : IsMade reply → (TellsPending shown → ⊥) → told.events ≡ s.events ++ event.Role s.dial.consumer.dialed.node s.dial.consumer.dialed.vb role.Pending ∷ []
    pub again : IsMade reply → TellsPending shown → told.events ≡ s.events
    pub refused : (IsMade reply → ⊥) → told ≡ over_for reason.Protocol s

module _ {W J : Type 0} (step : W → ℕ → VbCall → Option VbReply → W → Type 0) (asks : J → ℕ → (ask : Ask) → Got ask → J → Type 0) where
  -- A vBucket took over. That it is active is written down with the failover log that it tells then. Lines tell its role and the changes that it made at once, each on the branch of its reply, and the state is answered, whatever became of the record; where that does not stand, the link is over for `disk`.
  pub record OwnNoted (opaque : ℕ) (s : DialResult) (made : VbReply) (old : W) (kept : J) (told : DialResult) (now : W) (left : J) : Type 0 where
    pub logged : Option VbReply
    pub tells : step old s.dial.consumer.dialed.vb call.Log logged now
    pub fate : Fate
    pub appended : asks kept s.dial.consumer.dialed.vb (Append (noted.State role.Active (log_of_reply logged))) fate left
    pub lines : told.events ≡ s.events ++ event.Role s.dial.consumer.dialed.node s.dial.consumer.dialed.vb role.Active ∷ map (event.Changed s.dial.consumer.dialed.node s.dial.consumer.dialed.vb made.branch) made.changes
    pub answered : told.out ≡ s.out ++ state_answered opaque
    pub stands : fate ≡ Stood → told.dial ≡ s.dial
    pub fails : (fate ≡ WasClosed) ⊎ (fate ≡ DiskFailed) → told.dial ≡ (over_for reason.Disk s).dial

  -- At a state active the vBucket is to take over now. One that refuses ends the link for `protocol`; nothing is asked of its journal then, and nothing told or written.
  pub record OwnsAs (opaque : ℕ) (s : DialResult) (old : W) (kept : J) (told : DialResult) (now : W) (left : J) : Type 0 where
    pub reply : Option VbReply
    pub mid : W
    pub called : step old s.dial.consumer.dialed.vb call.Own reply mid
    pub refused : IsRefused reply → (now ≡ mid) × (left ≡ kept) × (told ≡ over_for reason.Protocol s)
    pub made : (r : VbReply) → reply ≡ Some r → r.answer ≡ answer.Done → OwnNoted opaque s r mid kept told now left

-- A frame that is a state which the consumer obeys is taken so, and any other state ends the link for `protocol`, without a call, a line or an answer.
pub record StatesInPlace (f : Frame) (s : DialResult) : Type 0 where
  pub obeyed : (take : TakeStep) → Obeys s.dial.consumer f take → frame_taken f s ≡ state_made take f.opaque (with_consumer s (record s.dial.consumer { taking = record { last = Some take } }))
  pub strange : (to : Role) → over_why s.dial.consumer.handshake ≡ None → f.magic ≢ 0x81 → Reads f (msg.SetVbucketState to) → IsNoOrder s.dial.consumer f → frame_taken f s ≡ Ended (over_for reason.Protocol s)
