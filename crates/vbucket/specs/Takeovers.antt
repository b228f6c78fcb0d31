-- what a takeover comes to at both of its vBuckets
use Rattle.std.specs.Prelude.{◌≡◌, ◌≢◌, ◌↔◌, ℕ, []}
use Rattle.vb_types.specs.declared.role.Role.TheVariants as role
use Rattle.vb_types.specs.declared.status.Status.TheVariants as status
use Rattle.vb_calls.specs.declared.calls.VbAnswer.TheVariants as answer
use Rattle.vb_calls.specs.declared.calls.VbCall.TheVariants.{Own, Pend, Place, Take, Yield}
use Rattle.vb_calls.specs.declared.calls.VbReply.{VbReply}
use Rattle.vb_calls.specs.Plain.{Plain, plain_step}
use Rattle.vbucket.specs.Asks.{IsOpen}
use Rattle.vbucket.specs.Committing.{Commits}
use Rattle.vbucket.specs.DurableLaws.{GivesUpAll, LeavesAll}
use Rattle.vbucket.specs.Laws.{Sound}
use Rattle.vbucket.specs.Receiving.{IsFollower}
use Rattle.vbucket.specs.Turns.{HandsOver, Turned}

-- NotMyVbucket unless the vBucket is active, then Absent where no stream of the number is open, which both change nothing; else the vBucket is given up for that stream, and who waits for a durable write is answered that its outcome is not known. The stream is given next what it would have been given
pub record YieldsAs (vb : Plain) (id : ℕ) (after : Plain × VbReply) : Type 0 where
  pub foreign : (after.1.answer ≡ answer.Status status.NotMyVbucket) ↔ (vb.role ≢ role.Active)
  pub absent : (after.1.answer ≡ answer.Absent) ↔ ((vb.role ≡ role.Active) × (IsOpen id vb.streams → ⊥))
  pub done : (after.1.answer ≡ answer.Done) ↔ ((vb.role ≡ role.Active) × IsOpen id vb.streams)
  pub hands : vb.role ≡ role.Active → IsOpen id vb.streams → HandsOver vb id after × GivesUpAll vb after
  pub place : vb.role ≡ role.Active → IsOpen id vb.streams → (plain_step after.0 (Place id)).1 ≡ (plain_step vb (Place id)).1
  pub take : vb.role ≡ role.Active → IsOpen id vb.streams → (plain_step after.0 (Take id)).1 ≡ (plain_step vb (Take id)).1

-- each stream is kept so
abbrev pub YieldsKeepOne : Type 0
YieldsKeepOne = (vb : Plain) (id : ℕ) → YieldsAs vb id (plain_step vb (Yield id))

-- the vBucket is on a branch, and its snapshot is complete
abbrev pub IsHeir : Plain → Type 0
IsHeir vb = (vb.log ≢ []) × (vb.position.at ≡ vb.position.se)

-- a takeover before anything is committed: the vBucket is active with the failover log that it had, and its last seqno is all of its snapshot. It feeds no stream, and each prepare that waits is to be committed again
pub record Inherits (vb : Plain) (made : Plain × VbReply) : Type 0 where
  pub active : made.0.role ≡ role.Active
  pub position : made.0.position ≡ record { ss = vb.position.at; se = vb.position.at; at = vb.position.at }
  pub log : made.0.log ≡ vb.log
  pub turned : Turned vb made
  pub leaves : LeavesAll vb made

-- NotMyVbucket unless the vBucket is to take over, then Einval inside a snapshot and where it is on no branch, which both change nothing; else it takes over, and then what may be committed is. No entry is made in the failover log
pub record OwnsAs (vb : Plain) (after : Plain × VbReply) : Type 0 where
  pub foreign : (after.1.answer ≡ answer.Status status.NotMyVbucket) ↔ (vb.role ≢ role.Pending)
  pub early : (after.1.answer ≡ answer.Status status.Einval) ↔ ((vb.role ≡ role.Pending) × (IsHeir vb → ⊥))
  pub done : (after.1.answer ≡ answer.Done) ↔ ((vb.role ≡ role.Pending) × IsHeir vb)
  pub inherits : vb.role ≡ role.Pending → IsHeir vb → (made : Plain × VbReply) × Inherits vb made × Commits made after
  pub log : after.0.log ≡ vb.log

-- each heir does so
abbrev pub HeirsOwn : Type 0
HeirsOwn = (vb : Plain) → Sound vb → OwnsAs vb (plain_step vb Own)

-- NotMyVbucket unless the vBucket follows; else it is to take over, at the position and with the failover log that it had, and feeds no stream. One that was to take over already has but its open span sealed
pub record PendsAs (vb : Plain) (after : Plain × VbReply) : Type 0 where
  pub foreign : (after.1.answer ≡ answer.Status status.NotMyVbucket) ↔ (IsFollower vb.role → ⊥)
  pub done : (after.1.answer ≡ answer.Done) ↔ IsFollower vb.role
  pub pending : IsFollower vb.role → after.0.role ≡ role.Pending
  pub turned : IsFollower vb.role → Turned vb after × GivesUpAll vb after
  pub stays : (after.0.position ≡ vb.position) × (after.0.log ≡ vb.log)
  pub again : Sound vb → vb.role ≡ role.Pending → vb.streams ≡ [] → after.0 ≡ record vb { spans = after.0.spans }

-- each follower waits so
abbrev pub PendsWait : Type 0
PendsWait = (vb : Plain) → PendsAs vb (plain_step vb Pend)
