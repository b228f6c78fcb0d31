-- what is told of durable writes, in words
use Rattle.std.specs.Prelude.{◌≡◌, ◌≢◌, ◌↔◌, ◌⊎◌, ℕ, List, [], map, Option, Some, None}
use Rattle.vb_events.specs.declared.event.Answer.TheVariants as line
use Rattle.vb_events.specs.declared.event.Cause.{Cause}
use Rattle.vb_events.specs.declared.event.Cause.TheVariants as cause
use Rattle.vb_events.specs.declared.event.Event.TheVariants as event
use Rattle.vb_calls.specs.declared.calls.Resolved.{Resolved}
use Rattle.vb_calls.specs.declared.calls.VbCall.{VbCall}
use Rattle.vb_calls.specs.declared.calls.VbCall.TheVariants as call
use Rattle.vb_calls.specs.declared.calls.VbReply.{VbReply}
use Rattle.vb_calls.specs.Programs.{IsReply}
use Rattle.node_core.specs.declared.admin.AdminCall.{AdminCall}
use Rattle.node_core.specs.Admin.{AdminResult, admin_call}
use Rattle.node_core.specs.Flushing.{FlushResult}
use Rattle.node_core.specs.Noting.{IsRefused}

-- What a reply names of durable writes is handed over, in its order; where the call was refused, nothing is.
pub record HandsOver (reply : Option VbReply) (outcomes : List Resolved) : Type 0 where
  pub refused : IsRefused reply → outcomes ≡ []
  pub made : (r : VbReply) → reply ≡ Some r → (IsRefused reply → ⊥) → outcomes ≡ r.resolved

-- A call that lets an active vBucket resolve durable writes is refused for want of a vBucket exactly where there is no reply, and for its role exactly where the reply is a status. Otherwise it has one line for each change of the reply, on the branch of the reply.
pub record TellsSettled (n v : ℕ) (reply : Option VbReply) (told : FlushResult) : Type 0 where
  pub unknown : (told.answer ≡ line.No cause.UnknownVb) ↔ (reply ≡ None)
  pub wrong : (told.answer ≡ line.No cause.WrongRole) ↔ ((reply ≢ None) × IsRefused reply)
  pub silent : IsRefused reply → told.events ≡ []
  pub lines : (r : VbReply) → reply ≡ Some r → (IsRefused reply → ⊥) → told.events ≡ map (event.Changed n v r.branch) r.changes
  pub outcomes : HandsOver reply told.resolved

module _ {W : Type 0} (step : W → ℕ → VbCall → Option VbReply → W → Type 0) where
  -- A change of role hands over what the vBucket's reply names, whatever became of its record.
  pub record RoleHandsOver (v : ℕ) (asked : AdminCall) (old : W) (told : AdminResult) : Type 0 where
    pub reply : Option VbReply
    pub mid : W
    pub called : step old v (admin_call asked) reply mid
    pub outcomes : IsReply (admin_call asked) reply → HandsOver reply told.resolved

  -- A vBucket was told last that a batch stands, and what its reply names is handed over.
  pub record Finished (v : ℕ) (told : FlushResult) (now : W) : Type 0 where
    pub seq : ℕ
    pub mid : W
    pub reply : Option VbReply
    pub called : step mid v (call.FlushDone seq) reply now
    pub outcomes : IsReply (call.FlushDone seq) reply → HandsOver reply told.resolved

  -- Whatever step of writing down it is, nothing is handed over, or the vBucket was told last that a batch stands.
  abbrev pub StepHandsOver : ℕ → FlushResult → W → Type 0
  StepHandsOver v told now = (told.resolved ≡ []) ⊎ Finished v told now

  -- A done hands over what the vBucket's reply names. One that is refused hands over nothing.
  pub record DoneHandsOver (v : ℕ) (told : FlushResult) (now : W) : Type 0 where
    pub refused : (why : Cause) → told.answer ≡ line.No why → told.resolved ≡ []
    pub made : ((why : Cause) → told.answer ≢ line.No why) → Finished v told now

  -- A chain or a tick is one call, and what is told of it is so by its reply.
  pub record Settled (n v : ℕ) (asked : VbCall) (old : W) (told : FlushResult) (now : W) : Type 0 where
    pub reply : Option VbReply
    pub called : step old v asked reply now
    pub tells : IsReply asked reply → TellsSettled n v reply told
