-- what a change of role comes to
use Rattle.std.specs.Prelude.{◌≡◌, ◌≢◌, ◌↔◌, ◌⊎◌, ℕ, ◌<◌, ◌≤◌, List, [], ◌∷◌, take, length, Some, None}
use Rattle.vb_types.specs.declared.role.Role.{Role}
use Rattle.vb_types.specs.declared.role.Role.TheVariants as role
use Rattle.vb_types.specs.declared.status.Status.TheVariants as status
use Rattle.branch_model.specs.Logs.{log_limit, kept_to, Lacks}
use Rattle.vb_calls.specs.declared.calls.VbCall.{VbCall}
use Rattle.vb_calls.specs.declared.calls.VbCall.TheVariants.{Promote, Follow, Dead, Yield}
use Rattle.vb_calls.specs.declared.calls.VbAnswer.TheVariants as answer
use Rattle.vb_calls.specs.declared.calls.VbReply.{VbReply}
use Rattle.vb_calls.specs.declared.stream.Stream.{Stream}
use Rattle.vb_calls.specs.Plain.{Plain, plain_step}
use Rattle.vb_calls.specs.State.{complete_position}
use Rattle.vb_calls.specs.Spans.{all_spans}
use Rattle.vb_calls.specs.Roles.{parent_of, stream_ids}
use Rattle.vb_calls.specs.Streams.{stream_at}
use Rattle.durability.specs.Outstanding.{no_acks}
use Rattle.vbucket.specs.Closing.{AreOthers}
use Rattle.vbucket.specs.Settles.{Settles}

-- all streams are ended and named, the open span is sealed, the chain is of the node alone and nobody has acknowledged anything; the changes stay, and so do the last CAS, whether the next marker is the first, and what is saved
pub record Turned (vb : Plain) (after : Plain × VbReply) : Type 0 where
  pub ended : after.1.ended ≡ stream_ids vb.streams
  pub none : after.0.streams ≡ []
  pub sealed : after.0.spans.current ≡ None
  pub spans : all_spans after.0.spans ≡ all_spans vb.spans
  pub base : after.0.base ≡ vb.base
  pub held : after.0.held ≡ vb.held
  pub at : after.0.position.at ≡ vb.position.at
  pub cas : after.0.last_cas ≡ vb.last_cas
  pub first : after.0.first ≡ vb.first
  pub node : after.0.node ≡ vb.node
  pub marks : (after.0.floor ≡ vb.floor) × (after.0.saved ≡ vb.saved) × (after.0.flushed ≡ vb.flushed)
  pub alone : (after.0.others ≡ []) × (after.0.acks ≡ no_acks)
  pub made : after.1.changes ≡ []

-- the role stays, and no stream is ended
abbrev pub Steady : Plain → Plain × VbReply → Type 0
Steady vb after = (after.0.role ≡ vb.role) × (after.1.ended ≡ [])

-- the vBucket takes the role and is active, and then what may be committed is
abbrev pub Leads : Plain → Plain × VbReply → Type 0
Leads vb after = (after.0.role ≡ role.Active) × ((made : Plain × VbReply) × Turned vb made × Settles made after)

-- the vBucket is dead, and feeds one of the streams as before; all others are ended and named, in their order. The open span is sealed, and nothing is outstanding, in a chain of the node alone; all else stays
pub record HandsOver (vb : Plain) (id : ℕ) (after : Plain × VbReply) : Type 0 where
  pub dead : after.0.role ≡ role.Dead
  pub one : (s : Stream) × (stream_at id vb.streams ≡ Some s) × (after.0.streams ≡ s ∷ [])
  pub others : (others : List Stream) × AreOthers id vb.streams others × (after.1.ended ≡ stream_ids others)
  pub sealed : after.0.spans.current ≡ None
  pub spans : all_spans after.0.spans ≡ all_spans vb.spans
  pub alone : (after.0.others ≡ []) × (after.0.acks ≡ no_acks) × (after.0.waiting ≡ [])
  pub made : after.1.changes ≡ []
  pub stays : after.0 ≡ record vb { role = after.0.role; streams = after.0.streams; spans = after.0.spans; others = after.0.others; acks = after.0.acks; waiting = after.0.waiting }

-- it was given up for the stream that the call names
abbrev pub Yields : Plain → VbCall → Plain × VbReply → Type 0
Yields vb call after = (id : ℕ) × (call ≡ Yield id) × HandsOver vb id after

-- a call that changes the role ends all streams but one for which the vBucket is given up, and any other ends none
abbrev pub RolesEndStreams : Type 0
RolesEndStreams = (vb : Plain) (call : VbCall) → Steady vb (plain_step vb call) ⊎ (Turned vb (plain_step vb call) ⊎ (Leads vb (plain_step vb call) ⊎ Yields vb call (plain_step vb call)))

-- the vBucket is not active, and the branch is one that its log lacks
pub record MayLead (vb : Plain) (uuid : ℕ) : Type 0 where
  pub passive : vb.role ≢ role.Active
  pub branch : 0 < uuid
  pub lacks : Lacks vb.log uuid

-- active on a new branch, which leaves the old one at the last seqno where the snapshot is complete, and else at the snapshot's start; the entries up to there stay in the log behind the new one, at most 25 in all, and the vBucket holds what it held
pub record Led (vb : Plain) (after : Plain × VbReply) (uuid fork : ℕ) : Type 0 where
  pub complete : vb.position.at ≡ vb.position.se → fork ≡ vb.position.at
  pub inside : vb.position.at ≢ vb.position.se → fork ≡ vb.position.ss
  pub told : after.1.answer ≡ answer.Branch uuid (parent_of vb.log) fork vb.position.at
  pub active : after.0.role ≡ role.Active
  pub position : after.0.position ≡ complete_position vb.position.at
  pub log : after.0.log ≡ record { uuid = uuid; seq = fork } ∷ take 24 (kept_to fork vb.log)
  pub short : length after.0.log ≤ log_limit
  pub turned : Turned vb after

-- a promotion to a branch that is new to the vBucket makes it active there, and then what may be committed is
abbrev pub PromotionsLead : Type 0
PromotionsLead = (vb : Plain) (uuid : ℕ) → MayLead vb uuid → (fork : ℕ) × (made : Plain × VbReply) × Led vb made uuid fork × Settles made (plain_step vb (Promote uuid))

-- a promotion is refused with NotMyVbucket exactly where the vBucket is active, and then with Einval where the branch is none or is in the log
pub record PromotesAs (vb : Plain) (uuid : ℕ) (after : Plain × VbReply) : Type 0 where
  pub foreign : (after.1.answer ≡ answer.Status status.NotMyVbucket) ↔ (vb.role ≡ role.Active)
  pub none : (after.1.answer ≡ answer.Status status.Einval) ↔ ((vb.role ≢ role.Active) × ((uuid ≡ 0) ⊎ (Lacks vb.log uuid → ⊥)))

abbrev pub PromotesExactly : Type 0
PromotesExactly = (vb : Plain) (uuid : ℕ) → PromotesAs vb uuid (plain_step vb (Promote uuid))

-- a call for a role is refused with NotMyVbucket exactly where the vBucket has that role, and else gives it
pub record TurnsAs (vb : Plain) (new : Role) (after : Plain × VbReply) : Type 0 where
  pub foreign : (after.1.answer ≡ answer.Status status.NotMyVbucket) ↔ (vb.role ≡ new)
  pub done : (after.1.answer ≡ answer.Done) ↔ (vb.role ≢ new)
  pub role : after.0.role ≡ new
  pub position : after.0.position ≡ vb.position
  pub log : after.0.log ≡ vb.log

abbrev pub TurnsExactly : Type 0
TurnsExactly = (vb : Plain) → TurnsAs vb role.Replica (plain_step vb Follow) × TurnsAs vb role.Dead (plain_step vb Dead)
