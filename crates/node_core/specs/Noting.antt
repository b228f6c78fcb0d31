-- what is told of what is written down, in words
use Rattle.std.specs.Prelude.{◌≡◌, ◌≢◌, ◌↔◌, ℕ, Bool, true, false, [], ◌∷◌, Option, Some, None}
use Rattle.vb_events.specs.declared.event.Answer.TheVariants as line
use Rattle.vb_events.specs.declared.event.Cause.TheVariants as cause
use Rattle.vb_types.specs.declared.journal.Batch.{Batch}
use Rattle.vb_types.specs.declared.journal.FlushPart.{FlushPart}
use Rattle.vb_types.specs.declared.journal.FlushPart.TheVariants as part
use Rattle.vb_types.specs.declared.journal.Record.{Record}
use Rattle.vb_types.specs.declared.journal.Record.TheVariants.{State}
use Rattle.vb_types.specs.declared.role.Role.{Role}
use Rattle.vb_types.specs.declared.role.Role.TheVariants as role
use Rattle.vb_types.specs.declared.status.Status.{Status}
use Rattle.vb_calls.specs.declared.calls.VbAnswer.TheVariants as answer
use Rattle.vb_calls.specs.declared.calls.VbCall.{VbCall}
use Rattle.vb_calls.specs.declared.calls.VbCall.TheVariants as call
use Rattle.vb_calls.specs.declared.calls.VbReply.{VbReply}
use Rattle.vb_calls.specs.Flushes.{log_of_reply}
use Rattle.vb_calls.specs.Shelves.{Ask, Append, Look, Got, Flush, Idle, Out, Written, Fate, Stood, WasClosed, DiskFailed}
use Rattle.node_core.specs.declared.admin.AdminCall.{AdminCall}
use Rattle.node_core.specs.declared.admin.AdminCall.TheVariants as admin
use Rattle.node_core.specs.Admin.{AdminResult, admin_call}
use Rattle.node_core.specs.Flushing.{FlushResult}
use Rattle.node_core.specs.Outcomes.{MadeIf}
use Rattle.node_core.specs.declared.out.NodeOut.{NodeOut}

-- a promotion makes a vBucket active, a Follow a replica, a Dead dead; no other call gives a role
abbrev pub Gives : AdminCall → Role → Type 0
Gives (admin.Promote uuid) new = new ≡ role.Active
Gives admin.Follow new = new ≡ role.Replica
Gives admin.Dead new = new ≡ role.Dead
Gives other new = ⊥

-- there is no such vBucket, or it refused
abbrev pub IsRefused : Option VbReply → Type 0
IsRefused None = Unit {0}
IsRefused (Some reply) = (st : Status) × (reply.answer ≡ answer.Status st)

-- the step can't be made, as no batch is on its way that it could be made of
abbrev pub Lacks : FlushPart → Flush → Type 0
Lacks part.Save flush = (taken : Batch) → flush ≢ Out taken
Lacks part.Done flush = (seq : ℕ) → flush ≢ Written seq
Lacks other flush = ⊥

-- By the batch that is on its way: a take is refused exactly where one is, and a save or a done exactly where there is none that it could be made of.
pub record FlushesBy {J : Type 0} (asks : J → ℕ → (ask : Ask) → Got ask → J → Type 0) (v : ℕ) (step_of : FlushPart) (kept : J) (told : FlushResult) : Type 0 where
  pub flush : Flush
  pub shown : J
  pub looked : asks kept v Look flush shown
  pub out : (told.answer ≡ line.No cause.BatchOut) ↔ ((step_of ≡ part.Take) × (flush ≢ Idle))
  pub lacking : (told.answer ≡ line.No cause.NothingTaken) ↔ Lacks step_of flush

module _ {W J : Type 0} (step : W → ℕ → VbCall → Option VbReply → W → Type 0) (asks : J → ℕ → (ask : Ask) → Got ask → J → Type 0) where
  -- The new role is written down, with the failover log that the vBucket tells then. The answer is that an earlier append failed exactly where one did, and that the disk failed exactly where it does.
  pub record IsNoted (v : ℕ) (new : Role) (old : W) (kept : J) (told : AdminResult) (now : W) (left : J) : Type 0 where
    pub logged : Option VbReply
    pub tells : step old v call.Log logged now
    pub fate : Fate
    pub appended : asks kept v (Append (State new (log_of_reply logged))) fate left
    pub closed : (told.answer ≡ line.No cause.Closed) ↔ (fate ≡ WasClosed)
    pub failed : (told.answer ≡ line.No cause.Disk) ↔ (fate ≡ DiskFailed)

  -- A change of role is the vBucket's call first. One that is refused asks the journal for nothing, and any other is written down.
  pub record ChangesRole (v : ℕ) (asked : AdminCall) (new : Role) (old : W) (kept : J) (told : AdminResult) (now : W) (left : J) : Type 0 where
    pub reply : Option VbReply
    pub mid : W
    pub called : step old v (admin_call asked) reply mid
    pub refused : IsRefused reply → (now ≡ mid) × (left ≡ kept) × (told.answer ≢ line.No cause.Closed) × (told.answer ≢ line.No cause.Disk)
    pub made : (IsRefused reply → ⊥) → IsNoted v new mid kept told now left

-- A step of writing down is refused for want of a vBucket exactly where the access has none, and then calls none, and asks the journal for nothing.
pub record FlushesAt {W J : Type 0} (asks : J → ℕ → (ask : Ask) → Got ask → J → Type 0) (there : Bool) (v : ℕ) (step_of : FlushPart) (old : W) (kept : J) (told : FlushResult) (now : W) (left : J) : Type 0 where
  pub absent : (told.answer ≡ line.No cause.UnknownVb) ↔ (there ≡ false)
  pub silent : there ≡ false → (now ≡ old) × (left ≡ kept)
  pub made : there ≡ true → FlushesBy asks v step_of kept told

-- The first record of a vBucket is appended. The answer is that all went well exactly where it stands, that an earlier append failed exactly where one did, and that the disk failed exactly where it does.
pub record FirstNoted {J : Type 0} (asks : J → ℕ → (ask : Ask) → Got ask → J → Type 0) (v : ℕ) (what : Record) (kept : J) (out : NodeOut) (left : J) : Type 0 where
  pub fate : Fate
  pub appended : asks kept v (Append what) fate left
  pub fine : (out.answer ≡ line.Ok) ↔ (fate ≡ Stood)
  pub closed : (out.answer ≡ line.No cause.Closed) ↔ (fate ≡ WasClosed)
  pub failed : (out.answer ≡ line.No cause.Disk) ↔ (fate ≡ DiskFailed)

-- A vBucket that is made has its role written down, with the failover log that it begins with: an active one's has its branch, and a replica's is empty. For one that is not made nothing is.
pub record NotesFirst {J : Type 0} (asks : J → ℕ → (ask : Ask) → Got ask → J → Type 0) : Type 0 where
  pub active : (n v uuid : ℕ) (kept : J) (out : NodeOut) (left : J) → MadeIf asks n v role.Active uuid true kept out left
      → FirstNoted asks v (State role.Active (record { uuid = uuid; seq = 0 } ∷ [])) kept out left
  pub replica : (n v uuid : ℕ) (kept : J) (out : NodeOut) (left : J) → MadeIf asks n v role.Replica uuid true kept out left → FirstNoted asks v (State role.Replica []) kept out left
  pub refused : (n v uuid : ℕ) (r : Role) (kept : J) (out : NodeOut) (left : J) → MadeIf asks n v r uuid false kept out left → left ≡ kept
