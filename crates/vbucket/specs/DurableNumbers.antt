-- one durable write in numbers: prepared, acknowledged, given up, left to the next active node
use Rattle.std.specs.Prelude.{◌≡◌, ℕ, List, [], ◌∷◌, false, Some, None}
use Rattle.vb_types.specs.declared.change.Act.TheVariants as act
use Rattle.vb_types.specs.declared.change.Change.{Change}
use Rattle.vb_types.specs.declared.change.Level.{Level}
use Rattle.vb_types.specs.declared.change.Level.TheVariants.{Majority, MajorityPersistActive, PersistMajority}
use Rattle.vb_types.specs.declared.doc.Doc.{Doc}
use Rattle.vb_types.specs.declared.role.Role.TheVariants as role
use Rattle.vb_types.specs.declared.status.Status.TheVariants as status
use Rattle.vb_types.specs.declared.write.Op.TheVariants as op
use Rattle.vb_types.specs.declared.write.Write.{Write}
use Rattle.vb_calls.specs.declared.calls.Resolution.TheVariants as resolution
use Rattle.vb_calls.specs.declared.calls.Resolved.{Resolved}
use Rattle.vb_calls.specs.declared.calls.VbAnswer.{VbAnswer}
use Rattle.vb_calls.specs.declared.calls.VbAnswer.TheVariants as answer
use Rattle.vb_calls.specs.declared.calls.VbCall.TheVariants.{Ack, Chain, Durable, FlushDone, Follow, Get, Promote, Store, Tick}
use Rattle.vb_calls.specs.declared.calls.VbReply.{VbReply}
use Rattle.vb_calls.specs.declared.span.Origin.TheVariants.{Own}
use Rattle.vb_calls.specs.Plain.{Plain, new_vb, plain_step}
use Rattle.vb_calls.specs.State.{complete_position}

-- a write of one byte
abbrev pub one_write : Write
one_write = record { op = op.Set; key = 7 ∷ []; value = 8 ∷ []; flags = 0; expiry = 0; datatype = 0; cas = 0 }

-- its document
abbrev pub one_doc : Doc
one_doc = record { value = 8 ∷ []; cas = 1; rev = 1; flags = 0; expiry = 0; datatype = 0 }

-- an active vBucket on the branch 9, in a chain of two: its node 1, and the node 2
abbrev pub of_two : Plain
of_two = (plain_step (new_vb 1 role.Active 9) (Chain (record { active = 1; others = Some 2 ∷ [] }))).0

-- it has the write prepared at this level, until 50, and 3 waits for it
abbrev pub with_prepare : Level → Plain
with_prepare level = record of_two {
  held = record { seq = 1; key = 7 ∷ []; act = act.Prepare level one_doc false } ∷ [];
  position = complete_position 1;
  last_cas = 1;
  spans = record { sealed = []; current = Some (record { above = 0; last = 1; origin = Own }) };
  waiting = record { key = 7 ∷ []; seq = 1; level = level; deadline = Some 50; waiter = 3 } ∷ [];
}

-- a reply with one outcome, and one change of the vBucket's own
abbrev pub resolves : VbAnswer → List Resolved → ℕ → Change → VbReply
resolves said told branch change = record { answer = said; resolved = told; ended = []; branch = branch; changes = change ∷ [] }

-- one without
abbrev pub still : VbAnswer → VbReply
still said = record { answer = said; resolved = []; ended = []; branch = 0; changes = [] }

-- the commit of the prepare, and its abort
abbrev pub one_commit : Change
one_commit = record { seq = 2; key = 7 ∷ []; act = act.Commit 1 one_doc false }

abbrev pub one_abort : Change
one_abort = record { seq = 2; key = 7 ∷ []; act = act.Abort 1 }

-- it was committed by the seqno 2, on the branch 9, with the CAS 1
abbrev pub resolved_three : Resolved
resolved_three = record { waiter = 3; how = resolution.Committed 9 2 1 }

-- whether it stands is not known
abbrev pub resolved_unknown : Resolved
resolved_unknown = record { waiter = 3; how = resolution.Ambiguous }

-- the write is prepared; while it is, its key reads nothing and is not written
pub record PreparesOne : Type 0 where
  pub prepared : (level : Level) → plain_step of_two (Durable one_write 0 level 50 3) ≡ (with_prepare level, resolves (answer.Prepared 1 1) [] 9 (record { seq = 1; key = 7 ∷ []; act = act.Prepare level one_doc false }))
  pub short : (plain_step (new_vb 1 role.Active 9) (Chain (record { active = 1; others = None ∷ [] }))).0 ≡ record (new_vb 1 role.Active 9) { others = None ∷ [] }
  pub impossible : (plain_step (record (new_vb 1 role.Active 9) { others = None ∷ [] }) (Durable one_write 0 Majority 50 3)).1 ≡ still (answer.Status status.DurabilityImpossible)
  pub unseen : (plain_step (with_prepare Majority) (Get (7 ∷ []))).1 ≡ still (answer.Status status.KeyEnoent)
  pub busy : (plain_step (with_prepare Majority) (Store one_write 0)).1 ≡ still (answer.Status status.SyncWriteInProgress)

-- at level 1 it is committed once the node 2 acknowledged it; at levels 2 and 3 once it is saved too
pub record CommitsOne : Type 0 where
  pub first : (plain_step (with_prepare Majority) (Ack 2 1)).1 ≡ resolves answer.Done (resolved_three ∷ []) 9 one_commit
  pub other : (plain_step (with_prepare Majority) (Ack 4 1)).1 ≡ still answer.Done
  pub above : (plain_step (with_prepare Majority) (Ack 2 2)).1 ≡ still (answer.Status status.Erange)
  pub saved : (plain_step (with_prepare Majority) (FlushDone 1)).1 ≡ still (answer.Num 1)
  pub second : (plain_step (with_prepare MajorityPersistActive) (Ack 2 1)).1 ≡ still answer.Done
  pub second_saved : (plain_step (plain_step (with_prepare MajorityPersistActive) (Ack 2 1)).0 (FlushDone 1)).1 ≡ resolves (answer.Num 1) (resolved_three ∷ []) 9 one_commit
  pub third_saved : (plain_step (plain_step (with_prepare PersistMajority) (FlushDone 1)).0 (Ack 2 1)).1 ≡ resolves answer.Done (resolved_three ∷ []) 9 one_commit
  pub alone : (plain_step (with_prepare Majority) (Chain (record { active = 1; others = [] }))).1 ≡ resolves answer.Done (resolved_three ∷ []) 9 one_commit

-- at its deadline it is given up, and not before; another role leaves it, and the next active node commits it again, without anybody who waits
pub record GivesOneUp : Type 0 where
  pub before : (plain_step (with_prepare Majority) (Tick 49)).1 ≡ still answer.Done
  pub after : (plain_step (with_prepare Majority) (Tick 50)).1 ≡ resolves answer.Done (resolved_unknown ∷ []) 9 one_abort
  pub follows : (plain_step (with_prepare Majority) Follow).1 ≡ record { answer = answer.Done; resolved = resolved_unknown ∷ []; ended = []; branch = 0; changes = [] }
  pub again : (plain_step (plain_step (with_prepare Majority) Follow).0 (Promote 11)).1 ≡ resolves (answer.Branch 11 (Some 9) 1 1) [] 11 one_commit
  pub waits : (plain_step (plain_step (with_prepare PersistMajority) Follow).0 (Promote 11)).1 ≡ still (answer.Branch 11 (Some 9) 1 1)
  pub refused : (plain_step (plain_step (plain_step (with_prepare PersistMajority) Follow).0 (Promote 11)).0 (Get (7 ∷ []))).1 ≡ still (answer.Status status.SyncWriteReCommitInProgress)

-- all of it
abbrev pub DurableInNumbers : Type 0
DurableInNumbers = PreparesOne × CommitsOne × GivesOneUp
