-- what each step of a flush, a rollback and a change of role come to, in numbers
use Rattle.std.specs.Prelude.{◌≡◌, ℕ, true, false, List, [], ◌∷◌, Some, None}
use Rattle.vb_disk.specs.declared.fuse.Fuse.TheVariants.{Fail}
use Rattle.vb_types.specs.Images.{image_of, nothing}
use Rattle.vb_types.specs.declared.change.Act.TheVariants as act
use Rattle.vb_types.specs.declared.change.Change.{Change}
use Rattle.vb_types.specs.declared.journal.Batch.{Batch}
use Rattle.vb_types.specs.declared.journal.FlushPart.TheVariants as part
use Rattle.vb_types.specs.declared.journal.Record.{Record}
use Rattle.vb_types.specs.declared.journal.Record.TheVariants as noted
use Rattle.vb_types.specs.declared.role.LogEntry.{LogEntry}
use Rattle.vb_types.specs.declared.role.Role.TheVariants as role
use Rattle.vb_types.specs.declared.status.Status.TheVariants as status
use Rattle.vb_calls.specs.declared.calls.VbAnswer.TheVariants as answer
use Rattle.vb_calls.specs.declared.calls.VbCall.{VbCall}
use Rattle.vb_calls.specs.declared.calls.VbCall.TheVariants as call
use Rattle.vb_calls.specs.declared.journals.Flushed.TheVariants as flushed
use Rattle.vb_calls.specs.declared.journals.Rolled.TheVariants as rolled
use Rattle.vb_calls.specs.declared.journals.Wrote.{Wrote}
use Rattle.vb_calls.specs.declared.journals.Wrote.TheVariants as wrote
use Rattle.vb_calls.specs.AllSteps.{batch_of_one, with_one}
use Rattle.vb_calls.specs.Flushes.{flush_job, role_job, roll_job, roll_to_job}
use Rattle.vb_calls.specs.Jobs.{Job, after_job}
use Rattle.vb_calls.specs.Shelves.{Out, Shelf, Shelves, Written, open_shelf, shelves_step, Append, Look, Read, Shut, Idle, WasClosed}
use Rattle.vb_calls.specs.Spans.{no_spans}
use Rattle.vb_calls.specs.State.{Plain, quiet_reply}
use Rattle.vb_calls.specs.Plain.{plain_step}
use Rattle.vb_calls.specs.States.{States, states_make, states_step}

-- what a job makes of the vBucket 3 and its journal, and what it comes to
abbrev pub at_three : {A : Type 0} → Job A → Plain → Shelf → (States × Shelves) × A
at_three job vb shelf = after_job job (λ v. Some vb) (λ v. Some shelf)

-- a job came to this, and left this of the vBucket and of its journal
pub record Leaves {A : Type 0} (job : Job A) (vb : Plain) (shelf : Shelf) (came : A) (now : Plain) (left : Shelf) : Type 0 where
  pub said : (at_three job vb shelf).1 ≡ came
  pub vb_is : (at_three job vb shelf).0.0 3 ≡ Some now
  pub shelf_is : (at_three job vb shelf).0.1 3 ≡ Some left

-- a job came to this, and changed nothing
abbrev pub Refuses : {A : Type 0} → Job A → Plain → Shelf → A → Type 0
Refuses job vb shelf came = Leaves job vb shelf came vb shelf

-- the vBucket after its change at 4 was taken, and a journal to which the batch of it is on its way, was taken or was appended
abbrev pub all_taken : Plain
all_taken = record with_one { flushed = 4 }

abbrev pub one_out : Shelf
one_out = record (open_shelf []) { flush = Out batch_of_one }

abbrev pub one_written : Shelf
one_written = record (open_shelf (noted.Rows batch_of_one ∷ [])) { flush = Written 4 }

-- A take gives the numbers of its batch, which is on its way then, or four zeros; while one is on its way it is refused. A save appends what was taken, and nothing else; where the journal is closed no disk is called. What was appended is done, and nothing else.
pub record StepsInNumbers : Type 0 where
  pub take : Leaves (flush_job 3 part.Take) with_one (open_shelf []) (flushed.Took 2 8 4 1) all_taken one_out
  pub take_none : Refuses (flush_job 3 part.Take) all_taken (open_shelf []) (flushed.Took 0 0 0 0)
  pub take_again : Refuses (flush_job 3 part.Take) with_one one_out flushed.BatchOut
  pub take_behind : Refuses (flush_job 3 part.Take) with_one one_written flushed.BatchOut
  pub save : Leaves (flush_job 3 part.Save) all_taken one_out flushed.Saved all_taken one_written
  pub save_none : Refuses (flush_job 3 part.Save) with_one (open_shelf []) flushed.NothingTaken
  pub save_again : Refuses (flush_job 3 part.Save) all_taken one_written flushed.NothingTaken
  pub save_closed : Leaves (flush_job 3 part.Save) all_taken (record one_out { is_closed = true }) flushed.Closed all_taken (record (open_shelf []) { is_closed = true })
  pub save_uncalled : Leaves (flush_job 3 part.Save) all_taken (record one_out { is_closed = true; fuse = Fail 1 }) flushed.Closed all_taken (record (open_shelf []) { is_closed = true; fuse = Fail 1 })
  pub done : Leaves (flush_job 3 part.Done) all_taken one_written (flushed.Done (Some (quiet_reply (answer.Num 4)))) (record all_taken { saved = 4 }) (open_shelf (noted.Rows batch_of_one ∷ []))
  pub done_none : Refuses (flush_job 3 part.Done) with_one (open_shelf []) flushed.NothingTaken
  pub done_early : Refuses (flush_job 3 part.Done) all_taken one_out flushed.NothingTaken

-- an entry of a failover log
abbrev pub entry : ℕ → ℕ → LogEntry
entry uuid seq = record { uuid = uuid; seq = seq }

-- that vBucket on branch 9, which left branch 7 at 3, with a last CAS below that of its batch
abbrev pub followed : Plain
followed = record with_one { log = entry 9 3 ∷ entry 7 0 ∷ []; last_cas = 4 }

-- a change at 2 that was written down before, its batch, and both batches
abbrev pub first_change : Change
first_change = record { seq = 2; key = 107 ∷ []; act = act.Remove 3 1 }

abbrev pub first_batch : Batch
first_batch = record { position = record { ss = 0; se = 2; at = 2 }; cas = 3; log = []; items = first_change ∷ [] }

abbrev pub two_batches : List Record
two_batches = noted.Rows batch_of_one ∷ noted.Rows first_batch ∷ []

-- the vBucket after a rollback to 2
abbrev pub back_at_2 : Plain
back_at_2 = record followed {
  base = image_of (first_change ∷ []);
  held = [];
  position = record { ss = 2; se = 2; at = 2 };
  log = entry 7 0 ∷ [];
  last_cas = 5;
  spans = no_spans;
  floor = 2;
  saved = 2;
  flushed = 2;
}

-- the vBucket after a rollback to 0
abbrev pub back_at_0 : Plain
back_at_0 = record back_at_2 { base = nothing; position = record { ss = 0; se = 0; at = 0 }; floor = 0; saved = 0; flushed = 0 }

-- The batch that ends at 4 ends inside its snapshot. So a rollback that names 3, or 2, goes to 2, with the image there and the CAS of the last batch, and one that names 1 goes to 0; the record of it stands in front, and a batch on its way is forgotten. Where it cannot be written down, or the vBucket does not follow, also one that does no more once that stands, the vBucket stays.
pub record RollsInNumbers : Type 0 where
  pub back : Leaves (roll_job 3 3) followed (open_shelf two_batches) (rolled.To 2) back_at_2 (open_shelf (noted.Roll 2 ∷ two_batches))
  pub exactly : Leaves (roll_job 3 2) followed (open_shelf two_batches) (rolled.To 2) back_at_2 (open_shelf (noted.Roll 2 ∷ two_batches))
  pub inside : Leaves (roll_job 3 4) followed (open_shelf two_batches) (rolled.To 2) back_at_2 (open_shelf (noted.Roll 2 ∷ two_batches))
  pub to_start : Leaves (roll_job 3 1) followed (open_shelf two_batches) (rolled.To 0) back_at_0 (open_shelf (noted.Roll 0 ∷ two_batches))
  pub forgets : Leaves (roll_job 3 3) followed (record (open_shelf two_batches) { flush = Out batch_of_one }) (rolled.To 2) back_at_2 (open_shelf (noted.Roll 2 ∷ two_batches))
  pub closed : Refuses (roll_job 3 3) followed (record (open_shelf two_batches) { is_closed = true }) rolled.Closed
  pub failed : Leaves (roll_job 3 3) followed (record (open_shelf two_batches) { fuse = Fail 4 }) rolled.DiskFailed followed (record (open_shelf two_batches) { is_closed = true; late = Some (noted.Roll 2) })
  pub lost : Refuses (roll_to_job 3 two_batches 2) (record followed { role = role.Active }) (open_shelf two_batches) (rolled.Refused status.NotMyVbucket)
  pub foreign : Refuses (roll_job 3 3) (record followed { role = role.Active }) (open_shelf two_batches) (rolled.Refused status.NotMyVbucket)

-- a role of this vBucket was written down so, where that was asked for, and the journal is this one then
pub record NotesOf (vb : Plain) (asked : VbCall) (shelf : Shelf) (how : Wrote) (left : Shelf) : Type 0 where
  pub how_is : (at_three (role_job 3 asked) vb shelf).1.1 ≡ how
  pub shelf_is : (at_three (role_job 3 asked) vb shelf).0.1 3 ≡ Some left

abbrev pub Notes : VbCall → Shelf → Wrote → Shelf → Type 0
Notes = NotesOf followed

-- one without changes that is to take over, inside a snapshot and at its end
abbrev pub early : Plain
early = record followed { role = role.Pending; base = nothing; held = []; spans = no_spans }

abbrev pub heir : Plain
heir = record early { position = record { ss = 2; se = 4; at = 4 } }

-- A role is written down behind the call, with the log, and that of an heir with the log as it was. One that is refused is not written down, and one that cannot be was taken all the same.
pub record RolesInNumbers : Type 0 where
  pub dead : Notes call.Dead (open_shelf []) wrote.Stood (open_shelf (noted.State role.Dead (entry 9 3 ∷ entry 7 0 ∷ []) ∷ []))
  pub refused : Notes call.Follow (open_shelf []) wrote.NotAsked (open_shelf [])
  pub used : Notes (call.Promote 7) (open_shelf []) wrote.NotAsked (open_shelf [])
  pub heir : NotesOf heir call.Own (open_shelf []) wrote.Stood (open_shelf (noted.State role.Active (entry 9 3 ∷ entry 7 0 ∷ []) ∷ []))
  pub early : NotesOf early call.Own (open_shelf []) wrote.NotAsked (open_shelf [])
  pub closed : Notes call.Dead (record (open_shelf []) { is_closed = true }) wrote.Closed (record (open_shelf []) { is_closed = true })
  pub failed : Notes call.Dead (record (open_shelf []) { fuse = Fail 1 }) wrote.DiskFailed (record (open_shelf []) { is_closed = true })
  pub taken : (at_three (role_job 3 call.Dead) followed (record (open_shelf []) { is_closed = true })).0.0 3 ≡ Some (plain_step followed call.Dead).0
  pub absent : (after_job (role_job 3 call.Dead) (λ v. None) (λ v. None)).1 ≡ (None, wrote.NotAsked)

-- A call changes the vBucket that it names and no other, and is answered by it; where there is none nothing is made. A vBucket is made where none stands, and no other one with it.
pub record StandApart : Type 0 where
  pub named : (vb : Plain) (call : VbCall) → ((states_step (λ v. Some vb) 3 call).0 3 ≡ Some (plain_step vb call).0) × ((states_step (λ v. Some vb) 3 call).1 ≡ Some (plain_step vb call).1)
  pub others : (vb : Plain) (call : VbCall) → ((states_step (λ v. Some vb) 3 call).0 2 ≡ Some vb) × ((states_step (λ v. Some vb) 3 call).0 4 ≡ Some vb)
  pub absent : (call : VbCall) → ((states_step (λ v. None) 3 call).0 3 ≡ None) × ((states_step (λ v. None) 3 call).1 ≡ None)
  pub made : (vb : Plain) → ((states_make (λ v. None) 3 vb).0 3 ≡ Some vb) × ((states_make (λ v. None) 3 vb).0 4 ≡ None) × ((states_make (λ v. None) 3 vb).1 ≡ true)
  pub there : (vb other : Plain) → ((states_make (λ v. Some vb) 3 other).0 3 ≡ Some vb) × ((states_make (λ v. Some vb) 3 other).1 ≡ false)
  pub journals : (shelf : Shelf) (r : Record) → (shelves_step (λ v. Some shelf) 3 (Append r)).0 4 ≡ Some shelf
  pub no_journal : (r : Record) → ((shelves_step (λ v. None) 3 (Append r)).1 ≡ WasClosed) × ((shelves_step (λ v. None) 3 Read).1 ≡ Shut) × ((shelves_step (λ v. None) 3 Look).1 ≡ Idle)
