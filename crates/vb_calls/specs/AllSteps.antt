-- what a flush of all its steps does, in other words and in numbers
use Rattle.std.specs.Prelude.{◌≡◌, ℕ, true, [], ◌∷◌, Option, Some}
use Rattle.vb_types.specs.declared.change.Act.TheVariants as act
use Rattle.vb_types.specs.declared.change.Change.{Change}
use Rattle.vb_types.specs.declared.journal.Batch.{Batch}
use Rattle.vb_types.specs.declared.journal.FlushPart.TheVariants as part
use Rattle.vb_types.specs.declared.journal.Record.TheVariants as noted
use Rattle.vb_types.specs.declared.role.Role.TheVariants.{Replica}
use Rattle.vb_disk.specs.declared.fuse.Fuse.TheVariants.{Fail}
use Rattle.vb_calls.specs.declared.calls.VbAnswer.TheVariants as answer
use Rattle.vb_calls.specs.declared.calls.VbCall.{VbCall}
use Rattle.vb_calls.specs.declared.calls.VbCall.TheVariants as call
use Rattle.vb_calls.specs.declared.calls.VbReply.{VbReply}
use Rattle.vb_calls.specs.declared.journals.Flushed.{Flushed}
use Rattle.vb_calls.specs.declared.journals.Flushed.TheVariants as flushed
use Rattle.vb_calls.specs.declared.span.Origin.TheVariants.{Received}
use Rattle.vb_calls.specs.Flushes.{flush_job}
use Rattle.vb_calls.specs.Jobs.{after_job}
use Rattle.vb_calls.specs.Shelves.{Ask, Append, Look, Keep, Got, Flush, Idle, Out, Written, Fate, Stood, WasClosed, DiskFailed, Shelf, Shelves, open_shelf}
use Rattle.vb_calls.specs.State.{Plain, new_vb, quiet_reply}
use Rattle.vb_calls.specs.States.{States}

-- a reply has this batch
abbrev pub HasBatch : Option VbReply → Batch → Type 0
HasBatch reply batch = (r : VbReply) × (reply ≡ Some r) × (r.answer ≡ answer.Rows batch)

module _ {W J : Type 0} (step : W → ℕ → VbCall → Option VbReply → W → Type 0) (asks : J → ℕ → (ask : Ask) → Got ask → J → Type 0) where
  -- No batch is on its way any more, and the vBucket was told that all up to this seqno is written down. Its reply is what the flush came to.
  pub record HearsWritten (v seq : ℕ) (old : W) (kept : J) (came : Flushed) (new : W) (left : J) : Type 0 where
    pub freed : asks kept v (Keep Idle) tt left
    pub reply : Option VbReply
    pub told : step old v (call.FlushDone seq) reply new
    pub said : came ≡ flushed.Done reply

  -- No batch is on its way any more, and the vBucket was told nothing. The flush came to this.
  pub record IsGone (v : ℕ) (why : Flushed) (old : W) (kept : J) (came : Flushed) (new : W) (left : J) : Type 0 where
    pub freed : asks kept v (Keep Idle) tt left
    pub untold : new ≡ old
    pub said : came ≡ why

  -- by what became of the append of a batch: once it stands, all up to its last seqno is written down
  abbrev pub EndsBy : ℕ → Batch → Fate → W → J → Flushed → W → J → Type 0
  EndsBy v batch Stood old kept came new left = (mid : J) × asks kept v (Keep (Written batch.position.at)) tt mid × HearsWritten v batch.position.at old mid came new left
  EndsBy v batch WasClosed old kept came new left = IsGone v flushed.Closed old kept came new left
  EndsBy v batch DiskFailed old kept came new left = IsGone v flushed.DiskFailed old kept came new left

  -- a batch that was taken is appended, and then its vBucket is told, or it is gone
  pub record IsSaved (v : ℕ) (batch : Batch) (old : W) (kept : J) (came : Flushed) (new : W) (left : J) : Type 0 where
    pub fate : Fate
    pub mid : J
    pub appended : asks kept v (Append (noted.Rows batch)) fate mid
    pub ended : EndsBy v batch fate old mid came new left

  -- one is on its way first
  pub record IsTaken (v : ℕ) (batch : Batch) (old : W) (kept : J) (came : Flushed) (new : W) (left : J) : Type 0 where
    pub mid : J
    pub out : asks kept v (Keep (Out batch)) tt mid
    pub saved : IsSaved v batch old mid came new left

  -- there was nothing to take, and nothing else was done
  pub record TookNone (old : W) (kept : J) (came : Flushed) (new : W) (left : J) : Type 0 where
    pub said : came ≡ flushed.Took 0 0 0 0
    pub untold : new ≡ old
    pub unasked : left ≡ kept

  -- the vBucket is asked for a batch, and gives one or none
  pub record Takes (v : ℕ) (old : W) (kept : J) (came : Flushed) (new : W) (left : J) : Type 0 where
    pub reply : Option VbReply
    pub mid : W
    pub asked : step old v call.FlushTake reply mid
    pub some : (batch : Batch) → HasBatch reply batch → IsTaken v batch mid kept came new left
    pub none : ((batch : Batch) → HasBatch reply batch → ⊥) → TookNone mid kept came new left

  -- by the batch that is on its way
  pub record StepsOfAll (v : ℕ) (old : W) (kept : J) (came : Flushed) (new : W) (left : J) : Type 0 where
    pub flush : Flush
    pub seen : J
    pub looked : asks kept v Look flush seen
    pub idle : flush ≡ Idle → Takes v old seen came new left
    pub out : (batch : Batch) → flush ≡ Out batch → IsSaved v batch old seen came new left
    pub written : (seq : ℕ) → flush ≡ Written seq → HearsWritten v seq old seen came new left

-- a change that a vBucket received
abbrev pub one_change : Change
one_change = record { seq = 4; key = 107 ∷ []; act = act.Remove 5 6 }

-- a vBucket that follows, at 4 of the snapshot from 2 to 8, with that one change, of which it has written nothing down
abbrev pub with_one : Plain
with_one = record (new_vb 1 Replica 0) {
  held = one_change ∷ [];
  position = record { ss = 2; se = 8; at = 4 };
  last_cas = 5;
  spans = record { sealed = []; current = Some (record { above = 0; last = 4; origin = Received 2 8 }) };
}

-- the batch that is taken of it
abbrev pub batch_of_one : Batch
batch_of_one = record { position = record { ss = 2; se = 8; at = 4 }; cas = 5; log = []; items = one_change ∷ [] }

-- what a flush of all steps makes of it and of its journal
abbrev pub flushed_all : Plain → Shelf → (States × Shelves) × Flushed
flushed_all vb shelf = after_job (flush_job 3 part.All) (λ v. Some vb) (λ v. Some shelf)

-- it came to this, and left this of the vBucket and of its journal
pub record IsFlushed (vb : Plain) (shelf : Shelf) (came : Flushed) (now : Plain) (left : Shelf) : Type 0 where
  pub said : (flushed_all vb shelf).1 ≡ came
  pub vb_is : (flushed_all vb shelf).0.0 3 ≡ Some now
  pub shelf_is : (flushed_all vb shelf).0.1 3 ≡ Some left

-- Of the change at 4: it is taken, appended and told; of what was taken before, or appended, the rest is done. Where the journal is closed, or its disk fails at the fourth call, the batch is gone, and nothing counts as written down; it was taken all the same. Where all was taken there is nothing to do.
pub record AllInNumbers : Type 0 where
  pub all : IsFlushed with_one (open_shelf []) (flushed.Done (Some (quiet_reply (answer.Num 4)))) (record with_one { flushed = 4; saved = 4 }) (open_shelf (noted.Rows batch_of_one ∷ []))
  pub out : IsFlushed (record with_one { flushed = 4 }) (record (open_shelf []) { flush = Out batch_of_one }) (flushed.Done (Some (quiet_reply (answer.Num 4)))) (record with_one { flushed = 4; saved = 4 }) (open_shelf (noted.Rows batch_of_one ∷ []))
  pub written : IsFlushed (record with_one { flushed = 4 }) (record (open_shelf (noted.Rows batch_of_one ∷ [])) { flush = Written 4 }) (flushed.Done (Some (quiet_reply (answer.Num 4)))) (record with_one { flushed = 4; saved = 4 }) (open_shelf (noted.Rows batch_of_one ∷ []))
  pub closed : IsFlushed with_one (record (open_shelf []) { is_closed = true }) flushed.Closed (record with_one { flushed = 4 }) (record (open_shelf []) { is_closed = true })
  pub failed : IsFlushed with_one (record (open_shelf []) { fuse = Fail 4 }) flushed.DiskFailed (record with_one { flushed = 4 }) (record (open_shelf []) { is_closed = true; late = Some (noted.Rows batch_of_one) })
  pub none : IsFlushed (record with_one { flushed = 4 }) (open_shelf []) (flushed.Took 0 0 0 0) (record with_one { flushed = 4 }) (open_shelf [])
