-- which answers say that a disk failed, and that its count of failures rose then
use Rattle.std.specs.Prelude.{◌≡◌, ℕ, ◌≤◌, Option}
use Rattle.vb_disk.specs.Counts.{Rose}
use Rattle.vb_types.specs.declared.journal.FlushPart.{FlushPart}
use Rattle.vb_types.specs.declared.journal.Record.{Record}
use Rattle.vb_calls.specs.Flushes.{flush_job, roll_job, role_job, wrote_of}
use Rattle.vb_calls.specs.Jobs.{Job, RanJob, BeganJob}
use Rattle.vb_calls.specs.Shelves.{Ask, Append, Read, Look, Keep, Got, Fate, DiskFailed, Unread}
use Rattle.vb_calls.specs.declared.calls.VbCall.{VbCall}
use Rattle.vb_calls.specs.declared.calls.VbReply.{VbReply}
use Rattle.vb_calls.specs.declared.journals.Flushed.TheVariants as flushed
use Rattle.vb_calls.specs.declared.journals.Rolled.TheVariants as rolled
use Rattle.vb_calls.specs.declared.journals.Wrote.TheVariants as wrote

-- the answer says that the disk failed: of an append or of a read
abbrev pub IsFailure : (ask : Ask) → Got ask → Type 0
IsFailure (Append what) fate = fate ≡ DiskFailed
IsFailure Read reading = reading ≡ Unread
IsFailure Look flush = ⊥
IsFailure (Keep flush) kept = ⊥

-- Counts of the failures of all journals, before and after a request to the journal at v: none fell, and that of v rose where the answer says that its disk failed.
pub record IsCounted (before now : ℕ → ℕ) (v : ℕ) (ask : Ask) (got : Got ask) : Type 0 where
  pub later : (w : ℕ) → before w ≤ now w
  pub rose : IsFailure ask got → Rose (before v) (now v)

-- so it is of each request
abbrev pub AreCounted : {J : Type 0} → (J → ℕ → (ask : Ask) → Got ask → J → Type 0) → (J → ℕ → ℕ) → Type 0
AreCounted asks failures =
    (old : _) (v : ℕ) (ask : Ask) (got : Got ask) (new : _) → asks old v ask got new → IsCounted (failures old) (failures new) v ask got

module _ {W J : Type 0} (step : W → ℕ → VbCall → Option VbReply → W → Type 0) (asks : J → ℕ → (ask : Ask) → Got ask → J → Type 0) (failures : J → ℕ → ℕ) where
  -- no count falls, whatever a job calls and asks, and where memory was short for the rest of it
  pub record NeverFalls (A : Type 0) : Type 0 where
    pub ran : (job : Job A) (old : W) (kept : J) (answer : A) (new : W) (left : J) → RanJob step asks job old kept answer new left → (v : ℕ) → failures kept v ≤ failures left v
    pub began : (job : Job A) (old : W) (kept : J) (new : W) (left : J) → BeganJob step asks job old kept new left → (v : ℕ) → failures kept v ≤ failures left v

  -- An append, a step of writing a batch down, a rollback and a change of role come to that the disk failed only where the count of their journal rose in them.
  pub record FailsWhereItRose : Type 0 where
    pub appended : (v : ℕ) (what : Record) (fate : Fate) (kept left : J) → asks kept v (Append what) fate left → wrote_of fate ≡ wrote.DiskFailed → Rose (failures kept v) (failures left v)
    pub flushed : (v : ℕ) (part : FlushPart) (old : W) (kept : J) (new : W) (left : J) → RanJob step asks (flush_job v part) old kept flushed.DiskFailed new left → Rose (failures kept v) (failures left v)
    pub rolled : (v to : ℕ) (old : W) (kept : J) (new : W) (left : J) → RanJob step asks (roll_job v to) old kept rolled.DiskFailed new left → Rose (failures kept v) (failures left v)
    pub turned : (v : ℕ) (call : VbCall) (old : W) (kept : J) (reply : Option VbReply) (new : W) (left : J) → RanJob step asks (role_job v call) old kept (reply, wrote.DiskFailed) new left → Rose (failures kept v) (failures left v)
