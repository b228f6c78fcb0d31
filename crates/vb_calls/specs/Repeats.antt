-- what the turns of a loop come to, told from the first one on, and in numbers
use Rattle.std.specs.Prelude.{zero, suc, true, ◌≡◌, ◌↔◌, ◌⊎◌, ℕ, ◌<◌, [], ◌∷◌, Option, Some}
use Rattle.vb_disk.specs.declared.fuse.Fuse.TheVariants.{Fail}
use Rattle.vb_types.specs.declared.journal.Record.TheVariants as noted
use Rattle.vb_calls.specs.declared.calls.VbCall.{VbCall}
use Rattle.vb_calls.specs.declared.calls.VbReply.{VbReply}
use Rattle.vb_calls.specs.AllSteps.{with_one}
use Rattle.vb_calls.specs.Jobs.{Job, Ended, Request, repeated_job, RanJob, BeganJob}
use Rattle.vb_calls.specs.Numbers.{Leaves, Refuses}
use Rattle.vb_calls.specs.Programs.{Turn, More, Stop}
use Rattle.vb_calls.specs.Shelves.{Ask, Append, Got, Fate, Stood, open_shelf}

module _ {W J A R : Type 0} (step : W → ℕ → VbCall → Option VbReply → W → Type 0) (asks : J → ℕ → (ask : Ask) → Got ask → J → Type 0) (f : A → Job (Turn A R)) where
  -- so many turns were made, each from what the one before it went on with, and all of them went on
  abbrev pub WentOn : ℕ → A → W → J → A → W → J → Type 0
  WentOn zero a old kept b new left = (b ≡ a) × (new ≡ old) × (left ≡ kept)
  WentOn (suc n) a old kept b new left = (c : A) × (mid : W) × (held : J) × RanJob step asks (f a) old kept (More c) mid held × WentOn n c mid held b new left

  -- Fewer than so many turns went on, and the next one stopped with this.
  pub record StoppedWithin (n : ℕ) (a : A) (old : W) (kept : J) (r : R) (new : W) (left : J) : Type 0 where
    pub turns : ℕ
    pub fewer : turns < n
    pub last : A
    pub mid : W
    pub held : J
    pub went : WentOn turns a old kept last mid held
    pub stopped : RanJob step asks (f last) mid held (Stop r) new left

  -- Fewer than so many turns went on, and memory was short in the next one, or behind it.
  pub record BrokeOffWithin (n : ℕ) (a : A) (old : W) (kept : J) (new : W) (left : J) : Type 0 where
    pub turns : ℕ
    pub fewer : turns < n
    pub last : A
    pub mid : W
    pub held : J
    pub went : WentOn turns a old kept last mid held
    pub begun : BeganJob step asks (f last) mid held new left

  -- no turn may be made, and nothing was done
  abbrev pub HasNoTurn : ℕ → W → J → W → J → Type 0
  HasNoTurn n old kept new left = (n ≡ 0) × (new ≡ old) × (left ≡ kept)

  -- Of at most so many turns all were made exactly where each of them went on, and they stopped exactly where one did behind some that went on. What was made of them where memory was short is a front part of one turn behind those that went on.
  pub record TurnsAreMade : Type 0 where
    pub all : (n : ℕ) (a : A) (old : W) (kept : J) (b : A) (new : W) (left : J) → RanJob step asks (repeated_job n f a) old kept (More b) new left ↔ WentOn n a old kept b new left
    pub stop : (n : ℕ) (a : A) (old : W) (kept : J) (r : R) (new : W) (left : J) → RanJob step asks (repeated_job n f a) old kept (Stop r) new left ↔ StoppedWithin n a old kept r new left
    pub short : (n : ℕ) (a : A) (old : W) (kept : J) (new : W) (left : J)
        → BeganJob step asks (repeated_job n f a) old kept new left ↔ (HasNoTurn n old kept new left ⊎ BrokeOffWithin n a old kept new left)

-- by what became of the rollback to n: the next number is next once it stands, and else the turns stop with this one
abbrev pub noted_by : ℕ → Fate → Turn ℕ ℕ
noted_by n Stood = More (suc n)
noted_by n other = Stop n

-- appends a rollback to n to the journal of the vBucket 3
abbrev pub note_turn : ℕ → Job (Turn ℕ ℕ)
note_turn n = Request 3 (Append (noted.Roll n)) (λ fate. Ended (noted_by n fate))

-- No turn does nothing. Two turns append two records. Where the disk fails at the fourth call of the second append, all behind it is not done, also where that was the last turn; one turn does not come so far. A closed journal stops the first one.
pub record TurnsInNumbers : Type 0 where
  pub none : Refuses (repeated_job 0 note_turn 1) with_one (open_shelf []) (More 1)
  pub two : Leaves (repeated_job 2 note_turn 1) with_one (open_shelf []) (More 3) with_one (open_shelf (noted.Roll 2 ∷ noted.Roll 1 ∷ []))
  pub stops : Leaves (repeated_job 5 note_turn 1) with_one (record (open_shelf []) { fuse = Fail 8 }) (Stop 2) with_one (record (open_shelf (noted.Roll 1 ∷ [])) { is_closed = true; late = Some (noted.Roll 2) })
  pub at_last : Leaves (repeated_job 2 note_turn 1) with_one (record (open_shelf []) { fuse = Fail 8 }) (Stop 2) with_one (record (open_shelf (noted.Roll 1 ∷ [])) { is_closed = true; late = Some (noted.Roll 2) })
  pub before : Leaves (repeated_job 1 note_turn 1) with_one (record (open_shelf []) { fuse = Fail 8 }) (More 2) with_one (record (open_shelf (noted.Roll 1 ∷ [])) { fuse = Fail 4 })
  pub closed : Refuses (repeated_job 3 note_turn 1) with_one (record (open_shelf []) { is_closed = true }) (Stop 1)
