-- what holds of what layers did, in other words
use Rattle.std.specs.Prelude.{◌≡◌, ◌↔◌, ℕ, Bool, List, [], ◌++◌, Option}
use Rattle.vb_types.specs.declared.role.Role.{Role}
use Rattle.vb_calls.specs.declared.calls.VbCall.{VbCall}
use Rattle.vb_calls.specs.declared.calls.VbReply.{VbReply}
use Rattle.vb_calls.specs.Programs.{Prog, Made, Ran, Began, Told, FirstCalls, listed_step}
use Rattle.vb_calls.specs.Jobs.{Job, RanJob, BeganJob, lift}
use Rattle.vb_calls.specs.Shelves.{Ask, Got}
use Rattle.vb_told.specs.Told.{ToldJob, FirstJobCalls, Gained, hidden_asks}

-- a program tells as a job what it tells by itself. A job's first calls are a front part of what it makes as it comes to an answer
pub record JobsTellTheirCalls (A : Type 0) : Type 0 where
  pub whole : (prog : Prog A) (made : List Made) (answer : A) → ToldJob (lift prog) made answer ↔ Told prog made answer
  pub first : (prog : Prog A) (made : List Made) → FirstJobCalls (lift prog) made ↔ FirstCalls prog made
  pub fronts : (job : Job A) (made : List Made) → FirstJobCalls job made ↔ ((more : List Made) × (answer : A) × ToldJob job (made ++ more) answer)

module _ {W : Type 0} (step : W → ℕ → VbCall → Option VbReply → W → Type 0) (mine : W → ℕ → List (VbCall × VbReply)) where
  -- each call enters the list of its vBucket, with its reply where there is one
  abbrev pub ListsCalls : Type 0
  ListsCalls = (old : W) (v : ℕ) (call : VbCall) (reply : Option VbReply) (new : W) → step old v call reply new → listed_step mine old v call reply new

  -- a layer's calls are those of its program, with the replies that the lists gained
  abbrev pub CallsAreTold : (A : Type 0) → Type 0
  CallsAreTold A = (prog : Prog A) (old : W) (answer : A) (new : W) → Ran step prog old answer new
      → (made : List Made) × Told prog made answer × Gained mine made old new

  -- where memory failed, they are the first of these
  abbrev pub FirstCallsAreTold : (A : Type 0) → Type 0
  FirstCallsAreTold A = (prog : Prog A) (old new : W) → Began step prog old new
      → (made : List Made) × FirstCalls prog made × Gained mine made old new

-- a vBucket that is made enters no list
abbrev pub ListsNoMakes : {W : Type 0} → (W → ℕ → ℕ → Role → ℕ → Bool → W → Type 0) → (W → ℕ → List (VbCall × VbReply)) → Type 0
ListsNoMakes made mine = (old : _) (v node : ℕ) (role : Role) (uuid : ℕ) (fresh : Bool) (new : _) → made old v node role uuid fresh new → Gained mine [] old new

module _ {W J : Type 0} (step : W → ℕ → VbCall → Option VbReply → W → Type 0) (asks : J → ℕ → (ask : Ask) → Got ask → J → Type 0) where
  -- so it is of a job
  abbrev pub JobsAreTold : (W → ℕ → List (VbCall × VbReply)) → (A : Type 0) → Type 0
  JobsAreTold mine A = (job : Job A) (old : W) (kept : J) (answer : A) (new : W) (left : J) → RanJob step asks job old kept answer new left
      → (made : List Made) × ToldJob job made answer × Gained mine made old new

  abbrev pub FirstJobCallsAreTold : (W → ℕ → List (VbCall × VbReply)) → (A : Type 0) → Type 0
  FirstJobCallsAreTold mine A = (job : Job A) (old : W) (kept : J) (new : W) (left : J) → BeganJob step asks job old kept new left
      → (made : List Made) × FirstJobCalls job made × Gained mine made old new

  -- a job that ran over journals ran, with the same answers, over what hides them
  pub record HidesJournals {K : Type 0} (A : Type 0) (lock : K) : Type 0 where
    pub ran : (job : Job A) (old : W) (kept : J) (answer : A) (new : W) (left : J) → RanJob step asks job old kept answer new left → RanJob step (hidden_asks {K = K}) job old lock answer new lock
    pub began : (job : Job A) (old : W) (kept : J) (new : W) (left : J) → BeganJob step asks job old kept new left → BeganJob step (hidden_asks {K = K}) job old lock new lock
