-- what a program or a job that ran tells
use Rattle.std.proofs.Common.{◌≡◌, ℕ, List, sym, ap, ◌∙◌, append-nil}
use Rattle.std.specs.Prelude.{Option}
use Rattle.vb_calls.specs.declared.calls.VbCall.{VbCall}
use Rattle.vb_calls.specs.declared.calls.VbReply.{VbReply}
use Rattle.vb_calls.specs.Programs.{Prog, Ran, Began}
use Rattle.vb_calls.specs.Jobs.{Job, RanJob, BeganJob}
use Rattle.vb_calls.specs.Shelves.{Ask, Got}
use Rattle.vb_told.specs.Laws.{ListsCalls}
use Rattle.vb_told.proofs.Runs.{calls, first_calls, jobs, first_job_calls}
use Rattle.node_told.specs.Told.{ToldProg, FirstOfProg, ToldOfJob, FirstOfJob, Quiet}

pub quiet : {W : Type 0} (mine : W → ℕ → List (VbCall × VbReply)) (old new : W) → new ≡ old → Quiet mine old new
quiet mine old new same w = ap (λ x. mine x w) same ∙ sym (append-nil (mine old w))

module _ {W : Type 0} (step : W → ℕ → VbCall → Option VbReply → W → Type 0) (mine : W → ℕ → List (VbCall × VbReply)) (lists : ListsCalls step mine) where
  pub told : {A : Type 0} (prog : Prog A) (is : A → Type 0) (old : W) (answer : A) (new : W) → Ran step prog old answer new → is answer → ToldProg mine prog is old new
  told prog is old answer new ran so = let (made, said, grew) = calls step mine lists prog old answer new ran in
      record { answer = answer; made = made; told = said; grew = grew; so = so }

  pub first : {A : Type 0} (prog : Prog A) (old new : W) → Began step prog old new → FirstOfProg mine prog old new
  first prog old new began = let (made, said, grew) = first_calls step mine lists prog old new began in record { made = made; first = said; grew = grew }

  module _ {J : Type 0} (asks : J → ℕ → (ask : Ask) → Got ask → J → Type 0) where
    pub told_job : {A : Type 0} (job : Job A) (is : A → Type 0) (old : W) (kept : J) (answer : A) (new : W) (left : J) → RanJob step asks job old kept answer new left → is answer → ToldOfJob mine job is old new
    told_job job is old kept answer new left ran so = let (made, said, grew) = jobs step mine lists asks job old kept answer new left ran in
        record { answer = answer; made = made; told = said; grew = grew; so = so }

    pub first_job : {A : Type 0} (job : Job A) (old : W) (kept : J) (new : W) (left : J) → BeganJob step asks job old kept new left → FirstOfJob mine job old new
    first_job job old kept new left began = let (made, said, grew) = first_job_calls step mine lists asks job old kept new left began in
        record { made = made; first = said; grew = grew }
