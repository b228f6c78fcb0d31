-- what a program or a job that ran says of the lists of its access
use Rattle.std.proofs.Common.{◌≡◌, ℕ, List, [], ◌∷◌, ◌++◌, refl, sym, ap, ◌∙◌, inl, inr, append_assoc, append-nil}
use Rattle.std.specs.Prelude.{Option}
use Rattle.vb_calls.specs.declared.calls.VbCall.{VbCall}
use Rattle.vb_calls.specs.declared.calls.VbReply.{VbReply}
use Rattle.vb_calls.specs.Programs.{Prog, Done, Made, Ran, Began, listed_step, of_one, gained}
use Rattle.vb_calls.specs.Programs as prog
use Rattle.vb_calls.specs.Jobs.{Job, Ended, Call, Request, RanJob, BeganJob}
use Rattle.vb_calls.specs.Shelves.{Ask, Got, no_answer}
use Rattle.vb_calls.proofs.Readings.{told_made, told_began}
use Rattle.vb_told.specs.Told.{ToldJob, FirstJobCalls, Gained, hidden_asks}
use Rattle.vb_told.specs.Laws.{ListsCalls, CallsAreTold, FirstCallsAreTold, JobsAreTold, FirstJobCallsAreTold, HidesJournals}

module _ {W : Type 0} (step : W → ℕ → VbCall → Option VbReply → W → Type 0) (mine : W → ℕ → List (VbCall × VbReply)) (lists : ListsCalls step mine) where
  listed : {A : Type 0} (p : Prog A) (old : W) (answer : A) (new : W) → Ran step p old answer new → Ran (listed_step mine) p old answer new
  listed (Done a) old answer new ran = ran
  listed (prog.Call v call next) old answer new ran =
      (ran.0, ran.1, lists old v call ran.0 ran.1 ran.2, listed (next ran.0) ran.1 answer new ran.3)

  listed_first : {A : Type 0} (p : Prog A) (old new : W) → Began step p old new → Began (listed_step mine) p old new
  listed_first (Done a) old new begun = begun
  listed_first (prog.Call v call next) old new (inl same) = inl same
  listed_first (prog.Call v call next) old new (inr begun) =
      inr (begun.0, begun.1, lists old v call begun.0 begun.1 begun.2, listed_first (next begun.0) begun.1 new begun.3)

  pub calls : {A : Type 0} → CallsAreTold step mine A
  calls p old answer new ran = told_made mine p old answer new (listed p old answer new ran)

  pub first_calls : {A : Type 0} → FirstCallsAreTold step mine A
  first_calls p old new begun = told_began mine p old new (listed_first p old new begun)

  none : (old new : W) → new ≡ old → Gained mine [] old new
  none old new same w = ap (λ x. mine x w) same ∙ sym (append-nil (mine old w))

  more : (old mid new : W) (v : ℕ) (call : VbCall) (reply : Option VbReply) (made : List Made) → step old v call reply mid → Gained mine made mid new → Gained mine ((v, call, reply) ∷ made) old new
  more old mid new v call reply made stepped grew w =
      grew w ∙ (ap (λ xs. xs ++ gained w made) (lists old v call reply mid stepped w) ∙ append_assoc (mine old w) (of_one w (v, call, reply)) (gained w made))

  module _ {J : Type 0} (asks : J → ℕ → (ask : Ask) → Got ask → J → Type 0) where
    pub jobs : {A : Type 0} → JobsAreTold step asks mine A
    jobs (Ended a) old kept answer new left ran = ([], ran.0, none old new ran.1)
    jobs (Call v call next) old kept answer new left ran =
        let (made, told, grew) = jobs (next ran.0) ran.1 kept answer new left ran.3 in
        ((v, call, ran.0) ∷ made, (refl, refl, told), more old ran.1 new v call ran.0 made ran.2 grew)
    jobs (Request v ask next) old kept answer new left ran =
        let (made, told, grew) = jobs (next ran.0) old ran.1 answer new left ran.3 in (made, (ran.0, told), grew)

    -- where nothing was made yet
    not_begun : {A : Type 0} (job : Job A) → FirstJobCalls job []
    not_begun (Ended a) = tt
    not_begun (Call v call next) = tt
    not_begun (Request v ask next) = (no_answer ask, not_begun (next (no_answer ask)))

    pub first_job_calls : {A : Type 0} → FirstJobCallsAreTold step asks mine A
    first_job_calls (Ended a) old kept new left begun = ([], tt, none old new begun.0)
    first_job_calls (Call v call next) old kept new left (inl same) = ([], tt, none old new same.0)
    first_job_calls (Call v call next) old kept new left (inr begun) =
        let (made, told, grew) = first_job_calls (next begun.0) begun.1 kept new left begun.3 in
        ((v, call, begun.0) ∷ made, (refl, refl, told), more old begun.1 new v call begun.0 made begun.2 grew)
    first_job_calls (Request v ask next) old kept new left (inl same) = ([], not_begun (Request v ask next), none old new same.0)
    first_job_calls (Request v ask next) old kept new left (inr begun) =
        let (made, told, grew) = first_job_calls (next begun.0) old begun.1 new left begun.3 in (made, (begun.0, told), grew)

module _ {W J K : Type 0} (step : W → ℕ → VbCall → Option VbReply → W → Type 0) (asks : J → ℕ → (ask : Ask) → Got ask → J → Type 0) (lock : K) where
  ran_hidden : {A : Type 0} (job : Job A) (old : W) (kept : J) (answer : A) (new : W) (left : J) → RanJob step asks job old kept answer new left → RanJob step (hidden_asks {K = K}) job old lock answer new lock
  ran_hidden (Ended a) old kept answer new left ran = (ran.0, ran.1, refl)
  ran_hidden (Call v call next) old kept answer new left ran = (ran.0, ran.1, ran.2, ran_hidden (next ran.0) ran.1 kept answer new left ran.3)
  ran_hidden (Request v ask next) old kept answer new left ran = (ran.0, lock, refl, ran_hidden (next ran.0) old ran.1 answer new left ran.3)

  began_hidden : {A : Type 0} (job : Job A) (old : W) (kept : J) (new : W) (left : J) → BeganJob step asks job old kept new left → BeganJob step (hidden_asks {K = K}) job old lock new lock
  began_hidden (Ended a) old kept new left begun = (begun.0, refl)
  began_hidden (Call v call next) old kept new left (inl same) = inl (same.0, refl)
  began_hidden (Call v call next) old kept new left (inr begun) = inr (begun.0, begun.1, begun.2, began_hidden (next begun.0) begun.1 kept new left begun.3)
  began_hidden (Request v ask next) old kept new left (inl same) = inl (same.0, inl refl)
  began_hidden (Request v ask next) old kept new left (inr begun) = inr (begun.0, lock, refl, began_hidden (next begun.0) old begun.1 new left begun.3)

  pub hides : {A : Type 0} → HidesJournals step asks A lock
  hides = record { ran = ran_hidden; began = began_hidden }
