-- what a job that ran says of the plain states and journals
use Rattle.std.proofs.Common.{◌≡◌, ℕ, Bool, true, false, List, [], ◌∷◌, refl, sym, ap, ◌∙◌, subst, Option, Some, None}
use Rattle.std.specs.Prelude.{◌==◌, if◌then◌else◌}
use Rattle.std.specs.List.{fold}
use Rattle.std.proofs.lemmas.Bool.{eqb-true}
use Rattle.vb_calls.specs.declared.calls.VbCall.{VbCall}
use Rattle.vb_calls.specs.declared.calls.VbReply.{VbReply}
use Rattle.vb_calls.specs.Jobs.{Job, Ended, Call, Request, bind_job, next_job, lift, after_job, after_reads, alone_asks, RanJob, AlwaysJob, IsRead}
use Rattle.vb_calls.specs.Programs.{Prog, AnyReply, alone_step, after}
use Rattle.vb_calls.specs.Programs as prog
use Rattle.vb_calls.specs.Shelves.{Ask, Append, Read, Look, Keep, Reading, Shelf, Shelves, with_shelf_at, ask_at, shelves_step}
use Rattle.vb_calls.specs.States.{States, states_step}
use Rattle.vb_calls.proofs.Conduct.{step_elsewhere}

-- an answer and what is kept are those that come next
abbrev pub ComesTo : {W J A : Type 0} → (W → States → Type 0) → (J → Shelves → Type 0) → A → W → J → (States × Shelves) × A → Type 0
ComesTo Stands Shelved answer new left next = (answer ≡ next.1) × Stands new next.0.0 × Shelved left next.0.1

module _ {W J : Type 0} (Stands : W → States → Type 0) (Shelved : J → Shelves → Type 0) where
  -- over vBuckets and journals that are alone the answer is the definition's, and they stand for its states and journals
  pub alone_after_job : {A : Type 0} (job : Job A) (old : W) (kept : J) (answer : A) (new : W) (left : J) → RanJob (alone_step Stands) (alone_asks Shelved) job old kept answer new left → (states : States) → Stands old states → (shelves : Shelves) → Shelved kept shelves → ComesTo Stands Shelved answer new left (after_job job states shelves)
  alone_after_job (Ended a) old kept answer new left ran states stands shelves shelved =
      (ran.0, subst (λ w. Stands w states) (sym ran.1) stands, subst (λ j. Shelved j shelves) (sym ran.2) shelved)
  alone_after_job (Call v call next) old kept answer new left ran states stands shelves shelved =
      let step = ran.2 states stands in
      let states' : States = (states_step states v call).0 in
      subst (λ r. ComesTo Stands Shelved answer new left (after_job (next r) states' shelves)) step.0
      (alone_after_job (next ran.0) ran.1 kept answer new left ran.3 states' step.1 shelves shelved)
  alone_after_job (Request v ask next) old kept answer new left ran states stands shelves shelved =
      let step = ran.2 shelves shelved in
      let shelves' : Shelves = (shelves_step shelves v ask).0 in
      subst (λ g. ComesTo Stands Shelved answer new left (after_job (next g) states shelves')) step.0
      (alone_after_job (next ran.0) old ran.1 answer new left ran.3 states stands shelves' step.1)

-- one job after another is one function after another
pub after_job_bind : {A B : Type 0} (job : Job A) (k : A → Job B) (states : States) (shelves : Shelves) → after_job (bind_job job k) states shelves ≡ after_job (k (after_job job states shelves).1) (after_job job states shelves).0.0 (after_job job states shelves).0.1
after_job_bind (Ended a) k states shelves = refl
after_job_bind (Call v call next) k states shelves =
    after_job_bind (next (states_step states v call).1) k (states_step states v call).0 shelves
after_job_bind (Request v ask next) k states shelves =
    after_job_bind (next (shelves_step shelves v ask).1) k states (shelves_step shelves v ask).0

-- one item more, over plain states and journals
abbrev pub job_stepped : {X A : Type 0} → (X → A → Job A) → (States × Shelves) × A → X → (States × Shelves) × A
job_stepped f state x = after_job (f x state.1) state.0.0 state.0.1

-- a job for each of a list is a fold over plain states and journals
pub after_job_fold : {X A : Type 0} (f : X → A → Job A) (xs : List X) (job : Job A) (states : States) (shelves : Shelves) → after_job (fold (next_job f) job xs) states shelves ≡ fold (job_stepped f) (after_job job states shelves) xs
after_job_fold f [] job states shelves = refl
after_job_fold f (x ∷ xs) job states shelves =
    after_job_fold f xs (bind_job job (f x)) states shelves ∙ ap (λ s. fold (job_stepped f) s xs) (after_job_bind job (f x) states shelves)

-- a program that asks nothing of journals leaves them as they are
pub after_job_lift : {A : Type 0} (p : Prog A) (states : States) (shelves : Shelves) → after_job (lift p) states shelves ≡ (((after p states).0, shelves), (after p states).1)
after_job_lift (prog.Done a) states shelves = refl
after_job_lift (prog.Call v call next) states shelves = after_job_lift (next (states_step states v call).1) (states_step states v call).0 shelves

-- where journals are read alone, one job after another is one function after another
pub after_reads_bind : {A B : Type 0} (job : Job A) (k : A → Job B) (shelves : Shelves) (states : States) → after_reads (bind_job job k) shelves states ≡ after_reads (k (after_reads job shelves states).1) shelves (after_reads job shelves states).0
after_reads_bind (Ended a) k shelves states = refl
after_reads_bind (Call v call next) k shelves states =
    after_reads_bind (next (states_step states v call).1) k shelves (states_step states v call).0
after_reads_bind (Request v ask next) k shelves states = after_reads_bind (next (shelves_step shelves v ask).1) k shelves states

-- one item more, over plain states and the journals that are read
abbrev pub read_stepped : {X A : Type 0} → (X → A → Job A) → Shelves → States × A → X → States × A
read_stepped f shelves state x = after_reads (f x state.1) shelves state.0

-- a job for each of a list is a fold over plain states
pub after_reads_fold : {X A : Type 0} (f : X → A → Job A) (xs : List X) (job : Job A) (shelves : Shelves) (states : States) → after_reads (fold (next_job f) job xs) shelves states ≡ fold (read_stepped f shelves) (after_reads job shelves states) xs
after_reads_fold f [] job shelves states = refl
after_reads_fold f (x ∷ xs) job shelves states =
    after_reads_fold f xs (bind_job job (f x)) shelves states ∙ ap (λ s. fold (read_stepped f shelves) s xs) (after_reads_bind job (f x) shelves states)

-- a program that asks nothing of journals goes as it does by itself
pub after_reads_lift : {A : Type 0} (p : Prog A) (shelves : Shelves) (states : States) → after_reads (lift p) shelves states ≡ after p states
after_reads_lift (prog.Done a) shelves states = refl
after_reads_lift (prog.Call v call next) shelves states = after_reads_lift (next (states_step states v call).1) shelves (states_step states v call).0

-- a journal that is put where it stands
with_same : (shelves : Shelves) (v : ℕ) (shelf : Shelf) → shelves v ≡ Some shelf → with_shelf_at shelves v shelf ≡ shelves
with_same shelves v shelf is = λ i w. by w (w == v) refl i
  where
    by : (w : ℕ) (b : Bool) → (w == v) ≡ b → (if b then Some shelf else shelves w) ≡ shelves w
    by w true e = sym is ∙ ap shelves (sym (eqb-true w v e))
    by w false e = refl

-- a journal that is read stays as it is
pub read_same : (shelves : Shelves) (v : ℕ) → (shelves_step shelves v Read).0 ≡ shelves
read_same shelves v = by (shelves v) refl
  where
    by : (o : Option Shelf) → shelves v ≡ o → (ask_at shelves v Read o).0 ≡ shelves
    by None there = refl
    by (Some shelf) there = with_same shelves v shelf there

-- a job that reads alone leaves all journals as they are
pub reads_leave : {A : Type 0} (calls : ℕ → VbCall → Type 0) (answers : A → Type 0) (job : Job A) (states : States) (shelves : Shelves)
    → AlwaysJob AnyReply calls IsRead answers job → after_job job states shelves ≡ (((after_reads job shelves states).0, shelves), (after_reads job shelves states).1)
reads_leave calls answers (Ended a) states shelves always = refl
reads_leave calls answers (Call v call next) states shelves always =
    let step : States × Option VbReply = states_step states v call in
    reads_leave calls answers (next step.1) step.0 shelves (always.1 step.1 tt)
reads_leave calls answers (Request v Read next) states shelves always =
    let reading : Reading = (shelves_step shelves v Read).1 in
    ap (after_job (next reading) states) (read_same shelves v) ∙ reads_leave calls answers (next reading) states shelves (always.1 reading)
reads_leave calls answers (Request v (Append what) next) states shelves always = absurd always.0
reads_leave calls answers (Request v Look next) states shelves always = absurd always.0
reads_leave calls answers (Request v (Keep flush) next) states shelves always = absurd always.0

-- a vBucket that it never calls stays as it is
pub reads_elsewhere : {A : Type 0} (calls : ℕ → VbCall → Type 0) (requests : ℕ → Ask → Type 0) (answers : A → Type 0) (job : Job A) (shelves : Shelves) (states : States) (w : ℕ)
    → ((call : VbCall) → calls w call → ⊥) → AlwaysJob AnyReply calls requests answers job → (after_reads job shelves states).0 w ≡ states w
reads_elsewhere calls requests answers (Ended a) shelves states w never always = refl
reads_elsewhere calls requests answers (Call v call next) shelves states w never always =
    let step : States × Option VbReply = states_step states v call in
    reads_elsewhere calls requests answers (next step.1) shelves step.0 w never (always.1 step.1 tt)
    ∙ step_elsewhere states v w call (states v) (λ e. never call (subst (λ n. calls n call) (sym e) always.0))
reads_elsewhere calls requests answers (Request v ask next) shelves states w never always =
    reads_elsewhere calls requests answers (next (shelves_step shelves v ask).1) shelves states w never (always.1 (shelves_step shelves v ask).1)

-- the answer that it comes to
pub reads_always : {A : Type 0} (calls : ℕ → VbCall → Type 0) (requests : ℕ → Ask → Type 0) (answers : A → Type 0) (job : Job A) (shelves : Shelves) (states : States)
    → AlwaysJob AnyReply calls requests answers job → answers (after_reads job shelves states).1
reads_always calls requests answers (Ended a) shelves states always = always
reads_always calls requests answers (Call v call next) shelves states always =
    let step : States × Option VbReply = states_step states v call in
    reads_always calls requests answers (next step.1) shelves step.0 (always.1 step.1 tt)
reads_always calls requests answers (Request v ask next) shelves states always =
    reads_always calls requests answers (next (shelves_step shelves v ask).1) shelves states (always.1 (shelves_step shelves v ask).1)
