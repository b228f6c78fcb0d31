-- what jobs do, whatever the replies and the journals' answers
use Rattle.std.proofs.Common.{zero, suc, ◌≡◌, ℕ, List, [], ◌∷◌, ◌++◌, append-nil, append_assoc, refl, sym, ap, ◌∙◌, subst, Option, Some, None}
use Rattle.std.specs.Prelude.{◌==◌, if◌then◌else◌}
use Rattle.std.proofs.lemmas.Bool.{eqb-true, false_from_ne_true}
use Rattle.std.specs.List.{fold}
use Rattle.vb_calls.specs.declared.calls.VbCall.{VbCall}
use Rattle.vb_calls.specs.declared.calls.VbReply.{VbReply}
use Rattle.vb_calls.specs.Jobs.{Job, Ended, Call, Request, bind_job, next_job, go_on_job, repeated_job, lift, after_job, AlwaysJob}
use Rattle.vb_calls.specs.Programs.{Prog, Turn, More, Stop, AnyReply, AnyCall, AlwaysWith}
use Rattle.vb_calls.specs.Programs as prog
use Rattle.vb_calls.specs.Shelves.{Ask, Got, Shelf, Shelves, shelf_step, ask_at, shelves_step}
use Rattle.vb_calls.specs.States.{States, states_step}
use Rattle.vb_calls.proofs.Conduct.{step_elsewhere}

module _ (replies : VbCall → Option VbReply → Type 0) (calls : ℕ → VbCall → Type 0) (requests : ℕ → Ask → Type 0) where
  -- one job after the other
  pub always_bind_job : {A B : Type 0} (between : A → Type 0) (answers : B → Type 0) (job : Job A) (k : A → Job B)
      → AlwaysJob replies calls requests between job → ((a : A) → between a → AlwaysJob replies calls requests answers (k a)) → AlwaysJob replies calls requests answers (bind_job job k)
  always_bind_job between answers (Ended a) k first second = second a first
  always_bind_job between answers (Call v call next) k first second =
      (first.0, λ reply formed. always_bind_job between answers (next reply) k (first.1 reply formed) second)
  always_bind_job between answers (Request v ask next) k first second =
      (first.0, λ got. always_bind_job between answers (next got) k (first.1 got) second)

  -- what holds of an answer in any case holds of this one too
  pub always_so_job : {A : Type 0} (answers others : A → Type 0) (job : Job A) → ((a : A) → answers a → others a)
      → AlwaysJob replies calls requests answers job → AlwaysJob replies calls requests others job
  always_so_job answers others (Ended a) so always = so a always
  always_so_job answers others (Call v call next) so always = (always.0, λ reply formed. always_so_job answers others (next reply) so (always.1 reply formed))
  always_so_job answers others (Request v ask next) so always = (always.0, λ got. always_so_job answers others (next got) so (always.1 got))

  -- a program that asks nothing of journals
  pub always_lift : {A : Type 0} (answers : A → Type 0) (p : Prog A) → AlwaysWith replies calls answers p → AlwaysJob replies calls requests answers (lift p)
  always_lift answers (prog.Done a) always = always
  always_lift answers (prog.Call v call next) always = (always.0, λ reply formed. always_lift answers (next reply) (always.1 reply formed))

  -- a job for each of a list, with what holds behind each front part of it
  pub always_front_job : {X A : Type 0} (answers : List X → A → Type 0) (f : X → A → Job A)
      → ((front : List X) (x : X) (a : A) → answers front a → AlwaysJob replies calls requests (answers (front ++ x ∷ [])) (f x a))
      → (front xs : List X) (job : Job A) → AlwaysJob replies calls requests (answers front) job
      → AlwaysJob replies calls requests (answers (front ++ xs)) (fold (next_job f) job xs)
  always_front_job answers f keep front [] job before =
      subst (λ all. AlwaysJob replies calls requests (answers all) job) (sym (append-nil front)) before
  always_front_job answers f keep front (x ∷ xs) job before =
      subst (λ all. AlwaysJob replies calls requests (answers all) (fold (next_job f) (bind_job job (f x)) xs)) (append_assoc front (x ∷ []) xs)
      (always_front_job answers f keep (front ++ x ∷ []) xs (bind_job job (f x)) (always_bind_job (answers front) (answers (front ++ x ∷ [])) job (f x) before (keep front x)))

  -- a job for each of a list, with what holds behind each
  pub always_each_job : {X A : Type 0} (answers : A → Type 0) (f : X → A → Job A)
      → ((x : X) (a : A) → answers a → AlwaysJob replies calls requests answers (f x a))
      → (xs : List X) (job : Job A) → AlwaysJob replies calls requests answers job → AlwaysJob replies calls requests answers (fold (next_job f) job xs)
  always_each_job {X = X} answers f keep xs job before = always_front_job (λ (front : List X). answers) f (λ (front : List X). keep) [] xs job before

  -- at most so many turns, with what holds behind each of them
  pub always_repeated_job : {A R : Type 0} (turned : Turn A R → Type 0) (f : A → Job (Turn A R))
      → ((a : A) → turned (More a) → AlwaysJob replies calls requests turned (f a))
      → (n : ℕ) (a : A) → turned (More a) → AlwaysJob replies calls requests turned (repeated_job n f a)
  always_repeated_job turned f keep zero a before = before
  always_repeated_job {A = A} {R = R} turned f keep (suc n) a before =
      always_bind_job turned turned (repeated_job n f a) (go_on_job f) (always_repeated_job turned f keep n a before) goes
    where
      goes : (t : Turn A R) → turned t → AlwaysJob replies calls requests turned (go_on_job f t)
      goes (More b) so = keep b so
      goes (Stop r) so = so

-- what holds whatever the replies holds beside what holds of replies of one kind
pub always_both_job : {A : Type 0} (replies : VbCall → Option VbReply → Type 0) (calls others : ℕ → VbCall → Type 0) (requests rest : ℕ → Ask → Type 0) (answers more : A → Type 0) (job : Job A)
    → AlwaysJob replies calls requests answers job → AlwaysJob AnyReply others rest more job
    → AlwaysJob replies (λ v call. calls v call × others v call) (λ v ask. requests v ask × rest v ask) (λ a. answers a × more a) job
always_both_job replies calls others requests rest answers more (Ended a) always any = (always, any)
always_both_job replies calls others requests rest answers more (Call v call next) always any =
    ((always.0, any.0), λ reply formed. always_both_job replies calls others requests rest answers more (next reply) (always.1 reply formed) (any.1 reply tt))
always_both_job replies calls others requests rest answers more (Request v ask next) always any =
    ((always.0, any.0), λ got. always_both_job replies calls others requests rest answers more (next got) (always.1 got) (any.1 got))

-- a request to one journal leaves the others as they are
shelf_elsewhere : (shelves : Shelves) (v w : ℕ) (ask : Ask) (o : Option Shelf) → (w ≡ v → ⊥) → (ask_at shelves v ask o).0 w ≡ shelves w
shelf_elsewhere shelves v w ask None other = refl
shelf_elsewhere shelves v w ask (Some shelf) other = ap (λ b. if b then Some (shelf_step shelf ask).0 else shelves w) (false_from_ne_true (w == v) (λ e. other (eqb-true w v e)))

-- so does a job that never calls its vBucket and never asks it
pub after_job_elsewhere : {A : Type 0} (calls : ℕ → VbCall → Type 0) (requests : ℕ → Ask → Type 0) (answers : A → Type 0) (job : Job A) (states : States) (shelves : Shelves) (w : ℕ)
    → ((call : VbCall) → calls w call → ⊥) → ((ask : Ask) → requests w ask → ⊥) → AlwaysJob AnyReply calls requests answers job
    → ((after_job job states shelves).0.0 w ≡ states w) × ((after_job job states shelves).0.1 w ≡ shelves w)
after_job_elsewhere calls requests answers (Ended a) states shelves w never silent always = (refl, refl)
after_job_elsewhere calls requests answers (Call v call next) states shelves w never silent always =
    let step : States × Option VbReply = states_step states v call in
    let rest = after_job_elsewhere calls requests answers (next step.1) step.0 shelves w never silent (always.1 step.1 tt) in
    (rest.0 ∙ step_elsewhere states v w call (states v) (λ e. never call (subst (λ n. calls n call) (sym e) always.0)), rest.1)
after_job_elsewhere calls requests answers (Request v ask next) states shelves w never silent always =
    let step : Shelves × Got ask = shelves_step shelves v ask in
    let rest = after_job_elsewhere calls requests answers (next step.1) states step.0 w never silent (always.1 step.1) in
    (rest.0, rest.1 ∙ shelf_elsewhere shelves v w ask (shelves v) (λ e. silent ask (subst (λ n. requests n ask) (sym e) always.0)))

-- the answer that a job comes to
pub after_job_always : {A : Type 0} (calls : ℕ → VbCall → Type 0) (requests : ℕ → Ask → Type 0) (answers : A → Type 0) (job : Job A) (states : States) (shelves : Shelves)
    → AlwaysJob AnyReply calls requests answers job → answers (after_job job states shelves).1
after_job_always calls requests answers (Ended a) states shelves always = always
after_job_always calls requests answers (Call v call next) states shelves always =
    let step : States × Option VbReply = states_step states v call in
    after_job_always calls requests answers (next step.1) step.0 shelves (always.1 step.1 tt)
after_job_always calls requests answers (Request v ask next) states shelves always =
    let step : Shelves × Got ask = shelves_step shelves v ask in
    after_job_always calls requests answers (next step.1) states step.0 (always.1 step.1)
