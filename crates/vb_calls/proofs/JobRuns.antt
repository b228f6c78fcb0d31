-- laws of jobs
use Rattle.std.proofs.Common.{zero, suc, ◌-◌, arith, add-one, zero-add, suc-add, ◌+◌, ◌<◌, length, take, drop, get_or, ◌≡◌, ℕ, List, [], ◌∷◌, Option, refl, sym, subst, ◌⊎◌, inl, inr}
use Rattle.std.specs.List.{fold}
use Rattle.std.proofs.lemmas.Grind.{fold-append}
use Rattle.std.proofs.lemmas.List.{take-append-drop}
use Rattle.std.proofs.lemmas.List.Sums.{fold_more}
use Rattle.vb_calls.specs.declared.calls.VbCall.{VbCall}
use Rattle.vb_calls.specs.declared.calls.VbReply.{VbReply}
use Rattle.vb_calls.specs.Jobs.{Job, Ended, Call, Request, bind_job, next_job, each_job, go_on_job, repeated_job, lift, RanJob, BeganJob, RanRequests, BeganRequests}
use Rattle.vb_calls.specs.Programs.{Prog, Turn, More, Stop, Ran, Began}
use Rattle.vb_calls.specs.Programs as prog
use Rattle.vb_calls.specs.Shelves.{Ask, Read, Got, Reading}

module _ {W J : Type 0} (step : W → ℕ → VbCall → Option VbReply → W → Type 0) (asks : J → ℕ → (ask : Ask) → Got ask → J → Type 0) where
  -- one after the other
  pub ran_bind_job : {A B : Type 0} (job : Job A) (k : A → Job B) (old : W) (kept : J) (a : A) (mid : W) (held : J) (b : B) (new : W) (left : J) → RanJob step asks job old kept a mid held → RanJob step asks (k a) mid held b new left → RanJob step asks (bind_job job k) old kept b new left
  ran_bind_job (Ended x) k old kept a mid held b new left first second =
      subst (λ j. RanJob step asks (k x) old j b new left) first.2
      (subst (λ w. RanJob step asks (k x) w held b new left) first.1 (subst (λ y. RanJob step asks (k y) mid held b new left) first.0 second))
  ran_bind_job (Call v call next) k old kept a mid held b new left first second =
      (first.0, first.1, first.2, ran_bind_job (next first.0) k first.1 kept a mid held b new left first.3 second)
  ran_bind_job (Request v ask next) k old kept a mid held b new left first second =
      (first.0, first.1, first.2, ran_bind_job (next first.0) k old first.1 a mid held b new left first.3 second)

  -- what ran both ran the first, and behind it the second
  pub bind_ran_job : {A B : Type 0} (job : Job A) (k : A → Job B) (old : W) (kept : J) (b : B) (new : W) (left : J) → RanJob step asks (bind_job job k) old kept b new left
      → (a : A) × (mid : W) × (held : J) × RanJob step asks job old kept a mid held × RanJob step asks (k a) mid held b new left
  bind_ran_job (Ended x) k old kept b new left ran = (x, old, kept, (refl, refl, refl), ran)
  bind_ran_job (Call v call next) k old kept b new left ran =
      let (a, mid, held, first, second) = bind_ran_job (next ran.0) k ran.1 kept b new left ran.3 in (a, mid, held, (ran.0, ran.1, ran.2, first), second)
  bind_ran_job (Request v ask next) k old kept b new left ran =
      let (a, mid, held, first, second) = bind_ran_job (next ran.0) k old ran.1 b new left ran.3 in (a, mid, held, (ran.0, ran.1, ran.2, first), second)

  -- one call, and the rest
  pub ran_call_job : {A : Type 0} (v : ℕ) (call : VbCall) (next : Option VbReply → Job A) (old : W) (kept : J) (reply : Option VbReply) (mid : W) (answer : A) (new : W) (left : J) → step old v call reply mid → RanJob step asks (next reply) mid kept answer new left → RanJob step asks (Call v call next) old kept answer new left
  ran_call_job v call next old kept reply mid answer new left first rest = (reply, mid, first, rest)

  -- one reading, and the rest
  pub ran_read : {A : Type 0} (v : ℕ) (next : Reading → Job A) (old : W) (kept : J) (reading : Reading) (held : J) (answer : A) (new : W) (left : J) → asks kept v Read reading held → RanJob step asks (next reading) old held answer new left → RanJob step asks (Request v Read next) old kept answer new left
  ran_read v next old kept reading held answer new left first rest = (reading, held, first, rest)

  -- what has made no call and no request
  pub began_none_job : {A : Type 0} (job : Job A) (old : W) (kept : J) (new : W) (left : J) → new ≡ old → left ≡ kept → BeganJob step asks job old kept new left
  began_none_job (Ended x) old kept new left same alike = (same, alike)
  began_none_job (Call v call next) old kept new left same alike = inl (same, alike)
  began_none_job (Request v ask next) old kept new left same alike = inl (same, inl alike)

  -- what has begun the first has begun both
  pub began_bind_job : {A B : Type 0} (job : Job A) (k : A → Job B) (old : W) (kept : J) (new : W) (left : J) → BeganJob step asks job old kept new left → BeganJob step asks (bind_job job k) old kept new left
  began_bind_job (Ended x) k old kept new left begun = began_none_job (k x) old kept new left begun.0 begun.1
  began_bind_job (Call v call next) k old kept new left (inl same) = inl same
  began_bind_job (Call v call next) k old kept new left (inr more) =
      inr (more.0, more.1, more.2, began_bind_job (next more.0) k more.1 kept new left more.3)
  began_bind_job (Request v ask next) k old kept new left (inl same) = inl same
  began_bind_job (Request v ask next) k old kept new left (inr more) =
      inr (more.0, more.1, more.2, began_bind_job (next more.0) k old more.1 new left more.3)

  -- what has done the first and begun the second has begun both
  pub ran_began_job : {A B : Type 0} (job : Job A) (k : A → Job B) (old : W) (kept : J) (a : A) (mid : W) (held : J) (new : W) (left : J) → RanJob step asks job old kept a mid held → BeganJob step asks (k a) mid held new left → BeganJob step asks (bind_job job k) old kept new left
  ran_began_job (Ended x) k old kept a mid held new left first second =
      subst (λ j. BeganJob step asks (k x) old j new left) first.2
      (subst (λ w. BeganJob step asks (k x) w held new left) first.1 (subst (λ y. BeganJob step asks (k y) mid held new left) first.0 second))
  ran_began_job (Call v call next) k old kept a mid held new left first second =
      inr (first.0, first.1, first.2, ran_began_job (next first.0) k first.1 kept a mid held new left first.3 second)
  ran_began_job (Request v ask next) k old kept a mid held new left first second =
      inr (first.0, first.1, first.2, ran_began_job (next first.0) k old first.1 a mid held new left first.3 second)

  -- what has begun both has begun the first, or has done it and begun the second
  pub bind_began_job : {A B : Type 0} (job : Job A) (k : A → Job B) (old : W) (kept : J) (new : W) (left : J) → BeganJob step asks (bind_job job k) old kept new left
      → BeganJob step asks job old kept new left ⊎ ((a : A) × (mid : W) × (held : J) × RanJob step asks job old kept a mid held × BeganJob step asks (k a) mid held new left)
  bind_began_job (Ended x) k old kept new left begun = inr (x, old, kept, (refl, refl, refl), begun)
  bind_began_job (Call v call next) k old kept new left (inl same) = inl (inl same)
  bind_began_job (Call v call next) k old kept new left (inr more) = elim (bind_began_job (next more.0) k more.1 kept new left more.3) [
    | inl first ↦ inl (inr (more.0, more.1, more.2, first))
    | inr both ↦ inr (both.0, both.1, both.2, (more.0, more.1, more.2, both.3), both.4)
  ]
  bind_began_job (Request v ask next) k old kept new left (inl short) = inl (inl short)
  bind_began_job (Request v ask next) k old kept new left (inr more) = elim (bind_began_job (next more.0) k old more.1 new left more.3) [
    | inl first ↦ inl (inr (more.0, more.1, more.2, first))
    | inr both ↦ inr (both.0, both.1, both.2, (more.0, more.1, more.2, both.3), both.4)
  ]

  -- what was run to its end has begun
  pub began_all_job : {A : Type 0} (job : Job A) (old : W) (kept : J) (a : A) (new : W) (left : J) → RanJob step asks job old kept a new left → BeganJob step asks job old kept new left
  began_all_job (Ended x) old kept a new left ran = (ran.1, ran.2)
  began_all_job (Call v call next) old kept a new left ran = inr (ran.0, ran.1, ran.2, began_all_job (next ran.0) ran.1 kept a new left ran.3)
  began_all_job (Request v ask next) old kept a new left ran = inr (ran.0, ran.1, ran.2, began_all_job (next ran.0) old ran.1 a new left ran.3)

  -- one more of a list
  pub each_job_next : {X A : Type 0} (f : X → A → Job A) (xs : List X) (i : ℕ) (x : X) (a : A) (old : W) (kept : J) (b : A) (mid : W) (held : J) (c : A) (new : W) (left : J) → i < length xs → x ≡ get_or xs i x → RanJob step asks (each_job f (take i xs) a) old kept b mid held → RanJob step asks (f x b) mid held c new left → RanJob step asks (each_job f (take (i + 1) xs) a) old kept c new left
  each_job_next f xs i x a old kept b mid held c new left below is before more =
      let joined = ran_bind_job (each_job f (take i xs) a) (f x) old kept b mid held c new left before more in
      subst (λ p. RanJob step asks p old kept c new left) (sym (fold_more (next_job f) (Ended a) xs i x below))
      (subst (λ y. RanJob step asks (bind_job (each_job f (take i xs) a) (f y)) old kept c new left) is joined)

  began_rest : {X A : Type 0} (f : X → A → Job A) (xs : List X) (job : Job A) (old : W) (kept : J) (new : W) (left : J) → BeganJob step asks job old kept new left → BeganJob step asks (fold (next_job f) job xs) old kept new left
  began_rest f [] job old kept new left begun = begun
  began_rest f (x ∷ xs) job old kept new left begun = began_rest f xs (bind_job job (f x)) old kept new left (began_bind_job job (f x) old kept new left begun)

  -- one of a list, begun
  pub each_job_began : {X A : Type 0} (f : X → A → Job A) (xs : List X) (i : ℕ) (x : X) (a : A) (old : W) (kept : J) (b : A) (mid : W) (held : J) (new : W) (left : J) → i < length xs → x ≡ get_or xs i x → RanJob step asks (each_job f (take i xs) a) old kept b mid held → BeganJob step asks (f x b) mid held new left → BeganJob step asks (each_job f xs a) old kept new left
  each_job_began f xs i x a old kept b mid held new left below is before begun =
      let joined = ran_began_job (each_job f (take i xs) a) (f x) old kept b mid held new left before begun in
      let front = subst (λ p. BeganJob step asks p old kept new left) (sym (fold_more (next_job f) (Ended a) xs i x below))
      (subst (λ y. BeganJob step asks (bind_job (each_job f (take i xs) a) (f y)) old kept new left) is joined) in
      let whole = began_rest f (drop (i + 1) xs) (each_job f (take (i + 1) xs) a) old kept new left front in
      subst (λ ys. BeganJob step asks (each_job f ys a) old kept new left) (take-append-drop (i + 1) xs)
      (subst (λ p. BeganJob step asks p old kept new left) (sym (fold-append (next_job f) (Ended a) (take (i + 1) xs) (drop (i + 1) xs))) whole)

  -- one more turn
  pub repeated_next_job : {A R : Type 0} (f : A → Job (Turn A R)) (i : ℕ) (a : A) (old : W) (kept : J) (b : A) (mid : W) (held : J) (c : Turn A R) (new : W) (left : J) → RanJob step asks (repeated_job i f a) old kept (More b) mid held → RanJob step asks (f b) mid held c new left → RanJob step asks (repeated_job (i + 1) f a) old kept c new left
  repeated_next_job f i a old kept b mid held c new left before turn =
      rw add-one (ran_bind_job (repeated_job i f a) (go_on_job f) old kept (More b) mid held c new left before turn)

  -- turns after one that stopped
  repeated_more : {A R : Type 0} (f : A → Job (Turn A R)) (j i : ℕ) (a : A) (old : W) (kept : J) (r : R) (new : W) (left : J) → RanJob step asks (repeated_job i f a) old kept (Stop r) new left → RanJob step asks (repeated_job (j + i) f a) old kept (Stop r) new left
  repeated_more f zero i a old kept r new left before = rw zero-add before
  repeated_more f (suc j) i a old kept r new left before =
      rw suc-add (ran_bind_job (repeated_job (j + i) f a) (go_on_job f) old kept (Stop r) new left (Stop r) new left (repeated_more f j i a old kept r new left before) (refl, refl, refl))

  -- a turn that stops
  pub repeated_stop_job : {A R : Type 0} (f : A → Job (Turn A R)) (n i : ℕ) (a : A) (old : W) (kept : J) (b : A) (mid : W) (held : J) (r : R) (new : W) (left : J) → i < n → RanJob step asks (repeated_job i f a) old kept (More b) mid held → RanJob step asks (f b) mid held (Stop r) new left → RanJob step asks (repeated_job n f a) old kept (Stop r) new left
  repeated_stop_job f n i a old kept b mid held r new left below before turn =
      let e : (n - (i + 1)) + (i + 1) ≡ n = omega arith in
      subst (λ m. RanJob step asks (repeated_job m f a) old kept (Stop r) new left) e
      (repeated_more f (n - (i + 1)) (i + 1) a old kept r new left (repeated_next_job f i a old kept b mid held (Stop r) new left before turn))

  repeated_began_more : {A R : Type 0} (f : A → Job (Turn A R)) (j i : ℕ) (a : A) (old : W) (kept : J) (new : W) (left : J) → BeganJob step asks (repeated_job i f a) old kept new left → BeganJob step asks (repeated_job (j + i) f a) old kept new left
  repeated_began_more f zero i a old kept new left begun = rw zero-add begun
  repeated_began_more f (suc j) i a old kept new left begun =
      rw suc-add (began_bind_job (repeated_job (j + i) f a) (go_on_job f) old kept new left (repeated_began_more f j i a old kept new left begun))

  -- a turn that began
  pub repeated_began_job : {A R : Type 0} (f : A → Job (Turn A R)) (n i : ℕ) (a : A) (old : W) (kept : J) (b : A) (mid : W) (held : J) (new : W) (left : J) → i < n → RanJob step asks (repeated_job i f a) old kept (More b) mid held → BeganJob step asks (f b) mid held new left → BeganJob step asks (repeated_job n f a) old kept new left
  repeated_began_job f n i a old kept b mid held new left below before begun =
      let e : (n - (i + 1)) + suc i ≡ n = omega arith in
      subst (λ m. BeganJob step asks (repeated_job m f a) old kept new left) e
      (repeated_began_more f (n - (i + 1)) (suc i) a old kept new left (ran_began_job (repeated_job i f a) (go_on_job f) old kept (More b) mid held new left before begun))

  -- a turn that stops, and what comes after the loop
  pub repeated_ended_job : {A R B : Type 0} (f : A → Job (Turn A R)) (k : Turn A R → Job B) (n i : ℕ) (a : A) (old : W) (kept : J) (b : A) (mid : W) (held : J) (r : R) (new : W) (left : J) (c : B) (end : W) (last : J) → i < n → RanJob step asks (repeated_job i f a) old kept (More b) mid held → RanJob step asks (f b) mid held (Stop r) new left → RanJob step asks (k (Stop r)) new left c end last → RanJob step asks (bind_job (repeated_job n f a) k) old kept c end last
  repeated_ended_job f k n i a old kept b mid held r new left c end last below before turn after =
      ran_bind_job (repeated_job n f a) k old kept (Stop r) new left c end last (repeated_stop_job f n i a old kept b mid held r new left below before turn) after

  -- a program that ran, while journals stayed as they were
  pub ran_lift : {A : Type 0} (p : Prog A) (old : W) (a : A) (new : W) (kept : J) → Ran step p old a new → RanJob step asks (lift p) old kept a new kept
  ran_lift (prog.Done x) old a new kept ran = (ran.0, ran.1, refl)
  ran_lift (prog.Call v call next) old a new kept ran = (ran.0, ran.1, ran.2, ran_lift (next ran.0) ran.1 a new kept ran.3)

  -- one that began
  pub began_lift : {A : Type 0} (p : Prog A) (old new : W) (kept : J) → Began step p old new → BeganJob step asks (lift p) old kept new kept
  began_lift (prog.Done x) old new kept begun = (begun, refl)
  began_lift (prog.Call v call next) old new kept (inl same) = inl (same, refl)
  began_lift (prog.Call v call next) old new kept (inr more) = inr (more.0, more.1, more.2, began_lift (next more.0) more.1 new kept more.3)

  -- a program that ran, and then a job
  pub ran_lift_bind : {A B : Type 0} (p : Prog A) (k : A → Job B) (old : W) (a : A) (mid : W) (kept : J) (b : B) (new : W) (left : J) → Ran step p old a mid → RanJob step asks (k a) mid kept b new left → RanJob step asks (bind_job (lift p) k) old kept b new left
  ran_lift_bind p k old a mid kept b new left first second = ran_bind_job (lift p) k old kept a mid kept b new left (ran_lift p old a mid kept first) second

  -- one that ran, and then a job that began
  pub ran_lift_began : {A B : Type 0} (p : Prog A) (k : A → Job B) (old : W) (a : A) (mid : W) (kept : J) (new : W) (left : J) → Ran step p old a mid → BeganJob step asks (k a) mid kept new left → BeganJob step asks (bind_job (lift p) k) old kept new left
  ran_lift_began p k old a mid kept new left first second = ran_began_job (lift p) k old kept a mid kept new left (ran_lift p old a mid kept first) second

  -- a job that asks journals alone ran, while vBuckets stayed as they were
  pub ran_requests : {A : Type 0} (job : Job A) (old : W) (kept : J) (a : A) (left : J) → RanRequests asks job kept a left → RanJob step asks job old kept a old left
  ran_requests (Ended x) old kept a left ran = (ran.0, refl, ran.2)
  ran_requests (Call v call next) old kept a left ran = absurd ran.2
  ran_requests (Request v ask next) old kept a left ran = (ran.0, ran.1, ran.2, ran_requests (next ran.0) old ran.1 a left ran.3)

  -- one that began
  pub began_requests : {A : Type 0} (job : Job A) (old : W) (kept left : J) → BeganRequests asks job kept left → BeganJob step asks job old kept old left
  began_requests (Ended x) old kept left begun = (refl, begun.1)
  began_requests (Call v call next) old kept left (inl same) = inl (refl, same.1)
  began_requests (Call v call next) old kept left (inr more) = absurd more.2
  began_requests (Request v ask next) old kept left (inl short) = inl (refl, short.1)
  began_requests (Request v ask next) old kept left (inr more) = inr (more.0, more.1, more.2, began_requests (next more.0) old more.1 left more.3)

  -- one that began, of a job that goes on
  pub began_lift_bind : {A B : Type 0} (p : Prog A) (k : A → Job B) (old new : W) (kept : J) → Began step p old new → BeganJob step asks (bind_job (lift p) k) old kept new kept
  began_lift_bind p k old new kept begun = began_bind_job (lift p) k old kept new kept (began_lift p old new kept begun)

pub ruleset jobs = (ran_bind_job, ran_began_job, began_bind_job, began_none_job, each_job_next, each_job_began, repeated_next_job, repeated_stop_job, repeated_began_job, repeated_ended_job, ran_lift, began_lift, ran_lift_bind, ran_lift_began, began_lift_bind, ran_requests, began_requests)
