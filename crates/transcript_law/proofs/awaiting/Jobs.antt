-- programs and jobs of a node: who waits waits on, or is told
use Rattle.std.specs.Prelude.{◌≡◌, ◌≢◌, ◌⊎◌, if◌then◌else◌}
use Rattle.transcript_law.proofs.Words.{ℕ, List, [], refl, ap, sym, ◌∙◌, subst, inl, inr, ⊎_elim, Option, Some, None, Plain, VbCall, VbReply, States, after, after_job, call_at, eq-eqb, ne_eqb, plain_step, Prog, Job, Ended}
use Rattle.durability.specs.Laws.{Waits}
use Rattle.std.proofs.lemmas.Bool.{cases_eq}
use Rattle.transcript_law.proofs.awaiting.{Calls.{calls_forget_none}, States.{Kept, job_leaves, ran_leaves, step_leaves}}
use Rattle.transcript_law.proofs.invariant.{AtRest.{Still, still_steps}, CallsKept.{AllAt, stepped}, TimelyCalls.{Makes, MakesJob}}
use Rattle.transcript_law.specs.Waits.{IsOutstandingAt, IsTold, LeavesOthers}
use Rattle.vb_calls.specs.Jobs as job
use Rattle.vb_calls.specs.Shelves.{Shelves, shelves_step}
use Rattle.vb_calls.specs.States.{states_step}
use Rattle.vb_calls.specs.declared.calls.Resolved.{Resolved}
use Rattle.vb_calls.specs.declared.calls.VbCall.TheVariants as call
use Rattle.vbucket.proofs.RowIs.{RowIs, Adopts, Flushes, Marks, Receives, Rolls, Seals, Settles, Streams, Tells, Trims, Turns, Writes, Yields, begins, row_is}
use Rattle.vbucket.specs.{DurableLaws.{IsQuiet}, Laws.{IsTimely}}
use Rattle.node_core.specs.Flushing.{resolved_in}

-- calls that leave what waits at any vBucket
abbrev pub IsIdle : VbCall → Type 0
IsIdle (call.Receive change) = ⊥
IsIdle (call.RollTo at image cas) = ⊥
IsIdle other = IsQuiet other

idle_quiet : (made : VbCall) → IsIdle made → IsQuiet made
idle_quiet (call.Receive change) i = absurd i
idle_quiet (call.RollTo at image cas) i = absurd i
idle_quiet other i = i

row_leaves : (vb : Plain) {made : VbCall} {after : Plain × VbReply} → RowIs vb made after → IsIdle made → IsQuiet made → LeavesOthers vb after
row_leaves vb (Tells c said) idle q w i = i
row_leaves vb (Streams c streams said is) idle q w i = i
row_leaves vb (Adopts log f) idle q w i = i
row_leaves vb (Marks start end f fits) idle q w i = i
row_leaves vb (Seals was) idle q w i = i
row_leaves vb Trims idle q w i = i
row_leaves vb (Flushes x e) idle q w i = i
row_leaves vb (Writes write clock free) idle q w i = absurd q
row_leaves vb (Receives c a f next is) idle q w i = absurd idle
row_leaves vb (Settles c start is) idle q w i = absurd ((begins vb is).1 q)
row_leaves vb (Rolls at image cas f) idle q w i = absurd idle
row_leaves vb (Turns c new loud idles) idle q w i = absurd (loud q)
row_leaves vb (Yields id stream on at) idle q w i = absurd q

pub idle_leaves : (vb : Plain) (made : VbCall) → IsIdle made → LeavesOthers vb (plain_step vb made)
idle_leaves vb made i = row_leaves vb (row_is vb made) i (idle_quiet made i)

pub ran_idle : {A : Type 0} (prog : Prog A) (states : States) → Makes IsIdle prog → Kept states (after prog states).0
ran_idle prog states makes = ran_leaves (λ vb. Unit {0}) IsIdle (λ vb made k u. tt) (λ id. tt) (λ vb made k u. idle_leaves vb made k) prog states makes (λ v vb e. tt)

pub job_idle : {A : Type 0} (one : Job A) (states : States) (shelves : Shelves) → MakesJob IsIdle one → Kept states (after_job one states shelves).0.0
job_idle one states shelves makes = job_leaves (λ vb. Unit {0}) IsIdle (λ vb made k u. tt) (λ id. tt) (λ vb made k u. idle_leaves vb made k) (λ v made. IsIdle made) (λ v ask. Unit {0}) (λ a. Unit {0}) (λ v made k. k) one states shelves makes (λ v vb e. tt)

-- ---- one call that settles

-- who waited waits on, or is told one of these outcomes
abbrev pub KeptOr : List Resolved → States → States → Type 0
KeptOr rs old new = (k : ℕ) → k ≢ 0 → IsOutstandingAt k old → IsOutstandingAt k new ⊎ IsTold k rs

pub step_tells : (states : States) (v : ℕ) (made : VbCall) → IsTimely made → AllAt Still states → KeptOr (resolved_in (states_step states v made).1) states (states_step states v made).0
step_tells states v made t all k some o = by (states v) refl
  where
    by : (p : Option Plain) → states v ≡ p → IsOutstandingAt k (call_at states v made p).0 ⊎ IsTold k (resolved_in (call_at states v made p).1)
    by None e = inl o
    by (Some vb) e = ⊎_elim
        (λ same.
        let z : Some o.vb ≡ Some vb = sym o.there ∙ ap states same ∙ e in let one : o.vb ≡ vb = cc in
        let some_one : o.w.waiter ≢ 0 = λ zero. some (sym o.number ∙ zero) in
        ⊎_elim
        (λ i. inl (record { v = v; vb = (plain_step vb made).0; there = ap (λ b. if b then Some (plain_step vb made).0 else states v) (eq-eqb v v refl); w = o.w; among = i; number = o.number }))
        (λ told. inr (subst (λ n. IsTold n (plain_step vb made).1.resolved) o.number told))
        (calls_forget_none vb made (all v vb e).0 t o.w some_one (subst (λ (x : Plain). Waits o.w x.waiting) one o.among)))
        (λ ne. inl (record { v = o.v; vb = o.vb; there = ap (λ b. if b then Some (plain_step vb made).0 else states o.v) (ne_eqb o.v v ne) ∙ o.there; w = o.w; among = o.among; number = o.number }))
        (cases_eq o.v v)

-- what is left of a job behind such a call: idle calls, and an answer that has these outcomes
abbrev pub Ends : {A : Type 0} → (A → List Resolved → Type 0) → List Resolved → Job A → Type 0
Ends R rs (Ended a) = R a rs
Ends R rs (job.Call v made next) = IsIdle made × ((reply : Option VbReply) → Ends R rs (next reply))
Ends R rs (job.Request v ask next) = (got : _) → Ends R rs (next got)

-- a job with at most one such call
abbrev pub SettlesOnce : {A : Type 0} → (A → List Resolved → Type 0) → Job A → Type 0
SettlesOnce R (Ended a) = R a []
SettlesOnce R (job.Call v made next) = ((IsIdle made × IsTimely made) × ((reply : Option VbReply) → SettlesOnce R (next reply))) ⊎ (IsTimely made × ((reply : Option VbReply) → Ends R (resolved_in reply) (next reply)))
SettlesOnce R (job.Request v ask next) = (got : _) → SettlesOnce R (next got)

module _ {A : Type 0} (R : A → List Resolved → Type 0) where
  ends : (rs : List Resolved) (one : Job A) (states : States) (shelves : Shelves) → Ends R rs one → Kept states (after_job one states shelves).0.0 × R (after_job one states shelves).1 rs
  ends rs (Ended a) states shelves e = (λ k o. o, e)
  ends rs (job.Call v made next) states shelves e =
      let step : States × Option VbReply = states_step states v made in let rest = ends rs (next step.1) step.0 shelves (e.1 step.1) in
      (λ k o. rest.0 k (step_leaves (λ vb. Unit {0}) IsIdle (λ vb made k u. tt) (λ id. tt) (λ vb made k u. idle_leaves vb made k) states v made e.0 (λ v vb e. tt) k o), rest.1)
  ends rs (job.Request v ask next) states shelves e = let step = shelves_step shelves v ask in ends rs (next step.1) states step.0 (e step.1)

  pub settles_once : (one : Job A) (states : States) (shelves : Shelves) → SettlesOnce R one → AllAt Still states → (rs : List Resolved) × KeptOr rs states (after_job one states shelves).0.0 × R (after_job one states shelves).1 rs
  settles_once (Ended a) states shelves s all = ([], λ k some o. inl o, s)
  settles_once (job.Call v made next) states shelves s all =
      let step : States × Option VbReply = states_step states v made in
      ⊎_elim
      (λ q.
      let rest = settles_once (next step.1) step.0 shelves (q.1 step.1) (stepped Still IsTimely still_steps (λ id. tt) states v made q.0.1 all) in
      (rest.0, λ k some o. rest.1 k some (step_leaves (λ vb. Unit {0}) IsIdle (λ vb made k u. tt) (λ id. tt) (λ vb made k u. idle_leaves vb made k) states v made q.0.0 (λ v vb e. tt) k o), rest.2))
      (λ q.
      let rest = ends (resolved_in step.1) (next step.1) step.0 shelves (q.1 step.1) in
      (resolved_in step.1, λ k some o. ⊎_elim (λ p. inl (rest.0 k p)) (λ t. inr t) (step_tells states v made q.0 all k some o), rest.1))
      s
  settles_once (job.Request v ask next) states shelves s all = let step = shelves_step shelves v ask in settles_once (next step.1) states step.0 (s step.1) all
