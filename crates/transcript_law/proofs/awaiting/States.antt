-- what waits at the vBuckets of a node waits on through calls that settle no other durable write than their own
use Rattle.std.specs.Prelude.{◌≡◌, if◌then◌else◌}
use Rattle.transcript_law.proofs.Words.{ℕ, refl, ap, sym, ◌∙◌, subst, ⊎_elim, Option, Some, None, Plain, Status, VbCall, VbReply, Sound, Write, States, after, after_job, call_at, eq-eqb, ne_eqb, new_cas, plain_step, Prog, Call, Done, Job, Ended}
use Rattle.durability.specs.Laws.{Waits}
use Rattle.std.proofs.lemmas.Bool.{cases_eq}
use Rattle.transcript_law.proofs.awaiting.Calls.{leaves}
use Rattle.transcript_law.proofs.invariant.{AtRest.{Still, still_steps}, CallsKept.{AllAt, stepped}, TimelyCalls.{Makes}}
use Rattle.transcript_law.specs.Waits.{IsOutstandingAt, LeavesOthers}
use Rattle.vb_calls.specs.Writes.{store_outcome, store_refusal}
use Rattle.vb_calls.specs.Jobs as job
use Rattle.vb_calls.specs.Shelves.{Ask, Shelves, shelves_step}
use Rattle.vb_calls.specs.States.{states_step}
use Rattle.vb_calls.specs.declared.calls.VbCall.TheVariants as call
use Rattle.vbucket.proofs.RowIs.{RowIs, Adopts, Flushes, Marks, Receives, Rolls, Seals, Settles, Streams, Tells, Trims, Turns, Writes, Yields, begins, row_is}
use Rattle.transcript_law.proofs.answers.Awaited.{idle_none}
use Rattle.vbucket.specs.{DurableLaws.{IsQuiet}, Laws.{IsTimely}, Settles.{IsSettled}}

-- a write, or a call that settles nothing
abbrev pub IsMild : VbCall → Type 0
IsMild (call.Durable write clock level deadline waiter) = Unit {0}
IsMild (call.Store write clock) = Unit {0}
IsMild other = IsQuiet other

-- and a vBucket stays sound at it
abbrev pub IsGentle : VbCall → Type 0
IsGentle made = IsMild made × IsTimely made

quiet_leaves : (vb : Plain) {made : VbCall} {after : Plain × VbReply} → RowIs vb made after → IsQuiet made → Sound vb → LeavesOthers vb after
quiet_leaves vb (Tells c said) q s w i = i
quiet_leaves vb (Streams c streams said is) q s w i = i
quiet_leaves vb (Adopts log f) q s w i = i
quiet_leaves vb (Marks start end f fits) q s w i = i
quiet_leaves vb (Seals was) q s w i = i
quiet_leaves vb Trims q s w i = i
quiet_leaves vb (Flushes x e) q s w i = i
quiet_leaves vb (Writes write clock free) q s w i = absurd q
quiet_leaves vb (Receives c a f next is) q s w i = absurd (idle_none vb w s f i)
quiet_leaves vb (Settles c start is) q s w i = absurd ((begins vb is).1 q)
quiet_leaves vb (Rolls at image cas f) q s w i = absurd (idle_none vb w s f i)
quiet_leaves vb (Turns c new loud idle) q s w i = absurd (loud q)
quiet_leaves vb (Yields id stream on at) q s w i = absurd q

stored_leaves : (vb : Plain) (write : Write) (cas : ℕ) (why : Option Status) → LeavesOthers vb (store_outcome why vb write cas)
stored_leaves vb write cas (Some st) w i = i
stored_leaves vb write cas None w i = i

pub mild_leaves : (vb : Plain) (made : VbCall) → IsMild made → Sound vb → IsSettled vb → LeavesOthers vb (plain_step vb made)
mild_leaves vb (call.Durable write clock level deadline waiter) m s rest = leaves vb write clock (record { level = level; deadline = deadline; waiter = waiter }) s rest
mild_leaves vb (call.Store write clock) m s rest = stored_leaves vb write (new_cas clock vb.last_cas) (store_refusal vb write)
mild_leaves vb other m s rest = quiet_leaves vb (row_is vb other) m s

-- who waited waits on
abbrev pub Kept : States → States → Type 0
Kept old new = (k : ℕ) → IsOutstandingAt k old → IsOutstandingAt k new

-- ---- calls that leave what waits, where a vBucket has this

module _ (P : Plain → Type 0) (kind : VbCall → Type 0) (keeps : (vb : Plain) (made : VbCall) → kind made → P vb → P (plain_step vb made).0) (closes : (id : ℕ) → kind (call.CloseStream id)) (leave : (vb : Plain) (made : VbCall) → kind made → P vb → LeavesOthers vb (plain_step vb made)) where
  pub step_leaves : (states : States) (v : ℕ) (made : VbCall) → kind made → AllAt P states → Kept states (states_step states v made).0
  step_leaves states v made m all k o = by (states v) refl
    where
      by : (p : Option Plain) → states v ≡ p → IsOutstandingAt k (call_at states v made p).0
      by None e = o
      by (Some vb) e = ⊎_elim
          (λ same.
          let z : Some o.vb ≡ Some vb = sym o.there ∙ ap states same ∙ e in let one : o.vb ≡ vb = cc in
          record {
            v = v;
            vb = (plain_step vb made).0;
            there = ap (λ b. if b then Some (plain_step vb made).0 else states v) (eq-eqb v v refl);
            w = o.w;
            among = leave vb made m (all v vb e) o.w (subst (λ (x : Plain). Waits o.w x.waiting) one o.among);
            number = o.number;
          })
          (λ ne. record { v = o.v; vb = o.vb; there = ap (λ b. if b then Some (plain_step vb made).0 else states o.v) (ne_eqb o.v v ne) ∙ o.there; w = o.w; among = o.among; number = o.number })
          (cases_eq o.v v)

  pub ran_leaves : {A : Type 0} (prog : Prog A) (states : States) → Makes kind prog → AllAt P states → Kept states (after prog states).0
  ran_leaves (Done a) states makes all k o = o
  ran_leaves (Call v made next) states makes all k o =
      let step : States × Option VbReply = states_step states v made in
      ran_leaves (next step.1) step.0 (makes.1 step.1 tt) (stepped P kind keeps closes states v made makes.0 all) k (step_leaves states v made makes.0 all k o)

  pub job_leaves : {A : Type 0} (calls : ℕ → VbCall → Type 0) (requests : ℕ → Ask → Type 0) (answers : A → Type 0) (so_made : (v : ℕ) (made : VbCall) → calls v made → kind made) (one : Job A) (states : States) (shelves : Shelves)
      → job.AlwaysJob (λ made reply. Unit {0}) calls requests answers one → AllAt P states → Kept states (after_job one states shelves).0.0
  job_leaves calls requests answers so_made (Ended a) states shelves makes all k o = o
  job_leaves calls requests answers so_made (job.Call v made next) states shelves makes all k o =
      let step : States × Option VbReply = states_step states v made in
      job_leaves calls requests answers so_made (next step.1) step.0 shelves (makes.1 step.1 tt) (stepped P kind keeps closes states v made (so_made v made makes.0) all) k (step_leaves states v made (so_made v made makes.0) all k o)
  job_leaves calls requests answers so_made (job.Request v ask next) states shelves makes all k o =
      let step = shelves_step shelves v ask in job_leaves calls requests answers so_made (next step.1) states step.0 (makes.1 step.1) all k o

pub ran_kept : {A : Type 0} (prog : Prog A) (states : States) → Makes IsGentle prog → AllAt Still states → Kept states (after prog states).0
ran_kept prog states makes all = ran_leaves Still IsGentle (λ vb made k x. still_steps vb made k.1 x) (λ id. (tt, tt)) (λ vb made k x. mild_leaves vb made k.0 x.0 x.1) prog states makes all
