-- jobs that are the same
use Rattle.std.proofs.Common.{◌≡◌, ℕ, refl}
use Rattle.vb_calls.specs.declared.calls.VbCall.{VbCall}
use Rattle.vb_calls.specs.Jobs.{Job, Ended, Call, Request, bind_job, lift, AlwaysJob}
use Rattle.vb_calls.specs.Programs.{Prog, AnyReply, bind}
use Rattle.vb_calls.specs.Programs as prog
use Rattle.vb_calls.specs.Shelves.{Ask}

pub bind_job_done : {A : Type 0} (job : Job A) → bind_job job (λ a. Ended a) ≡ job
bind_job_done (Ended a) = refl
bind_job_done (Call v call next) = λ i. Call v call (λ reply. bind_job_done (next reply) i)
bind_job_done (Request v ask next) = λ i. Request v ask (λ got. bind_job_done (next got) i)

pub bind_job_assoc : {A B C : Type 0} (job : Job A) (k : A → Job B) (l : B → Job C) → bind_job (bind_job job k) l ≡ bind_job job (λ a. bind_job (k a) l)
bind_job_assoc (Ended a) k l = refl
bind_job_assoc (Call v call next) k l = λ i. Call v call (λ reply. bind_job_assoc (next reply) k l i)
bind_job_assoc (Request v ask next) k l = λ i. Request v ask (λ got. bind_job_assoc (next got) k l i)

-- two jobs go on in the same way, where they do so from each answer that the first may come to
pub bind_job_same : {A B : Type 0} (calls : ℕ → VbCall → Type 0) (requests : ℕ → Ask → Type 0) (job : Job A) (k l : A → Job B)
    → AlwaysJob AnyReply calls requests (λ a. k a ≡ l a) job → bind_job job k ≡ bind_job job l
bind_job_same calls requests (Ended a) k l same = same
bind_job_same calls requests (Call v call next) k l same = λ i. Call v call (λ reply. bind_job_same calls requests (next reply) k l (same.1 reply tt) i)
bind_job_same calls requests (Request v ask next) k l same = λ i. Request v ask (λ got. bind_job_same calls requests (next got) k l (same.1 got) i)

-- two programs that ask nothing of journals, one after the other
pub lift_bind : {A B : Type 0} (p : Prog A) (k : A → Prog B) → lift (bind p k) ≡ bind_job (lift p) (λ a. lift (k a))
lift_bind (prog.Done a) k = refl
lift_bind (prog.Call v call next) k = λ i. Call v call (λ reply. lift_bind (next reply) k i)
