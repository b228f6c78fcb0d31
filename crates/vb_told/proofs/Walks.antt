-- what a job made that is one after another, and what holds of all that is told of a job
use Rattle.std.proofs.Common.{◌≡◌, ℕ, List, [], ◌∷◌, ◌++◌, Option, refl, sym, ap, ◌∙◌, subst, append-nil}
use Rattle.vb_calls.specs.declared.calls.VbCall.{VbCall}
use Rattle.vb_calls.specs.Programs.{Made, AnyReply}
use Rattle.vb_calls.specs.Jobs.{Job, Ended, Call, Request, bind_job, AlwaysJob}
use Rattle.vb_calls.specs.Shelves.{Ask}
use Rattle.vb_told.specs.Told.{ToldJob}

pub told_bind_job : {A B : Type 0} (job : Job A) (k : A → Job B) (made : List Made) (b : B) → ToldJob (bind_job job k) made b
    → (a : A) × (first : List Made) × (rest : List Made) × (made ≡ first ++ rest) × ToldJob job first a × ToldJob (k a) rest b
told_bind_job (Ended a) k made b told = (a, [], made, refl, refl, told)
told_bind_job (Call v call next) k [] b told = absurd told
told_bind_job (Call v call next) k (m ∷ made) b (at, is, told) =
    let (a, first, rest, e, before, after) = told_bind_job (next m.2) k made b told in (a, m ∷ first, rest, ap (λ ms. m ∷ ms) e, (at, is, before), after)
told_bind_job (Request v ask next) k made b (got, told) =
    let (a, first, rest, e, before, after) = told_bind_job (next got) k made b told in (a, first, rest, e, (got, before), after)

-- what comes of a job that is done
pub told_ended : {A : Type 0} (a : A) (rest : List Made) (b : A) → ToldJob (Ended a) rest b → (rest ≡ []) × (b ≡ a)
told_ended a [] b told = (refl, told)
told_ended a (m ∷ rest) b told = absurd told

-- one that comes to what another one came to
pub told_then : {A B : Type 0} (job : Job A) (k : A → B) (made : List Made) (b : B) → ToldJob (bind_job job (λ a. Ended (k a))) made b
    → (a : A) × ToldJob job made a × (b ≡ k a)
told_then job k made b told =
    let (a, first, rest, e, before, after) = told_bind_job job (λ a. Ended (k a)) made b told in
    let (none, comes) = told_ended (k a) rest b after in
    let same : first ≡ made = sym (append-nil first) ∙ ap (λ ms. first ++ ms) (sym none) ∙ sym e in
    (a, subst (λ ms. ToldJob job ms a) same before, comes)

-- what is so of all is so of what is told
pub told_always_job : {A : Type 0} (calls : ℕ → VbCall → Type 0) (requests : ℕ → Ask → Type 0) (answers : A → Type 0) (job : Job A) (made : List Made) (a : A)
    → AlwaysJob AnyReply calls requests answers job → ToldJob job made a → answers a
told_always_job calls requests answers (Ended x) [] a always told = subst answers (sym told) always
told_always_job calls requests answers (Ended x) (m ∷ made) a always told = absurd told
told_always_job calls requests answers (Call v call next) [] a always told = absurd told
told_always_job calls requests answers (Call v call next) (m ∷ made) a always (at, is, told) = told_always_job calls requests answers (next m.2) made a (always.1 m.2 tt) told
told_always_job calls requests answers (Request v ask next) made a always (got, told) = told_always_job calls requests answers (next got) made a (always.1 got) told

-- and what is so whatever is told, is so whatever the replies and the journals' answers
pub always_told_job : {A : Type 0} (calls : ℕ → VbCall → Type 0) (requests : ℕ → Ask → Type 0) (others answers : A → Type 0) (job : Job A)
    → AlwaysJob AnyReply calls requests others job → ((made : List Made) (a : A) → ToldJob job made a → answers a) → AlwaysJob AnyReply calls requests answers job
always_told_job calls requests others answers (Ended a) always all = all [] a refl
always_told_job calls requests others answers (Call v call next) always all =
    (always.0, λ reply any. always_told_job calls requests others answers (next reply) (always.1 reply any) (λ made a told. all ((v, call, reply) ∷ made) a (refl, refl, told)))
always_told_job calls requests others answers (Request v ask next) always all =
    (always.0, λ got. always_told_job calls requests others answers (next got) (always.1 got) (λ made a told. all made a (got, told)))
