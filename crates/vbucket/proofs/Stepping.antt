-- from a row's lemma to a call's
use Rattle.std.proofs.Common.{◌≡◌, sym, subst, Result, Ok, Err}
use Rattle.std.specs.Prelude.{IfOk}
use Rattle.vb_calls.specs.declared.calls.VbCall.{VbCall}
use Rattle.vb_calls.specs.declared.calls.VbReply.{VbReply}
use Rattle.vb_calls.specs.Plain.{Plain, plain_step}
use Rattle.vbucket.specs.Kept.{Kept}
use Rattle.vbucket.specs.Stands.{IsKept, StandsFor}
use Rattle.vbucket.proofs.Standing.{Stands}

-- what a row's lemma says, of the call that the row is for
pub told : (k : Kept) (call row : VbCall) → call ≡ row → (k' : Kept) (reply : VbReply) → ((s : Plain) → IsKept k s → Stands k' reply (plain_step s row))
    → (s : Plain) → StandsFor k s → StandsFor k' (plain_step s call).0 × (reply ≡ (plain_step s call).1)
unfolding StandsFor
told k call row is k' reply stands = λ s kept. subst (λ c. Stands k' reply (plain_step s c)) (sym is) (stands s kept)

pub both : {A E : Type 0} (r : Result A E) (P Q R : A → Type 0) → IfOk r P → IfOk r Q → ((x : A) → P x → Q x → R x) → IfOk r R
both (Ok x) P Q R p q f = f x p q
both (Err e) P Q R p q f = tt
