-- what jobs that read alone come to, by what they get
use Rattle.std.proofs.Common.{ℕ, Option}
use Rattle.vb_calls.specs.declared.calls.VbCall.{VbCall}
use Rattle.vb_calls.specs.declared.calls.VbReply.{VbReply}
use Rattle.vb_calls.specs.Jobs.{Job, Ended, Call, Request, bind_job, AlwaysJob, IsRead}
use Rattle.vb_calls.specs.Shelves.{Ask, Got}
use Rattle.dcp_producer.specs.Pairs.{AlwaysGot, AnyGot}

module _ (replies : VbCall → Option VbReply → Type 0) (gots : (ask : Ask) → Got ask → Type 0) (calls : ℕ → VbCall → Type 0) where
  pub got_bind : {A B : Type 0} (between : A → Type 0) (answers : B → Type 0) (job : Job A) (k : A → Job B)
      → AlwaysGot replies gots calls between job → ((a : A) → between a → AlwaysGot replies gots calls answers (k a)) → AlwaysGot replies gots calls answers (bind_job job k)
  got_bind between answers (Ended a) k first second = second a first
  got_bind between answers (Call v call next) k first second = (first.0, λ reply formed. got_bind between answers (next reply) k (first.1 reply formed) second)
  got_bind between answers (Request v ask next) k first second = (first.0, λ got formed. got_bind between answers (next got) k (first.1 got formed) second)

  pub got_so : {A : Type 0} (answers others : A → Type 0) (job : Job A) → ((a : A) → answers a → others a) → AlwaysGot replies gots calls answers job → AlwaysGot replies gots calls others job
  got_so answers others (Ended a) so always = so a always
  got_so answers others (Call v call next) so always = (always.0, λ reply formed. got_so answers others (next reply) so (always.1 reply formed))
  got_so answers others (Request v ask next) so always = (always.0, λ got formed. got_so answers others (next got) so (always.1 got formed))

-- whatever journals answer
pub got_any : {A : Type 0} (replies : VbCall → Option VbReply → Type 0) (calls : ℕ → VbCall → Type 0) (answers : A → Type 0) (job : Job A)
    → AlwaysGot replies AnyGot calls answers job → AlwaysJob replies calls IsRead answers job
got_any replies calls answers (Ended a) always = always
got_any replies calls answers (Call v call next) always = (always.0, λ reply formed. got_any replies calls answers (next reply) (always.1 reply formed))
got_any replies calls answers (Request v ask next) always = (always.0, λ got. got_any replies calls answers (next got) (always.1 got tt))
