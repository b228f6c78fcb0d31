-- what the jobs of threads give, pair by pair
use Rattle.std.proofs.Common.{◌≡◌, ℕ, zero, suc, ◌+◌, ◌<◌, List, [], ◌∷◌, length, get_or, sym, ◌∙◌, subst, arith}
use Rattle.std.specs.Prelude.{Result, Ok, Err, IfOk, Vec, vec_len}
use Rattle.std.specs.Global.{Global}
use Rattle.std.specs.Fork.{GivesJob, GivesJobs}
use denote.Param.Members.{Shared}
use Rattle.storm.specs.declared.clients.Client.{Client}
use Rattle.storm.specs.Clients.{HaveFour}
use Rattle.storm.specs.Rows.{AllTwo}
use Rattle.storm.proofs.Lists.{two_by}

pub four_at : (clients : List Client) (i : ℕ) (x : Client) → HaveFour clients → i < length clients → x ≡ get_or clients i x → length x.slots.items ≡ 4
four_at [] i x h l e = absurd (omega arith)
four_at (c ∷ cs) zero x h l e = subst (λ (t : Client). length t.slots.items ≡ 4) (sym e) h.0
four_at (c ∷ cs) (suc i) x h l e = four_at cs i x h.1 (omega arith) e

module _ {F J R E : Type 0} (g : Shared F (J × Unit {0}) R) (f : F) (P : ℕ → J → R → Type 0) (xs : List J) (post : (n i : ℕ) (r : R) (job : GivesJob g f xs i r) → P n job.job r) where
  pub jobs_two : (n : ℕ) (result : Result (Vec R Global) E) → IfOk result (λ v. vec_len v ≡ n) → n ≡ length xs → IfOk result (λ v. GivesJobs g f xs v.items) → IfOk result (λ v. AllTwo P 0 xs v.items)
  jobs_two n (Err e) many same each = tt
  jobs_two n (Ok v) many same each = two_by P 0 xs v.items (let a = many in omega arith) (λ i x y l p q.
      let job = (each i y l).1 in
      let is : job.job ≡ x = sym (job.job_is x) ∙ sym p in
      subst (λ (r : R). P (0 + i) x r) (sym q) (subst (λ (j : J). P (0 + i) j (get_or v.items i y)) is (post (0 + i) i (get_or v.items i y) job)))
