-- what a read is answered
use Rattle.std.proofs.Common.{◌≡◌, List, ℕ, Bool, true, false, refl, sym, ◌∙◌}
use Rattle.std.specs.Prelude.{Option, Some, None, if◌then◌else◌}
use Rattle.vb_types.specs.declared.doc.Doc.{Doc}
use Rattle.vb_types.specs.declared.status.Status.TheVariants as status
use Rattle.vb_calls.specs.State.{Plain, is_active, is_left, doc_at, get_reply, pending_of, refusal_reply}
use Rattle.vbucket.specs.Laws.{IsToCommit, ReadsAs, ReadsExactly}
use Rattle.vbucket.proofs.Asks.{role_of, not_role}
use Rattle.vbucket.proofs.Reasons.{again_of, again_tested}

reads_as : (vb : Plain) (key : List ℕ) (b left : Bool) (o : Option Doc) → is_active vb.role ≡ b → is_left vb.waiting (pending_of vb key) ≡ left → doc_at vb key ≡ o
    → ReadsAs vb key (vb, if b then get_reply left o else refusal_reply status.NotMyVbucket)
reads_as vb key false left o e l d = record {
  foreign = (λ q. not_role vb.role e, λ n. refl);
  again = (λ q. cc, λ k. absurd (not_role vb.role e k.0));
  none = (λ q. cc, λ k. absurd (not_role vb.role e k.0));
  found = λ doc. (λ q. cc, λ k. absurd (not_role vb.role e k.0));
  stays = refl;
}
reads_as vb key true true o e l d =
    let waits : IsToCommit vb key = again_of vb key (pending_of vb key) refl l in
    record {
      foreign = (λ q. cc, λ n. absurd (n (role_of vb.role e)));
      again = (λ q. (role_of vb.role e, waits), λ k. refl);
      none = (λ q. cc, λ k. absurd (k.1 waits));
      found = λ doc. (λ q. cc, λ k. absurd (k.1 waits));
      stays = refl;
    }
reads_as vb key true false None e l d =
    let clear : IsToCommit vb key → ⊥ = λ k. let z : true ≡ false = sym (again_tested vb key k) ∙ l in cc in
    record {
      foreign = (λ q. cc, λ n. absurd (n (role_of vb.role e)));
      again = (λ q. cc, λ k. absurd (clear k.1));
      none = (λ q. (role_of vb.role e, clear, d), λ k. refl);
      found = λ doc. (λ q. cc, λ k. let f = k.2 in cc);
      stays = refl;
    }
reads_as vb key true false (Some there) e l d =
    let clear : IsToCommit vb key → ⊥ = λ k. let z : true ≡ false = sym (again_tested vb key k) ∙ l in cc in
    record {
      foreign = (λ q. cc, λ n. absurd (n (role_of vb.role e)));
      again = (λ q. cc, λ k. absurd (clear k.1));
      none = (λ q. cc, λ k. let f = k.2 in cc);
      found = λ doc. (λ q. let k : there ≡ doc = cc in (role_of vb.role e, clear, cc), λ k. let f = k.2 in cc);
      stays = refl;
    }

pub reads : ReadsExactly
reads vb key = reads_as vb key (is_active vb.role) (is_left vb.waiting (pending_of vb key)) (doc_at vb key) refl refl refl
