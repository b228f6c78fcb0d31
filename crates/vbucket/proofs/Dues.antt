-- what a follower may acknowledge, found by two searches among the seqnos of the prepares that wait
use Rattle.std.proofs.Common.{◌≡◌, inl, inr, ⊎_elim, ℕ, ◌-◌, ◌<◌, ◌≤◌, List, [], ◌∷◌, map, refl, sym, ap, ◌∙◌, arith}
use Rattle.std.specs.Prelude.{min, Option, Some, None}
use Rattle.std.specs.FinMap as finite
use Rattle.std.specs.Option.{unwrap_or}
use Rattle.std.proofs.lemmas.Bool.{cases_lt}
use Rattle.durability.specs.Laws.{IsPending}
use Rattle.durability.specs.Pending.{due}
use Rattle.durability.proofs.Dues.{due_complete, due_greatest, due_of, due_thirds}
use Rattle.hash_table.specs.Seqnos.{IsFirstAbove, IsLastUpTo, ThirdWaitsAt, WaitsAt}
use Rattle.vb_types.specs.declared.change.Level.TheVariants.{PersistMajority}
use Rattle.vb_types.specs.declared.change.Pend.{Pend}
use Rattle.vb_types.specs.Keys.{key_cmp}
use Rattle.vbucket.proofs.Backing.{Entry, IsEntry, entry_is_found, found_entry}

pend_in : (es : List Entry) (p : Pend) → IsPending p (map (λ e. e.1) es) → (e : Entry) × IsEntry e es × (p ≡ e.1)
pend_in [] p i = absurd i
pend_in (x ∷ es) p i = ⊎_elim (λ s. (x, inl refl, s)) (λ j. let k = pend_in es p j in (k.0, inr k.1, k.2)) i

pending_of_entry : (es : List Entry) (e : Entry) → IsEntry e es → IsPending e.1 (map (λ x. x.1) es)
pending_of_entry [] e i = absurd i
pending_of_entry (x ∷ es) e i = ⊎_elim (λ s. inl (ap (λ (y : Entry). y.1) s)) (λ j. inr (pending_of_entry es e j)) i

-- the greatest seqno that may be acknowledged, where this is the first level 3 prepare that is not saved
abbrev pub limit_under : Option ℕ → ℕ → ℕ
limit_under None complete = complete
limit_under (Some bar) complete = min complete (bar - 1)

module _ (pending : finite.FinMap key_cmp Pend) where
  abbrev pends : List Pend
  pends = map (λ e. e.1) (finite.entries pending)

  pub pend_at : (key : List ℕ) (p : Pend) → finite.get pending key ≡ Some p → IsPending p pends
  pend_at key p e = pending_of_entry (finite.entries pending) (key, p) (found_entry (finite.entries pending) key p (sym (finite.get-entries pending key) ∙ e))

  pub at_key : (p : Pend) → IsPending p pends → (key : List ℕ) × (finite.get pending key ≡ Some p)
  at_key p i =
      let k = pend_in (finite.entries pending) p i in
      (k.0.0, finite.get-entries pending k.0.0 ∙ entry_is_found (finite.entries pending) k.0 (finite.entries_sorted pending) k.1 ∙ ap Some (sym k.2))

  module _ (complete saved : ℕ) where
    abbrev number : ℕ
    number = due pends complete saved

    -- the limit is not above what there is, and not below the number; no level 3 prepare up to it is unsaved
    record IsLimit (limit : ℕ) : Type 0 where
      within : limit ≤ complete
      reaches : due pends complete saved ≤ limit
      thirds : (key : List ℕ) (p : Pend) → finite.get pending key ≡ Some p → p.level ≡ PersistMajority → p.seq ≤ limit → p.seq ≤ saved

    limited : (bar : Option ℕ) → IsFirstAbove (ThirdWaitsAt pending) saved bar → IsLimit (limit_under bar complete)
    limited None first = record {
      within = omega arith;
      reaches = due_complete pends complete saved;
      thirds = λ key p e third l. first p.seq (key, p, e, third, refl);
    }
    limited (Some bar) first =
        let w = first.0 in
        let above : saved < bar = first.1 in
        let at : w.1.seq ≡ bar = w.4 in
        let top = due_complete pends complete saved in
        let under : number < bar = ⊎_elim (λ k. k) (λ k. let s = due_thirds pends complete saved w.1 (pend_at w.0 w.1 w.2) w.3 (omega arith) in absurd (omega arith)) (cases_lt number bar) in
        record {
          within = omega arith;
          reaches = omega arith;
          thirds = λ key p e third l. ⊎_elim (λ k. let b = first.2 p.seq (key, p, e, third, refl) k in absurd (omega arith)) (λ k. k) (cases_lt saved p.seq);
        }

    up_to : (limit : ℕ) → IsLimit limit → (q : ℕ) → WaitsAt pending q → q ≤ limit → q ≤ number
    up_to limit is q w l =
        let at : w.1.seq ≡ q = w.3 in
        let c = is.within in
        let low = due_greatest pends complete saved w.1 (pend_at w.0 w.1 w.2) (omega arith) (λ d i third k. let n = at_key d i in is.thirds n.0 d n.1 third (omega arith)) in
        omega arith

    waits : 0 < number → WaitsAt pending number
    waits l = let e = due_of pends complete saved l in let k = at_key e.0 e.1 in (k.0, e.0, k.1, e.2)

    last : (limit : ℕ) → IsLimit limit → (found : Option ℕ) → IsLastUpTo (WaitsAt pending) limit found → unwrap_or found 0 ≡ number
    last limit is None none =
        let n = is.reaches in
        ⊎_elim (λ l. let k = none number (waits l) in absurd (omega arith)) (λ l. omega arith) (cases_lt 0 number)
    last limit is (Some q) found =
        let n = is.reaches in
        let high : q ≤ number = up_to limit is q found.0 found.1 in
        let low : number ≤ q = ⊎_elim (λ l. found.2 number (waits l) n) (λ l. omega arith) (cases_lt 0 number) in
        omega arith

    -- the last prepare that waits up to the limit is the one to acknowledge
    pub last_is_due : (bar found : Option ℕ) → IsFirstAbove (ThirdWaitsAt pending) saved bar → IsLastUpTo (WaitsAt pending) (limit_under bar complete) found → unwrap_or found 0 ≡ due pends complete saved
    last_is_due bar found first is = last (limit_under bar complete) (limited bar first) found is
