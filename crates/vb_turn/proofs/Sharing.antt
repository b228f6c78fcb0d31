-- what the rule says of two seats, and of each call of the history
use Rattle.std.proofs.Common.{◌≡◌, ℕ, zero, suc, ◌+◌, ◌<◌, ◌≤◌, Bool, true, false, List, [], ◌∷◌, length, Some, slice_get, if◌then◌else◌, refl, sym, subst, arith, inl, inr, ◌⊎◌}
use Rattle.std.specs.Prelude.{nat_lt, Contains}
use Rattle.std.proofs.lemmas.Bool.Decides.{nat_tests}
use mathlib.Core.Logic.{dite}
use mathlib.Core.Option.{some}
use mathlib.Core.List.{IsPrefix}
use lib.ListN.{get_elem?}
use native.Mathlib.Decide.{ℕ_discrete}
use Rattle.atomic_table.specs.Table.{State}
use Rattle.vb_turn.specs.declared.view.View.{View}
use Rattle.vb_turn.specs.Turning.{total, times, places, turns, Turning}
use Rattle.vb_turn.specs.Laws.{SeatsShareOneHistory}
use Rattle.vb_turn.proofs.Fronts.{prefix_shorter, prefix_get}
use Rattle.vb_turn.proofs.Totals.{total_two, once_once}
use Rattle.vb_turn.proofs.Owning.{contained, found, stands_at, get_below, below_once}

-- who has some of a sum
some_has_by : {V : Type 0} (f : V → ℕ) (x : V) (xs : List V) (n : ℕ) → f x ≡ n → (0 < total f xs → (i : ℕ) × (v : V) × (get_elem? xs i ≡ some v) × (0 < f v))
    → 0 < n + total f xs → (i : ℕ) × (v : V) × (get_elem? (x ∷ xs) i ≡ some v) × (0 < f v)
some_has_by f x xs zero e more l = let r = more (omega arith) in (suc r.0, r.1, r.2, r.3)
some_has_by f x xs (suc n) e more l = (0, x, refl, omega arith)

some_has : {V : Type 0} (f : V → ℕ) (xs : List V) → 0 < total f xs → (i : ℕ) × (v : V) × (get_elem? xs i ≡ some v) × (0 < f v)
some_has f [] l = absurd (omega arith)
some_has f (x ∷ xs) l = some_has_by f x xs (f x) refl (some_has f xs) l

has_one : (b : Bool) → b ≡ true → 0 < (if b then 1 else 0)
has_one true e = omega arith
has_one false e = absurd (cc e)

module _ {M E : Type 0} (good : M → List E → ℕ → Type 0) (ends : M → List E → M → Type 0) where
  abbrev W : Type 0
  W = View M E

  -- two seats that both have some of what all have one of are one
  alone : (f : W → ℕ) (vs : List W) → total f vs ≤ 1 → (i j : ℕ) (v u : W) → get_elem? vs i ≡ some v → get_elem? vs j ≡ some u → 0 < f v → 0 < f u → i ≡ j
  alone f vs most i j v u p q a b = dite (ℕ_discrete j i) (λ e. sym e) (λ ne. let two = total_two f vs i j v u ne p q in absurd (omega arith))

  fronts_by : (xs ys zs : List E) → IsPrefix xs zs → IsPrefix ys zs → (b : Bool) → nat_lt (length xs) (length ys) ≡ b → IsPrefix xs ys ⊎ IsPrefix ys xs
  fronts_by xs ys zs p q true e = inl (prefix_shorter xs ys zs p q (grind (arith, nat_tests)))
  fronts_by xs ys zs p q false e = inr (prefix_shorter ys xs zs q p (grind (arith, nat_tests)))

  owned : (key : M) (s : State M W) (t : Turning good ends key s) (k : ℕ) (e : E) → slice_get t.log k ≡ Some e → (i : ℕ) × (v : W) × (get_elem? s.views i ≡ some v) × Contains v.mine (k, e)
  owned key s t k e h =
      let l = get_below t.log k e h in let o = below_once k (length t.log) (nat_lt k (length t.log)) refl l in let c = t.places k in
      let r = some_has (λ (v : W). times k (places v.mine)) s.views (omega arith) in
      let has = found k r.1.mine r.3 in
      let fits = t.each r.0 r.1 r.2 in
      let at : slice_get t.log k ≡ Some has.0 = prefix_get r.1.seen t.log k has.0 fits.seen (stands_at r.1.seen r.1.mine (k, has.0) fits.mine has.1) in
      let same : has.0 ≡ e = cc (at, h) in (r.0, r.1, r.2, subst (λ (x : E). Contains r.1.mine (k, x)) same has.1)

  pub seats_share_one_history : SeatsShareOneHistory good ends
  seats_share_one_history = record {
    fronts = λ key s t i j v u p q. fronts_by v.seen u.seen t.log (t.each i v p).seen (t.each j u q).seen (nat_lt (length v.seen) (length u.seen)) refl;
    one = λ key s t i j v u p q a b. alone turns s.views (let h = t.turn in let l = t.one in omega arith) i j v u p q (has_one v.turn a) (has_one u.turn b);
    apart = λ key s t i j v u p q k e f a b. alone (λ (w : W). times k (places w.mine)) s.views (let h = t.places k in let l = once_once k (length t.log) in omega arith) i j v u p q
        (contained v.mine (k, e) a) (contained u.mine (k, f) b);
    owned = owned;
  }
