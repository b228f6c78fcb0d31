-- The entries of one seat in a history, by its places.
use Rattle.std.proofs.Common.{◌≡◌, ◌≢◌, ℕ, suc, ◌+◌, ◌-◌, ◌<◌, Bool, true, false, if◌then◌else◌, List, [], ◌∷◌, Option, Some, slice_get, refl, sym, ap, ◌∙◌, subst, inl, inr, arith}
use Rattle.std.specs.List.{filter}
use mathlib.Core.Logic.{dite}
use native.Mathlib.Decide.{ℕ_discrete}
use Rattle.storm_model.specs.Merging.{Rising, Stand, HasPlace, entries, OwnOrder}

module _ {E : Type 0} where
  -- the history from a place on is this rest
  abbrev From : (ℕ → Option E) → ℕ → List E → Type 0
  From at from rest = (i : ℕ) → slice_get rest i ≡ at (from + i)

  from_next : (at : ℕ → Option E) (from : ℕ) (e : E) (rest : List E) → From at from (e ∷ rest) → From at (suc from) rest
  from_next at from e rest f i = f (suc i) ∙ ap at (omega arith)

  from_head : (at : ℕ → Option E) (from : ℕ) (e : E) (rest : List E) → From at from (e ∷ rest) → at from ≡ Some e
  from_head at from e rest f = ap at (omega arith) ∙ sym (f 0)

  abbrev StandAt : (ℕ → Option E) → List (ℕ × E) → Type 0
  StandAt at [] = Unit {0}
  StandAt at (m ∷ ms) = (at m.0 ≡ Some m.1) × StandAt at ms

  stand_at : (log : List E) (mine : List (ℕ × E)) → Stand log mine → StandAt (slice_get log) mine
  stand_at log [] s = tt
  stand_at log (m ∷ ms) s = (s.0, stand_at log ms s.1)

  abbrev AllFrom : (E → Bool) → ℕ → List E → List (ℕ × E) → Type 0
  AllFrom is from rest mine = (i : ℕ) (e : E) → slice_get rest i ≡ Some e → is e ≡ true → HasPlace (from + i) mine

  -- places that rise from a place on do not have one below it
  none_below : (mine : List (ℕ × E)) (from x : ℕ) → Rising from mine → x < from → HasPlace x mine → ⊥
  none_below [] from x r l h = h
  none_below (m ∷ ms) from x r l (inl e) = omega arith
  none_below (m ∷ ms) from x r l (inr h) = none_below ms (suc m.0) x r.1 (omega arith) h

  past : (mine : List (ℕ × E)) (at : ℕ → Option E) (from : ℕ) → From at from [] → Rising from mine → StandAt at mine → mine ≡ []
  past [] at from f r s = refl
  past (m ∷ ms) at from f r s = absurd (cc (f (m.0 - from), s.0, ap at (let e : from + (m.0 - from) ≡ m.0 = omega arith in e)))

  rising_next : (m : ℕ × E) (ms : List (ℕ × E)) (from : ℕ) → Rising from (m ∷ ms) → from ≢ m.0 → Rising (suc from) (m ∷ ms)
  rising_next m ms from r n = (omega (arith, n), r.1)

  rising_tail : (m : ℕ × E) (ms : List (ℕ × E)) (from : ℕ) → Rising from (m ∷ ms) → from ≡ m.0 → Rising (suc from) ms
  rising_tail m ms from r e = subst (λ (k : ℕ). Rising (suc k) ms) (sym e) r.1

  -- the next one is not the seat's
  all_next : (is : E → Bool) (from : ℕ) (e : E) (rest : List E) (mine : List (ℕ × E)) → AllFrom is from (e ∷ rest) mine → AllFrom is (suc from) rest mine
  all_next is from e rest mine all i d at so = subst (λ (k : ℕ). HasPlace k mine) (omega arith) (all (suc i) d at so)

  -- the next one is the seat's
  tail_has : (m : ℕ × E) (ms : List (ℕ × E)) (x : ℕ) → HasPlace x (m ∷ ms) → m.0 < x → HasPlace x ms
  tail_has m ms x (inl e) l = absurd (omega arith)
  tail_has m ms x (inr h) l = h

  skip : (is : E → Bool) (from : ℕ) (e : E) (rest : List E) (mine : List (ℕ × E)) (b : Bool) → is e ≡ b → (HasPlace from mine → ⊥) → AllFrom is from (e ∷ rest) mine
      → filter is rest ≡ filter is (entries mine) → (if b then e ∷ filter is rest else filter is rest) ≡ filter is (entries mine)
  skip is from e rest mine true so not all same = absurd (not (subst (λ (k : ℕ). HasPlace k mine) (omega arith) (all 0 e refl so)))
  skip is from e rest mine false else_ not all same = same

  pub own : (is : E → Bool) (at : ℕ → Option E) (from : ℕ) (rest : List E) (mine : List (ℕ × E))
      → From at from rest → Rising from mine → StandAt at mine → AllFrom is from rest mine → filter is rest ≡ filter is (entries mine)
  own is at from [] mine f r s all = ap (λ ms. filter is (entries ms)) (sym (past mine at from f r s))
  own is at from (e ∷ rest) [] f r s all =
      skip is from e rest [] (is e) refl (λ h. h) all (own is at (suc from) rest [] (from_next at from e rest f) tt tt (all_next is from e rest [] all))
  own is at from (e ∷ rest) (m ∷ ms) f r s all = dite (ℕ_discrete from m.0)
      (λ here.
      let same : e ≡ m.1 = cc (from_head at from e rest f, s.0, ap at here) in
      let r' = rising_tail m ms from r here in
      let tail = own is at (suc from) rest ms (from_next at from e rest f) r' s.1
      (λ i d there so. tail_has m ms (suc from + i) (all_next is from e rest (m ∷ ms) all i d there so) (omega arith)) in
      subst (λ (d : E). filter is (e ∷ rest) ≡ filter is (d ∷ entries ms)) same (ap (λ t. if is e then e ∷ t else t) tail))
      (λ other.
      skip is from e rest (m ∷ ms) (is e) refl (none_below (m ∷ ms) (suc from) from (rising_next m ms from r other) (omega arith)) all
      (own is at (suc from) rest (m ∷ ms) (from_next at from e rest f) (rising_next m ms from r other) s (all_next is from e rest (m ∷ ms) all)))

  pub own_order : OwnOrder E
  own_order is log mine r s all = own is (slice_get log) 0 log mine (λ i. ap (slice_get log) (omega arith)) r (stand_at log mine s)
      (λ i e at so. subst (λ (k : ℕ). HasPlace k mine) (omega arith) (all i e at so))
