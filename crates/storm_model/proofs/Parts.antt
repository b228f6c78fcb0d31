-- Which part of the gathered entries has those of a kind.
use Rattle.std.proofs.Common.{◌≡◌, ℕ, zero, suc, ◌+◌, ◌<◌, Bool, true, false, if◌then◌else◌, List, [], ◌∷◌, length, map, Some, slice_get, refl, sym, ap, ◌∙◌, subst, inl, inr, arith}
use Rattle.std.specs.Prelude.{◌==◌, nat_lt}
use Rattle.std.proofs.lemmas.Bool.{eqb-true}
use Rattle.std.proofs.lemmas.Bool.Decides.{nat_tests}
use Rattle.storm_model.specs.Merging.{Stand, HasPlace, OnlyIn, PartHasAll}
use Rattle.vb_turn.specs.Turning.{times}

below_one : (x n : ℕ) (b : Bool) → nat_lt x n ≡ b → x < n → ◌≡◌ {A = ℕ} (if b then 1 else 0) 1
below_one x n true e l = refl
below_one x n false e l = absurd (grind (arith, nat_tests))

module _ {E : Type 0} where
  get_lt : (log : List E) (x : ℕ) (e : E) → slice_get log x ≡ Some e → x < length log
  get_lt [] x e is = absurd cc
  get_lt (d ∷ log) zero e is = omega arith
  get_lt (d ∷ log) (suc x) e is = let r = get_lt log x e is in omega arith

  has_by : (x y n : ℕ) (mine : List (ℕ × E)) (b : Bool) → (x == y) ≡ b → ((if b then 1 else 0) + n ≡ 1) → (n ≡ 1 → HasPlace x mine) → (e : E) → HasPlace x ((y, e) ∷ mine)
  has_by x y n mine true same one next e = inl (eqb-true x y same)
  has_by x y n mine false same one next e = inr (next (omega arith))

  has_place : (mine : List (ℕ × E)) (x : ℕ) → times x (map (λ m. m.0) mine) ≡ 1 → HasPlace x mine
  has_place [] x one = absurd (omega arith)
  has_place (m ∷ ms) x one = has_by x m.0 (times x (map (λ t. t.0) ms)) ms (x == m.0) refl one (has_place ms x) m.1

  in_part : (is : E → Bool) (log : List E) (mine part : List (ℕ × E)) (x : ℕ) (e : E) → Stand log mine → OnlyIn is mine part → slice_get log x ≡ Some e → is e ≡ true → HasPlace x mine → HasPlace x part
  in_part is log [] part x e s o at so h = absurd h
  in_part is log (m ∷ ms) part x e s o at so (inl here) =
      let same : m.1 ≡ e = cc (s.0, at, ap (slice_get log) here) in
      subst (λ (k : ℕ). HasPlace k part) (sym here) (o.0 (ap is same ∙ so))
  in_part is log (m ∷ ms) part x e s o at so (inr there) = in_part is log ms part x e s.1 o.1 at so there

  pub part_has_all : PartHasAll E
  part_has_all is log mine part s all only x e at so =
      in_part is log mine part x e s only at so (has_place mine x (all x ∙ below_one x (length log) (nat_lt x (length log)) refl (get_lt log x e at)))
