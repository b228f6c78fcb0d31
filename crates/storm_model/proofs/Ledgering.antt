-- What stands at a key is what was written there last.
use Rattle.std.proofs.Common.{◌≡◌, ℕ, Bool, true, false, if◌then◌else◌, List, [], ◌∷◌, Option, Some, refl, sym, ap, ◌∙◌}
use Rattle.std.specs.Prelude.{cond}
use Rattle.std.specs.List.{fold, filter}
use Rattle.std.specs.FinMap as finite
use Rattle.std.specs.Cmp.Lexicographic.{nat_list_cmp_total}
use Rattle.storm_model.specs.Ledgers.{key_cmp, with_write, ledger, is_at, SameByKeys}

module _ {V : Type 0} where
  -- the last value of these writes, or this one
  abbrev pick : Option V → List (List ℕ × V) → Option V
  pick o [] = o
  pick o (e ∷ es) = pick (Some e.1) es

  pick_next : (o : Option V) (e : List ℕ × V) (es : List (List ℕ × V)) (b : Bool) → pick (cond b (Some e.1) o) es ≡ pick o (if b then e ∷ es else es)
  pick_next o e es true = refl
  pick_next o e es false = refl

  pub stands_at : (m : finite.FinMap key_cmp V) (es : List (List ℕ × V)) (q : List ℕ) → finite.get (fold with_write m es) q ≡ pick (finite.get m q) (filter (is_at q) es)
  stands_at m [] q = refl
  stands_at m (e ∷ es) q =
      stands_at (with_write m e) es q
      ∙ (ap (λ o. pick o (filter (is_at q) es)) (finite.get-insert nat_list_cmp_total m e.0 e.1 q) ∙ pick_next (finite.get m q) e (filter (is_at q) es) (is_at q e))

  pub same_by_keys : SameByKeys V
  same_by_keys xs ys same = finite.same_map nat_list_cmp_total (finite.slice_cmp-IsAntisymmetric finite.nat_cmp-IsAntisymmetric) (ledger xs) (ledger ys)
      (λ q. stands_at finite.empty xs q ∙ (ap (pick (finite.get (finite.empty {X = V} {R = key_cmp}) q)) (same q) ∙ sym (stands_at finite.empty ys q)))
