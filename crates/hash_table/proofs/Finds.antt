-- what vb_types proves of entries that are found in the order of keys, of entries that are found by equal keys
use Rattle.std.proofs.Common.{◌≡◌, ℕ, List, [], ◌∷◌, length, cond, subst, ap, sym, ◌∙◌, arith}
use Rattle.std.specs.Prelude.{Some, None, Bool, nat_eq}
use Rattle.std.specs.Map.{lookup}
use Rattle.std.specs.Ordering.{eq_by_cmp}
use Rattle.std.specs.Cmp.Lexicographic.{pointwise, texts_ties}
use Rattle.std.specs.Cmp.Lexicographic.{nat_list_cmp_total}
use Rattle.std.specs.FinMap.{from_entries, get, insert, remove, same_map, slice_cmp-IsAntisymmetric, nat_cmp-IsAntisymmetric}
use Rattle.vb_types.specs.Keys.{key_cmp}
use Rattle.vb_types.proofs.Finds as ordered

-- two keys are equal exactly where neither comes first
pub ties : pointwise nat_eq ≡ eq_by_cmp key_cmp
ties i xs ys = texts_ties xs ys i

module _ {X : Type 0} where
  pub get_at : (es : List (List ℕ × X)) (q : List ℕ) → get (from_entries {R = key_cmp} es) q ≡ lookup (pointwise nat_eq q) es
  get_at es q = ordered.get_at es q ∙ ap (λ (E : List ℕ → List ℕ → Bool). lookup (E q) es) (sym ties)

  -- no entry is found where there is none
  pub none_at : (es : List (List ℕ × X)) (q : List ℕ) → length es ≡ 0 → get (from_entries {R = key_cmp} es) q ≡ None
  none_at [] q e = get_at [] q
  none_at (x ∷ es) q e = absurd (omega (arith, e))

  pub inserted : (es fs : List (List ℕ × X)) (k : List ℕ) (v : X) → ((q : List ℕ) → lookup (pointwise nat_eq q) fs ≡ cond (pointwise nat_eq k q) (Some v) (lookup (pointwise nat_eq q) es)) → from_entries {R = key_cmp} fs ≡ insert (from_entries es) k v
  inserted es fs k v h = ordered.inserted es fs k v (subst (λ (E : List ℕ → List ℕ → Bool). (q : List ℕ) → lookup (E q) fs ≡ cond (E k q) (Some v) (lookup (E q) es)) ties h)

  pub removed : (es fs : List (List ℕ × X)) (k : List ℕ) → ((q : List ℕ) → lookup (pointwise nat_eq q) fs ≡ cond (pointwise nat_eq k q) None (lookup (pointwise nat_eq q) es)) → from_entries {R = key_cmp} fs ≡ remove (from_entries es) k
  removed es fs k h = ordered.removed es fs k (subst (λ (E : List ℕ → List ℕ → Bool). (q : List ℕ) → lookup (E q) fs ≡ cond (E k q) None (lookup (E q) es)) ties h)

  -- entries that are found as others make the same map
  pub reordered : (es fs : List (List ℕ × X)) → ((q : List ℕ) → lookup (pointwise nat_eq q) fs ≡ lookup (pointwise nat_eq q) es) → from_entries {R = key_cmp} fs ≡ from_entries es
  reordered es fs h = same_map nat_list_cmp_total (slice_cmp-IsAntisymmetric nat_cmp-IsAntisymmetric) _ _ (λ q. get_at fs q ∙ h q ∙ sym (get_at es q))
