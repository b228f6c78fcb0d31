-- a map from its entries: what it has at a key, and what a change at one key makes of it
use Rattle.std.proofs.Common.{◌≡◌, ℕ, List, [], ◌∷◌, refl, ap, sym, ◌∙◌, cond, Bool, true, false}
use Rattle.std.specs.Prelude.{Some, None}
use Rattle.std.specs.Map.{lookup}
use Rattle.std.specs.BTreeMap.{is_at}
use Rattle.std.specs.Cmp.{eq_by_cmp_equiv}
use Rattle.std.specs.Cmp.Lexicographic.{nat_list_cmp_total}
use Rattle.std.specs.FinMap.{from_entries, get, insert, remove, find, get-from_entries, get-insert, get-remove, same_map, slice_cmp-IsAntisymmetric, nat_cmp-IsAntisymmetric}
use Rattle.std.specs.Prelude.{◌&&◌, T, map}
use Rattle.std.proofs.Common.{subst}
use Rattle.std.specs.declared.cmp.Ordering.{Ordering}
use Rattle.std.specs.declared.cmp.Ordering.TheVariants.{Less}
use Rattle.std.specs.Ordering.{is_lt}
use Rattle.std.specs.List.{AllByRecursion}
use Rattle.std.specs.List.Sorted.{IsStrictlySortedBy}
use Rattle.std.specs.FinMap.{entries, entries_sorted, get-entries}
use Rattle.std.specs.FinMap.Entries.{is_sorted, below_all, same_entries}
use Rattle.vb_types.specs.Keys.{key_cmp}

module _ {X : Type 0} where
  find-lookup : (es : List (List ℕ × X)) (q : List ℕ) → find key_cmp q es ≡ lookup (is_at (key_cmp q)) es
  find-lookup [] q = refl
  find-lookup (e ∷ es) q = ap (cond (is_at (key_cmp q) e.0) (Some e.1)) (find-lookup es q)

  -- what the map of these entries has
  pub get_at : (es : List (List ℕ × X)) (q : List ℕ) → get (from_entries {R = key_cmp} es) q ≡ lookup (is_at (key_cmp q)) es
  get_at es q = get-from_entries nat_list_cmp_total es q ∙ find-lookup es q

  -- entries that differ at one key make maps that differ there
  pub inserted : (es fs : List (List ℕ × X)) (k : List ℕ) (v : X) → ((q : List ℕ) → lookup (is_at (key_cmp q)) fs ≡ cond (is_at (key_cmp k) q) (Some v) (lookup (is_at (key_cmp q)) es)) → from_entries {R = key_cmp} fs ≡ insert (from_entries es) k v
  inserted es fs k v h = same_map nat_list_cmp_total (slice_cmp-IsAntisymmetric nat_cmp-IsAntisymmetric) _ _ (λ q.
      get_at fs q ∙ h q ∙ ap (λ b. cond b (Some v) (lookup (is_at (key_cmp q)) es)) ((eq_by_cmp_equiv nat_list_cmp_total).symm k q)
      ∙ sym (get-insert nat_list_cmp_total (from_entries es) k v q ∙ ap (cond (is_at (key_cmp q) k) (Some v)) (get_at es q)))

  pub removed : (es fs : List (List ℕ × X)) (k : List ℕ) → ((q : List ℕ) → lookup (is_at (key_cmp q)) fs ≡ cond (is_at (key_cmp k) q) None (lookup (is_at (key_cmp q)) es)) → from_entries {R = key_cmp} fs ≡ remove (from_entries es) k
  removed es fs k h = same_map nat_list_cmp_total (slice_cmp-IsAntisymmetric nat_cmp-IsAntisymmetric) _ _ (λ q.
      get_at fs q ∙ h q ∙ ap (λ b. cond b None (lookup (is_at (key_cmp q)) es)) ((eq_by_cmp_equiv nat_list_cmp_total).symm k q)
      ∙ sym (get-remove nat_list_cmp_total (from_entries es) k q ∙ ap (cond (is_at (key_cmp q) k) None) (get_at es q)))

both : (a b : Bool) → T a → T b → T (a && b)
both true b p q = q
both false b p q = p

lt_less : (o : Ordering) → o ≡ Less → T (is_lt o)
lt_less o e = subst (λ r. T (is_lt r)) (sym e) tt

below : {X : Type 0} (k : List ℕ) (es : List (List ℕ × X)) → AllByRecursion (λ y. key_cmp k y ≡ Less) (map (λ e. e.0) es) → T (below_all key_cmp k es)
below k [] h = tt
below k (e ∷ es) h = both _ _ (lt_less _ h.0) (below k es h.1)

sorted : {X : Type 0} (es : List (List ℕ × X)) → IsStrictlySortedBy key_cmp (map (λ e. e.0) es) → T (is_sorted key_cmp es)
unfolding IsStrictlySortedBy
sorted [] h = tt
sorted (e ∷ es) h = both _ _ (below e.0 es h.0) (sorted es h.1)

-- entries in the order of their keys are those of the map that they make
pub entries-from_entries : {X : Type 0} (es : List (List ℕ × X)) → IsStrictlySortedBy key_cmp (map (λ e. e.0) es) → entries (from_entries {R = key_cmp} es) ≡ es
entries-from_entries es h = same_entries key_cmp nat_list_cmp_total (slice_cmp-IsAntisymmetric nat_cmp-IsAntisymmetric) _ _ (entries_sorted (from_entries es)) (sorted es h)
    (λ q. sym (get-entries (from_entries es) q) ∙ get-from_entries nat_list_cmp_total es q)
