-- entries in the order of their keys
use Rattle.std.proofs.Common.{◌≡◌, ℕ, ◌+◌, ◌<◌, true, false, List, [], ◌∷◌, length, map, get_or, refl, ap, sym, ◌∙◌, subst, arith}
use Rattle.std.specs.Prelude.{Some, None, nat_eq}
use Rattle.std.specs.List.{IsDistinct}
use Rattle.std.specs.List.Sorted.{IsPermutation, IsSortedBy, IsStrictlySortedBy}
use Rattle.std.specs.Map.{keys_of, lookup}
use Rattle.std.specs.Ordering.{is_eq, is_lt, ordering_reverse}
use Rattle.std.specs.declared.cmp.Ordering.TheVariants.{Less, Equal, Greater}
use Rattle.std.specs.Cmp.Lexicographic.{pointwise, texts_ties, nat_list_cmp_total}
use Rattle.std.specs.FinMap.{entries, from_entries}
use Rattle.std.proofs.Math.ListN.{get_or-map}
use Rattle.std.proofs.lemmas.Cmp.{nat_list_eq_equiv}
use Rattle.std.proofs.lemmas.List.{length-map}
use Rattle.std.proofs.lemmas.List.Sorted.{Contains-permutation, IsPermutation-map, IsPermutation-sym}
use Rattle.std.proofs.lemmas.Map.Keys.{IsDistinct-IsPermutation, apart_from_distinct, sorted_from_all_adjacent}
use Rattle.std.proofs.lemmas.Map.Views.{Contains-from_lookup, lookup-from_Contains}
use Rattle.std.proofs.lemmas.Slice.Eq.{bytes_eq-Decides}
use Rattle.vb_types.specs.Keys.{key_cmp}
use Rattle.vb_types.proofs.Finds.{entries-from_entries}
use Rattle.hash_table.proofs.Finds.{reordered}

pub same_key : (a b : List ℕ) → pointwise nat_eq a b ≡ true → a ≡ b
same_key a b e = (bytes_eq-Decides a b).0 e

-- of two keys that differ the one comes first that does not come later
pub comes_first : (x y : List ℕ) → is_lt (key_cmp y x) ≡ false → pointwise nat_eq x y ≡ false → key_cmp x y ≡ Less
comes_first x y up apart = elim (key_cmp x y) as (λ o. key_cmp x y ≡ o → o ≡ Less) [
  | Less ↦ λ e. refl
  | Equal ↦ λ e. let t : pointwise nat_eq x y ≡ true = texts_ties x y ∙ ap is_eq e in cc
  | Greater ↦ λ e. let t : is_lt (key_cmp y x) ≡ true = ap is_lt (nat_list_cmp_total.antisymm y x ∙ ap ordering_reverse e) in cc
] refl

module _ {X : Type 0} where
  found_too : (es fs : List (List ℕ × X)) (q : List ℕ) (v : X) → IsPermutation es fs → IsDistinct (pointwise nat_eq) (keys_of fs) → lookup (pointwise nat_eq q) es ≡ Some v → lookup (pointwise nat_eq q) fs ≡ Some v
  found_too es fs q v moved apart e = lookup-from_Contains nat_list_eq_equiv q v fs apart (Contains-permutation es fs (q, v) moved (Contains-from_lookup same_key q v es e))

  -- entries of different keys are found in any order
  pub found_moved : (es fs : List (List ℕ × X)) (q : List ℕ) → IsPermutation es fs → IsDistinct (pointwise nat_eq) (keys_of es) → IsDistinct (pointwise nat_eq) (keys_of fs) → lookup (pointwise nat_eq q) fs ≡ lookup (pointwise nat_eq q) es
  found_moved es fs q moved one other = elim (lookup (pointwise nat_eq q) fs) as (λ o. lookup (pointwise nat_eq q) fs ≡ o → o ≡ lookup (pointwise nat_eq q) es) [
    | Some v ↦ λ e. sym (found_too fs es q v (IsPermutation-sym es fs moved) one e)
    | None ↦ λ e. elim (lookup (pointwise nat_eq q) es) as (λ o. lookup (pointwise nat_eq q) es ≡ o → None ≡ o) [
      | None ↦ λ n. refl
      | Some v ↦ λ n. let z : Some v ≡ None = sym (found_too es fs q v moved other n) ∙ e in absurd (cc)
    ] refl
  ] refl

pub keys_of-map : {A X : Type 0} (f : A → List ℕ × X) (qs : List A) → keys_of (map f qs) ≡ map (λ q. (f q).0) qs
keys_of-map f [] = refl
keys_of-map f (q ∷ qs) = ap (λ ks. (f q).0 ∷ ks) (keys_of-map f qs)

-- different keys that do not fall rise
sorted_keys : {A X : Type 0} (f : A → List ℕ × X) (qs : List A) → IsDistinct (pointwise nat_eq) (map (λ q. (f q).0) qs) → IsSortedBy (λ x y. is_lt (key_cmp (f x).0 (f y).0)) qs → IsStrictlySortedBy key_cmp (map (λ q. (f q).0) qs)
unfolding IsStrictlySortedBy
sorted_keys f [] apart sorted = tt
sorted_keys f (q ∷ qs) apart sorted =
    let key : _ → List ℕ = λ a. (f a).0 in
    let all = q ∷ qs in
    sorted_from_all_adjacent nat_list_cmp_total (map key all) (key q) (λ k l.
    let m : k + 1 < length all = omega (arith, l, length-map all key) in
    let here = get_or-map key all k q in
    let next = get_or-map key all (k + 1) q in
    let up : is_lt (key_cmp (get_or (map key all) (k + 1) (key q)) (get_or (map key all) k (key q))) ≡ false =
    ap (λ z. is_lt (key_cmp z (get_or (map key all) k (key q)))) next ∙ ap (λ z. is_lt (key_cmp (key (get_or all (k + 1) q)) z)) here ∙ sorted k q (omega arith) m in
    comes_first (get_or (map key all) k (key q)) (get_or (map key all) (k + 1) (key q)) up (apart_from_distinct (pointwise nat_eq) (map key all) k (k + 1) (key q) apart (omega arith) l))

-- entries of different keys that a sort by keys put in order are the map's
pub in_order : {A X : Type 0} (f : A → List ℕ × X) (ps qs : List A) (es : List (List ℕ × X)) → map f ps ≡ es → IsDistinct (pointwise nat_eq) (keys_of es) → IsPermutation ps qs
    → IsSortedBy (λ x y. is_lt (key_cmp (f x).0 (f y).0)) qs → map f qs ≡ entries (from_entries {R = key_cmp} es)
in_order f ps qs es made distinct moved sorted =
    let fs : List (List ℕ × _) = map f qs in
    let perm : IsPermutation es fs = subst (λ xs. IsPermutation xs fs) made (IsPermutation-map f ps qs moved) in
    let apart : IsDistinct (pointwise nat_eq) (keys_of fs) = IsDistinct-IsPermutation (pointwise nat_eq) nat_list_eq_equiv.symm (keys_of es) (keys_of fs) (IsPermutation-map (λ e. e.0) es fs perm) distinct in
    let strict : IsStrictlySortedBy key_cmp (keys_of fs) =
    subst (IsStrictlySortedBy key_cmp) (sym (keys_of-map f qs)) (sorted_keys f qs (subst (IsDistinct (pointwise nat_eq)) (keys_of-map f qs) apart) sorted) in
    sym (entries-from_entries fs strict) ∙ ap entries (reordered es fs (λ q. found_moved es fs q perm distinct apart))
