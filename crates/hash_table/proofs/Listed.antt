-- the law of the prepares by rising seqnos
use Rattle.std.proofs.Common.{◌≡◌, ℕ, ◌+◌, ◌≤◌, Bool, true, false, List, [], ◌∷◌, get_or, refl, ap, sym, ◌∙◌, subst, arith, inl, inr}
use Rattle.std.specs.Prelude.{Some, nat_eq, nat_lt, ◌&&◌, T}
use Rattle.std.specs.FinMap as finite
use Rattle.std.specs.FinMap.{entries, entries_sorted, get, len-entries}
use Rattle.std.specs.FinMap.Entries.{below_all, is_sorted}
use Rattle.std.specs.List.{AllByRecursion, Contains, IsDistinct}
use Rattle.std.specs.List.Sorted.{IsPermutation, IsSortedBy, IsStrictlySortedBy}
use Rattle.std.specs.Map.{keys_of, lookup}
use Rattle.std.specs.Ordering.{is_lt, nat_cmp, ordering_reverse}
use Rattle.std.specs.declared.cmp.Ordering.{Ordering}
use Rattle.std.specs.declared.cmp.Ordering.TheVariants.{Less, Equal, Greater}
use Rattle.std.specs.Cmp.Lexicographic.{pointwise, nat_list_cmp_total}
use Rattle.std.proofs.Math.ListN.{get_or-map}
use Rattle.std.proofs.lemmas.Bool.Decides.{nat_tests}
use Rattle.std.proofs.lemmas.Cmp.{nat_cmp_total, nat_list_eq_equiv}
use Rattle.std.proofs.lemmas.List.{length-map}
use Rattle.std.proofs.lemmas.List.Sorted.{Contains-permutation, IsPermutation-map, IsPermutation-sym, length_permutation, ranks_by, ties_stay_sorted}
use Rattle.std.proofs.lemmas.Map.Keys.{IsDistinct-IsPermutation, IsDistinct-from_sorted, Less-from_sorted, apart_from_distinct}
use Rattle.std.proofs.lemmas.Map.Views.{Contains-from_lookup, lookup-from_Contains}
use Rattle.vb_types.specs.Keys.{key_cmp}
use Rattle.vb_types.specs.declared.change.Pend.{Pend}
use Rattle.hash_table.specs.Tables.{by_seqnos}
use Rattle.hash_table.specs.Laws.{IsBefore, ListsAll, SeqnosRise}
use Rattle.hash_table.proofs.Finds.{get_at, ties}
use Rattle.hash_table.proofs.Orders.{comes_first, same_key}
use Rattle.hash_table.proofs.Puts.{put_entries, put_from_empty}
use Rattle.hash_table.proofs.Placing.{climbs_fold, climbs_next, moved, ties_fold, ties_from}

first : (a b : Bool) → T (a && b) → T a
first true b t = tt
first false b t = t

second : (a b : Bool) → T (a && b) → T b
second true b t = t
second false b t = absurd t

is_less : (o : Ordering) → T (is_lt o) → o ≡ Less
is_less Less t = refl
is_less Equal t = absurd t
is_less Greater t = absurd t

below : {X : Type 0} (k : List ℕ) (es : List (List ℕ × X)) → T (below_all key_cmp k es) → AllByRecursion (λ y. key_cmp k y ≡ Less) (keys_of es)
below k [] t = tt
below k (e ∷ es) t = (is_less (key_cmp k e.0) (first _ _ t), below k es (second _ _ t))

strict : {X : Type 0} (es : List (List ℕ × X)) → T (is_sorted key_cmp es) → IsStrictlySortedBy key_cmp (keys_of es)
unfolding IsStrictlySortedBy
strict [] t = tt
strict (e ∷ es) t = (below e.0 es (first _ _ t), strict es (second _ _ t))

no_later : (x y : List ℕ) → key_cmp x y ≡ Less → is_lt (key_cmp y x) ≡ false
no_later x y e = ap is_lt (nat_list_cmp_total.antisymm y x ∙ ap ordering_reverse e)

module _ {X : Type 0} (m : finite.FinMap key_cmp X) where
  pub distinct : IsDistinct (pointwise nat_eq) (keys_of (entries m))
  distinct = subst (λ (E : List ℕ → List ℕ → Bool). IsDistinct E (keys_of (entries m))) (sym ties) (IsDistinct-from_sorted key_cmp (keys_of (entries m)) (strict (entries m) (entries_sorted m)))

  found : (q : List ℕ) → get m q ≡ lookup (pointwise nat_eq q) (entries m)
  found q = ap (λ (t : finite.FinMap key_cmp X). get t q) (sym (put_entries m) ∙ put_from_empty (entries m)) ∙ get_at (entries m) q

  -- what is at a key is an entry, and an entry is at its key
  pub entry_at : (k : List ℕ) (v : X) → get m k ≡ Some v → Contains (entries m) (k, v)
  entry_at k v e = Contains-from_lookup same_key k v (entries m) (sym (found k) ∙ e)

  pub found_at : (k : List ℕ) (v : X) → Contains (entries m) (k, v) → get m k ≡ Some v
  found_at k v i = found k ∙ lookup-from_Contains nat_list_eq_equiv k v (entries m) distinct i

  sorted : IsSortedBy (λ x y. is_lt (key_cmp x.0 y.0)) (entries m)
  sorted k d low l =
      let es = entries m in
      let less = Less-from_sorted key_cmp (keys_of es) k (k + 1) d.0 (strict es (entries_sorted m)) (omega arith) (omega (arith, l, length-map es (λ e. e.0))) in
      let here = get_or-map (λ e. e.0) es k d in
      let next = get_or-map (λ e. e.0) es (k + 1) d in
      no_later (get_or es k d).0 (get_or es (k + 1) d).0 (sym (ap (λ x. key_cmp x (get_or es (k + 1) d).0) here) ∙ sym (ap (λ y. key_cmp (get_or (keys_of es) k d.0) y) next) ∙ less)

lists_all : (pending : finite.FinMap key_cmp Pend) → ListsAll pending (by_seqnos pending)
lists_all pending =
    let es : List (List ℕ × Pend) = entries pending in
    let zs : List (List ℕ × Pend) = by_seqnos pending in
    let seq : List ℕ × Pend → ℕ = λ e. e.1.seq in
    let perm : IsPermutation es zs = moved seq [] es in
    record {
      exactly = λ key pend. (
        λ i. found pending key ∙ lookup-from_Contains nat_list_eq_equiv key pend es (distinct pending) (Contains-permutation zs es (key, pend) (IsPermutation-sym es zs perm) i),
        λ e. Contains-permutation es zs (key, pend) perm (Contains-from_lookup same_key key pend es (sym (found pending key) ∙ e)),
      );
      once = length_permutation es zs perm ∙ sym (len-entries pending);
      rises = λ k d l.
          let one = get_or zs k d in
          let other = get_or zs (k + 1) d in
          let up : seq one ≤ seq other = climbs_next seq zs k d (climbs_fold seq [] es tt) l in
          elim (nat_lt (seq one) (seq other)) as (λ v. nat_lt (seq one) (seq other) ≡ v → IsBefore one other) [
            | true ↦ λ t. inl (grind (arith, nat_tests))
            | false ↦ λ f.
                let same : seq one ≡ seq other = grind (arith, nat_tests) in
                let order : is_lt (key_cmp other.0 one.0) ≡ false =
                ties_stay_sorted (λ x y. is_lt (key_cmp x.0 y.0)) (λ x y. is_lt (nat_cmp (seq x) (seq y))) (ranks_by nat_list_cmp_total (λ x. x.0)) (ranks_by nat_cmp_total seq) es zs (sorted pending) (λ x. ties_fold seq x [] es) k d l (ties_from seq one other same) in
                let keys = IsDistinct-IsPermutation (pointwise nat_eq) nat_list_eq_equiv.symm (keys_of es) (keys_of zs) (IsPermutation-map (λ e. e.0) es zs perm) (distinct pending) in
                let apart = apart_from_distinct (pointwise nat_eq) (keys_of zs) k (k + 1) d.0 keys (omega arith) (omega (arith, l, length-map zs (λ e. e.0))) in
                let here = get_or-map (λ e. e.0) zs k d in
                let next = get_or-map (λ e. e.0) zs (k + 1) d in
                inr (same, comes_first one.0 other.0 order (sym (ap (λ x. pointwise nat_eq x other.0) here) ∙ sym (ap (λ y. pointwise nat_eq (get_or (keys_of zs) k d.0) y) next) ∙ apart))
          ] refl;
    }

pub seqnos_rise : SeqnosRise
seqnos_rise = lists_all
