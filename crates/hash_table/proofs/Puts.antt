-- a map with entries that are put from the last to the first
use Rattle.std.proofs.Common.{◌≡◌, ℕ, suc, zero, ◌<◌, ◌≤◌, List, [], ◌∷◌, refl, length, map, drop, get_or, arith, ap, sym, ◌∙◌}
use Rattle.std.specs.Prelude.{◌-◌}
use Rattle.std.specs.FinMap as finite
use Rattle.std.specs.FinMap.{get-entries, get-from_entries, same_map, slice_cmp-IsAntisymmetric, nat_cmp-IsAntisymmetric}
use Rattle.std.specs.Cmp.Lexicographic.{nat_list_cmp_total}
use Rattle.vb_types.specs.Keys.{key_cmp}
use Rattle.hash_table.specs.Tables.{put_all}

-- all entries from the empty map make the map of the entries
pub put_from_empty : {X : Type 0} (es : List (List ℕ × X)) → put_all finite.empty es ≡ finite.from_entries {R = key_cmp} es
put_from_empty [] = refl
put_from_empty (e ∷ es) = ap (λ m. finite.insert m e.0 e.1) (put_from_empty es)

-- a map is made of its entries
pub put_entries : {X : Type 0} (m : finite.FinMap key_cmp X) → put_all finite.empty (finite.entries m) ≡ m
put_entries m = put_from_empty (finite.entries m) ∙ same_map nat_list_cmp_total (slice_cmp-IsAntisymmetric nat_cmp-IsAntisymmetric) _ _ (λ q. get-from_entries nat_list_cmp_total (finite.entries m) q ∙ sym (get-entries m q))

module _ {A X : Type 0} (f : A → List ℕ × X) (m : finite.FinMap key_cmp X) (d : A) where
  put_at : (xs : List A) (n : ℕ) → n < length xs → put_all m (drop n (map f xs)) ≡ finite.insert (put_all m (drop (suc n) (map f xs))) (f (get_or xs n d)).0 (f (get_or xs n d)).1
  put_at [] n h = absurd (omega arith)
  put_at (x ∷ xs) zero h = refl
  put_at (x ∷ xs) (suc n) h = put_at xs n (omega arith)

  -- the entry before a place is put on those from there on
  pub put_before : (xs : List A) (at : ℕ) → 0 < at → at ≤ length xs → get_or xs (at - 1) d ≡ d → put_all m (drop (at - 1) (map f xs)) ≡ finite.insert (put_all m (drop at (map f xs))) (f d).0 (f d).1
  put_before xs at l h is =
      let back : suc (at - 1) ≡ at = omega arith in
      put_at xs (at - 1) (omega arith)
      ∙ ap (λ n. finite.insert (put_all m (drop n (map f xs))) (f (get_or xs (at - 1) d)).0 (f (get_or xs (at - 1) d)).1) back
      ∙ ap (λ x. finite.insert (put_all m (drop at (map f xs))) (f x).0 (f x).1) is
