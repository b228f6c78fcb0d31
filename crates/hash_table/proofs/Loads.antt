-- a map from its entries in another order
use Rattle.std.proofs.Common.{◌≡◌, ℕ, List, map, sym, ◌∙◌, subst}
use Rattle.std.specs.Prelude.{nat_eq}
use Rattle.std.specs.FinMap as finite
use Rattle.std.specs.FinMap.{entries}
use Rattle.std.specs.List.{IsDistinct}
use Rattle.std.specs.List.Sorted.{IsPermutation}
use Rattle.std.specs.Map.{keys_of}
use Rattle.std.specs.Cmp.Lexicographic.{pointwise}
use Rattle.std.proofs.lemmas.Cmp.{nat_list_eq_equiv}
use Rattle.std.proofs.lemmas.List.Sorted.{IsPermutation-map}
use Rattle.std.proofs.lemmas.Map.Keys.{IsDistinct-IsPermutation}
use Rattle.vb_types.specs.Keys.{key_cmp}
use Rattle.hash_table.specs.Tables.{put_all}
use Rattle.hash_table.proofs.Finds.{reordered}
use Rattle.hash_table.proofs.Listed.{distinct}
use Rattle.hash_table.proofs.Orders.{found_moved}
use Rattle.hash_table.proofs.Puts.{put_entries, put_from_empty}

pub put_moved : {A X : Type 0} (f : A → List ℕ × X) (ps qs : List A) (m : finite.FinMap key_cmp X) → map f ps ≡ entries m → IsPermutation ps qs → put_all finite.empty (map f qs) ≡ m
put_moved {A} {X} f ps qs m made moved =
    let es : List (List ℕ × X) = entries m in
    let fs : List (List ℕ × X) = map f qs in
    let perm : IsPermutation es fs = subst (λ xs. IsPermutation xs fs) made (IsPermutation-map f ps qs moved) in
    let apart : IsDistinct (pointwise nat_eq) (keys_of fs) = IsDistinct-IsPermutation (pointwise nat_eq) nat_list_eq_equiv.symm (keys_of es) (keys_of fs) (IsPermutation-map (λ e. e.0) es fs perm) (distinct m) in
    put_from_empty fs ∙ reordered es fs (λ q. found_moved es fs q perm (distinct m) apart) ∙ sym (put_from_empty es) ∙ put_entries m
