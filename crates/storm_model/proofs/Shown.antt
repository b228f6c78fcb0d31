-- the documents of an image, as keys and values
use Rattle.std.proofs.Common.{◌≡◌, ℕ, Bool, true, false, T, cond, ◌&&◌, List, [], ◌∷◌, map, Option, Some, refl, ap, sym, ◌∙◌, subst}
use Rattle.std.specs.Option.{option_map}
use Rattle.std.specs.List.{IsDistinct, AllByRecursion}
use Rattle.std.specs.FinMap as finite
use Rattle.std.specs.FinMap.{entries, entries_sorted, get-entries, slice_cmp-IsAntisymmetric, nat_cmp-IsAntisymmetric}
use Rattle.std.specs.FinMap.Entries.{find, is_sorted, below_all, same_entries}
use Rattle.std.specs.Ordering.{eq_by_cmp, is_lt, is_eq}
use Rattle.std.specs.declared.cmp.Ordering.{Ordering}
use Rattle.std.specs.declared.cmp.Ordering.TheVariants.{Less, Equal, Greater}
use Rattle.std.specs.Cmp.Lexicographic.{nat_list_cmp_total}
use Rattle.vb_types.specs.Keys.{key_cmp}
use Rattle.vb_types.specs.Images.{Picture}
use Rattle.vb_types.specs.declared.doc.Doc.{Doc}
use Rattle.storm_model.specs.Sums.{contents}

abbrev pub value_in : Option Doc → Option (List ℕ)
value_in o = option_map (λ d. d.value) o

abbrev values : List (List ℕ × Doc) → List (List ℕ × List ℕ)
values es = map (λ e. (e.0, e.1.value)) es

find_by : (b : Bool) (d : Doc) (o : Option Doc) (p : Option (List ℕ)) → p ≡ value_in o → cond b (Some d.value) p ≡ value_in (cond b (Some d) o)
find_by true d o p e = refl
find_by false d o p e = e

find_values : (q : List ℕ) (es : List (List ℕ × Doc)) → find key_cmp q (values es) ≡ value_in (find key_cmp q es)
find_values q [] = refl
find_values q (e ∷ es) = find_by (eq_by_cmp key_cmp q e.0) e.1 (find key_cmp q es) (find key_cmp q (values es)) (find_values q es)

below_values : (x : List ℕ) (es : List (List ℕ × Doc)) → below_all key_cmp x (values es) ≡ below_all key_cmp x es
below_values x [] = refl
below_values x (e ∷ es) = ap (λ b. is_lt (key_cmp x e.0) && b) (below_values x es)

sorted_values : (es : List (List ℕ × Doc)) → is_sorted key_cmp (values es) ≡ is_sorted key_cmp es
sorted_values [] = refl
sorted_values (e ∷ es) = (λ i. below_values e.0 es i && sorted_values es i)

pub contents_sorted : (p : Picture) → T (is_sorted key_cmp (contents p))
contents_sorted p = subst T (sym (sorted_values (entries p.docs))) (entries_sorted p.docs)

-- images with these values at all keys have these contents
pub contents_is : (p : Picture) (m : finite.FinMap key_cmp (List ℕ)) → ((q : List ℕ) → value_in (finite.get p.docs q) ≡ finite.get m q) → contents p ≡ entries m
contents_is p m h = same_entries key_cmp nat_list_cmp_total (slice_cmp-IsAntisymmetric nat_cmp-IsAntisymmetric) (contents p) (entries m) (contents_sorted p) (entries_sorted m)
    (λ q. find_values q (entries p.docs) ∙ ap value_in (sym (get-entries p.docs q)) ∙ h q ∙ get-entries m q)

-- images with the same documents have the same contents
pub contents_same : (p q : Picture) → ((k : List ℕ) → finite.get p.docs k ≡ finite.get q.docs k) → contents p ≡ contents q
contents_same p q h = same_entries key_cmp nat_list_cmp_total (slice_cmp-IsAntisymmetric nat_cmp-IsAntisymmetric) (contents p) (contents q) (contents_sorted p) (contents_sorted q)
    (λ k. find_values k (entries p.docs) ∙ ap value_in (sym (get-entries p.docs k) ∙ h k ∙ get-entries q.docs k) ∙ sym (find_values k (entries q.docs)))

-- ---- no two keys are equal

first : (a b : Bool) → T (a && b) → T a
first true b p = tt
first false b p = p

second : (a b : Bool) → T (a && b) → T b
second true b p = p
second false b p = absurd p

less_apart : (o : Ordering) → T (is_lt o) → is_eq o ≡ false
less_apart Less t = refl
less_apart Equal t = absurd t
less_apart Greater t = refl

all_apart : {X : Type 0} (x : List ℕ) (es : List (List ℕ × X)) → T (below_all key_cmp x es) → AllByRecursion (λ y. eq_by_cmp key_cmp x y ≡ false) (map (λ e. e.0) es)
all_apart x [] t = tt
all_apart x (e ∷ es) t = (less_apart (key_cmp x e.0) (first _ _ t), all_apart x es (second _ _ t))

pub keys_apart : {X : Type 0} (es : List (List ℕ × X)) → T (is_sorted key_cmp es) → IsDistinct (eq_by_cmp key_cmp) (map (λ e. e.0) es)
unfolding IsDistinct
keys_apart [] t = tt
keys_apart (e ∷ es) t = (all_apart e.0 es (first _ _ t), keys_apart es (second _ _ t))
