-- trims and dropped cursors in numbers, by computation
use Rattle.std.proofs.Common.{◌≡◌, ℕ, ◌≤◌, Bool, true, false, cond, ◌||◌, List, [], ◌∷◌, length, refl, ap, sym, ◌∙◌, subst, inl, inr, ⊎_elim, arith}
use Rattle.std.specs.Prelude.{◌⊎◌, ◌==◌, if◌then◌else◌, Option, Some, None}
use Rattle.std.specs.FinMap as finite
use Rattle.std.specs.FinMap.{get-remove}
use Rattle.std.specs.Cmp.{nat_cmp_total, unsigned_tied}
use Rattle.std.specs.List.{AllByRecursion, fold, list_all, list_any}
use Rattle.std.specs.Ordering.{eq_by_cmp, nat_cmp}
use Rattle.std.specs.Str.{bytes_eq}
use Rattle.std.proofs.lemmas.Bool.{and_parts}
use Rattle.std.proofs.lemmas.Bool.Decides.{nat_tests}
use Rattle.checkpoint.proofs.Entered.{same_key}
use Rattle.vb_calls.specs.Trims.{ended_by}
use Rattle.cursor_set.specs.Cursors.{Places, least_with, min_with, place_of}
use Rattle.cursor_set.proofs.Leasts.{least_each, least_exact, least_le, least_reached}
use Rattle.ckpt_list.specs.Lists.{Ckpts}
use Rattle.ckpt_list.specs.Rehearsal.{Rehearsed, five, orders, place_in, told_of}
use Rattle.ckpt_list.specs.Trims.{trimmed}
use Rattle.ckpt_list.proofs.Sheds.{past}
use Rattle.vb_calls.specs.declared.span.Span.{Span}

-- one of these was dropped
abbrev is_gone : ℕ → List ℕ → Bool
is_gone id [] = false
is_gone id (n ∷ ns) = (id == n) || is_gone id ns

-- where a cursor stands then
abbrev left_at : List ℕ → ℕ → Option ℕ
left_at gone id = if is_gone id gone then None else place_in id

-- the least of the saved number and the places that are left
abbrev bound : List ℕ → ℕ
bound gone = fold (λ m id. min_with m (left_at gone id)) 8 (0 ∷ 1 ∷ 2 ∷ 3 ∷ [])

-- the same moves where the dropped ones are listed, of these spans
abbrev plain_of : List ℕ → List ℕ → List Span → List ℕ
plain_of [] gone ws = []
plain_of (m ∷ ms) gone ws = if m == 0 then length (ended_by (bound gone) ws) ∷ plain_of ms gone (past (λ w. w.last) (bound gone) ws) else plain_of ms (m ∷ gone) ws

left_more : (places : Places) (gone : List ℕ) (n : ℕ) → ((id : ℕ) → place_of places id ≡ left_at gone id) → (id : ℕ) → place_of (finite.remove places n) id ≡ left_at (n ∷ gone) id
left_more places gone n are id =
    get-remove nat_cmp_total places n id ∙ ap (λ b. cond b None (place_of places id)) (unsigned_tied id n) ∙ ap (cond (id == n) None) (are id) ∙ by (id == n) (is_gone id gone)
  where
    by : (a b : Bool) → cond a None (if b then None else place_in id) ≡ (if a || b then None else place_in id)
    by true b = refl
    by false b = refl

-- only four numbers have a place
known : (id p : ℕ) → place_in id ≡ Some p → list_any (eq_by_cmp nat_cmp id) (0 ∷ 1 ∷ 2 ∷ 3 ∷ []) ≡ true
known id p e = by (id == 0) (id == 1) (id == 2) (id == 3) refl refl refl refl e
  where
    here : (k : ℕ) → (id == k) ≡ true → list_any (eq_by_cmp nat_cmp k) (0 ∷ 1 ∷ 2 ∷ 3 ∷ []) ≡ true → list_any (eq_by_cmp nat_cmp id) (0 ∷ 1 ∷ 2 ∷ 3 ∷ []) ≡ true
    here k t is = let same : id ≡ k = grind (arith, nat_tests, t) in subst (λ n. list_any (eq_by_cmp nat_cmp n) (0 ∷ 1 ∷ 2 ∷ 3 ∷ []) ≡ true) (sym same) is

    by : (a b c d : Bool) → (id == 0) ≡ a → (id == 1) ≡ b → (id == 2) ≡ c → (id == 3) ≡ d
        → (if a then Some 10 else (if b then Some 3 else (if c then Some 5 else (if d then Some 7 else None)))) ≡ Some p → list_any (eq_by_cmp nat_cmp id) (0 ∷ 1 ∷ 2 ∷ 3 ∷ []) ≡ true
    by true b c d t u v w e = here 0 t refl
    by false true c d t u v w e = here 1 u refl
    by false false true d t u v w e = here 2 v refl
    by false false false true t u v w e = here 3 w refl
    by false false false false t u v w e = absurd (cc)

bounded : (places : Places) (gone : List ℕ) → ((id : ℕ) → place_of places id ≡ left_at gone id) → least_with places 8 ≡ bound gone
bounded places gone are = (least_exact places 8 (bound gone)).1 (reached, least_le (left_at gone) 8 (0 ∷ 1 ∷ 2 ∷ 3 ∷ []), each)
  where
    reached : (bound gone ≡ 8) ⊎ ((id : ℕ) × (place_of places id ≡ Some (bound gone)))
    reached = ⊎_elim (λ e. inl e) (λ r. inr (r.0, are r.0 ∙ r.1)) (least_reached (left_at gone) 8 (0 ∷ 1 ∷ 2 ∷ 3 ∷ []))

    each : (id p : ℕ) → place_of places id ≡ Some p → bound gone ≤ p
    each id p e = let at : left_at gone id ≡ Some p = sym (are id) ∙ e in least_each (left_at gone) 8 (0 ∷ 1 ∷ 2 ∷ 3 ∷ []) id p (by (is_gone id gone) at) at
      where
        by : (b : Bool) → (if b then None else place_in id) ≡ Some p → list_any (eq_by_cmp nat_cmp id) (0 ∷ 1 ∷ 2 ∷ 3 ∷ []) ≡ true
        by true e = absurd (cc)
        by false e = known id p e

plain : (ms gone : List ℕ) (l : Ckpts) → ((id : ℕ) → place_of l.places id ≡ left_at gone id) → told_of ms l ≡ plain_of ms gone l.sealed
plain [] gone l are = refl
plain (m ∷ ms) gone l are = by (m == 0) (plain ms gone (trimmed l 8).0 are) (plain ms (m ∷ gone) (record l { places = finite.remove l.places m }) (left_more l.places gone m are))
  where
    by : (b : Bool) → told_of ms (trimmed l 8).0 ≡ plain_of ms gone (trimmed l 8).0.sealed → told_of ms (record l { places = finite.remove l.places m }) ≡ plain_of ms (m ∷ gone) l.sealed
        → (if b then (trimmed l 8).1 ∷ told_of ms (trimmed l 8).0 else told_of ms (record l { places = finite.remove l.places m }))
        ≡ (if b then length (ended_by (bound gone) l.sealed) ∷ plain_of ms gone (past (λ w. w.last) (bound gone) l.sealed) else plain_of ms (m ∷ gone) l.sealed)
    by true t d = ap (λ ns. (trimmed l 8).1 ∷ ns) t ∙ ap (λ n. length (ended_by n l.sealed) ∷ plain_of ms gone (past (λ w. w.last) n l.sealed)) (bounded l.places gone are)
    by false t d = d

module _ (places : Places) (are : (id : ℕ) → place_of places id ≡ place_in id) where
  each_order : (told : List ℕ) (os : List (List ℕ)) → list_all (λ o. bytes_eq (plain_of o [] (five places).sealed) told) os ≡ true → AllByRecursion (λ o. told_of o (five places) ≡ told) os
  each_order told [] e = tt
  each_order told (o ∷ os) e = let k = and_parts _ _ e in (plain o [] (five places) are ∙ same_key _ _ k.0, each_order told os k.1)

  each_group : (gs : List (List ℕ × List (List ℕ))) → list_all (λ g. list_all (λ o. bytes_eq (plain_of o [] (five places).sealed) g.0) g.1) gs ≡ true → AllByRecursion (λ g. AllByRecursion (λ o. told_of o (five places) ≡ g.0) g.1) gs
  each_group [] e = tt
  each_group (g ∷ gs) e = let k = and_parts _ _ e in (each_order g.0 g.1 k.0, each_group gs k.1)

pub rehearsed : Rehearsed
rehearsed places are = each_group places are orders refl
