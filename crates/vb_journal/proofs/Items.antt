-- reading changes one after the other
use Rattle.std.proofs.Common.{◌≡◌, ℕ, zero, suc, ◌<◌, ◌++◌, List, [], ◌∷◌, refl, ap, sym, ◌∙◌, arith, append_assoc, append-nil}
use Rattle.std.specs.Prelude.{Option, Some, None, option_and_then}
use Rattle.vb_types.specs.declared.change.Change.{Change}
use Rattle.vb_journal.specs.Payloads.{front_map, item_in, items_in}

-- no change is left to read
pub items_done : (n : ℕ) (items : List Change) (rest : List ℕ) → n ≡ 0 → Some (items, rest) ≡ front_map (λ more. items ++ more) (items_in n rest)
unfolding items_in
items_done zero items rest e = λ i. Some (sym (append-nil items) i, rest)
items_done (suc n) items rest e = absurd (omega (arith, e))

-- the next one cannot be read
pub items_none : (n : ℕ) (items : List Change) (rest : List ℕ) → 0 < n → item_in rest ≡ None → None ≡ front_map (λ more. items ++ more) (items_in n rest)
unfolding items_in
items_none zero items rest h e = absurd (omega (arith, h))
items_none (suc n) items rest h e = ap (λ o. front_map (λ more. items ++ more) (option_and_then (λ item. front_map (λ more. item.0 ∷ more) (items_in n item.1)) o)) (sym e)

front_twice : (items : List Change) (c : Change) (o : Option (List Change × List ℕ)) → front_map (λ more. (items ++ c ∷ []) ++ more) o ≡ front_map (λ more. items ++ more) (front_map (λ more. c ∷ more) o)
front_twice items c None = refl
front_twice items c (Some (more, rest)) = λ i. Some (append_assoc items (c ∷ []) more i, rest)

-- the next one is read
pub items_next : (n m : ℕ) (items : List Change) (rest : List ℕ) (c : Change) (left : List ℕ) → n ≡ suc m → item_in rest ≡ Some (c, left)
    → front_map (λ more. (items ++ c ∷ []) ++ more) (items_in m left) ≡ front_map (λ more. items ++ more) (items_in n rest)
unfolding items_in
items_next n m items rest c left h e =
    front_twice items c (items_in m left)
    ∙ ap (λ o. front_map (λ more. items ++ more) (option_and_then (λ item. front_map (λ more. item.0 ∷ more) (items_in m item.1)) o)) (sym e)
    ∙ ap (λ k. front_map (λ more. items ++ more) (items_in k rest)) (sym h)
