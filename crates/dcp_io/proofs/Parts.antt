-- parts of a list that are read or written in turns
use Rattle.std.proofs.Common.{◌≡◌, ℕ, ◌+◌, ◌-◌, List, ◌++◌, take, drop, length, sym, ap, ◌∙◌, arith}
use Rattle.std.proofs.lemmas.List.{take-append-drop, drop-drop, take_all, length-drop}

-- a slice from a place to the end
pub rest_from : (at : ℕ) (xs : List ℕ) → take (length xs - at) (drop at xs) ≡ drop at xs
rest_from at xs = take_all _ _ (omega (arith, length-drop at xs))

-- what was taken from a place stands in front of what is left behind it
pub taken_from : (at n : ℕ) (xs room : List ℕ) → take n room ≡ take n (take (length xs - at) (drop at xs)) → drop at xs ≡ take n room ++ drop (at + n) xs
taken_from at n xs room e = sym (take-append-drop n (drop at xs)) ∙ ap (λ ys. ys ++ drop n (drop at xs)) (sym (e ∙ ap (take n) (rest_from at xs)))
    ∙ ap (λ ys. take n room ++ ys) (drop-drop n at xs)
