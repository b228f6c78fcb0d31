-- appending one thing after the other
use Rattle.std.proofs.Common.{◌≡◌, ℕ, ◌+◌, ◌<◌, ◌++◌, List, [], ◌∷◌, length, take, get_or, ap, sym, ◌∙◌, subst}
use Rattle.std.specs.List.{flat_map, All}
use Rattle.std.proofs.lemmas.List.{take_more, flat_map_more}
use Rattle.std.proofs.lemmas.List.Elements.{All-more}

module _ {X : Type 0} where
  -- where the bytes of the first i are appended, and then those of the next, the bytes of one more are
  pub bytes_more : (f : X → List ℕ) (xs : List X) (i : ℕ) (x d : X) (before now after : List ℕ) → i < length xs → x ≡ get_or xs i d
      → now ≡ before ++ flat_map f (take i xs) → after ≡ now ++ f x → after ≡ before ++ flat_map f (take (i + 1) xs)
  bytes_more f xs i x d before now after lt is h e =
      e ∙ ap (λ l. l ++ f x) h ∙ flat_map_more f before (take i xs) x
      ∙ ap (λ l. before ++ flat_map f l) (ap (λ y. take i xs ++ y ∷ []) is ∙ sym (take_more xs i d lt))

  -- what holds of the first i and of the next holds of one more
  pub all_more : (P : X → Type 0) (xs : List X) (i : ℕ) (x d : X) → i < length xs → x ≡ get_or xs i d → All P (take i xs) → P x → All P (take (i + 1) xs)
  all_more P xs i x d lt is h p = All-more P xs i d lt h (subst P is p)
