-- the last change that passes, read from the end
use Rattle.std.proofs.Common.{◌≡◌, Bool, true, false, List, [], ◌∷◌, ◌++◌, refl, ap, ◌∙◌}
use Rattle.std.specs.Prelude.{Option, Some, None, if◌then◌else◌}
use Rattle.std.specs.Option.{option_or}
use Rattle.vb_types.specs.declared.change.Change.{Change}
use Rattle.vb_types.specs.Histories.{last_by}

over : (b : Bool) (c : Change) (o p : Option Change) → option_or (if b then Some c else o) p ≡ (if b then Some c else option_or o p)
over true c o p = refl
over false c o p = refl

pub last_by_pushed : (test : Change → Bool) (xs : List Change) (c : Change) → last_by test (xs ++ c ∷ []) ≡ (if test c then Some c else last_by test xs)
last_by_pushed test [] c = refl
last_by_pushed test (x ∷ xs) c = ap (λ o. option_or o (if test x then Some x else None)) (last_by_pushed test xs c) ∙ over (test c) c (last_by test xs) (if test x then Some x else None)
