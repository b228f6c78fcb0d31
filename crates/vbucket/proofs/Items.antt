-- the seqno of the last change of a list
use Rattle.std.proofs.Common.{◌≡◌, ℕ, suc, List, [], ◌∷◌, length, ap, sym, ◌∙◌, arith}
use Rattle.std.specs.Prelude.{◌-◌, slice_get, Some}
use Rattle.vb_types.specs.declared.change.Change.{Change}
use Rattle.branch_model.specs.Histories.{last_seq}

further : (x y : Change) (ys : List Change) → slice_get (x ∷ y ∷ ys) (length (x ∷ y ∷ ys) - 1) ≡ slice_get (y ∷ ys) (length (y ∷ ys) - 1)
further x y ys = let e : length (x ∷ y ∷ ys) - 1 ≡ suc (length (y ∷ ys) - 1) = omega arith in ap (slice_get (x ∷ y ∷ ys)) e

pub last_some : (n : ℕ) (xs : List Change) (c : Change) → slice_get xs (length xs - 1) ≡ Some c → last_seq n xs ≡ c.seq
last_some n [] c e = cc
last_some n (x ∷ []) c e = let k : x ≡ c = cc in ap (λ (d : Change). d.seq) k
last_some n (x ∷ y ∷ ys) c e = last_some x.seq (y ∷ ys) c (sym (further x y ys) ∙ e)
