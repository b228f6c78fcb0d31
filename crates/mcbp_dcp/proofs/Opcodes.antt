-- opcodes and their numbers
use Rattle.std.proofs.Common.{◌≡◌, ℕ, Bool, true, false, List, [], ◌∷◌, Some, refl, ap, sym, ◌∙◌, cond}
use Rattle.std.specs.Prelude.{◌==◌, ◌||◌}
use Rattle.std.specs.List.{find, list_any}
use Rattle.std.specs.Option.{is_some}
use Rattle.std.proofs.lemmas.Bool.{eqb-true}
use Rattle.mcbp_dcp.specs.declared.opcode.Opcode.{Opcode}
use Rattle.mcbp_dcp.specs.Opcodes.{opcode_number, opcodes, opcode_of}

module _ {X : Type 0} where
  some_by : (t : Bool) (x : X) (test : X → Bool) (xs : List X) → is_some (find test xs) ≡ list_any test xs → is_some (cond t (Some x) (find test xs)) ≡ (t || list_any test xs)
  some_by true x test xs h = refl
  some_by false x test xs h = h

  -- an item is found where one passes
  pub some_found : (test : X → Bool) (xs : List X) → is_some (find test xs) ≡ list_any test xs
  some_found test [] = refl
  some_found test (x ∷ xs) = some_by (test x) x test xs (some_found test xs)

found_by : (n : ℕ) (x o : Opcode) (os : List Opcode) (t : Bool) → (opcode_number x == n) ≡ t → (find (λ p. opcode_number p == n) os ≡ Some o → n ≡ opcode_number o)
    → cond t (Some x) (find (λ p. opcode_number p == n) os) ≡ Some o → n ≡ opcode_number o
found_by n x o os true t more e = let same : x ≡ o = cc in sym (eqb-true (opcode_number x) n t) ∙ ap opcode_number same
found_by n x o os false t more e = more e

found : (n : ℕ) (o : Opcode) (os : List Opcode) → find (λ p. opcode_number p == n) os ≡ Some o → n ≡ opcode_number o
found n o [] e = cc
found n o (x ∷ os) e = found_by n x o os (opcode_number x == n) refl (found n o os) e

-- an opcode that is found has the number
pub number_of : (n : ℕ) (o : Opcode) → opcode_of n ≡ Some o → n ≡ opcode_number o
number_of n o e = found n o opcodes e
