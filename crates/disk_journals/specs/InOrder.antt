-- in which order journals are listed
use Rattle.std.specs.Prelude.{◌≡◌, ℕ, ◌==◌, ◌<◌, if◌then◌else◌, List, [], ◌∷◌, Option, None, Some}
use Rattle.vb_types.specs.declared.journal.Record.{Record}
use Rattle.disk_journals.specs.Books.{Book, listed, listed_below}

-- this number is below that of each of these
abbrev pub IsBelowEach : ℕ → List Book → Type 0
IsBelowEach n [] = Unit {0}
IsBelowEach n (b ∷ bs) = (n < b.0) × IsBelowEach n bs

-- the number of each of these is below those of all that stand behind it
abbrev pub Rise : List Book → Type 0
Rise [] = Unit {0}
Rise (b ∷ bs) = IsBelowEach b.0 bs × Rise bs

-- journals at 2 and at 5
abbrev pub at_2_and_5 : List Record → List Record → ℕ → Option (List Record)
at_2_and_5 two five = λ v. if v == 5 then Some five else if v == 2 then Some two else None

-- The numbers of all that are listed rise; of two journals the one at 2 comes first, and the one at 5 behind it.
pub record ListsInOrder : Type 0 where
  pub rise : (journals : ℕ → Option (List Record)) → Rise (listed journals)
  pub pair : (two five : List Record) → listed_below 6 (at_2_and_5 two five) ≡ (2, two) ∷ (5, five) ∷ []
