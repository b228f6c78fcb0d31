-- the numbers of the journals that are listed rise
use Rattle.std.proofs.Common.{◌≡◌, ◌<◌, ◌+◌, ℕ, zero, suc, List, [], ◌∷◌, ◌++◌, refl, sym, subst, arith, Option, None, Some}
use Rattle.vb_types.specs.declared.journal.Record.{Record}
use Rattle.std.specs.Prelude.{option_map, option_to_list}
use Rattle.disk_journals.specs.Books.{Book, book_at, listed, listed_below}
use Rattle.disk_journals.specs.InOrder.{IsBelowEach, Rise, ListsInOrder}
use Rattle.disk_journals.specs.declared.crash.TheConstants.{NUMBERS}
use Rattle.disk_journals.proofs.Crashing.{listed_more}

-- each number of these is below this one
AllBelow : ℕ → List Book → Type 0
AllBelow n [] = Unit {0}
AllBelow n (b ∷ bs) = (b.0 < n) × AllBelow n bs

module _ (journals : ℕ → Option (List Record)) (n : ℕ) where
  -- what stands at one number: that journal alone, or none
  below_it : (m : ℕ) → m < n → IsBelowEach m (book_at journals n)
  below_it m lt = by (journals n)
    where
      by : (o : Option (List Record)) → IsBelowEach m (option_to_list (option_map (λ js. (n, js)) o))
      by None = tt
      by (Some js) = (lt, tt)

  it_rises : Rise (book_at journals n)
  it_rises = by (journals n)
    where
      by : (o : Option (List Record)) → Rise (option_to_list (option_map (λ js. (n, js)) o))
      by None = tt
      by (Some js) = (tt, tt)

  it_is_below : AllBelow (n + 1) (book_at journals n)
  unfolding AllBelow
  it_is_below = by (journals n)
    where
      by : (o : Option (List Record)) → AllBelow (n + 1) (option_to_list (option_map (λ js. (n, js)) o))
      by None = tt
      by (Some js) = (omega arith, tt)

  -- behind journals of lower numbers
  still_below : (m : ℕ) (bs : List Book) → m < n → IsBelowEach m bs → IsBelowEach m (bs ++ book_at journals n)
  still_below m [] lt below = below_it m lt
  still_below m (b ∷ bs) lt below = (below.0, still_below m bs lt below.1)

  one_more : (bs : List Book) → AllBelow n bs → Rise bs → Rise (bs ++ book_at journals n)
  unfolding AllBelow
  one_more [] all rise = it_rises
  one_more (b ∷ bs) all rise = (still_below b.0 bs all.0 rise.0, one_more bs all.1 rise.1)

  all_more : (bs : List Book) → AllBelow n bs → AllBelow (n + 1) (bs ++ book_at journals n)
  unfolding AllBelow
  all_more [] all = it_is_below
  all_more (b ∷ bs) all = (omega (arith, all.0), all_more bs all.1)

both : (journals : ℕ → Option (List Record)) (n : ℕ) → AllBelow n (listed_below n journals) × Rise (listed_below n journals)
unfolding AllBelow
both journals zero = (tt, tt)
both journals (suc n) =
    let next : n + 1 ≡ suc n = omega arith in
    let lower = both journals n in
    subst (λ m. AllBelow m (listed_below m journals) × Rise (listed_below m journals)) next
    (subst (λ bs. AllBelow (n + 1) bs × Rise bs) (sym (listed_more n journals)) (all_more journals n (listed_below n journals) lower.0, one_more journals n (listed_below n journals) lower.0 lower.1))

pub lists_in_order : ListsInOrder
unfolding listed
lists_in_order = record { rise = λ journals. (both journals NUMBERS).1; pair = λ two five. refl }
