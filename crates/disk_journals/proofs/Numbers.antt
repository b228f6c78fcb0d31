-- arms and crashes in numbers
use Rattle.std.proofs.Common.{◌≡◌, ◌≢◌, ◌<◌, ◌≤◌, ◌+◌, ℕ, zero, suc, Bool, true, false, List, refl, sym, ap, ◌∙◌, subst, arith, Option, Some, None}
use Rattle.std.specs.Prelude.{◌==◌, if◌then◌else◌, find, option_map, option_to_list}
use Rattle.std.specs.Option.{option_or}
use Rattle.std.proofs.lemmas.Bool.{eqb-true, eq-eqb, false_from_ne_true}
use Rattle.std.proofs.lemmas.List.Folds.{find-append}
use Rattle.vb_disk.specs.declared.fuse.Fuse.TheVariants.{Off}
use Rattle.vb_calls.specs.Shelves.{open_shelf}
use Rattle.vb_types.specs.declared.journal.Record.{Record}
use Rattle.disk_journals.specs.ArmLaws.{BrokenInNumbers, LeftInNumbers, ListsAll, OpensInNumbers}
use Rattle.disk_journals.specs.Arms.{opens_all}
use Rattle.disk_journals.specs.Books.{Book, book_at, listed, listed_below, opened_shelf}
use Rattle.disk_journals.specs.declared.crash.TheConstants.{NUMBERS}
use Rattle.disk_journals.proofs.Crashing.{listed_more}

pub broken_in_numbers : (book : List Record) (r : Record) → BrokenInNumbers book r
broken_in_numbers book r = record {
  stop_1 = record { closed = refl; book = refl; late = refl; off = refl };
  stop_2 = record { closed = refl; book = refl; late = refl; off = refl };
  stop_3 = record { closed = refl; book = refl; late = refl; off = refl };
  stop_4 = record { closed = refl; book = refl; late = refl; off = refl };
  fail_1 = record { closed = refl; book = refl; late = refl; off = refl };
  fail_2 = record { closed = refl; book = refl; late = refl; off = refl };
  fail_3 = record { closed = refl; book = refl; late = refl; off = refl };
  fail_4 = record { closed = refl; book = refl; late = refl; off = refl };
  stop_5 = refl;
  fail_9 = refl;
  off = refl;
}

pub left_in_numbers : (book : List Record) (r : Record) → LeftInNumbers book r
left_in_numbers book r = record { old = refl; new = refl; zero_byte = refl; one_byte = refl; early = refl; unwritten = refl; done = refl }

none_hit : (n : ℕ) → opens_all Off n ≡ true
none_hit zero = refl
none_hit (suc n) = none_hit n

pub opens_in_numbers : OpensInNumbers
opens_in_numbers = record { two = refl; three = refl; first = refl; none = refl; zero = refl; off = none_hit }

-- the book of a number, in what stands at one number
find_here : (v : ℕ) (o : Option (List Record)) → find (λ (b : Book). b.0 == v) (option_to_list (option_map (λ js. (v, js)) o)) ≡ option_map (λ js. (v, js)) o
find_here v None = refl
find_here v (Some js) = ap (λ b. if b then Some (v, js) else None) (eq-eqb v v refl)

find_other : (v w : ℕ) (o : Option (List Record)) → v ≢ w → find (λ (b : Book). b.0 == w) (option_to_list (option_map (λ js. (v, js)) o)) ≡ None
find_other v w None other = refl
find_other v w (Some js) other = ap (λ b. if b then Some (v, js) else None) (false_from_ne_true (v == w) (λ e. other (eqb-true v w e)))

or_none : (o : Option Book) → option_or o None ≡ o
or_none None = refl
or_none (Some b) = refl

false_true : false ≡ true → ⊥
false_true f = cc

module _ (journals : ℕ → Option (List Record)) (v : ℕ) where
  abbrev is : Book → Bool
  is b = b.0 == v

  above : (n : ℕ) → n ≤ v → find is (listed_below n journals) ≡ None
  above zero le = refl
  above (suc n) le =
      let next : suc n ≡ n + 1 = omega arith in
      ap (λ m. find is (listed_below m journals)) next ∙ ap (find is) (listed_more n journals) ∙ find-append is (listed_below n journals) (book_at journals n)
      ∙ ap (λ o. option_or o (find is (book_at journals n))) (above n (omega (arith, le))) ∙ find_other n v (journals n) (λ e. below_itself e)
    where
      below_itself : n ≡ v → ⊥
      below_itself e = omega (arith, e, le)

  found_below : (n : ℕ) → v < n → find is (listed_below n journals) ≡ option_map (λ js. (v, js)) (journals v)
  found_below zero lt = absurd (omega (arith, lt))
  found_below (suc n) lt = by (λ lower. found_below n lower) (v == n) refl
    where
      step : find is (listed_below (suc n) journals) ≡ option_or (find is (listed_below n journals)) (find is (book_at journals n))
      step =
          let next : suc n ≡ n + 1 = omega arith in
          ap (λ m. find is (listed_below m journals)) next ∙ ap (find is) (listed_more n journals) ∙ find-append is (listed_below n journals) (book_at journals n)

      less : (v == n) ≡ false → v < n
      less e = omega (arith, lt, ne)
        where
          ne : v ≢ n
          ne same = false_true (sym e ∙ eq-eqb v n same)

      by : (v < n → find is (listed_below n journals) ≡ option_map (λ js. (v, js)) (journals v)) → (b : Bool) → (v == n) ≡ b → find is (listed_below (suc n) journals) ≡ option_map (λ js. (v, js)) (journals v)
      by rest true e =
          let same : v ≡ n = eqb-true v n e in
          step ∙ ap (λ o. option_or o (find is (book_at journals n))) (above n (omega (arith, same)))
          ∙ subst (λ m. find is (book_at journals m) ≡ option_map (λ js. (v, js)) (journals v)) same (find_here v (journals v))
      by rest false e =
          let lower : v < n = less e in
          step ∙ ap (λ o. option_or (find is (listed_below n journals)) o) (find_other n v (journals n) (λ same. omega (arith, lower, same))) ∙ or_none (find is (listed_below n journals)) ∙ rest lower

shelf_of : (v : ℕ) (o : Option (List Record)) → option_map opened_shelf (option_map (λ js. (v, js)) o) ≡ option_map open_shelf o
shelf_of v None = refl
shelf_of v (Some js) = refl

pub lists_all : ListsAll
unfolding listed
lists_all = record {
  numbers = refl;
  there = λ journals v lt. found_below journals v NUMBERS lt;
  no_other = λ journals v le. above journals v NUMBERS le;
  opened = λ journals v lt. ap (option_map opened_shelf) (found_below journals v NUMBERS lt) ∙ shelf_of v (journals v);
}
