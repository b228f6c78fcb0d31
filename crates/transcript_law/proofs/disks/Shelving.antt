-- the books of a node that is down, by the numbers of its vBuckets: how many they are, and what is loaded of each
use Rattle.std.specs.Prelude.{◌≡◌, ◌<◌, ◌≤◌, ◌∷◌, ◌++◌, ◌==◌, ◌⊎◌, if◌then◌else◌, find, option_map, option_to_list}
use Rattle.std.proofs.lemmas.Bool.{eqb-true}
use Rattle.std.proofs.lemmas.Grind.{flat_map-append}
use Rattle.std.proofs.lemmas.List.Sums.{fold-append}
use Rattle.transcript_law.proofs.Words.{ℕ, zero, suc, Bool, true, false, List, [], refl, ap, sym, ◌∙◌, arith, inl, inr, ⊎_elim, Option, Some, None, append-nil, cases_lt, eqb-false, filter, flat_map, fold, is_some, length, ne_eqb, Plain, States}
use Rattle.transcript_law.proofs.disks.Disks.{book_in}
use Rattle.disk_journals.proofs.Numbers.{lists_all}
use Rattle.disk_journals.specs.Books.{Book, below, book_at, listed, listed_below, opened_shelves}
use Rattle.disk_journals.specs.declared.crash.TheConstants.{NUMBERS}
use Rattle.journal_points.specs.Points.{saved}
use Rattle.node_core.specs.Loading.{loaded_by, loaded_states, no_states, with_loaded}
use Rattle.vb_calls.specs.Shelves.{open_shelf}
use Rattle.vb_calls.specs.States.{make_at}
use Rattle.vb_types.specs.declared.journal.Record.{Record}

-- as many as there are numbers at which one is
pub count_in : (f : ℕ → Option (List Record)) (there : ℕ → Bool) → ((v : ℕ) → is_some (f v) ≡ there v) → (vs : List ℕ) → length (flat_map (book_at f) vs) ≡ length (filter there vs)
count_in f there e [] = refl
count_in f there e (v ∷ vs) = by (count_in f there e vs) (f v) refl
  where
    by : length (flat_map (book_at f) vs) ≡ length (filter there vs) → (o : Option (List Record)) → f v ≡ o
        → length (option_to_list (option_map (λ js. (v, js)) (f v)) ++ flat_map (book_at f) vs) ≡ length (if there v then v ∷ filter there vs else filter there vs)
    by more None q = ap (λ o. length (option_to_list (option_map (λ js. (v, js)) o) ++ flat_map (book_at f) vs)) q ∙ more ∙ ap (λ b. length (if b then v ∷ filter there vs else filter there vs)) (sym (ap is_some q) ∙ e v)
    by more (Some js) q = ap (λ o. length (option_to_list (option_map (λ js. (v, js)) o) ++ flat_map (book_at f) vs)) q ∙ ap suc more ∙ ap (λ b. length (if b then v ∷ filter there vs else filter there vs)) (sym (ap is_some q) ∙ e v)

pub count_listed : (f : ℕ → Option (List Record)) (there : ℕ → Bool) → ((v : ℕ) → is_some (f v) ≡ there v) → length (listed f) ≡ length (filter there (below 1024))
unfolding listed
count_listed f there e = count_in f there e (below NUMBERS)

-- what is loaded of a journal
abbrev pub loaded_of : ℕ → Option (List Record) → Option Plain
loaded_of n None = None
loaded_of n (Some []) = None
loaded_of n (Some (last ∷ older)) = Some (loaded_by n (saved (last ∷ older)))

module _ (n : ℕ) (f : ℕ → Option (List Record)) where
  abbrev step : States → Book → States
  step states book = with_loaded n states book.0 book.1

  abbrev up : ℕ → States
  up k = fold step no_states (listed_below k f)

  more : (k : ℕ) → up (suc k) ≡ fold step (up k) (book_at f k)
  more k =
      ap (fold step no_states) (flat_map-append (book_at f) (below k) (k ∷ []) ∙ ap (λ xs. listed_below k f ++ xs) (append-nil (book_at f k)))
      ∙ fold-append step no_states (listed_below k f) (book_at f k)

  -- the last number's
  last_one : (k v : ℕ) (states : States) → states k ≡ None → (o : Option (List Record)) → fold step states (option_to_list (option_map (λ js. (k, js)) o)) v ≡ (if v == k then loaded_of n o else states v)
  last_one k v states none None = elim (v == k) as (λ b. (v == k) ≡ b → states v ≡ (if b then None else states v)) [ true ↦ λ e. ap states (eqb-true v k e) ∙ none | false ↦ λ e. refl ] refl
  last_one k v states none (Some []) = elim (v == k) as (λ b. (v == k) ≡ b → states v ≡ (if b then None else states v)) [ true ↦ λ e. ap states (eqb-true v k e) ∙ none | false ↦ λ e. refl ] refl
  last_one k v states none (Some (last ∷ older)) = ap (λ o. (make_at states k (loaded_by n (saved (last ∷ older))) o).0 v) none

  -- none above, and each below
  none_above : (k v : ℕ) → k ≤ v → up k v ≡ None
  none_above zero v l = refl
  none_above (suc k) v l = ap (λ st. st v) (more k) ∙ last_one k v (up k) (none_above k k (omega arith)) (f k) ∙ ap (λ b. if b then loaded_of n (f k) else up k v) (ne_eqb v k (λ e. let z : v ≡ k = e in omega arith)) ∙ none_above k v (omega arith)

  each_below : (k v : ℕ) → v < k → up k v ≡ loaded_of n (f v)
  each_below zero v l = absurd (omega arith)
  each_below (suc k) v l = ap (λ st. st v) (more k) ∙ last_one k v (up k) (none_above k k (omega arith)) (f k) ∙ elim (v == k) as (λ b. (v == k) ≡ b → (if b then loaded_of n (f k) else up k v) ≡ loaded_of n (f v)) [
    | true ↦ λ e. ap (λ j. loaded_of n (f j)) (sym (eqb-true v k e))
    | false ↦ λ e. each_below k v (let ne : v ≡ k → ⊥ = eqb-false v k e in ⊎_elim (λ less. less) (λ same. absurd (ne same)) (less_or v k (omega arith)))
  ] refl
    where
      less_or : (a b : ℕ) → a ≤ b → (a < b) ⊎ (a ≡ b)
      less_or a b m = ⊎_elim (λ x. inl x) (λ x. inr (omega arith)) (cases_lt a b)

-- the vBucket and the journal that a load makes of the book at each number
module _ (n : ℕ) (books : List Book) (so : books ≡ listed (book_in books)) where
  pub loaded_at : (v : ℕ) → loaded_states n books v ≡ loaded_of n (book_in books v)
  unfolding listed
  loaded_at v = ap (λ bs. loaded_states n bs v) so ∙ ⊎_elim
      (λ low. each_below n (book_in books) NUMBERS v low)
      (λ high. none_above n (book_in books) NUMBERS v high ∙ ap (loaded_of n) (sym (ap (λ bs. book_in bs v) so ∙ ap (option_map (λ (b : Book). b.1)) (lists_all.no_other (book_in books) v high))))
      (cases_lt v NUMBERS)

pub opened_at_number : (books : List Book) (v : ℕ) → opened_shelves books v ≡ option_map open_shelf (book_in books v)
opened_at_number books v = elim (find (λ (b : Book). b.0 == v) books) as (λ (o : Option Book). option_map (λ (b : Book). open_shelf b.1) o ≡ option_map open_shelf (option_map (λ (b : Book). b.1) o)) [ None ↦ refl | Some b ↦ refl ]
