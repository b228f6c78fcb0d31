-- one more journal of a load
use Rattle.std.proofs.Common.{◌≡◌, ◌<◌, ◌+◌, ◌++◌, ◌∷◌, [], ℕ, List, length, map, take, get_or, reverse, append_assoc, append-nil, sym, ap, ◌∙◌, subst}
use Rattle.std.proofs.lemmas.Grind.{fold-append}
use Rattle.std.proofs.lemmas.List.{length-append, map_more}
use Rattle.std.proofs.lemmas.List.Elements.{filter-append}
use Rattle.std.specs.Prelude.{filter}
use Rattle.disk_journals.specs.Books.{Book}
use Rattle.disk_journals.specs.Opening.{book_of}
use Rattle.disk_journals.specs.declared.opening.OpenJournal.{OpenJournal}
use Rattle.vb_calls.specs.States.{States}
use Rattle.vbucket.specs.Stands.{SlotsStand}
use Rattle.vbucket.specs.declared.vb_map.VbSlot.{VbSlot}
use Rattle.node_core.specs.Loading.{active_in, active_ones, is_there, loaded_states, with_loaded}

loaded_next : (n : ℕ) (books : List Book) (b : Book) → loaded_states n (books ++ b ∷ []) ≡ with_loaded n (loaded_states n books) b.0 b.1
loaded_next n books b = fold-append _ _ books (b ∷ [])

active_next : (books : List Book) (b : Book) → active_ones (books ++ b ∷ []) ≡ active_ones books ++ active_in b
active_next [] b = append-nil (active_in b)
active_next (a ∷ books) b = ap (λ ns. active_in a ++ ns) (active_next books b) ∙ sym (append_assoc (active_in a) (active_ones books) (active_in b))

made_next : (books : List Book) (b : Book) → length (filter is_there (books ++ b ∷ [])) ≡ length (filter is_there books) + length (filter is_there (b ∷ []))
made_next books b = ap length (filter-append is_there books (b ∷ [])) ∙ length-append (filter is_there books) (filter is_there (b ∷ []))

module _ {D : Type 0} where
  next_book : (opened : List (OpenJournal D)) (i : ℕ) (o : OpenJournal D) → i < length opened → o ≡ get_or opened i o → map book_of (take (i + 1) opened) ≡ map book_of (take i opened) ++ book_of o ∷ []
  next_book opened i o lt is = map_more book_of opened i o lt ∙ ap (λ x. map book_of (take i opened) ++ book_of x ∷ []) (sym is)

  pub stand_next : (n : ℕ) (opened : List (OpenJournal D)) (i : ℕ) (o : OpenJournal D) (vbs new : List VbSlot) → i < length opened → o ≡ get_or opened i o → SlotsStand vbs (loaded_states n (map book_of (take i opened))) → ((states : States) → SlotsStand vbs states → SlotsStand new (with_loaded n states o.number (reverse o.records))) → SlotsStand new (loaded_states n (map book_of (take (i + 1) opened)))
  stand_next n opened i o vbs new lt is stand step =
      subst (λ states. SlotsStand new states) (sym (ap (λ books. loaded_states n books) (next_book opened i o lt is) ∙ loaded_next n (map book_of (take i opened)) (book_of o)))
      (step (loaded_states n (map book_of (take i opened))) stand)

  pub active_more : (opened : List (OpenJournal D)) (i : ℕ) (o : OpenJournal D) (old new : List ℕ) → i < length opened → o ≡ get_or opened i o → old ≡ active_ones (map book_of (take i opened)) → new ≡ old ++ active_in (book_of o) → new ≡ active_ones (map book_of (take (i + 1) opened))
  active_more opened i o old new lt is was grew =
      grew ∙ ap (λ ns. ns ++ active_in (book_of o)) was ∙ sym (ap active_ones (next_book opened i o lt is) ∙ active_next (map book_of (take i opened)) (book_of o))

  pub made_more : (opened : List (OpenJournal D)) (i : ℕ) (o : OpenJournal D) (old one : ℕ) → i < length opened → o ≡ get_or opened i o → old ≡ length (filter is_there (map book_of (take i opened))) → one ≡ length (filter is_there (book_of o ∷ [])) → old + one ≡ length (filter is_there (map book_of (take (i + 1) opened)))
  made_more opened i o old one lt is was more =
      ap (λ n. n + one) was ∙ ap (λ n. length (filter is_there (map book_of (take i opened))) + n) more ∙ sym (ap (λ books. length (filter is_there books)) (next_book opened i o lt is) ∙ made_next (map book_of (take i opened)) (book_of o))
