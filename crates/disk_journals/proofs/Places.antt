-- the journal of a number, by its place in the list
use Rattle.std.proofs.Common.{◌≡◌, ℕ, ◌<◌, ◌≤◌, ◌≢◌, Bool, true, false, List, [], ◌∷◌, ◌++◌, length, get_or, set, refl, ap, sym, ◌∙◌, subst, arith, Option, Some, None}
use Rattle.std.specs.Prelude.{◌==◌, ◌||◌, if◌then◌else◌, is_some, nat_lt}
use Rattle.std.specs.List.{position, position_or_len, slice_get}
use Rattle.std.specs.Option.{option_or}
use Rattle.std.proofs.lemmas.Bool.{eqb-true, eqb-false, eq-eqb, false_from_ne_true}
use Rattle.std.proofs.lemmas.Bool.Decides.{nat_tests}
use Rattle.std.proofs.lemmas.List.Folds.{find_at, find-set, find_past, find-append}
use Rattle.std.proofs.lemmas.List.Quantifiers.{position-Some}
use Rattle.std.proofs.lemmas.Option.{slice_get-get_or, slice_get_past}
use Rattle.disk_journals.specs.Seen.{Seen, place_in, seen_at, has_seen, flush_of, flush_in, flush_at}
use Rattle.vb_calls.specs.Shelves.{Idle}

-- one journal was changed, or added
pub record Changed {D : Type 0} (slots others : List (Seen D)) (v : ℕ) (new : Seen D) : Type 0 where
  pub rows : (w : ℕ) → seen_at others w ≡ (if w == v then Some new else seen_at slots w)

first_by : (n i : ℕ) (b : Bool) → (if b then Some n else None) ≡ Some i → i ≡ n
first_by n i true e = cc
first_by n i false e = cc

none_by : (n len : ℕ) (b : Bool) → nat_lt n len ≡ b → (if b then Some n else None) ≡ None → len ≤ n
none_by n len true e none = cc
none_by n len false e none = grind (arith, nat_tests)

pub ne-eqb : (a b : ℕ) → a ≢ b → (a == b) ≡ false
ne-eqb a b ne = false_from_ne_true (a == b) (λ e. ne (eqb-true a b e))

module _ {D : Type 0} where
  -- a place is the first one
  is_first : (p : Seen D → Bool) (slots : List (Seen D)) (i : ℕ) → position p slots ≡ Some i → i ≡ position_or_len p slots
  is_first p slots i place = first_by (position_or_len p slots) i (nat_lt (position_or_len p slots) (length slots)) place

  module _ (slots : List (Seen D)) (v : ℕ) where
    -- no place, no journal
    pub no_place : position (λ s. s.number == v) slots ≡ None → seen_at slots v ≡ None
    no_place place =
        let p : Seen D → Bool = λ s. s.number == v in
        let past : length slots ≤ position_or_len p slots = none_by (position_or_len p slots) (length slots) (nat_lt (position_or_len p slots) (length slots)) refl place in
        find_at p slots ∙ slice_get_past slots (position_or_len p slots) past

    module _ (i : ℕ) (old : Seen D) (place : position (λ s. s.number == v) slots ≡ Some i) (is : old ≡ get_or slots i old) where
      -- the journal at the first place
      pub at_place : seen_at slots v ≡ Some old
      at_place =
          let p : Seen D → Bool = λ s. s.number == v in
          let (lt, here, before) = position-Some p slots i old place in
          find_at p slots ∙ ap (λ n. slice_get slots n) (sym (is_first p slots i place)) ∙ slice_get-get_or slots i old lt ∙ ap Some (sym is)

      pub numbered : old.number ≡ v
      numbered =
          let p : Seen D → Bool = λ s. s.number == v in
          let (lt, here, before) = position-Some p slots i old place in
          ap (λ (s : Seen D). s.number) is ∙ eqb-true (get_or slots i old).number v here

      set_by : (new : Seen D) → new.number ≡ v → (w : ℕ) (b : Bool) → (w == v) ≡ b → seen_at (set slots i new) w ≡ (if b then Some new else seen_at slots w)
      set_by new same w true e =
          let p : Seen D → Bool = λ s. s.number == v in
          let (lt, here, before) = position-Some p slots i old place in
          ap (λ n. seen_at (set slots i new) n) (eqb-true w v e) ∙ find-set p slots i new (is_first p slots i place) lt (eq-eqb new.number v same)
      set_by new same w false e =
          let away : w ≢ v = eqb-false w v e in
          find_past (λ s. s.number == w) slots i new old
          (ap (λ (s : Seen D). s.number == w) (sym is) ∙ ne-eqb old.number w (λ f. away (sym f ∙ numbered)))
          (ne-eqb new.number w (λ f. away (sym f ∙ same)))

      -- another one in its place
      pub at_set : (new : Seen D) → new.number ≡ old.number → Changed slots (set slots i new) v new
      at_set new same = record { rows = λ w. set_by new (same ∙ numbered) w (w == v) refl }

    pushed : (new : Seen D) → seen_at slots v ≡ None → new.number ≡ v → (w : ℕ) (b : Bool) → (w == v) ≡ b → option_or (seen_at slots w) (if new.number == w then Some new else None) ≡ (if b then Some new else seen_at slots w)
    pushed new none same w true e =
        ap (λ n. option_or (seen_at slots n) (if new.number == n then Some new else None)) (eqb-true w v e)
        ∙ ap (λ o. option_or o (if new.number == v then Some new else None)) none
        ∙ ap (λ b. if b then Some new else None) (eq-eqb new.number v same)
    pushed new none same w false e =
        ap (λ b. option_or (seen_at slots w) (if b then Some new else None)) (ne-eqb new.number w (λ f. eqb-false w v e (sym f ∙ same))) ∙ or_none (seen_at slots w)
      where
        or_none : (o : Option (Seen D)) → option_or o None ≡ o
        or_none None = refl
        or_none (Some s) = refl

    -- one more, where none of its number was
    pub at_push : (new : Seen D) → seen_at slots v ≡ None → new.number ≡ v → Changed slots (slots ++ new ∷ []) v new
    at_push new none same = record { rows = λ w. find-append (λ s. s.number == w) slots (new ∷ []) ∙ pushed new none same w (w == v) refl }

  -- a journal that was changed twice
  again_by : (a b : Seen D) (rest : Option (Seen D)) (c : Bool) → (if c then Some b else rest) ≡ (if c then Some b else if c then Some a else rest)
  again_by a b rest true = refl
  again_by a b rest false = refl

  pub changed_again : (slots mids others : List (Seen D)) (v : ℕ) (mid new : Seen D) → Changed slots mids v mid → Changed slots others v new → Changed mids others v new
  changed_again slots mids others v mid new first both = record {
    rows = λ w. both.rows w ∙ again_by mid new (seen_at slots w) (w == v) ∙ ap (λ o. if w == v then Some new else o) (sym (first.rows w));
  }

  at_by : (new : Seen D) (rest : Option (Seen D)) (b : Bool) → b ≡ true → (if b then Some new else rest) ≡ Some new
  at_by new rest b e = ap (λ c. if c then Some new else rest) e

  -- it is there now
  pub changed_here : (slots others : List (Seen D)) (v : ℕ) (new : Seen D) → Changed slots others v new → seen_at others v ≡ Some new
  changed_here slots others v new changed = changed.rows v ∙ at_by new (seen_at slots v) (v == v) (eq-eqb v v refl)

  -- one number more is there
  pub changed_has : (slots others : List (Seen D)) (v : ℕ) (new : Seen D) → Changed slots others v new → (w : ℕ) → has_seen others w ≡ (w == v || has_seen slots w)
  changed_has slots others v new changed w = ap is_some (changed.rows w) ∙ by (w == v)
    where
      by : (b : Bool) → is_some (if b then Some new else seen_at slots w) ≡ (b || has_seen slots w)
      by true = refl
      by false = refl

  -- it is there already
  pub unchanged : (slots : List (Seen D)) (v : ℕ) (s : Seen D) → seen_at slots v ≡ Some s → Changed slots slots v s
  unchanged slots v s there = record { rows = λ w. by w (w == v) refl }
    where
      by : (w : ℕ) (b : Bool) → (w == v) ≡ b → seen_at slots w ≡ (if b then Some s else seen_at slots w)
      by w true e = ap (λ n. seen_at slots n) (eqb-true w v e) ∙ there
      by w false e = refl

  within : (xs : List (Seen D)) (n : ℕ) → n < length xs → is_some (slice_get xs n) ≡ true
  within [] n lt = absurd (omega arith)
  within (x ∷ xs) n lt = ap is_some (slice_get-get_or (x ∷ xs) n x lt)

  counted_by : (xs : List (Seen D)) (n : ℕ) (b : Bool) → nat_lt n (length xs) ≡ b → is_some (if b then Some n else None) ≡ is_some (slice_get xs n)
  counted_by xs n true lt = sym (within xs n (grind (arith, nat_tests)))
  counted_by xs n false lt = sym (ap is_some (slice_get_past xs n (grind (arith, nat_tests))))

  -- a journal is there exactly where it has a place
  pub placed : (slots : List (Seen D)) (v : ℕ) → is_some (place_in slots v) ≡ has_seen slots v
  unfolding place_in
  placed slots v =
      let p : Seen D → Bool = λ s. s.number == v in
      counted_by slots (position_or_len p slots) (nat_lt (position_or_len p slots) (length slots)) refl ∙ ap is_some (sym (find_at p slots))

  -- no journal, no batch on its way
  pub flush_none : (slots : List (Seen D)) (v : ℕ) → None ≡ place_in slots v → flush_at slots v ≡ Idle
  unfolding place_in
  flush_none slots v none = ap flush_in (no_place slots v (sym none))

  pub seen_none : (slots : List (Seen D)) (v : ℕ) → None ≡ place_in slots v → seen_at slots v ≡ None
  unfolding place_in
  seen_none slots v none = no_place slots v (sym none)

  module _ (slots inside : List (Seen D)) (v i : ℕ) (s : Seen D) (here : Some i ≡ place_in slots v) (same : inside ≡ slots) (is : s ≡ get_or inside i s) where
    is_there : s ≡ get_or slots i s
    is_there = is ∙ ap (λ xs. get_or xs i s) same

    -- the batch on its way to the journal of a place
    pub flush_here : flush_at slots v ≡ flush_of s.flusher
    unfolding place_in
    flush_here = ap flush_in (at_place slots v i s (sym here) is_there)

    -- one that was changed
    pub placed_change : (new : Seen D) → new.number ≡ s.number → Changed slots (set inside i new) v new
    unfolding place_in
    placed_change new number = subst (λ xs. Changed slots (set xs i new) v new) (sym same) (at_set slots v i s (sym here) is_there new number)

    pub flush_now : (new : Seen D) → new.number ≡ s.number → flush_at (set inside i new) v ≡ flush_of new.flusher
    flush_now new number = ap flush_in (changed_here slots (set inside i new) v new (placed_change new number))
