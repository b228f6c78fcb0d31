-- the last changes of all keys, found one change after the other
use Rattle.std.proofs.Common.{◌≡◌, ℕ, ◌<◌, ◌+◌, Bool, true, false, cond, List, [], ◌∷◌, ◌++◌, map, take, length, get_or, ltb, refl, ap, sym, ◌∙◌, subst, append-nil, Bor}
use Rattle.std.specs.Prelude.{Option, Some, None, if◌then◌else◌, ◌&&◌, ◌||◌, option_map}
use Rattle.std.specs.List.{filter}
use Rattle.std.proofs.lemmas.List.{take_more, map-append}
use Rattle.std.proofs.lemmas.List.Elements.{filter-append}
use Rattle.std.specs.Option.{option_or}
use Rattle.std.specs.FinMap.{FinMap, get, insert}
use Rattle.std.specs.Str.{bytes_eq}
use Rattle.std.proofs.lemmas.Slice.Eq.{bytes_eq-Decides}
use Rattle.vb_types.specs.Keys.{key_cmp}
use Rattle.vb_types.specs.Histories.{last_by, last_of, touches, plain}
use Rattle.vb_types.specs.declared.change.Change.{Change}
use Rattle.vb_types.proofs.Laws.{get-insert_same, get-insert_other}
use Rattle.branch_model.specs.Snapshots.{has_seq, is_slot_last}
use Rattle.journal_points.specs.declared.lasts.Side.{Side}
use Rattle.journal_points.specs.declared.lasts.Side.TheVariants.{Committed, Pending}
use Rattle.journal_points.specs.Sides.{is_of_side, slot_of, is_at, AreLasts}

or_grouped : (a b c : Option Change) → option_or (option_or a b) c ≡ option_or a (option_or b c)
or_grouped None b c = refl
or_grouped (Some x) b c = refl

or_none : (a : Option Change) → option_or None a ≡ option_or a None
or_none None = refl
or_none (Some x) = refl

-- one more change
last_more : (test : Change → Bool) (h : List Change) (c : Change) → last_by test (h ++ c ∷ []) ≡ option_or (if test c then Some c else None) (last_by test h)
last_more test [] c = or_none (if test c then Some c else None)
last_more test (x ∷ xs) c = ap (λ o. option_or o (if test x then Some x else None)) (last_more test xs c)
    ∙ or_grouped (if test c then Some c else None) (last_by test xs) (if test x then Some x else None)

touches_side : (side : Side) (key : List ℕ) (c : Change) → touches (slot_of side key) c ≡ (bytes_eq c.key key && is_of_side side c.act)
touches_side Committed key c = refl
touches_side Pending key c = and_true (bytes_eq c.key key)
  where
    and_true : (b : Bool) → b ≡ (b && true)
    and_true true = refl
    and_true false = refl

last_more_of : (side : Side) (h : List Change) (c : Change) (key : List ℕ) (same side_is : Bool) → bytes_eq c.key key ≡ same → is_of_side side c.act ≡ side_is
    → last_of (slot_of side key) (h ++ c ∷ []) ≡ option_or (if same && side_is then Some c else None) (last_of (slot_of side key) h)
last_more_of side h c key same side_is ek es =
    last_more (touches (slot_of side key)) h c
    ∙ ap (λ b. option_or (if b then Some c else None) (last_of (slot_of side key) h)) (touches_side side key c ∙ ap (λ b. b && is_of_side side c.act) ek ∙ ap (λ b. same && b) es)

-- a change of the side
pub lasts_more : (side : Side) (h : List Change) (c : Change) (lasts : FinMap key_cmp ℕ) → AreLasts side h lasts → is_of_side side c.act ≡ true → AreLasts side (h ++ c ∷ []) (insert lasts c.key c.seq)
lasts_more side h c lasts are es key = one (bytes_eq c.key key) refl
  where
    one : (same : Bool) → bytes_eq c.key key ≡ same → get (insert lasts c.key c.seq) key ≡ option_map (λ (x : Change). x.seq) (last_of (slot_of side key) (h ++ c ∷ []))
    one true ek =
        ap (get (insert lasts c.key c.seq)) (sym ((bytes_eq-Decides c.key key).0 ek))
        ∙ get-insert_same lasts c.key c.seq
        ∙ sym (ap (option_map (λ (x : Change). x.seq)) (last_more_of side h c key true true ek es))
    one false ek =
        get-insert_other lasts c.key c.seq key (λ same. let k = (bytes_eq-Decides c.key key).1 same in cc)
        ∙ are key
        ∙ sym (ap (option_map (λ (x : Change). x.seq)) (last_more_of side h c key false true ek es))

-- another change
pub lasts_stay : (side : Side) (h : List Change) (c : Change) (lasts : FinMap key_cmp ℕ) → AreLasts side h lasts → is_of_side side c.act ≡ false → AreLasts side (h ++ c ∷ []) lasts
lasts_stay side h c lasts are es key = one (bytes_eq c.key key) refl
  where
    one : (same : Bool) → bytes_eq c.key key ≡ same → get lasts key ≡ option_map (λ (x : Change). x.seq) (last_of (slot_of side key) (h ++ c ∷ []))
    one true ek = are key ∙ sym (ap (option_map (λ (x : Change). x.seq)) (last_more_of side h c key true false ek es))
    one false ek = are key ∙ sym (ap (option_map (λ (x : Change). x.seq)) (last_more_of side h c key false false ek es))

pub none_yet : (side : Side) (lasts : FinMap key_cmp ℕ) → ((key : List ℕ) → get lasts key ≡ None) → AreLasts side [] lasts
none_yet Committed lasts e = e
none_yet Pending lasts e = e

at_seq : (n : ℕ) (o : Option Change) → is_at n (option_map (λ (x : Change). x.seq) o) ≡ has_seq n o
at_seq n None = refl
at_seq n (Some c) = refl

-- whether a change is its key's last one
pub is_last_of : (side : Side) (h : List Change) (lasts : FinMap key_cmp ℕ) (c : Change) → AreLasts side h lasts → is_at c.seq (get lasts c.key) ≡ has_seq c.seq (last_of (slot_of side c.key) h)
is_last_of side h lasts c are = ap (is_at c.seq) (are c.key) ∙ at_seq c.seq (last_of (slot_of side c.key) h)

-- one more of a list of references
pub map_more : {A B : Type 0} (f : A → B) (xs : List A) (i : ℕ) (d x : A) → i < length xs → x ≡ get_or xs i d → map f (take (i + 1) xs) ≡ map f (take i xs) ++ f x ∷ []
map_more f xs i d x l e = ap (map f) (take_more xs i d l) ∙ map-append f (take i xs) (get_or xs i d ∷ []) ∙ ap (λ y. map f (take i xs) ++ f y ∷ []) (sym e)

abbrev pub seen : ℕ → List (Bor Change) → List Change
seen i xs = map (λ x. x.now) (take i xs)

pub lasts_more_at : (side : Side) (xs : List (Bor Change)) (i : ℕ) (d x : Bor Change) (lasts new : FinMap key_cmp ℕ) → i < length xs → x ≡ get_or xs i d → AreLasts side (seen i xs) lasts → true ≡ is_of_side side x.now.act
    → new ≡ insert lasts x.now.key x.now.seq → AreLasts side (seen (i + 1) xs) new
lasts_more_at side xs i d x lasts new l e are t n =
    subst (λ h. AreLasts side h new) (sym (map_more (λ (y : Bor Change). y.now) xs i d x l e))
    (subst (AreLasts side (seen i xs ++ x.now ∷ [])) (sym n) (lasts_more side (seen i xs) x.now lasts are (sym t)))

pub lasts_stay_at : (side : Side) (xs : List (Bor Change)) (i : ℕ) (d x : Bor Change) (lasts new : FinMap key_cmp ℕ) → i < length xs → x ≡ get_or xs i d → AreLasts side (seen i xs) lasts → false ≡ is_of_side side x.now.act
    → new ≡ lasts → AreLasts side (seen (i + 1) xs) new
lasts_stay_at side xs i d x lasts new l e are t n =
    subst (λ h. AreLasts side h new) (sym (map_more (λ (y : Bor Change). y.now) xs i d x l e))
    (subst (AreLasts side (seen i xs ++ x.now ∷ [])) (sym n) (lasts_stay side (seen i xs) x.now lasts are (sym t)))

-- what is sent

-- whether a change is sent
abbrev pub is_sent : ℕ → List Change → Change → Bool
is_sent start h c = ltb start c.seq && is_slot_last h c

-- the same as the seqnos of last changes tell it
abbrev pub is_told : ℕ → FinMap key_cmp ℕ → FinMap key_cmp ℕ → Change → Bool
is_told start committed pending c = ltb start c.seq && (is_at c.seq (get committed c.key) || is_at c.seq (get pending c.key))

told_is_sent : (start : ℕ) (h : List Change) (committed pending : FinMap key_cmp ℕ) (c : Change) → AreLasts Committed h committed → AreLasts Pending h pending → is_told start committed pending c ≡ is_sent start h c
told_is_sent start h committed pending c a b i = ltb start c.seq && (is_last_of Committed h committed c a i || is_last_of Pending h pending c b i)

-- one more change of the list, that is sent or not
pub sent_more : (start : ℕ) (h : List Change) (xs : List (Bor Change)) (i : ℕ) (d x : Bor Change) (committed pending : FinMap key_cmp ℕ) (sent : List Change) → i < length xs → x ≡ get_or xs i d
    → AreLasts Committed h committed → AreLasts Pending h pending → sent ≡ map plain (filter (is_sent start h) (seen i xs)) → true ≡ is_told start committed pending x.now
    → sent ++ plain x.now ∷ [] ≡ map plain (filter (is_sent start h) (seen (i + 1) xs))
sent_more start h xs i d x committed pending sent l e a b s t =
    ap (λ ys. ys ++ plain x.now ∷ []) s
    ∙ sym (map-append plain (filter (is_sent start h) (seen i xs)) (x.now ∷ []))
    ∙ ap (λ q. map plain (filter (is_sent start h) (seen i xs) ++ cond q (x.now ∷ []) [])) (t ∙ told_is_sent start h committed pending x.now a b)
    ∙ ap (map plain) (sym (filter-append (is_sent start h) (seen i xs) (x.now ∷ [])))
    ∙ ap (λ ys. map plain (filter (is_sent start h) ys)) (sym (map_more (λ (y : Bor Change). y.now) xs i d x l e))

pub sent_same : (start : ℕ) (h : List Change) (xs : List (Bor Change)) (i : ℕ) (d x : Bor Change) (committed pending : FinMap key_cmp ℕ) (sent : List Change) → i < length xs → x ≡ get_or xs i d
    → AreLasts Committed h committed → AreLasts Pending h pending → sent ≡ map plain (filter (is_sent start h) (seen i xs)) → false ≡ is_told start committed pending x.now
    → sent ≡ map plain (filter (is_sent start h) (seen (i + 1) xs))
sent_same start h xs i d x committed pending sent l e a b s t =
    s
    ∙ ap (map plain) (sym (append-nil (filter (is_sent start h) (seen i xs))))
    ∙ ap (λ q. map plain (filter (is_sent start h) (seen i xs) ++ cond q (x.now ∷ []) [])) (t ∙ told_is_sent start h committed pending x.now a b)
    ∙ ap (map plain) (sym (filter-append (is_sent start h) (seen i xs) (x.now ∷ [])))
    ∙ ap (λ ys. map plain (filter (is_sent start h) ys)) (sym (map_more (λ (y : Bor Change). y.now) xs i d x l e))
