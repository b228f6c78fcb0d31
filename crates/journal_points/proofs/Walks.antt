-- records from the last one back
use Rattle.std.proofs.Common.{◌≡◌, ℕ, Bool, true, false, cond, List, [], ◌∷◌, ◌++◌, map, reverse, leb, eqb, min, max, refl, ap, sym, ◌∙◌, ⊎_elim, arith, append-nil, Bor, subst}
use Rattle.std.specs.Prelude.{Option, Some, None, ◌&&◌, Result, Ok, Err, IfOk, Vec, vec_items}
use Rattle.std.specs.List.{filter, flat_map}
use Rattle.std.proofs.lemmas.Bool.{cases_lt, le-leb, lt-leb}
use Rattle.std.proofs.lemmas.List.{reverse-append, map-append}
use Rattle.std.proofs.lemmas.List.Elements.{filter_agree}
use Rattle.std.proofs.lemmas.Iterator.{YieldsList}
use Rattle.std.proofs.lemmas.List.Concat.{flat_map-append}
use Rattle.std.proofs.lemmas.List.Folds.{flat_map-map}
use Rattle.vb_types.specs.declared.change.Change.{Change}
use Rattle.vb_types.specs.declared.journal.Batch.{Batch}
use Rattle.vb_types.specs.declared.journal.Record.{Record}
use Rattle.vb_types.specs.declared.journal.Record.TheVariants as noted
use Rattle.vb_types.specs.declared.role.LogEntry.{LogEntry}
use Rattle.branch_model.specs.Journals.{batches, log_of, complete_ends, greatest, roll_point, items_of}
use Rattle.journal_points.specs.Limits.{is_within, lowered, standing_within}

-- limits

min_leb : (n a b : ℕ) → (leb n a && leb n b) ≡ leb n (min a b)
min_leb n a b = ⊎_elim
    (λ l. ap (λ x. x && leb n b) (lt-leb n a l) ∙ sym (lt-leb n (min a b) (omega arith)))
    (λ l. ap (λ x. x && leb n b) (le-leb n a l) ∙ ⊎_elim
    (λ k. lt-leb n b k ∙ sym (lt-leb n (min a b) (omega arith)))
    (λ k. le-leb n b k ∙ sym (le-leb n (min a b) (omega arith)))
    (cases_lt b n))
    (cases_lt a n)

within_lower : (o : Option ℕ) (to n : ℕ) → (is_within o n && leb n to) ≡ is_within (Some (lowered o to)) n
within_lower None to n = refl
within_lower (Some most) to n = min_leb n most to

module _ {X : Type 0} where
  filter_both : (p q : X → Bool) (xs : List X) → filter p (filter q xs) ≡ filter (λ x. p x && q x) xs
  filter_both p q [] = refl
  filter_both p q (x ∷ xs) = one (filter_both p q xs) (q x) (p x) refl refl
    where
      one : filter p (filter q xs) ≡ filter (λ x. p x && q x) xs → (a b : Bool) → q x ≡ a → p x ≡ b
          → filter p (cond a (x ∷ filter q xs) (filter q xs)) ≡ cond (b && a) (x ∷ filter (λ x. p x && q x) xs) (filter (λ x. p x && q x) xs)
      one ih true true e f = ap (λ c. cond c (x ∷ filter p (filter q xs)) (filter p (filter q xs))) f ∙ ap (λ r. x ∷ r) ih
      one ih true false e f = ap (λ c. cond c (x ∷ filter p (filter q xs)) (filter p (filter q xs))) f ∙ ih
      one ih false true e f = ih
      one ih false false e f = ih

  -- what a limit leaves of what a rollback leaves
  filter_within : (f : X → ℕ) (o : Option ℕ) (to : ℕ) (xs : List X) → filter (λ x. is_within o (f x)) (filter (λ x. leb (f x) to) xs) ≡ filter (λ x. is_within (Some (lowered o to)) (f x)) xs
  filter_within f o to xs = filter_both (λ x. is_within o (f x)) (λ x. leb (f x) to) xs ∙ filter_agree (λ x. is_within o (f x) && leb (f x) to) (λ x. is_within (Some (lowered o to)) (f x)) (λ x. within_lower o to (f x)) xs

  -- no limit
  pub everything : (xs : List X) → filter (λ x. true) xs ≡ xs
  everything [] = refl
  everything (x ∷ xs) = ap (λ r. x ∷ r) (everything xs)

  -- the last one of a list is the first of its reverse
  pub backward : (xs before : List X) (x : X) → xs ≡ before ++ x ∷ [] → reverse xs ≡ x ∷ reverse before
  backward xs before x e = ap reverse e ∙ reverse-append before (x ∷ [])

-- over a rollback

pub roll_batches : (o : Option ℕ) (to : ℕ) (xs before : List Record) (r : Record) → xs ≡ before ++ r ∷ [] → r ≡ noted.Roll to → standing_within (Some (lowered o to)) (reverse before) ≡ standing_within o (reverse xs)
roll_batches o to xs before r e k =
    sym (filter_within (λ (b : Batch). b.position.at) o to (batches (reverse before)))
    ∙ ap (standing_within o) (sym (backward xs before r e ∙ ap (λ y. y ∷ reverse before) k))

pub roll_log : (o : Option ℕ) (to : ℕ) (xs before : List Record) (r : Record) → xs ≡ before ++ r ∷ [] → r ≡ noted.Roll to
    → filter (λ (e : LogEntry). is_within (Some (lowered o to)) e.seq) (log_of (reverse before)) ≡ filter (λ (e : LogEntry). is_within o e.seq) (log_of (reverse xs))
roll_log o to xs before r e k =
    sym (filter_within (λ (x : LogEntry). x.seq) o to (log_of (reverse before)))
    ∙ ap (λ js. filter (λ (x : LogEntry). is_within o x.seq) (log_of js)) (sym (backward xs before r e ∙ ap (λ y. y ∷ reverse before) k))

-- two limits are the lesser one
pub batches_cut : (n to : ℕ) (bs : List Batch) → filter (λ b. leb b.position.at n) (filter (λ b. leb b.position.at to) bs) ≡ filter (λ b. leb b.position.at (min n to)) bs
batches_cut n to bs = filter_within (λ (b : Batch). b.position.at) (Some n) to bs

-- complete ends within a limit

pub ends_within : (to : ℕ) (bs : List Batch) → greatest (complete_ends (filter (λ b. leb b.position.at to) bs)) ≡ greatest (filter (λ p. leb p to) (complete_ends bs))
ends_within to [] = ap (λ q. greatest (cond q (0 ∷ []) [])) (sym (le-leb 0 to (omega arith)))
ends_within to (b ∷ older) = one (ends_within to older) (leb b.position.at to) (eqb b.position.at b.position.se) refl refl
  where
    one : greatest (complete_ends (filter (λ c. leb c.position.at to) older)) ≡ greatest (filter (λ p. leb p to) (complete_ends older)) → (a e : Bool) → leb b.position.at to ≡ a → eqb b.position.at b.position.se ≡ e
        → greatest (complete_ends (cond a (b ∷ filter (λ c. leb c.position.at to) older) (filter (λ c. leb c.position.at to) older)))
        ≡ greatest (filter (λ p. leb p to) (cond e (b.position.at ∷ complete_ends older) (complete_ends older)))
    one ih true true ea ee =
        ap (λ q. greatest (cond q (b.position.at ∷ complete_ends (filter (λ c. leb c.position.at to) older)) (complete_ends (filter (λ c. leb c.position.at to) older)))) ee
        ∙ ap (max b.position.at) ih
        ∙ sym (ap (λ q. greatest (cond q (b.position.at ∷ filter (λ p. leb p to) (complete_ends older)) (filter (λ p. leb p to) (complete_ends older)))) ea)
    one ih true false ea ee =
        ap (λ q. greatest (cond q (b.position.at ∷ complete_ends (filter (λ c. leb c.position.at to) older)) (complete_ends (filter (λ c. leb c.position.at to) older)))) ee ∙ ih
    one ih false true ea ee = ih ∙ sym (ap (λ q. greatest (cond q (b.position.at ∷ filter (λ p. leb p to) (complete_ends older)) (filter (λ p. leb p to) (complete_ends older)))) ea)
    one ih false false ea ee = ih

-- where a rollback goes, by the batches within its limit
pub rolls_from : (js : List Record) (to : ℕ) (bs : List Batch) → bs ≡ standing_within (Some to) js → max 0 (greatest (complete_ends bs)) ≡ roll_point js to
rolls_from js to bs e = zero_max (greatest (complete_ends bs)) ∙ ap (λ x. greatest (complete_ends x)) e ∙ ends_within to (batches js)
  where
    zero_max : (n : ℕ) → max 0 n ≡ n
    zero_max n = omega arith

-- changes of batches that are listed from the last one

pub items_forward : (bs : List Batch) → flat_map (λ (b : Batch). b.items) (reverse bs) ≡ items_of bs
items_forward [] = refl
items_forward (b ∷ older) =
    ap (flat_map (λ (x : Batch). x.items)) (reverse-append (b ∷ []) older)
    ∙ flat_map-append (λ (x : Batch). x.items) (reverse older) (b ∷ [])
    ∙ ap (λ xs. xs ++ (b.items ++ [])) (items_forward older)
    ∙ ap (λ xs. items_of older ++ xs) (append-nil b.items)

module _ {X Y : Type 0} where
  map_reverse : (f : X → Y) (xs : List X) → map f (reverse xs) ≡ reverse (map f xs)
  map_reverse f [] = refl
  map_reverse f (x ∷ xs) = ap (map f) (reverse-append (x ∷ []) xs) ∙ map-append f (reverse xs) (x ∷ []) ∙ ap (λ ys. ys ++ f x ∷ []) (map_reverse f xs) ∙ sym (reverse-append (f x ∷ []) (map f xs))

pub items_of_refs : (bs : List (Bor Batch)) (all : List Batch) → map (λ b. b.now) bs ≡ all → flat_map (λ (b : Bor Batch). b.now.items) (reverse bs) ≡ items_of all
items_of_refs bs all e =
    sym (flat_map-map (λ (b : Batch). b.items) (λ (b : Bor Batch). b.now) (reverse bs))
    ∙ ap (flat_map (λ (b : Batch). b.items)) (map_reverse (λ (b : Bor Batch). b.now) bs ∙ ap reverse e)
    ∙ items_forward all

pub yields_as : {S A B : Type 0} {steps : S → Option A → S → Type 0} {v : A → B} {s : S} {xs ys : List B} → xs ≡ ys → YieldsList steps v s xs → YieldsList steps v s ys
yields_as {steps = steps} {v = v} {s = s} e y = subst (YieldsList steps v s) e y

pub map_filter : {A B : Type 0} (f : A → B) (test : B → Bool) (xs : List A) → map f (filter (λ x. test (f x)) xs) ≡ filter test (map f xs)
map_filter f test [] = refl
map_filter f test (x ∷ xs) = one (test (f x)) (map_filter f test xs)
  where
    one : (b : Bool) → map f (filter (λ y. test (f y)) xs) ≡ filter test (map f xs) → map f (cond b (x ∷ filter (λ y. test (f y)) xs) (filter (λ y. test (f y)) xs)) ≡ cond b (f x ∷ filter test (map f xs)) (filter test (map f xs))
    one true ih = ap (λ ys. f x ∷ ys) ih
    one false ih = ih

-- the same of a list that was collected
pub filtered_refs : {Z E : Type 0} (test : Change → Bool) (xs : List (Bor Change)) (r : Result (Vec (Bor Change) Z) E) → IfOk r (λ w. vec_items w ≡ filter (λ x. test x.now) xs) → IfOk r (λ w. map (λ x. x.now) (vec_items w) ≡ filter test (map (λ x. x.now) xs))
filtered_refs test xs (Ok w) e = ap (map (λ x. x.now)) e ∙ map_filter (λ (x : Bor Change). x.now) test xs
filtered_refs test xs (Err f) e = e

-- what equals what an `Ok` has
pub ok_as : {T E : Type 0} (r : Result T E) (x y : T) → x ≡ y → IfOk r (λ z. z ≡ x) → IfOk r (λ z. z ≡ y)
ok_as (Ok z) x y e p = p ∙ e
ok_as (Err f) x y e p = p
