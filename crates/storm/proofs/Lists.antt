-- one place of a list of seats
use Rattle.std.proofs.Common.{◌≡◌, ℕ, zero, suc, ◌+◌, ◌<◌, List, [], ◌∷◌, ◌++◌, length, map, get_or, set, take, drop, refl, sym, ap, ◌∙◌, subst, arith}
use Rattle.std.specs.List.{AllByRecursion}
use Rattle.node_threads.specs.declared.slot.SeatSlot.{SeatSlot}
use Rattle.node_threads.specs.Seats.{Row, row_of, rows_of}
use Rattle.storm_seats.specs.Gathering.{AllFrom}
use Rattle.storm.specs.Rows.{AllThree, AllTwo}

pub rows_set : (slots : List SeatSlot) (i : ℕ) (s : SeatSlot) → rows_of (set slots i s) ≡ set (rows_of slots) i (row_of s)
rows_set [] i s = refl
rows_set (x ∷ xs) zero s = refl
rows_set (x ∷ xs) (suc i) s = ap (λ rs. row_of x ∷ rs) (rows_set xs i s)

get_rows : (slots : List SeatSlot) (i : ℕ) (d : SeatSlot) → get_or (rows_of slots) i (row_of d) ≡ row_of (get_or slots i d)
get_rows [] i d = refl
get_rows (x ∷ xs) zero d = refl
get_rows (x ∷ xs) (suc i) d = get_rows xs i d

pub rows_get : (slots : List SeatSlot) (i : ℕ) (s : SeatSlot) → s ≡ get_or slots i s → row_of s ≡ get_or (rows_of slots) i (row_of s)
rows_get slots i s e = ap row_of e ∙ sym (get_rows slots i s)

pub rows_length : (slots : List SeatSlot) → length (rows_of slots) ≡ length slots
rows_length [] = refl
rows_length (x ∷ xs) = ap suc (rows_length xs)

pub length_map : {A B : Type 0} (f : A → B) (xs : List A) → length (map f xs) ≡ length xs
length_map f [] = refl
length_map f (x ∷ xs) = ap suc (length_map f xs)

pub length_set : {A : Type 0} (xs : List A) (i : ℕ) (x : A) → length (set xs i x) ≡ length xs
length_set [] i x = refl
length_set (y ∷ ys) zero x = refl
length_set (y ∷ ys) (suc i) x = ap suc (length_set ys i x)

pub two_length : {A B : Type 0} (P : ℕ → A → B → Type 0) (n : ℕ) (xs : List A) (ys : List B) → AllTwo P n xs ys → length ys ≡ length xs
two_length P n [] [] a = refl
two_length P n [] (y ∷ ys) a = absurd a
two_length P n (x ∷ xs) [] a = absurd a
two_length P n (x ∷ xs) (y ∷ ys) a = ap suc (two_length P (suc n) xs ys a.1)

pub three_length : {A B C : Type 0} (P : A → B → C → Type 0) (xs : List A) (ys : List B) (zs : List C) → AllThree P xs ys zs → length zs ≡ length xs
three_length P [] [] [] a = refl
three_length P (x ∷ xs) (y ∷ ys) (z ∷ zs) a = ap suc (three_length P xs ys zs a.1)
three_length P [] [] (z ∷ zs) a = absurd a
three_length P [] (y ∷ ys) zs a = absurd a
three_length P (x ∷ xs) [] zs a = absurd a
three_length P (x ∷ xs) (y ∷ ys) [] a = absurd a

-- pair by pair, from the pairs at each place
pub two_by : {A B : Type 0} (P : ℕ → A → B → Type 0) (n : ℕ) (xs : List A) (ys : List B) → length ys ≡ length xs
    → ((i : ℕ) (x : A) (y : B) → i < length xs → x ≡ get_or xs i x → y ≡ get_or ys i y → P (n + i) x y) → AllTwo P n xs ys
two_by P n [] [] e f = tt
two_by P n [] (y ∷ ys) e f = absurd (omega arith)
two_by P n (x ∷ xs) [] e f = absurd (omega arith)
two_by P n (x ∷ xs) (y ∷ ys) e f = (
  subst (λ k. P k x y) (let z : n + 0 ≡ n = omega arith in z) (f 0 x y (omega arith) refl refl),
  two_by P (suc n) xs ys (omega arith) (λ i a b l p q. subst (λ k. P k a b) (let z : n + suc i ≡ suc n + i = omega arith in z) (f (suc i) a b (omega arith) p q)),
)

-- the pair at a place
pub two_at : {A B : Type 0} (P : ℕ → A → B → Type 0) (n i : ℕ) (xs : List A) (ys : List B) (x : A) (y : B) → AllTwo P n xs ys → i < length xs → x ≡ get_or xs i x → y ≡ get_or ys i y → P (n + i) x y
two_at P n i [] ys x y a l p q = absurd (omega arith)
two_at P n i (v ∷ xs) [] x y a l p q = absurd a
two_at P n zero (v ∷ xs) (w ∷ ys) x y a l p q =
    subst (λ k. P k x y) (let z : n ≡ n + 0 = omega arith in z) (subst (P n x) (sym q) (subst (λ t. P n t w) (sym p) a.0))
two_at P n (suc i) (v ∷ xs) (w ∷ ys) x y a l p q = subst (λ k. P k x y) (let z : suc n + i ≡ n + suc i = omega arith in z) (two_at P (suc n) i xs ys x y a.1 (omega arith) p q)

-- one more at the end
pub two_more : {A B : Type 0} (P : ℕ → A → B → Type 0) (n k : ℕ) (xs : List A) (ys : List B) (x : A) (y : B) → AllTwo P n (take k xs) ys → k < length xs → x ≡ get_or xs k x → P (n + k) x y → AllTwo P n (take (suc k) xs) (ys ++ y ∷ [])
two_more P n k [] ys x y a l e p = absurd (omega arith)
two_more P n zero (v ∷ xs) [] x y a l e p = (subst (λ t. P n t y) e (subst (λ k. P k x y) (let z : n + 0 ≡ n = omega arith in z) p), tt)
two_more P n zero (v ∷ xs) (w ∷ ys) x y a l e p = absurd a
two_more P n (suc k) (v ∷ xs) [] x y a l e p = absurd a
two_more P n (suc k) (v ∷ xs) (w ∷ ys) x y a l e p = (a.0, two_more P (suc n) k xs ys x y a.1 (omega arith) e (subst (λ t. P t x y) (let z : n + suc k ≡ suc n + k = omega arith in z) p))

pub from_more : {A : Type 0} (P : ℕ → A → Type 0) (n : ℕ) (xs : List A) (x : A) → AllFrom P n xs → P (n + length xs) x → AllFrom P n (xs ++ x ∷ [])
from_more P n [] x a p = (subst (λ k. P k x) (let e : n + 0 ≡ n = omega arith in e) p, tt)
from_more P n (y ∷ ys) x a p = (a.0, from_more P (suc n) ys x a.1 (subst (λ k. P k x) (let e : n + suc (length ys) ≡ suc n + length ys = omega arith in e) p))

pub from_at : {A : Type 0} (P : ℕ → A → Type 0) (n i : ℕ) (xs : List A) (x : A) → AllFrom P n xs → i < length xs → x ≡ get_or xs i x → P (n + i) x
from_at P n i [] x a l e = absurd (omega arith)
from_at P n zero (y ∷ ys) x a l e = subst (P (n + 0)) (sym e) (subst (λ k. P k y) (let z : n ≡ n + 0 = omega arith in z) a.0)
from_at P n (suc i) (y ∷ ys) x a l e = subst (λ k. P k x) (let z : suc n + i ≡ n + suc i = omega arith in z) (from_at P (suc n) i ys x a.1 (omega arith) e)

pub two_snoc : {A B : Type 0} (P : ℕ → A → B → Type 0) (n : ℕ) (xs : List A) (ys : List B) (x : A) (y : B) → AllTwo P n xs ys → P (n + length xs) x y → AllTwo P n (xs ++ x ∷ []) (ys ++ y ∷ [])
two_snoc P n [] [] x y a p = (subst (λ k. P k x y) (let e : n + 0 ≡ n = omega arith in e) p, tt)
two_snoc P n [] (w ∷ ys) x y a p = absurd a
two_snoc P n (v ∷ xs) [] x y a p = absurd a
two_snoc P n (v ∷ xs) (w ∷ ys) x y a p = (a.0, two_snoc P (suc n) xs ys x y a.1 (subst (λ k. P k x y) (let e : n + suc (length xs) ≡ suc n + length xs = omega arith in e) p))

pub all_at : (P : Row → Type 0) (xs ys : List SeatSlot) (s : SeatSlot) → AllByRecursion P (rows_of (xs ++ s ∷ ys)) → P (row_of s)
all_at P [] ys s a = a.0
all_at P (x ∷ xs) ys s a = all_at P xs ys s a.1

pub nothing_left : {X : Type 0} (l : List X) → length l ≡ 0 → l ≡ []
nothing_left [] h = refl
nothing_left (x ∷ xs) h = absurd (omega arith)
