-- links of which no two have one number, and what becomes of one of them
use Rattle.std.specs.Prelude.{◌≡◌, ◌∷◌, ◌⊎◌, ◌==◌, if◌then◌else◌, cond}
use Rattle.transcript_law.proofs.Words.{ℕ, Bool, true, false, List, [], refl, ap, sym, ◌∙◌, inl, inr, ⊎_elim, Some, filter, eqb-true, eqb-false, eq-eqb, ne_eqb, row_at, row_out, row_put, PlainLink, link_number, links_ended, link_ended}
use Rattle.transcript_law.proofs.{invariant.Agreement.{IsLink, LinksDiffer}, invariant.LinkRows.{differ_in}, links.Turning.{told_alike, told_is_link}}

-- no two have one number
abbrev pub Numbers : List PlainLink → Type 0
Numbers [] = Unit {0}
Numbers (x ∷ xs) = ((y : PlainLink) → IsLink y xs → link_number x ≡ link_number y → ⊥) × Numbers xs

pub numbers_of : (links : List PlainLink) → LinksDiffer links → Numbers links
numbers_of [] d = tt
numbers_of (x ∷ xs) d = (λ y i. (differ_in x y xs d.0 i).number, numbers_of xs d.1)

-- one is found by its number
pub numbered : (links : List PlainLink) (link : PlainLink) → Numbers links → IsLink link links → row_at link_number (link_number link) links ≡ Some link
numbered [] link d i = absurd i
numbered (x ∷ xs) link d i = ⊎_elim
    (λ e. ap (λ b. if b then Some x else row_at link_number (link_number link) xs) (eq-eqb (link_number x) (link_number link) (ap link_number (sym e))) ∙ ap Some (sym e))
    (λ j. ap (λ b. if b then Some x else row_at link_number (link_number link) xs) (ne_eqb (link_number x) (link_number link) (d.0 link j)) ∙ numbered xs link d.1 j)
    i

pub one_of_number : (links : List PlainLink) (x y : PlainLink) → Numbers links → IsLink x links → IsLink y links → link_number x ≡ link_number y → x ≡ y
one_of_number links x y d i j e =
    let z : Some x ≡ Some y = sym (numbered links x d i) ∙ ap (λ l. row_at link_number l links) e ∙ numbered links y d j in cc

-- another one in its place

pub put_other : (l : ℕ) (link' : PlainLink) (links : List PlainLink) (x : PlainLink) → IsLink x links → (link_number x ≡ l → ⊥) → IsLink x (row_put link_number l link' links)
put_other l link' [] x i ne = absurd i
put_other l link' (z ∷ zs) x i ne = elim (link_number z == l) as (λ b. (link_number z == l) ≡ b → IsLink x (if b then link' ∷ zs else z ∷ row_put link_number l link' zs)) [
  | true ↦ λ t. ⊎_elim (λ e. absurd (ne (ap link_number e ∙ eqb-true (link_number z) l t))) (λ j. inr j) i
  | false ↦ λ t. ⊎_elim (λ e. inl e) (λ j. inr (put_other l link' zs x j ne)) i
] refl

pub put_in : (l : ℕ) (link' : PlainLink) (links : List PlainLink) (link : PlainLink) → IsLink link links → link_number link ≡ l → IsLink link' (row_put link_number l link' links)
put_in l link' [] link i e = absurd i
put_in l link' (z ∷ zs) link i e = elim (link_number z == l) as (λ b. (link_number z == l) ≡ b → IsLink link' (if b then link' ∷ zs else z ∷ row_put link_number l link' zs)) [
  | true ↦ λ t. inl refl
  | false ↦ λ t. ⊎_elim (λ q. absurd (eqb-false (link_number z) l t (ap link_number (sym q) ∙ e))) (λ j. inr (put_in l link' zs link j e)) i
] refl

put_from : (l : ℕ) (link' : PlainLink) (links : List PlainLink) (y : PlainLink) → IsLink y (row_put link_number l link' links) → (y ≡ link') ⊎ IsLink y links
put_from l link' [] y i = absurd i
put_from l link' (z ∷ zs) y i = elim (link_number z == l) as (λ b. IsLink y (if b then link' ∷ zs else z ∷ row_put link_number l link' zs) → (y ≡ link') ⊎ IsLink y (z ∷ zs)) [
  | true ↦ λ j. ⊎_elim (λ e. inl e) (λ k. inr (inr k)) j
  | false ↦ λ j. ⊎_elim (λ e. inr (inl e)) (λ k. ⊎_elim (λ e. inl e) (λ m. inr (inr m)) (put_from l link' zs y k)) j
] i

pub numbers_put : (l : ℕ) (link' : PlainLink) (links : List PlainLink) → link_number link' ≡ l → Numbers links → Numbers (row_put link_number l link' links)
numbers_put l link' [] n d = tt
numbers_put l link' (z ∷ zs) n d = elim (link_number z == l) as (λ b. (link_number z == l) ≡ b → Numbers (if b then link' ∷ zs else z ∷ row_put link_number l link' zs)) [
  | true ↦ λ t. (λ y i e. d.0 y i (eqb-true (link_number z) l t ∙ sym n ∙ e), d.1)
  | false ↦ λ t. (λ y i e. ⊎_elim (λ q. eqb-false (link_number z) l t (e ∙ ap link_number q ∙ n)) (λ j. d.0 y j e) (put_from l link' zs y i), numbers_put l link' zs n d.1)
] refl

-- or none

pub out_other : (l : ℕ) (links : List PlainLink) (x : PlainLink) → IsLink x links → (link_number x ≡ l → ⊥) → IsLink x (row_out link_number l links)
out_other l [] x i ne = absurd i
out_other l (z ∷ zs) x i ne = elim (link_number z == l) as (λ b. (link_number z == l) ≡ b → IsLink x (if b then zs else z ∷ row_out link_number l zs)) [
  | true ↦ λ t. ⊎_elim (λ e. absurd (ne (ap link_number e ∙ eqb-true (link_number z) l t))) (λ j. j) i
  | false ↦ λ t. ⊎_elim (λ e. inl e) (λ j. inr (out_other l zs x j ne)) i
] refl

out_from : (l : ℕ) (links : List PlainLink) (y : PlainLink) → IsLink y (row_out link_number l links) → IsLink y links
out_from l [] y i = absurd i
out_from l (z ∷ zs) y i = elim (link_number z == l) as (λ b. IsLink y (if b then zs else z ∷ row_out link_number l zs) → IsLink y (z ∷ zs)) [
  | true ↦ λ j. inr j
  | false ↦ λ j. ⊎_elim (λ e. inl e) (λ k. inr (out_from l zs y k)) j
] i

pub numbers_out : (l : ℕ) (links : List PlainLink) → Numbers links → Numbers (row_out link_number l links)
numbers_out l [] d = tt
numbers_out l (z ∷ zs) d = elim (link_number z == l) as (λ b. Numbers (if b then zs else z ∷ row_out link_number l zs)) [ true ↦ d.1 | false ↦ (λ y i. d.0 y (out_from l zs y i), numbers_out l zs d.1) ]

-- some of them

module _ (p : PlainLink → Bool) where
  pub passed : (links : List PlainLink) (x : PlainLink) → IsLink x (filter p links) → IsLink x links
  passed [] x i = absurd i
  passed (y ∷ ys) x i = elim (p y) as (λ b. IsLink x (cond b (y ∷ filter p ys) (filter p ys)) → IsLink x (y ∷ ys)) [ true ↦ λ j. ⊎_elim (λ e. inl e) (λ k. inr (passed ys x k)) j | false ↦ λ j. inr (passed ys x j) ] i

  pub numbers_passed : (links : List PlainLink) → Numbers links → Numbers (filter p links)
  numbers_passed [] d = tt
  numbers_passed (y ∷ ys) d = elim (p y) as (λ b. Numbers (cond b (y ∷ filter p ys) (filter p ys))) [ true ↦ (λ z i. d.0 z (passed ys z i), numbers_passed ys d.1) | false ↦ numbers_passed ys d.1 ]

-- once they are told which streams ended

pub numbers_told : (n v : ℕ) (ids : List ℕ) (links : List PlainLink) → Numbers links → Numbers (links_ended n v ids links)
numbers_told n v ids [] d = tt
numbers_told n v ids (x ∷ xs) d = (
  λ y i e. let (k, j, is) = told_is_link n v ids xs y i in
      d.0 k j (sym (same x) ∙ e ∙ ap link_number is ∙ same k),
  numbers_told n v ids xs d.1,
)
  where
    same : (z : PlainLink) → link_number (link_ended n v ids z) ≡ link_number z
    same z = ap (λ d. d.link) (told_alike n v ids z).dialed

pub told_there : (n v : ℕ) (ids : List ℕ) (x : PlainLink) (links : List PlainLink) → IsLink x links → IsLink (link_ended n v ids x) (links_ended n v ids links)
told_there n v ids x [] i = absurd i
told_there n v ids x (y ∷ ys) i = ⊎_elim (λ e. inl (ap (link_ended n v ids) e)) (λ j. inr (told_there n v ids x ys j)) i
