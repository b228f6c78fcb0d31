-- the list of links by their numbers
use Rattle.std.specs.Prelude.{◌≡◌, ◌∷◌, ◌++◌, ◌⊎◌, ◌==◌, if◌then◌else◌}
use Rattle.transcript_law.proofs.Words.{ℕ, true, false, List, [], refl, ap, sym, ◌∙◌, subst, inl, inr, ⊎_elim, Some, eqb-true, eqb-false, eq-eqb, ne_eqb, row_at}
use Rattle.transcript_law.proofs.Words.{row_put, row_out, PlainLink, link_number}
use Rattle.transcript_law.proofs.invariant.Agreement.{IsLink, Differ, DifferFrom, LinksDiffer}
use Rattle.transcript_law.proofs.invariant.Carrying.{FoundIsLink, PutIsFound, PutLinks, OutLinks, PutTwice, PutOut, PutSame}

pub found_is_link : FoundIsLink
found_is_link l [] link e = cc
found_is_link l (x ∷ xs) link e = elim (link_number x == l)
    as (λ b. (link_number x == l) ≡ b → (if b then Some x else row_at link_number l xs) ≡ Some link → IsLink link (x ∷ xs) × (link_number link ≡ l)) [
      | true ↦ λ t f. let same : x ≡ link = cc in (inl (sym same), ap link_number (sym same) ∙ eqb-true (link_number x) l t)
      | false ↦ λ t f. let p = found_is_link l xs link f in (inr p.0, p.1)
    ] refl e

pub put_is_found : PutIsFound
put_is_found l [] link link' f n = cc
put_is_found l (x ∷ xs) link link' f n = elim (link_number x == l) as (λ b. (link_number x == l) ≡ b → (if b then Some x else row_at link_number l xs) ≡ Some link
    → row_at link_number l (if b then link' ∷ xs else x ∷ row_put link_number l link' xs) ≡ Some link') [
      | true ↦ λ t g. ap (λ b. if b then Some link' else row_at link_number l xs) (eq-eqb (link_number link') l n)
      | false ↦ λ t g. ap (λ b. if b then Some x else row_at link_number l (row_put link_number l link' xs)) t ∙ put_is_found l xs link link' g n
    ] refl f

-- links that differ
pub differ_in : (x y : PlainLink) (ys : List PlainLink) → DifferFrom x ys → IsLink y ys → Differ x y
differ_in x y [] d i = absurd i
differ_in x y (z ∷ zs) d i = ⊎_elim (λ e. subst (λ k. Differ x k) (sym e) d.0) (λ j. differ_in x y zs d.1 j) i

pub differ_all : (x : PlainLink) (ys : List PlainLink) → ((y : PlainLink) → IsLink y ys → Differ x y) → DifferFrom x ys
differ_all x [] h = tt
differ_all x (y ∷ ys) h = (h y (inl refl), differ_all x ys (λ z i. h z (inr i)))

pub differ_sym : (x y : PlainLink) → Differ x y → Differ y x
differ_sym x y d = record {
  number = λ e. d.number (sym e);
  follower = λ e f. d.follower (sym e) (sym f);
  stream = λ v id a b e. d.stream v id b a (sym e);
}

-- two links of one number are one
pub links_apart : (x y : PlainLink) (links : List PlainLink) → LinksDiffer links → IsLink x links → IsLink y links → (link_number x ≡ link_number y → ⊥) → Differ x y
links_apart x y [] d i j ne = absurd i
links_apart x y (z ∷ zs) d i j ne = ⊎_elim
    (λ e. ⊎_elim (λ f. absurd (ne (ap link_number (e ∙ sym f)))) (λ k. subst (λ a. Differ a y) (sym e) (differ_in z y zs d.0 k)) j)
    (λ k. ⊎_elim (λ f. subst (λ a. Differ x a) (sym f) (differ_sym z x (differ_in z x zs d.0 k))) (λ m. links_apart x y zs d.1 k m ne) j)
    i

pub put_links : PutLinks
put_links l [] link link' x d f n i = absurd i
put_links l (z ∷ zs) link link' x d f n i = elim (link_number z == l) as (λ b. (link_number z == l) ≡ b → (if b then Some z else row_at link_number l zs) ≡ Some link
    → IsLink x (if b then link' ∷ zs else z ∷ row_put link_number l link' zs) → (x ≡ link') ⊎ (IsLink x (z ∷ zs) × (link_number x ≡ l → ⊥))) [
      | true ↦ λ t g j. ⊎_elim (λ same. inl same) (λ k. inr (inr k, λ same. (differ_in z x zs d.0 k).number (eqb-true (link_number z) l t ∙ sym same))) j
      | false ↦ λ t g j. ⊎_elim (λ same. inr (inl same, λ m. eqb-false (link_number z) l t (ap link_number (sym same) ∙ m)))
          (λ k. ⊎_elim (λ same. inl same) (λ p. inr (inr p.0, p.1)) (put_links l zs link link' x d.1 g n k)) j
    ] refl f i

pub out_links : OutLinks
out_links l [] link x d f i = absurd i
out_links l (z ∷ zs) link x d f i = elim (link_number z == l) as (λ b. (link_number z == l) ≡ b → (if b then Some z else row_at link_number l zs) ≡ Some link
    → IsLink x (if b then zs else z ∷ row_out link_number l zs) → IsLink x (z ∷ zs) × (link_number x ≡ l → ⊥)) [
      | true ↦ λ t g j. (inr j, λ same. (differ_in z x zs d.0 j).number (eqb-true (link_number z) l t ∙ sym same))
      | false ↦ λ t g j. ⊎_elim (λ same. (inl same, λ n. eqb-false (link_number z) l t (ap link_number (sym same) ∙ n))) (λ k. let p = out_links l zs link x d.1 g k in (inr p.0, p.1)) j
    ] refl f i

-- the links with another one put still differ, if that differs from the others
pub differ_put : (l : ℕ) (links : List PlainLink) (link link' : PlainLink) → link_number link' ≡ l → LinksDiffer links → ((y : PlainLink) → IsLink y links → (link_number y ≡ l → ⊥) → Differ link' y)
    → row_at link_number l links ≡ Some link → LinksDiffer (row_put link_number l link' links)
differ_put l [] link link' n d h f = tt
differ_put l (z ∷ zs) link link' n d h f = elim (link_number z == l) as (λ b. (link_number z == l) ≡ b → (if b then Some z else row_at link_number l zs) ≡ Some link
    → LinksDiffer (if b then link' ∷ zs else z ∷ row_put link_number l link' zs)) [
      | true ↦ λ t g. (differ_all link' zs (λ y i. h y (inr i) (λ same. (differ_in z y zs d.0 i).number (eqb-true (link_number z) l t ∙ sym same))), d.1)
      | false ↦ λ t g.
          let apart : (y : PlainLink) → IsLink y (row_put link_number l link' zs) → Differ z y = λ y i. ⊎_elim
          (λ same. subst (λ k. Differ z k) (sym same) (differ_sym link' z (h z (inl refl) (eqb-false (link_number z) l t)))) (λ p. differ_in z y zs d.0 p.0) (put_links l zs link link' y d.1 g n i) in
          (differ_all z (row_put link_number l link' zs) apart, differ_put l zs link link' n d.1 (λ y i. h y (inr i)) g)
    ] refl f

pub differ_out : (l : ℕ) (links : List PlainLink) (link : PlainLink) → LinksDiffer links → row_at link_number l links ≡ Some link → LinksDiffer (row_out link_number l links)
differ_out l [] link d f = tt
differ_out l (z ∷ zs) link d f = elim (link_number z == l) as (λ b. (if b then Some z else row_at link_number l zs) ≡ Some link → LinksDiffer (if b then zs else z ∷ row_out link_number l zs))
    [ true ↦ λ g. d.1 | false ↦ λ g. (differ_all z (row_out link_number l zs) (λ y i. differ_in z y zs d.0 (out_links l zs link y d.1 g i).0), differ_out l zs link d.1 g) ] f

-- one more link, at the end
pub is_link_more : (x y : PlainLink) (links : List PlainLink) → IsLink x (links ++ y ∷ []) → (x ≡ y) ⊎ IsLink x links
is_link_more x y [] i = ⊎_elim (λ e. inl e) (λ n. absurd n) i
is_link_more x y (z ∷ zs) i = ⊎_elim (λ e. inr (inl e)) (λ j. ⊎_elim (λ e. inl e) (λ k. inr (inr k)) (is_link_more x y zs j)) i

pub differ_more : (y : PlainLink) (links : List PlainLink) → LinksDiffer links → ((x : PlainLink) → IsLink x links → Differ x y) → LinksDiffer (links ++ y ∷ [])
differ_more y [] d h = (tt, tt)
differ_more y (z ∷ zs) d h = (
  differ_all z (zs ++ y ∷ []) (λ x i. ⊎_elim (λ e. subst (λ k. Differ z k) (sym e) (h z (inl refl))) (λ j. differ_in z x zs d.0 j) (is_link_more x y zs i)),
  differ_more y zs d.1 (λ x i. h x (inr i)),
)

-- a link that is put twice, or put and taken out, or put as it was
pub put_twice : PutTwice
put_twice l [] link link' n = refl
put_twice l (x ∷ xs) link link' n = elim (link_number x == l) as (λ b. (link_number x == l) ≡ b
    → row_put link_number l link' (if b then link ∷ xs else x ∷ row_put link_number l link xs) ≡ (if b then link' ∷ xs else x ∷ row_put link_number l link' xs)) [
      | true ↦ λ t. ap (λ b. if b then link' ∷ xs else link ∷ row_put link_number l link' xs) (eq-eqb (link_number link) l n)
      | false ↦ λ t. ap (λ b. if b then link' ∷ row_put link_number l link xs else x ∷ row_put link_number l link' (row_put link_number l link xs)) t ∙ ap (λ ys. x ∷ ys) (put_twice l xs link link' n)
    ] refl

pub put_out : PutOut
put_out l [] link n = refl
put_out l (x ∷ xs) link n = elim (link_number x == l) as (λ b. (link_number x == l) ≡ b
    → row_out link_number l (if b then link ∷ xs else x ∷ row_put link_number l link xs) ≡ (if b then xs else x ∷ row_out link_number l xs)) [
      | true ↦ λ t. ap (λ b. if b then xs else link ∷ row_out link_number l xs) (eq-eqb (link_number link) l n)
      | false ↦ λ t. ap (λ b. if b then row_put link_number l link xs else x ∷ row_out link_number l (row_put link_number l link xs)) t ∙ ap (λ ys. x ∷ ys) (put_out l xs link n)
    ] refl

pub put_same : PutSame
put_same l [] link f = refl
put_same l (x ∷ xs) link f = elim (link_number x == l)
    as (λ b. (if b then Some x else row_at link_number l xs) ≡ Some link → (if b then link ∷ xs else x ∷ row_put link_number l link xs) ≡ x ∷ xs)
    [ true ↦ λ g. let same : x ≡ link = cc in ap (λ k. k ∷ xs) (sym same) | false ↦ λ g. ap (λ ys. x ∷ ys) (put_same l xs link g) ] f

-- a link of the list is found by its number
pub row_found : (links : List PlainLink) (link : PlainLink) → LinksDiffer links → IsLink link links → row_at link_number (link_number link) links ≡ Some link
row_found [] link d i = absurd i
row_found (x ∷ xs) link d i = ⊎_elim
    (λ e. ap (λ b. if b then Some x else row_at link_number (link_number link) xs) (eq-eqb (link_number x) (link_number link) (ap link_number (sym e))) ∙ ap Some (sym e))
    (λ j. ap (λ b. if b then Some x else row_at link_number (link_number link) xs) (ne_eqb (link_number x) (link_number link) (differ_in x link xs d.0 j).number) ∙ row_found xs link d.1 j)
    i
