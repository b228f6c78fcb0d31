-- prepares by rising seqnos: which lie below, at and above a seqno, and what one that comes or goes leaves
use Rattle.std.proofs.Common.{◌≡◌, ℕ, ◌<◌, ◌≤◌, Bool, true, false, cond, leb, ltb, eqb, List, [], ◌∷◌, ◌++◌, length, take, drop, refl, ap, sym, ◌∙◌, subst, ⊎_elim, arith}
use Rattle.std.specs.Prelude.{Some, ◌⊎◌, ◌+◌, ◌==◌, ◌&&◌, ◌||◌, get_or, is_some, not, suc, zero}
use Rattle.std.specs.List.{AllByRecursion, AllWithin, filter, insert, list_any}
use Rattle.std.specs.List.Sorted.{IsNonDecreasingBy, IsPartitionPoint}
use Rattle.std.proofs.lemmas.Bool.{lt-ltb, le-ltb, le-leb, lt-leb, leb-true, leb-false, ltb-true, ltb-false, eq-eqb, ne_eqb, cases_lt, cases_order}
use Rattle.std.proofs.lemmas.List.{append-nil, drop_more, get_or-drop, get_or-take, get_or_at, length-drop, length-take-le, take-append-drop, take_at, drop_at}
use Rattle.std.proofs.lemmas.List.Elements.{filter-append, recursion_from_All}
use Rattle.std.proofs.lemmas.List.Folds.{list_any-append}
use Rattle.durability.specs.declared.waiting.Waiting.{Waiting}
use Rattle.durability.specs.Outstanding.{Rises, IsFirst, front, at_seq, below, upto, above, placed, without}

-- each lies above q, below it, or at most at it
abbrev pub Above : ℕ → List Waiting → Type 0
Above q ws = AllByRecursion (λ w. q < w.seq) ws

abbrev pub Below : ℕ → List Waiting → Type 0
Below q ws = AllByRecursion (λ w. w.seq < q) ws

abbrev pub AtMost : ℕ → List Waiting → Type 0
AtMost q ws = AllByRecursion (λ w. w.seq ≤ q) ws

module _ (test : Waiting → Bool) where
  pub kept : (w : Waiting) (ws xs : List Waiting) → test w ≡ true → filter test ws ≡ xs → filter test (w ∷ ws) ≡ w ∷ xs
  kept w ws xs t e = ap (λ b. cond b (w ∷ filter test ws) (filter test ws)) t ∙ ap (λ ys. w ∷ ys) e

  pub left : (w : Waiting) (ws xs : List Waiting) → test w ≡ false → filter test ws ≡ xs → filter test (w ∷ ws) ≡ xs
  left w ws xs t e = ap (λ b. cond b (w ∷ filter test ws) (filter test ws)) t ∙ e

pub above_parts : (q : ℕ) (ws : List Waiting) → Above q ws → (below q ws ≡ []) × (at_seq q ws ≡ []) × (above q ws ≡ ws) × (upto q ws ≡ [])
above_parts q [] h = (refl, refl, refl, refl)
above_parts q (w ∷ ws) h =
    let r = above_parts q ws h.1 in
    let l : q < w.seq = h.0 in (
      left (λ v. ltb v.seq q) w ws [] (le-ltb w.seq q (omega arith)) r.0,
      left (λ v. eqb v.seq q) w ws [] (ne_eqb w.seq q (λ e. omega arith)) r.1,
      kept (λ v. ltb q v.seq) w ws ws (lt-ltb q w.seq l) r.2,
      left (λ v. leb v.seq q) w ws [] (lt-leb w.seq q l) r.3,
    )

pub below_parts : (q : ℕ) (ws : List Waiting) → Below q ws → at_seq q ws ≡ []
below_parts q [] h = refl
below_parts q (w ∷ ws) h =
    let l : w.seq < q = h.0 in
    left (λ v. eqb v.seq q) w ws [] (ne_eqb w.seq q (λ e. omega arith)) (below_parts q ws h.1)

pub upto_parts : (q : ℕ) (ws : List Waiting) → AtMost q ws → (upto q ws ≡ ws) × (above q ws ≡ [])
upto_parts q [] h = (refl, refl)
upto_parts q (w ∷ ws) h =
    let r = upto_parts q ws h.1 in
    (kept (λ v. leb v.seq q) w ws ws (le-leb w.seq q h.0) r.0, left (λ v. ltb q v.seq) w ws [] (le-ltb q w.seq h.0) r.1)

pub rises_from : (m n : ℕ) (ws : List Waiting) → m ≤ n → Rises n ws → Rises m ws
rises_from m n [] l r = tt
rises_from m n (w ∷ ws) l r = let k : n ≤ w.seq = r.0 in (omega arith, r.1)

pub rises_above : (q n : ℕ) (ws : List Waiting) → q < n → Rises n ws → Above q ws
rises_above q n [] l r = tt
rises_above q n (w ∷ ws) l r = let k : n ≤ w.seq = r.0 in let m : q < w.seq = omega arith in (m, rises_above q w.seq ws m r.1)

pub rises_to : (n : ℕ) (xs : List Waiting) (w : Waiting) (ys : List Waiting) → Rises n (xs ++ w ∷ ys) → (n ≤ w.seq) × Rises w.seq ys
rises_to n [] w ys r = r
rises_to n (x ∷ xs) w ys r = let k : n ≤ x.seq = r.0 in let m = rises_to x.seq xs w ys r.1 in let l : x.seq ≤ w.seq = m.0 in (omega arith, m.1)

pub at_most : (q n : ℕ) (xs : List Waiting) (w : Waiting) (ys : List Waiting) → Rises n (xs ++ w ∷ ys) → w.seq ≤ q → AtMost q (xs ++ w ∷ [])
at_most q n [] w ys r l = (l, tt)
at_most q n (x ∷ xs) w ys r l = let m : x.seq ≤ w.seq = (rises_to x.seq xs w ys r.1).0 in (omega arith, at_most q x.seq xs w ys r.1 l)

-- from q on, at it and above it is all
pub from_parts : (q n : ℕ) (ws : List Waiting) → q ≤ n → Rises n ws → (below q ws ≡ []) × (at_seq q ws ++ above q ws ≡ ws)
from_parts q n [] l r = (refl, refl)
from_parts q n (w ∷ ws) l r =
    let k : n ≤ w.seq = r.0 in
    let i = from_parts q w.seq ws (omega arith) r.1 in
    (left (λ v. ltb v.seq q) w ws [] (le-ltb w.seq q (omega arith)) i.0, side (cases_order q w.seq) i.1)
  where
    side : (q ≡ w.seq) ⊎ ((q < w.seq) ⊎ (w.seq < q)) → at_seq q ws ++ above q ws ≡ ws → at_seq q (w ∷ ws) ++ above q (w ∷ ws) ≡ w ∷ ws
    side c e = ⊎_elim
        (λ s. ap (λ xs. xs ++ above q (w ∷ ws)) (kept (λ v. eqb v.seq q) w ws (at_seq q ws) (eq-eqb w.seq q (sym s)) refl)
        ∙ ap (λ xs. w ∷ at_seq q ws ++ xs) (left (λ v. ltb q v.seq) w ws (above q ws) (le-ltb q w.seq (omega arith)) refl) ∙ ap (λ xs. w ∷ xs) e)
        (λ d. ⊎_elim
        (λ g. let a = above_parts q (w ∷ ws) (g, rises_above q w.seq ws g r.1) in ap (λ xs. xs ++ above q (w ∷ ws)) a.1 ∙ a.2)
        (λ g. let k : n ≤ w.seq = r.0 in absurd (omega arith)) d)
        c

-- without one: where it is above or below the first, or is the first
pub without_above : (q : ℕ) (ws : List Waiting) → Above q ws → without q ws ≡ ws
without_above q ws h =
    let a = above_parts q ws h in
    ap (λ xs. xs ++ drop 1 (at_seq q ws) ++ above q ws) a.0 ∙ ap (λ xs. drop 1 xs ++ above q ws) a.1 ∙ a.2

pub without_first : (q : ℕ) (w : Waiting) (ws : List Waiting) → w.seq ≡ q → Rises w.seq ws → without q (w ∷ ws) ≡ ws
without_first q w ws e r =
    let f = from_parts q w.seq ws (omega arith) r in
    ap (λ xs. xs ++ drop 1 (at_seq q (w ∷ ws)) ++ above q (w ∷ ws)) (left (λ v. ltb v.seq q) w ws [] (le-ltb w.seq q (omega arith)) f.0)
    ∙ ap (λ xs. drop 1 xs ++ above q (w ∷ ws)) (kept (λ v. eqb v.seq q) w ws (at_seq q ws) (eq-eqb w.seq q e) refl)
    ∙ ap (λ xs. at_seq q ws ++ xs) (left (λ v. ltb q v.seq) w ws (above q ws) (le-ltb q w.seq (omega arith)) refl) ∙ f.1

pub without_later : (q : ℕ) (w : Waiting) (ws : List Waiting) → w.seq < q → without q (w ∷ ws) ≡ w ∷ without q ws
without_later q w ws l =
    ap (λ xs. xs ++ drop 1 (at_seq q (w ∷ ws)) ++ above q (w ∷ ws)) (kept (λ v. ltb v.seq q) w ws (below q ws) (lt-ltb w.seq q l) refl)
    ∙ ap (λ xs. w ∷ below q ws ++ drop 1 xs ++ above q (w ∷ ws)) (left (λ v. eqb v.seq q) w ws (at_seq q ws) (ne_eqb w.seq q (λ e. omega arith)) refl)
    ∙ ap (λ xs. w ∷ below q ws ++ drop 1 (at_seq q ws) ++ xs) (left (λ v. ltb q v.seq) w ws (above q ws) (le-ltb q w.seq (omega arith)) refl)

pub without_front : (q : ℕ) (done rest : List Waiting) → Below q done → without q (done ++ rest) ≡ done ++ without q rest
without_front q [] rest h = refl
without_front q (w ∷ done) rest h = without_later q w (done ++ rest) h.0 ∙ ap (λ xs. w ∷ xs) (without_front q done rest h.1)

pub rises_without : (n q : ℕ) (ws : List Waiting) → Rises n ws → Rises n (without q ws)
rises_without n q [] r = tt
rises_without n q (w ∷ ws) r = ⊎_elim
    (λ s. subst (Rises n) (sym (without_first q w ws (sym s) r.1)) (rises_from n w.seq ws r.0 r.1))
    (⊎_elim
    (λ g. subst (Rises n) (sym (without_above q (w ∷ ws) (g, rises_above q w.seq ws g r.1))) r)
    (λ g. subst (Rises n) (sym (without_later q w ws g)) (r.0, rises_without w.seq q ws r.1)))
    (cases_order q w.seq)

-- a prepare that comes
pub placed_there : (p : Waiting) (low more : List Waiting) → AtMost p.seq low → Above p.seq more → take (length low) (low ++ more) ++ p ∷ drop (length low) (low ++ more) ≡ placed p (low ++ more)
placed_there p low more l h =
    let u = upto_parts p.seq low l in
    let a = above_parts p.seq more h in
    ap (λ xs. xs ++ p ∷ drop (length low) (low ++ more)) (take_at low more (length low) refl)
    ∙ ap (λ xs. low ++ p ∷ xs) (drop_at low more (length low) refl)
    ∙ sym (ap (λ xs. xs ++ p ∷ above p.seq (low ++ more)) (filter-append (λ v. leb v.seq p.seq) low more ∙ ap (λ xs. xs ++ upto p.seq more) u.0 ∙ ap (λ xs. low ++ xs) a.3 ∙ append-nil low)
    ∙ ap (λ xs. low ++ p ∷ xs) (filter-append (λ v. ltb p.seq v.seq) low more ∙ ap (λ xs. xs ++ above p.seq more) u.1 ∙ a.2))

pub rises_placed : (n : ℕ) (p : Waiting) (ws : List Waiting) → n ≤ p.seq → Rises n ws → Rises n (placed p ws)
rises_placed n p [] l r = (l, tt)
rises_placed n p (w ∷ ws) l r = ⊎_elim
    (λ g.
    let a = above_parts p.seq (w ∷ ws) (g, rises_above p.seq w.seq ws g r.1) in
    let m : p.seq < w.seq = g in
    subst (Rises n) (sym (ap (λ xs. xs ++ p ∷ above p.seq (w ∷ ws)) a.3 ∙ ap (λ xs. p ∷ xs) a.2)) (l, (omega arith, r.1)))
    (λ g. subst (Rises n)
    (sym (ap (λ xs. xs ++ p ∷ above p.seq (w ∷ ws)) (kept (λ v. leb v.seq p.seq) w ws (upto p.seq ws) (le-leb w.seq p.seq g) refl)
    ∙ ap (λ xs. w ∷ upto p.seq ws ++ p ∷ xs) (left (λ v. ltb p.seq v.seq) w ws (above p.seq ws) (le-ltb p.seq w.seq g) refl)))
    (r.0, rises_placed w.seq p ws g r.1))
    (cases_lt p.seq w.seq)

-- a prepare that goes, or is not there
pub first_there : (q : ℕ) (done : List Waiting) (w : Waiting) (more : List Waiting) → Below q done → w.seq ≡ q → Rises w.seq more → IsFirst q (done ++ w ∷ more) (length done)
first_there q done w more h e r =
    let at : at_seq q (done ++ w ∷ more) ≡ w ∷ at_seq q more =
    filter-append (λ v. eqb v.seq q) done (w ∷ more) ∙ ap (λ xs. xs ++ at_seq q (w ∷ more)) (below_parts q done h) ∙ kept (λ v. eqb v.seq q) w more (at_seq q more) (eq-eqb w.seq q e) refl in
    record {
      within = shorter done;
      first = λ other. ap front at ∙ ap Some (sym (get_or_at done w more other (length done) refl));
      rest = ap (λ xs. xs ++ drop (suc (length done)) (done ++ w ∷ more)) (take_at done (w ∷ more) (length done) refl)
          ∙ ap (λ xs. done ++ xs) (behind done)
          ∙ sym (without_front q done (w ∷ more) h ∙ ap (λ xs. done ++ xs) (without_first q w more e r));
    }
  where
    behind : (xs : List Waiting) → drop (suc (length xs)) (xs ++ w ∷ more) ≡ more
    behind [] = refl
    behind (x ∷ xs) = behind xs

    shorter : (xs : List Waiting) → length xs < length (xs ++ w ∷ more)
    shorter [] = omega arith
    shorter (x ∷ xs) = let l = shorter xs in omega arith

pub none_there : (q : ℕ) (done rest : List Waiting) → Below q done → Above q rest → (at_seq q (done ++ rest) ≡ []) × (without q (done ++ rest) ≡ done ++ rest)
none_there q done rest h a = (
  filter-append (λ v. eqb v.seq q) done rest ∙ ap (λ xs. xs ++ at_seq q rest) (below_parts q done h) ∙ (above_parts q rest a).1,
  without_front q done rest h ∙ ap (λ xs. done ++ xs) (without_above q rest a),
)

-- the seqnos at two places
rises_at : (n j : ℕ) (d : Waiting) (ws : List Waiting) → Rises n ws → j < length ws → n ≤ (get_or ws j d).seq
rises_at n j d [] r l = absurd (omega arith)
rises_at n zero d (w ∷ ws) r l = r.0
rises_at n (suc j) d (w ∷ ws) r l = let k : n ≤ w.seq = r.0 in let m = rises_at w.seq j d ws r.1 (omega arith) in omega arith

pub rises_by : (n : ℕ) (ws : List Waiting) → Rises n ws → IsNonDecreasingBy (λ w. w.seq) ws
rises_by n [] r i j d l m = absurd (omega arith)
rises_by n (w ∷ ws) r zero zero d l m = omega arith
rises_by n (w ∷ ws) r zero (suc j) d l m = rises_at w.seq j d ws r.1 (omega arith)
rises_by n (w ∷ ws) r (suc i) zero d l m = absurd (omega arith)
rises_by n (w ∷ ws) r (suc i) (suc j) d l m = rises_by w.seq ws r.1 i j d (omega arith) (omega arith)

-- what holds up to a place and from it on
module _ (P : Waiting → Type 0) (at : ℕ) (ws : List Waiting) where
  pub up_to : at ≤ length ws → AllWithin P ws 0 at → AllByRecursion P (take at ws)
  up_to l h =
      let e = length-take-le at ws l in
      recursion_from_All P (take at ws) (λ k d m. subst P (sym (get_or-take at ws k d (omega arith))) (h k d (omega arith) (omega arith)))

  pub from_on : AllWithin P ws at (length ws) → AllByRecursion P (drop at ws)
  from_on h =
      let e = length-drop at ws in
      recursion_from_All P (drop at ws) (λ k d m. subst P (sym (get_or-drop at ws k d)) (h (at + k) d (omega arith) (omega arith)))

-- where a search in halves ends: a prepare goes there, is put there, stands there or nowhere
pub goes_there : (p : Waiting) (at : ℕ) (ws : List Waiting) → at ≤ length ws → IsPartitionPoint (λ w. leb w.seq p.seq ≡ true) (λ w. leb w.seq p.seq ≡ false) ws at → insert ws at p ≡ placed p ws
goes_there p at ws l h =
    let low = up_to (λ w. w.seq ≤ p.seq) at ws l (λ k d a b. leb-true _ _ (h.0 k d a b)) in
    let more = from_on (λ w. p.seq < w.seq) at ws (λ k d a b. leb-false _ _ (h.1 k d a b)) in
    subst (λ n. insert ws n p ≡ placed p ws) (length-take-le at ws l)
    (subst (λ xs. insert xs (length (take at ws)) p ≡ placed p xs) (take-append-drop at ws) (placed_there p (take at ws) (drop at ws) low more))

pub turned : (p : Waiting) (low more : List Waiting) (n : ℕ) → length more ≡ n → drop (n + 1) (p ∷ more ++ low) ++ take (n + 1) (p ∷ more ++ low) ≡ low ++ p ∷ more
turned p low more n e =
    ap (λ xs. xs ++ take (n + 1) (p ∷ more ++ low)) (drop_at (p ∷ more) low (n + 1) (omega (arith, e)))
    ∙ ap (λ xs. low ++ xs) (take_at (p ∷ more) low (n + 1) (omega (arith, e)))

pub stands_there : (q at : ℕ) (ws : List Waiting) (w : Waiting) → Rises 0 ws → IsPartitionPoint (λ v. ltb v.seq q ≡ true) (λ v. ltb v.seq q ≡ false) ws at → at < length ws → w ≡ get_or ws at w → w.seq ≡ q → IsFirst q ws at
stands_there q at ws w r h l e s =
    let low = up_to (λ v. v.seq < q) at ws (omega arith) (λ k d a b. ltb-true _ _ (h.0 k d a b)) in
    let more = drop (at + 1) ws in
    let whole : take at ws ++ w ∷ more ≡ ws = ap (λ v. take at ws ++ v ∷ more) e ∙ ap (λ xs. take at ws ++ xs) (sym (drop_more ws at w l)) ∙ take-append-drop at ws in
    subst (IsFirst q ws) (length-take-le at ws (omega arith))
    (subst (λ xs. IsFirst q xs (length (take at ws))) whole (first_there q (take at ws) w more low s (rises_to 0 (take at ws) w more (subst (Rises 0) (sym whole) r)).1))

pub lacks_there : (q at : ℕ) (ws : List Waiting) → Rises 0 ws → at ≤ length ws → IsPartitionPoint (λ v. ltb v.seq q ≡ true) (λ v. ltb v.seq q ≡ false) ws at
    → ((d : Waiting) → at < length ws → (get_or ws at d).seq ≡ q → ⊥) → (at_seq q ws ≡ []) × (without q ws ≡ ws)
lacks_there q at ws r l h other =
    let low = up_to (λ v. v.seq < q) at ws l (λ k d a b. ltb-true _ _ (h.0 k d a b)) in
    let more = from_on (λ v. q < v.seq) at ws
    (λ k d a b.
    let m = rises_by 0 ws r at k d a b in
    let n = ltb-false _ _ (h.1 at d (omega arith) (omega arith)) in
    ⊎_elim (λ c. c) (λ c. absurd (other d (omega arith) (omega arith))) (cases_lt q (get_or ws k d).seq)) in
    subst (λ xs. (at_seq q xs ≡ []) × (without q xs ≡ xs)) (take-append-drop at ws) (none_there q (take at ws) (drop at ws) low more)

-- those of a seqno that are to be committed again
abbrev pub left_at : ℕ → Waiting → Bool
left_at q w = w.seq == q && not (is_some w.deadline)

no_left : (q : ℕ) (ws : List Waiting) → AllByRecursion (λ w. (w.seq == q) ≡ false) ws → list_any (left_at q) ws ≡ false
no_left q [] h = refl
no_left q (w ∷ ws) h = ap (λ b. (b && not (is_some w.deadline)) || list_any (left_at q) ws) h.0 ∙ no_left q ws h.1

pub no_left_above : (q : ℕ) (w : Waiting) (ws : List Waiting) → q < w.seq → Rises w.seq ws → list_any (left_at q) (w ∷ ws) ≡ false
no_left_above q w ws l r = no_left q (w ∷ ws) (above_ones (w ∷ ws) (l, rises_above q w.seq ws l r))
  where
    above_ones : (vs : List Waiting) → Above q vs → AllByRecursion (λ v. (v.seq == q) ≡ false) vs
    above_ones [] h = tt
    above_ones (v ∷ vs) h = let k : q < v.seq = h.0 in (ne_eqb v.seq q (λ e. omega arith), above_ones vs h.1)

rises_on : (q n at : ℕ) (ws : List Waiting) → Rises n ws → AllByRecursion (λ w. q ≤ w.seq) (drop at ws) → Rises q (drop at ws)
rises_on q n zero [] r h = tt
rises_on q n zero (w ∷ ws) r h = (h.0, r.1)
rises_on q n (suc at) [] r h = tt
rises_on q n (suc at) (w ∷ ws) r h = rises_on q w.seq at ws r.1 h

pub left_behind : (q at : ℕ) (ws : List Waiting) → Rises 0 ws → at ≤ length ws → IsPartitionPoint (λ v. ltb v.seq q ≡ true) (λ v. ltb v.seq q ≡ false) ws at
    → (list_any (left_at q) (drop at ws) ≡ list_any (left_at q) ws) × Rises q (drop at ws)
left_behind q at ws r l h = (
  sym (ap (list_any (left_at q)) (sym (take-append-drop at ws)) ∙ list_any-append (left_at q) (take at ws) (drop at ws)
      ∙ ap (λ b. b || list_any (left_at q) (drop at ws)) (no_left q (take at ws) (up_to (λ v. (v.seq == q) ≡ false) at ws l (λ k d a b. let m = ltb-true _ _ (h.0 k d a b) in ne_eqb _ q (λ e. omega arith))))),
  rises_on q 0 at ws r (from_on (λ v. q ≤ v.seq) at ws (λ k d a b. ltb-false _ _ (h.1 k d a b))),
)

-- taking out what was put at a place
pub put_back : (at : ℕ) (p : Waiting) (ws : List Waiting) → at ≤ length ws → take at (take at ws ++ p ∷ drop at ws) ++ drop (suc at) (take at ws ++ p ∷ drop at ws) ≡ ws
put_back zero p ws l = refl
put_back (suc n) p [] l = let k : suc n ≤ 0 = l in absurd (omega arith)
put_back (suc n) p (w ∷ ws) l = ap (λ xs. w ∷ xs) (put_back n p ws (omega (arith, l)))

-- taking out what stands at a place leaves the others as they rise
pub rises_out : (n at : ℕ) (ws : List Waiting) → Rises n ws → Rises n (take at ws ++ drop (suc at) ws)
rises_out n zero [] r = tt
rises_out n zero (w ∷ ws) r = rises_from n w.seq ws r.0 r.1
rises_out n (suc at) [] r = tt
rises_out n (suc at) (w ∷ ws) r = (r.0, rises_out w.seq at ws r.1)
