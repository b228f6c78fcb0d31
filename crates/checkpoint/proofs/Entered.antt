-- changes after one more, which takes the place of the earlier one of its key
use Rattle.std.proofs.Common.{◌≡◌, ◌≢◌, ℕ, ◌+◌, ◌<◌, ◌≤◌, Bool, true, false, cond, List, [], ◌∷◌, ◌++◌, refl, ap, sym, ◌∙◌, subst, arith}
use Rattle.std.specs.Prelude.{Some, None, not}
use Rattle.std.specs.List.{filter, sum_by}
use Rattle.std.specs.Option.{option_map, unwrap_or}
use Rattle.std.specs.Str.{bytes_eq}
use Rattle.std.proofs.lemmas.Slice.Eq.{bytes_eq-Decides}
use Rattle.std.proofs.lemmas.List.Sums.{sum_by-cons, sum_by-append}
use Rattle.vb_types.specs.Histories.{Rises}
use Rattle.vb_types.specs.declared.change.Change.{Change}
use Rattle.branch_model.specs.Histories.{last_seq}
use Rattle.checkpoint.specs.Checkpoints.{item_at, entered}
use Rattle.checkpoint.specs.Finds.{AreDistinct}

pub same_key : (a b : List ℕ) → bytes_eq a b ≡ true → a ≡ b
same_key a b e = (bytes_eq-Decides a b).0 e

pub other_key : (a b : List ℕ) → bytes_eq a b ≡ false → a ≢ b
other_key a b e same = let k = (bytes_eq-Decides a b).1 same in cc

pub apart : (a b : List ℕ) → a ≢ b → bytes_eq a b ≡ false
apart a b h = elim (bytes_eq a b) as (λ v. bytes_eq a b ≡ v → v ≡ false) [ true ↦ λ e. absurd (h (same_key a b e)) | false ↦ λ e. refl ] refl

-- a key that no change has keeps them all
pub none_goes : (k : List ℕ) (cs : List Change) → item_at k cs ≡ None → filter (λ d. not (bytes_eq d.key k)) cs ≡ cs
none_goes k [] h = refl
none_goes k (d ∷ ds) h =
    elim (bytes_eq d.key k) as (λ v. cond v (Some d) (item_at k ds) ≡ None → cond (not v) (d ∷ filter (λ x. not (bytes_eq x.key k)) ds) (filter (λ x. not (bytes_eq x.key k)) ds) ≡ d ∷ ds) [
      | true ↦ λ e. cc
      | false ↦ λ e. ap (λ xs. d ∷ xs) (none_goes k ds e)
    ] h

-- the change of any key: the new one, or what it was
step_at : (c d : Change) (key : List ℕ) (ds : List Change) (b : Bool) → bytes_eq d.key c.key ≡ b → item_at key (entered ds c) ≡ cond (bytes_eq c.key key) (Some c) (item_at key ds)
    → item_at key (cond (not b) (d ∷ filter (λ x. not (bytes_eq x.key c.key)) ds) (filter (λ x. not (bytes_eq x.key c.key)) ds) ++ c ∷ []) ≡ cond (bytes_eq c.key key) (Some c) (cond (bytes_eq d.key key) (Some d) (item_at key ds))
step_at c d key ds true e h = h ∙ elim (bytes_eq c.key key) as (λ v. bytes_eq c.key key ≡ v → cond v (Some c) (item_at key ds) ≡ cond v (Some c) (cond (bytes_eq d.key key) (Some d) (item_at key ds))) [
  | true ↦ λ t. refl
  | false ↦ λ t. ap (λ v. cond v (Some d) (item_at key ds)) (sym (ap (λ k. bytes_eq k key) (same_key d.key c.key e) ∙ t))
] refl
step_at c d key ds false e h = elim (bytes_eq d.key key) as (λ v. bytes_eq d.key key ≡ v → cond v (Some d) (item_at key (entered ds c)) ≡ cond (bytes_eq c.key key) (Some c) (cond v (Some d) (item_at key ds))) [
  | true ↦ λ t. ap (λ v. cond v (Some c) (Some d)) (sym (apart c.key key (λ s. other_key d.key c.key e (same_key d.key key t ∙ sym s))))
  | false ↦ λ t. h
] refl

pub entered_at : (c : Change) (key : List ℕ) (cs : List Change) → item_at key (entered cs c) ≡ cond (bytes_eq c.key key) (Some c) (item_at key cs)
entered_at c key [] = refl
entered_at c key (d ∷ ds) = step_at c d key ds (bytes_eq d.key c.key) refl (entered_at c key ds)

pub entered_distinct : (c : Change) (cs : List Change) → AreDistinct cs → AreDistinct (entered cs c)
entered_distinct c [] h = (refl, tt)
entered_distinct c (d ∷ ds) h = elim (bytes_eq d.key c.key) as (λ v. bytes_eq d.key c.key ≡ v → AreDistinct (cond (not v) (d ∷ filter (λ x. not (bytes_eq x.key c.key)) ds) (filter (λ x. not (bytes_eq x.key c.key)) ds) ++ c ∷ [])) [
  | true ↦ λ e. entered_distinct c ds h.1
  | false ↦ λ e. (entered_at c d.key ds ∙ ap (λ v. cond v (Some c) (item_at d.key ds)) (apart c.key d.key (λ s. other_key d.key c.key e (sym s))) ∙ h.0, entered_distinct c ds h.1)
] refl

-- what goes and what comes
pub entered_sum : (f : Change → ℕ) (c : Change) (cs : List Change) → AreDistinct cs → sum_by f (entered cs c) + unwrap_or (option_map f (item_at c.key cs)) 0 ≡ sum_by f cs + f c
entered_sum f c [] h = omega arith
entered_sum f c (d ∷ ds) h = elim (bytes_eq d.key c.key) as (λ v. bytes_eq d.key c.key ≡ v
    → sum_by f (cond (not v) (d ∷ filter (λ x. not (bytes_eq x.key c.key)) ds) (filter (λ x. not (bytes_eq x.key c.key)) ds) ++ c ∷ []) + unwrap_or (option_map f (cond v (Some d) (item_at c.key ds))) 0 ≡ sum_by f (d ∷ ds) + f c) [
      | true ↦ λ e.
          let none = none_goes c.key ds (subst (λ k. item_at k ds ≡ None) (same_key d.key c.key e) h.0) in
          let all = ap (λ xs. sum_by f (xs ++ c ∷ [])) none in
          omega (arith, all, sum_by-append f ds (c ∷ []), sum_by-cons f d ds, sum_by-cons f c [])
      | false ↦ λ e.
          let more = entered_sum f c ds h.1 in
          omega (arith, more, sum_by-cons f d (entered ds c), sum_by-cons f d ds)
    ] refl

-- seqnos

pub rises_le : (low high : ℕ) (cs : List Change) → Rises low high cs → low ≤ high
rises_le low high [] h = h
rises_le low high (d ∷ ds) h = let k = rises_le d.seq high ds h.1 in omega arith

rises_from : (low from high : ℕ) (cs : List Change) → low ≤ from → Rises from high cs → Rises low high cs
rises_from low from high [] l h = omega arith
rises_from low from high (d ∷ ds) l h = (let k : from < d.seq = h.0 in omega arith, h.1)

pub entered_rises : (low high : ℕ) (c : Change) (cs : List Change) → Rises low high cs → high < c.seq → Rises low c.seq (entered cs c)
entered_rises low high c [] h l = (omega arith, omega arith)
entered_rises low high c (d ∷ ds) h l =
    let rest = entered_rises d.seq high c ds h.1 l in
    elim (bytes_eq d.key c.key) as (λ v. Rises low c.seq (cond (not v) (d ∷ filter (λ x. not (bytes_eq x.key c.key)) ds) (filter (λ x. not (bytes_eq x.key c.key)) ds) ++ c ∷ [])) [
      | true ↦ let k : low < d.seq = h.0 in rises_from low d.seq c.seq (entered ds c) (omega arith) rest
      | false ↦ (h.0, rest)
    ]

last_pushed : (n : ℕ) (c : Change) (cs : List Change) → last_seq n (cs ++ c ∷ []) ≡ c.seq
last_pushed n c [] = refl
last_pushed n c (d ∷ ds) = last_pushed d.seq c ds

pub entered_last : (n : ℕ) (c : Change) (cs : List Change) → c.seq ≡ last_seq n (entered cs c)
entered_last n c cs = sym (last_pushed n c (filter (λ d. not (bytes_eq d.key c.key)) cs))
