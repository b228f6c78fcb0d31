-- what a prepare that comes or goes leaves of each seqno, and which one's time is up first
use Rattle.std.proofs.Common.{◌≡◌, ◌≢◌, ℕ, ◌<◌, ◌≤◌, Bool, true, false, cond, leb, ltb, eqb, List, [], ◌∷◌, ◌++◌, drop, refl, ap, sym, ◌∙◌, inl, inr, ⊎_elim, arith}
use Rattle.std.specs.Prelude.{Option, Some, None}
use Rattle.std.specs.List.{filter}
use Rattle.std.proofs.lemmas.Bool.{leb-true, le-leb, eqb-true, eq-eqb, ne_eqb, le-ltb, lt-ltb, lt-leb, cases_lt}
use Rattle.std.proofs.lemmas.List.{append-nil}
use Rattle.std.proofs.lemmas.List.Elements.{filter-append}
use Rattle.durability.specs.declared.waiting.Waiting.{Waiting}
use Rattle.durability.specs.Outstanding.{Rises, at_seq, below, upto, above, placed, without, late, is_late, front_seq}
use Rattle.durability.specs.Laws.{Waits, IsLate}
use Rattle.durability.proofs.Counts.{waits_above}

-- a part of a list by one test, and of that a part by another
module _ (f g : Waiting → Bool) where
  pub both : (ws : List Waiting) → ((w : Waiting) → g w ≡ true → f w ≡ true) → filter g (filter f ws) ≡ filter g ws
  both [] h = refl
  both (w ∷ ws) h = side (f w) (g w) refl refl (both ws h)
    where
      side : (b d : Bool) → f w ≡ b → g w ≡ d → filter g (filter f ws) ≡ filter g ws → filter g (cond b (w ∷ filter f ws) (filter f ws)) ≡ cond d (w ∷ filter g ws) (filter g ws)
      side true d s t e = ap (λ x. cond x (w ∷ filter g (filter f ws)) (filter g (filter f ws))) t ∙ ap (λ xs. cond d (w ∷ xs) xs) e
      side false true s t e = let z : true ≡ false = sym (h w t) ∙ s in absurd (cc)
      side false false s t e = e

  pub none : (ws : List Waiting) → ((w : Waiting) → g w ≡ true → f w ≡ false) → filter g (filter f ws) ≡ []
  none [] h = refl
  none (w ∷ ws) h = side (f w) (g w) refl refl (none ws h)
    where
      side : (b d : Bool) → f w ≡ b → g w ≡ d → filter g (filter f ws) ≡ [] → filter g (cond b (w ∷ filter f ws) (filter f ws)) ≡ []
      side true true s t e = let z : true ≡ false = sym s ∙ h w t in absurd (cc)
      side true false s t e = ap (λ x. cond x (w ∷ filter g (filter f ws)) (filter g (filter f ws))) t ∙ e
      side false d s t e = e

  -- the same without the first
  pub none_behind : (ws : List Waiting) → ((w : Waiting) → g w ≡ true → f w ≡ false) → filter g (drop 1 (filter f ws)) ≡ []
  none_behind [] h = refl
  none_behind (w ∷ ws) h = elim (f w) as (λ b. filter g (drop 1 (cond b (w ∷ filter f ws) (filter f ws))) ≡ []) [ true ↦ none ws h | false ↦ none_behind ws h ]

pub all_behind : (f : Waiting → Bool) (ws : List Waiting) → filter f (drop 1 (filter f ws)) ≡ drop 1 (filter f ws)
all_behind f [] = refl
all_behind f (w ∷ ws) = elim (f w) as (λ b. filter f (drop 1 (cond b (w ∷ filter f ws) (filter f ws))) ≡ drop 1 (cond b (w ∷ filter f ws) (filter f ws))) [ true ↦ both f f ws (λ v t. t) | false ↦ all_behind f ws ]

-- those of one seqno, below, up to and above another
at_upto : (q p : ℕ) (ws : List Waiting) → q ≤ p → at_seq q (upto p ws) ≡ at_seq q ws
at_upto q p ws l = both (λ w. leb w.seq p) (λ w. eqb w.seq q) ws (λ w t. let e = eqb-true w.seq q t in le-leb w.seq p (omega arith))

at_above : (q p : ℕ) (ws : List Waiting) → p < q → at_seq q (above p ws) ≡ at_seq q ws
at_above q p ws l = both (λ w. ltb p w.seq) (λ w. eqb w.seq q) ws (λ w t. let e = eqb-true w.seq q t in lt-ltb p w.seq (omega arith))

at_below : (q p : ℕ) (ws : List Waiting) → q < p → at_seq q (below p ws) ≡ at_seq q ws
at_below q p ws l = both (λ w. ltb w.seq p) (λ w. eqb w.seq q) ws (λ w t. let e = eqb-true w.seq q t in lt-ltb w.seq p (omega arith))

none_upto : (q p : ℕ) (ws : List Waiting) → p < q → at_seq q (upto p ws) ≡ []
none_upto q p ws l = none (λ w. leb w.seq p) (λ w. eqb w.seq q) ws (λ w t. let e = eqb-true w.seq q t in lt-leb w.seq p (omega arith))

none_above : (q p : ℕ) (ws : List Waiting) → q ≤ p → at_seq q (above p ws) ≡ []
none_above q p ws l = none (λ w. ltb p w.seq) (λ w. eqb w.seq q) ws (λ w t. let e = eqb-true w.seq q t in le-ltb p w.seq (omega arith))

none_below : (q p : ℕ) (ws : List Waiting) → p ≤ q → at_seq q (below p ws) ≡ []
none_below q p ws l = none (λ w. ltb w.seq p) (λ w. eqb w.seq q) ws (λ w t. let e = eqb-true w.seq q t in le-ltb w.seq p (omega arith))

-- of two or three parts
two : (q : ℕ) (xs ys us vs : List Waiting) → at_seq q xs ≡ us → at_seq q ys ≡ vs → at_seq q (xs ++ ys) ≡ us ++ vs
two q xs ys us vs a b = filter-append (λ w. eqb w.seq q) xs ys ∙ ap (λ zs. zs ++ at_seq q ys) a ∙ ap (λ zs. us ++ zs) b

one_more : (q : ℕ) (p : Waiting) (xs ys : List Waiting) (b : Bool) → eqb p.seq q ≡ b → at_seq q xs ≡ ys → at_seq q (p ∷ xs) ≡ cond b (p ∷ ys) ys
one_more q p xs ys b t e = ap (λ x. cond x (p ∷ at_seq q xs) (at_seq q xs)) t ∙ ap (λ zs. cond b (p ∷ zs) zs) e

pub comes : (p : Waiting) (ws : List Waiting) → at_seq p.seq (placed p ws) ≡ at_seq p.seq ws ++ p ∷ []
comes p ws = two p.seq (upto p.seq ws) (p ∷ above p.seq ws) _ _ (at_upto p.seq p.seq ws (omega arith)) (one_more p.seq p (above p.seq ws) [] true (eq-eqb p.seq p.seq refl) (none_above p.seq p.seq ws (omega arith)))

pub stay : (p : Waiting) (q : ℕ) (ws : List Waiting) → q ≢ p.seq → at_seq q (placed p ws) ≡ at_seq q ws
stay p q ws h = ⊎_elim
    (λ l. two q (upto p.seq ws) (p ∷ above p.seq ws) (at_seq q ws) [] (at_upto q p.seq ws (omega arith)) (one_more q p (above p.seq ws) [] false (ne_eqb p.seq q (λ e. h (sym e))) (none_above q p.seq ws (omega arith))) ∙ append-nil (at_seq q ws))
    (λ l. two q (upto p.seq ws) (p ∷ above p.seq ws) [] (at_seq q ws) (none_upto q p.seq ws (over l)) (one_more q p (above p.seq ws) (at_seq q ws) false (ne_eqb p.seq q (λ e. h (sym e))) (at_above q p.seq ws (over l))))
    (cases_lt q p.seq)
  where
    over : p.seq ≤ q → p.seq < q
    over l = ⊎_elim (λ k. k) (λ k. absurd (h (omega arith))) (cases_lt p.seq q)

pub goes : (q : ℕ) (ws : List Waiting) → at_seq q (without q ws) ≡ drop 1 (at_seq q ws)
goes q ws =
    two q (below q ws ++ drop 1 (at_seq q ws)) (above q ws) (drop 1 (at_seq q ws)) []
    (two q (below q ws) (drop 1 (at_seq q ws)) [] (drop 1 (at_seq q ws)) (none_below q q ws (omega arith)) (all_behind (λ w. eqb w.seq q) ws))
    (none_above q q ws (omega arith))
    ∙ append-nil (drop 1 (at_seq q ws))

pub rest : (q other : ℕ) (ws : List Waiting) → other ≢ q → at_seq other (without q ws) ≡ at_seq other ws
rest q other ws h = ⊎_elim
    (λ l. two other (below q ws ++ drop 1 (at_seq q ws)) (above q ws) (at_seq other ws) [] (two other (below q ws) (drop 1 (at_seq q ws)) (at_seq other ws) [] (at_below other q ws l) behind ∙ append-nil (at_seq other ws)) (none_above other q ws (omega arith)) ∙ append-nil (at_seq other ws))
    (λ l. two other (below q ws ++ drop 1 (at_seq q ws)) (above q ws) [] (at_seq other ws) (two other (below q ws) (drop 1 (at_seq q ws)) [] [] (none_below other q ws l) behind) (at_above other q ws (over l)))
    (cases_lt other q)
  where
    behind : at_seq other (drop 1 (at_seq q ws)) ≡ []
    behind = none_behind (λ w. eqb w.seq q) (λ w. eqb w.seq other) ws (λ w t. ne_eqb w.seq q (λ e. h (sym (eqb-true w.seq other t) ∙ e)))

    over : q ≤ other → q < other
    over l = ⊎_elim (λ k. k) (λ k. absurd (h (omega arith))) (cases_lt q other)

-- times that are up
late_deadline : (clock : ℕ) (d : Option ℕ) → is_late clock d ≡ true → (deadline : ℕ) × (d ≡ Some deadline) × (deadline ≤ clock)
late_deadline clock None t = let z : false ≡ true = t in absurd (cc)
late_deadline clock (Some deadline) t = (deadline, refl, leb-true deadline clock t)

late_from : (clock : ℕ) (w : Waiting) → IsLate clock w → is_late clock w.deadline ≡ true
late_from clock w h = ap (is_late clock) h.1 ∙ le-leb h.0 clock h.2

pub some_late : (clock n p : ℕ) (ws : List Waiting) → Rises n ws → front_seq (late clock ws) ≡ Some p
    → (w : Waiting) × Waits w ws × (w.seq ≡ p) × IsLate clock w × ((v : Waiting) → Waits v ws → IsLate clock v → p ≤ v.seq)
some_late clock n p [] r e = let z : None ≡ Some p = e in absurd (cc)
some_late clock n p (w ∷ ws) r e = side (is_late clock w.deadline) refl e (some_late clock w.seq p ws r.1)
  where
    Found : List Waiting → Type 0
    Found vs = (w : Waiting) × Waits w vs × (w.seq ≡ p) × IsLate clock w × ((v : Waiting) → Waits v vs → IsLate clock v → p ≤ v.seq)

    side : (b : Bool) → is_late clock w.deadline ≡ b → front_seq (cond b (w ∷ late clock ws) (late clock ws)) ≡ Some p → (front_seq (late clock ws) ≡ Some p → Found ws) → Found (w ∷ ws)
    side true t f more =
        let q : w.seq ≡ p = cc in
        (w, inl refl, q, late_deadline clock w.deadline t, λ v i l. ⊎_elim (λ s. let z : v.seq ≡ w.seq = ap (λ (x : Waiting). x.seq) s in omega arith) (λ j. let k = waits_above w.seq ws v r.1 j in omega arith) i)
    side false t f more =
        let m = more f in
        (m.0, inr m.1, m.2, m.3, λ v i l. ⊎_elim (λ s. let z : true ≡ false = sym (late_from clock v l) ∙ ap (λ (x : Waiting). is_late clock x.deadline) s ∙ t in absurd (cc)) (λ j. m.4 v j l) i)

pub none_late : (clock : ℕ) (ws : List Waiting) (w : Waiting) → front_seq (late clock ws) ≡ None → Waits w ws → IsLate clock w → ⊥
none_late clock [] w e i l = absurd i
none_late clock (v ∷ ws) w e i l = side (is_late clock v.deadline) refl e (λ f j. none_late clock ws w f j l)
  where
    side : (b : Bool) → is_late clock v.deadline ≡ b → front_seq (cond b (v ∷ late clock ws) (late clock ws)) ≡ None → (front_seq (late clock ws) ≡ None → Waits w ws → ⊥) → ⊥
    side true t f more = let z : Some v.seq ≡ None = f in absurd (cc)
    side false t f more = ⊎_elim (λ s. let z : true ≡ false = sym (late_from clock w l) ∙ ap (λ (x : Waiting). is_late clock x.deadline) s ∙ t in absurd (cc)) (more f) i
