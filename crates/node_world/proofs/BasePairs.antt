-- pairs of a base and a connection, in their order
use Rattle.std.proofs.Common.{◌≡◌, ◌<◌, ◌≤◌, ℕ, Bool, true, false, cond, List, [], ◌∷◌, refl, sym, ap, ◌∙◌, subst, arith, Some, None}
use Rattle.std.proofs.lemmas.Bool.Decides.{nat_tests}
use Rattle.std.specs.Prelude.{◌==◌, IsTrue}
use Rattle.std.proofs.lemmas.Bool.{eqb-true, eqb-false}
use Rattle.std.specs.List.{slice_get}
use Rattle.std.specs.Option.{IfSome}
use Rattle.std.specs.Ordering.{is_eq, is_gt}
use Rattle.std.specs.declared.ops.Bound.TheVariants.{Included, Excluded}
use Rattle.std.specs.BTreeMap.{is_at}
use Rattle.std.specs.BTreeMap.Range.{IsInRange}
use Rattle.std.specs.BTreeSet.{BTreeSet, contains, IsKeyInRange, IsKeyRangeOf, Updates, UpdatesBy}
use Rattle.node_core.specs.Outcomes.{value_at, Renumbered}
use Rattle.node_world.specs.Bases.{ArePaired, IsNext, LosesStale, pair_cmp}

-- ---- the order of pairs

pub apart : (base client b c : ℕ) → (c ≡ client → b ≡ base → ⊥) → is_eq (pair_cmp (base, client) (b, c)) ≡ false
apart base client b c ne = grind (arith, nat_tests)

inside : (base from end b c : ℕ) → IsInRange pair_cmp (Included (base, from)) (Excluded (base, end)) (b, c) → (from ≤ c) × (c < end) × (b ≡ base)
inside base from end b c h = (grind (arith, nat_tests, h.0, h.1), grind (arith, nat_tests, h.0, h.1), grind (arith, nat_tests, h.0, h.1))

within : (base from end client : ℕ) → from ≤ client → client < end → IsInRange pair_cmp (Included (base, from)) (Excluded (base, end)) (base, client)
within base from end client above below = (grind (arith, nat_tests, above), grind (arith, nat_tests, below))

not_after : (base c d : ℕ) → is_gt (pair_cmp (base, c) (base, d)) ≡ false → c ≤ d
not_after base c d h = grind (arith, nat_tests, h)

-- ---- a pair more

pub kept_at : (old new : BTreeSet (ℕ × ℕ)) (p q : ℕ × ℕ) → Updates pair_cmp old new p true → IsTrue (contains pair_cmp old q) → IsTrue (contains pair_cmp new q)
kept_at old new p q updates has = updates.0 q ∙ by (is_at (pair_cmp p) q) (contains pair_cmp old q) has
  where
    by : (here was : Bool) → was ≡ true → cond here true was ≡ true
    by true was e = refl
    by false was e = e

-- with a pair more, all bases are paired as before
pub more_paired : (bases : List (ℕ × ℕ)) (pairs more : BTreeSet (ℕ × ℕ)) (p : ℕ × ℕ) → Updates pair_cmp pairs more p true → ArePaired bases pairs → ArePaired bases more
more_paired bases pairs more p updates paired client base has = kept_at pairs more p (base, client) updates (paired client base has)

-- so they are where the pair is of the connection that has its base now, whatever was of another one before
pub put_paired : (old new : List (ℕ × ℕ)) (pairs more less : BTreeSet (ℕ × ℕ)) (client base : ℕ) → Updates pair_cmp pairs more (base, client) true → Renumbered old new client (Some base) → LosesStale client base more less → ArePaired old pairs → ArePaired new less
put_paired old new pairs more less client base updates renumbered loses paired c b has = by (c == client) refl
  where
    by : (here : Bool) → (c == client) ≡ here → IsTrue (contains pair_cmp less (b, c))
    by true e =
        let same : c ≡ client = eqb-true c client e in
        let its : b ≡ base = let is : Some b ≡ Some base = sym has ∙ ap (value_at new) same ∙ renumbered.changed in cc in
        loses c b (λ mine. its) (subst (λ p. IsTrue (contains pair_cmp more p)) (λ i. (sym its i, sym same i)) updates.1)
    by false e =
        let other = eqb-false c client e in
        loses c b (λ mine. absurd (other mine)) (kept_at pairs more (base, client) (b, c) updates (paired c b (sym (renumbered.others c other) ∙ has)))

-- ---- a pair less

pub kept_but : (old new : BTreeSet (ℕ × ℕ)) (before client b c : ℕ) → UpdatesBy pair_cmp (pair_cmp (before, client)) old new false → (c ≡ client → b ≡ before → ⊥) → IsTrue (contains pair_cmp old (b, c)) → IsTrue (contains pair_cmp new (b, c))
kept_but old new before client b c updates ne has = updates.2 (b, c) (apart before client b c ne) ∙ has

-- ---- the first pair of a base

module _ (bases : List (ℕ × ℕ)) (pairs : BTreeSet (ℕ × ℕ)) (base from end : ℕ) (r : List (ℕ × ℕ)) (paired : ArePaired bases pairs) (range : IsKeyRangeOf pair_cmp (Included (base, from)) (Excluded (base, end)) pairs r) where
  -- there is none
  pub none_next : r ≡ [] → IsNext base from end bases None
  none_next none client above below has =
      let no : false ≡ true = sym (range.5 none (base, client) (within base from end client above below)) ∙ paired client base has in cc

  -- it is the next one
  pub one_next : (p : ℕ × ℕ) (t : List (ℕ × ℕ)) → r ≡ p ∷ t → IsNext base from end bases (Some p.1)
  one_next p t first =
      let here : IsKeyInRange pair_cmp (Included (base, from)) (Excluded (base, end)) pairs p = subst (λ l. IfSome (slice_get l 0) (IsKeyInRange pair_cmp (Included (base, from)) (Excluded (base, end)) pairs)) first range.1 in
      let (above, below, same) = inside base from end p.0 p.1 here.0 in (
        above,
        below,
        λ client from_on before has.
            let least : is_gt (pair_cmp p (base, client)) ≡ false =
            subst (λ l. IfSome (slice_get l 0) (λ k. is_gt (pair_cmp k (base, client)) ≡ false)) first (range.2 (base, client) (within base from end client from_on (omega (arith, before, below))) (paired client base has)) in
            let after : p.1 ≤ client = not_after base p.1 client (subst (λ b. is_gt (pair_cmp (b, p.1) (base, client)) ≡ false) same least) in omega (arith, before, after),
      )
