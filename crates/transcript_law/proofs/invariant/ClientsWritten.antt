-- clients' streams where a vBucket that takes writes makes a change
use Rattle.std.specs.Prelude.{◌≡◌, ◌<◌, ◌∷◌, ◌++◌, ◌⊎◌, if◌then◌else◌}
use Rattle.transcript_law.proofs.Words.{ℕ, Bool, true, false, List, [], ap, sym, ◌∙◌, subst, arith, inl, inr, ⊎_elim, Some, map, filter, Change, IsIn, Plain, PlainWorld, Chronicle, hist}
use Rattle.transcript_law.proofs.invariant.{Agreement.{vb_of}, ClientsKept.{GoesOver, StandsStill, goes_by, spot_at}, ClientsTold.{PlaceIs}}
use Rattle.branch_model.specs.Snapshots.{plain_view}
use Rattle.transcript_law.specs.ClientStreams.{view}
use Rattle.vb_types.specs.Histories.{is_visible, plain}

-- what is shown of one more change is that, or was shown before
in_grown : (h : List Change) (c y : Change) → IsIn y (plain_view (h ++ c ∷ [])) → IsIn y (plain_view h) ⊎ (y ≡ plain c)
in_grown [] c y i = elim (is_visible c.act) as (λ b. IsIn y (map plain (if b then c ∷ [] else [])) → IsIn y [] ⊎ (y ≡ plain c))
    [ true ↦ λ j. ⊎_elim (λ e. inr e) (λ none. absurd none) j | false ↦ λ j. absurd j ] i
in_grown (x ∷ xs) c y i = elim (is_visible x.act)
    as (λ b. IsIn y (map plain (if b then x ∷ filter (λ d. is_visible d.act) (xs ++ c ∷ []) else filter (λ d. is_visible d.act) (xs ++ c ∷ []))) → IsIn y (map plain (if b then x ∷ filter (λ d. is_visible d.act) xs else filter (λ d. is_visible d.act) xs)) ⊎ (y ≡ plain c))
    [ true ↦ λ j. ⊎_elim (λ e. inl (inl e)) (λ k. ⊎_elim (λ l. inl (inr l)) (λ e. inr e) (in_grown xs c y k)) j | false ↦ λ j. in_grown xs c y j ] i

-- one more change above a place leaves it
pub place_grown : (sync : Bool) (h : List Change) (c : Change) (place at : ℕ) → at < c.seq → PlaceIs sync (view sync h) place at → PlaceIs sync (view sync (h ++ c ∷ [])) place at
place_grown true h c place at low x = x
place_grown false h c place at low x = (x.0, λ y i above up. ⊎_elim (λ j. x.1 y j above up) (λ e. let q : y.seq ≡ c.seq = ap (λ (d : Change). d.seq) e in absurd (omega (arith, low, up, q))) (in_grown h c y i))

-- the vBucket makes a change on its branch u, above all that it had
pub goes_written : (w w' : PlainWorld) (r r' : Chronicle) (n v id u : ℕ) (vb vb' : Plain) (change : Change) → vb_of w n v ≡ Some vb → vb_of w' n v ≡ Some vb' → StandsStill id vb vb' → r.branch_at n v ≡ Some u → r'.branch_at n v ≡ r.branch_at n v
    → r'.held n v ≡ r.held n v ++ change ∷ [] → hist r'.tree u ≡ hist r.tree u ++ change ∷ [] → vb.position.at < change.seq → GoesOver (spot_at w r n v) (spot_at w' r' n v) id
goes_written w w' r r' n v id u vb vb' change there there' still on same held grown above = goes_by (spot_at w r n v) (spot_at w' r' n v) id vb vb' there there' still same
    (λ x i. subst (IsIn x) (sym held) (in_front x (r.held n v) i))
    (λ g at is low x.
    let z : Some u ≡ Some g.branch = sym on ∙ is in let q : u ≡ g.branch = cc in
    let branch : hist r'.tree g.branch ≡ hist r.tree g.branch ++ change ∷ [] = subst (λ k. hist r'.tree k ≡ hist r.tree k ++ change ∷ []) q grown in
    subst (λ h. PlaceIs g.sync (view g.sync h) g.place at) (sym branch) (place_grown g.sync (hist r.tree g.branch) change g.place at (omega (arith, low, above)) x))
  where
    in_front : (x : Change) (xs : List Change) → IsIn x xs → IsIn x (xs ++ change ∷ [])
    in_front x [] i = absurd i
    in_front x (y ∷ ys) i = ⊎_elim (λ e. inl e) (λ j. inr (in_front x ys j)) i
