-- a whole snapshot from the journal has the last change of each slot, and nothing else
use Rattle.std.proofs.Common.{ℕ, suc, Bool, true, false, List, [], ◌∷◌, ◌++◌, map, refl, ap, sym, ◌∙◌, subst, inl, inr, ⊎_elim, arith, ◌≡◌, ◌<◌, ◌≤◌}
use Rattle.std.specs.Prelude.{Option, Some, None, ◌⊎◌, ◌&&◌, ◌||◌, nat_lt}
use Rattle.std.proofs.lemmas.Bool.{and_parts, ltb-true, eqb-true}
use Rattle.vb_types.specs.Histories.{IsIn, Rises, Slot, last_of, plain, touches, upto}
use Rattle.vb_types.specs.declared.change.Change.{Change}
use Rattle.branch_model.specs.Snapshots.{Remains, has_seq, is_slot_last, slot_lasts}
use Rattle.branch_model.proofs.Images.{plain_stands}
use Rattle.branch_model.proofs.Lasts.{in_filter, slot_lasts_remain}
use Rattle.branch_model.proofs.Lists.{from_upto, last_in, rises_in, rises_upto, same_seq}
use Rattle.std.specs.List.{All}
use Rattle.transcript_law.specs.Chronicles.{Begun, ItemLine}
use Rattle.transcript_law.specs.StreamLaws.{HasExactly, IsFrontOf, IsOfSource, item_of_change}

-- what is told of a change that is written out
abbrev sent : Change → ItemLine
sent c = item_of_change (plain c)

seq_of_sent : (x y : Change) → item_of_change x ≡ sent y → x.seq ≡ y.seq
seq_of_sent x y e = ap (λ (i : ItemLine). i.seq) e

-- ---- two lists that rise, and have the same in them

abbrev Has : List Change → Change → Type 0
Has ys x = (y : Change) × IsIn y ys × (item_of_change x ≡ sent y)

abbrev Sent : List Change → Change → Type 0
Sent xs y = (x : Change) × IsIn x xs × (item_of_change x ≡ sent y)

module _ (high : ℕ) (x y : Change) (xs ys : List Change) (r : Rises x.seq high xs) (s : Rises y.seq high ys) (has : (c : Change) → IsIn c (x ∷ xs) → Has (y ∷ ys) c) (gets : (c : Change) → IsIn c (y ∷ ys) → Sent (x ∷ xs) c) where
  -- the first ones are the same
  at : x.seq ≡ y.seq
  at =
      let (k, there, e) = has x (inl refl) in let (m, here, f) = gets y (inl refl) in
      let p : x.seq ≡ k.seq = seq_of_sent x k e in let q : m.seq ≡ y.seq = seq_of_sent m y f in
      ⊎_elim (λ same. p ∙ ap (λ (c : Change). c.seq) same)
      (λ j. ⊎_elim (λ same. sym (ap (λ (c : Change). c.seq) same) ∙ q)
      (λ i. let above = (rises_in y.seq high ys k s j).0 in let more = (rises_in x.seq high xs m r i).0 in absurd (omega (arith, p, q, above, more))) here) there

  first_same : item_of_change x ≡ sent y
  first_same =
      let (k, there, e) = has x (inl refl) in
      ⊎_elim (λ same. e ∙ ap sent same) (λ j. let above = (rises_in y.seq high ys k s j).0 in let p : x.seq ≡ k.seq = seq_of_sent x k e in let q = at in absurd (omega (arith, above, p, q))) there

  -- and so are the others
  has_more : (c : Change) → IsIn c xs → Has ys c
  has_more c i =
      let (k, there, e) = has c (inr i) in let p : c.seq ≡ k.seq = seq_of_sent c k e in let above = (rises_in x.seq high xs c r i).0 in let q = at in
      ⊎_elim (λ same. let z : k.seq ≡ y.seq = ap (λ (d : Change). d.seq) same in absurd (omega (arith, p, above, q, z))) (λ j. (k, j, e)) there

  gets_more : (c : Change) → IsIn c ys → Sent xs c
  gets_more c i =
      let (k, there, e) = gets c (inr i) in let p : k.seq ≡ c.seq = seq_of_sent k c e in let above = (rises_in y.seq high ys c s i).0 in let q = at in
      ⊎_elim (λ same. let z : k.seq ≡ x.seq = ap (λ (d : Change). d.seq) same in absurd (omega (arith, p, above, q, z))) (λ j. (k, j, e)) there

same_lists : (a b high : ℕ) (xs ys : List Change) → Rises a high xs → Rises b high ys → ((x : Change) → IsIn x xs → Has ys x) → ((y : Change) → IsIn y ys → Sent xs y) → map item_of_change xs ≡ map sent ys
same_lists a b high [] [] r s has gets = refl
same_lists a b high [] (y ∷ ys) r s has gets = absurd (gets y (inl refl)).1
same_lists a b high (x ∷ xs) [] r s has gets = absurd (has x (inl refl)).1
same_lists a b high (x ∷ xs) (y ∷ ys) r s has gets =
    ap (λ i. i ∷ map item_of_change xs) (first_same high x y xs ys r.1 s.1 has gets)
    ∙ ap (λ is. sent y ∷ is) (same_lists x.seq y.seq high xs ys r.1 s.1 (has_more high x y xs ys r.1 s.1 has gets) (gets_more high x y xs ys r.1 s.1 has gets))

-- ---- the last change of a slot

has_seq_some : (n : ℕ) (o : Option Change) → has_seq n o ≡ true → (c : Change) × (o ≡ Some c) × (c.seq ≡ n)
has_seq_some n None e = cc
has_seq_some n (Some c) e = (c, refl, eqb-true c.seq n e)

or_cases : (a b : Bool) → (a || b) ≡ true → (a ≡ true) ⊎ (b ≡ true)
or_cases true b e = inl refl
or_cases false b e = inr e

slot_of : (top : ℕ) (h : List Change) (c : Change) → Rises 0 top h → IsIn c h → is_slot_last h c ≡ true → (slot : Slot) × (last_of slot h ≡ Some c)
slot_of top h c r i e = ⊎_elim (by (Slot.Committed c.key)) (by (Slot.Pending c.key)) (or_cases (has_seq c.seq (last_of (Slot.Committed c.key) h)) (has_seq c.seq (last_of (Slot.Pending c.key) h)) e)
  where
    by : (slot : Slot) → has_seq c.seq (last_of slot h) ≡ true → (slot : Slot) × (last_of slot h ≡ Some c)
    by slot t = let (d, is, at) = has_seq_some c.seq (last_of slot h) t in (slot, is ∙ ap Some (same_seq 0 top h d c r (last_in (touches slot) h d is).0 i at))

-- ---- items

of_source : (b : Begun) (items : List ItemLine) (xs : List Change) → items ≡ map item_of_change xs → All (IsOfSource b) items → (x : Change) → IsIn x xs → IsOfSource b (item_of_change x)
of_source b [] [] e all x i = absurd i
of_source b [] (y ∷ ys) e all x i = cc
of_source b (k ∷ ks) [] e all x i = absurd i
of_source b (k ∷ ks) (y ∷ ys) e all x i =
    let same : k ≡ item_of_change y = cc in let more : ks ≡ map item_of_change ys = cc in
    ⊎_elim (λ z. subst (IsOfSource b) (same ∙ ap item_of_change (sym z)) (all 0 k (omega arith))) (λ j. of_source b ks ys more (λ n d m. all (suc n) d (omega (arith, m))) x j) i

append_none : (xs : List ItemLine) → xs ++ [] ≡ xs
append_none [] = refl
append_none (x ∷ xs) = ap (λ ys. x ∷ ys) (append_none xs)

-- the snapshot is these
pub exact : (top : ℕ) (b : Begun) → Rises 0 top b.history → b.disk ≡ true → All (IsOfSource b) b.items → IsFrontOf b b.items [] → HasExactly b
exact top b rises disk all f = sym told ∙ same_lists b.from b.from b.end f.whole (slot_lasts b.history b.from b.end) f.covers.remains.rises lasts.rises has gets
  where
    told : map item_of_change f.whole ≡ b.items
    told = f.front ∙ append_none b.items

    low : b.from ≤ b.end
    low = let up : b.from < b.end = f.covers.goes_on in omega (arith, up)

    lasts : Remains (slot_lasts b.history b.from b.end) b.history b.from b.end
    lasts = slot_lasts_remain top b.history b.from b.end rises low

    ends : Rises 0 b.end (upto b.history b.end)
    ends = rises_upto 0 top b.end b.history (omega arith) rises

    -- each item is of the last change of a slot
    last_at : (x : Change) → IsIn x f.whole → (slot : Slot) × (c : Change) × (last_of slot (upto b.history b.end) ≡ Some c) × (item_of_change x ≡ sent c)
    last_at x i = let (y, u, e) = of_source b b.items f.whole (sym told) all x i disk in (u.slot, u.change, u.last, e ∙ ap item_of_change u.written)

    has : (x : Change) → IsIn x f.whole → Has (slot_lasts b.history b.from b.end) x
    has x i =
        let (slot, c, last, e) = last_at x i in let at : x.seq ≡ c.seq = seq_of_sent x c e in let within = rises_in b.from b.end f.whole x f.covers.remains.rises i in
        let above = within.0 in let most = within.1 in
        let (y, there, stands) = lasts.has slot c last (omega (arith, at, above)) (omega (arith, at, most)) in
        (y, there, e ∙ ap item_of_change (sym (plain_stands y c stands)))

    gets : (y : Change) → IsIn y (slot_lasts b.history b.from b.end) → Sent f.whole y
    gets y i =
        let k = in_filter (λ x. nat_lt b.from x.seq && is_slot_last (upto b.history b.end) x) y (upto b.history b.end) i in
        let t = and_parts (nat_lt b.from y.seq) (is_slot_last (upto b.history b.end) y) k.1 in
        let (slot, last) = slot_of b.end (upto b.history b.end) y ends k.0 t.1 in
        let (x, there, stands) = f.covers.remains.has slot y last (ltb-true b.from y.seq t.0) (from_upto y b.history b.end k.0).1 in
        let (other, c, of, e) = last_at x there in
        let same : x.seq ≡ y.seq = ⊎_elim (λ q. ap (λ (z : Change). z.seq) q) (λ q. ap (λ (z : Change). z.seq) q) stands in
        let one : c ≡ y = same_seq 0 b.end (upto b.history b.end) c y ends (last_in (touches other) (upto b.history b.end) c of).0 k.0 (sym (seq_of_sent x c e) ∙ same) in
        (x, there, e ∙ ap sent one)
