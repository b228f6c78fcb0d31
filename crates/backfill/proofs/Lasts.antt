-- ends of lists, and snapshots up to their last items
use Rattle.std.proofs.Common.{◌≡◌, ℕ, suc, ◌<◌, ◌≤◌, ◌-◌, true, cond, List, [], ◌∷◌, length, leb, refl, ap, sym, ◌∙◌, inl, inr, ⊎_elim, arith}
use Rattle.std.specs.Prelude.{Some, slice_get, ◌⊎◌}
use Rattle.std.proofs.lemmas.Slice.Eq.{bytes_eq-Decides}
use Rattle.std.proofs.lemmas.Bool.{le-leb, lt-leb, cases_lt}
use Rattle.vb_types.specs.Histories.{upto, Rises, IsIn, Slot, touches, last_of}
use Rattle.vb_types.specs.declared.change.Change.{Change}
use Rattle.branch_model.specs.Histories.{last_seq, HasOf, StandsAs}
use Rattle.branch_model.specs.Snapshots.{Remains, Covers}
use Rattle.branch_model.proofs.Images.{plain_stands}
use Rattle.branch_model.proofs.Lists.{from_upto, upto_in, rises_in, rises_le, rises_upto, last_in, last_above, last_seq_le}
use Rattle.backfill.specs.Backfills.{disk_of}

-- the last of a list

further : (x y : Change) (ys : List Change) → slice_get (x ∷ y ∷ ys) (length (x ∷ y ∷ ys) - 1) ≡ slice_get (y ∷ ys) (length (y ∷ ys) - 1)
further x y ys = let e : length (x ∷ y ∷ ys) - 1 ≡ suc (length (y ∷ ys) - 1) = omega arith in ap (slice_get (x ∷ y ∷ ys)) e

last_some : (n : ℕ) (xs : List Change) (c : Change) → slice_get xs (length xs - 1) ≡ Some c → last_seq n xs ≡ c.seq
last_some n [] c e = cc
last_some n (x ∷ []) c e = let k : x ≡ c = cc in ap (λ (d : Change). d.seq) k
last_some n (x ∷ y ∷ ys) c e = last_some x.seq (y ∷ ys) c (sym (further x y ys) ∙ e)

pub last_is : (start : ℕ) (items : List Change) (c : Change) → slice_get items (length items - 1) ≡ Some c → Some (record { start = start; end = c.seq; disk = true; items = items }) ≡ disk_of start items
last_is start [] c e = cc
last_is start (x ∷ xs) c e = ap (λ n. Some (record { start = start; end = n; disk = true; items = x ∷ xs })) (sym (last_some start (x ∷ xs) c e))

pub rises_to_last : (a b : ℕ) (xs : List Change) → Rises a b xs → Rises a (last_seq a xs) xs
rises_to_last a b [] r = omega arith
rises_to_last a b (x ∷ xs) r = (r.0, rises_to_last x.seq b xs r.1)

-- some item has the last seqno
pub last_there : (n : ℕ) (x : Change) (xs : List Change) → (y : Change) × IsIn y (x ∷ xs) × (y.seq ≡ last_seq n (x ∷ xs))
last_there n x [] = (x, inl refl, refl)
last_there n x (y ∷ ys) = let k = last_there x.seq y ys in (k.0, inr k.1, k.2)

same_seqs : (x c : Change) → StandsAs x c → x.seq ≡ c.seq
same_seqs x c s = ap (λ (z : Change). z.seq) (plain_stands x c s)

-- fronts between whose ends nothing stands

upto_same : (h : List Change) (m n : ℕ) → m ≤ n → ((c : Change) → IsIn c h → m < c.seq → c.seq ≤ n → ⊥) → upto h n ≡ upto h m
upto_same [] m n l none = refl
upto_same (c ∷ cs) m n l none =
    let rest : upto cs n ≡ upto cs m = upto_same cs m n l (λ d i. none d (inr i)) in
    ap (λ b. cond b (c ∷ upto cs n) (upto cs n)) (same (cases_lt m c.seq)) ∙ ap (λ r. cond (leb c.seq m) (c ∷ r) r) rest
  where
    same : (m < c.seq) ⊎ (c.seq ≤ m) → leb c.seq n ≡ leb c.seq m
    same = ⊎_elim
        (λ a. ⊎_elim (λ b. lt-leb c.seq n b ∙ sym (lt-leb c.seq m a)) (λ b. absurd (none c (inl refl) a b)) (cases_lt n c.seq))
        (λ a. le-leb c.seq n (omega arith) ∙ sym (le-leb c.seq m a))

-- what has to come up to n, where that is something, is a whole snapshot up to its last change, and nothing stands from there to n
pub record ToLast (xs h : List Change) (start n : ℕ) : Type 0 where
  pub covers : Covers xs h start (last_seq start xs)
  pub nothing_left : (c : Change) → IsIn c h → last_seq start xs < c.seq → c.seq ≤ n → ⊥

pub to_last : (top : ℕ) (h xs : List Change) (start n : ℕ) (x : Change) → Rises 0 top h → IsIn x xs → Remains xs h start n → ToLast xs h start n
to_last top h xs start n x r i rem = record {
  covers = record { goes_on = goes; remains = record { rises = to; of = rem.of; has = has }; reaches = refl };
  nothing_left = left;
}
  where
    end : ℕ
    end = last_seq start xs

    to : Rises start end xs
    to = rises_to_last start n xs rem.rises

    goes : start < end
    goes = let k = rises_in start end xs x to i in let l : start < x.seq = k.0 in let m : x.seq ≤ end = k.1 in omega arith

    low : end ≤ n
    low = last_seq_le start n start xs (rises_le start n xs rem.rises) rem.rises

    left : (c : Change) → IsIn c h → end < c.seq → c.seq ≤ n → ⊥
    left c j a b =
        let d = last_above (touches (Slot.Pending c.key)) 0 n (upto h n) c (rises_upto 0 top n h (omega arith) r) (upto_in c h n j b) ((bytes_eq-Decides c.key c.key).1 refl) in
        let k = from_upto d.0 h n (last_in (touches (Slot.Pending c.key)) (upto h n) d.0 d.1).0 in
        let dl : d.0.seq ≤ n = k.1 in
        let cl : c.seq ≤ d.0.seq = d.2 in
        let g : start < end = goes in
        let y = rem.has (Slot.Pending c.key) d.0 d.1 (omega arith) dl in
        let q : y.0.seq ≡ d.0.seq = same_seqs y.0 d.0 y.2 in
        let w : y.0.seq ≤ end = (rises_in start end xs y.0 to y.1).1 in
        absurd (omega arith)

    has : (slot : Slot) (c : Change) → last_of slot (upto h end) ≡ Some c → start < c.seq → c.seq ≤ end → HasOf xs c
    has slot c e a b = rem.has slot c (ap (last_of slot) (upto_same h end n low left) ∙ e) a (let l : end ≤ n = low in omega arith)
