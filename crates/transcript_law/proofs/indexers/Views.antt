-- a history as a stream shows it, held by a list that holds the history
use Rattle.std.specs.Prelude.{◌≡◌, ◌⊎◌, ◌<◌, ◌≤◌, ◌++◌, ◌∷◌, nat_le, nat_lt}
use Rattle.transcript_law.proofs.Words.{ℕ, Bool, true, false, List, [], refl, nat_tests, ltb-true, ap, sym, ◌∙◌, subst, arith, inl, inr, ⊎_elim, Some, and_parts, map-append, filter-append, map, filter, Change, Rises, Covers, HoldsAt, IsIn, last_seq, upto}
use Rattle.branch_model.proofs.{Images.{plain_stands, touches_same}, Lists.{from_upto, in_append, last_above, last_in, rises_in, rises_lower, rises_upto, upto_in}}
use Rattle.branch_model.specs.Snapshots.{AllOf, plain_view}
use Rattle.std.proofs.lemmas.Bool.{and_from, leb-true}
use Rattle.std.proofs.lemmas.Slice.Eq.{bytes_eq-Decides}
use Rattle.std.specs.Str.{bytes_eq}
use Rattle.transcript_law.specs.ClientStreams.{view}
use Rattle.transcript_law.specs.LawfulClients.{NoneWithin}
use Rattle.vb_types.specs.Histories.{Slot, is_visible, last_of, plain, touches}
use Rattle.transcript_law.proofs.indexers.Shown.{plain_in, plain_last, plain_of_view, plain_rises}

-- ---- what is shown

-- a change with the same set or removal is shown too
visible_alike : (x c : Change) → plain x ≡ plain c → is_visible x.act ≡ true → is_visible c.act ≡ true
visible_alike x c same seen =
    let t : Slot = Slot.Committed x.key in
    let here : touches t x ≡ true = and_from (bytes_eq x.key x.key) (is_visible x.act) ((bytes_eq-Decides x.key x.key).1 refl) seen in
    (and_parts (bytes_eq c.key x.key) (is_visible c.act) (sym (touches_same t x c same) ∙ here)).1

same_seq_of : (x c : Change) → plain x ≡ plain c → x.seq ≡ c.seq
same_seq_of x c same = ap (λ (y : Change). y.seq) same

one_of : (x y : Change) → Some x ≡ Some y → x ≡ y
one_of x y e = cc

pub all_plain : (xs h : List Change) → AllOf xs h → AllOf (plain_view xs) (plain_view h)
all_plain xs h of x i =
    let y = plain_of_view xs x i in
    let c = of y.0 y.1 in
    let same : plain y.0 ≡ plain c.0 = plain_stands y.0 c.0 c.2 in
    (plain c.0, plain_in h c.0 c.1 (visible_alike y.0 c.0 same y.2), inl (y.3 ∙ same))

pub holds_plain : (low : ℕ) (W : ℕ → Type 0) (top : ℕ) (xs h : List Change) → Rises 0 top h → HoldsAt low W xs h → HoldsAt low W (plain_view xs) (plain_view h)
holds_plain low W top xs h rises holds = record {
  of = all_plain xs h holds.of;
  has = λ n w slot x e above below.
      let there = from_upto x (plain_view h) n (last_in (touches slot) (upto (plain_view h) n) x e).0 in
      let c = plain_of_view h x there.0 in
      let level : x.seq ≡ c.0.seq = ap (λ (y : Change). y.seq) c.3 in
      let last : last_of (Slot.Committed c.0.key) (upto h n) ≡ Some c.0 = plain_last top n h slot x c.0 rises e c.1 c.2 c.3 in
      let y = holds.has n w (Slot.Committed c.0.key) c.0 last (omega (arith, level, above)) (omega (arith, level, below)) in
      let same : plain y.0 ≡ plain c.0 = plain_stands y.0 c.0 y.2 in
      (plain y.0, plain_in xs y.0 y.1 (visible_alike c.0 y.0 (sym same) c.2), inl (same ∙ sym c.3));
}

pub view_holds : (b : Bool) (low : ℕ) (W : ℕ → Type 0) (top : ℕ) (xs h : List Change) → Rises 0 top h → HoldsAt low W xs h → HoldsAt low W (view b xs) (view b h)
view_holds true low W top xs h rises holds = holds
view_holds false low W top xs h rises holds = holds_plain low W top xs h rises holds

pub view_rises : (b : Bool) (low high : ℕ) (h : List Change) → Rises low high h → Rises low high (view b h)
view_rises true low high h r = r
view_rises false low high h r = plain_rises low high h r

pub view_all : (b : Bool) (xs h : List Change) → AllOf xs h → AllOf (view b xs) (view b h)
view_all true xs h of = of
view_all false xs h of = all_plain xs h of

pub view_append : (b : Bool) (xs ys : List Change) → view b (xs ++ ys) ≡ view b xs ++ view b ys
view_append true xs ys = refl
view_append false xs ys = ap (map plain) (filter-append (λ c. is_visible c.act) xs ys) ∙ map-append plain (filter (λ c. is_visible c.act) xs) (filter (λ c. is_visible c.act) ys)

-- ---- where nothing is shown

pub none_upto : (xs : List Change) (low high : ℕ) → upto xs high ≡ upto xs low → NoneWithin xs low high
none_upto xs low high same x i above below =
    let there = from_upto x xs low (subst (IsIn x) same (upto_in x xs high i below)) in
    let l : x.seq ≤ low = there.1 in absurd (omega (arith, l, above))

-- behind those up to a floor
pub none_more : (floor : ℕ) (below changes : List Change) (low high : ℕ) → Rises 0 floor below → floor ≤ low → NoneWithin changes low high → NoneWithin (below ++ changes) low high
none_more floor below changes low high rises up none x i above within = ⊎_elim
    (λ j. let most : x.seq ≤ floor = (rises_in 0 floor below x rises j).1 in absurd (omega (arith, most, up, above)))
    (λ j. none x j above within) (in_append x below changes i)

pub view_none_more : (b : Bool) (floor : ℕ) (below changes full : List Change) (low high : ℕ) → full ≡ below ++ changes → Rises 0 floor below → floor ≤ low → NoneWithin (view b changes) low high → NoneWithin (view b full) low high
view_none_more b floor below changes full low high parts rises up none =
    subst (λ h. NoneWithin h low high) (sym (ap (view b) parts ∙ view_append b below changes)) (none_more floor (view b below) (view b changes) low high (view_rises b 0 floor below rises) up none)

-- what is not held of a history is not in it
pub plain_none : (floor : ℕ) (W : ℕ → Type 0) (top : ℕ) (xs h : List Change) (low high : ℕ) → Rises 0 top h → HoldsAt floor W xs h → W high → floor ≤ low → NoneWithin (plain_view xs) low high → NoneWithin (plain_view h) low high
plain_none floor W top xs h low high rises holds whole up none x i above within =
    let c = plain_of_view h x i in
    let level : x.seq ≡ c.0.seq = ap (λ (y : Change). y.seq) c.3 in
    let t : Slot = Slot.Committed c.0.key in
    let here : touches t c.0 ≡ true = and_from (bytes_eq c.0.key c.0.key) (is_visible c.0.act) ((bytes_eq-Decides c.0.key c.0.key).1 refl) c.2 in
    let z = last_above (touches t) 0 high (upto h high) c.0 (rises_upto 0 top high h (omega arith) rises) (upto_in c.0 h high c.1 (omega (arith, level, within))) here in
    let at_z = last_in (touches t) (upto h high) z.0 z.1 in
    let below : z.0.seq ≤ high = (from_upto z.0 h high at_z.0).1 in
    let up_z : c.0.seq ≤ z.0.seq = z.2 in
    let seen : is_visible z.0.act ≡ true = (and_parts (bytes_eq z.0.key c.0.key) (is_visible z.0.act) at_z.1).1 in
    let y = holds.has high whole t z.0 z.1 (omega (arith, level, above, up_z, up)) below in
    let same : plain y.0 ≡ plain z.0 = plain_stands y.0 z.0 y.2 in
    let even : y.0.seq ≡ z.0.seq = same_seq_of y.0 z.0 same in
    none (plain y.0) (plain_in xs y.0 y.1 (visible_alike z.0 y.0 (sym {a = plain y.0} same) seen)) (omega (arith, level, above, up_z, even)) (omega (arith, even, below))

-- and what is not in a history is not held
pub none_of : (xs h : List Change) (low high : ℕ) → AllOf xs h → NoneWithin h low high → NoneWithin xs low high
none_of xs h low high of none x i above within =
    let c = of x i in let even : x.seq ≡ c.0.seq = same_seq_of x c.0 (plain_stands x c.0 c.2) in
    none c.0 c.1 (omega (arith, even, above)) (omega (arith, even, within))

-- both parts
pub none_joined : (xs : List Change) (low mid high : ℕ) → NoneWithin xs low mid → NoneWithin xs mid high → NoneWithin xs low high
none_joined xs low mid high first later x i above within = ⊎_elim (λ l. first x i above l) (λ l. later x i l within) (either x.seq mid)
  where
    either : (a b : ℕ) → (a ≤ b) ⊎ (b < a)
    either a b = by (nat_le a b) refl
      where
        by : (t : Bool) → nat_le a b ≡ t → (a ≤ b) ⊎ (b < a)
        by true e = inl (leb-true a b e)
        by false e = inr (grind (arith, nat_tests, e))

pub none_fewer : (xs : List Change) (low low' high high' : ℕ) → low ≤ low' → high' ≤ high → NoneWithin xs low high → NoneWithin xs low' high'
none_fewer xs low low' high high' up down none x i above within = none x i (omega (arith, up, above)) (omega (arith, down, within))

-- ---- whole snapshots

last_behind : (low high end : ℕ) (xs : List Change) → low < end → last_seq low xs ≡ end → high < end → last_seq high xs ≡ end
last_behind low high end [] up e down = absurd (omega (arith, up, e))
last_behind low high end (x ∷ xs) up e down = e

-- from a place with nothing above it up to where the snapshot goes on from
pub covers_lower : (xs h : List Change) (place at end : ℕ) → place ≤ at → NoneWithin h place at → Covers xs h at end → Covers xs h place end
covers_lower xs h place at end up none covers = record {
  goes_on = let l = covers.goes_on in omega (arith, l, up);
  remains = record {
    rises = rises_lower place at end xs up covers.remains.rises;
    of = covers.remains.of;
    has = λ slot c e above within. covers.remains.has slot c e (let low = higher slot c e above in low) within;
  };
  reaches = let l = covers.goes_on in last_behind at place end xs l covers.reaches (omega (arith, l, up));
}
  where
    higher : (slot : Slot) (c : Change) → last_of slot (upto h end) ≡ Some c → place < c.seq → at < c.seq
    higher slot c e above = by (nat_lt at c.seq) refl
      where
        by : (t : Bool) → nat_lt at c.seq ≡ t → at < c.seq
        by true q = ltb-true at c.seq q
        by false q = absurd (none c (from_upto c h end (last_in (touches slot) (upto h end) c e).0).0 above (grind (arith, nat_tests, q)))
