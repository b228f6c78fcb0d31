-- entries by rising seqno: what is there among them
use Rattle.std.proofs.Common.{◌≡◌, ◌≢◌, ℕ, zero, suc, ◌+◌, ◌-◌, ◌<◌, ◌≤◌, Bool, true, false, cond, leb, eqb, List, [], ◌∷◌, ◌++◌, length, get_or, set, drop, take, refl, ap, sym, ◌∙◌, subst, arith, inl, inr, append-nil}
use Rattle.std.specs.Prelude.{Option, Some, None, nat_lt, not, ◌&&◌, ◌||◌, Result, Ok, Err, IfSome, IfNone, IsSomeAnd, slice_get}
use Rattle.std.specs.List.{list_any}
use Rattle.std.specs.List.Sorted.{IsBinarySearchResult, IsNonDecreasingBy, IsPartitionPoint, IsSearchInRange}
use Rattle.std.specs.Option.{option_to_list}
use Rattle.std.specs.Ordering.{nat_cmp, ordering_index}
use Rattle.std.specs.Result.{result_ok}
use Rattle.std.proofs.lemmas.Bool.{cases_lt, eq-eqb, ne_eqb, le-ltb, le-leb, lt-ltb, leb-false, leb-true, ltb-false, ltb-true}
use Rattle.std.proofs.lemmas.Bool.Decides.{nat_tests}
use Rattle.std.proofs.lemmas.Cmp.{ranked}
use Rattle.std.proofs.lemmas.List.Elements.{filter_map-append}
use Rattle.std.proofs.lemmas.List.{get_or_default, length-append, length-set}
use Rattle.std.proofs.lemmas.Option.{get_or_from_slice_get, slice_get_within}
use Rattle.vb_types.specs.Histories.{upto}
use Rattle.vb_types.specs.declared.change.Change.{Change}
use Rattle.checkpoint.specs.Checkpoints.{items_above}
use Rattle.checkpoint.specs.Runs.{AreBelow, AreEntries, IsAt, IsRun, Lacks, change_at, changes_there, closed_up, is_above, is_hole, lacking, last_entry}

-- seqnos that rise

entries_from : (m n : ℕ) (es : List (ℕ × Option Change)) → m ≤ n → AreEntries n es → AreEntries m es
entries_from m n [] l h = tt
entries_from m n (e ∷ es) l h = let k : n ≤ e.0 = h.0 in (omega arith, h.1, h.2)

at_least : (n : ℕ) (es : List (ℕ × Option Change)) → AreEntries n es → (i : ℕ) (d : ℕ × Option Change) → i < length es → n ≤ (get_or es i d).0
at_least n [] h i d l = absurd (omega arith)
at_least n (e ∷ es) h zero d l = h.0
at_least n (e ∷ es) h (suc i) d l = let a : n ≤ e.0 = h.0 in let b : e.0 + 1 ≤ (get_or es i d).0 = at_least (e.0 + 1) es h.2 i d (omega arith) in omega arith

pub rising : (n : ℕ) (es : List (ℕ × Option Change)) → AreEntries n es → IsNonDecreasingBy (λ (e : ℕ × Option Change). e.0) es
rising n [] h i j d l m = absurd (omega arith)
rising n (e ∷ es) h zero zero d l m = omega arith
rising n (e ∷ es) h zero (suc j) d l m = let b : e.0 + 1 ≤ (get_or es j d).0 = at_least (e.0 + 1) es h.2 j d (omega arith) in omega arith
rising n (e ∷ es) h (suc i) zero d l m = absurd (omega arith)
rising n (e ∷ es) h (suc i) (suc j) d l m = rising (e.0 + 1) es h.2 i j d (omega arith) (omega arith)

-- the search for a seqno

lacks_each : (seq : ℕ) (es : List (ℕ × Option Change)) → ((j : ℕ) → j < length es → (get_or es j (0, None)).0 ≢ seq) → Lacks seq es
lacks_each seq [] f = tt
lacks_each seq (e ∷ es) f = (f 0 (omega arith), lacks_each seq es (λ j l. f (suc j) (omega arith)))

compared : (seq : ℕ) (es : List (ℕ × Option Change)) → AreEntries 0 es → IsNonDecreasingBy (λ (e : ℕ × Option Change). ordering_index (nat_cmp e.0 seq)) es
compared seq es h i j d l m =
    let k : (get_or es i d).0 ≤ (get_or es j d).0 = rising 0 es h i j d l m in
    grind (arith, nat_tests)

pub searched : (seq : ℕ) (es : List (ℕ × Option Change)) (r : Result ℕ ℕ) → AreEntries 0 es → IsSearchInRange r (length es) → IsBinarySearchResult (λ (e : ℕ × Option Change). nat_cmp e.0 seq) es r
    → IfSome (result_ok r) (λ at. IsAt seq at es) × IfNone (result_ok r) (Lacks seq es)
searched seq es (Ok at) h inside equal = (record { inside = inside; here = ranked _ seq _ (sym (equal (0, None))) }, tt)
searched seq es (Err at) h inside parted = (
  tt,
  lacks_each seq es (λ j l same. elim (cases_lt j at) [
    | inl below ↦ let k : (get_or es j (0, None)).0 < seq = ranked _ seq _ (sym ((parted (compared seq es h)).0 j (0, None) (omega arith) below)) in omega arith
    | inr above ↦ let k : seq < (get_or es j (0, None)).0 = ranked _ seq _ (sym ((parted (compared seq es h)).1 j (0, None) above l)) in omega arith
  ]),
)

above_lacks : (seq n : ℕ) (es : List (ℕ × Option Change)) → AreEntries n es → seq < n → Lacks seq es
above_lacks seq n [] h l = tt
above_lacks seq n (e ∷ es) h l = let k : n ≤ e.0 = h.0 in (λ same. omega arith, above_lacks seq (e.0 + 1) es h.2 (omega arith))

-- a seqno that no entry has is no change's
pub lacked : (seq n : ℕ) (es : List (ℕ × Option Change)) → AreEntries n es → Lacks seq es → (change_at seq (changes_there es) ≡ None) × (lacking seq (changes_there es) ≡ changes_there es)
lacked seq n [] h k = (refl, refl)
lacked seq n ((q, None) ∷ es) h k = lacked seq (q + 1) es h.2 k.1
lacked seq n ((q, Some c) ∷ es) h k =
    let no : eqb c.seq seq ≡ false = ne_eqb c.seq seq (λ e. k.0 (sym h.1 ∙ e)) in
    let rest = lacked seq (q + 1) es h.2 k.1 in (
      ap (λ b. cond b (Some c) (change_at seq (changes_there es))) no ∙ rest.0,
      ap (λ b. cond (not b) (c ∷ lacking seq (changes_there es)) (lacking seq (changes_there es))) no ∙ ap (λ xs. c ∷ xs) rest.1,
    )

-- the entry of a seqno has its change, and leaves the others where it is made a hole
pub found : (seq at n : ℕ) (es : List (ℕ × Option Change)) (d : ℕ × Option Change) → AreEntries n es → at < length es → (get_or es at d).0 ≡ seq
    → (change_at seq (changes_there es) ≡ (get_or es at d).1) × (changes_there (set es at (seq, None)) ≡ lacking seq (changes_there es)) × AreEntries n (set es at (seq, None))
found seq at n [] d h l same = absurd (omega arith)
found seq zero n ((q, None) ∷ es) d h l same =
    let rest = lacked seq (q + 1) es h.2 (above_lacks seq (q + 1) es h.2 (omega arith)) in (
      rest.0,
      sym rest.1,
      (subst (λ s. n ≤ s) same h.0, tt, subst (λ s. AreEntries (s + 1) es) same h.2),
    )
found seq zero n ((q, Some c) ∷ es) d h l same =
    let rest = lacked seq (q + 1) es h.2 (above_lacks seq (q + 1) es h.2 (omega arith)) in
    let yes : eqb c.seq seq ≡ true = eq-eqb c.seq seq (h.1 ∙ same) in (
      ap (λ b. cond b (Some c) (change_at seq (changes_there es))) yes,
      sym (ap (λ b. cond (not b) (c ∷ lacking seq (changes_there es)) (lacking seq (changes_there es))) yes ∙ rest.1),
      (subst (λ s. n ≤ s) same h.0, tt, subst (λ s. AreEntries (s + 1) es) same h.2),
    )
found seq (suc at) n ((q, None) ∷ es) d h l same =
    let rest = found seq at (q + 1) es d h.2 (omega arith) same in
    (rest.0, rest.1, (h.0, tt, rest.2))
found seq (suc at) n ((q, Some c) ∷ es) d h l same =
    let rest = found seq at (q + 1) es d h.2 (omega arith) same in
    let k : q + 1 ≤ (get_or es at d).0 = at_least (q + 1) es h.2 at d (omega arith) in
    let own : c.seq ≡ q = h.1 in
    let no : eqb c.seq seq ≡ false = ne_eqb c.seq seq (λ e. omega arith) in (
      ap (λ b. cond b (Some c) (change_at seq (changes_there es))) no ∙ rest.0,
      ap (λ xs. c ∷ xs) rest.1 ∙ sym (ap (λ b. cond (not b) (c ∷ lacking seq (changes_there es)) (lacking seq (changes_there es))) no),
      (h.0, h.1, rest.2),
    )

one_less : (at s : ℕ) (es : List (ℕ × Option Change)) (d : ℕ × Option Change) (c : Change) → at < length es → (get_or es at d).1 ≡ Some c → length (changes_there es) ≡ length (changes_there (set es at (s, None))) + 1
one_less at s [] d c l e = absurd (omega arith)
one_less zero s ((q, None) ∷ es) d c l e = absurd (cc)
one_less zero s ((q, Some x) ∷ es) d c l e = omega arith
one_less (suc at) s ((q, None) ∷ es) d c l e = one_less at s es d c (omega arith) e
one_less (suc at) s ((q, Some x) ∷ es) d c l e = let k = one_less at s es d c (omega arith) e in omega arith

-- the same of an entry that was read
pub taken_at : (seq at : ℕ) (es : List (ℕ × Option Change)) (x : ℕ × Option Change) (o : Option Change) → AreEntries 0 es → IsAt seq at es → x ≡ get_or es at x → o ≡ None
    → record { taken : change_at seq (changes_there es) ≡ x.1; others : changes_there (set es at (x.0, o)) ≡ lacking seq (changes_there es); entries : AreEntries 0 (set es at (x.0, o)) }
taken_at seq at es x o h is read gone =
    let same = read ∙ get_or_default es at x (0, None) is.inside in
    let k = found seq at 0 es (0, None) h is.inside is.here in
    let new : (seq, None) ≡ (x.0, o) = λ i. (sym (ap (λ (e : ℕ × Option Change). e.0) same ∙ is.here) i, sym gone i) in
    record {
      taken = k.0 ∙ sym (ap (λ (e : ℕ × Option Change). e.1) same);
      others = ap (λ e. changes_there (set es at e)) (sym new) ∙ k.1;
      entries = subst (λ e. AreEntries 0 (set es at e)) new k.2;
    }

-- the count where a change goes, and where a hole stays
pub taken_count : (at : ℕ) (es : List (ℕ × Option Change)) (x : ℕ × Option Change) (o : Option Change) (c : Change) → at < length es → x ≡ get_or es at x → o ≡ None → x.1 ≡ Some c
    → length (changes_there es) ≡ length (changes_there (set es at (x.0, o))) + 1
taken_count at es x o c l read gone is =
    one_less at x.0 es x c l (sym (ap (λ (e : ℕ × Option Change). e.1) read) ∙ is) ∙ ap (λ v. length (changes_there (set es at (x.0, v))) + 1) (sym gone)

pub hole_stays : (at s : ℕ) (es : List (ℕ × Option Change)) (d : ℕ × Option Change) → at < length es → (get_or es at d).1 ≡ None → changes_there (set es at (s, None)) ≡ changes_there es
hole_stays at s [] d l e = absurd (omega arith)
hole_stays zero s ((q, None) ∷ es) d l e = refl
hole_stays zero s ((q, Some x) ∷ es) d l e = absurd (cc)
hole_stays (suc at) s ((q, None) ∷ es) d l e = hole_stays at s es d (omega arith) e
hole_stays (suc at) s ((q, Some x) ∷ es) d l e = ap (λ xs. x ∷ xs) (hole_stays at s es d (omega arith) e)

pub run_stays : (there seq at : ℕ) (es : List (ℕ × Option Change)) (x : ℕ × Option Change) (o : Option Change) → IsRun there es → IsAt seq at es → x ≡ get_or es at x → o ≡ None → x.1 ≡ None → IsRun there (set es at (x.0, o))
run_stays there seq at es x o r is read gone hole =
    let same : changes_there (set es at (x.0, o)) ≡ changes_there es =
    ap (λ v. changes_there (set es at (x.0, v))) gone ∙ hole_stays at x.0 es x is.inside (sym (ap (λ (e : ℕ × Option Change). e.1) read) ∙ hole) in
    record {
      entries = (taken_at seq at es x o r.entries is read gone).entries;
      counted = r.counted ∙ sym (ap length same);
      dense = omega (arith, r.dense, length-set es at (x.0, o));
    }

-- the entries above a place

all_later : (place n : ℕ) (es : List (ℕ × Option Change)) → AreEntries n es → place < n → items_above place (changes_there es) ≡ changes_there es
all_later place n [] h l = refl
all_later place n ((q, None) ∷ es) h l = let k : n ≤ q = h.0 in all_later place (q + 1) es h.2 (omega arith)
all_later place n ((q, Some c) ∷ es) h l =
    let k : n ≤ q = h.0 in
    let own : c.seq ≡ q = h.1 in
    ap (λ b. cond b (c ∷ items_above place (changes_there es)) (items_above place (changes_there es))) (lt-ltb place c.seq (omega arith)) ∙ ap (λ xs. c ∷ xs) (all_later place (q + 1) es h.2 (omega arith))

pub later_there : (place k n : ℕ) (es : List (ℕ × Option Change)) → AreEntries n es → IsPartitionPoint (λ (e : ℕ × Option Change). leb e.0 place ≡ true) (λ (e : ℕ × Option Change). leb e.0 place ≡ false) es k
    → changes_there (drop k es) ≡ items_above place (changes_there es)
later_there place zero n [] h p = refl
later_there place (suc k) n [] h p = refl
later_there place zero n (e ∷ es) h p =
    let l : place < e.0 = leb-false e.0 place (p.1 0 e (omega arith) (omega arith)) in
    sym (all_later place e.0 (e ∷ es) (omega arith, h.1, h.2) l)
later_there place (suc k) n ((q, None) ∷ es) h p = later_there place k (q + 1) es h.2 ((λ i d l m. p.0 (suc i) d (omega arith) (omega arith)), (λ i d l m. p.1 (suc i) d (omega arith) (omega arith)))
later_there place (suc k) n ((q, Some c) ∷ es) h p =
    let l : q ≤ place = leb-true q place (p.0 0 (q, Some c) (omega arith) (omega arith)) in
    let own : c.seq ≡ q = h.1 in
    later_there place k (q + 1) es h.2 ((λ i d a b. p.0 (suc i) d (omega arith) (omega arith)), (λ i d a b. p.1 (suc i) d (omega arith) (omega arith)))
    ∙ sym (ap (λ b. cond b (c ∷ items_above place (changes_there es)) (items_above place (changes_there es))) (le-ltb place c.seq (omega arith)))

-- the last entry

pub entries_before : (n : ℕ) (es more : List (ℕ × Option Change)) → AreEntries n (es ++ more) → AreEntries n es
entries_before n [] more h = tt
entries_before n (e ∷ es) more h = (h.0, h.1, entries_before (e.0 + 1) es more h.2)

entry_behind : (n : ℕ) (es : List (ℕ × Option Change)) (e : ℕ × Option Change) → AreEntries n (es ++ e ∷ []) → IfSome e.1 (λ c. c.seq ≡ e.0)
entry_behind n [] e h = h.1
entry_behind n (x ∷ es) e h = entry_behind (x.0 + 1) es e h.2

pub change_behind : (front : List (ℕ × Option Change)) (e : ℕ × Option Change) → changes_there (front ++ e ∷ []) ≡ changes_there front ++ option_to_list e.1
change_behind front (q, None) = filter_map-append (λ (e : ℕ × Option Change). e.1) front ((q, None) ∷ [])
change_behind front (q, Some c) = filter_map-append (λ (e : ℕ × Option Change). e.1) front ((q, Some c) ∷ [])

last_of_rest : (e d : ℕ × Option Change) (es : List (ℕ × Option Change)) → last_entry (e ∷ d ∷ es) ≡ last_entry (d ∷ es)
last_of_rest e d es =
    let a : length (e ∷ d ∷ es) - 1 ≡ suc (length es) = omega arith in
    let b : length es ≡ length (d ∷ es) - 1 = omega arith in
    ap (slice_get (e ∷ d ∷ es)) a ∙ ap (slice_get (d ∷ es)) b

last_of_none : (es : List (ℕ × Option Change)) → last_entry es ≡ None → es ≡ []
last_of_none [] e = refl
last_of_none (x ∷ []) e = absurd (cc)
last_of_none (x ∷ y ∷ es) e = let k = last_of_none (y ∷ es) (sym (last_of_rest x y es) ∙ e) in absurd (cc)

-- what a pop takes is the last entry
pub record Pops (es front : List (ℕ × Option Change)) (r : Option (ℕ × Option Change)) : Type 0 where
  pub items : es ≡ front ++ option_to_list r
  pub value : (d : ℕ × Option Change) → 0 < length es → r ≡ Some (get_or es (length es - 1) d)

popped : (es front : List (ℕ × Option Change)) (r : Option (ℕ × Option Change)) (e : ℕ × Option Change) → Pops es front r → last_entry es ≡ Some e → (r ≡ Some e) × (es ≡ front ++ e ∷ [])
popped es front r e p last =
    let l = slice_get_within es (length es - 1) e last in
    let is : r ≡ Some e = p.value e (omega (arith, l)) ∙ ap Some (get_or_from_slice_get es (length es - 1) e e last) in
    (is, p.items ∙ ap (λ o. front ++ option_to_list o) is)

-- a hole that goes
pub hole_popped : (n : ℕ) (es front : List (ℕ × Option Change)) (r : Option (ℕ × Option Change)) → AreEntries n es → is_hole (last_entry es) ≡ true → Pops es front r
    → record { there : changes_there front ≡ changes_there es; entries : AreEntries n front; fewer : length front + 1 ≡ length es }
hole_popped n es front r h hole p = by_last (last_entry es) refl hole
  where
    by_last : (o : Option (ℕ × Option Change)) → last_entry es ≡ o → is_hole o ≡ true → record { there : changes_there front ≡ changes_there es; entries : AreEntries n front; fewer : length front + 1 ≡ length es }
    by_last None last k = absurd (cc)
    by_last (Some (q, Some c)) last k = absurd (cc)
    by_last (Some (q, None)) last k =
        let same = (popped es front r (q, None) p last).1 in
        let all = ap length same ∙ length-append front ((q, None) ∷ []) in
        record {
          there = sym (ap changes_there same ∙ change_behind front (q, None) ∙ append-nil (changes_there front));
          entries = entries_before n front ((q, None) ∷ []) (subst (AreEntries n) same h);
          fewer = omega (arith, all);
        }

-- a change that goes, which is above a seqno
pub change_popped : (last n : ℕ) (es front : List (ℕ × Option Change)) (r : Option (ℕ × Option Change)) → AreEntries n es → is_hole (last_entry es) ≡ false → is_above last (last_entry es) ≡ true → Pops es front r
    → IsSomeAnd r (λ e. IsSomeAnd e.1 (λ c. (changes_there es ≡ changes_there front ++ c ∷ []) × (last < c.seq)))
change_popped last n es front r h there above p = by_last (last_entry es) refl there above
  where
    by_last : (o : Option (ℕ × Option Change)) → last_entry es ≡ o → is_hole o ≡ false → is_above last o ≡ true → IsSomeAnd r (λ e. IsSomeAnd e.1 (λ c. (changes_there es ≡ changes_there front ++ c ∷ []) × (last < c.seq)))
    by_last None is t a = absurd (cc)
    by_last (Some (q, None)) is t a = absurd (cc)
    by_last (Some (q, Some c)) is t a =
        let pop = popped es front r (q, Some c) p is in
        let own : c.seq ≡ q = entry_behind n front (q, Some c) (subst (AreEntries n) pop.1 h) in
        let l : last < q = ltb-true last q a in
        subst (λ o. IsSomeAnd o (λ e. IsSomeAnd e.1 (λ x. (changes_there es ≡ changes_there front ++ x ∷ []) × (last < x.seq)))) (sym pop.0) (ap changes_there pop.1 ∙ change_behind front (q, Some c), omega arith)

-- it is there, and it is the last one
pub gone_behind : (last : ℕ) (cs es front : List Change) (o : Option Change) → es ≡ cs → IsSomeAnd o (λ c. (es ≡ front ++ c ∷ []) × (last < c.seq)) → IfSome o (λ c. (cs ≡ front ++ c ∷ []) × (last < c.seq)) × ((X : Type 0) → IfNone o X)
gone_behind last cs es front None same k = absurd k
gone_behind last cs es front (Some c) same k = ((sym same ∙ k.0, k.1), λ X. tt)

-- no change is above a seqno that the last entry is not above
pub all_up_to : (last n : ℕ) (es : List (ℕ × Option Change)) → AreEntries n es → is_above last (last_entry es) ≡ false → upto (changes_there es) last ≡ changes_there es
all_up_to last n es h f = go n es h (reaches n es h f)
  where
    -- each entry is up to the seqno
    AreUpTo : List (ℕ × Option Change) → Type 0
    AreUpTo [] = Unit {0}
    AreUpTo (e ∷ es) = (e.0 ≤ last) × AreUpTo es

    reaches : (n : ℕ) (es : List (ℕ × Option Change)) → AreEntries n es → is_above last (last_entry es) ≡ false → AreUpTo es
    reaches n [] h f = tt
    reaches n (e ∷ []) h f = (ltb-false last e.0 f, tt)
    reaches n (e ∷ d ∷ es) h f =
        let rest : AreUpTo (d ∷ es) = reaches (e.0 + 1) (d ∷ es) h.2 (ap (is_above last) (sym (last_of_rest e d es)) ∙ f) in
        let a : d.0 ≤ last = rest.0 in
        let b : e.0 + 1 ≤ d.0 = h.2.0 in
        (omega arith, rest)

    go : (n : ℕ) (es : List (ℕ × Option Change)) → AreEntries n es → AreUpTo es → upto (changes_there es) last ≡ changes_there es
    go n [] h k = refl
    go n ((q, None) ∷ es) h k = go (q + 1) es h.2 k.1
    go n ((q, Some c) ∷ es) h k =
        let own : c.seq ≡ q = h.1 in
        let l : q ≤ last = k.0 in
        ap (λ b. cond b (c ∷ upto (changes_there es) last) (upto (changes_there es) last)) (le-leb c.seq last (omega arith)) ∙ ap (λ xs. c ∷ xs) (go (q + 1) es h.2 k.1)

-- a change above all others behind all entries
pushed : (n : ℕ) (c : Change) (es : List (ℕ × Option Change)) → AreEntries n es → is_hole (last_entry es) ≡ false → AreBelow c.seq (changes_there es) → n ≤ c.seq → AreEntries n (es ++ (c.seq, Some c) ∷ [])
pushed n c [] h ends low l = (l, refl, tt)
pushed n c (e ∷ es) h ends low l = (h.0, h.1, pushed (e.0 + 1) c es h.2 (ends_rest es ends) (low_rest e es low) (low_first e es n h ends low))
  where
    ends_rest : (es : List (ℕ × Option Change)) → is_hole (last_entry (e ∷ es)) ≡ false → is_hole (last_entry es) ≡ false
    ends_rest [] k = refl
    ends_rest (d ∷ es) k = ap is_hole (sym (last_of_rest e d es)) ∙ k

    low_rest : (x : ℕ × Option Change) (xs : List (ℕ × Option Change)) → AreBelow c.seq (changes_there (x ∷ xs)) → AreBelow c.seq (changes_there xs)
    low_rest (q, None) xs k = k
    low_rest (q, Some d) xs k = k.1

    low_first : (x : ℕ × Option Change) (xs : List (ℕ × Option Change)) (n : ℕ) → AreEntries n (x ∷ xs) → is_hole (last_entry (x ∷ xs)) ≡ false → AreBelow c.seq (changes_there (x ∷ xs)) → x.0 + 1 ≤ c.seq
    low_first (q, None) [] n h k b = absurd (cc)
    low_first (q, Some d) [] n h k b = let own : d.seq ≡ q = h.1 in let l : d.seq < c.seq = b.0 in omega arith
    low_first x (y ∷ ys) n h k b =
        let rest = low_first y ys (x.0 + 1) h.2 (ap is_hole (sym (last_of_rest x y ys)) ∙ k) (low_rest x (y ∷ ys) b) in
        let l : x.0 + 1 ≤ y.0 = h.2.0 in
        omega arith

pub run_pushed : (there : ℕ) (es fs : List (ℕ × Option Change)) (c : Change) → IsRun there es → changes_there fs ≡ changes_there es → AreEntries 0 fs → is_hole (last_entry fs) ≡ false → length fs ≤ length es → AreBelow c.seq (changes_there es)
    → IsRun (there + 1) (fs ++ (c.seq, Some c) ∷ [])
run_pushed there es fs c r same h ends fewer low =
    let behind : changes_there (fs ++ (c.seq, Some c) ∷ []) ≡ changes_there fs ++ c ∷ [] = change_behind fs (c.seq, Some c) in
    let n = ap length behind ∙ length-append (changes_there fs) (c ∷ []) in
    let m = length-append fs ((c.seq, Some c) ∷ []) in
    let k = ap length same in
    record {
      entries = pushed 0 c fs h ends (subst (AreBelow c.seq) (sym same) low) (omega arith);
      counted = omega (arith, n, k, r.counted);
      dense = omega (arith, m, fewer, r.dense);
    }

-- what the next entry has comes behind what is there so far
next_from : (i : ℕ) (es : List (ℕ × Option Change)) (x : ℕ × Option Change) → i < length es → x ≡ get_or es i x → changes_there (take (suc i) es) ≡ changes_there (take i es) ++ option_to_list x.1
next_from i [] x l e = absurd (omega arith)
next_from zero ((q, None) ∷ es) x l e = ap (λ (d : ℕ × Option Change). option_to_list d.1) (sym e)
next_from zero ((q, Some c) ∷ es) x l e = ap (λ (d : ℕ × Option Change). option_to_list d.1) (sym e)
next_from (suc i) ((q, None) ∷ es) x l e = next_from i es x (omega arith) e
next_from (suc i) ((q, Some c) ∷ es) x l e = ap (λ xs. c ∷ xs) (next_from i es x (omega arith) e)

pub next_there : (i : ℕ) (es : List (ℕ × Option Change)) (x : ℕ × Option Change) → i < length es → x ≡ get_or es i x → changes_there (take (i + 1) es) ≡ changes_there (take i es) ++ option_to_list x.1
next_there i es x l e = let n : i + 1 ≡ suc i = omega arith in ap (λ k. changes_there (take k es)) n ∙ next_from i es x l e

-- one of the changes that are there passes
pub any_there : (test : Change → Bool) (es : List (ℕ × Option Change)) → list_any (λ (e : ℕ × Option Change). list_any test (option_to_list e.1)) es ≡ list_any test (changes_there es)
any_there test [] = refl
any_there test ((q, None) ∷ es) = any_there test es
any_there test ((q, Some c) ∷ es) = elim (test c) as (λ v. (v || false || list_any (λ (e : ℕ × Option Change). list_any test (option_to_list e.1)) es) ≡ (v || list_any test (changes_there es))) [
  | true ↦ refl
  | false ↦ any_there test es
]

-- one of the changes above a place passes
pub any_above : (test : Change → Bool) (place : ℕ) (cs : List Change) → list_any test (items_above place cs) ≡ list_any (λ c. nat_lt place c.seq && test c) cs
any_above test place [] = refl
any_above test place (c ∷ cs) =
    elim (nat_lt place c.seq) as (λ v. list_any test (cond v (c ∷ items_above place cs) (items_above place cs)) ≡ (v && test c || list_any (λ d. nat_lt place d.seq && test d) cs)) [
      | true ↦ ap (λ b. test c || b) (any_above test place cs)
      | false ↦ any_above test place cs
    ]

-- entries without holes

pub closed_there : (es : List (ℕ × Option Change)) → changes_there (closed_up es) ≡ changes_there es
closed_there [] = refl
closed_there ((q, None) ∷ es) = closed_there es
closed_there ((q, Some c) ∷ es) = ap (λ xs. c ∷ xs) (closed_there es)

closed_entries : (n : ℕ) (es : List (ℕ × Option Change)) → AreEntries n es → AreEntries n (closed_up es)
closed_entries n [] h = tt
closed_entries n ((q, None) ∷ es) h = let k : n ≤ q = h.0 in entries_from n (q + 1) (closed_up es) (omega arith) (closed_entries (q + 1) es h.2)
closed_entries n ((q, Some c) ∷ es) h = (h.0, h.1, closed_entries (q + 1) es h.2)

pub closed_length : (es : List (ℕ × Option Change)) → length (closed_up es) ≡ length (changes_there es)
closed_length [] = refl
closed_length ((q, None) ∷ es) = closed_length es
closed_length ((q, Some c) ∷ es) = let k = closed_length es in omega arith

pub not_more : (es : List (ℕ × Option Change)) → length (changes_there es) ≤ length es
not_more [] = omega arith
not_more ((q, None) ∷ es) = let k = not_more es in omega arith
not_more ((q, Some c) ∷ es) = let k = not_more es in omega arith

pub closed_run : (there : ℕ) (es ds : List (ℕ × Option Change)) → AreEntries 0 es → there ≡ length (changes_there es) → ds ≡ closed_up es → IsRun there ds
closed_run there es ds h counted same =
    subst (IsRun there) (sym same) (let n = closed_length es in record {
      entries = closed_entries 0 es h;
      counted = counted ∙ sym (ap length (closed_there es));
      dense = omega (arith, n, counted);
    })
