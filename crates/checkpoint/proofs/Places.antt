-- changes by their seqnos: what is found, and what one more leaves
use Rattle.std.proofs.Common.{◌≡◌, ℕ, ◌+◌, ◌-◌, ◌<◌, ◌≤◌, Bool, true, false, cond, eqb, List, [], ◌∷◌, ◌++◌, refl, ap, sym, ◌∙◌, subst, arith}
use Rattle.std.specs.Prelude.{Option, Some, None, not}
use Rattle.std.specs.List.{filter}
use Rattle.std.specs.Option.{option_map, unwrap_or}
use Rattle.std.specs.Str.{bytes_eq}
use Rattle.std.proofs.lemmas.Bool.{eq-eqb, ne_eqb}
use Rattle.std.proofs.lemmas.Bool.Decides.{nat_tests}
use Rattle.std.proofs.lemmas.List.Elements.{filter-append}
use Rattle.vb_types.specs.Histories.{Rises}
use Rattle.vb_types.specs.declared.change.Change.{Change}
use Rattle.vb_calls.specs.declared.span.TheConstants.{MAX_WEIGHT}
use Rattle.vb_calls.specs.Spans.{change_weight}
use Rattle.checkpoint.specs.Checkpoints.{item_at, items_weight, entered, fits_by, fits_in}
use Rattle.checkpoint.specs.Finds.{AreDistinct, Finds, IsMeasured, without, weight_at}
use Rattle.checkpoint.specs.Runs.{AreBelow, change_at, lacking}
use Rattle.checkpoint.proofs.Entered.{same_key, none_goes, rises_le, entered_at, entered_distinct, entered_last, entered_rises, entered_sum}

pub are_below : (low high : ℕ) (cs : List Change) (n : ℕ) → Rises low high cs → high < n → AreBelow n cs
are_below low high [] n r l = tt
are_below low high (c ∷ cs) n r l =
    let k = rises_le c.seq high cs r.1 in
    (omega arith, are_below c.seq high cs n r.1 l)

-- a key's change stands between where its list begins and ends
item_between : (low high : ℕ) (cs : List Change) (key : List ℕ) (s : ℕ) → Rises low high cs → option_map (λ c. c.seq) (item_at key cs) ≡ Some s → (low < s) × (s ≤ high)
item_between low high [] key s r e = cc
item_between low high (d ∷ ds) key s r e =
    elim (bytes_eq d.key key) as (λ v. option_map (λ c. c.seq) (cond v (Some d) (item_at key ds)) ≡ Some s → (low < s) × (s ≤ high)) [
      | true ↦ λ t. let same : d.seq ≡ s = cc in let l : low < d.seq = r.0 in let k = rises_le d.seq high ds r.1 in (omega arith, omega arith)
      | false ↦ λ t. let l : low < d.seq = r.0 in let m = item_between d.seq high ds key s r.1 t in (omega (arith, m.0), m.1)
    ] e

-- a key's change is found by its seqno
pub found_at : (low high : ℕ) (cs : List Change) (key : List ℕ) (s : ℕ) → Rises low high cs → option_map (λ c. c.seq) (item_at key cs) ≡ Some s → change_at s cs ≡ item_at key cs
found_at low high [] key s r e = refl
found_at low high (x ∷ cs) key s r e =
    elim (bytes_eq x.key key) as (λ v. option_map (λ c. c.seq) (cond v (Some x) (item_at key cs)) ≡ Some s → cond (eqb x.seq s) (Some x) (change_at s cs) ≡ cond v (Some x) (item_at key cs)) [
      | true ↦ λ t. let same : x.seq ≡ s = cc in ap (λ b. cond b (Some x) (change_at s cs)) (eq-eqb x.seq s same)
      | false ↦ λ t.
          let l = (item_between x.seq high cs key s r.1 t).0 in
          ap (λ b. cond b (Some x) (change_at s cs)) (ne_eqb x.seq s (λ same. omega arith)) ∙ found_at x.seq high cs key s r.1 t
    ] e

-- changes above a seqno do not have it
all_lack : (s low high : ℕ) (cs : List Change) → Rises low high cs → s ≤ low → lacking s cs ≡ cs
all_lack s low high [] r l = refl
all_lack s low high (x ∷ cs) r l =
    let k : low < x.seq = r.0 in
    ap (λ b. cond (not b) (x ∷ lacking s cs) (lacking s cs)) (ne_eqb x.seq s (λ same. omega arith)) ∙ ap (λ xs. x ∷ xs) (all_lack s x.seq high cs r.1 (omega arith))

-- the one with a key's seqno is the one with the key
removed : (low high : ℕ) (key : List ℕ) (cs : List Change) (s : ℕ) → AreDistinct cs → Rises low high cs → option_map (λ d. d.seq) (item_at key cs) ≡ Some s → lacking s cs ≡ filter (λ d. not (bytes_eq d.key key)) cs
removed low high key [] s d r e = refl
removed low high key (x ∷ cs) s d r e =
    elim (bytes_eq x.key key) as (λ v. bytes_eq x.key key ≡ v → option_map (λ y. y.seq) (cond v (Some x) (item_at key cs)) ≡ Some s
    → cond (not (eqb x.seq s)) (x ∷ lacking s cs) (lacking s cs) ≡ cond (not v) (x ∷ filter (λ y. not (bytes_eq y.key key)) cs) (filter (λ y. not (bytes_eq y.key key)) cs)) [
      | true ↦ λ b t.
          let same : x.seq ≡ s = cc in
          ap (λ v. cond (not v) (x ∷ lacking s cs) (lacking s cs)) (eq-eqb x.seq s same) ∙ all_lack s x.seq high cs r.1 (omega arith)
          ∙ sym (none_goes key cs (subst (λ k. item_at k cs ≡ None) (same_key x.key key b) d.0))
      | false ↦ λ b t.
          let l = (item_between x.seq high cs key s r.1 t).0 in
          ap (λ v. cond (not v) (x ∷ lacking s cs) (lacking s cs)) (ne_eqb x.seq s (λ same. omega arith)) ∙ ap (λ xs. x ∷ xs) (removed x.seq high key cs s d.1 r.1 t)
    ] refl e

none_from_map : (o : Option Change) → option_map (λ d. d.seq) o ≡ None → o ≡ None
none_from_map None e = refl
none_from_map (Some d) e = cc

-- the changes after one more
pub entered_values : (low high : ℕ) (cs : List Change) (c : Change) (o : Option ℕ) → AreDistinct cs → Rises low high cs → high < c.seq
    → o ≡ option_map (λ d. d.seq) (item_at c.key cs) → without o (cs ++ c ∷ []) ≡ entered cs c
entered_values low high cs c None d r l e = ap (λ xs. xs ++ c ∷ []) (sym (none_goes c.key cs (none_from_map _ (sym e))))
entered_values low high cs c (Some s) d r l e =
    let k = (item_between low high cs c.key s r (sym e)).1 in
    filter-append (λ x. not (eqb x.seq s)) cs (c ∷ [])
    ∙ ap (λ b. lacking s cs ++ cond (not b) (c ∷ []) []) (ne_eqb c.seq s (λ same. omega arith))
    ∙ ap (λ xs. xs ++ c ∷ []) (removed low high c.key cs s d r (sym e))

found_pushed : (s : ℕ) (cs : List Change) (c d : Change) → change_at s cs ≡ Some d → change_at s (cs ++ c ∷ []) ≡ Some d
found_pushed s [] c d h = cc
found_pushed s (x ∷ cs) c d h = elim (eqb x.seq s) as (λ v. cond v (Some x) (change_at s cs) ≡ Some d → cond v (Some x) (change_at s (cs ++ c ∷ [])) ≡ Some d) [ true ↦ λ t. t | false ↦ λ t. found_pushed s cs c d t ] h

-- what goes weighs
pub weight_gone : (low high : ℕ) (cs : List Change) (c : Change) (o : Option ℕ) → Rises low high cs → o ≡ option_map (λ d. d.seq) (item_at c.key cs)
    → weight_at o (cs ++ c ∷ []) ≡ unwrap_or (option_map change_weight (item_at c.key cs)) 0
weight_gone low high cs c None r e = ap (λ x. unwrap_or (option_map change_weight x) 0) (sym (none_from_map _ (sym e)))
weight_gone low high cs c (Some s) r e =
    elim (item_at c.key cs) as (λ v. item_at c.key cs ≡ v → Some s ≡ option_map (λ d. d.seq) v → weight_at (Some s) (cs ++ c ∷ []) ≡ unwrap_or (option_map change_weight v) 0) [
      | None ↦ λ v t. cc
      | Some d ↦ λ v t. ap (λ x. unwrap_or (option_map change_weight x) 0) (found_pushed s cs c d (found_at low high cs c.key s r (sym e) ∙ v))
    ] refl e

-- a change that fits leaves the weight within its limit
light : (items : List Change) (c : Change) (o : Option Change) → fits_by true items o c ≡ true → items_weight items + change_weight c - unwrap_or (option_map change_weight o) 0 ≤ MAX_WEIGHT
light items c None h = grind (arith, nat_tests)
light items c (Some d) h = grind (arith, nat_tests)

seqs_after : (c : Change) (key : List ℕ) (cs : List Change) (b : Bool) → cond b (Some c.seq) (option_map (λ d. d.seq) (item_at key cs)) ≡ option_map (λ (d : Change). d.seq) (cond b (Some c) (item_at key cs))
seqs_after c key cs true = refl
seqs_after c key cs false = refl

-- what a change that fits finds is what it takes away
pub gone_le : (low high : ℕ) (cs : List Change) (seqs : List ℕ → Option ℕ) (c : Change) (o : Option ℕ) (w : ℕ) → Finds cs seqs → Rises low high cs → o ≡ seqs c.key
    → w ≡ items_weight cs + change_weight c → weight_at o (cs ++ c ∷ []) ≤ w
gone_le low high cs seqs c o w f r named e =
    let gone = weight_gone low high cs c o r (named ∙ f.found c.key) in
    let sum = entered_sum change_weight c cs f.distinct in
    omega (arith, gone, sum, e)

-- the finder after a change
pub finds_after : (low high : ℕ) (cs ds : List Change) (seqs then : List ℕ → Option ℕ) (c : Change) (o : Option ℕ) → Finds cs seqs → Rises low high cs → high < c.seq → o ≡ seqs c.key
    → ds ≡ without o (cs ++ c ∷ []) → ((q : List ℕ) → then q ≡ cond (bytes_eq c.key q) (Some c.seq) (seqs q)) → Finds ds then
finds_after low high cs ds seqs then c o f r l named e told =
    let all = e ∙ entered_values low high cs c o f.distinct r l (named ∙ f.found c.key) in
    record {
      distinct = subst AreDistinct (sym all) (entered_distinct c cs f.distinct);
      found = λ q. told q ∙ ap (cond (bytes_eq c.key q) (Some c.seq)) (f.found q) ∙ seqs_after c q cs (bytes_eq c.key q) ∙ ap (option_map (λ d. d.seq)) (sym (entered_at c q cs) ∙ ap (item_at q) (sym all));
    }

-- and what is kept of it
pub measured_after : (low high w v : ℕ) (cs ds : List Change) (seqs : List ℕ → Option ℕ) (c : Change) (o : Option ℕ) → Finds cs seqs → Rises low high cs → high < c.seq → o ≡ seqs c.key
    → fits_in true cs c ≡ true → ds ≡ without o (cs ++ c ∷ []) → w ≡ items_weight cs + change_weight c → v ≡ weight_at o (cs ++ c ∷ []) → IsMeasured low c.seq (w - v) ds
measured_after low high w v cs ds seqs c o f r l named fits e more less =
    let all = e ∙ entered_values low high cs c o f.distinct r l (named ∙ f.found c.key) in
    let gone = less ∙ weight_gone low high cs c o r (named ∙ f.found c.key) in
    let sum = entered_sum change_weight c cs f.distinct in
    let small = light cs c (item_at c.key cs) fits in
    subst (IsMeasured low c.seq (w - v)) (sym all) (record {
      ends = entered_last low c cs;
      rises = entered_rises low high c cs r l;
      weighs = omega (arith, sum, gone, more);
      light = omega (arith, small, gone, more);
    })
