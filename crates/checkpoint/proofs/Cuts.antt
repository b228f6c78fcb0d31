-- what is left where the changes above a seqno go
use Rattle.std.proofs.Common.{◌≡◌, ℕ, ◌+◌, ◌-◌, ◌<◌, ◌≤◌, Bool, true, false, cond, List, [], ◌∷◌, ◌++◌, refl, ap, sym, ◌∙◌, subst, arith, append-nil}
use Rattle.std.specs.Prelude.{Option, Some, None, nat_le, not, ◌&&◌}
use Rattle.std.specs.List.{fold}
use Rattle.std.proofs.lemmas.Slice.Eq.{bytes_eq-Decides}
use Rattle.vb_calls.specs.declared.span.TheConstants.{MAX_WEIGHT}
use Rattle.std.specs.Option.{option_map}
use Rattle.std.specs.Str.{bytes_eq}
use Rattle.std.proofs.lemmas.Bool.Decides.{nat_tests}
use Rattle.std.proofs.lemmas.List.Elements.{filter-append}
use Rattle.std.proofs.lemmas.List.Sums.{sum_by-cons, sum_by-append}
use Rattle.vb_types.specs.Histories.{Rises, upto}
use Rattle.vb_types.specs.declared.change.Change.{Change}
use Rattle.vb_calls.specs.Spans.{change_weight, is_durable}
use Rattle.branch_model.specs.Histories.{last_seq}
use Rattle.branch_model.proofs.Lasts.{rises_filter}
use Rattle.checkpoint.specs.Checkpoints.{Ckpt, ckpt_last, ckpt_with, cut_to, entered, fits_by, fits_in, item_at, items_weight}
use Rattle.checkpoint.specs.Finds.{AreDistinct, Finds, IsMeasured}
use Rattle.checkpoint.specs.Laws.{CutsTakeBack, FitInTurn}
use Rattle.checkpoint.proofs.Entered.{entered_last, none_goes, rises_le, same_key}

le_yes : (a b : ℕ) → a ≤ b → nat_le a b ≡ true
le_yes a b l = grind (arith, nat_tests)

le_no : (a b : ℕ) → b < a → nat_le a b ≡ false
le_no a b l = grind (arith, nat_tests)

itself : (a : List ℕ) → bytes_eq a a ≡ true
itself a = (bytes_eq-Decides a a).1 refl

at_before : (key : List ℕ) (c : Change) (cs : List Change) → item_at key (cs ++ c ∷ []) ≡ None → item_at key cs ≡ None
at_before key c [] h = refl
at_before key c (d ∷ ds) h = elim (bytes_eq d.key key) as (λ v. cond v (Some d) (item_at key (ds ++ c ∷ [])) ≡ None → cond v (Some d) (item_at key ds) ≡ None) [
  | true ↦ λ e. absurd (cc)
  | false ↦ λ e. at_before key c ds e
] h

distinct_before : (c : Change) (cs : List Change) → AreDistinct (cs ++ c ∷ []) → AreDistinct cs
distinct_before c [] h = tt
distinct_before c (d ∷ ds) h = (at_before d.key c ds h.0, distinct_before c ds h.1)

there : (c : Change) (cs : List Change) → item_at c.key (cs ++ c ∷ []) ≡ None → ⊥
there c [] h = let z : cond (bytes_eq c.key c.key) (Some c) None ≡ Some c = ap (λ b. cond b (Some c) None) (itself c.key) in cc
there c (d ∷ ds) h = elim (bytes_eq d.key c.key) as (λ v. cond v (Some d) (item_at c.key (ds ++ c ∷ [])) ≡ None → ⊥) [
  | true ↦ λ e. cc
  | false ↦ λ e. there c ds e
] h

-- no other change has the last one's key
missing_before : (c : Change) (cs : List Change) → AreDistinct (cs ++ c ∷ []) → item_at c.key cs ≡ None
missing_before c [] h = refl
missing_before c (d ∷ ds) h = elim (bytes_eq d.key c.key) as (λ v. bytes_eq d.key c.key ≡ v → cond v (Some d) (item_at c.key ds) ≡ None) [
  | true ↦ λ t. absurd (there c ds (subst (λ k. item_at k (ds ++ c ∷ []) ≡ None) (same_key d.key c.key t) h.0))
  | false ↦ λ t. missing_before c ds h.1
] refl

at_other : (c : Change) (key : List ℕ) (cs : List Change) → bytes_eq c.key key ≡ false → item_at key (cs ++ c ∷ []) ≡ item_at key cs
at_other c key [] e = ap (λ b. cond b (Some c) None) e
at_other c key (d ∷ ds) e = ap (cond (bytes_eq d.key key) (Some d)) (at_other c key ds e)

-- the change of any key, without the last change
at_without : (c : Change) (key : List ℕ) (cs : List Change) → AreDistinct (cs ++ c ∷ []) → cond (bytes_eq c.key key) None (item_at key (cs ++ c ∷ [])) ≡ item_at key cs
at_without c key cs h = elim (bytes_eq c.key key) as (λ v. bytes_eq c.key key ≡ v → cond v None (item_at key (cs ++ c ∷ [])) ≡ item_at key cs) [
  | true ↦ λ t. sym (subst (λ k. item_at k cs ≡ None) (same_key c.key key t) (missing_before c cs h))
  | false ↦ λ t. at_other c key cs t
] refl

seqs_without : (b : Bool) (o : Option Change) → cond b None (option_map (λ (d : Change). d.seq) o) ≡ option_map (λ (d : Change). d.seq) (cond b None o)
seqs_without true o = refl
seqs_without false o = refl

-- the finder without the last change
pub finds_before : (cs ds : List Change) (c : Change) (seqs then : List ℕ → Option ℕ) → Finds ds seqs → ds ≡ cs ++ c ∷ [] → ((q : List ℕ) → then q ≡ cond (bytes_eq c.key q) None (seqs q)) → Finds cs then
finds_before cs ds c seqs then f same told =
    let apart : AreDistinct (cs ++ c ∷ []) = subst AreDistinct same f.distinct in
    record {
      distinct = distinct_before c cs apart;
      found = λ q. told q ∙ ap (cond (bytes_eq c.key q) None) (f.found q ∙ ap (λ xs. option_map (λ (d : Change). d.seq) (item_at q xs)) same)
          ∙ seqs_without (bytes_eq c.key q) (item_at q (cs ++ c ∷ [])) ∙ ap (option_map (λ (d : Change). d.seq)) (at_without c q cs apart);
    }

-- what the last change weighs goes
pub weighs_before : (cs ds : List Change) (c : Change) → ds ≡ cs ++ c ∷ [] → items_weight ds ≡ items_weight cs + change_weight c
weighs_before cs ds c same =
    let all = ap items_weight same in
    omega (arith, all, sum_by-append change_weight cs (c ∷ []), sum_by-cons change_weight c [])

-- a change above a seqno is none of those up to it
pub to_before : (last : ℕ) (cs ds : List Change) (c : Change) → ds ≡ cs ++ c ∷ [] → last < c.seq → upto cs last ≡ upto ds last
to_before last cs ds c same l =
    sym (
    ap (λ xs. upto xs last) same ∙ filter-append (λ x. nat_le x.seq last) cs (c ∷ [])
    ∙ ap (λ b. upto cs last ++ cond b (c ∷ []) []) (le_no c.seq last l) ∙ append-nil (upto cs last)
    )

rises_end : (low high : ℕ) (cs : List Change) → Rises low high cs → Rises low (last_seq low cs) cs
rises_end low high [] r = omega arith
rises_end low high (d ∷ ds) r = (r.0, rises_end d.seq high ds r.1)

-- what is kept of what stays
pub measured_to : (low high w freed last : ℕ) (cs ds : List Change) → IsMeasured low high w cs → ds ≡ upto cs last → freed + items_weight ds ≡ items_weight cs → last_seq low (upto cs last) ≡ last → IsMeasured low last (w - freed) ds
measured_to low high w freed last cs ds m same less ends =
    let all : w ≡ items_weight cs = m.weighs in
    let small : w ≤ MAX_WEIGHT = m.light in
    record {
      ends = sym (ap (last_seq low) same ∙ ends);
      rises = subst (λ n. Rises low n ds) (ap (last_seq low) same ∙ ends) (subst (λ xs. Rises low (last_seq low xs) xs) (sym same) (rises_end low high (upto cs last) (rises_filter (λ c. nat_le c.seq last) low high cs m.rises)));
      weighs = omega (arith, all, less);
      light = omega (arith, small);
    }

-- cuts and puts

upto_all : (low high last : ℕ) (cs : List Change) → Rises low high cs → high ≤ last → upto cs last ≡ cs
upto_all low high last [] r l = refl
upto_all low high last (d ∷ ds) r l =
    let k = rises_le d.seq high ds r.1 in
    ap (λ b. cond b (d ∷ upto ds last) (upto ds last)) (le_yes d.seq last (omega arith)) ∙ ap (λ xs. d ∷ xs) (upto_all d.seq high last ds r.1 l)

-- nothing is above the last seqno
pub cut_same : (k : Ckpt) → Rises k.above (ckpt_last k) k.items → cut_to (ckpt_last k) k ≡ k
cut_same k r = ap (λ items. record { above = k.above; origin = k.origin; items = items }) (upto_all k.above (ckpt_last k) (ckpt_last k) k.items r (omega arith))

-- a part of a durable write that fits has a key of its own
pub fits_alone : (items : List Change) (c : Change) → is_durable c.act ≡ true → fits_in true items c ≡ true → item_at c.key items ≡ None
fits_alone items c part fits = by_item (item_at c.key items) fits
  where
    by_item : (o : Option Change) → fits_by true items o c ≡ true → o ≡ None
    by_item None e = refl
    by_item (Some d) e = let z : (not (is_durable d.act) && not true && nat_le (items_weight items + change_weight c - change_weight d) MAX_WEIGHT) ≡ true = ap (λ b. not (is_durable d.act) && not b && nat_le (items_weight items + change_weight c - change_weight d) MAX_WEIGHT) (sym part) ∙ e in
        absurd (never (is_durable d.act) _ z)
      where
        never : (a b : Bool) → (not a && not true && b) ≡ true → ⊥
        never true b e = cc
        never false b e = cc

-- so it stands behind the others
pub entered_behind : (items : List Change) (c : Change) → is_durable c.act ≡ true → fits_in true items c ≡ true → entered items c ≡ items ++ c ∷ []
entered_behind items c part fits = ap (λ xs. xs ++ c ∷ []) (none_goes c.key items (fits_alone items c part fits))

-- and goes alone
pub cut_put : (n : ℕ) (k : Ckpt) (c : Change) → is_durable c.act ≡ true → fits_in true k.items c ≡ true → n < c.seq → cut_to n (ckpt_with k c) ≡ cut_to n k
cut_put n k c part fits l =
    ap (λ items. record { above = k.above; origin = k.origin; items = items }) (
    ap (λ cs. upto cs n) (entered_behind k.items c part fits) ∙ filter-append (λ d. nat_le d.seq n) k.items (c ∷ [])
    ∙ ap (λ b. upto k.items n ++ cond b (c ∷ []) []) (le_no c.seq n l) ∙ append-nil (upto k.items n)
    )

cut_fold : (n : ℕ) (k : Ckpt) (cs : List Change) → n ≤ ckpt_last k → FitInTurn k cs → cut_to n (fold ckpt_with k cs) ≡ cut_to n k
cut_fold n k [] l f = refl
cut_fold n k (c ∷ cs) l f =
    let up : ckpt_last k < c.seq = f.2 in
    let ends : c.seq ≡ ckpt_last (ckpt_with k c) = entered_last k.above c k.items in
    cut_fold n (ckpt_with k c) cs (omega (arith, ends)) f.3 ∙ cut_put n k c f.0 f.1 (omega arith)

pub cuts_take_back : CutsTakeBack
cuts_take_back k cs r f = cut_fold (ckpt_last k) k cs (omega arith) f ∙ cut_same k r
