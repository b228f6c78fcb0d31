-- the laws of a checkpoint
use Rattle.std.proofs.Common.{◌≡◌, ◌≢◌, ◌↔◌, ℕ, ◌+◌, ◌-◌, ◌<◌, ◌≤◌, Bool, true, false, cond, List, [], ◌∷◌, ◌++◌, length, refl, ap, sym, ◌∙◌, subst, arith, inl, inr, ltb-true, lt-ltb}
use Rattle.std.specs.Prelude.{Some, None, not, nat_lt, nat_le, ◌&&◌, ◌⊎◌}
use Rattle.std.specs.List.{filter}
use Rattle.std.specs.Str.{bytes_eq}
use Rattle.std.proofs.lemmas.Bool.Decides.{nat_tests}
use Rattle.std.proofs.lemmas.List.Sums.{sum_by-cons}
use Rattle.vb_types.specs.declared.change.Act.{Act}
use Rattle.vb_types.specs.declared.change.Act.TheVariants as act
use Rattle.vb_types.specs.declared.change.Change.{Change}
use Rattle.vb_types.specs.Histories.{IsIn}
use Rattle.branch_model.proofs.Lasts.{in_filter, kept_in_filter}
use Rattle.vb_calls.specs.Spans.{change_weight, is_durable}
use Rattle.checkpoint.specs.Checkpoints.{fits_by, fits_newer, item_at, items_weight}
use Rattle.checkpoint.specs.Laws.{AboveExactly, FitsAs, FitsExactly, HasOneOfEach, IsPlain, PutsExactly, WeighsInNumbers, total_weight}
use Rattle.checkpoint.proofs.Entered.{apart, entered_rises, other_key, same_key}

weighed : (cs : List Change) → items_weight cs ≡ total_weight cs
weighed [] = refl
weighed (c ∷ cs) = sum_by-cons change_weight c cs ∙ ap (λ n. change_weight c + n) (weighed cs)

pub in_numbers : WeighsInNumbers
in_numbers key doc level deleted prepared cas rev = (λ seq. refl, λ seq. omega arith, λ seq. refl, λ seq. refl, λ seq. omega arith)

-- the change of a key is one of the list
item_in : (key : List ℕ) (cs : List Change) (d : Change) → item_at key cs ≡ Some d → IsIn d cs × (d.key ≡ key)
item_in key [] d e = absurd (cc)
item_in key (x ∷ xs) d e = elim (bytes_eq x.key key) as (λ v. bytes_eq x.key key ≡ v → cond v (Some x) (item_at key xs) ≡ Some d → IsIn d (x ∷ xs) × (d.key ≡ key)) [
  | true ↦ λ t s. let same : d ≡ x = cc in (inl same, ap (λ y. y.key) same ∙ same_key x.key key t)
  | false ↦ λ t s. let k = item_in key xs d s in (inr k.0, k.1)
] refl e

item_none : (key : List ℕ) (cs : List Change) → ((d : Change) → IsIn d cs → d.key ≢ key) → item_at key cs ≡ None
item_none key cs h = elim (item_at key cs) as (λ o. item_at key cs ≡ o → o ≡ None) [
  | None ↦ λ e. refl
  | Some d ↦ λ e. let k = item_in key cs d e in absurd (h d k.0 k.1)
] refl

missing : (key : List ℕ) (cs : List Change) (d : Change) → IsIn d cs → d.key ≡ key → item_at key cs ≡ None → ⊥
missing key [] d i e n = i
missing key (x ∷ xs) d i e n = elim (bytes_eq x.key key) as (λ v. bytes_eq x.key key ≡ v → cond v (Some x) (item_at key xs) ≡ None → ⊥) [
  | true ↦ λ t s. cc
  | false ↦ λ t s. elim i [ inl same ↦ other_key x.key key t (ap (λ y. y.key) (sym same) ∙ e) | inr j ↦ missing key xs d j e s ]
] refl n

item_some : (key : List ℕ) (cs : List Change) (d : Change) → HasOneOfEach cs → IsIn d cs → d.key ≡ key → item_at key cs ≡ Some d
item_some key cs d one i e = elim (item_at key cs) as (λ o. item_at key cs ≡ o → o ≡ Some d) [
  | None ↦ λ n. absurd (missing key cs d i e n)
  | Some x ↦ λ n. let k = item_in key cs x n in ap Some (one x d k.0 i (k.1 ∙ sym e))
] refl

plain_act : (a : Act) → (is_durable a ≡ false) ↔ IsPlain a
plain_act (act.Set doc) = (λ e. tt, λ p. refl)
plain_act (act.Remove cas rev) = (λ e. tt, λ p. refl)
plain_act (act.Prepare level doc deleted) = (λ e. absurd (cc), λ p. absurd p)
plain_act (act.Commit prepared doc deleted) = (λ e. absurd (cc), λ p. absurd p)
plain_act (act.Abort prepared) = (λ e. absurd (cc), λ p. absurd p)

parts : (a b e : Bool) → not a && not b && e ≡ true → (a ≡ false) × (b ≡ false) × (e ≡ true)
parts true b e h = absurd (cc)
parts false true e h = absurd (cc)
parts false false e h = (refl, refl, h)

fits_other_exactly : (own : Bool) (items : List Change) (c : Change) → (fits_by own items None c ≡ true) ↔ ((length items < 1000) × (total_weight items + change_weight c ≤ 33554432))
fits_other_exactly own items c =
    let w = weighed items in (
      λ e. (grind (arith, nat_tests), grind (arith, nat_tests)),
      λ h. let n = h.0 in let m = h.1 in grind (arith, nat_tests),
    )

fits_newer_exactly : (items : List Change) (c d : Change) → (fits_newer items d c ≡ true) ↔ (IsPlain d.act × IsPlain c.act × (total_weight items + change_weight c ≤ 33554432 + change_weight d))
fits_newer_exactly items c d =
    let w = weighed items in
    let test = nat_le (items_weight items + change_weight c - change_weight d) 33554432 in (
      λ e. let k = parts (is_durable d.act) (is_durable c.act) test e in
          let t : test ≡ true = k.2 in ((plain_act d.act).0 k.0, (plain_act c.act).0 k.1, grind (arith, nat_tests)),
      λ h.
          let n = h.2 in
          let t : test ≡ true = grind (arith, nat_tests) in
          ap (λ a. not a && not (is_durable c.act) && test) ((plain_act d.act).1 h.0) ∙ ap (λ a. not false && not a && test) ((plain_act c.act).1 h.1) ∙ t,
    )

fits_as : (items : List Change) (c : Change) → HasOneOfEach items → FitsAs items c
fits_as items c one = record {
  other = λ own lacks. subst (λ o. (fits_by own items o c ≡ true) ↔ ((length items < 1000) × (total_weight items + change_weight c ≤ 33554432))) (sym (item_none c.key items lacks)) (fits_other_exactly own items c);
  newer = λ d i e. subst (λ o. (fits_by true items o c ≡ true) ↔ (IsPlain d.act × IsPlain c.act × (total_weight items + change_weight c ≤ 33554432 + change_weight d))) (sym (item_some c.key items d one i e)) (fits_newer_exactly items c d);
  received = λ d i e. ap (λ o. fits_by false items o c) (item_some c.key items d one i e);
}

pub fits_exactly : FitsExactly
fits_exactly = fits_as

-- one behind a list is the last, or one of the list
pushed_in : (x c : Change) (cs : List Change) → IsIn x (cs ++ c ∷ []) → IsIn x cs ⊎ (x ≡ c)
pushed_in x c [] i = elim i [ inl e ↦ inr e | inr j ↦ absurd j ]
pushed_in x c (d ∷ ds) i = elim i [ inl e ↦ inl (inl e) | inr j ↦ elim (pushed_in x c ds j) [ inl k ↦ inl (inr k) | inr e ↦ inr e ] ]

stays_in_pushed : (x c : Change) (cs : List Change) → IsIn x cs → IsIn x (cs ++ c ∷ [])
stays_in_pushed x c [] i = absurd i
stays_in_pushed x c (d ∷ ds) i = elim i [ inl e ↦ inl e | inr j ↦ inr (stays_in_pushed x c ds j) ]

last_in : (c : Change) (cs : List Change) → IsIn c (cs ++ c ∷ [])
last_in c [] = inl refl
last_in c (d ∷ ds) = inr (last_in c ds)

not_true : (b : Bool) → not b ≡ true → b ≡ false
not_true true e = cc
not_true false e = refl

pub puts_exactly : PutsExactly
puts_exactly items c =
    let stays : Change → Bool = λ d. not (bytes_eq d.key c.key) in
    record {
      here = last_in c (filter stays items);
      only = λ x i e. elim (pushed_in x c (filter stays items) i) [
        | inl j ↦ absurd (other_key x.key c.key (not_true _ (in_filter stays x items j).1) e)
        | inr same ↦ same
      ];
      others = λ x other. (
        λ i. elim (pushed_in x c (filter stays items) i) [ inl j ↦ (in_filter stays x items j).0 | inr same ↦ absurd (other (ap (λ y. y.key) same)) ],
        λ i. stays_in_pushed x c (filter stays items) (kept_in_filter stays x items i (ap not (apart x.key c.key other))),
      );
      rises = λ low high r l. entered_rises low high c items r l;
    }

pub above_exactly : AboveExactly
above_exactly place items x = (
  λ i. let k = in_filter (λ c. nat_lt place c.seq) x items i in (k.0, ltb-true place x.seq k.1),
  λ h. kept_in_filter (λ c. nat_lt place c.seq) x items h.0 (lt-ltb place x.seq h.1),
)
