-- the laws of runs: what is seen of entries, and what is taken
use Rattle.std.proofs.Common.{◌≡◌, ◌≢◌, ℕ, ◌<◌, true, false, cond, eqb, List, [], ◌∷◌, ◌++◌, refl, ap, sym, ◌∙◌, arith, inl, inr}
use Rattle.std.specs.Prelude.{Option, Some, None, not}
use Rattle.std.proofs.lemmas.Bool.{eq-eqb, ne_eqb, eqb-true}
use Rattle.std.proofs.lemmas.List.Elements.{filter-append, filter_map-append}
use Rattle.vb_types.specs.declared.change.Change.{Change}
use Rattle.vb_types.specs.Histories.{Rises, IsIn}
use Rattle.branch_model.proofs.Lasts.{in_filter, kept_in_filter}
use Rattle.checkpoint.specs.Runs.{change_at, changes_there, lacking}
use Rattle.checkpoint.specs.Laws.{HasEntry, SeenExactly, TakesExactly}
use Rattle.checkpoint.proofs.Runs.{closed_length, closed_there}

seen_has : (c : Change) (es : List (ℕ × Option Change)) → IsIn c (changes_there es) → HasEntry c es
seen_has c [] i = i
seen_has c ((q, None) ∷ es) i = inr (seen_has c es i)
seen_has c ((q, Some d) ∷ es) i = elim i [ inl e ↦ inl (ap Some (sym e)) | inr j ↦ inr (seen_has c es j) ]

has_seen : (c : Change) (es : List (ℕ × Option Change)) → HasEntry c es → IsIn c (changes_there es)
has_seen c [] i = i
has_seen c ((q, None) ∷ es) i = elim i [ inl e ↦ absurd (cc) | inr j ↦ has_seen c es j ]
has_seen c ((q, Some d) ∷ es) i = elim i [ inl e ↦ let same : c ≡ d = cc in inl same | inr j ↦ inr (has_seen c es j) ]

pub seen_exactly : SeenExactly
seen_exactly es = record {
  seen = λ c. (seen_has c es, has_seen c es);
  hole = λ seq fs. filter_map-append (λ (e : ℕ × Option Change). e.1) es ((seq, None) ∷ fs);
  change = λ seq c fs. filter_map-append (λ (e : ℕ × Option Change). e.1) es ((seq, Some c) ∷ fs);
  closed = closed_there es;
  full = closed_length es;
}

at_in : (seq : ℕ) (cs : List Change) (c : Change) → change_at seq cs ≡ Some c → IsIn c cs × (c.seq ≡ seq)
at_in seq [] c e = absurd (cc)
at_in seq (d ∷ ds) c e = elim (eqb d.seq seq) as (λ v. eqb d.seq seq ≡ v → cond v (Some d) (change_at seq ds) ≡ Some c → IsIn c (d ∷ ds) × (c.seq ≡ seq)) [
  | true ↦ λ t s. let same : c ≡ d = cc in (inl same, ap (λ x. x.seq) same ∙ eqb-true d.seq seq t)
  | false ↦ λ t s. let k = at_in seq ds c s in (inr k.0, k.1)
] refl e

in_above : (low high : ℕ) (cs : List Change) (c : Change) → Rises low high cs → IsIn c cs → low < c.seq
in_above low high [] c r i = absurd i
in_above low high (d ∷ ds) c r i =
    let l : low < d.seq = r.0 in
    elim i [
      | inl same ↦ let e : c.seq ≡ d.seq = ap (λ x. x.seq) same in omega arith
      | inr j ↦ let k = in_above d.seq high ds c r.1 j in omega arith
    ]

in_at : (seq low high : ℕ) (cs : List Change) (c : Change) → Rises low high cs → IsIn c cs → c.seq ≡ seq → change_at seq cs ≡ Some c
in_at seq low high [] c r i e = absurd i
in_at seq low high (d ∷ ds) c r i e = elim i [
  | inl same ↦ ap (λ b. cond b (Some d) (change_at seq ds)) (eq-eqb d.seq seq (sym (ap (λ x. x.seq) same) ∙ e)) ∙ ap Some (sym same)
  | inr j ↦
      let k = in_above d.seq high ds c r.1 j in
      ap (λ b. cond b (Some d) (change_at seq ds)) (ne_eqb d.seq seq (λ s. omega arith)) ∙ in_at seq d.seq high ds c r.1 j e
]

not_equal : (a b : ℕ) → not (eqb a b) ≡ true → a ≢ b
not_equal a b h same = let k = eq-eqb a b same in cc

pub takes_exactly : TakesExactly
takes_exactly seq low high cs r = record {
  taken = λ c. (at_in seq cs c, λ h. in_at seq low high cs c r h.0 h.1);
  left = λ c. (
    λ i. let k = in_filter (λ d. not (eqb d.seq seq)) c cs i in (k.0, not_equal c.seq seq k.1),
    λ h. kept_in_filter (λ d. not (eqb d.seq seq)) c cs h.0 (ap not (ne_eqb c.seq seq h.1)),
  );
  either = λ c other. filter-append (λ d. not (eqb d.seq seq)) cs (c ∷ []) ∙ ap (λ b. lacking seq cs ++ cond (not b) (c ∷ []) []) (ne_eqb c.seq seq other);
}
