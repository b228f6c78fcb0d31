-- what is told under one key after the other
use Rattle.std.proofs.Common.{◌≡◌, refl, ℕ, ◌==◌, if◌then◌else◌, ◌+◌, ◌<◌, ◌≤◌, length, List, Option, None, inl, inr, ap, sym, ◌∙◌, arith}
use Rattle.std.proofs.lemmas.List.{get_or_past}
use Rattle.std.proofs.lemmas.Bool.{cases_eq, cases_lt, eq-eqb, ne_eqb}
use Rattle.std.specs.Option.{option_map}
use Rattle.slab.specs.Slab.{Slab, get, Updates}
use Rattle.node_core.specs.Outcomes.{value_at, Renumbered}

module _ {T : Type 0} (f : T → T) where
  -- below this key each value is told, and from it on all are as they were
  pub record ToldBelow (old now : Slab T) (key : ℕ) : Type 0 where
    pub told : (k : ℕ) → k < key → get now k ≡ option_map f (get old k)
    pub rest : (k : ℕ) → key ≤ k → get now k ≡ get old k

  -- nothing is told yet
  pub told_none : (old : Slab T) → ToldBelow old old 0
  told_none old = record { told = λ k below. absurd (omega (arith, below)); rest = λ k above. refl }

  -- one more key
  pub told_more : (old now next : Slab T) (key : ℕ) → ToldBelow old now key → Updates now next key (option_map f (get now key)) → ToldBelow old next (key + 1)
  told_more old now next key before step = record {
    told = λ k below. elim (cases_eq k key) [
      | inl same ↦ ap (get next) same ∙ step.changed ∙ ap (option_map f) (before.rest key (omega arith) ∙ ap (get old) (sym same))
      | inr differs ↦ step.others k differs ∙ before.told k (omega (arith, below, differs))
    ];
    rest = λ k above. step.others k (omega (arith, above)) ∙ before.rest k (omega (arith, above));
  }

  -- all keys are told, since a slab has no value beyond its slots
  pub told_all : (old now : Slab T) (key : ℕ) → length old.slots ≤ key → ToldBelow old now key → (k : ℕ) → get now k ≡ option_map f (get old k)
  told_all old now key whole before k =
      elim (cases_lt k key) [
        | inl below ↦ before.told k below
        | inr above ↦
            let none : get old k ≡ None = get_or_past old.slots k None (omega (arith, whole, above)) in
            before.rest k above ∙ none ∙ sym (ap (option_map f) none)
      ]

-- a key that is set twice has what it was set to last
pub updates_again : {T : Type 0} (old mid new : Slab T) (key : ℕ) (first last : Option T) → Updates old mid key first → Updates mid new key last → Updates old new key last
updates_again old mid new key first last before after = record {
  changed = after.changed;
  others = λ other differs. after.others other differs ∙ before.others other differs;
}

-- a number that is set twice has what it was set to last
pub renumbered_again : {T : Type 0} (old mid new : List (ℕ × T)) (number : ℕ) (first last : Option T) → Renumbered old mid number first → Renumbered mid new number last → Renumbered old new number last
renumbered_again old mid new number first last before after = record {
  changed = after.changed;
  others = λ other differs. after.others other differs ∙ before.others other differs;
}

-- a number that lost its value, and no other
pub let_go : {T : Type 0} (old new : List (ℕ × T)) (number : ℕ) → Renumbered old new number None → (other : ℕ) → value_at new other ≡ (if other == number then None else value_at old other)
let_go old new number gone other =
    elim (cases_eq other number) [
      | inl same ↦ rw (eq-eqb other number same) (ap (value_at new) same ∙ gone.changed)
      | inr differs ↦ rw (ne_eqb other number differs) (gone.others other differs)
    ]
