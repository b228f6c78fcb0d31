use Rattle.std.specs.Prelude.{◌≡◌, ◌<◌, ◌≤◌, ◌∷◌}
use Rattle.durability.specs.Laws.{HasOne}
use Rattle.transcript_law.proofs.Words.{Bool, true, false, ℕ, [], inl, refl, ap, sym, ◌∙◌, subst, ⊎_elim, arith, Option, Some, None, Granted, Role, is_follower}
use Rattle.transcript_law.proofs.{links.Acknowledging.{acked_is_lawful}, rows.AckRows.{branch_in, counted, lacks_first, number_in, unmade, whole, wrote_in}, rows.Contrary.{below_waits, no_third, third, third_waits}, invariant.Waiting.{pends_above}}
use Rattle.transcript_law.specs.{Chronicles.{Dial}, Contrary.{inside_got, second_held, third_held, third_saved}}
use Rattle.branch_model.proofs.Lists.{last_in}
use Rattle.branch_model.specs.Snapshots.{Follows}
use Rattle.transcript_law.proofs.{rows.Followers.{changes, one_of}, Words.{Change, image_of, one_change}}
use Rattle.transcript_law.specs.Contrary.{prepared_at}
use Rattle.transcript_law.proofs.judged.judged_acknowledgements.Goals as goal
use Rattle.vb_types.specs.Histories.{touches}
use Rattle.vb_types.specs.declared.change.Level.{Level}

-- the node that dialed
abbrev node_in : Option Dial → ℕ
node_in None = 0
node_in (Some dial) = dial.node

-- a stream's end was put
abbrev over_in : Option Granted → Bool
over_in None = false
over_in (Some g) = g.over

-- a replica follows
follows : (said : Role) → ◌≡◌ {A = Option (Option Role)} (Some (Some Role.Replica)) (Some (Some said)) → is_follower said ≡ true
follows Role.Replica e = refl
follows Role.Pending e = refl
follows Role.Active e = cc
follows Role.Dead e = cc

-- it holds what its branch has, the first change, or one prepare
one_followed : Follows changes (record { ss = 0; se = 2; at = 1 }) (one_change ∷ []) (image_of (one_change ∷ []))
one_followed = record {
  image_is = refl;
  rises = (omega arith, omega arith);
  within = omega arith;
  of = λ x i. (x, ⊎_elim (λ e. inl e) (λ k. absurd k) i, inl refl);
  has = λ s c e a b. ⊎_elim (λ one. (c, inl one, inl refl)) (λ next. let n : c.seq ≡ 2 = ap (λ (x : Change). x.seq) next in absurd (omega (arith, b))) (one_of c (last_in (touches s) changes c e).0);
}

all_followed : (how : Level) → Follows (prepared_at how ∷ []) (record { ss = 0; se = 2; at = 2 }) (prepared_at how ∷ []) (image_of (prepared_at how ∷ []))
all_followed how = record { image_is = refl; rises = (omega arith, omega arith); within = omega arith; of = λ x i. (x, i, inl refl); has = λ s c e a b. (c, (last_in (touches s) (prepared_at how ∷ []) c e).0, inl refl) }

pub returns : goal.returns
returns c = record {
  whole = whole;
  above = λ l. let few : 3 ≤ 2 = l.0.held in absurd (omega arith);
  before = (acked_is_lawful inside_got 1 0 1 0 0 0 _ (record { at = 1; ss = 0; se = 2 }) (inside_got.held 1 0) refl refl refl follows refl refl refl (omega arith) (omega arith) refl (λ key e is third low. low) one_followed, tt);
  inside = λ l. let few : 1 ≤ 0 = l.0.complete 0 2 refl (omega arith) in absurd (omega arith);
  strange = λ l. let e = l.0.fed.1.1 in absurd cc;
  elsewhere = λ l. let same : ◌≡◌ {A = ℕ} 2 1 = ap node_in l.0.fed.1.1 in absurd (omega (arith, same));
  ungranted = λ l. let e = l.0.fed.1.2 in absurd cc;
  saved = (acked_is_lawful third_saved 1 0 1 2 2 0 _ (record { at = 2; ss = 0; se = 2 }) (third_held.held 1 0) refl refl refl unmade refl refl refl (omega arith) (omega arith) refl (λ key e is third low. low) (all_followed _), tt);
  missaid = λ l. let same : 3 ≡ 2 = l.0.saved_as_known in absurd (omega (arith, same));
  astray = λ l. let same : ◌≡◌ {A = ℕ} 9 5 = ap number_in l.0.fed.1.3 ∙ sym (ap branch_in l.0.fed.1.2) in absurd (omega (arith, same));
  lost = λ l. lacks_first l.0.fed.0 l.0.fed.1.2 (l.0.follows 0 2 refl);
  unsaved_below = λ l. let few : 2 ≤ 0 = l.0.thirds (7 ∷ []) third below_waits refl (omega arith) in absurd (omega arith);
  below_the_unsaved = (
    acked_is_lawful third_held 1 0 1 1 0 0 _ (record { at = 2; ss = 0; se = 2 }) (third_held.held 1 0) refl refl refl unmade refl refl refl (omega arith) (omega arith) refl
        (λ key e is third low. let up : 1 < e.seq = pends_above 1 2 (third_held.held 1 0) key e (omega arith, omega arith) is in absurd (omega arith)) (all_followed _),
    tt,
  );
  second = (acked_is_lawful second_held 1 0 1 2 0 0 _ (record { at = 2; ss = 0; se = 2 }) (second_held.held 1 0) refl refl refl unmade refl refl refl (omega arith) (omega arith) refl (λ key e is third low. absurd (no_third key e is third)) (all_followed _), tt);
  unsaved = λ l. let few : 2 ≤ 0 = l.0.thirds (7 ∷ []) third third_waits refl (omega arith) in absurd (omega arith);
  counted = counted;
  unwritten = λ l. let (g, told, live, wrote, on) = l.0.granted in subst (HasOne 2) (sym (ap wrote_in told)) wrote;
  number = λ l. let (g, told, live, wrote, on) = l.1.0.granted in ⊎_elim (λ (same : ◌≡◌ {A = ℕ} 1 2). absurd (omega (arith, same))) (λ none. none) (subst (HasOne 1) (sym (ap wrote_in told)) wrote);
  member = λ l. let same : ◌≡◌ {A = ℕ} 1 2 = ap node_in l.1.0.dialed in absurd (omega (arith, same));
  itself = λ l. l.0.another refl;
  redialed = λ l. let (g, told, live, wrote, on) = l.0.granted in absurd cc;
  granted_anew = λ l. let (g, told, live, wrote, on) = l.0.granted in subst (HasOne 2) (sym (ap wrote_in told)) wrote;
  more = λ l. let few : 3 ≤ 2 = l.0.held in absurd (omega arith);
  over = λ l. let (g, told, live, wrote, on) = l.1.1.0.granted in let z : true ≡ false = ap over_in told ∙ live in absurd cc;
  dead = λ l. let e = l.1.0.active in absurd cc;
  branched = λ l. let (g, told, live, wrote, on) = l.1.1.0.granted in let same : ◌≡◌ {A = ℕ} 7 5 = ap number_in on ∙ sym (ap branch_in told) in absurd (omega (arith, same));
}
