-- aborts of prepares, judged by hand
use Rattle.std.specs.Prelude.{◌≡◌, ◌⊎◌, ◌+◌, ◌-◌, ◌≤◌, ◌^◌, ◌∷◌}
use Rattle.transcript_law.proofs.Words.{ℕ, [], refl, ap, sym, subst, inl, inr, ⊎_elim, arith, Option, Some, None, LawfulFrom}
use Rattle.script_text.specs.declared.verb.VbVerb.TheVariants as vb_verb
use Rattle.script_text.specs.declared.verb.Verb.TheVariants as verb
use Rattle.transcript_law.proofs.rows.ChangeRows.{abort_next}
use Rattle.transcript_law.specs.BoundRows.{LawfulHere}
use Rattle.transcript_law.specs.ChangeRows.{Aborts, AbortsBehind, abort_lines, given_known, gives_up, waiting_known}
use Rattle.transcript_law.specs.Chronicles.{alone}
use Rattle.transcript_law.specs.Crashes.{ok}
use Rattle.transcript_law.specs.Lawfulness.{IsGivenUp, IsMadeAt}
use Rattle.transcript_law.proofs.verbs.Handing.{hands_plain}

-- ---- where it has to be given up

pub gives : (ticks : Option (ℕ × ℕ)) (before clock : ℕ) → IsGivenUp (given_known ticks before clock) 0 0 1 → Aborts ticks before clock
gives ticks before clock given = (
  record {
    active = refl;
    writer = record { made_or_took = refl; on_branch = refl };
    above_branch = omega arith;
    above_forks = (λ e. omega arith, tt);
    made = abort_next;
    fulfils = λ prepared doc deleted e. cc;
    backed = λ prepared doc deleted e. cc;
    asked = λ level doc deleted e. cc;
    aborts = λ prepared e. let q : 1 ≡ prepared = cc in subst (IsGivenUp (given_known ticks before clock) 0 0) q given;
  },
  tt,
)

-- when it was made is told
made_then : (before other : ℕ) → IsMadeAt 1 other ((1, before) ∷ []) → other ≡ before
made_then before other m = ⊎_elim (λ x. x.1) (λ none. absurd none) m

too_early : (before clock : ℕ) (given : IsGivenUp (given_known (Some (0, 0)) before clock) 0 0 1) → (before + 1000000 ≤ clock) ⊎ (clock ≡ 2 ^ 64 - 1)
too_early before clock given = subst (λ t. (t + 1000000 ≤ clock) ⊎ (clock ≡ 2 ^ 64 - 1)) (made_then before given.before given.made) given.up

-- ---- transcripts

pub up : Aborts (Some (0, 0)) 5 1000005
up = gives (Some (0, 0)) 5 1000005 (record { asked = refl; before = 5; made = inl (refl, refl); up = inl (omega arith) })

pub early : Aborts (Some (0, 0)) 5 1000004 → ⊥
early l = ⊎_elim (λ far. omega (arith, far)) (λ last. omega (arith, last)) (too_early 5 1000004 (l.0.aborts 1 refl))

pub at_once : Aborts (Some (0, 0)) 5 5 → ⊥
at_once l = ⊎_elim (λ far. omega (arith, far)) (λ last. omega (arith, last)) (too_early 5 5 (l.0.aborts 1 refl))

pub last : Aborts (Some (0, 0)) (2 ^ 64 - 2) (2 ^ 64 - 1)
last = gives (Some (0, 0)) (2 ^ 64 - 2) (2 ^ 64 - 1) (record { asked = refl; before = 2 ^ 64 - 2; made = inl (refl, refl); up = inr refl })

pub before_last : Aborts (Some (0, 0)) (2 ^ 64 - 3) (2 ^ 64 - 2) → ⊥
before_last l = ⊎_elim (λ far. omega (arith, far)) (λ last. omega (arith, last)) (too_early (2 ^ 64 - 3) (2 ^ 64 - 2) (l.0.aborts 1 refl))

pub unasked : Aborts None 5 1000005 → ⊥
unasked l = let e : ◌≡◌ {A = Option (ℕ × ℕ)} None (Some (0, 0)) = (l.0.aborts 1 refl).asked in cc

-- a line of one vBucket is none of another
another : (n v : ℕ) → ◌≡◌ {A = Option (ℕ × ℕ)} (Some (n, v)) (Some (0, 0)) → (n ≡ 0) × (v ≡ 0)
another n v e = let pair : ◌≡◌ {A = ℕ × ℕ} (n, v) (0, 0) = cc in (ap (λ (p : ℕ × ℕ). p.0) pair, ap (λ (p : ℕ × ℕ). p.1) pair)

pub other_vb : Aborts (Some (0, 1)) 5 1000005 → ⊥
other_vb l = let e : ◌≡◌ {A = ℕ} 1 0 = (another 0 1 (l.0.aborts 1 refl).asked).1 in omega (arith, e)

pub other_node : Aborts (Some (1, 0)) 5 1000005 → ⊥
other_node l = let e : ◌≡◌ {A = ℕ} 1 0 = (another 1 0 (l.0.aborts 1 refl).asked).0 in omega (arith, e)

pub unmade : LawfulFrom (record (given_known (Some (0, 0)) 5 1000005) { counts_at = λ n v. alone 0 }) abort_lines → ⊥
unmade l = (l.0.aborts 1 refl).made

-- in whole groups
a_millisecond : 0 + 1000000 ≤ 1000000
a_millisecond = omega arith

pub behind : AbortsBehind 0 1000000 0
behind = (
  (tt, tt, refl, refl, λ w no standing. cc, hands_plain _ _ _ _ refl refl, tt, tt, λ n c there. cc, tt, tt, (tt, tt)),
  (
    (
      (
        record {
          active = refl;
          writer = record { made_or_took = refl; on_branch = refl };
          above_branch = omega arith;
          above_forks = (λ e. omega arith, tt);
          made = abort_next;
          fulfils = λ prepared doc deleted e. cc;
          backed = λ prepared doc deleted e. cc;
          asked = λ level doc deleted e. cc;
          aborts = λ prepared e. let q : 1 ≡ prepared = cc in record { asked = refl; before = 0; made = inl (sym q, refl); up = inl a_millisecond };
        },
        tt,
      ),
      tt,
      refl,
      refl,
      λ w no standing. cc,
      hands_plain _ _ _ _ refl refl,
      tt,
      tt,
      λ n c there. cc,
      (λ own. cc, tt),
      tt,
      (tt, tt),
    ),
    tt,
  ),
)

pub behind_early : AbortsBehind 0 999999 0 → ⊥
behind_early l = let given = l.1.0.0.0.aborts 1 refl in ⊎_elim (λ far. let then = made_then 0 given.before given.made in omega (arith, far, then)) (λ last. omega (arith, last)) given.up

pub behind_other : AbortsBehind 1 1000000 0 → ⊥
behind_other l = let given = l.1.0.0.0.aborts 1 refl in ⊎_elim (λ far. omega (arith, far)) (λ last. omega (arith, last)) given.up

pub tick_other : AbortsBehind 0 1000000 1 → ⊥
tick_other l = let e : ◌≡◌ {A = ℕ} 1 0 = (another 0 1 (l.1.0.0.0.aborts 1 refl).asked).1 in omega (arith, e)

pub without_clock : LawfulHere waiting_known (gives_up 0) (ok abort_lines) → ⊥
without_clock l = let given = l.0.0.0.aborts 1 refl in ⊎_elim (λ far. omega (arith, far)) (λ last. omega (arith, last)) given.up

pub chained : LawfulHere (record waiting_known { clock_at = λ n. 1000000 }) (verb.AtVb 0 0 (vb_verb.Chain [])) (ok abort_lines) → ⊥
chained l = let e : ◌≡◌ {A = Option (ℕ × ℕ)} None (Some (0, 0)) = (l.0.0.0.aborts 1 refl).asked in cc
