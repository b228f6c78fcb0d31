-- commits, judged by hand
use Rattle.std.specs.Prelude.{◌≡◌, ◌+◌, ◌*◌, ◌<◌, ◌∷◌}
use Rattle.transcript_law.proofs.Words.{ℕ, Bool, false, List, [], length, refl, sym, ◌∙◌, subst, inl, arith, Some, Act, Doc, Pend, LawfulChange, image_of}
use Rattle.durability.specs.{Chains.{named}, Laws.{Differ, Each, HasOne}}
use Rattle.std.specs.FinMap.{get}
use Rattle.transcript_law.specs.{Chronicles.{CountsKnown, DiskKnown}, Commits.{prepare_of, prepared_known, risen_again, risen_anew, started_anew, the_commit}, Majorities.{HasAcknowledged, IsHeldByMost}, OwnChanges.{IsNextChange}, Transcripts.{first_doc}}
use Rattle.{transcript_law.proofs.rows.NextRows.{resolving_next}, vb_types.proofs.Laws.{get-insert_same}}
use Rattle.vb_types.specs.Images.{nothing}
use Rattle.vb_types.specs.declared.change.Level.{Level}
use Rattle.vb_types.specs.declared.change.Level.TheVariants.{Majority}

-- the prepare that waits
abbrev pub waits : Level → Pend
waits how = record { seq = 1; level = how; doc = first_doc 1 (6 ∷ []); deleted = false }

pub waits_there : (how : Level) → get (image_of (prepare_of how ∷ [])).pending (9 ∷ []) ≡ Some (waits how)
waits_there how = get-insert_same nothing.pending (9 ∷ []) (waits how)

named_so : (how : Level) (number : ℕ) (doc : Doc) (deleted : Bool) → the_commit.act ≡ Act.Commit number doc deleted → ((waits how).seq ≡ number) × ((waits how).doc ≡ doc) × ((waits how).deleted ≡ deleted)
named_so how number doc deleted e = (cc, cc, cc)

commit_next : (how : Level) → IsNextChange (prepare_of how ∷ []) the_commit
commit_next how = resolving_next (prepare_of how ∷ []) the_commit (waits how) refl (waits_there how) refl refl refl refl

-- it may be committed where a majority holds it, and only there
pub may : (how : Level) (f : ℕ → ℕ → CountsKnown) (d : ℕ → ℕ → DiskKnown) → IsHeldByMost (f 0 0) (d 0 0).saved 1 how → LawfulChange (record (prepared_known how) { counts_at = f; disk_at = d }) 0 0 5 the_commit
may how f d held = record {
  active = refl;
  writer = record { made_or_took = refl; on_branch = refl };
  above_branch = omega arith;
  above_forks = (λ e. omega arith, tt);
  made = commit_next how;
  fulfils = λ number doc deleted e. let t = named_so how number doc deleted e in (waits how, waits_there how, t.0, t.1, t.2);
  backed = λ number doc deleted e p there.
      let found : Some (waits how) ≡ Some p = sym (waits_there how) ∙ there in let same : waits how ≡ p = cc in subst (λ (q : Pend). IsHeldByMost (f 0 0) (d 0 0).saved q.seq q.level) same held;
  asked = λ level doc deleted e. cc;
  aborts = λ prepared e. cc;
}

pub must : (how : Level) (f : ℕ → ℕ → CountsKnown) (d : ℕ → ℕ → DiskKnown) → LawfulChange (record (prepared_known how) { counts_at = f; disk_at = d }) 0 0 5 the_commit → IsHeldByMost (f 0 0) (d 0 0).saved 1 how
must how f d l = l.backed 1 (first_doc 1 (6 ∷ [])) false refl (waits how) (waits_there how)

-- more than one is more than half of a chain of two
pub one_at_least : {counts : CountsKnown} {saved p : ℕ} {how : Level} → IsHeldByMost counts saved p how → 0 < length counts.chain → (m : ℕ) × HasOne m (named counts.chain) × HasAcknowledged counts.acks m p
one_at_least {counts = counts} {p = p} h some = by h.members h.each h.most
  where
    by : (ms : List ℕ) → Each (λ m. HasOne m (named counts.chain) × HasAcknowledged counts.acks m p) ms → 1 + length counts.chain < 2 * (1 + length ms) → (m : ℕ) × HasOne m (named counts.chain) × HasAcknowledged counts.acks m p
    by [] each most = absurd (omega (arith, some))
    by (m ∷ more) each most = (m, each.0.0, each.0.1)

-- and more than two are more than half of one of three others
pub two_at_least : {counts : CountsKnown} {saved p : ℕ} {how : Level} → IsHeldByMost counts saved p how → 2 < length counts.chain
    → (m k : ℕ) × (k ≡ m → ⊥) × HasAcknowledged counts.acks m p × HasAcknowledged counts.acks k p
two_at_least {counts = counts} {p = p} h some = by h.members h.differ h.each h.most
  where
    by : (ms : List ℕ) → Differ ms → Each (λ m. HasOne m (named counts.chain) × HasAcknowledged counts.acks m p) ms → 1 + length counts.chain < 2 * (1 + length ms) → (m k : ℕ) × (k ≡ m → ⊥) × HasAcknowledged counts.acks m p × HasAcknowledged counts.acks k p
    by [] differ each most = absurd (omega (arith, some))
    by (m ∷ []) differ each most = absurd (omega (arith, some))
    by (m ∷ k ∷ more) differ each most = (m, k, (λ e. differ.0 (inl (sym e))), each.0.1, each.1.0.1)

-- the same on the branch that it rose to
pub anew_lawful : (f : ℕ → ℕ → CountsKnown) (d : ℕ → ℕ → DiskKnown) → IsHeldByMost (f 0 0) (d 0 0).saved 1 Majority → LawfulChange (record risen_anew { counts_at = f; disk_at = d }) 0 0 7 the_commit
anew_lawful f d held = record {
  active = refl;
  writer = record { made_or_took = refl; on_branch = refl };
  above_branch = omega arith;
  above_forks = (λ e. omega arith, (λ e. omega arith, tt));
  made = (may Majority f d held).made;
  fulfils = (may Majority f d held).fulfils;
  backed = (may Majority f d held).backed;
  asked = λ level doc deleted e. cc;
  aborts = λ prepared e. cc;
}

pub anew_held : (f : ℕ → ℕ → CountsKnown) (d : ℕ → ℕ → DiskKnown) → LawfulChange (record risen_anew { counts_at = f; disk_at = d }) 0 0 7 the_commit → IsHeldByMost (f 0 0) (d 0 0).saved 1 Majority
anew_held f d l = l.backed 1 (first_doc 1 (6 ∷ [])) false refl (waits Majority) (waits_there Majority)

-- and the same on the branch on which it was dead and active again
pub again_lawful : (f : ℕ → ℕ → CountsKnown) (d : ℕ → ℕ → DiskKnown) → IsHeldByMost (f 0 0) (d 0 0).saved 1 Majority → LawfulChange (record (risen_again []) { counts_at = f; disk_at = d }) 0 0 5 the_commit
again_lawful f d held = record {
  active = refl;
  writer = record { made_or_took = refl; on_branch = refl };
  above_branch = omega arith;
  above_forks = (λ e. omega arith, tt);
  made = (may Majority f d held).made;
  fulfils = (may Majority f d held).fulfils;
  backed = (may Majority f d held).backed;
  asked = λ level doc deleted e. cc;
  aborts = λ prepared e. cc;
}

pub again_held : (f : ℕ → ℕ → CountsKnown) (d : ℕ → ℕ → DiskKnown) → LawfulChange (record (risen_again []) { counts_at = f; disk_at = d }) 0 0 5 the_commit → IsHeldByMost (f 0 0) (d 0 0).saved 1 Majority
again_held f d l = l.backed 1 (first_doc 1 (6 ∷ [])) false refl (waits Majority) (waits_there Majority)

pub started_held : (f : ℕ → ℕ → CountsKnown) (d : ℕ → ℕ → DiskKnown) → LawfulChange (record started_anew { counts_at = f; disk_at = d }) 0 0 7 the_commit → IsHeldByMost (f 0 0) (d 0 0).saved 1 Majority
started_held f d l = l.backed 1 (first_doc 1 (6 ∷ [])) false refl (waits Majority) (waits_there Majority)
