use Rattle.std.specs.Prelude.{◌≡◌, ◌∷◌}
use Rattle.transcript_law.proofs.Words.{ℕ, [], false, refl, inl, arith, Option, Some, None, first_doc}
use Rattle.transcript_law.proofs.rows.{AbortRows.{gives}, ChangeRows.{after_set, after_waiting, must_remove, must_resolve, none_beside, resolves_none, resolves_nothing}, CommitRows.{may}, NextRows.{above_one, none_stored, seven_next, write_next}}
use Rattle.transcript_law.specs.{ChangeRows.{own_change, prepares, stamped}, Commits.{prepare_of}}
use Rattle.vb_types.specs.declared.change.Act.TheVariants.{Abort, Commit, Remove, Set}
use Rattle.vb_types.specs.declared.change.Level.TheVariants.{Majority}
use Rattle.transcript_law.proofs.changes.judged_next_changes.Goals as goal

pub returns : goal.returns
returns c = record {
  next = after_set _ _ _ (Set (stamped 2 2)) 7 (λ prepared doc deleted e. cc, λ prepared e. cc) (λ level doc deleted e. cc) (seven_next (Set (stamped 2 2)) refl refl refl);
  gap = λ l. let e : 3 ≡ 2 = l.0.made.next in omega arith;
  beside = after_waiting (Set (stamped 2 1)) 7 (λ prepared doc deleted e. cc, λ prepared e. cc) (λ level doc deleted e. cc) (write_next (prepare_of Majority ∷ []) (own_change 2 7 (Set (stamped 2 1))) None refl none_beside (none_stored (7 ∷ [])) refl
      (λ n e. let q : 2 ≡ n = cc in above_one (prepare_of Majority) n (omega (arith, q)) (omega (arith, q))) (λ n e. cc) (λ e. cc));
  set = λ l. let e = must_resolve _ _ _ (Set (stamped 2 1)) l in cc;
  removed = λ l. let e = must_resolve _ _ _ (Remove 2 1) l in cc;
  prepared = λ l. let e = must_resolve _ _ _ (prepares 2 1 false) l in cc;
  over_removal = λ l. let e = must_remove (Set (stamped 3 2)) l in cc;
  commits = (may Majority _ _ (record { members = []; differ = tt; each = tt; most = omega arith; saved_for = λ w. absurd w }), tt);
  commits_other = λ l. let e : ◌≡◌ {A = Option ℕ} (Some 2) (Some 1) = must_resolve _ _ _ (Commit 2 (first_doc 1 (6 ∷ [])) false) l in let n : ◌≡◌ {A = ℕ} 2 1 = cc in omega arith;
  commits_none = λ l. let e = resolves_none (Commit 1 (first_doc 1 (6 ∷ [])) false) l in cc;
  aborts = gives (Some (0, 0)) 0 1000000 (record { asked = refl; before = 0; made = inl (refl, refl); up = inl (omega arith) });
  aborts_other = λ l. let e : ◌≡◌ {A = Option ℕ} (Some 2) (Some 1) = must_resolve _ _ _ (Abort 2) l in let n : ◌≡◌ {A = ℕ} 2 1 = cc in omega arith;
  aborts_none = λ l. let e = resolves_none (Abort 1) l in cc;
  aborts_set = λ l. let e = resolves_nothing (Abort 1) 7 l in cc;
}
