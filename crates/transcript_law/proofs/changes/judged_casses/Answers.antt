use Rattle.std.specs.Prelude.{◌+◌, ◌^◌, ◌<◌, ◌∷◌}
use Rattle.transcript_law.proofs.Words.{[], refl, inl, inr, arith, None, one_change}
use Rattle.transcript_law.proofs.rows.{ChangeRows.{after_greatest, after_set, full, greatest_next, is_above, removed_held}, NextRows.{nine_next, nine_none, seven}}
use Rattle.transcript_law.specs.{ChangeRows.{greatest, own_change, stamped}, Commits.{prepare_of}}
use Rattle.vb_types.specs.declared.change.Act.TheVariants.{Abort, Remove, Set}
use Rattle.vb_types.specs.declared.change.Level.TheVariants.{Majority}
use Rattle.transcript_law.proofs.changes.judged_casses.Goals as goal

pub returns : goal.returns
returns c = record {
  above = after_set _ _ _ (Set (stamped 2 1)) 9 (λ prepared doc deleted e. cc, λ prepared e. cc) (λ level doc deleted e. cc) (nine_next (Set (stamped 2 1)) 2 (omega arith) (omega arith) refl refl refl refl);
  far_above = after_set _ _ _ (Set (stamped 5 1)) 9 (λ prepared doc deleted e. cc, λ prepared e. cc) (λ level doc deleted e. cc) (nine_next (Set (stamped 5 1)) 5 (omega arith) (omega arith) refl refl refl refl);
  same = λ l. let e : 1 < 1 = is_above (one_change ∷ []) one_change 1 (inl refl) (l.0.made.cas 1 refl) (omega arith) in omega arith;
  falls = λ l. let e : 1 < 0 = is_above (one_change ∷ []) one_change 0 (inl refl) (l.0.made.cas 0 refl) (omega arith) in omega arith;
  elsewhere = λ l. let e : 1 < 1 = is_above (one_change ∷ []) one_change 1 (inl refl) (l.0.made.cas 1 refl) (omega arith) in omega arith;
  waiting = λ l. let e : 1 < 1 = is_above (prepare_of Majority ∷ []) (prepare_of Majority) 1 (inl refl) (l.0.made.cas 1 refl) (omega arith) in omega arith;
  removal = λ l. let e : 1 < 1 = is_above (one_change ∷ []) one_change 1 (inl refl) (l.0.made.cas 1 refl) (omega arith) in omega arith;
  prepare = λ l. let e : 1 < 1 = is_above (one_change ∷ []) one_change 1 (inl refl) (l.0.made.cas 1 refl) (omega arith) in omega arith;
  prepare_removal = λ l. let e : 1 < 1 = is_above (one_change ∷ []) one_change 1 (inl refl) (l.0.made.cas 1 refl) (omega arith) in omega arith;
  behind_abort = λ l. let e : 1 < 1 = is_above (prepare_of Majority ∷ own_change 2 9 (Abort 1) ∷ []) (prepare_of Majority) 1 (inl refl) (l.0.made.cas 1 refl) (omega arith) in omega arith;
  removed = λ l. let e : 2 < 2 = is_above removed_held (own_change 2 7 (Remove 2 2)) 2 (inr (inl refl)) (l.0.made.cas 2 refl) (omega arith) in omega arith;
  greatest = after_greatest (Set (stamped greatest 1)) 9 (λ prepared doc deleted e. cc, λ prepared e. cc) (λ level doc deleted e. cc) (greatest_next 9 1 None (nine_none full) refl);
  too_great = λ l. let e : greatest + 1 < 2 ^ 64 = (l.0.made.cas (greatest + 1) refl).0 in omega arith;
  below_greatest = λ l. let e : greatest < 2 = is_above (seven full ∷ []) (seven full) 2 (inl refl) (l.0.made.cas 2 refl) (omega arith) in omega arith;
}
