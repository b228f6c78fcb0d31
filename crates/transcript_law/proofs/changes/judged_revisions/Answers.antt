use Rattle.std.specs.Prelude.{◌≡◌, ◌+◌}
use Rattle.transcript_law.proofs.Words.{true, false, refl, arith, Some}
use Rattle.transcript_law.proofs.rows.{ChangeRows.{after_greatest, after_removed, after_set, full, greatest_next, rev_of_greatest, rev_of_nine, rev_of_removed, rev_of_seven, takes_again, takes_none}, NextRows.{nine_next, seven_next, seven_there}, PrepareRows.{nine_asked, removal_asked, seven_asked}}
use Rattle.transcript_law.specs.ChangeRows.{greatest, prepares, stamped}
use Rattle.vb_types.specs.declared.change.Act.TheVariants.{Remove, Set}
use Rattle.transcript_law.proofs.changes.judged_revisions.Goals as goal

pub returns : goal.returns
returns c = record {
  prepare = after_set _ _ _ (prepares 2 2 false) 7 (λ prepared doc deleted e. cc, λ prepared e. cc) seven_asked (seven_next (prepares 2 2 false) refl refl refl);
  same = λ l. let e : 1 ≡ 2 = rev_of_seven _ _ _ (Set (stamped 2 1)) 1 refl l in omega arith;
  jumps = λ l. let e : 3 ≡ 2 = rev_of_seven _ _ _ (Set (stamped 2 3)) 3 refl l in omega arith;
  removal_jumps = λ l. let e : 3 ≡ 2 = rev_of_seven _ _ _ (Remove 2 3) 3 refl l in omega arith;
  prepare_jumps = λ l. let e : 3 ≡ 2 = rev_of_seven _ _ _ (prepares 2 3 false) 3 refl l in omega arith;
  removal_prepare_jumps = λ l. let e : 3 ≡ 2 = rev_of_seven _ _ _ (prepares 2 3 true) 3 refl l in omega arith;
  first = after_set _ _ _ (prepares 2 1 false) 9 (λ prepared doc deleted e. cc, λ prepared e. cc) nine_asked (nine_next (prepares 2 1 false) 2 (omega arith) (omega arith) refl refl refl refl);
  other_first = λ l. let e : 2 ≡ 1 = rev_of_nine (Set (stamped 2 2)) 2 refl l in omega arith;
  anew = after_removed;
  goes_on = λ l. let e : 3 ≡ 1 = rev_of_removed (Set (stamped 3 3)) 3 refl l in omega arith;
  greatest = after_greatest (Set (stamped greatest greatest)) 7 (λ prepared doc deleted e. cc, λ prepared e. cc) (λ level doc deleted e. cc) (greatest_next 7 greatest (Some full) (seven_there full) refl);
  above_greatest = λ l. let e : greatest + 1 ≡ greatest = rev_of_greatest (Set (stamped greatest (greatest + 1))) (greatest + 1) refl l in omega arith;
  removes = after_set _ _ _ (Remove 2 2) 7 (λ prepared doc deleted e. cc, λ prepared e. cc) (λ level doc deleted e. cc) (seven_next (Remove 2 2) refl refl refl);
  removes_none = λ l. takes_none _ _ _ (Remove 2 1) refl l;
  removes_again = λ l. takes_again (Remove 3 1) refl l;
  prepares_removal = after_set _ _ _ (prepares 2 2 true) 7 (λ prepared doc deleted e. cc, λ prepared e. cc) removal_asked (seven_next (prepares 2 2 true) refl refl refl);
  prepares_none = λ l. takes_none _ _ _ (prepares 2 1 true) refl l;
}
