-- other vBuckets, after a branch was made
use Rattle.std.specs.Prelude.{◌≡◌, ◌∷◌, ◌==◌}
use Rattle.transcript_law.proofs.Words.{ℕ, last_seq, Bool, true, false, refl, ap, sym, ◌∙◌, subst, Option, Some, None, All, eqb-true, eqb-false, option_map, upto, is_one_of, Branch, branch, hist, hist_there, with_entry, Cluster, Plain, PlainWorld, Chronicle, List}
use Rattle.transcript_law.proofs.Words.{parent_branch, changes_between, after_branch, known_history}
use Rattle.transcript_law.proofs.invariant.Agreement.{AgreesAt, AgreesIn, BranchAgrees, ChangeFits, WritesIf, idle, own_history, vb_contents, vb_row}
use Rattle.transcript_law.proofs.{invariant.Seats.{seat}, invariant.Tables.{at_there, id_there}, invariant.Trees.{IsTold, is_told_there, new_untold}, verbs.NodeLines.{vb_told}}
use Rattle.transcript_law.specs.Chronicles.{alone}

-- changes of all branches fit, where those of a new one do
pub new_fits : (b : Branch) (tree : List Branch) (u : ℕ) → ((x : ℕ) → All ChangeFits (hist tree x)) → All ChangeFits (hist (b ∷ tree) b.id) → (k : Bool) → (b.id == u) ≡ k → All ChangeFits (hist (b ∷ tree) u)
new_fits b tree u old new true e = subst (λ x. All ChangeFits (hist (b ∷ tree) x)) (eqb-true b.id u e) new
new_fits b tree u old new false e = subst (All ChangeFits) (sym (hist_there b tree u (eqb-false b.id u e))) (old u)

-- another vBucket agrees as before, after a branch was made
module _ (w : PlainWorld) (r : Chronicle) (c : Cluster) (n v uuid : ℕ) (parent : Option ℕ) (fork high : ℕ) (a : AgreesIn idle w r c) (unused_yet : is_one_of uuid w.uuids ≡ false) (named : uuid ≡ 0 → ⊥) where
  abbrev branching : Chronicle
  branching = after_branch r n v uuid parent fork high

  abbrev new_one : Branch
  new_one = record { id = uuid; parent = parent_branch parent fork (r.branch_at n v); fork = fork; own = changes_between fork high (r.held n v) }

  -- no member is on the new branch
  off_branch : (k : ℕ) → uuid ≡ (c.nodes k).br → ⊥
  off_branch k e =
      let there = (a.sound.stands k).settled.0 in
      let z : None ≡ Some there.0 = sym (a.used uuid unused_yet named) ∙ ap (branch c.tree) e ∙ there.1 in
      cc

  branch_writes : (m q br : ℕ) → (m ≡ n → q ≡ v → ⊥) → (b : Bool) → WritesIf b r m q br → WritesIf b branching m q br
  branch_writes m q br other false x = tt
  branch_writes m q br other true x =
      let apart : uuid ≡ br → ⊥ = λ e. new_untold uuid r.tree (a.fresh uuid unused_yet) (subst (IsTold r.tree) (sym e) x.is_told) in
      record {
        branch = at_there r.branch_at n v (Some uuid) m q other ∙ x.branch;
        is_told = is_told_there new_one r.tree br apart x.is_told;
        writer = id_there r.writer_of uuid (Some (n, v)) br apart ∙ x.writer;
        named = x.named;
      }

  branch_history : (m q : ℕ) → (m ≡ n → q ≡ v → ⊥) → BranchAgrees (r.branch_at m q) (c.nodes (seat m q)).br → own_history r m q ≡ own_history branching m q
  branch_history m q other is =
      elim (r.branch_at m q) as (λ o. BranchAgrees o (c.nodes (seat m q)).br → known_history r.tree o ≡ known_history branching.tree o)
      [ None ↦ λ e. refl | Some u ↦ λ e. sym (hist_there new_one r.tree u (λ k. off_branch (seat m q) (k ∙ sym e))) ] is
      ∙ ap (known_history branching.tree) (sym (at_there r.branch_at n v (Some uuid) m q other))

  pub branch_row : (m q : ℕ) → (m ≡ n → q ≡ v → ⊥) → vb_row branching m q ≡ vb_row r m q
  branch_row m q other i = record (vb_row r m q) {
    contents = record (vb_contents r m q) {
      branch = at_there r.branch_at n v (Some uuid) m q other i;
      log = at_there r.log_at n v (option_map (with_entry uuid fork) (r.log_at n v)) m q other i;
      snap = at_there r.snap_at n v (Some (high, high)) m q other i;
    };
    counts = at_there r.counts_at n v (alone (last_seq 0 (r.held n v))) m q other i;
  }

  pub branch_there : (m q : ℕ) (o : Option Plain) → (m ≡ n → q ≡ v → ⊥) → AgreesAt r m q (c.nodes (seat m q)) o → AgreesAt branching m q (c.nodes (seat m q)) o
  branch_there m q o other x =
      vb_told r branching m q (c.nodes (seat m q)) o (branch_row m q other)
      (branch_writes m q (c.nodes (seat m q)).br other) (λ vb y. ap (λ h. upto h vb.position.at) (branch_history m q other y.branch)) x
