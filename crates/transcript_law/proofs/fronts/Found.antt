-- what the journals of a script give up to fronts
use Rattle.std.specs.Prelude.{◌≡◌}
use Rattle.transcript_law.proofs.Words.{ℕ, List, sym, subst, Some, Chronicle, Cluster, Member, Plain, PlainWorld, ScriptFits, ScriptLine, empty_chronicle, empty_world, hist}
use Rattle.{branch_model.specs.Journals.{points}, cluster_model.specs.Clusters.{Disk, HasAll, IsBatchEnd}, vb_calls.specs.Shelves.{Shelf}}
use Rattle.transcript_law.proofs.disks.{Backfills.{finds_all}, Disks.{DiskIsIf, ShelfIs, parts_of, shelf_of}, Ends.{told_ends}}
use Rattle.transcript_law.proofs.invariant.{Agreement.{AgreesAt, AgreesIn, Busy, VbAgrees, idle, top, vb_of}, Known.{agrees_from}, Seats.{seat}}
use Rattle.transcript_law.proofs.fronts.Made.{active_front}
use Rattle.transcript_law.proofs.links.Followed.{own_is}
use Rattle.transcript_law.proofs.Runs.{along_start}
use Rattle.transcript_law.specs.Fronts.{FindsAll, FrontsAreFound, IsFront, branch_history}
use Rattle.transcript_law.specs.Prefixes.{known_of, world_of}

module _ {busy : Busy} (w : PlainWorld) (r : Chronicle) (c : Cluster) (a : AgreesIn busy w r c) (n v end : ℕ) (vb : Plain) (shelf : Shelf) (there : vb_of w n v ≡ Some vb) (open_there : shelf_of w n v ≡ Some shelf) (f : IsFront r n v end) where
  abbrev m : Member
  m = c.nodes (seat n v)

  abbrev d : Disk
  d = c.disks (seat n v)

  mine : VbAgrees r n v m vb
  mine = subst (AgreesAt r n v m) there (a.vbs n v)

  kept : ShelfIs (r.disk_at n v) d shelf (parts_of vb)
  kept = subst (λ o. DiskIsIf (r.disk_at n v) d (Some shelf) o) there (subst (λ s. DiskIsIf (r.disk_at n v) d s (vb_of w n v)) open_there (a.disks n v))

  own : hist c.tree m.br ≡ branch_history r n v
  own = own_is r c n v m a.hists a.rootless mine.branch

  -- a front of the lines is one of the cluster
  ends : IsBatchEnd end (points d.book)
  ends = subst (IsBatchEnd end) (told_ends kept) f.stands

  whole : HasAll (hist c.tree m.br) m.held end
  whole = subst (λ h. HasAll h m.held end) (sym own) (subst (λ x. HasAll (branch_history r n v) x end) mine.held f.whole)

  -- so its journal has all up to there
  pub front_found : FindsAll (branch_history r n v) (r.held n v) shelf.book end
  front_found =
      subst (λ b. FindsAll (branch_history r n v) (r.held n v) b end) kept.book
      (subst (λ x. FindsAll (branch_history r n v) x d.book end) (sym mine.held)
      (subst (λ h. FindsAll h m.held d.book end) own (finds_all top c a.sound.still (seat n v) end ends whole)))

fronts_found : (w : PlainWorld) (r : Chronicle) (c : Cluster) → AgreesIn idle w r c → FrontsAreFound r w
fronts_found w r c a n v vb shelf there open_there = record {
  made = active_front w r c a n v vb shelf there open_there;
  found = λ end f. front_found w r c a n v end vb shelf there open_there f;
}

-- behind a script
pub script_found : (script : List ScriptLine) → ScriptFits script → FrontsAreFound (known_of script) (world_of script)
script_found script fits = let x = agrees_from empty_world empty_chronicle script fits along_start in fronts_found (world_of script) (known_of script) x.0 x.1
