-- what counts as saved is a front, where no received snapshot goes on above it and its vBucket has all of its branch
use Rattle.std.specs.Prelude.{◌≡◌, ◌<◌, ◌≤◌, ◌∷◌}
use Rattle.std.proofs.lemmas.Bool.{cases_lt}
use Rattle.transcript_law.proofs.Words.{ℕ, true, List, [], ap, sym, ◌∙◌, subst, arith, ⊎_elim, Some, Change, Chronicle, Cluster, HoldsAt, IsIn, Member, Plain, PlainWorld, Position, Rises, all_spans, fork_of, hist, is_active, is_whole, last_seq, start_cases}
use Rattle.{branch_model.specs.Snapshots.{AllOf}, cluster_model.proofs.{Having.{holds_front}, Held.{held_of}}, cluster_model.specs.Clusters.{Disk, HasAll, IsBatchEnd}, vb_calls.specs.Shelves.{Shelf}}
use Rattle.branch_model.proofs.{Branches.{hist_rises}, Images.{plain_stands}}
use Rattle.transcript_law.proofs.disks.{Backfills.{last_found}, Disks.{DiskIsIf, ShelfIs, parts_of, shelf_of}, Ends.{saved_low, told_saved}}
use Rattle.transcript_law.proofs.invariant.{Agreement.{AgreesAt, AgreesIn, Busy, VbAgrees, all_rise, top, vb_of}, Seats.{seat}, Wholes.{WholeTo}}
use Rattle.transcript_law.proofs.links.Followed.{own_is}
use Rattle.transcript_law.specs.{Chronicles.{stood}, Fronts.{IsFront, branch_history}}

-- a rising list ends no lower than any of its changes
least : (m top : ℕ) (xs : List Change) → Rises m top xs → m ≤ last_seq m xs
least m top [] r = omega arith
least m top (x ∷ xs) r = let k = least x.seq top xs r.1 in let l : m < x.seq = r.0 in omega (arith, k, l)

in_low : (a top n : ℕ) (xs : List Change) (c : Change) → Rises a top xs → IsIn c xs → c.seq ≤ last_seq n xs
in_low a top n [] c r i = absurd i
in_low a top n (x ∷ xs) c r i = ⊎_elim
    (λ e. let k : c.seq ≡ x.seq = ap (λ (y : Change). y.seq) e in let q = least x.seq top xs r.1 in omega (arith, k, q))
    (λ t. in_low x.seq top x.seq xs c r.1 t) i

-- what is held of a branch ends no higher than that
held_low : (top : ℕ) (h held : List Change) → Rises 0 top h → AllOf held h → last_seq 0 held ≤ last_seq 0 h
held_low top h held rises of = ⊎_elim
    (λ (l : 0 < last_seq 0 held).
    let x = last_found 0 held l in let at : x.0.seq ≡ last_seq 0 held = x.2 in
    let o = of x.0 x.1 in
    let level : x.0.seq ≡ o.0.seq = ap (λ (y : Change). y.seq) (plain_stands x.0 o.0 o.2) in
    let low : o.0.seq ≤ last_seq 0 h = in_low 0 top 0 h o.0 rises o.1 in omega (arith, at, level, low))
    (λ (l : last_seq 0 held ≤ 0). omega (arith, l))
    (cases_lt 0 (last_seq 0 held))

module _ {busy : Busy} (w : PlainWorld) (r : Chronicle) (c : Cluster) (a : AgreesIn busy w r c) (n v : ℕ) (vb : Plain) (shelf : Shelf) (there : vb_of w n v ≡ Some vb) (open_there : shelf_of w n v ≡ Some shelf) where
  abbrev m : Member
  m = c.nodes (seat n v)

  abbrev d : Disk
  d = c.disks (seat n v)

  mine : VbAgrees r n v m vb
  mine = subst (AgreesAt r n v m) there (a.vbs n v)

  kept : ShelfIs (r.disk_at n v) d shelf (parts_of vb)
  kept = subst (λ o. DiskIsIf (r.disk_at n v) d (Some shelf) o) there (subst (λ s. DiskIsIf (r.disk_at n v) d s (vb_of w n v)) open_there (a.disks n v))

  own : hist c.tree m.br ≡ branch_history r n v
  own = own_is r c n v m a.hists a.rootless mine.branch

  position_is : m.position.at ≡ vb.position.at
  position_is = ap (λ (p : Position). p.at) mine.member.position

  -- no more is saved than is held
  low : vb.saved ≤ vb.position.at
  low =
      let book = (a.sound.kept (seat n v)).book in
      let k = saved_low kept m.held book.covered book.ends in
      let reached = book.spot.reached in let same = position_is in omega (arith, k, reached, same)

  pub front_made : is_whole vb.saved (all_spans vb.spans) ≡ true → fork_of vb.position ≡ vb.position.at → IsFront r n v vb.saved
  front_made whole fork =
      let told : (r.disk_at n v).saved ≡ vb.saved = kept.saved in
      let high : last_seq 0 m.held ≡ vb.position.at = mine.high in
      let same : last_seq 0 (r.held n v) ≡ last_seq 0 m.held = ap (last_seq 0) mine.held in
      let rises = hist_rises top c.tree m.br a.sound.grows in
      let ends : last_seq 0 m.held ≤ last_seq 0 (hist c.tree m.br) = held_low top (hist c.tree m.br) m.held rises (held_of top c a.sound.still (seat n v)) in
      let branch : last_seq 0 (hist c.tree m.br) ≡ last_seq 0 (branch_history r n v) = ap (last_seq 0) own in
      let saved : vb.saved ≤ vb.position.at = low in
      let holds : HoldsAt 0 (WholeTo vb.floor vb.spans vb.position) m.held (branch_history r n v) = mine.holds in
      let all : HasAll (branch_history r n v) m.held vb.saved = holds_front vb.position.at vb.saved (WholeTo vb.floor vb.spans vb.position) (branch_history r n v) m.held (all_rise mine.kept) (whole, omega (arith, saved, fork), mine.sound.saved) holds in
      record {
        stands = subst (λ k. IsBatchEnd k (stood (r.disk_at n v))) told (told_saved kept);
        saved = omega (arith, told);
        here = omega (arith, saved, high, same);
        branch = omega (arith, saved, high, ends, branch);
        whole = subst (λ x. HasAll (branch_history r n v) x vb.saved) (sym mine.held) all;
      }

  -- so it is of one that is active
  pub active_front : is_active vb.role ≡ true → is_whole vb.saved (all_spans vb.spans) ≡ true → IsFront r n v vb.saved
  active_front active whole = front_made whole (subst (λ (q : Position). fork_of q ≡ q.at) mine.member.position
      (⊎_elim (λ y. y.1) (λ y. y.1 ∙ (a.sound.leads (seat n v) (mine.member.active ∙ active)).ss_at) (start_cases m.position.ss m.position.se m.position.at)))
