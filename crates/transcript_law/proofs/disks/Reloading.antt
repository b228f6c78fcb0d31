-- a vBucket that is loaded, where what it wrote down agreed with what the lines tell
use Rattle.transcript_law.proofs.invariant.Waiting.{pends_apart, pends_low, pends_weigh}
use Rattle.std.specs.Prelude.{◌≡◌, ◌<◌, ◌≤◌, ◌∷◌, ◌^◌}
use Rattle.transcript_law.proofs.Words.{All, Chronicle, Cluster, List, LogEntry, Member, None, Option, Pend, Picture, Plain, PlainWorld, Position, Rises, Role, Some, ap, append-nil, arith, false, fork_of, ground, holds_fewer, image_of, is_active, length, map, no_spans, refl, subst, sym, take, true, ℕ, ◌∙◌}
use Rattle.transcript_law.proofs.disks.Disks.{AwayAgrees, ShelfIs, bare, no_spots, parts_of}
use Rattle.transcript_law.proofs.invariant.Agreement.{AgreesAt, AgreesIn, AwayAt, DiskIsIf, EntryFits, IsAway, VbAgrees, VbTold, idle, no_counts, no_lefts, no_times, own_history, power_of, shelf_of, top, vb_contents, vb_of, vb_row}
use Rattle.transcript_law.proofs.invariant.Bounded.{Bounded, Reads, Weighs}
use Rattle.transcript_law.proofs.invariant.Forked.{fork_holds}
use Rattle.transcript_law.proofs.invariant.Holdings.{opened_as}
use Rattle.transcript_law.proofs.invariant.Seats.{seat}
use Rattle.transcript_law.proofs.invariant.Wholes.{WholeTo, spanned_none}
use Rattle.transcript_law.proofs.links.Followed.{fork_low, no_writes, own_is}
use Rattle.transcript_law.specs.Chronicles.{DiskKnown, rested, resting}
use Rattle.branch_model.proofs.{Journaling.{items_image}, Lists.{rises_in, rises_le, upto_all, upto_in}}
use Rattle.branch_model.specs.Journals.{batches, cas_of_last, end_of, items_of, log_of, place_of, points, role_of}
use Rattle.cluster_model.proofs.Backfilling.{last_end}
use Rattle.cluster_model.specs.Clusters.{Disk, IsBatchEnd, Told, above, member_fork}
use Rattle.journal_points.specs.Points.{or_dead, saved}
use Rattle.node_core.specs.Loading.{loaded_by}
use Rattle.std.proofs.lemmas.List.{take_all}
use Rattle.std.specs.FinMap.{get}
use Rattle.vb_calls.specs.Shelves.{Idle, Written, open_shelf}
use Rattle.vb_calls.specs.State.{loaded_role}
use Rattle.vb_types.specs.declared.journal.Record.{Record}
use Rattle.vb_types.specs.declared.role.Role.TheVariants as role
use Rattle.vbucket.proofs.Wholes.{loads_sound}
use Rattle.vbucket.specs.Laws.{PendSeqsUpTo, PendsDiffer, PendsUpTo}

-- the role of a vBucket that was loaded, as the lines tell it
rested_is : (o : Option Role) → rested o ≡ loaded_role (or_dead o)
rested_is None = refl
rested_is (Some role.Active) = refl
rested_is (Some role.Replica) = refl
rested_is (Some role.Pending) = refl
rested_is (Some role.Dead) = refl

pub loaded_rests : (x : Role) → is_active (loaded_role x) ≡ false
loaded_rests role.Active = refl
loaded_rests role.Replica = refl
loaded_rests role.Pending = refl
loaded_rests role.Dead = refl

-- and it is not about to take a branch over, where it was active
pub loaded_unpended : (x : Role) → is_active x ≡ true → loaded_role x ≡ role.Pending → ⊥
loaded_unpended role.Active e q = cc
loaded_unpended other e q = cc

module _ (w : PlainWorld) (r : Chronicle) (c : Cluster) (n v : ℕ) (a : AgreesIn idle w r c) (none : vb_of w n v ≡ None) (no_shelf : shelf_of w n v ≡ None) (last : Record) (older : List Record) (is : (c.disks (seat n v)).book ≡ last ∷ older) where
  abbrev k : ℕ
  k = seat n v

  abbrev m : Member
  m = c.nodes k

  abbrev d : Disk
  d = c.disks k

  abbrev js : List Record
  js = last ∷ older

  -- what is loaded
  abbrev pub vb : Plain
  vb = loaded_by n (saved js)

  away : IsAway (vb_row r n v) m
  away = subst (AgreesAt r n v m) none (a.vbs n v)

  rest : AwayAt (power_of w n) v (shelf_of w n v) (r.role_at n v) (r.disk_at n v) m d
  rest = a.aways n v none

  told : AwayAgrees (r.disk_at n v) d
  told = subst (λ s. DiskIsIf (r.disk_at n v) d s None) no_shelf (subst (DiskIsIf (r.disk_at n v) d (shelf_of w n v)) none (a.disks n v))

  position : m.position ≡ place_of js
  position = rest.position ∙ ap place_of is

  -- it was cut to so many entries when it was made
  log : m.log ≡ take 25 (log_of js)
  log = rest.log ∙ ap log_of is ∙ sym (take_all 25 (log_of js) (subst (λ (l : List LogEntry). length l ≤ 25) (rest.log ∙ ap log_of is) (a.sound.stands k).ancestry.short))

  written : Told (ground c) m.br m.held m.position m.points js
  written = subst (Told (ground c) m.br m.held m.position m.points) is (a.sound.kept k).book

  -- its image is that of all that the member holds
  image : image_of (items_of (batches js)) ≡ image_of m.held
  image =
      let at : m.position.at ≡ (place_of js).at = ap (λ (p : Position). p.at) position in let end : (place_of js).at ≡ end_of (batches js) = written.ends in
      items_image m.position.at m.held (batches js) (a.sound.stands k).rises written.covered ∙ ap image_of (upto_all 0 m.position.at (end_of (batches js)) m.held (a.sound.stands k).rises (omega arith))

  bounded : Bounded top m d
  bounded = a.sound.bounded k

  within : ((place_of js).ss ≤ (place_of js).at) × ((place_of js).at ≤ (place_of js).se) × ((place_of js).se ≤ 2 ^ 48)
  within = subst (λ (p : Position). (p.ss ≤ p.at) × (p.at ≤ p.se) × (p.se ≤ 2 ^ 48)) position
      (rises_le m.position.ss m.position.at (above m.held m.position.ss) (a.sound.stands k).follows.rises, (a.sound.stands k).follows.within, bounded.capped)

  -- no change that the member holds has a CAS above the last one that its journal tells
  heavy : Weighs (cas_of_last js) m.held
  heavy x i =
      let reads : Reads top m js = subst (Reads top m) is bounded.book in
      let at : x.seq ≤ m.position.at = (rises_in 0 m.position.at m.held x (a.sound.stands k).rises i).1 in
      let level : m.position.at ≡ (place_of js).at = ap (λ (p : Position). p.at) position in
      reads.weighs x (upto_in x m.held (place_of js).at i (omega arith))

  waits_at : (key : List ℕ) (p : Pend) → get (image_of (items_of (batches js))).pending key ≡ Some p → get (image_of m.held).pending key ≡ Some p
  waits_at key p e = ap (λ (i : Picture). get i.pending key) (sym image) ∙ e

  pends : PendsUpTo (cas_of_last js) (image_of (items_of (batches js)))
  pends key p e = pends_weigh (cas_of_last js) m.held heavy key p (waits_at key p e)

  seqs : PendSeqsUpTo (place_of js).at (image_of (items_of (batches js)))
  seqs key p e = subst (λ (x : Position). p.seq ≤ x.at) position (pends_low 0 m.position.at m.held key p (a.sound.stands k).rises (waits_at key p e))

  apart : PendsDiffer (image_of (items_of (batches js)))
  apart key other p q e f same = pends_apart 0 m.position.at m.held key other p q (a.sound.stands k).rises (waits_at key p e) (waits_at other q f) same

  pub loaded_is : VbAgrees r n v m vb
  loaded_is = record {
    kept = record {
      sound = loads_sound n (or_dead (role_of js)) (take 25 (log_of js)) (place_of js) (cas_of_last js) (image_of (items_of (batches js))) within.0 within.1 within.2 (subst (λ b. cas_of_last b < 2 ^ 64) is told.cas) pends seqs apart;
      spanned = spanned_none vb.role (place_of js);
      keeps = record {
        below = m.held;
        parts = sym (append-nil m.held);
        base = image;
        low = subst (λ (p : Position). Rises 0 p.at m.held) position (a.sound.stands k).rises;
        fits = away.fits;
        weighs = heavy;
        entries = subst (All EntryFits) log away.entries;
        high = away.high ∙ ap (λ (p : Position). p.at) position;
      };
      told = subst (λ l. VbTold (vb_contents r n v) m.held l (place_of js)) log (subst (VbTold (vb_contents r n v) m.held m.log) position away.told);
      member = record { active = away.active ∙ sym (loaded_rests (or_dead (role_of js))); position = position; log = log };
      branch = away.branch;
      holds = holds_fewer 0 (WholeTo (place_of js).at no_spans (place_of js)) (λ i. i ≡ member_fork m) m.held (own_history r n v)
          (λ i x.
          let same : member_fork m ≡ fork_of (place_of js) = ap fork_of position in
          let low : fork_of (place_of js) ≤ (place_of js).at = fork_low (place_of js) within.0 in
          let most : i ≤ fork_of (place_of js) = x.1 in
          let least : (place_of js).at ≤ i = x.2 in
          omega arith)
          (fork_holds c k (own_history r n v) a.sound (own_is r c n v m a.hists a.rootless away.branch));
    };
    role = rest.role ∙ ap (λ b. Some (resting b)) is ∙ ap (λ (x : Role). Some (Some x)) (rested_is (role_of js));
    opened = opened_as vb.role (r.open_at n v) false away.opened;
    writes = no_writes r n v m.br vb.role (loaded_rests (or_dead (role_of js)));
    counts = no_counts vb.role (r.counts_at n v) vb.others vb.acks (loaded_rests (or_dead (role_of js)));
    lefts = no_lefts vb.role (r.counts_at n v).risen vb.position.at vb.waiting (loaded_rests (or_dead (role_of js)));
    times = no_times vb.role (r.counts_at n v).times vb.waiting (loaded_rests (or_dead (role_of js)));
  }

  late : d.late ≡ None
  late = ap (λ (y : Disk). y.late) told.disk

  pub loaded_shelf : (r.disk_at n v).there ≡ true → ShelfIs (r.disk_at n v) d (open_shelf js) (parts_of vb)
  loaded_shelf there = record {
    book = is;
    told_book = ap (λ (t : DiskKnown). t.book) told.told_is ∙ ap (map bare) is;
    late = late;
    told_late = ap (λ (t : DiskKnown). t.late) told.told_is;
    none_late = λ e. refl;
    unarmed = refl;
    there = there;
    closed = ap (λ (t : DiskKnown). t.closed) told.told_is;
    flush = (ap (λ (t : DiskKnown). t.flushing) told.told_is, (λ e. ap (λ b. (place_of b).at) (sym is)), (let e : (place_of d.book).at ≡ (place_of js).at = ap (λ b. (place_of b).at) is in omega arith));
    saved = ap (λ (t : DiskKnown). t.saved) told.told_is ∙ ap (λ b. (place_of b).at) is;
    taken = ap (λ (t : DiskKnown). t.taken) told.told_is ∙ ap (λ b. (place_of b).at) is;
    spots = no_spots (place_of d.book).at d.stood;
    floor = let e : (place_of d.book).at ≡ (place_of js).at = ap (λ b. (place_of b).at) is in omega arith;
    cas = told.cas;
    late_cas = λ q e. let z : None ≡ Some q = sym late ∙ e in cc;
    ended = subst (λ b. IsBatchEnd (place_of js).at (points b)) (sym is) (subst (λ n. IsBatchEnd n (points js)) (sym written.ends) (last_end (batches js)));
    written = λ seq e. let z : Idle ≡ Written seq = e in cc;
  }
