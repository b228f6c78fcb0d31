-- a vBucket that goes back to the greatest complete point of its journal, and what its journal and its lines tell of it
use Rattle.transcript_law.proofs.{invariant.Bounded.{Weighs}, invariant.Waiting.{pends_apart, pends_low, pends_weigh}}
use Rattle.std.specs.Prelude.{◌≡◌, ◌<◌, ◌≤◌, ◌∷◌, ◌==◌, ◌&&◌, ◌^◌, if◌then◌else◌}
use Rattle.transcript_law.proofs.Words.{ℕ, Bool, true, false, cond, List, [], map, filter, refl, ap, sym, ◌∙◌, subst, arith, inl, inr, ⊎_elim, append-nil, Option, Some, None, fork_of, start_cases, image_of, Picture}
use Rattle.transcript_law.proofs.Words.{nat_le, All, option_map, eq-eqb, eqb-true, All-nil, All-cons, All-head, All-tail, IsIn, Rises}
use Rattle.branch_model.proofs.Journaling.{ends_cut, image_at_point, point_seq, rolls_farthest, rolls_to}
use Rattle.cluster_model.proofs.Backfilling.{point_end}
use Rattle.branch_model.proofs.Lists.{from_upto, rises_upto}
use Rattle.transcript_law.proofs.Words.{Change, Chronicle, Dial, Ended, HasLast, LogEntry, Member, Plain, Sound, States, StaysSound, after_end, after_job, complete_position, is_dial_for, is_follower, kept_to, plain_step, quiet_reply, refusal_reply, request_of, upto, with_vb_at}
use Rattle.transcript_law.proofs.disks.{Disks.{ShelfIs, bare, no_spots, parts_of}, Ends.{bare_batch, bare_batches}}
use Rattle.transcript_law.proofs.invariant.Agreement.{ChangeFits, EntryFits, VbAgrees, all_rise, no_counts, no_lefts, no_times, own_history, vb_contents, vb_row}
use Rattle.transcript_law.proofs.invariant.Carried.{no_writer}
use Rattle.transcript_law.proofs.invariant.Holdings.{opened_as}
use Rattle.transcript_law.proofs.Words.{with_at}
use Rattle.transcript_law.proofs.invariant.Carrying.{IsApart, TakenOf}
use Rattle.transcript_law.proofs.invariant.Tables.{at_here, at_there, ended_there, id_there}
use Rattle.transcript_law.proofs.invariant.Wholes.{spanned_none}
use Rattle.transcript_law.proofs.links.Followed.{no_writes}
use Rattle.branch_model.specs.Journals.{Covered, IsPoint, batches, cas_of_last, complete_ends, complete_points, greatest, image_at, points, roll_point}
use Rattle.{cluster_model.specs.Clusters.{Disk, HasAll, appended, rolled}, disk_journals.specs.Arms.{under}, std.proofs.lemmas.List.Elements.{All-filter}}
use Rattle.std.specs.FinMap as finite
use Rattle.{std.proofs.lemmas.Bool.{false_from_ne_true, and_parts}, transcript_law.specs.Chronicles.{DiskKnown, after_roll, disk_back}, transcript_law.specs.Lawfulness.{IsFarthest, IsSavedEnd}, vb_calls.specs.Following.{cas_of, rolled_vb}}
use Rattle.{vb_calls.specs.declared.calls.VbAnswer.TheVariants.{Named, Num}, vb_calls.specs.declared.calls.VbCall.TheVariants.{Ask, RollTo}}
use Rattle.{vb_types.specs.declared.status.Status.TheVariants.{NotMyVbucket}}
use Rattle.vb_calls.specs.Flushes.{read_job, roll_job, roll_to_job, rollable_job, rolled_by, rolled_job}
use Rattle.vb_calls.specs.Shelves.{Append, Book, DiskFailed, Fate, Idle, Keep, Read, Shelf, Shelves, Shut, Stood, WasClosed, Written, after_fate, shelf_step, late_of, with_shelf_at}
use Rattle.vb_journal.specs.UnderArms.{all_pass, burnt_noting}
use Rattle.vb_disk.specs.declared.fuse.Fuse.TheVariants.{Off}
use Rattle.vb_calls.specs.declared.journals.Rolled.TheVariants as rolled_as
use Rattle.transcript_law.proofs.invariant.JobSteps.{ask_on, call_on, put_found, put_over, shelf_found, shelf_over}
use Rattle.vb_types.specs.declared.journal.Batch.{Batch}
use Rattle.vb_types.specs.declared.journal.Record.{Record}
use Rattle.vb_types.specs.declared.journal.Record.TheVariants as noted
use Rattle.transcript_law.proofs.invariant.Owing.{later_same}

-- entries of a log that are kept have room in their fields, as all had
pub kept_fit : (n : ℕ) (log : List LogEntry) → All EntryFits log → All EntryFits (kept_to n log)
kept_fit n [] fits = All-nil EntryFits
kept_fit n (e ∷ older) fits =
    let rest = kept_fit n older (All-tail EntryFits e older fits) in
    elim (nat_le e.seq n) as (λ b. All EntryFits (cond b (e ∷ kept_to n older) (kept_to n older))) [ true ↦ All-cons EntryFits e (kept_to n older) (All-head EntryFits e older fits) rest | false ↦ rest ]

-- a change among those that all have room in their fields has it
pub fits_in : (xs : List Change) (c : Change) → All ChangeFits xs → IsIn c xs → ChangeFits c
fits_in [] c all i = absurd i
fits_in (x ∷ xs) c all i = ⊎_elim (λ e. subst ChangeFits (sym e) (All-head ChangeFits x xs all)) (λ j. fits_in xs c (All-tail ChangeFits x xs all) j) i

-- at a complete position a node would fork there
fork_complete : (n : ℕ) → fork_of (complete_position n) ≡ n
fork_complete n = ⊎_elim (λ y. y.1) (λ y. y.1) (start_cases n n n)

-- a vBucket that went back to a complete point of its journal holds what it held up to there, and keeps the entries that were made up to there
pub rolled_agrees : (stays : StaysSound) (r : Chronicle) (n v : ℕ) (m : Member) (fv : Plain) (book : List Record) (to : ℕ) → VbAgrees r n v m fv → is_follower fv.role ≡ true
    → Covered m.held (batches book) → IsPoint to (complete_points book) → to ≤ fv.position.at → cas_of_last book < 2 ^ 64 → Weighs (cas_of_last book) (upto m.held to) → HasAll (own_history r n v) m.held to
    → VbAgrees (after_roll r n v to) n v (rolled m to) (rolled_vb fv to (image_at book to) (cas_of_last book))
rolled_agrees stays r n v m fv book to a f covered point low small heavy all =
    let image : Picture = image_at book to in let cas : ℕ = cas_of_last book in
    let after : Plain = rolled_vb fv to image cas in
    let done : plain_step fv (RollTo to image cas) ≡ (after, quiet_reply (Num to)) = ap (λ b. if b then (after, quiet_reply (Num to)) else (fv, refusal_reply NotMyVbucket)) f in
    let rise : Rises 0 fv.position.at m.held = all_rise a.kept in
    let image_is : image ≡ image_of (upto m.held to) = image_at_point fv.position.at m.held book to rise covered point in
    let fits : All ChangeFits (upto m.held to) = All-filter (λ c. nat_le c.seq to) ChangeFits m.held a.fits in
    let rises : Rises 0 to (upto m.held to) = rises_upto 0 fv.position.at to m.held (omega arith) rise in
    let top : fv.position.at ≤ 2 ^ 48 = (let x : fv.position.at ≤ fv.position.se = a.sound.within.1 in let y : fv.position.se ≤ 2 ^ 48 = a.sound.capped in omega arith) in
    let fork : fork_of (complete_position to) ≡ to = fork_complete to in
    record {
      kept = record {
        sound = subst Sound (ap (λ p. p.0) done) (stays fv (RollTo to image cas) a.sound (
          omega arith,
          small,
          λ key p e. pends_weigh cas (upto m.held to) heavy key p (ap (λ (i : Picture). finite.get i.pending key) (sym image_is) ∙ e),
          λ key p e. pends_low 0 to (upto m.held to) key p rises (ap (λ (i : Picture). finite.get i.pending key) (sym image_is) ∙ e),
          λ key other p q e f same. pends_apart 0 to (upto m.held to) key other p q rises (ap (λ (i : Picture). finite.get i.pending key) (sym image_is) ∙ e) (ap (λ (i : Picture). finite.get i.pending other) (sym image_is) ∙ f) same,
        ));
        spanned = spanned_none fv.role (complete_position to);
        keeps = record {
          below = upto m.held to;
          parts = sym (append-nil (upto m.held to));
          base = image_is;
          low = rises;
          fits = fits;
          weighs = λ x i. let z : cas_of x.act ≤ fv.last_cas = a.weighs x (from_upto x m.held to i).0 in omega arith;
          entries = kept_fit to fv.log a.entries;
          high = point_seq fv.position.at m.held (batches book) to rise covered point;
        };
        told = record {
          held = at_here r.held n v (upto (r.held n v) to) ∙ ap (λ h. upto h to) a.held;
          log = at_here r.log_at n v (option_map (kept_to to) (r.log_at n v)) ∙ ap (option_map (kept_to to)) a.log;
          snap = at_here r.snap_at n v (Some (to, to));
          unlogged = λ e. ap (kept_to to) (a.unlogged e);
        };
        member = record { active = a.member.active; position = refl; log = ap (kept_to to) a.member.log };
        branch = a.branch;
        holds = record {
          of = all.of;
          has = λ i w. let most : i ≤ fork_of (complete_position to) = w.1 in let least : to ≤ i = w.2 in let same : to ≡ i = omega arith in
              subst (λ z. HasLast (upto m.held to) (own_history r n v) 0 z z) same all.has;
        };
      };
      role = a.role;
      opened = opened_as fv.role (with_at r.open_at n v false n v) false (at_here r.open_at n v false);
      writes = no_writes (after_roll r n v to) n v m.br fv.role (no_writer fv.role f);
      counts = no_counts fv.role (r.counts_at n v) fv.others fv.acks (no_writer fv.role f);
      lefts = no_lefts fv.role (r.counts_at n v).risen to fv.waiting (no_writer fv.role f);
      times = no_times fv.role (r.counts_at n v).times fv.waiting (no_writer fv.role f);
    }

-- so the batches that lines tell have the same complete ends
bare_ends : (bs : List Batch) → complete_ends (map bare_batch bs) ≡ complete_ends bs
bare_ends [] = refl
bare_ends (b ∷ bs) = ap (λ xs. if b.position.at == b.position.se then b.position.at ∷ xs else xs) (bare_ends bs)

-- so the told records lead a rollback to the same seqno
pub bare_point : (js : List Record) (named : ℕ) → roll_point (map bare js) named ≡ roll_point js named
bare_point js named = ap (λ ps. greatest (filter (λ p. nat_le p named) ps)) (ap complete_ends (bare_batches js) ∙ bare_ends (batches js))

-- its journal then: the record that it went back stands, and no batch is on its way
abbrev pub rolled_shelf : Shelf → ℕ → Shelf
rolled_shelf shelf to = record shelf { book = noted.Roll to ∷ shelf.book; flush = Idle; fuse = burnt_noting shelf.fuse }

-- it goes to the end of a batch that it leaves
pub rolled_disk : {told : DiskKnown} {d : Disk} (shelf : Shelf) (fv : Plain) (to : ℕ) (image : Picture) (cas : ℕ) → shelf.is_closed ≡ false → IsPoint to (complete_points d.book) → ShelfIs told d (under Off shelf) (parts_of fv)
    → ShelfIs (disk_back to told) (appended d (noted.Roll to)) (under Off (rolled_shelf shelf to)) (parts_of (rolled_vb fv to image cas))
rolled_disk {d = d} shelf fv to image cas opens point x = record {
  book = ap (λ b. noted.Roll to ∷ b) x.book;
  told_book = ap (λ b. noted.Roll to ∷ b) x.told_book;
  late = sym (x.none_late opens);
  told_late = x.told_late;
  none_late = x.none_late;
  unarmed = refl;
  there = x.there;
  closed = x.closed;
  flush = (refl, (λ e. refl), omega arith);
  saved = refl;
  taken = refl;
  spots = no_spots to [];
  floor = omega arith;
  cas = x.cas;
  late_cas = λ r e. cc;
  ended = point_end (filter (λ b. nat_le b.position.at to) (batches d.book)) to (ends_cut to to (batches d.book) point (omega arith));
  written = λ seq e. let z : Idle ≡ Written seq = e in cc;
}

-- a dial for another vBucket is not for this one
pub not_for : (n v : ℕ) (o : Option Dial) → IsApart n v o → is_dial_for n v o ≡ false
not_for n v None apart = refl
not_for n v (Some d) apart = false_from_ne_true (d.node == n && d.vb == v) (λ t. let p = and_parts (d.node == n) (d.vb == v) t in apart (eqb-true d.node n p.0) (eqb-true d.vb v p.1))

-- what is told of a rollback of the vBucket that the link l feeds
pub roll_taken_of : (l n v to : ℕ) (r : Chronicle) → TakenOf l n v r (after_roll r n v to)
roll_taken_of l n v to r = record {
  last = later_same _ _ refl refl;
  tree = refl;
  writer_of = λ u. refl;
  rows = λ m q ne i. record (vb_row r m q) {
    opened = at_there r.open_at n v false m q ne i;
    contents = record (vb_contents r m q) {
      held = at_there r.held n v (upto (r.held n v) to) m q ne i;
      log = at_there r.log_at n v (option_map (kept_to to) (r.log_at n v)) m q ne i;
      snap = at_there r.snap_at n v (Some (to, to)) m q ne i;
    };
    disk = at_there r.disk_at n v (disk_back to (r.disk_at n v)) m q ne i;
  };
  clients = λ m c. refl;
  dials = λ j ne. refl;
  states = λ j ne. refl;
  streams = λ j q ne apart. refl;
  points = λ j ne apart. ap (λ b. if b then None else r.point_of j) (not_for n v (r.dial_of j) apart);
}

-- and of the link's end after it
pub roll_end_of : (l n v to : ℕ) (r : Chronicle) → TakenOf l n v r (after_end (after_roll r n v to) l)
roll_end_of l n v to r =
    let t = roll_taken_of l n v to r in let x : Chronicle = after_roll r n v to in
    record {
      last = later_same _ _ refl refl;
      tree = refl;
      writer_of = t.writer_of;
      rows = t.rows;
      clients = t.clients;
      dials = λ j ne. id_there x.dial_of l None j (λ i. ne (sym i));
      states = λ j ne. id_there x.stated_of l None j (λ i. ne (sym i));
      streams = λ j q ne apart. ended_there x l j q ne;
      points = λ j ne apart. id_there x.point_of l None j (λ i. ne (sym i)) ∙ t.points j ne apart;
    }

-- the points that lines tell are those of the batches
stream_end_lines : (bs : List Batch) (x : ℕ) → IsPoint x (complete_ends bs) → IsSavedEnd (map (λ (b : Batch). b.position) bs) x
stream_end_lines [] x p = ⊎_elim (λ e. e) (λ none. absurd none) p
stream_end_lines (b ∷ bs) x p = by (b.position.at == b.position.se) refl p (stream_end_lines bs x)
  where
    by : (k : Bool) → (b.position.at == b.position.se) ≡ k → IsPoint x (cond k (b.position.at ∷ complete_ends bs) (complete_ends bs)) → (IsPoint x (complete_ends bs) → IsSavedEnd (map (λ (b : Batch). b.position) bs) x)
        → IsSavedEnd (map (λ (b : Batch). b.position) (b ∷ bs)) x
    by true e p rest = ⊎_elim (λ q. inl (q, eqb-true b.position.at b.position.se e)) (λ q. inr (rest q)) p
    by false e p rest = inr (rest p)

told_end : (bs : List Batch) (x : ℕ) → IsSavedEnd (map (λ (b : Batch). b.position) bs) x → IsPoint x (complete_ends bs)
told_end [] x p = inl p
told_end (b ∷ bs) x p = by (b.position.at == b.position.se) refl p (told_end bs x)
  where
    by : (k : Bool) → (b.position.at == b.position.se) ≡ k → IsSavedEnd (map (λ (b : Batch). b.position) (b ∷ bs)) x → (IsSavedEnd (map (λ (b : Batch). b.position) bs) x → IsPoint x (complete_ends bs))
        → IsPoint x (cond k (b.position.at ∷ complete_ends bs) (complete_ends bs))
    by true e p rest = ⊎_elim (λ q. inl q.0) (λ q. inr (rest q)) p
    by false e p rest = ⊎_elim (λ q. let z : true ≡ false = sym (eq-eqb b.position.at b.position.se q.1) ∙ e in cc) rest p

-- a rollback goes to the greatest of them
pub farthest : (book : List Record) (named to : ℕ) → roll_point book named ≡ to → IsFarthest (points book) named to
farthest book named to is = subst (IsFarthest (points book) named) is (record {
  saved = stream_end_lines (batches book) (roll_point book named) (rolls_to book named).0;
  below = (rolls_to book named).1;
  farthest = λ n p l. rolls_farthest book named n (told_end (batches book) n p) l;
})

-- a vBucket that follows goes back by its journal
module _ (states : States) (shelves : Shelves) (v named : ℕ) (fv : Plain) (shelf : Shelf) (known : states v ≡ Some fv) (follows : is_follower fv.role ≡ true) (kept : shelves v ≡ Some shelf) where
  abbrev point : ℕ
  point = roll_point shelf.book named

  abbrev pub rolled_to : Plain
  rolled_to = rolled_vb fv point (image_at shelf.book point) (cas_of_last shelf.book)

  -- its journal after an append that was broken off
  abbrev pub broken_shelf : Shelf
  broken_shelf = record shelf { is_closed = true; late = late_of shelf.fuse (noted.Roll point); fuse = burnt_noting shelf.fuse }

  abbrev noted_shelf : Shelf
  noted_shelf = record shelf { book = noted.Roll point ∷ shelf.book; fuse = burnt_noting shelf.fuse }

  abbrev asked_states : States
  asked_states = with_vb_at states v fv

  abbrev read_shelves : Shelves
  read_shelves = with_shelf_at shelves v shelf

  abbrev noted_shelves : Shelves
  noted_shelves = with_shelf_at read_shelves v noted_shelf

  -- what is read
  read_came : (closed : Bool) → shelf.is_closed ≡ closed → after_job (roll_job v named) states shelves ≡ after_job (read_job v named (if closed then Shut else Book shelf.book)) asked_states read_shelves
  unfolding roll_job
  read_came closed e =
      call_on states shelves v Ask (rollable_job v named) fv fv (quiet_reply (Named (request_of fv.log fv.position))) known (ap (λ b. (fv, if b then quiet_reply (Named (request_of fv.log fv.position)) else refusal_reply NotMyVbucket)) follows)
      ∙ ask_on asked_states shelves v Read (read_job v named) shelf shelf (if closed then Shut else Book shelf.book) kept (ap (λ b. (shelf, if b then Shut else Book shelf.book)) e)

  -- the append that is asked for
  abbrev came : Bool → Bool → Shelf × Fate
  came closed passes = let fate : Fate = if closed then WasClosed else if passes then Stood else DiskFailed in (after_fate shelf (noted.Roll point) fate, fate)

  appended_is : (passes : Bool) → shelf.is_closed ≡ false → all_pass shelf.fuse ≡ passes → shelf_step shelf (Append (noted.Roll point)) ≡ came false passes
  appended_is passes opens pass = (λ i. came (opens i) (pass i))

  -- the journal is closed
  pub closed_came : shelf.is_closed ≡ true → after_job (roll_job v named) states shelves ≡ ((asked_states, read_shelves), rolled_as.Closed)
  closed_came e = read_came true e

  -- the append is broken off
  pub failed_came : shelf.is_closed ≡ false → all_pass shelf.fuse ≡ false → after_job (roll_job v named) states shelves ≡ ((asked_states, with_shelf_at shelves v broken_shelf), rolled_as.DiskFailed)
  failed_came opens hit = read_came false opens
      ∙ ask_on asked_states read_shelves v (Append (noted.Roll point)) (rolled_job v shelf.book point) shelf broken_shelf DiskFailed (shelf_found shelves v shelf) (appended_is false opens hit)
      ∙ ap (λ s. ((asked_states, s), rolled_as.DiskFailed)) (shelf_over shelves v shelf broken_shelf)

  -- it stands
  pub stood_came : shelf.is_closed ≡ false → all_pass shelf.fuse ≡ true → after_job (roll_job v named) states shelves ≡ ((with_vb_at states v rolled_to, with_shelf_at shelves v (rolled_shelf shelf point)), rolled_as.To point)
  stood_came opens pass = read_came false opens
      ∙ ask_on asked_states read_shelves v (Append (noted.Roll point)) (rolled_job v shelf.book point) shelf noted_shelf Stood (shelf_found shelves v shelf) (appended_is true opens pass)
      ∙ ask_on asked_states noted_shelves v (Keep Idle) (λ done. roll_to_job v shelf.book point) noted_shelf (rolled_shelf shelf point) tt (shelf_found read_shelves v noted_shelf) refl
      ∙ call_on asked_states (with_shelf_at noted_shelves v (rolled_shelf shelf point)) v (RollTo point (image_at shelf.book point) (cas_of_last shelf.book)) (λ reply. Ended (rolled_by reply)) fv rolled_to (quiet_reply (Num point)) (put_found states v fv)
      (ap (λ b. if b then (rolled_to, quiet_reply (Num point)) else (fv, refusal_reply NotMyVbucket)) follows)
      ∙ (λ i. ((put_over states v fv rolled_to i, (shelf_over read_shelves v noted_shelf (rolled_shelf shelf point) ∙ shelf_over shelves v shelf (rolled_shelf shelf point)) i), rolled_as.To point))
