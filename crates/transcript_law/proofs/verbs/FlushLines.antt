-- the lines `take`, `done` and `stat`
use Rattle.std.specs.Prelude.{◌≡◌, ◌<◌, ◌≤◌, ◌∷◌, ◌++◌, ◌&&◌, if◌then◌else◌}
use Rattle.transcript_law.proofs.Words.{ℕ, after_lines, All, Bool, true, false, List, [], length, refl, ap, sym, ◌∙◌, subst, arith, Option, Some, None, eq-eqb, ne_eqb, Answer, Cause, Event, Plain, States, with_vb_at, VbCall, Span, after_job, PlainNode, PlainWorld}
use Rattle.transcript_law.proofs.Words.{with_node_at, vb_in, shelf_in, Chronicle, Cluster, Move, happens, keeps, Sound, StaysSound, Position, Change, last_seq, Covers, IsIn, Rises, on_node, admin_line, AdminCall, call_at, Outcome, ground, rises_in, rises_le, upto, above}
use Rattle.transcript_law.proofs.Words.{VbAnswer, VbReply, newest_branch, quiet_reply, is_some, with_states}
use Rattle.transcript_law.proofs.{invariant.Agreement.{AgreesAt, AgreesIn, Agrees, DiskIsIf, GoesOn, VbAgrees, all_rise, idle, shelf_of, top, vb_of}, disks.Appending.{Rewritten, row_there, told_disk, unwritten}, disks.Disks.{FlushIs, ShelfIs, parts_of}, disks.Flushed.{flush_came}}
use Rattle.transcript_law.proofs.{invariant.JobSteps.{ask_on, call_on, put_found, put_over, same_shelf, shelf_found}, links.Marking.{covers_more}, verbs.NodeLines.{admin_by, agrees_same, as_told, node_changed, node_grown, shelves_again, on_node_by, put_same, refused_on, node_of_same_vbs, written_agrees, written_rests}}
use Rattle.transcript_law.proofs.{invariant.OneLink.{disk_here, disk_there}, invariant.Seats.{seat, seats_apart}, invariant.Tables.{at_here, at_there}, links.Turning.{put_itself}, invariant.Wholes.{IsSpanIn}}
use Rattle.{branch_model.specs.Journals.{place_of, points}, cluster_model.proofs.Backfilling.{higher_end}, cluster_model.specs.Clusters.{Disk, Fits, IsSpot}, node_core.specs.Flushing.{FlushResult, flush_at, flush_result}, node_world.specs.Nodes.{flush_line, with_kept, with_posts, written}}
use Rattle.{transcript_law.specs.Chronicles.{DiskKnown, Flushing, after_batch, after_done, known_log, known_batch, with_disk}, transcript_law.specs.Lawfulness.{LawfulBatch}, std.specs.Prelude.{max, nat_le, nat_lt}}
use Rattle.node_core.specs.Calls.{own_lines}
use Rattle.transcript_law.proofs.answers.{Claims.{ClaimAt, call_claims, changes_claim}, Committed.{AllHowTold, all_claimed, all_told}, Explained.{explained}, Calm.{OfDurable, durable_settled, durable_told}}
use Rattle.vbucket.proofs.RowIs.{Saves}
use Rattle.{durability.specs.declared.waiting.Waiting.{Waiting}, vb_types.specs.declared.change.Pend.{Pend}, transcript_law.specs.{Feeding.{client_in}, LawfulAnswers.{AllDurable}}}
use Rattle.transcript_law.proofs.{links.Behind.{nothing_beside, posts_behind}, invariant.Ranged.{IsRanged, NodeRanged, NodeRangedIf}, verbs.Settling.{SettlesOn, Steady, changes_quiet, changes_told, settled_told, settles}}
use Rattle.vb_calls.specs.Settling.{Resolving, also_resolved, settled, unresolved}
use Rattle.vb_calls.specs.Flushes.{batch_of_reply, finish_job, take_job, taken_job, took, took_nothing}
use Rattle.vb_calls.specs.Flushing.{batch_of, flush_from, unflushed_span}
use Rattle.vb_calls.specs.Jobs.{Ended, Call as Asks}
use Rattle.vb_calls.specs.Shelves.{Flush, Idle, Out, Written, Keep, Shelf, Shelves, with_shelf_at}
use Rattle.vb_calls.specs.Spans.{all_spans, stretch}
use Rattle.vb_calls.specs.declared.journals.Flushed.{Flushed}
use Rattle.vb_types.specs.declared.journal.{Batch.{Batch}, FlushPart.{FlushPart}}
use Rattle.vb_types.specs.declared.journal.FlushPart.TheVariants as part
use Rattle.vbucket.specs.Wholes.{BatchesAreWhole}
use Rattle.branch_model.proofs.{Images.{plain_stands}, Lasts.{kept_in_filter, rises_filter}}
use Rattle.std.proofs.lemmas.Bool.{and_from, le-leb, lt-ltb}
use Rattle.transcript_law.proofs.{disks.Batches.{at_end, fewer, saved_sound, some_items, span_found, spans_filled}, invariant.Bounded.{weighs_upto}}
use Rattle.transcript_law.proofs.invariant.Owing.{later_same}

-- a vBucket that is there, at a node that is running, and its journal
pub record There (w : PlainWorld) (r : Chronicle) (n v : ℕ) : Type 0 where
  pub c : Cluster
  pub a : AgreesIn idle w r c
  pub node : PlainNode
  pub at : w.nodes n ≡ Some node
  pub runs : is_some node.off ≡ false
  pub vb : Plain
  pub known : node.vbs v ≡ Some vb
  pub shelf : Shelf
  pub kept : node.shelves v ≡ Some shelf

module _ (w : PlainWorld) (r : Chronicle) (n v : ℕ) (there : There w r n v) where
  open there use {c, a, node, at, vb, known, shelf, kept}

  abbrev k : ℕ
  k = seat n v

  pub vb_is : vb_of w n v ≡ Some vb
  vb_is = ap (λ o. vb_in o v) at ∙ known

  pub shelf_is : shelf_of w n v ≡ Some shelf
  shelf_is = ap (λ o. shelf_in o v) at ∙ kept

  pub mine : VbAgrees r n v (c.nodes k) vb
  mine = subst (AgreesAt r n v (c.nodes k)) vb_is (a.vbs n v)

  pub disk : ShelfIs (r.disk_at n v) (c.disks k) shelf (parts_of vb)
  disk = subst (λ s. DiskIsIf (r.disk_at n v) (c.disks k) s (Some vb)) shelf_is (subst (DiskIsIf (r.disk_at n v) (c.disks k) (shelf_of w n v)) vb_is (a.disks n v))

  -- the vBucket with this taken and saved
  abbrev moved : ℕ → ℕ → Plain
  moved taken saved = record vb { flushed = taken; saved = saved }

  -- what is left after a step: the vBucket, what lines tell of its disk, its journal, and the cluster, in which its disk alone is another
  record Step (states : States) (shelves : Shelves) (taken saved : ℕ) (d : DiskKnown) : Type 0 where
    vbs : (q : ℕ) → states q ≡ with_vb_at node.vbs v (moved taken saved) q
    shelf' : Shelf
    stands : shelves v ≡ Some shelf'
    others : (q : ℕ) → (q ≡ v → ⊥) → shelves q ≡ node.shelves q
    sound : Sound (moved taken saved)
    disk : Disk
    cluster : Rewritten c k disk
    written : ShelfIs d disk shelf' (parts_of (moved taken saved))

  step_agrees : (states : States) (shelves : Shelves) (taken saved : ℕ) (d : DiskKnown) → (s : Step states shelves taken saved d) → AgreesIn idle (with_node_at w n (with_kept node (states, shelves))) (with_disk r n v d) s.cluster.now
  step_agrees states shelves taken saved d s =
      let node' : PlainNode = with_kept node (states, shelves) in let w' : PlainWorld = with_node_at w n node' in let r' : Chronicle = with_disk r n v d in let vb' : Plain = moved taken saved in let now : Cluster = s.cluster.now in
      let became = node_changed w n v node node' vb' at s.vbs s.others refl in
      written_agrees w w' r r' c now n v vb vb' a vb_is became (record { role = refl; wants = refl; fewer = λ x p o. (o.0, record { among = o.1.among; entry = o.1.entry; same = o.1.same }) }) s.cluster.nodes refl (λ j. refl) (λ j q. refl) (λ j. refl) (λ j. refl) (λ x i k has s. refl)
      s.cluster.sound s.cluster.tree (subst (λ m. VbAgrees r' n v m vb') (sym (s.cluster.nodes k)) (record {
        kept = record { sound = s.sound; spanned = mine.spanned; keeps = mine.keeps; told = mine.told; member = record { active = mine.member.active; position = mine.member.position; log = mine.member.log }; branch = mine.branch; holds = mine.holds };
        role = mine.role;
        opened = mine.opened;
        writes = mine.writes;
        counts = mine.counts;
        lefts = mine.lefts;
        times = mine.times;
      }))
      (λ m q o. subst (λ x. AgreesAt r' m q x (vb_of w m q)) (sym (s.cluster.nodes (seat m q))) (told_disk r n v d m q (c.nodes (seat m q)) (vb_of w m q) (λ e. o) (a.vbs m q)))
      (subst (λ y. DiskIsIf y (now.disks k) (shelf_of w' n v) (Some vb')) (sym (at_here r.disk_at n v d)) (subst (λ y. DiskIsIf d y (shelf_of w' n v) (Some vb')) (sym s.cluster.here)
      (subst (λ y. DiskIsIf d s.disk y (Some vb')) (sym (ap (λ b. shelf_in (if b then Some node' else w.nodes n) v) (eq-eqb n n refl) ∙ s.stands)) s.written)))
      (λ m q o. (at_there r.disk_at n v d m q o, s.cluster.there (seat m q) (seats_apart m q n v o)))
      (written_rests w w' r r' c now n v vb vb' a vb_is became (record { role = refl; wants = refl; fewer = λ x p o. (o.0, record { among = o.1.among; entry = o.1.entry; same = o.1.same }) }) s.cluster.nodes refl (λ j. refl) (λ j q. refl) (λ j. refl) (λ j. refl) (λ x i k has s. refl) (λ j. refl)
      (ap (λ (t : DiskKnown). t.there) (at_here r.disk_at n v d) ∙ s.written.there ∙ sym disk.there) (λ m q o. (row_there r n v d m q o, s.cluster.there (seat m q) (seats_apart m q n v o))))
      (λ m d. refl) (λ d k has. refl) (later_same _ _ refl refl)

module _ (stays : StaysSound) (steady : Steady) (wholes : BatchesAreWhole) (w : PlainWorld) (r : Chronicle) (n v : ℕ) (there : There w r n v) (ranged : NodeRanged n there.node) where
  open there use {c, a, node, at, vb, known, shelf, kept}

  abbrev st0 : States
  st0 = with_vb_at node.vbs v vb

  abbrev sh0 : Shelves
  sh0 = with_shelf_at node.shelves v shelf

  abbrev outcome : (States × Shelves) × Flushed → Outcome
  outcome y = let x = written node (y.0, flush_result n v y.1) in (with_node_at w n x.0, x.1)

  -- nothing is changed
  stayed : (states : States) → ((q : ℕ) → states q ≡ node.vbs q) → Agrees (with_node_at w n (with_kept node (states, sh0))) r
  stayed states same = agrees_same w (with_node_at w n (with_kept node (states, sh0))) r (c, a) (node_of_same_vbs w n node (with_kept node (states, sh0)) at same (same_shelf node.shelves v shelf kept) refl)

  once : Agrees (with_node_at w n (with_kept node (st0, sh0))) r
  once = stayed st0 (put_same node.vbs v vb known)

  member_log : (c.nodes (k w r n v there)).log ≡ vb.log
  member_log = (mine w r n v there).member.log

  -- a batch is taken
  module _ (x : Span) (idle_now : shelf.flush ≡ Idle) (next : unflushed_span vb ≡ Some x) where
    abbrev b : Batch
    b = batch_of vb x

    abbrev at_k : ℕ
    at_k = k w r n v there

    abbrev m : VbAgrees r n v (c.nodes at_k) vb
    m = mine w r n v there

    abbrev before : ShelfIs (r.disk_at n v) (c.disks at_k) shelf (parts_of vb)
    before = disk w r n v there

    abbrev place : ℕ
    place = (place_of (c.disks at_k).book).at

    found : IsSpanIn x (all_spans vb.spans) × (vb.flushed < x.last)
    found = span_found vb.flushed (all_spans vb.spans) x next

    flush_now : FlushIs shelf.is_closed Idle (r.disk_at n v).flushing (c.disks at_k).batch vb.flushed place
    flush_now = subst (λ f. FlushIs shelf.is_closed f (r.disk_at n v).flushing (c.disks at_k).batch vb.flushed place) idle_now before.flush

    low : place ≤ vb.flushed
    low = flush_now.2

    ends : b.position.at ≡ x.last
    ends = at_end x.origin x.last

    covers : Covers b.items (c.nodes at_k).held vb.flushed b.position.at
    covers = covers_more vb.floor m.below vb.held (c.nodes at_k).held b.items vb.flushed b.position.at m.parts m.low m.sound.flushed.0 (wholes vb b m.sound (ap (λ o. (flush_from o vb).1.answer) next))

    spot : IsSpot b.position (c.disks at_k).stood
    spot = before.spots x found.0 (let l : vb.flushed < x.last = found.1 in let k = low in omega arith)

    abbrev states' : States
    states' = with_vb_at st0 v (moved w r n v there x.last vb.saved)

    abbrev shelf' : Shelf
    shelf' = record shelf { flush = Out b }

    came : after_job (take_job v Idle) st0 sh0 ≡ ((states', with_shelf_at sh0 v shelf'), took b)
    came = call_on st0 sh0 v VbCall.FlushTake (λ reply. taken_job v (λ batch. Ended (took batch)) (batch_of_reply reply)) vb (flush_from (unflushed_span vb) vb).0 (flush_from (unflushed_span vb) vb).1 (put_found node.vbs v vb) refl
        ∙ ap (λ o. after_job (taken_job v (λ batch. Ended (took batch)) (batch_of_reply (Some (flush_from o vb).1))) (with_vb_at st0 v (flush_from o vb).0) sh0) next
        ∙ ask_on states' sh0 v (Keep (Out b)) (λ done. Ended (took b)) shelf shelf' tt (shelf_found node.shelves v shelf) refl

    -- the member's disk with it: one that is taken while the journal is closed is never appended
    record TakenBatch : Type 0 where
      batch : Option Batch
      is : shelf.is_closed ≡ false → batch ≡ Some b
      cluster : Rewritten c at_k (record (c.disks at_k) { batch = batch })

    taken_batch : TakenBatch
    taken_batch = by shelf.is_closed refl
      where
        by : (closed : Bool) → shelf.is_closed ≡ closed → TakenBatch
        by true e = record { batch = (c.disks at_k).batch; is = λ f. let z : true ≡ false = sym e ∙ f in cc; cluster = unwritten c at_k a.sound }
        by false e = record {
          batch = Some b;
          is = λ f. refl;
          cluster = subst (λ l. Rewritten c at_k (record (c.disks at_k) { batch = Some (record { position = b.position; cas = b.cas; log = l; items = b.items }) })) member_log (record {
            now = happens c (Move.Take at_k b.position b.cas b.items);
            sound = keeps top c (Move.Take at_k b.position b.cas b.items) a.sound ((spot, subst (λ p. Covers b.items (c.nodes at_k).held p b.position.at) (flush_now.1 e) covers), weighs_upto vb.last_cas b.position.at (c.nodes at_k).held m.weighs);
            nodes = λ j. put_itself c.nodes at_k j;
            tree = refl;
            here = disk_here c.disks at_k (record (c.disks at_k) { batch = Some (record { position = b.position; cas = b.cas; log = (c.nodes at_k).log; items = b.items }) });
            there = λ j ne. disk_there c.disks at_k (record (c.disks at_k) { batch = Some (record { position = b.position; cas = b.cas; log = (c.nodes at_k).log; items = b.items }) }) j ne;
          });
        }

    abbrev taken_told : DiskKnown
    taken_told = record (r.disk_at n v) { flushing = Flushing.Taken (known_batch b.position b.log); taken = b.position.at }

    taken_shelf : ShelfIs taken_told (record (c.disks at_k) { batch = taken_batch.batch }) shelf' (parts_of (moved w r n v there x.last vb.saved))
    taken_shelf = record {
      book = before.book;
      told_book = before.told_book;
      late = before.late;
      told_late = before.told_late;
      none_late = before.none_late;
      unarmed = before.unarmed;
      there = before.there;
      closed = before.closed;
      flush = (refl, taken_batch.is, sym ends, (let l : vb.flushed < b.position.at = covers.goes_on in let k = low in omega arith), m.sound.last_cas);
      saved = before.saved;
      taken = ends;
      spots = before.spots;
      floor = before.floor;
      cas = before.cas;
      late_cas = before.late_cas;
      ended = before.ended;
      written = λ seq e. let z : Out b ≡ Written seq = e in cc;
    }

    agrees : Agrees (with_node_at w n (with_kept node (states', with_shelf_at sh0 v shelf'))) (after_batch r n v b.position)
    agrees = subst (λ l. Agrees (with_node_at w n (with_kept node (states', with_shelf_at sh0 v shelf'))) (with_disk r n v (record (r.disk_at n v) { flushing = Flushing.Taken (known_batch b.position (known_log l)); taken = b.position.at }))) (sym m.log) (
      taken_batch.cluster.now,
      step_agrees w r n v there states' (with_shelf_at sh0 v shelf') x.last vb.saved taken_told (record {
        vbs = λ q. ap (λ s. s q) (put_over node.vbs v vb (moved w r n v there x.last vb.saved));
        shelf' = shelf';
        stands = shelf_found sh0 v shelf';
        others = λ q o. ap (λ b. if b then Some shelf' else sh0 q) (ne_eqb q v o) ∙ ap (λ b. if b then Some shelf else node.shelves q) (ne_eqb q v o);
        sound = subst (λ o. Sound (flush_from o vb).0) next (stays vb VbCall.FlushTake m.sound tt);
        disk = record (c.disks at_k) { batch = taken_batch.batch };
        cluster = taken_batch.cluster;
        written = taken_shelf;
      }),
    )

    fits : Fits (ground c) (c.nodes at_k).br (c.nodes at_k).held (c.nodes at_k).position (c.nodes at_k).points b.position
    fits = (a.sound.kept at_k).stood b.position spot

    pub some : 0 < length b.items
    some = some_items vb.flushed b.position.at b.items covers.goes_on covers.reaches

    -- where the last batch that was taken ended, as the lines tell it
    abbrev last : ℕ
    last = (r.disk_at n v).taken

    -- its changes are among those that the vBucket holds there
    among : (y : Change) → IsIn y b.items → (z : Change) × IsIn z (stretch last b.position.at (r.held n v)) × (y.seq ≡ z.seq)
    among y i =
        let (z, there_z, as_) = covers.remains.of y i in let level : y.seq ≡ z.seq = ap (λ (q : Change). q.seq) (plain_stands y z as_) in
        let within = rises_in vb.flushed b.position.at b.items y covers.remains.rises i in
        let above_is : vb.flushed < y.seq = within.0 in let high : y.seq ≤ b.position.at = within.1 in let e : last ≡ vb.flushed = before.taken in (
          z,
          kept_in_filter (λ q. nat_lt last q.seq && nat_le q.seq b.position.at) z (r.held n v) (subst (IsIn z) (sym m.held) there_z)
              (and_from (nat_lt last z.seq) (nat_le z.seq b.position.at) (lt-ltb last z.seq (omega arith)) (le-leb z.seq b.position.at (omega arith))),
          level,
        )

    lawful : LawfulBatch r n v b.position (length b.items)
    lawful = record {
      idle = flush_now.0;
      goes_on = let e : last ≡ vb.flushed = before.taken in let l : vb.flushed < b.position.at = covers.goes_on in omega arith;
      held = let l : b.position.at ≤ (c.nodes at_k).position.at = fits.reached in let e : (c.nodes at_k).position.at ≡ vb.position.at = ap (λ (p : Position). p.at) m.member.position in
          let h : last_seq 0 (r.held n v) ≡ vb.position.at = ap (last_seq 0) m.held ∙ m.high in omega arith;
      starts = rises_le b.position.ss b.position.at (above (upto (c.nodes at_k).held b.position.at) b.position.ss) fits.follows.rises;
      ends = fits.follows.within;
      some = some;
      most = fewer vb.flushed b.position.at 0 vb.position.at b.items (stretch last b.position.at (r.held n v)) covers.remains.rises
          (rises_filter (λ q. nat_lt last q.seq && nat_le q.seq b.position.at) 0 vb.position.at (r.held n v) (subst (Rises 0 vb.position.at) (sym m.held) (all_rise m.kept))) among;
    }

  -- `take`, by the batch that is on its way
  take_by : (flush : Flush) → shelf.flush ≡ flush → GoesOn r as_told (outcome (after_job (take_job v flush) st0 sh0))
  take_by (Out batch) e = (tt, once)
  take_by (Written seq) e = (tt, once)
  take_by Idle e = by (unflushed_span vb) refl
    where
      none : unflushed_span vb ≡ None → after_job (take_job v Idle) st0 sh0 ≡ ((with_vb_at st0 v vb, sh0), took_nothing)
      none q = call_on st0 sh0 v VbCall.FlushTake (λ reply. taken_job v (λ batch. Ended (took batch)) (batch_of_reply reply)) vb (flush_from (unflushed_span vb) vb).0 (flush_from (unflushed_span vb) vb).1 (put_found node.vbs v vb) refl
          ∙ ap (λ o. after_job (taken_job v (λ batch. Ended (took batch)) (batch_of_reply (Some (flush_from o vb).1))) (with_vb_at st0 v (flush_from o vb).0) sh0) q

      by : (o : Option Span) → unflushed_span vb ≡ o → GoesOn r as_told (outcome (after_job (take_job v Idle) st0 sh0))
      by None q = subst (λ y. GoesOn r as_told (outcome y)) (sym (none q)) (tt, stayed (with_vb_at st0 v vb) (λ q. ap (λ s. s q) (put_over node.vbs v vb vb) ∙ put_same node.vbs v vb known q))
      by (Some x) q =
          let b : Batch = batch_of vb x in
          subst (λ y. GoesOn r as_told (outcome y)) (sym (came x e q))
          (subst (λ k. GoesOn r as_told (with_node_at w n (with_kept node (states' x e q, with_shelf_at sh0 v (shelf' x e q))), record { events = (if k then [] else Event.Batch n v b.position.ss b.position.se b.position.at (length b.items) ∷ []) ++ []; answer = Answer.Number (length b.items) }))
          (sym (ne_eqb (length b.items) 0 (λ z. let l : 0 < length b.items = some x e q in absurd (omega arith))))
          ((lawful x e q, tt), agrees x e q))

  pub take_there : GoesOn r as_told (with_node_at w n (flush_line n v part.Take node).0, (flush_line n v part.Take node).1)
  take_there = subst (λ y. GoesOn r as_told (let x = written node y in (with_node_at w n x.0, x.1))) (sym (flush_came n v part.Take node.vbs node.shelves vb (Some shelf) known kept)) (take_by shelf.flush refl)

  -- `done`: what counts as saved is told before what is committed for it
  abbrev done_from : Answer → Chronicle
  done_from said = after_done r n v said

  module _ (seq : ℕ) (written_now : shelf.flush ≡ Written seq) where
    abbrev done_k : ℕ
    done_k = k w r n v there

    abbrev finishing : ShelfIs (r.disk_at n v) (c.disks done_k) shelf (parts_of vb)
    finishing = disk w r n v there

    written_is : FlushIs shelf.is_closed (Written seq) (r.disk_at n v).flushing (c.disks done_k).batch vb.flushed (place_of (c.disks done_k).book).at
    written_is = subst (λ f. FlushIs shelf.is_closed f (r.disk_at n v).flushing (c.disks done_k).batch vb.flushed (place_of (c.disks done_k).book).at) written_now finishing.flush

    abbrev saved_now : ℕ
    saved_now = max vb.saved seq

    abbrev done_states : States
    done_states = with_vb_at st0 v (moved w r n v there vb.flushed saved_now)

    abbrev done_shelf : Shelf
    done_shelf = record shelf { flush = Idle }

    abbrev done_disk : DiskKnown
    done_disk = record (r.disk_at n v) { flushing = Flushing.Idle; saved = saved_now }

    -- what it lets the vBucket commit
    abbrev saved_vb : Plain
    saved_vb = moved w r n v there vb.flushed saved_now

    abbrev made : Resolving
    made = settled saved_vb

    abbrev done_reply : VbReply
    done_reply = (also_resolved (quiet_reply (VbAnswer.Num saved_now)) made).1

    abbrev last_states : States
    last_states = with_vb_at st0 v made.vb

    done_came : after_job (finish_job v (Written seq)) st0 sh0 ≡ ((last_states, with_shelf_at sh0 v done_shelf), Flushed.Done (Some done_reply))
    done_came = ask_on st0 sh0 v (Keep Idle) (λ kept. Asks v (VbCall.FlushDone seq) (λ reply. Ended (Flushed.Done reply))) shelf done_shelf tt (shelf_found node.shelves v shelf) refl
        ∙ call_on st0 (with_shelf_at sh0 v done_shelf) v (VbCall.FlushDone seq) (λ reply. Ended (Flushed.Done reply)) vb made.vb done_reply (put_found node.vbs v vb) refl

    -- it counts as saved
    saved_agrees : Agrees (with_node_at w n (with_kept node (done_states, with_shelf_at sh0 v done_shelf))) (with_disk r n v done_disk)
    saved_agrees = (
      _,
      step_agrees w r n v there done_states (with_shelf_at sh0 v done_shelf) vb.flushed saved_now done_disk (record {
        vbs = λ q. ap (λ s. s q) (put_over node.vbs v vb (moved w r n v there vb.flushed saved_now));
        shelf' = done_shelf;
        stands = shelf_found sh0 v done_shelf;
        others = λ q o. ap (λ b. if b then Some done_shelf else sh0 q) (ne_eqb q v o) ∙ ap (λ b. if b then Some shelf else node.shelves q) (ne_eqb q v o);
        sound = saved_sound vb saved_now (mine w r n v there).sound (let x : vb.floor ≤ vb.saved = (mine w r n v there).sound.saved in omega arith);
        disk = c.disks done_k;
        cluster = unwritten c done_k a.sound;
        written = record {
          book = finishing.book;
          told_book = finishing.told_book;
          late = finishing.late;
          told_late = finishing.told_late;
          none_late = finishing.none_late;
          unarmed = finishing.unarmed;
          there = finishing.there;
          closed = finishing.closed;
          flush = (refl, written_is.1, written_is.2);
          saved = refl;
          taken = finishing.taken;
          spots = finishing.spots;
          floor = finishing.floor;
          cas = finishing.cas;
          late_cas = finishing.late_cas;
          ended = higher_end vb.saved seq (points (c.disks done_k).book) finishing.ended (finishing.written seq written_now);
          written = λ m e. let z : Idle ≡ Written m = e in cc;
        };
      }),
    )

    abbrev saved_node : PlainNode
    saved_node = with_kept node (done_states, with_shelf_at sh0 v done_shelf)

    abbrev last_node : PlainNode
    last_node = with_kept node (last_states, with_shelf_at sh0 v done_shelf)

    settles_on : SettlesOn (with_node_at w n saved_node) (with_disk r n v done_disk) n v (unresolved saved_vb) made
    settles_on = settles steady.commits n v (with_node_at w n saved_node) (with_disk r n v done_disk) saved_agrees.0 saved_node saved_vb saved_agrees.1
        (ap (λ b. if b then Some saved_node else w.nodes n) (eq-eqb n n refl)) (put_found st0 v saved_vb)

    abbrev branch_is : ℕ
    branch_is = newest_branch vb.log

    told_is : own_lines n v done_reply ≡ changes_told n v branch_is settles_on.cs
    told_is = settled_told n v (quiet_reply (VbAnswer.Num saved_now)) saved_vb branch_is settles_on.cs refl settles_on.changes (ap newest_branch settles_on.log)

    abbrev saved_as_known : Chronicle
    saved_as_known = done_from (Answer.Number saved_now)

    done_goes_on : GoesOn saved_as_known as_told (with_node_at w n last_node, record { events = changes_told n v branch_is settles_on.cs; answer = Answer.Number saved_now })
    done_goes_on = (
      settles_on.lawful,
      settles_on.agrees (with_node_at w n last_node)
          (node_grown w n v saved_node last_node made.vb (λ q. sym (ap (λ (f : States). f q) (put_over st0 v saved_vb made.vb))) (λ q o. refl) refl)
          (shelves_again w n saved_node last_node (λ q. refl) n v),
    )

    abbrev done_lines : List Event → FlushResult
    done_lines lines = record { events = lines; answer = Answer.Number saved_now; resolved = done_reply.resolved }

    abbrev Claim : ℕ → Waiting → Pend → Type 0
    Claim = ClaimAt r n node.clients

    done_agrees : AllDurable r.made → GoesOn saved_as_known as_told (outcome ((last_states, with_shelf_at sh0 v done_shelf), Flushed.Done (Some done_reply)))
    done_agrees calm = subst (λ (lines : List Event). let x = with_posts (done_lines lines) last_node in GoesOn saved_as_known as_told (with_node_at w n x.0, x.1)) (sym told_is)
        (posts_behind stays steady w saved_as_known n last_node (done_lines (changes_told n v branch_is settles_on.cs)) as_told nothing_beside (record { clock = ranged.clock; clients = ranged.clients; own = ranged.own; runs = ranged.runs })
        (all_claimed n (after_lines saved_as_known (changes_told n v branch_is settles_on.cs)) Claim (ClaimAt (after_lines saved_as_known (changes_told n v branch_is settles_on.cs)) n node.clients) done_reply.resolved
        (changes_claim saved_as_known n v branch_is settles_on.cs node.clients)
        (subst (λ ls. AllHowTold n (after_lines saved_as_known ls) Claim done_reply.resolved) told_is
        (all_told saved_as_known n v done_reply.branch Claim done_reply.changes vb (VbCall.FlushDone seq) done_reply.resolved tt (call_claims w r n v vb (VbCall.FlushDone seq) node.clients tt a.clients.owed (ap (λ o. vb_in o v) at ∙ known) (λ q. ap (λ o. client_in o q) at))
        (explained vb (Saves seq) (mine w r n v there).sound tt))))
        (durable_told saved_as_known n v branch_is settles_on.cs (subst (All OfDurable) settles_on.changes (durable_settled saved_vb)) calm)
        (changes_quiet n v branch_is settles_on.cs) done_goes_on)

  done_by : AllDurable r.made → (flush : Flush) → shelf.flush ≡ flush → (let y = outcome (after_job (finish_job v flush) st0 sh0) in GoesOn (done_from y.1.answer) as_told y)
  done_by calm Idle e = (tt, once)
  done_by calm (Out b) e = (tt, once)
  done_by calm (Written seq) e = subst (λ y. GoesOn (done_from (outcome y).1.answer) as_told (outcome y)) (sym (done_came seq e)) (done_agrees seq e calm)

  pub done_there : AllDurable r.made → GoesOn (done_from (flush_line n v part.Done node).1.answer) as_told (with_node_at w n (flush_line n v part.Done node).0, (flush_line n v part.Done node).1)
  done_there calm = subst (λ y. let x = written node y in GoesOn (done_from x.1.answer) as_told (with_node_at w n x.0, x.1)) (sym (flush_came n v part.Done node.vbs node.shelves vb (Some shelf) known kept)) (done_by calm shelf.flush refl)

-- the vBucket of a line, and its journal
pub there_is : (w : PlainWorld) (r : Chronicle) (n v : ℕ) (c : Cluster) (a : AgreesIn idle w r c) (node : PlainNode) (at : w.nodes n ≡ Some node) (vb : Plain) (known : node.vbs v ≡ Some vb) (o : Option Shelf) → node.shelves v ≡ o
    → (shelf : Shelf) × (node.shelves v ≡ Some shelf)
there_is w r n v c a node at vb known None e =
    let vb_is : vb_of w n v ≡ Some vb = ap (λ o. vb_in o v) at ∙ known in let shelf_is : shelf_of w n v ≡ None = ap (λ o. shelf_in o v) at ∙ e in
    absurd (subst (λ s. DiskIsIf (r.disk_at n v) (c.disks (seat n v)) s (Some vb)) shelf_is (subst (DiskIsIf (r.disk_at n v) (c.disks (seat n v)) (shelf_of w n v)) vb_is (a.disks n v)))
there_is w r n v c a node at vb known (Some shelf) e = (shelf, e)

abbrev pub there_at_vb : (w : PlainWorld) (r : Chronicle) (n v : ℕ) → Agrees w r → (node : PlainNode) → w.nodes n ≡ Some node → is_some node.off ≡ false → (vb : Plain) → node.vbs v ≡ Some vb → There w r n v
there_at_vb w r n v a node at runs vb known =
    let s = there_is w r n v a.0 a.1 node at vb known (node.shelves v) refl in
    record { c = a.0; a = a.1; node = node; at = at; runs = runs; vb = vb; known = known; shelf = s.0; kept = s.1 }

-- a line that takes a step of writing down, from what its answer tells before its lines are read
steps_go : (from : Answer → Chronicle) (w : PlainWorld) (r : Chronicle) (n v : ℕ) (p : FlushPart) → ((why : Cause) → from (Answer.No why) ≡ r) → Agrees w r
    → ((t : There w r n v) → GoesOn (from (flush_line n v p t.node).1.answer) as_told (with_node_at w n (flush_line n v p t.node).0, (flush_line n v p t.node).1))
    → GoesOn (from (on_node w n (flush_line n v p)).1.answer) as_told (on_node w n (flush_line n v p))
steps_go from w r n v p refused a goes = on_node_by (λ x. GoesOn (from x.1.answer) as_told x) w n (flush_line n v p) (tt, subst (Agrees w) (sym (refused Cause.UnknownNode)) a)
    (λ node at. (tt, subst (Agrees (with_node_at w n node)) (sym (refused Cause.NodeDown)) (refused_on w r n node Cause.NodeDown a at).1)) (λ node at runs. by node at runs (node.vbs v) refl)
  where
    by : (node : PlainNode) → w.nodes n ≡ Some node → is_some node.off ≡ false → (o : Option Plain) → node.vbs v ≡ o → GoesOn (from (flush_line n v p node).1.answer) as_told (with_node_at w n (flush_line n v p node).0, (flush_line n v p node).1)
    by node at runs None e = subst (λ y. let x = written node y in GoesOn (from x.1.answer) as_told (with_node_at w n x.0, x.1))
        (ap (λ (o : Option Plain). after_job (flush_at n v p (is_some o)) node.vbs node.shelves) (sym e)) (
          tt,
          subst (Agrees (with_node_at w n (with_kept node (node.vbs, node.shelves)))) (sym (refused Cause.UnknownVb))
              (agrees_same w (with_node_at w n (with_kept node (node.vbs, node.shelves))) r a (node_of_same_vbs w n node (with_kept node (node.vbs, node.shelves)) at (λ q. refl) (λ q. refl) refl)),
        )
    by node at runs (Some vb) e = goes (there_at_vb w r n v a node at runs vb e)

module _ (stays : StaysSound) (steady : Steady) (wholes : BatchesAreWhole) (w : PlainWorld) (r : Chronicle) (n v : ℕ) (ranged : IsRanged w) (a : Agrees w r) where
  there_ranged : (t : There w r n v) → NodeRanged n t.node
  there_ranged t = subst (NodeRangedIf n) t.at (ranged n)

  pub take_goes : GoesOn r as_told (on_node w n (flush_line n v part.Take))
  take_goes = steps_go (λ said. r) w r n v part.Take (λ why. refl) a (λ t. take_there stays steady wholes w r n v t (there_ranged t))

  -- `done`, before what feeds the vBucket acknowledges what is due
  pub done_node_goes : AllDurable r.made → GoesOn (after_done r n v (on_node w n (flush_line n v part.Done)).1.answer) as_told (on_node w n (flush_line n v part.Done))
  done_node_goes calm = steps_go (λ said. after_done r n v said) w r n v part.Done (λ why. refl) a (λ t. done_there stays steady wholes w r n v t (there_ranged t) calm)

-- `stat`

pub stat_goes : (w : PlainWorld) (r : Chronicle) (n v : ℕ) (node : PlainNode) → Agrees w r → w.nodes n ≡ Some node → is_some node.off ≡ false
    → GoesOn r as_told (with_node_at w n (admin_line n v AdminCall.Stat node).0, (admin_line n v AdminCall.Stat node).1)
stat_goes w r n v node a at runs = by (node.vbs v) refl
  where
    by : (o : Option Plain) → node.vbs v ≡ o → GoesOn r as_told (admin_by w n v AdminCall.Stat node (call_at node.vbs v VbCall.Stat o))
    by None e = refused_on w r n node Cause.UnknownVb a at
    by (Some vb) e =
        let t : There w r n v = there_at_vb w r n v a node at runs vb e in
        let m = mine w r n v t in let d = disk w r n v t in
        let node' : PlainNode = with_states node (with_vb_at node.vbs v vb) in (
          (
            record {
              saved_as_known = sym d.saved;
              high_held = sym (ap (last_seq 0) m.held ∙ m.high);
              flusher = omega arith;
              filled = spans_filled vb.floor vb.position.at vb.held (all_spans vb.spans) m.sound.spans m.sound.tidy;
            },
            tt,
          ),
          agrees_same w (with_node_at w n node') r a (node_of_same_vbs w n node node' at (put_same node.vbs v vb e) (λ q. refl) refl),
        )
