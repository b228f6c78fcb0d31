-- behind what a vBucket took of its stream, all was acknowledged that is due
use Rattle.std.specs.Prelude.{◌≡◌, ◌≤◌, ◌==◌, ◌∷◌, if◌then◌else◌}
use Rattle.std.specs.FinMap as finite
use Rattle.transcript_law.proofs.Words.{ℕ, Bool, true, false, List, [], refl, ap, sym, ◌∙◌, subst, arith, ⊎_elim, inl, inr, map, Some, Chronicle, Dial, Event, Member, Plain, PlainWorld, StreamName, after_lines, eqb-false, fork_of, image_in, image_of, last_seq, list_any, Pend}
use Rattle.transcript_law.proofs.invariant.{Agreement.{AckedIs, AgreesAt, DiskIsIf, LinkAgrees, VbAgrees, all_rise, consumer_seat, image_is, shelf_of}, Waiting.{pends_low}}
use Rattle.transcript_law.proofs.{disks.Disks.{saved_so}, links.Acknowledging.{entry_waits}, links.Downing.{Asker, Going, Line, Met, link_now, linked, now}, links.Onward.{Kept}}
use Rattle.transcript_law.specs.Undone.{AllAcknowledged, IsDue, is_taking, newest}
use Rattle.durability.{proofs.Dues.{due_greatest}, specs.Laws.{IsPending, ThirdsSaved}, specs.Pending.{due}}
use Rattle.vb_calls.specs.Durable.{pending_prepares}
use Rattle.vbucket.proofs.Backing.{Entry, IsEntry, entry_is_found, found_entry}

-- a prepare that waits is at a key
pub pend_in : (es : List Entry) (p : Pend) → IsPending p (map (λ e. e.1) es) → (e : Entry) × IsEntry e es × (p ≡ e.1)
pend_in [] p i = absurd i
pend_in (x ∷ es) p i = ⊎_elim (λ s. (x, inl refl, s)) (λ j. let (e, is, same) = pend_in es p j in (e, inr is, same)) i

-- what is due at a vBucket that agrees is no less than a prepare that is due by the lines
module _ (r : Chronicle) (n v : ℕ) (kn : Member) (fv : Plain) (held : VbAgrees r n v kn fv) (saved : fv.saved ≡ (r.disk_at n v).saved) (e : Pend) (owed : IsDue r n v e) where
  same_image : image_of (r.held n v) ≡ image_in fv
  same_image = ap image_of held.held ∙ sym (image_is held.kept)

  high : last_seq 0 (r.held n v) ≡ fv.position.at
  high = ap (last_seq 0) held.held ∙ held.high

  abbrev key : List ℕ
  key = owed.waits.0

  waiting : IsPending e (pending_prepares fv)
  waiting =
      let es : List Entry = finite.entries (image_in fv).pending in
      entry_waits es (key, e) (found_entry es key e (sym (finite.get-entries (image_in fv).pending key) ∙ subst (λ i. finite.get i.pending key ≡ Some e) same_image owed.waits.1))

  low : e.seq ≤ fork_of fv.position
  low = by (fv.position.at == fv.position.se) refl
    where
      by : (b : Bool) → (fv.position.at == fv.position.se) ≡ b → e.seq ≤ (if b then fv.position.at else fv.position.ss)
      by true q = pends_low 0 fv.position.at kn.held key e (all_rise held.kept) (subst (λ h. finite.get (image_of h).pending key ≡ Some e) held.held owed.waits.1)
      by false q = owed.complete fv.position.ss fv.position.se held.snap (λ same. eqb-false fv.position.at fv.position.se q (sym high ∙ same))

  thirds : ThirdsSaved (pending_prepares fv) e.seq fv.saved
  thirds p is third below =
      let es : List Entry = finite.entries (image_in fv).pending in
      let (x, inside, same) = pend_in es p is in
      let found : finite.get (image_in fv).pending x.0 ≡ Some x.1 = finite.get-entries (image_in fv).pending x.0 ∙ entry_is_found es x (finite.entries_sorted (image_in fv).pending) inside in
      let told : finite.get (image_of (r.held n v)).pending x.0 ≡ Some p = subst (λ i. finite.get i.pending x.0 ≡ Some p) (sym same_image) (found ∙ ap Some (sym same)) in
      let l : p.seq ≤ (r.disk_at n v).saved = owed.thirds x.0 p told third below in omega (arith, l, saved)

  owed_most : e.seq ≤ due (pending_prepares fv) (fork_of fv.position) fv.saved
  owed_most = due_greatest (pending_prepares fv) (fork_of fv.position) fv.saved e waiting low thirds

-- so at the end of a line `down`
pub all_acked : (line : Line) (states : Kept) (at : Asker) (events : List Event) (g : Going line [] states at events) → Met line states at events → list_any is_taking events ≡ true → AllAcknowledged (after_lines line.r events) line.link.consumer.dialed.link
all_acked line states at events g met takes dial s dialed is e owed =
    let n : ℕ = line.link.consumer.dialed.node in let v : ℕ = line.link.consumer.dialed.vb in let l : ℕ = line.link.consumer.dialed.link in
    let r : Chronicle = after_lines line.r events in let w : PlainWorld = now line states at in
    let la : LinkAgrees w r g.cluster (link_now line at) [] [] = linked line [] states at events g in
    let own : Dial = record { producer = line.link.server.desk.node; node = n; vb = v } in
    let is_own : Some dial ≡ Some own = sym dialed ∙ la.dialed in let same : dial ≡ own = cc in
    let told : r.stream_of (StreamName.Link l) v ≡ Some s = subst (λ (d : Dial). r.stream_of (StreamName.Link l) d.vb ≡ Some s) same is in
    let mine : IsDue r n v e = subst (λ (d : Dial). IsDue r d.node d.vb e) same owed in
    let acked : at.acked ≡ newest s.wrote = subst (λ o. AckedIs o at.acked) told la.acks in
    let kn : Member = g.cluster.nodes (consumer_seat line.link) in
    let held : VbAgrees r n v kn la.follower = subst (AgreesAt r n v kn) la.follower_is (g.agrees.vbs n v) in
    let saved : la.follower.saved ≡ (r.disk_at n v).saved = saved_so (r.disk_at n v) (g.cluster.disks (consumer_seat line.link)) (shelf_of w n v) la.follower (subst (DiskIsIf (r.disk_at n v) (g.cluster.disks (consumer_seat line.link)) (shelf_of w n v)) la.follower_is (g.agrees.disks n v)) in
    let most : e.seq ≤ due (pending_prepares la.follower) (fork_of la.follower.position) la.follower.saved = owed_most r n v kn la.follower held saved e mine in
    let met_now : due (pending_prepares la.follower) (fork_of la.follower.position) la.follower.saved ≤ at.acked = (met takes).1 la.follower la.follower_is in
    omega (arith, most, met_now, acked)
