-- `trim N V`: a vBucket gives up spans that are needed no more
use Rattle.std.specs.Prelude.{◌≡◌, ◌≤◌, ◌++◌, length}
use Rattle.transcript_law.proofs.Words.{ℕ, arith, refl, ap, sym, ◌∙◌, subst, Option, Some, None, append_assoc, fold, nothing, AdminCall, Cause, Chronicle, Cluster, Plain, PlainNode, PlainWorld, StaysSound, VbCall, admin_line, call_at, holds_fewer, on_node, upto, vb_in, with_node_at, with_states, with_vb_at}
use Rattle.branch_model.{proofs.Lists.{rises_append, rises_upto}, specs.Journals.{place_of}}
use Rattle.cluster_model.specs.Clusters.{Disk}
use Rattle.std.proofs.lemmas.List.Sums.{fold-append}
use Rattle.std.specs.FinMap.{get}
use Rattle.transcript_law.proofs.disks.{Disks.{DiskIsIf, Parts, ShelfIs, shelf_of}, Ends.{saved_low}}
use Rattle.transcript_law.proofs.invariant.{Agreement.{Agrees, AgreesAt, AgreesIn, GoesOn, VbAgrees, idle, own_history, vb_of}, Carrying.{Changed}, Holdings.{Keeps}, Owing.{later_same}, Seats.{seat}, Wholes.{WholeTo, all_trimmed, few_trimmed, spanned_trimmed, trimmed_spans, whole_trimmed}}
use Rattle.transcript_law.proofs.verbs.NodeLines.{admin_by, as_told, changed_agrees, node_changed, on_node_by, on_node_goes, refused_on, shelves_again, shelves_put}
use Rattle.transcript_law.specs.{Chronicles.{DiskKnown}, LineAnswers.{IsTrimmed}}
use Rattle.vb_events.specs.declared.event.Answer.TheVariants.{Number}
use Rattle.vb_calls.specs.{Shelves.{Shelf}, Trims.{ended_by, needless_to, trim_floor, trimmed_vb}}
use Rattle.vb_types.specs.Images.{Picture, applied}
use Rattle.vbucket.proofs.Trimmed.{above, needless_low, parted, trimmed_image, trimmed_left}

-- its journal, which goes at least up to what counts as saved
trimmed_shelf : {told : DiskKnown} {d : Disk} {shelf : Shelf} {x : Parts} (n f : ℕ) → f ≤ (place_of d.book).at → ShelfIs told d shelf x → ShelfIs told d shelf (record x { floor = f; spans = trimmed_spans n x.spans })
trimmed_shelf {d = d} {x = x} n f low a = record {
  book = a.book;
  told_book = a.told_book;
  late = a.late;
  told_late = a.told_late;
  none_late = a.none_late;
  unarmed = a.unarmed;
  there = a.there;
  closed = a.closed;
  flush = a.flush;
  saved = a.saved;
  taken = a.taken;
  spots = λ w i l. a.spots w (all_trimmed n x.spans w i) l;
  floor = low;
  cas = a.cas;
  late_cas = a.late_cas;
  ended = a.ended;
  written = a.written;
}

module _ (stays : StaysSound) (w w' : PlainWorld) (r : Chronicle) (c : Cluster) (n v : ℕ) (vb : Plain) (a : AgreesIn idle w r c) (known : vb_of w n v ≡ Some vb) (became : Changed w w' n v (trimmed_vb vb) w.links) (shelf : shelf_of w' n v ≡ shelf_of w n v) where
  abbrev vb' : Plain
  vb' = trimmed_vb vb

  abbrev f : ℕ
  f = trim_floor vb

  old : VbAgrees r n v (c.nodes (seat n v)) vb
  old = subst (AgreesAt r n v (c.nodes (seat n v))) known (a.vbs n v)

  -- the floor does not fall
  up : vb.floor ≤ f
  up = (trimmed_left vb old.sound.spanned).up

  parts : vb.held ≡ upto vb.held f ++ above f vb.held
  parts = sym (parted f vb.floor vb.position.at vb.held old.sound.rises)

  keeps : Keeps vb'.base f vb'.last_cas (c.nodes (seat n v)).held vb'.held vb'.log vb'.position.at
  keeps = record {
    below = old.below ++ upto vb.held f;
    parts = old.parts ∙ ap (λ xs. old.below ++ xs) parts ∙ sym (append_assoc old.below (upto vb.held f) (above f vb.held));
    base = ap (λ b. fold applied b (upto vb.held f)) old.base ∙ sym (fold-append applied nothing old.below (upto vb.held f));
    low = rises_append 0 vb.floor f old.below (upto vb.held f) old.low (rises_upto vb.floor vb.position.at f vb.held up old.sound.rises);
    fits = old.fits;
    weighs = old.weighs;
    entries = old.entries;
    high = old.high;
  }

  here : VbAgrees r n v (c.nodes (seat n v)) vb'
  here = record {
    kept = record {
      sound = stays vb VbCall.Trim old.sound tt;
      spanned = spanned_trimmed vb.role (needless_to vb) vb.spans vb.position old.spanned;
      keeps = keeps;
      told = old.told;
      member = record { active = old.member.active; position = old.member.position; log = old.member.log };
      branch = old.branch;
      holds = holds_fewer 0 (WholeTo f vb'.spans vb.position) (WholeTo vb.floor vb.spans vb.position) (c.nodes (seat n v)).held (own_history r n v)
          (λ i x. (whole_trimmed (needless_to vb) vb.floor vb.position.at vb.spans i old.sound.spans x.2 x.0, x.1, (let l : f ≤ i = x.2 in omega (arith, up, l)))) old.holds;
    };
    role = old.role;
    opened = old.opened;
    writes = old.writes;
    counts = old.counts;
    lefts = old.lefts;
    times = old.times;
  }

  disk : (s : Option Shelf) → DiskIsIf (r.disk_at n v) (c.disks (seat n v)) s (Some vb) → DiskIsIf (r.disk_at n v) (c.disks (seat n v)) s (Some vb')
  disk None x = absurd x
  disk (Some shelf) x =
      let written = (a.sound.kept (seat n v)).book in
      let low : vb.saved ≤ (place_of (c.disks (seat n v)).book).at = saved_low x (c.nodes (seat n v)).held written.covered written.ends in
      let under : f ≤ vb.saved = here.sound.saved in
      trimmed_shelf (needless_to vb) f (omega (arith, low, under)) x

  -- all agrees behind it, and no line tells of it
  pub trim_agrees : AgreesIn idle w' r c
  trim_agrees = changed_agrees w w' r r c n v vb vb' a known became
      (record { role = refl; wants = refl; fewer = λ x p o. (o.0, record { among = o.1.among; entry = ap (λ (i : Picture). get i.pending x.key) (sym (trimmed_image vb old.sound.spanned)) ∙ o.1.entry; same = o.1.same }) })
      refl (λ k. refl) (λ k q. refl) (λ k. refl) (λ k. refl) (λ x i k has s. refl) here (λ m q other. a.vbs m q) (λ m q. refl) shelf (disk (shelf_of w n v)) (λ m. refl) (λ m q other. refl) (λ m d. refl) (λ d k has. refl) (later_same r r refl refl)

node_trimmed : StaysSound → (w : PlainWorld) (r : Chronicle) (n v : ℕ) (node : PlainNode) → Agrees w r → w.nodes n ≡ Some node → GoesOn r as_told (with_node_at w n (admin_line n v AdminCall.Trim node).0, (admin_line n v AdminCall.Trim node).1)
node_trimmed stays w r n v node a known = elim (node.vbs v) as (λ o. node.vbs v ≡ o → GoesOn r as_told (admin_by w n v AdminCall.Trim node (call_at node.vbs v VbCall.Trim o))) [
  | None ↦ λ e. refused_on w r n node Cause.UnknownVb a known
  | Some vb ↦ λ e.
      let node' : PlainNode = with_states node (with_vb_at node.vbs v (trimmed_vb vb)) in
      (tt, (a.0, trim_agrees stays w (with_node_at w n node') r a.0 n v vb a.1 (ap (λ o. vb_in o v) known ∙ e) (node_changed w n v node node' (trimmed_vb vb) known (λ q. refl) (λ q o. refl) refl) (shelves_again w n node node' (λ q. refl) n v ∙ shelves_put w n node known n v)))
] refl

-- all agrees behind `trim N V`
pub trim_goes : StaysSound → (w : PlainWorld) (r : Chronicle) (n v : ℕ) → Agrees w r → GoesOn r as_told (on_node w n (admin_line n v AdminCall.Trim))
trim_goes stays w r n v a = on_node_goes w r n (admin_line n v AdminCall.Trim) a (λ node e up. node_trimmed stays w r n v node a e)

-- and as many spans are told at most as count as saved
pub trim_says : (w : PlainWorld) (r : Chronicle) (n v : ℕ) → Agrees w r → IsTrimmed (r.disk_at n v) (on_node w n (admin_line n v AdminCall.Trim)).1.answer
trim_says w r n v a = on_node_by (λ x. IsTrimmed (r.disk_at n v) x.1.answer) w n (admin_line n v AdminCall.Trim) tt (λ node known. tt)
    (λ node known up. elim (node.vbs v) as (λ o. node.vbs v ≡ o → IsTrimmed (r.disk_at n v) (admin_by w n v AdminCall.Trim node (call_at node.vbs v VbCall.Trim o)).1.answer)
    [ None ↦ λ e. tt | Some vb ↦ λ e. few vb (ap (λ o. vb_in o v) known ∙ e) ] refl)
  where
    few : (vb : Plain) → vb_of w n v ≡ Some vb → IsTrimmed (r.disk_at n v) (Number (length (ended_by (needless_to vb) vb.spans.sealed)))
    few vb known = by (shelf_of w n v) (subst (DiskIsIf (r.disk_at n v) (a.0.disks (seat n v)) (shelf_of w n v)) known (a.1.disks n v))
      where
        old : VbAgrees r n v (a.0.nodes (seat n v)) vb
        old = subst (AgreesAt r n v (a.0.nodes (seat n v))) known (a.1.vbs n v)

        by : (s : Option Shelf) → DiskIsIf (r.disk_at n v) (a.0.disks (seat n v)) s (Some vb) → IsTrimmed (r.disk_at n v) (Number (length (ended_by (needless_to vb) vb.spans.sealed)))
        by None x = absurd x
        by (Some shelf) x =
            let most = few_trimmed (needless_to vb) vb.floor vb.position.at vb.spans old.sound.spans in
            let low = (needless_low vb).0 in
            let saved : (r.disk_at n v).saved ≡ vb.saved = x.saved in
            (x.there, omega (arith, most, low, saved))
