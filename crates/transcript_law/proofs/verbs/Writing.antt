-- lines that send a request
use Rattle.std.specs.Prelude.{◌≡◌, ◌+◌, ◌<◌, ◌≤◌, ◌∷◌, ◌++◌, ◌⊎◌, ◌^◌, if◌then◌else◌}
use Rattle.transcript_law.specs.LinesTold.{timed}
use Rattle.{branch_model.specs.Journals.{place_of}, cluster_model.specs.Clusters.{Fulfils, spanned}, durability.specs.declared.waiting.Waiting.{Waiting}, vb_calls.specs.Shelves.{Shelf}, vbucket.specs.Laws.{CasUpTo, OpensOwn}, vb_calls.specs.{Durable.{is_delete, prepare_change}, Following.{cas_of}}, vb_types.specs.declared.change.Level.{Level}, transcript_law.proofs.invariant.Bounded.{weighs_push}, transcript_law.specs.Chronicles.{CountsKnown}, transcript_law.specs.{Lawfulness.{IsGivenUp, IsHeldIfCommitted, IsPrepareAsked}, OwnChanges.{IsNextChange}}}
use Rattle.transcript_law.proofs.{invariant.Agreement.{DiskIsIf, shelf_of}, disks.Disks.{ShelfIs, disk_same, grown_spots, parts_of, same_parts, shelf_spanned}, invariant.OneLink.{disk_here, disk_there}}
use Rattle.transcript_law.proofs.Words.{ℕ, Bool, true, false, List, [], refl, ap, sym, ◌∙◌, subst, inl, inr, ⊎_elim, arith, Option, Some, None}
use Rattle.transcript_law.proofs.Words.{nat_lt, All, cases_lt, nat_tests, All-push, WriteFits, Change, Doc, MAX_SEQ, LogEntry, Picture, image_of, Role, Status, Write, Position, upto, Rises, last_seq, fork_of, HasLast}
use Rattle.transcript_law.proofs.Words.{append_assoc, HoldsAt, IsFront, Branch, hist, longer, ForksBelow, branch, branch_grow, ground, Member, Cluster, Move, SoundCluster, Leads, happens, start_cases, Own, Span}
use Rattle.transcript_law.proofs.Words.{with_at, with_change, is_some, last_at, span_of, keeps, is_follower, stream_at, Sound, Plain, newest_branch, is_active, doc_at, growth, write_change, written_doc, new_cas, new_rev, PlainLink}
use Rattle.transcript_law.proofs.Words.{producer_node, consumer_node, PlainNode, PlainWorld, vb_in, is_one_of, Chronicle, after_change, known_history, LawfulChange, option_map, Act, IsIn, Op, holds_push}
use Rattle.transcript_law.proofs.Words.{is_some, with_at, with_change, last_seq_le, grow_below, hist_grow_own, hist_grow_other, Forks, owned, own_joined, own_grown, act_of}
use Rattle.transcript_law.proofs.{invariant.Lefts.{LeftUpTo}, invariant.Seats.{seat, seats_apart}}
use Rattle.transcript_law.proofs.invariant.Tables.{at_here, at_there, if_known}
use Rattle.transcript_law.proofs.invariant.Trees.{ids_grow, told_grow, told_below, told_found, new_grow, is_told_grow}
use Rattle.transcript_law.proofs.invariant.Agreement.{ActFits, AgreesAt, AgreesIn, BranchAgrees, ChangeFits, CountsIf, DocFits, IsLink, LinkAgrees, LinksDiffer, TimesAre, TimesIf, VbAgrees, Writes, WritesIf, active_counts, active_times, consumer_seat, counts_if, idle, own_history, producer_seat, times_if, top, vb_contents, vb_of, vb_row}
use Rattle.transcript_law.proofs.invariant.Carried.{all_there}
use Rattle.transcript_law.proofs.invariant.Carrying.{Changed, same_clients}
use Rattle.transcript_law.proofs.invariant.ClientsKept.{ConnsKept, Every, GoesOver, clients_kept, every_owed, fewer_at, fewer_now, goes_agreed_at, spot_at}
use Rattle.transcript_law.proofs.invariant.ClientsWritten.{goes_written}
use Rattle.transcript_law.proofs.invariant.Forked.{fork_held}
use Rattle.transcript_law.proofs.invariant.LinkFeeds.{feeds_same}
use Rattle.transcript_law.proofs.invariant.Owed.{Fewer, Owed}
use Rattle.transcript_law.proofs.invariant.Wholes.{WholeTo, joined_opens, spanned_active, whole_before}
use Rattle.transcript_law.proofs.invariant.Carried.{places, numbers, active_feeds, as_far, link_carried_by, StaysFollower, StaysProducer, all_vbs}
use Rattle.transcript_law.proofs.invariant.OneLink.{put_here, put_there}
use Rattle.transcript_law.proofs.{invariant.Agreement.{RestsIn}, verbs.NodeLines.{vb_told}, invariant.Resting.{ends_again, rests_by}}
use Rattle.transcript_law.proofs.invariant.Holdings.{opened_as}
use Rattle.transcript_law.proofs.links.Followed.{last_seq_push}

-- the change of a write
act_fits : (o : Op) (doc : Doc) → DocFits doc → ActFits (act_of o doc)
act_fits Op.Delete doc d = (d.cas, d.rev)
act_fits o doc d = d

no_commit : (o : Op) (doc : Doc) (number : ℕ) (committed : Doc) (deleted : Bool) → act_of o doc ≡ Act.Commit number committed deleted → ⊥
no_commit Op.Set doc number committed deleted e = cc
no_commit o doc number committed deleted e = cc

-- a write is no commit
pub write_fulfils : (image : Picture) (vb : Plain) (write : Write) (cas : ℕ) → Fulfils image (write_change vb write cas)
write_fulfils image vb write cas number committed deleted e = absurd (no_commit write.op (written_doc write cas (new_rev (doc_at vb write.key))) number committed deleted e)

-- nor an abort
no_abort : (o : Op) (doc : Doc) (number : ℕ) → act_of o doc ≡ Act.Abort number → ⊥
no_abort Op.Set doc number e = cc
no_abort o doc number e = cc

pub write_aborts : (vb : Plain) (write : Write) (cas number : ℕ) → (write_change vb write cas).act ≡ Act.Abort number → ⊥
write_aborts vb write cas number e = no_abort write.op (written_doc write cas (new_rev (doc_at vb write.key))) number e

-- nor a prepare
no_prepare : (o : Op) (doc : Doc) (level : Level) (prepared : Doc) (deleted : Bool) → act_of o doc ≡ Act.Prepare level prepared deleted → ⊥
no_prepare Op.Set doc level prepared deleted e = cc
no_prepare o doc level prepared deleted e = cc

pub write_prepares : (vb : Plain) (write : Write) (cas : ℕ) (level : Level) (doc : Doc) (deleted : Bool) → (write_change vb write cas).act ≡ Act.Prepare level doc deleted → ⊥
write_prepares vb write cas level doc deleted e = no_prepare write.op (written_doc write cas (new_rev (doc_at vb write.key))) level doc deleted e

-- so nobody has to hold it
pub write_unheld : (counts : CountsKnown) (saved : ℕ) (image : Picture) (vb : Plain) (write : Write) (cas : ℕ) → IsHeldIfCommitted counts saved image (write_change vb write cas)
write_unheld counts saved image vb write cas number committed deleted e = absurd (no_commit write.op (written_doc write cas (new_rev (doc_at vb write.key))) number committed deleted e)

-- the document of a write
doc_fits : (vb : Plain) (write : Write) (clock : ℕ) → WriteFits write → clock < 2 ^ 64 → DocFits (written_doc write (new_cas clock vb.last_cas) (new_rev (doc_at vb write.key)))
doc_fits vb write clock f small =
    let rev : new_rev (doc_at vb write.key) < 2 ^ 64 = elim (doc_at vb write.key) as (λ o. new_rev o < 2 ^ 64) [ None ↦ omega arith | Some doc ↦ omega arith ] in
    record { value = f.value; cas = omega arith; rev = rev; flags = f.flags; expiry = f.expiry }

pub change_fits : (vb : Plain) (write : Write) (clock : ℕ) → WriteFits write → clock < 2 ^ 64 → vb.position.at < 2 ^ 48 → ChangeFits (write_change vb write (new_cas clock vb.last_cas))
change_fits vb write clock f small l =
    record { seq = omega arith; key = f.key; act = act_fits write.op (written_doc write (new_cas clock vb.last_cas) (new_rev (doc_at vb write.key))) (doc_fits vb write clock f small) }

-- the change that prepares a write: a removal has no value
removes : (o : Op) → is_delete o ≡ true → o ≡ Op.Delete
removes Op.Delete e = refl
removes o e = cc

pub prepare_fits : (vb : Plain) (write : Write) (clock : ℕ) (level : Level) → WriteFits write → (write.op ≡ Op.Delete → write.value ≡ []) → clock < 2 ^ 64 → vb.position.at < 2 ^ 48 → ChangeFits (prepare_change vb write level (new_cas clock vb.last_cas))
prepare_fits vb write clock level f alone small l = record { seq = omega arith; key = f.key; act = (doc_fits vb write clock f small, λ e. alone (removes write.op e)) }

-- it is no commit
pub prepare_fulfils : (image : Picture) (vb : Plain) (write : Write) (level : Level) (cas : ℕ) → Fulfils image (prepare_change vb write level cas)
prepare_fulfils image vb write level cas number committed deleted e = cc

pub prepare_unheld : (counts : CountsKnown) (saved : ℕ) (image : Picture) (vb : Plain) (write : Write) (level : Level) (cas : ℕ) → IsHeldIfCommitted counts saved image (prepare_change vb write level cas)
prepare_unheld counts saved image vb write level cas number committed deleted e = cc

-- a write that is not refused
pub store_taken : (r : Role) (full : Bool) (said : Option Status) → (if is_active r then (if full then Some Status.Etmpfail else said) else Some Status.NotMyVbucket) ≡ None → (is_active r ≡ true) × (full ≡ false)
store_taken Role.Active true said e = cc
store_taken Role.Active false said e = (refl, refl)
store_taken r full said e = cc

pub has_room : (at outstanding : ℕ) → nat_lt MAX_SEQ (at + outstanding + 1) ≡ false → at < 2 ^ 48
has_room at outstanding e = grind (arith, nat_tests)

pub room_for_two : (at outstanding : ℕ) → nat_lt MAX_SEQ (at + outstanding + 2) ≡ false → at < 2 ^ 48
room_for_two at outstanding e = grind (arith, nat_tests)

pub front_newest : (log : List LogEntry) (u : ℕ) → IsFront log u → newest_branch log ≡ u
front_newest [] u f = absurd f
front_newest (e ∷ older) u f = f

-- the open span of a vBucket that takes writes is of own changes
own_current : (role : Role) (o : Option Span) → is_active role ≡ true → OpensOwn role o → (x : Span) → o ≡ Some x → x.origin ≡ Own
own_current Role.Active None a p x e = cc
own_current Role.Active (Some y) a p x e = let s : y ≡ x = cc in subst (λ (z : Span). z.origin ≡ Own) s p
own_current other o a p x e = cc

pub forks_below : (c : Cluster) (k m : ℕ) (bs : List Branch) → (c.nodes k).position.at ≡ c.tips (c.nodes k).br → (c.nodes k).position.at < m → Forks (ground c) bs → ForksBelow (c.nodes k).br m bs
forks_below c k m [] a l f = tt
forks_below c k m (b ∷ older) a l f = ((λ e. let q : b.fork ≤ c.tips (c.nodes k).br = (f.0 (c.nodes k).br e).1 in omega arith), forks_below c k m older a l f.1)

module _ (w : PlainWorld) (r : Chronicle) (cl : Cluster) (n v : ℕ) (node : PlainNode) (vb : Plain) (a : AgreesIn idle w r cl) (known : w.nodes n ≡ Some node) (has : node.vbs v ≡ Some vb) where
  pub there_is : vb_of w n v ≡ Some vb
  there_is = ap (λ o. vb_in o v) known ∙ has

  pub mine : VbAgrees r n v (cl.nodes (seat n v)) vb
  mine = subst (AgreesAt r n v (cl.nodes (seat n v))) there_is (a.vbs n v)

  -- an active vBucket makes a change: one that commits names the pending prepare of its key, and has its document; these prepares are outstanding then

  module _ (change : Change) (cas : ℕ) (active : is_active vb.role ≡ true) (next : change.seq ≡ vb.position.at + 1) (room : vb.position.at < 2 ^ 48) (fits : ChangeFits change)
      (named : Fulfils (image_of (cl.nodes (seat n v)).held) change) (left : List Waiting) (sound : Sound (record (growth vb change cas).0 { waiting = left })) where
    abbrev member : Member
    member = cl.nodes (seat n v)

    abbrev grown : Plain
    grown = record (growth vb change cas).0 { waiting = left }

    abbrev after : Chronicle
    after = after_change r n v member.br change

    abbrev later : Cluster
    later = happens cl (Move.Own (seat n v) change)

    leads_it : member.active ≡ true
    leads_it = mine.member.active ∙ active

    lead : Leads (ground cl) member
    lead = a.sound.leads (seat n v) leads_it

    lead_fork : (b : Branch) × (branch cl.tree member.br ≡ Some b) × (b.fork ≤ member.position.at)
    lead_fork =
        let there = (a.sound.stands (seat n v)).settled.0 in
        let low = a.sound.floors member.br there.0 there.1 in
        let tip : member.position.at ≡ cl.tips member.br = lead.tip in
        (there.0, there.1, omega (arith, low, tip))

    writer : Writes r n v member.br
    writer = subst (λ b. WritesIf b r n v member.br) active mine.writes

    member_at : member.position.at ≡ vb.position.at
    member_at = ap (λ p. p.at) mine.member.position

    -- the branch, in the cluster and by the lines, ends where the vBucket does
    branch_rises : Rises 0 vb.position.at (hist r.tree member.br)
    branch_rises = subst (λ h. Rises 0 vb.position.at h) (a.hists member.br) (subst (λ i. Rises 0 i (hist cl.tree member.br)) (sym lead.tip ∙ member_at) (a.sound.tops member.br))

    own_branch : own_history r n v ≡ hist r.tree member.br
    own_branch = ap (known_history r.tree) writer.branch

    is_active_role : (x : Role) → is_active x ≡ true → x ≡ Role.Active
    is_active_role Role.Active e = refl
    is_active_role x e = cc

    pub newest : newest_branch vb.log ≡ member.br
    newest = front_newest vb.log member.br (subst (λ l. IsFront l member.br) mine.member.log lead.front)

    still_sound : SoundCluster top later
    still_sound = keeps top cl (Move.Own (seat n v) change) a.sound
        (leads_it, omega (arith, member_at), omega arith, named)

    -- every branch that was made from this one leaves it below the change
    below : ForksBelow member.br change.seq cl.tree
    below = forks_below cl (seat n v) change.seq cl.tree lead.tip (omega (arith, member_at)) a.sound.forks

    told_below_it : ForksBelow member.br change.seq r.tree
    told_below_it = told_below cl.tree r.tree member.br change.seq a.are_told below

    pub is_lawful : IsNextChange member.held change → ((level : Level) (doc : Doc) (deleted : Bool) → change.act ≡ Act.Prepare level doc deleted → IsPrepareAsked r.clients_at r.changed n v change.key level doc deleted) → IsHeldIfCommitted (r.counts_at n v) (r.disk_at n v).saved (image_of member.held) change → ((prepared : ℕ) → change.act ≡ Act.Abort prepared → IsGivenUp r n v prepared) → LawfulChange r n v member.br change
    is_lawful next_one asked backed aborts = record {
      active = if_known (r.role_at n v) (Some Role.Active) (mine.role ∙ ap (λ (x : Role). Some (Some x)) (is_active_role vb.role active));
      writer = record { made_or_took = writer.writer; on_branch = writer.branch };
      above_branch = (let most : last_seq 0 (hist r.tree member.br) ≤ vb.position.at = last_seq_le 0 vb.position.at 0 (hist r.tree member.br) (omega arith) branch_rises in omega arith);
      above_forks = told_below_it;
      made = subst (λ h. IsNextChange h change) (sym mine.held) next_one;
      asked = asked;
      fulfils = subst (λ h. Fulfils (image_of h) change) (sym mine.held) named;
      backed = subst (λ h. IsHeldIfCommitted (r.counts_at n v) (r.disk_at n v).saved (image_of h) change) (sym mine.held) backed;
      aborts = aborts;
    }

    -- the branch that the lines tell is one of the cluster's, made at or below where the vBucket is
    told_branch : (d : Branch) × (branch r.tree member.br ≡ Some d) × (d.fork < change.seq)
    told_branch =
        let (d, is) = writer.is_told in
        let (b, there, fork) = told_found cl.tree r.tree member.br d a.are_told is in
        let (e, known, low) = lead_fork in
        let found : Some b ≡ Some e = sym there ∙ known in
        let same : b ≡ e = cc in
        let level : b.fork ≡ e.fork = ap (λ (x : Branch). x.fork) same in
        let same_fork : b.fork ≡ d.fork = fork in
        let low_fork : e.fork ≤ member.position.at = low in
        let at_same : member.position.at ≡ vb.position.at = member_at in
        (d, is, omega arith)

    grown_branch : hist after.tree member.br ≡ hist r.tree member.br ++ change ∷ []
    grown_branch = let (d, is, low) = told_branch in hist_grow_own r.tree member.br change d is low

    -- the spans after the change
    abbrev joined : Option Span
    joined = own_joined vb.held vb.spans.current (last_at vb.held change.key) change

    abbrev alone : Span
    alone = span_of vb.position.at Own change

    fork_at : fork_of vb.position ≡ vb.position.at
    fork_at = subst (λ (q : Position). fork_of q ≡ q.at) mine.member.position (⊎_elim (λ y. y.1) (λ y. y.1 ∙ lead.ss_at) (start_cases member.position.ss member.position.se member.position.at))

    at_end : HasLast member.held (hist r.tree member.br) 0 vb.position.at vb.position.at
    at_end = subst (λ i. HasLast member.held (hist r.tree member.br) 0 i i) fork_at (fork_held cl (seat n v) (hist r.tree member.br) vb.position a.sound (a.hists member.br) mine.member.position)

    split : (i : ℕ) → WholeTo vb.floor grown.spans grown.position i → (WholeTo vb.floor vb.spans vb.position i × (i ≤ vb.position.at)) ⊎ (i ≡ change.seq)
    split i w =
        let most : i ≤ fork_of grown.position = w.1 in
        let old = fork_at in
        let new : fork_of grown.position ≡ change.seq = ⊎_elim (λ y. y.1) (λ y. y.1) (start_cases change.seq change.seq change.seq) in
        ⊎_elim
        (λ above. inr (omega arith))
        (λ low. inl ((whole_before vb.floor i vb.position.at change.seq vb.spans joined alone mine.sound.spans (omega arith) (own_grown vb.held vb.spans.current (last_at vb.held change.key) change) w.0, omega arith, w.2), low))
        (cases_lt vb.position.at i)

    abbrev now_timed : CountsKnown
    now_timed = timed change.seq (r.clock_at n) (r.counts_at n v)

    -- its CAS is not above the last one
    weighed : (xs : List Change) → CasUpTo cas (xs ++ change ∷ []) → cas_of change.act ≤ cas
    weighed [] c = c.0
    weighed (x ∷ xs) c = weighed xs c.1

    -- the prepares that wait then have their times
    abbrev pub KeepsTimes : Type 0
    KeepsTimes = TimesAre (r.counts_at n v).times vb.waiting → TimesAre ((change.seq, r.clock_at n) ∷ (r.counts_at n v).times) left

    here : vb.last_cas ≤ cas → LeftUpTo (r.counts_at n v).risen change.seq left → KeepsTimes → VbAgrees after n v (owned member change) grown
    here rises lefts keeps_times = record {
      kept = record {
        sound = sound;
        spanned = spanned_active vb.role vb.floor grown.spans change.seq active sound.spans;
        keeps = record {
          below = mine.below;
          parts = ap (λ h. h ++ change ∷ []) mine.parts ∙ append_assoc mine.below vb.held (change ∷ []);
          base = mine.base;
          low = mine.low;
          fits = All-push ChangeFits member.held change mine.fits fits;
          weighs = weighs_push vb.last_cas cas member.held change rises (weighed vb.held sound.casses) mine.weighs;
          entries = mine.entries;
          high = last_seq_push 0 member.held change;
        };
        told = record {
          held = at_here r.held n v (r.held n v ++ change ∷ []) ∙ ap (λ h. h ++ change ∷ []) mine.held;
          log = mine.log;
          snap = at_here r.snap_at n v (Some (change.seq, change.seq));
          unlogged = mine.unlogged;
        };
        member = record { active = mine.member.active; position = refl; log = mine.member.log };
        branch = mine.branch;
        holds = subst (HoldsAt 0 (WholeTo vb.floor grown.spans grown.position) (member.held ++ change ∷ [])) (sym (ap (known_history after.tree) writer.branch ∙ grown_branch))
            (holds_push 0 (WholeTo vb.floor vb.spans vb.position) (WholeTo vb.floor grown.spans grown.position) vb.position.at member.held (hist r.tree member.br) change branch_rises (omega arith) at_end split
            (subst (HoldsAt 0 (WholeTo vb.floor vb.spans vb.position) member.held) own_branch mine.holds));
      };
      role = mine.role;
      opened = opened_as vb.role (with_at r.open_at n v true n v) (is_some (with_change vb.spans joined alone).current) (at_here r.open_at n v true ∙ sym (joined_opens vb.spans joined alone));
      writes = subst (λ x. WritesIf x after n v member.br) (sym active) (record {
        branch = writer.branch;
        is_told = is_told_grow r.tree member.br change member.br writer.is_told;
        writer = writer.writer;
        named = writer.named;
      });
      counts = subst (λ (t : CountsKnown). CountsIf (is_active vb.role) t vb.others vb.acks) (sym (at_here r.counts_at n v now_timed)) (counts_if (λ e. let x = active_counts e mine.counts in record { chain = x.chain; counted = x.counted; alone = x.alone }));
      times = subst (λ (t : CountsKnown). TimesIf (is_active vb.role) t.times left) (sym (at_here r.counts_at n v now_timed)) (times_if (λ e. keeps_times (active_times e mine.times)));
      lefts = λ on. subst (λ (t : CountsKnown). LeftUpTo t.risen change.seq left) (sym (at_here r.counts_at n v now_timed)) lefts;
    }

    writes_there : (m q br : ℕ) (b : Bool) → WritesIf b r m q br → WritesIf b after m q br
    writes_there m q br false old = tt
    writes_there m q br true old = record { branch = old.branch; is_told = is_told_grow r.tree member.br change br old.is_told; writer = old.writer; named = old.named }

    -- another vBucket's branch is as it was, up to where that vBucket is
    front_there : (m q : ℕ) (x : Plain) → VbAgrees r m q (cl.nodes (seat m q)) x → upto (own_history r m q) x.position.at ≡ upto (own_history after m q) x.position.at
    front_there m q x agrees = by (r.branch_at m q) agrees.branch
      where
        low : (cl.nodes (seat m q)).br ≡ member.br → x.position.at < change.seq
        low same =
            let settled : (cl.nodes (seat m q)).position.at ≤ cl.tips (cl.nodes (seat m q)).br = (a.sound.stands (seat m q)).settled.1 in
            let tips : cl.tips (cl.nodes (seat m q)).br ≡ cl.tips member.br = ap cl.tips same in
            let tip : member.position.at ≡ cl.tips member.br = lead.tip in
            let level : (cl.nodes (seat m q)).position.at ≡ x.position.at = ap (λ p. p.at) agrees.member.position in
            let there = member_at in
            omega (arith, there, settled, tips, tip, level, next)

        by : (o : Option ℕ) → BranchAgrees o (cl.nodes (seat m q)).br → upto (known_history r.tree o) x.position.at ≡ upto (known_history after.tree o) x.position.at
        by None is = refl
        by (Some u) is = ⊎_elim
            (λ same. sym (grow_below r.tree member.br change u x.position.at (low (is ∙ same))))
            (λ ne. ap (λ h. upto h x.position.at) (sym (hist_grow_other r.tree member.br change u ne told_below_it)))
            (numbers u member.br)

    row_there : (m q : ℕ) → (m ≡ n → q ≡ v → ⊥) → vb_row after m q ≡ vb_row r m q
    row_there m q other = λ i. record (vb_row r m q) {
      opened = at_there r.open_at n v true m q other i;
      counts = at_there r.counts_at n v now_timed m q other i;
      contents = record (vb_contents r m q) { held = at_there r.held n v (r.held n v ++ change ∷ []) m q other i; snap = at_there r.snap_at n v (Some (change.seq, change.seq)) m q other i };
    }

    there : (m q : ℕ) → (m ≡ n → q ≡ v → ⊥) → AgreesAt after m q (later.nodes (seat m q)) (vb_of w m q)
    there m q other = subst (λ k. AgreesAt after m q k (vb_of w m q)) (sym (put_there cl.nodes (seat n v) (owned member change) (seat m q) (seats_apart m q n v other)))
        (vb_told r after m q (cl.nodes (seat m q)) (vb_of w m q) (row_there m q other)
        (λ b old. writes_there m q (cl.nodes (seat m q)).br b old) (λ x agrees. front_there m q x agrees) (a.vbs m q))

    same_hist : (u : ℕ) → hist later.tree u ≡ hist after.tree u
    same_hist u = ⊎_elim
        (λ e. subst (λ x. hist later.tree x ≡ hist after.tree x) (sym e) own)
        (λ ne. hist_grow_other cl.tree member.br change u ne below ∙ a.hists u ∙ sym (hist_grow_other r.tree member.br change u ne told_below_it))
        (numbers u member.br)
      where
        own : hist later.tree member.br ≡ hist after.tree member.br
        own =
            let (d, at, low) = lead_fork in
            hist_grow_own cl.tree member.br change d at (omega (arith, member_at)) ∙ ap (λ h. h ++ change ∷ []) (a.hists member.br) ∙ sym grown_branch

    -- all changes of all branches fit
    all_fit : (u : ℕ) → All ChangeFits (hist after.tree u)
    all_fit u = ⊎_elim
        (λ e. subst (λ x. All ChangeFits (hist after.tree x)) (sym e) (subst (All ChangeFits) (sym grown_branch) (All-push ChangeFits (hist r.tree member.br) change (a.fits member.br) fits)))
        (λ ne. subst (All ChangeFits) (sym (hist_grow_other r.tree member.br change u ne told_below_it)) (a.fits u))
        (numbers u member.br)

    same_br : (j : ℕ) → (later.nodes j).br ≡ (cl.nodes j).br
    same_br j = ⊎_elim
        (λ e. subst (λ x. (later.nodes x).br ≡ (cl.nodes x).br) (sym e) (ap (λ (m : Member). m.br) (put_here cl.nodes (seat n v) (owned member change))))
        (λ ne. ap (λ (m : Member). m.br) (put_there cl.nodes (seat n v) (owned member change) j ne))
        (numbers j (seat n v))

    -- its journal is as it was, and its span ends where it is then
    disk_here_is : (o : Option Shelf) → DiskIsIf (r.disk_at n v) (cl.disks (seat n v)) o (Some vb) → DiskIsIf (after.disk_at n v) (later.disks (seat n v)) o (Some grown)
    disk_here_is None x = absurd x
    disk_here_is (Some shelf) x = subst (λ d. ShelfIs (r.disk_at n v) d shelf (parts_of grown)) (sym (disk_here cl.disks (seat n v) (spanned (cl.disks (seat n v)) (owned member change).position)))
        (shelf_spanned grown.spans x refl refl refl (grown_spots (place_of (cl.disks (seat n v)).book).at change.seq vb.spans joined alone Own (cl.disks (seat n v)).stood
        (own_grown vb.held vb.spans.current (last_at vb.held change.key) change) refl refl (λ x e. own_current vb.role vb.spans.current active mine.sound.current x e) x.spots))

    module _ (w' : PlainWorld) (changed : Changed w w' n v grown w.links) (shelf : shelf_of w' n v ≡ shelf_of w n v) (rises : vb.last_cas ≤ cas) (lefts : LeftUpTo (r.counts_at n v).risen change.seq left) (keeps_times : KeepsTimes) where
      one_of : (m q : ℕ) (x : Plain) → vb_of w m q ≡ Some x → m ≡ n → q ≡ v → x ≡ vb
      one_of m q x e s t = let z : vb_of w m q ≡ Some vb = ap (λ k. vb_of w k q) s ∙ ap (vb_of w n) t ∙ there_is in cc

      -- no member is less far
      farther : (j : ℕ) → (cl.nodes j).position.at ≤ (later.nodes j).position.at
      farther j = ⊎_elim
          (λ e. subst (λ k. (cl.nodes k).position.at ≤ (later.nodes k).position.at) (sym e) (subst (λ (m : Member). member.position.at ≤ m.position.at) (sym (put_here cl.nodes (seat n v) (owned member change))) (omega (arith, member_at, next))))
          (λ ne. as_far (ap (λ (m : Member). m.position) (put_there cl.nodes (seat n v) (owned member change) j ne)))
          (numbers j (seat n v))

      -- a link that feeds it is one by which it took its branch over
      followers : (x : PlainLink) → StaysFollower (vb_of w (consumer_node x) x.consumer.dialed.vb) (vb_of w' (consumer_node x) x.consumer.dialed.vb) (cl.nodes (consumer_seat x)) (later.nodes (consumer_seat x))
      followers x fv e = ⊎_elim
          (λ t. let same : fv ≡ vb = one_of (consumer_node x) x.consumer.dialed.vb fv e t.0 t.1 in (
            grown,
            ap (λ k. vb_of w' k x.consumer.dialed.vb) t.0 ∙ ap (vb_of w' n) t.1 ∙ changed.here,
            inr (ap (λ (k : Plain). is_follower k.role) same ∙ active_feeds vb.role active, active_feeds vb.role active),
          ))
          (λ o. (fv, changed.there (consumer_node x) x.consumer.dialed.vb o ∙ e, inl (refl, refl, put_there cl.nodes (seat n v) (owned member change) (consumer_seat x) (seats_apart (consumer_node x) x.consumer.dialed.vb n v o))))
          (places n v (consumer_node x) x.consumer.dialed.vb)

      stays : (x : PlainLink) → StaysProducer (vb_of w (producer_node x) x.consumer.dialed.vb) (vb_of w' (producer_node x) x.consumer.dialed.vb) (cl.nodes (producer_seat x)) (later.nodes (producer_seat x)) x
      stays x p k s e feeds opened stream = ⊎_elim
          (λ t. let same : p ≡ vb = one_of (producer_node x) x.consumer.dialed.vb p e t.0 t.1 in (
            grown,
            ap (λ k. vb_of w' k x.consumer.dialed.vb) t.0 ∙ ap (vb_of w' n) t.1 ∙ changed.here,
            ap (λ (y : Plain). y.role) (sym same),
            subst (λ (y : Plain). stream_at k y.streams ≡ Some s) same opened,
            same_br (producer_seat x),
            λ dead. let z : true ≡ false = sym active ∙ ap (λ (y : Plain). is_active y.role) (sym same) ∙ ap is_active dead in cc,
            farther (producer_seat x),
          ))
          (λ o. (
            p,
            changed.there (producer_node x) x.consumer.dialed.vb o ∙ e,
            refl,
            opened,
            same_br (producer_seat x),
            λ dead. ap (λ (m : Member). m.position) (put_there cl.nodes (seat n v) (owned member change) (producer_seat x) (seats_apart (producer_node x) x.consumer.dialed.vb n v o)),
            farther (producer_seat x),
          ))
          (places n v (producer_node x) x.consumer.dialed.vb)

      linked : (x : PlainLink) → IsLink x w.links → LinkAgrees w' after later x [] []
      linked x i = link_carried_by w w' r after cl later x [] [] (followers x) refl refl refl refl (stays x) (a.links x i)

      -- what rests beside it
      rest : RestsIn w' after later
      rest = rests_by w w' r after cl later a.rests changed.powers (λ m. refl)
          (λ m q none. ⊎_elim
          (λ s. let z : Some grown ≡ None = sym (ap (λ k. vb_of w' k q) s.0 ∙ ap (vb_of w' n) s.1 ∙ changed.here) ∙ none in cc)
          (λ o. let far = seats_apart m q n v o in record {
            vb = sym (changed.there m q o) ∙ none;
            shelf = changed.shelves m q o;
            row = row_there m q o;
            member = put_there cl.nodes (seat n v) (owned member change) (seat m q) far;
            disk = disk_there cl.disks (seat n v) (spanned (cl.disks (seat n v)) (owned member change).position) (seat m q) far;
          })
          (places n v m q))
          (λ m q down. ⊎_elim
          (λ s. let z : Some vb ≡ None = sym (ap (λ k. vb_of w k q) s.0 ∙ ap (vb_of w n) s.1 ∙ there_is) ∙ (a.downs m q).vb_none down in cc)
          (λ o. (changed.there m q o ∙ (a.downs m q).vb_none down, changed.shelves m q o ∙ (a.downs m q).shelf_none down))
          (places n v m q))
          (λ m q e. e)
          (λ x i. ends_again w w' x changed.powers (a.ends x (subst (IsLink x) changed.linked i)))

      -- another vBucket's streams of clients are of another branch
      branch_apart : (m q : ℕ) → (m ≡ n → q ≡ v → ⊥) → Writes r m q (cl.nodes (seat m q)).br → (cl.nodes (seat m q)).br ≡ member.br → ⊥
      branch_apart m q o x same =
          let z : Some (m, q) ≡ Some (n, v) = sym x.writer ∙ ap r.writer_of same ∙ writer.writer in
          o (ap node_in z) (ap vb_named z)
        where
          node_in : Option (ℕ × ℕ) → ℕ
          node_in None = m
          node_in (Some p) = p.0

          vb_named : Option (ℕ × ℕ) → ℕ
          vb_named None = q
          vb_named (Some p) = p.1

      conns : ConnsKept Every w w' r after
      conns = record {
        conns = λ m d left. same_clients w w' changed.powers m d;
        known = λ m d left. refl;
        opens = λ m d q k left has. ⊎_elim
            (λ s. subst (λ j. GoesOver (spot_at w r j q) (spot_at w' after j q) k) (sym s.0) (subst (λ j. GoesOver (spot_at w r n j) (spot_at w' after n j) k) (sym s.1)
            (goes_written w w' r after n v k member.br vb grown change there_is changed.here (record { active = refl; stream = refl; at = omega (arith, next) }) writer.branch refl
            (at_here r.held n v (r.held n v ++ change ∷ [])) grown_branch (omega (arith, next)))))
            (λ o.
            let same = put_there cl.nodes (seat n v) (owned member change) (seat m q) (seats_apart m q n v o) in
            goes_agreed_at w w' r after m q k (cl.nodes (seat m q)) (later.nodes (seat m q)) (vb_of w m q) refl (changed.there m q o) (a.vbs m q) (there m q o) (same_br (seat m q))
            (λ x i. subst (λ (y : Member). IsIn x y.held) (sym same) i)
            (λ x. hist_grow_other r.tree member.br change (cl.nodes (seat m q)).br (branch_apart m q o x) told_below_it))
            (places n v m q);
      }

      -- where the vBucket owes no more
      pub fewer_written : Fewer (Some vb) (Some grown) → Owed w' after
      fewer_written fewer = every_owed w w' r after conns (record { last = refl; grows = λ one durable i. inr i }) (fewer_at w w' n v changed.there (fewer_now w w' n v vb grown there_is changed.here fewer)) a.clients.owed

      pub written : Owed w' after → AgreesIn idle w' after later
      written owed = record {
        sound = still_sound;
        rests = rest;
        vbs = all_vbs w w' n v grown (λ m q o. AgreesAt after m q (later.nodes (seat m q)) o) changed.here changed.there
            (subst (λ m. VbAgrees after n v m grown) (sym (put_here cl.nodes (seat n v) (owned member change))) (here rises lefts keeps_times)) there;
        disks = all_vbs w w' n v grown (λ m q o. DiskIsIf (after.disk_at m q) (later.disks (seat m q)) (shelf_of w' m q) o) changed.here changed.there
            (subst (λ o. DiskIsIf (after.disk_at n v) (later.disks (seat n v)) o (Some grown)) (sym shelf) (disk_here_is (shelf_of w n v) (subst (DiskIsIf (r.disk_at n v) (cl.disks (seat n v)) (shelf_of w n v)) there_is (a.disks n v))))
            (λ m q o. disk_same (vb_of w m q) (vb_of w m q) refl (disk_there cl.disks (seat n v) (spanned (cl.disks (seat n v)) (owned member change).position) (seat m q) (seats_apart m q n v o)) (changed.shelves m q o) (same_parts (vb_of w m q)) (a.disks m q));
        branches = record {
          hists = same_hist;
          are_told = told_grow cl.tree r.tree member.br change a.are_told;
          fits = all_fit;
          rootless = hist_grow_other cl.tree member.br change 0 (λ e. writer.named (sym e)) below ∙ a.rootless;
          ids = ids_grow cl.tree member.br change a.ids;
          used = λ u e ne. branch_grow cl.tree member.br change u ∙ ap (option_map (longer member.br change)) (a.used u (ap (is_one_of u) (sym changed.uuids) ∙ e) ne);
          fresh = λ u e. new_grow u r.tree member.br change (a.fresh u (ap (is_one_of u) (sym changed.uuids) ∙ e));
        };
        links = λ x i. linked x (subst (IsLink x) changed.linked i);
        differ = subst LinksDiffer (sym changed.linked) a.differ;
        clients = clients_kept w w' r after 0 a.clients (all_there idle w r cl a) conns (λ k m q id has. inl (feeds_same w w' changed.linked k m q id has)) owed;
      }
