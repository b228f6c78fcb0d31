-- a world that is the same everywhere agrees as before
use Rattle.std.specs.Prelude.{◌≡◌, ◌⊎◌, if◌then◌else◌}
use Rattle.transcript_law.proofs.Words.{ℕ, true, false, List, refl, ap, sym, ◌∙◌, subst, inl, inr, ⊎_elim, Some, None, Member, Cluster, Move, SoundCluster, happens, put, keeps, eq-eqb, ne_eqb}
use Rattle.transcript_law.proofs.Words.{Stream, Plain, Frame, is_active, is_follower, stream_at, row_at, row_put, row_out, PlainLink, link_number, producer_node, consumer_node, PlainWorld, Chronicle}
use Rattle.transcript_law.proofs.invariant.Carrying.{SameEnds, Became, NoNewStream, BecameOver, Relinked, BusyBut, Changed, Closed, IsApart, ToldOf, TakenOf, StreamsChanged, MemberChanged, FedMember, FeedChanged}
use Rattle.transcript_law.proofs.{invariant.Seats.{seat, seats_apart}, invariant.Agreement.{vb_of, VbAgrees, AgreesAt, consumer_seat, producer_seat, LinkAgrees, IsLink, Differ, LinksDiffer, top, Busy, AgreesIn}}
use Rattle.transcript_law.proofs.{invariant.LinkRows.{found_is_link, links_apart, out_links, differ_out}, invariant.Carried.{places, not_both, fed_same, fed_all, disks_all, KeptVb, kept_same, told_at, taken_at, vb_carried, agrees_carried}}
use Rattle.transcript_law.proofs.invariant.Carried.{as_near, StaysProducer, link_carried, stream_opened, carried, consumer_made, consumers_apart, branches_again, ids_same, kept_streams, no_writer, all_vbs}
use Rattle.transcript_law.proofs.{invariant.Agreement.{DiskIsIf, EndsUp, RestsIn, VbRow, power_of, shelf_of}, disks.Disks.{SameParts, disk_same, parts_of, same_parts}}
use Rattle.transcript_law.proofs.{invariant.Agreement.{IsArm, Power, PowerIs, PowerIsIf, clock_of, node_known}, invariant.Carrying.{Rearmed, SameOffs, SamePowers, off_of}, invariant.LinkRows.{put_links}, invariant.Resting.{StillAt, ends_again, ends_off, ends_same, rests_by, rests_with}, invariant.Tables.{id_here, id_there}}
use Rattle.transcript_law.proofs.invariant.{Carried.{all_there}, Carrying.{SameClients, same_clients}, ClientsKept.{ConnsKept, Every, IsFree, all_kept, changed_only, clients_kept, every_owed, fewer_at, fewer_now, fewer_streams, free_none, goes_follower, link_none, only_kept, spot_at, streams_kept}, LinkFeeds.{feeds_out, feeds_same, link_feeds}, Owed.{Fewer, Owed, fewer_idle, fewer_same}}
use Rattle.{node_world.specs.declared.arm.Arm.{Arm}, transcript_law.specs.Feeding.{HasOpen}, transcript_law.proofs.invariant.Carried.{numbers}, transcript_law.proofs.Words.{with_id}, transcript_law.specs.Chronicles.{ArmKnown}}
use Rattle.transcript_law.proofs.invariant.Owing.{later_same}

-- a world that is the same everywhere, but for its nodes' arms
pub carries_rests : (busy busy' : Busy) (w w' : PlainWorld) (r : Chronicle) (arms : ℕ → ArmKnown) (clocks : ℕ → ℕ) (c : Cluster)
    → AgreesIn busy w r c → SameClients w w' → ((n v : ℕ) → vb_of w' n v ≡ vb_of w n v) → ((n v : ℕ) → shelf_of w' n v ≡ shelf_of w n v) → w'.uuids ≡ w.uuids → w'.links ≡ w.links
    → RestsIn w' (record r { arm_at = arms; clock_at = clocks }) c → ((k : ℕ) → busy' k ≡ busy k) → AgreesIn busy' w' (record r { arm_at = arms; clock_at = clocks }) c
carries_rests busy busy' w w' r arms clocks c a conns vbs shelves uuids linked rests but = record {
  sound = a.sound;
  vbs = λ n v. subst (AgreesAt r n v (c.nodes (seat n v))) (sym (vbs n v)) (a.vbs n v);
  disks = λ n v. disk_same (vb_of w n v) (vb_of w' n v) refl refl (shelves n v) (subst (SameParts (vb_of w n v)) (sym (vbs n v)) (same_parts (vb_of w n v))) (a.disks n v);
  branches = branches_again refl refl (ids_same uuids) a.branches;
  links = λ x i. subst (λ b. LinkAgrees w' (record r { arm_at = arms; clock_at = clocks }) c x b.0 b.1) (sym (but (link_number x)))
      (link_carried w w' r (record r { arm_at = arms; clock_at = clocks }) c c x (busy (link_number x)).0 (busy (link_number x)).1 (λ fv e. (fv, vbs (consumer_node x) x.consumer.dialed.vb ∙ e, kept_same fv)) refl refl refl refl refl
      (λ p id s e feeds opened has. (p, vbs (producer_node x) x.consumer.dialed.vb ∙ e, refl, opened, refl, λ dead. refl, as_near)) (a.links x (subst (IsLink x) linked i)));
  differ = subst LinksDiffer (sym linked) a.differ;
  clients = let kept = all_kept w w' r (record r { arm_at = arms; clock_at = clocks }) conns (λ m d. refl) refl (λ n v. refl) vbs in
      clients_kept w w' r (record r { arm_at = arms; clock_at = clocks }) 0 a.clients (all_there busy w r c a) kept (λ k n v id has. inl (feeds_same w w' linked k n v id has))
      (every_owed w w' r (record r { arm_at = arms; clock_at = clocks }) kept (later_same _ _ refl refl) (λ n v. fewer_same (vb_of w n v) (vb_of w' n v) (vbs n v)) a.clients.owed);
  rests = rests;
}

-- and for nothing
pub carries_same : (busy busy' : Busy) (w w' : PlainWorld) (r : Chronicle) (c : Cluster)
    → AgreesIn busy w r c → Relinked w w' w.links → ((k : ℕ) → busy' k ≡ busy k) → AgreesIn busy' w' r c
carries_same busy busy' w w' r c a same but = carries_rests busy busy' w w' r r.arm_at r.clock_at c a (same_clients w w' same.powers) same.vbs same.shelves same.uuids same.linked
    (rests_by w w' r r c c a.rests same.powers (λ n. refl)
    (λ n v none. record { vb = sym (same.vbs n v) ∙ none; shelf = same.shelves n v; row = refl; member = refl; disk = refl })
    (λ n v down. (same.vbs n v ∙ (a.downs n v).vb_none down, same.shelves n v ∙ (a.downs n v).shelf_none down))
    (λ n v e. e) (λ x i. ends_again w w' x same.powers (a.ends x (subst (IsLink x) same.linked i)))) but

-- the node n has another arm
pub carries_armed : (busy : Busy) (w w' : PlainWorld) (r : Chronicle) (c : Cluster) (n : ℕ) (power : Power) (arm : Arm)
    → AgreesIn busy w r c → Rearmed w w' n power arm → IsArm arm.fuse → AgreesIn busy w' (record r { arm_at = with_id r.arm_at n (record { fuse = arm.fuse; out = arm.out; down = (r.arm_at n).down }) }) c
carries_armed busy w w' r c n power arm a same fires =
    carries_rests busy busy w w' r arms r.clock_at c a same.clients same.vbs same.shelves same.uuids same.linked
    (rests_with w w' r r' c c a.rests offs powers clocks
    (λ m v none. record { vb = sym (same.vbs m v) ∙ none; shelf = same.shelves m v; row = refl; member = refl; disk = refl })
    (λ m v down. (same.vbs m v ∙ (a.downs m v).vb_none down, same.shelves m v ∙ (a.downs m v).shelf_none down))
    (λ m v e. e) (λ x i. ends_off w w' x x offs (record { dialed = refl; desk = refl }) (a.ends x (subst (IsLink x) same.linked i)))) (λ k. refl)
  where
    told : ArmKnown
    told = record { fuse = arm.fuse; out = arm.out; down = (r.arm_at n).down }

    arms : ℕ → ArmKnown
    arms = with_id r.arm_at n told

    r' : Chronicle
    r' = record r { arm_at = arms }

    offs : SameOffs w w'
    offs m = ⊎_elim
        (λ e. ap (λ k. off_of (power_of w' k)) e ∙ ap off_of same.armed ∙ sym (ap off_of same.before) ∙ ap (λ k. off_of (power_of w k)) (sym e))
        (λ ne. ap off_of (same.others m ne))
        (numbers m n)

    clocks : (m : ℕ) → r.clock_at m ≡ clock_of (power_of w' m)
    clocks m = a.clocks m ∙ ⊎_elim
        (λ e. ap (λ k. clock_of (power_of w k)) e ∙ ap clock_of same.before ∙ sym (ap clock_of same.armed) ∙ ap (λ k. clock_of (power_of w' k)) (sym e))
        (λ ne. ap clock_of (sym (same.others m ne)))
        (numbers m n)

    was : PowerIs (r.arm_at n) power
    was = subst (PowerIsIf (r.arm_at n)) same.before (a.powers n)

    powers : (m : ℕ) → PowerIsIf (arms m) (power_of w' m)
    powers m = ⊎_elim
        (λ e. subst (λ k. PowerIsIf (arms k) (power_of w' k)) (sym e) (subst (λ t. PowerIsIf t (power_of w' n)) (sym (id_here r.arm_at n told))
        (subst (PowerIsIf told) (sym same.armed) (record { fuse = refl; out = refl; down = was.down; zero = was.zero; may_fire = fires; listed_so = was.listed_so }))))
        (λ ne. subst (λ t. PowerIsIf t (power_of w' m)) (sym (id_there r.arm_at n told m (λ e. ne (sym e)))) (subst (PowerIsIf (r.arm_at m)) (sym (same.others m ne)) (a.powers m)))
        (numbers m n)
