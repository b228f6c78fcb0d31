-- lines of one node that tell of no branch
use Rattle.std.specs.Prelude.{◌≡◌, ◌≤◌, ◌∷◌, ◌++◌, ◌==◌, ◌&&◌, if◌then◌else◌}
use Rattle.transcript_law.proofs.invariant.Clocking.{carries_clock}
use Rattle.transcript_law.proofs.Words.{ℕ, Bool, true, false, List, refl, ap, sym, ◌∙◌, subst, inl, arith, IsIn, hist, Option, Some, None, is_some, flat_map, eqb-true}
use Rattle.transcript_law.proofs.Words.{eqb-false, eq-eqb, ne_eqb, Frame, Cause, Member, Cluster, VbReply, Plain, is_active, States, with_vb_at, AdminCall, admin_result, Told, PlainLink}
use Rattle.transcript_law.proofs.Words.{link_number, producer_node, consumer_node, PlainNode, PlainWorld, Outcome, with_node_at, with_states, branch_of_line, empty_node, done, refusal, first_cause}
use Rattle.transcript_law.proofs.Words.{refused_or, node_outcome, on_node, clock_at, vb_in, Role, Chronicle, after_role, after_lines, upto, fork_of, holds_same, [], IsNew, Position, complete_position, last_seq, option_map, parent_of, with_at}
use Rattle.transcript_law.proofs.Words.{stream_at, ⊎_elim, row_at, row_put, with_link, on_link, link_outcome, with_links, LinkResult, StreamName, call_told, node_step, front, told}
use Rattle.transcript_law.proofs.invariant.Tables.{none_there, at_here, at_there, id_here, if_known, used_before}
use Rattle.transcript_law.specs.{Heirs.{IsRisen}, Lawfulness.{LawfulBranch, fork_in, newest_of}}
use Rattle.transcript_law.proofs.{invariant.Lefts.{LeftUpTo}, invariant.Wholes.{WholeTo}}
use Rattle.transcript_law.proofs.invariant.Holdings.{OpenedAs, opened_as}
use Rattle.transcript_law.proofs.links.Followed.{fork_low}
use Rattle.transcript_law.proofs.invariant.Seats.{seat, seats_apart}
use Rattle.transcript_law.proofs.invariant.Agreement.{clock_of, node_known, TimesAre, TimesIf, times_if, all_rise, CountsAre, CountsIf, counts_if, vb_of, Writes, WritesIf, own_history, VbHeld, VbHolds, VbAgrees, AgreesAt, consumer_seat, producer_seat, LinkAgrees, Agrees, GoesOn, LineGoes, idle, vb_contents, vb_row, VbRow, VbTold, BranchAgrees, IsLink, LinksDiffer, AgreesIn}
use Rattle.transcript_law.specs.Feeding.{HasOpen, IsOfClient, client_in}
use Rattle.transcript_law.proofs.invariant.{Agreement.{Wants}, Carried.{all_there}, ClientsKept.{AllIn, ConnsKept, Every, GoesOver, all_kept, clients_kept, every_owed, fewer_at, fewer_now, goes_agreed, goes_agreed_at, spot_at}, LinkFeeds.{feeds_same}}
use Rattle.transcript_law.proofs.invariant.Carrying.{Reclocked, Relinked, Changed}
use Rattle.transcript_law.proofs.invariant.Carried.{as_far, kept_same, link_carried, consumer_made, branches_again, KeptVb, places, all_vbs, ids_same}
use Rattle.transcript_law.proofs.invariant.LinkRows.{found_is_link, put_same as put_link_same}
use Rattle.transcript_law.proofs.{invariant.OneLink.{carries_rests, carries_same}, invariant.Resting.{ends_again, rests_by}}
use Rattle.{node_world.specs.Nodes.{if_up}, node_world.specs.Worlds.{on_made}, node_world.specs.declared.arm.Arm.{Arm}, transcript_law.specs.Chronicles.{CountsKnown, after_branch, after_clock, DiskKnown, alone, is_branch, no_arm, snap_in_role}}
use Rattle.transcript_law.proofs.{invariant.Agreement.{AwayAt, BookAgrees, IsAway, Power, PowerIsIf, RestsIn, is_down, is_running, power_of}, invariant.Carrying.{Rearmed, SameClients, SamePowers, same_clients}, disks.Disks.{beside_in, power_in}}
use Rattle.transcript_law.proofs.{invariant.Agreement.{DiskIsIf, shelf_of, top}, disks.Disks.{disk_same, same_parts}, Words.{SoundCluster, shelf_in}}
use Rattle.transcript_law.proofs.invariant.Owing.{Later}
use Rattle.transcript_law.proofs.invariant.Owing.{later_same}

-- a line that tells nothing beside its lines
abbrev pub as_told : Chronicle → Chronicle
as_told r = r

-- worlds in which one node differs

-- the vBuckets of a world with this node at n
pub at_node : (w : PlainWorld) (n : ℕ) (node : PlainNode) (P : ℕ → ℕ → Option Plain → Type 0) → ((q : ℕ) → P n q (node.vbs q)) → ((m q : ℕ) → (m ≡ n → ⊥) → P m q (vb_of w m q))
    → (m q : ℕ) → P m q (vb_of (with_node_at w n node) m q)
at_node w n node P here there m q = elim (m == n) as (λ b. (m == n) ≡ b → P m q (vb_in (if b then Some node else w.nodes m) q))
    [ true ↦ λ e. subst (λ k. P k q (node.vbs q)) (sym (eqb-true m n e)) (here q) | false ↦ λ e. there m q (eqb-false m n e) ] refl

-- the vBuckets of the node, and those of the others
node_here : (w : PlainWorld) (n q : ℕ) (node : PlainNode) → vb_of (with_node_at w n node) n q ≡ node.vbs q
node_here w n q node = ap (λ b. vb_in (if b then Some node else w.nodes n) q) (eq-eqb n n refl)

node_there : (w : PlainWorld) (n m q : ℕ) (node : PlainNode) → (m ≡ n → ⊥) → vb_of (with_node_at w n node) m q ≡ vb_of w m q
node_there w n m q node ne = ap (λ b. vb_in (if b then Some node else w.nodes m) q) (ne_eqb m n ne)

-- a node that is put as it was
node_put : (w : PlainWorld) (n : ℕ) (node : PlainNode) → w.nodes n ≡ Some node → (m q : ℕ) → vb_of (with_node_at w n node) m q ≡ vb_of w m q
node_put w n node known = at_node w n node (λ m q o. o ≡ vb_of w m q) (λ q. ap (λ o. vb_in o q) (sym known)) (λ m q ne. refl)

-- the journals of a node that is put again, where they are the same
pub shelves_again : (w : PlainWorld) (n : ℕ) (node node' : PlainNode) → ((q : ℕ) → node'.shelves q ≡ node.shelves q) → (m q : ℕ) → shelf_of (with_node_at w n node') m q ≡ shelf_of (with_node_at w n node) m q
shelves_again w n node node' same m q = elim (m == n) as (λ b. shelf_in (if b then Some node' else w.nodes m) q ≡ shelf_in (if b then Some node else w.nodes m) q) [ true ↦ same q | false ↦ refl ]

-- and of one that is put as it was
pub shelves_put : (w : PlainWorld) (n : ℕ) (node : PlainNode) → w.nodes n ≡ Some node → (m q : ℕ) → shelf_of (with_node_at w n node) m q ≡ shelf_of w m q
shelves_put w n node known m q = elim (m == n) as (λ b. (m == n) ≡ b → shelf_in (if b then Some node else w.nodes m) q ≡ shelf_in (w.nodes m) q)
    [ true ↦ λ e. ap (λ o. shelf_in o q) (sym known ∙ ap w.nodes (sym (eqb-true m n e))) | false ↦ λ e. refl ] refl

-- arms, and what is down, of a node that is put again
pub powers_again : (w : PlainWorld) (n : ℕ) (node node' : PlainNode) → beside_in (Some node') ≡ beside_in (Some node) → SamePowers (with_node_at w n node) (with_node_at w n node')
powers_again w n node node' same m = elim (m == n) as (λ b. beside_in (if b then Some node' else w.nodes m) ≡ beside_in (if b then Some node else w.nodes m)) [ true ↦ same | false ↦ refl ]

-- and of one that is put as it was
pub powers_put : (w : PlainWorld) (n : ℕ) (node : PlainNode) → w.nodes n ≡ Some node → SamePowers w (with_node_at w n node)
powers_put w n node known m = elim (m == n) as (λ b. (m == n) ≡ b → beside_in (if b then Some node else w.nodes m) ≡ beside_in (w.nodes m))
    [ true ↦ λ e. ap beside_in (sym known ∙ ap w.nodes (sym (eqb-true m n e))) | false ↦ λ e. refl ] refl

-- the clients of a node that is another one, and has them
pub clients_again : (w : PlainWorld) (n : ℕ) (node node' : PlainNode) → w.nodes n ≡ Some node → ((c : ℕ) → node'.clients c ≡ node.clients c) → SameClients w (with_node_at w n node')
clients_again w n node node' known same m c = elim (m == n) as (λ b. (m == n) ≡ b → client_in (if b then Some node' else w.nodes m) c ≡ client_in (w.nodes m) c)
    [ true ↦ λ e. same c ∙ ap (λ o. client_in o c) (sym known ∙ ap w.nodes (sym (eqb-true m n e))) | false ↦ λ e. refl ] refl

-- and where one journal is another
pub shelves_there : (w : PlainWorld) (n v : ℕ) (node node' : PlainNode) → ((q : ℕ) → (q ≡ v → ⊥) → node'.shelves q ≡ node.shelves q) → (m q : ℕ) → (m ≡ n → q ≡ v → ⊥) → shelf_of (with_node_at w n node') m q ≡ shelf_of (with_node_at w n node) m q
shelves_there w n v node node' same m q other = elim (m == n) as (λ b. (m == n) ≡ b → shelf_in (if b then Some node' else w.nodes m) q ≡ shelf_in (if b then Some node else w.nodes m) q)
    [ true ↦ λ e. same q (λ t. other (eqb-true m n e) t) | false ↦ λ e. refl ] refl

-- a node that is put again, with the vBuckets that it had
pub node_again : (w : PlainWorld) (n : ℕ) (node node' : PlainNode) → ((q : ℕ) → node'.vbs q ≡ node.vbs q) → ((q : ℕ) → node'.shelves q ≡ node.shelves q) → beside_in (Some node') ≡ beside_in (Some node) → Relinked (with_node_at w n node) (with_node_at w n node') w.links
node_again w n node node' same shelves power = record {
  powers = powers_again w n node node' power;
  shelves = shelves_again w n node node' shelves;
  vbs = at_node w n node' (λ m q o. o ≡ vb_of (with_node_at w n node) m q) (λ q. same q ∙ sym (node_here w n q node)) (λ m q ne. sym (node_there w n m q node ne));
  uuids = refl;
  linked = refl;
}

-- a node with the vBuckets that it had
pub node_of_same_vbs : (w : PlainWorld) (n : ℕ) (node node' : PlainNode) → w.nodes n ≡ Some node → ((q : ℕ) → node'.vbs q ≡ node.vbs q) → ((q : ℕ) → node'.shelves q ≡ node.shelves q) → beside_in (Some node') ≡ beside_in (Some node)
    → Relinked w (with_node_at w n node') w.links
node_of_same_vbs w n node node' known same shelves power =
    let again = node_again w n node node' same shelves power in
    record {
      powers = λ m. again.powers m ∙ powers_put w n node known m;
      vbs = λ m q. again.vbs m q ∙ node_put w n node known m q;
      shelves = λ m q. again.shelves m q ∙ shelves_put w n node known m q;
      uuids = refl;
      linked = refl;
    }

-- a node with another arm
pub rearmed_node : (w : PlainWorld) (n : ℕ) (node : PlainNode) (arm : Arm) → w.nodes n ≡ Some node → Rearmed w (with_node_at w n (record node { arm = arm })) n (record { arm = node.arm; off = node.off; clock = node.clock }) arm
rearmed_node w n node arm known = record {
  before = ap power_in known;
  armed = ap (λ b. power_in (if b then Some (record node { arm = arm }) else w.nodes n)) (eq-eqb n n refl);
  others = λ m ne. ap (λ b. power_in (if b then Some (record node { arm = arm }) else w.nodes m)) (ne_eqb m n ne);
  vbs = λ m q. at_node w n (record node { arm = arm }) (λ i j o. o ≡ vb_of w i j) (λ j. ap (λ o. vb_in o j) (sym known)) (λ i j ne. refl) m q;
  shelves = λ m q. shelves_again w n node (record node { arm = arm }) (λ j. refl) m q ∙ shelves_put w n node known m q;
  clients = clients_again w n node (record node { arm = arm }) known (λ c. refl);
  uuids = refl;
  linked = refl;
}

-- a node whose clock shows another time
reclocked_node : (w : PlainWorld) (n : ℕ) (node : PlainNode) (nanos : ℕ) → w.nodes n ≡ Some node → Reclocked w (with_node_at w n (record node { clock = nanos })) n (record { arm = node.arm; off = node.off; clock = node.clock }) nanos
reclocked_node w n node nanos known = record {
  before = ap power_in known;
  shows = ap (λ b. power_in (if b then Some (record node { clock = nanos }) else w.nodes n)) (eq-eqb n n refl);
  others = λ m ne. ap (λ b. power_in (if b then Some (record node { clock = nanos }) else w.nodes m)) (ne_eqb m n ne);
  vbs = λ m q. at_node w n (record node { clock = nanos }) (λ i j o. o ≡ vb_of w i j) (λ j. ap (λ o. vb_in o j) (sym known)) (λ i j ne. refl) m q;
  shelves = λ m q. shelves_again w n node (record node { clock = nanos }) (λ j. refl) m q ∙ shelves_put w n node known m q;
  clients = clients_again w n node (record node { clock = nanos }) known (λ c. refl);
  uuids = refl;
  linked = refl;
}

-- a vBucket that is put as it was
pub put_same : (states : States) (v : ℕ) (vb : Plain) → states v ≡ Some vb → (q : ℕ) → with_vb_at states v vb q ≡ states q
put_same states v vb has q = elim (q == v) as (λ b. (q == v) ≡ b → (if b then Some vb else states q) ≡ states q)
    [ true ↦ λ e. sym has ∙ ap states (sym (eqb-true q v e)) | false ↦ λ e. refl ] refl

-- a node that is put again, with another vBucket v
pub node_grown : (w : PlainWorld) (n v : ℕ) (node node' : PlainNode) (vb : Plain) → ((q : ℕ) → node'.vbs q ≡ with_vb_at node.vbs v vb q) → ((q : ℕ) → (q ≡ v → ⊥) → node'.shelves q ≡ node.shelves q) → beside_in (Some node') ≡ beside_in (Some node)
    → Changed (with_node_at w n node) (with_node_at w n node') n v vb w.links
node_grown w n v node node' vb is shelves power = record {
  powers = powers_again w n node node' power;
  shelves = shelves_there w n v node node' shelves;
  here = node_here w n v node' ∙ is v ∙ ap (λ b. if b then Some vb else node.vbs v) (eq-eqb v v refl);
  there = at_node w n node' (λ m q o. (m ≡ n → q ≡ v → ⊥) → o ≡ vb_of (with_node_at w n node) m q)
      (λ q other. is q ∙ ap (λ b. if b then Some vb else node.vbs q) (ne_eqb q v (λ e. other refl e)) ∙ sym (node_here w n q node)) (λ m q ne other. sym (node_there w n m q node ne));
  uuids = refl;
  linked = refl;
}

-- a node with another vBucket v
pub node_changed : (w : PlainWorld) (n v : ℕ) (node node' : PlainNode) (vb : Plain) → w.nodes n ≡ Some node → ((q : ℕ) → node'.vbs q ≡ with_vb_at node.vbs v vb q) → ((q : ℕ) → (q ≡ v → ⊥) → node'.shelves q ≡ node.shelves q)
    → beside_in (Some node') ≡ beside_in (Some node) → Changed w (with_node_at w n node') n v vb w.links
node_changed w n v node node' vb known is shelves power =
    let grown = node_grown w n v node node' vb is shelves power in
    record {
      powers = λ m. grown.powers m ∙ powers_put w n node known m;
      shelves = λ m q o. grown.shelves m q o ∙ shelves_put w n node known m q;
      here = grown.here;
      there = λ m q o. grown.there m q o ∙ node_put w n node known m q;
      uuids = refl;
      linked = refl;
    }

-- lines that change no vBucket
pub agrees_same : (w w' : PlainWorld) (r : Chronicle) → Agrees w r → Relinked w w' w.links → Agrees w' r
agrees_same w w' r (c, a) same = (c, carries_same idle idle w w' r c a same (λ k. refl))

-- a refused line of a node
pub refused_on : (w : PlainWorld) (r : Chronicle) (n : ℕ) (node : PlainNode) (why : Cause) → Agrees w r → w.nodes n ≡ Some node → GoesOn r as_told (with_node_at w n node, refusal why)
refused_on w r n node why a known = (tt, agrees_same w (with_node_at w n node) r a (node_of_same_vbs w n node node known (λ q. refl) (λ q. refl) refl))

-- a node is made: it runs, and no device call of it is to be hit
module _ (w : PlainWorld) (r : Chronicle) (n : ℕ) (c : Cluster) (a : AgreesIn idle w r c) (none : w.nodes n ≡ None) where
  abbrev made : PlainWorld
  made = with_node_at w n empty_node

  made_vbs : (m q : ℕ) → vb_of made m q ≡ vb_of w m q
  made_vbs = at_node w n empty_node (λ m q o. o ≡ vb_of w m q) (λ q. ap (λ o. vb_in o q) (sym none)) (λ m q ne. refl)

  made_shelves : (m q : ℕ) → shelf_of made m q ≡ shelf_of w m q
  made_shelves m q = elim (m == n) as (λ b. (m == n) ≡ b → shelf_in (if b then Some empty_node else w.nodes m) q ≡ shelf_in (w.nodes m) q)
      [ true ↦ λ e. ap (λ o. shelf_in o q) (sym none ∙ ap w.nodes (sym (eqb-true m n e))) | false ↦ λ e. refl ] refl

  made_clients : SameClients w made
  made_clients m d = elim (m == n) as (λ b. (m == n) ≡ b → client_in (if b then Some empty_node else w.nodes m) d ≡ client_in (w.nodes m) d)
      [ true ↦ λ e. ap (λ o. client_in o d) (sym none ∙ ap w.nodes (sym (eqb-true m n e))) | false ↦ λ e. refl ] refl

  abbrev new_power : Power
  new_power = record { arm = empty_node.arm; off = None; clock = 0 }

  -- the power of a node, by whether it is the one that is made
  power_by : (P : ℕ → Option Power → Type 0) → P n (Some new_power) → ((m : ℕ) → P m (power_of w m)) → (m : ℕ) → P m (power_of made m)
  power_by P here there m = elim (m == n) as (λ b. (m == n) ≡ b → P m (power_in (if b then Some empty_node else w.nodes m)))
      [ true ↦ λ e. subst (λ k. P k (Some new_power)) (sym (eqb-true m n e)) here | false ↦ λ e. there m ] refl

  no_power : power_of w n ≡ None
  no_power = ap power_in none

  made_down : (m : ℕ) → is_down (power_of made m) ≡ is_down (power_of w m)
  made_down = power_by (λ m p. is_down p ≡ is_down (power_of w m)) (ap is_down (sym no_power)) (λ m. refl)

  made_power : PowerIsIf (r.arm_at n) (Some new_power)
  made_power =
      let told : r.arm_at n ≡ no_arm = subst (PowerIsIf (r.arm_at n)) no_power (a.powers n) in
      record { fuse = ap (λ t. t.fuse) told; out = ap (λ t. t.out) told; down = ap (λ t. t.down) told; zero = λ books e. refl; may_fire = tt; listed_so = λ books e. let z : None ≡ Some books = e in cc }

  made_aways : (m q : ℕ) → vb_of made m q ≡ None → AwayAt (power_of made m) q (shelf_of made m q) (r.role_at m q) (r.disk_at m q) (c.nodes (seat m q)) (c.disks (seat m q))
  made_aways m q e = let x = a.aways m q (sym (made_vbs m q) ∙ e) in record {
    position = x.position;
    log = x.log;
    role = x.role;
    book = subst (λ s. BookAgrees (power_of made m) q s (r.disk_at m q) (c.disks (seat m q))) (sym (made_shelves m q))
        (power_by (λ k p. BookAgrees (power_of w k) q (shelf_of w k q) (r.disk_at k q) (c.disks (seat k q)) → BookAgrees p q (shelf_of w k q) (r.disk_at k q) (c.disks (seat k q)))
        (λ b.
        let y = subst (λ p. BookAgrees p q (shelf_of w n q) (r.disk_at n q) (c.disks (seat n q))) no_power b in
        (y.0, y.1 ∙ ap (λ o. is_some (shelf_in o q)) (sym none)))
        (λ k b. b) m x.book);
  }

  made_agrees : AgreesIn idle made r c
  made_agrees = carries_rests idle idle w made r r.arm_at r.clock_at c a made_clients made_vbs made_shelves refl refl
      (record {
        powers = power_by (λ m p. PowerIsIf (r.arm_at m) p) made_power a.powers;
        clocks = power_by (λ m p. r.clock_at m ≡ clock_of p) (a.clocks n ∙ ap clock_of no_power) a.clocks;
        aways = made_aways;
        downs = λ m q. record {
          vb_none = λ d. made_vbs m q ∙ (a.downs m q).vb_none (sym (made_down m) ∙ d);
          shelf_none = λ d. made_shelves m q ∙ (a.downs m q).shelf_none (sym (made_down m) ∙ d);
        };
        ends = λ x i. let e = a.ends x i in record { producer = power_by (λ m p. is_running (power_of w m) ≡ true → is_running p ≡ true) (λ ran. refl) (λ m ran. ran) (producer_node x) e.producer; consumer = made_down (consumer_node x) ∙ e.consumer; number = e.number };
        small = a.small;
      })
      (λ k. refl)

pub node_goes : (w : PlainWorld) (r : Chronicle) (n : ℕ) → Agrees w r → GoesOn r as_told (node_step w n)
node_goes w r n a = elim (w.nodes n) as (λ o. w.nodes n ≡ o → GoesOn r as_told (refused_or (first_cause ((is_some o, Cause.NodeExists) ∷ [])) w (with_node_at w n empty_node, done [])))
    [ Some node ↦ λ e. (tt, a) | None ↦ λ e. (tt, (a.0, made_agrees w r n a.0 a.1 e)) ] refl

-- a line of a node, by whether the node is made
pub on_made_by : (P : Outcome → Type 0) (w : PlainWorld) (n : ℕ) (f : PlainNode → PlainNode × Told) → P (w, refusal Cause.UnknownNode)
    → ((node : PlainNode) → w.nodes n ≡ Some node → P (with_node_at w n (f node).0, (f node).1)) → P (on_made w n f)
on_made_by P w n f none there = (elim (w.nodes n) as (λ o. w.nodes n ≡ o → P (node_outcome w n (refusal Cause.UnknownNode) o f)) [ None ↦ λ e. none | Some node ↦ there node ]) refl

-- and by whether it is running
pub on_node_by : (P : Outcome → Type 0) (w : PlainWorld) (n : ℕ) (f : PlainNode → PlainNode × Told) → P (w, refusal Cause.UnknownNode)
    → ((node : PlainNode) → w.nodes n ≡ Some node → P (with_node_at w n node, refusal Cause.NodeDown))
    → ((node : PlainNode) → w.nodes n ≡ Some node → is_some node.off ≡ false → P (with_node_at w n (f node).0, (f node).1)) → P (on_node w n f)
on_node_by P w n f none down there = on_made_by P w n (if_up f) none (λ node e.
    elim (is_some node.off) as (λ b. is_some node.off ≡ b → let x : PlainNode × Told = if b then (node, refusal Cause.NodeDown) else f node in P (with_node_at w n x.0, x.1))
    [ true ↦ λ off. down node e | false ↦ there node e ] refl)

-- a line of a running node
pub on_node_goes : (w : PlainWorld) (r : Chronicle) (n : ℕ) (f : PlainNode → PlainNode × Told) → Agrees w r
    → ((node : PlainNode) → w.nodes n ≡ Some node → is_some node.off ≡ false → GoesOn r as_told (with_node_at w n (f node).0, (f node).1)) → GoesOn r as_told (on_node w n f)
on_node_goes w r n f a there = on_node_by (GoesOn r as_told) w n f (tt, a) (λ node e. refused_on w r n node Cause.NodeDown a e) there

-- a node's clock shows another time
pub clock_goes : (w : PlainWorld) (r : Chronicle) (n nanos : ℕ) → Agrees w r → GoesOn r (λ told. after_clock told n nanos (on_node w n (clock_at nanos)).1.answer) (on_node w n (clock_at nanos))
clock_goes w r n nanos a = on_node_by (λ x. GoesOn r (λ told. after_clock told n nanos x.1.answer) x) w n (clock_at nanos) (tt, a) (λ node e. refused_on w r n node Cause.NodeDown a e)
    (λ node e up. (tt, (a.0, carries_clock idle w (with_node_at w n (record node { clock = nanos })) r a.0 n nanos (record { arm = node.arm; off = node.off; clock = node.clock }) a.1 (reclocked_node w n node nanos e) (none_there node.off up))))

-- a line for a link, by whether it is open, and by whether the node at one of its ends, which carries it out, is made
pub on_link_by : (P : Outcome → Type 0) (w : PlainWorld) (l : ℕ) (end : PlainLink → ℕ) (f : PlainLink → PlainNode → PlainNode × LinkResult) → P (w, refusal Cause.LinkClosed)
    → ((link : PlainLink) → row_at link_number (link_number link) w.links ≡ Some link → P (with_links w (row_put link_number (link_number link) link w.links), refusal Cause.UnknownNode))
    → ((link : PlainLink) (node : PlainNode) → row_at link_number (link_number link) w.links ≡ Some link → w.nodes (end link) ≡ Some node
    → P (with_link link (with_node_at w (end link) (f link node).0, (f link node).1)))
    → P (on_link w l end f)
on_link_by P w l end f none away there = by (row_at link_number l w.links) refl
  where
    at_node : (link : PlainLink) → row_at link_number (link_number link) w.links ≡ Some link → (o : Option PlainNode) → w.nodes (end link) ≡ o
        → P (with_link link (node_outcome w (end link) (Some link, refusal Cause.UnknownNode) o (f link)))
    at_node link found None e = away link found
    at_node link found (Some node) e = there link node found e

    by : (o : Option PlainLink) → row_at link_number l w.links ≡ o → P (link_outcome w l end f o)
    by None e = none
    by (Some link) e = at_node link (subst (λ k. row_at link_number k w.links ≡ Some link) (sym (found_is_link l w.links link e).1) e) (w.nodes (end link)) refl

pub on_link_goes : (w : PlainWorld) (r : Chronicle) (l : ℕ) (end : PlainLink → ℕ) (f : PlainLink → PlainNode → PlainNode × LinkResult) → Agrees w r
    → ((link : PlainLink) (node : PlainNode) → row_at link_number (link_number link) w.links ≡ Some link → w.nodes (end link) ≡ Some node
    → GoesOn r as_told (with_link link (with_node_at w (end link) (f link node).0, (f link node).1)))
    → GoesOn r as_told (on_link w l end f)
on_link_goes w r l end f a there = on_link_by (GoesOn r as_told) w l end f (tt, a)
    (λ link found. (tt, agrees_same w (with_links w (row_put link_number (link_number link) link w.links)) r a (record { powers = λ n. refl; vbs = λ n v. refl; shelves = λ n v. refl; uuids = refl; linked = put_link_same (link_number link) w.links link found }))) there

-- ids that no line tells of may be used as well
pub more_used : (w : PlainWorld) (r : Chronicle) (more : List ℕ) → Agrees w r → Agrees (record { nodes = w.nodes; uuids = w.uuids ++ more; links = w.links }) r
more_used w r more (c, a) = (
  c,
  record {
    sound = a.sound;
    vbs = a.vbs;
    disks = a.disks;
    branches = branches_again refl refl (λ u e. used_before u w.uuids more e) a.branches;
    links = λ x i. let l = a.links x i in record { follower = l.follower; follower_is = l.follower_is; follows = l.follows; acks = l.acks; dial = l.dial; talk = l.talk };
    differ = a.differ;
    clients = let used : PlainWorld = record { nodes = w.nodes; uuids = w.uuids ++ more; links = w.links } in let kept = all_kept w used r r (λ m d. refl) (λ m d. refl) refl (λ n v. refl) (λ n v. refl) in
        clients_kept w used r r 0 a.clients (all_there idle w r c a) kept (λ k n v id has. inl has) (every_owed w used r r kept (later_same _ _ refl refl) (λ n v x p o. o) a.clients.owed);
    rests = record { powers = a.powers; clocks = a.clocks; aways = a.aways; downs = a.downs; ends = λ x i. let e = a.ends x i in record { producer = e.producer; consumer = e.consumer; number = e.number }; small = a.small };
  },
)

-- a line that uses no id goes on after the branches of its lines are used
pub line_goes_on : (r : Chronicle) (told : Chronicle → Chronicle) (outcome : Outcome) → GoesOn r told outcome → LineGoes r told outcome
line_goes_on r told outcome g = (g.0, more_used outcome.0 (told (after_lines r outcome.1.events)) (flat_map branch_of_line outcome.1.events) g.1)

-- what an operator's call makes of the world, by what the vBuckets and its reply are then
abbrev pub admin_by : PlainWorld → ℕ → ℕ → AdminCall → PlainNode → States × Option VbReply → Outcome
admin_by w n v asked node x = (with_node_at w n (with_states node x.0), call_told (admin_result n v asked x.1))

-- a vBucket that is made

-- the links agree as before: no link speaks of a vBucket that was not made
pub new_links : (w w' : PlainWorld) (r r' : Chronicle) (c c' : Cluster) (n v : ℕ) (x : PlainLink) (up down : List Frame) → vb_of w n v ≡ None
    → ((m q : ℕ) → (m ≡ n → q ≡ v → ⊥) → vb_of w' m q ≡ vb_of w m q) → ((k : ℕ) → r'.dial_of k ≡ r.dial_of k) → ((k q : ℕ) → r'.stream_of (StreamName.Link k) q ≡ r.stream_of (StreamName.Link k) q) → ((k : ℕ) → r'.stated_of k ≡ r.stated_of k) → ((k : ℕ) → r'.point_of k ≡ r.point_of k)
    → ((j : ℕ) → (j ≡ seat n v → ⊥) → c'.nodes j ≡ c.nodes j) → LinkAgrees w r c x up down → LinkAgrees w' r' c' x up down
new_links w w' r r' c c' n v x up down none there dials streams states points members a = link_carried w w' r r' c c' x up down
    (λ fv e. (fv, there (consumer_node x) x.consumer.dialed.vb (absent (consumer_node x) x.consumer.dialed.vb fv e) ∙ e, kept_same fv))
    (dials (link_number x)) (streams (link_number x) x.consumer.dialed.vb) (states (link_number x)) (points (link_number x)) (members (consumer_seat x) (λ e. consumer_made w r c x up down a n v none (sym e)))
    (λ p k s e feeds opened has.
    let other = absent (producer_node x) x.consumer.dialed.vb p e in let far = members (producer_seat x) (seats_apart (producer_node x) x.consumer.dialed.vb n v other) in (
      p,
      there (producer_node x) x.consumer.dialed.vb other ∙ e,
      refl,
      opened,
      ap (λ (m : Member). m.br) far,
      λ dead. ap (λ (m : Member). m.position) far,
      as_far (ap (λ (m : Member). m.position) far),
    ))
    a
  where
    absent : (m q : ℕ) (p : Plain) → vb_of w m q ≡ Some p → m ≡ n → q ≡ v → ⊥
    absent m q p e s t = let z : vb_of w m q ≡ None = ap (λ k. vb_of w k q) s ∙ ap (vb_of w n) t ∙ none in cc

-- a vBucket of which the lines tell as before agrees as before, where its branch is the same up to where the vBucket is
pub vb_told : (r r' : Chronicle) (n v : ℕ) (m : Member) (o : Option Plain) → vb_row r' n v ≡ vb_row r n v
    → ((b : Bool) → WritesIf b r n v m.br → WritesIf b r' n v m.br)
    → ((vb : Plain) → VbAgrees r n v m vb → upto (own_history r n v) vb.position.at ≡ upto (own_history r' n v) vb.position.at)
    → AgreesAt r n v m o → AgreesAt r' n v m o
vb_told r r' n v m None row writes front a = subst (λ t. IsAway t m) (sym row) a
vb_told r r' n v m (Some vb) row writes front a = record {
  kept = record {
    sound = a.sound;
    spanned = a.spanned;
    keeps = a.keeps;
    told = subst (λ (t : VbRow). VbTold t.contents m.held vb.log vb.position) (sym row) a.told;
    member = a.member;
    branch = subst (λ (t : VbRow). BranchAgrees t.contents.branch m.br) (sym row) a.branch;
    holds = holds_same 0 (WholeTo vb.floor vb.spans vb.position) vb.position.at m.held (own_history r n v) (own_history r' n v) (all_rise a.kept) (front vb a)
        (λ i w. let low : fork_of vb.position ≤ vb.position.at = fork_low vb.position a.sound.within.0 in let k : i ≤ fork_of vb.position = w.1 in omega arith) a.holds;
  };
  role = ap (λ (t : VbRow). t.role) row ∙ a.role;
  opened = subst (λ (t : VbRow). OpenedAs vb.role t.opened (is_some vb.spans.current)) (sym row) a.opened;
  writes = writes (is_active vb.role) a.writes;
  counts = subst (λ (t : VbRow). CountsIf (is_active vb.role) t.counts vb.others vb.acks) (sym row) a.counts;
  lefts = subst (λ (t : VbRow). is_active vb.role ≡ true → LeftUpTo t.counts.risen vb.position.at vb.waiting) (sym row) a.lefts;
  times = subst (λ (t : VbRow). TimesIf (is_active vb.role) t.counts.times vb.waiting) (sym row) a.times;
}

-- a line that tells of a vBucket's role tells nothing of another one
pub role_row : (r : Chronicle) (n v : ℕ) (role : Role) (m q : ℕ) → (m ≡ n → q ≡ v → ⊥) → vb_row (after_role r n v role) m q ≡ vb_row r m q
role_row r n v role m q other i = record (vb_row r m q) {
  role = at_there r.role_at n v (Some (Some role)) m q other i;
  opened = at_there r.open_at n v false m q other i;
  contents = record (vb_contents r m q) { snap = at_there r.snap_at n v (snap_in_role role (r.held n v) (r.snap_at n v)) m q other i };
  counts = at_there r.counts_at n v (alone (last_seq 0 (r.held n v))) m q other i;
}

-- nor of who writes, where a vBucket that gets active is the writer of its branch already
pub writers_same : (r : Chronicle) (n v : ℕ) (role : Role) → (is_active role ≡ true → (u : ℕ) → is_branch (r.branch_at n v) u ≡ true → r.writer_of u ≡ Some (n, v)) → (u : ℕ) → (after_role r n v role).writer_of u ≡ r.writer_of u
writers_same r n v role wrote u = by (is_active role) (is_branch (r.branch_at n v) u) (λ e f. wrote e u f)
  where
    by : (a b : Bool) → (a ≡ true → b ≡ true → r.writer_of u ≡ Some (n, v)) → (if a && b then Some (n, v) else r.writer_of u) ≡ r.writer_of u
    by true true w = sym (w refl refl)
    by true false w = refl
    by false b w = refl

-- so it is of one that does not
pub writers_rest : (r : Chronicle) (n v : ℕ) (role : Role) → is_active role ≡ false → (u : ℕ) → (after_role r n v role).writer_of u ≡ r.writer_of u
writers_rest r n v role rests = writers_same r n v role (λ active u on. let z : false ≡ true = sym rests ∙ active in cc)

-- and of one that made a branch
pub writers_branched : (r : Chronicle) (n v uuid : ℕ) (parent : Option ℕ) (fork high : ℕ) (role : Role) (u : ℕ) → (after_role (after_branch r n v uuid parent fork high) n v role).writer_of u ≡ (after_branch r n v uuid parent fork high).writer_of u
writers_branched r n v uuid parent fork high role = writers_same (after_branch r n v uuid parent fork high) n v role (λ active u on.
    let same : uuid ≡ u = eqb-true uuid u (sym (ap (λ o. is_branch o u) (at_here r.branch_at n v (Some uuid))) ∙ on) in
    ap (after_branch r n v uuid parent fork high).writer_of (sym same) ∙ id_here r.writer_of uuid (Some (n, v)))

-- which made it for itself alone
pub risen_anew : (r : Chronicle) (n v uuid : ℕ) (parent : Option ℕ) (fork high : ℕ) → IsRisen (after_branch r n v uuid parent fork high) n v
risen_anew r n v uuid parent fork high = record {
  uuid = uuid;
  writer = record { made_or_took = id_here r.writer_of uuid (Some (n, v)); on_branch = at_here r.branch_at n v (Some uuid) };
  anew = at_here r.counts_at n v (alone (last_seq 0 (r.held n v)));
}

pub role_there : (r : Chronicle) (n v : ℕ) (role : Role) (m q : ℕ) (k : Member) (o : Option Plain) → (m ≡ n → q ≡ v → ⊥) → ((u : ℕ) → (after_role r n v role).writer_of u ≡ r.writer_of u) → AgreesAt r m q k o → AgreesAt (after_role r n v role) m q k o
role_there r n v role m q k o other same a = vb_told r (after_role r n v role) m q k o (λ i. role_row r n v role m q other i) writes (λ vb x. refl) a
  where
    writes : (b : Bool) → WritesIf b r m q k.br → WritesIf b (after_role r n v role) m q k.br
    writes false x = tt
    writes true x = record { branch = x.branch; is_told = x.is_told; writer = same k.br ∙ x.writer; named = x.named }

-- it is in its snapshot, also where it is active, which is at the end of all that it holds
snap_here : (r : Chronicle) (n v : ℕ) (role : Role) (m : Member) (vb : Plain) → VbHolds r n v m vb → (is_active role ≡ true → vb.position ≡ complete_position vb.position.at) → (after_role r n v role).snap_at n v ≡ r.snap_at n v
snap_here r n v role m vb a ends = at_here r.snap_at n v (snap_in_role role (r.held n v) (r.snap_at n v)) ∙ by role ends
  where
    by : (x : Role) → (is_active x ≡ true → vb.position ≡ complete_position vb.position.at) → snap_in_role x (r.held n v) (r.snap_at n v) ≡ r.snap_at n v
    by Role.Active e = ap (λ k. Some (k, k)) (ap (last_seq 0) a.held ∙ a.high) ∙ ap (λ (p : Position). Some (p.ss, p.se)) (sym (e refl)) ∙ sym a.snap
    by Role.Replica e = refl
    by Role.Pending e = refl
    by Role.Dead e = refl

-- a branch that it makes where it stands
pub branch_of : (r : Chronicle) (n v uuid : ℕ) (m : Member) (vb : Plain) → IsNew uuid r.tree → VbHolds r n v m vb → LawfulBranch r n v uuid (parent_of vb.log) (fork_of vb.position) vb.position.at
branch_of r n v uuid m vb new a = record {
  new = new;
  newest = if_known (option_map newest_of (r.log_at n v)) (parent_of vb.log) (ap (option_map newest_of) a.log);
  last = sym (ap (last_seq 0) a.held ∙ a.high);
  leaves = if_known (option_map (fork_in vb.position.at) (r.snap_at n v)) (fork_of vb.position) (ap (option_map (fork_in vb.position.at)) a.snap);
}

-- a vBucket in the role that was told: where it is active its node alone is the chain, and the prepares that wait were left
pub role_here : (r : Chronicle) (n v : ℕ) (role : Role) (m : Member) (vb : Plain) → vb.role ≡ role → vb.spans.current ≡ None
    → (is_active role ≡ true → Writes r n v m.br × CountsAre (with_at r.counts_at n v (alone (last_seq 0 (r.held n v))) n v) vb.others vb.acks × (vb.position ≡ complete_position vb.position.at) × LeftUpTo vb.position.at vb.position.at vb.waiting × TimesAre (with_at r.counts_at n v (alone (last_seq 0 (r.held n v))) n v).times vb.waiting) → VbHolds r n v m vb
    → VbAgrees (after_role r n v role) n v m vb
role_here r n v role m vb is sealed leads a = record {
  kept = subst (λ s. VbHeld r.tree (record (vb_contents r n v) { snap = s }) m vb) (sym (snap_here r n v role m vb a (λ e. (leads e).2))) a;
  role = at_here r.role_at n v (Some (Some role)) ∙ ap (λ (x : Role). Some (Some x)) (sym is);
  opened = opened_as vb.role (with_at r.open_at n v false n v) (is_some vb.spans.current) (at_here r.open_at n v false ∙ sym (ap is_some sealed));
  writes = elim (is_active vb.role) as (λ b. b ≡ is_active role → WritesIf b (after_role r n v role) n v m.br) [ true ↦ λ e. writes_led (leads (sym e)).0 | false ↦ λ e. tt ] (ap is_active is);
  counts = counts_if (λ e. (leads (sym (ap is_active is) ∙ e)).1);
  lefts = λ e. subst (λ (t : CountsKnown). LeftUpTo t.risen vb.position.at vb.waiting) (sym (at_here r.counts_at n v (alone (last_seq 0 (r.held n v)))))
      (subst (λ k. LeftUpTo k vb.position.at vb.waiting) (sym (ap (last_seq 0) a.held ∙ a.high)) (leads (sym (ap is_active is) ∙ e)).3);
  times = times_if (λ e. (leads (sym (ap is_active is) ∙ e)).4);
}
  where
    -- who wrote does, also where the line says so once more
    either : (b : Bool) → r.writer_of m.br ≡ Some (n, v) → (if b then Some (n, v) else r.writer_of m.br) ≡ Some (n, v)
    either true e = refl
    either false e = e

    writes_led : Writes r n v m.br → Writes (after_role r n v role) n v m.br
    writes_led x = record { branch = x.branch; is_told = x.is_told; writer = either (is_active role && is_branch (r.branch_at n v) m.br) x.writer; named = x.named }

-- a vBucket that changed at links that are as they were: it keeps what its links speak of, and the streams that they have open
module _ (w w' : PlainWorld) (r r' : Chronicle) (c c' : Cluster) (n v : ℕ) (vb vb' : Plain) (a : AgreesIn idle w r c) (known : vb_of w n v ≡ Some vb) (became : Changed w w' n v vb' w.links) (kept : KeptVb vb vb')
    (nodes : (j : ℕ) → c'.nodes j ≡ c.nodes j) (tree : r'.tree ≡ r.tree) (dials : (k : ℕ) → r'.dial_of k ≡ r.dial_of k) (streams : (k q : ℕ) → r'.stream_of (StreamName.Link k) q ≡ r.stream_of (StreamName.Link k) q) (states : (k : ℕ) → r'.stated_of k ≡ r.stated_of k) (points : (k : ℕ) → r'.point_of k ≡ r.point_of k)
    (opens : (x : PlainLink) → IsLink x w.links → (k : ℕ) → HasOpen v k x.server.streams → producer_node x ≡ n → stream_at k vb'.streams ≡ stream_at k vb.streams) where
  one_of : (m q : ℕ) (x : Plain) → vb_of w m q ≡ Some x → m ≡ n → q ≡ v → x ≡ vb
  one_of m q x e s t = let z : Some x ≡ Some vb = sym e ∙ ap (λ k. vb_of w k q) s ∙ ap (vb_of w n) t ∙ known in cc

  put_is : (m q : ℕ) → m ≡ n → q ≡ v → vb_of w' m q ≡ Some vb'
  put_is m q s t = ap (λ k. vb_of w' k q) s ∙ ap (vb_of w' n) t ∙ became.here

  linked : (x : PlainLink) → IsLink x w.links → LinkAgrees w' r' c' x [] []
  linked x i = link_carried w w' r r' c c' x [] []
      (λ fv e. ⊎_elim
      (λ s. (vb', put_is (consumer_node x) x.consumer.dialed.vb s.0 s.1, subst (λ y. KeptVb y vb') (sym (one_of (consumer_node x) x.consumer.dialed.vb fv e s.0 s.1)) kept))
      (λ o. (fv, became.there (consumer_node x) x.consumer.dialed.vb o ∙ e, kept_same fv))
      (places n v (consumer_node x) x.consumer.dialed.vb))
      (dials (link_number x)) (streams (link_number x) x.consumer.dialed.vb) (states (link_number x)) (points (link_number x)) (nodes (consumer_seat x))
      (λ p k s e feeds opened has. ⊎_elim
      (λ t.
      let same = one_of x.server.desk.node x.consumer.dialed.vb p e t.0 t.1 in (
        vb',
        put_is x.server.desk.node x.consumer.dialed.vb t.0 t.1,
        kept.role ∙ ap (λ (y : Plain). y.role) (sym same),
        opens x i k (subst (λ q. HasOpen q k x.server.streams) t.1 has) t.0 ∙ subst (λ (y : Plain). stream_at k y.streams ≡ Some s) same opened,
        ap (λ (m : Member). m.br) (nodes (producer_seat x)),
        λ dead. ap (λ (m : Member). m.position) (nodes (producer_seat x)),
        as_far (ap (λ (m : Member). m.position) (nodes (producer_seat x))),
      ))
      (λ o. (p, became.there x.server.desk.node x.consumer.dialed.vb o ∙ e, refl, opened, ap (λ (m : Member). m.br) (nodes (producer_seat x)), λ dead. ap (λ (m : Member). m.position) (nodes (producer_seat x)), as_far (ap (λ (m : Member). m.position) (nodes (producer_seat x)))))
      (places n v x.server.desk.node x.consumer.dialed.vb))
      (a.links x i)

  -- what rests beside it
  pub written_rests : ((m : ℕ) → node_known r' m ≡ node_known r m) → (r'.disk_at n v).there ≡ (r.disk_at n v).there → ((m q : ℕ) → (m ≡ n → q ≡ v → ⊥) → (vb_row r' m q ≡ vb_row r m q) × (c'.disks (seat m q) ≡ c.disks (seat m q))) → RestsIn w' r' c'
  written_rests arms same rows = rests_by w w' r r' c c' a.rests became.powers arms
      (λ m q none. ⊎_elim (λ s. let z : Some vb' ≡ None = sym (put_is m q s.0 s.1) ∙ none in cc)
      (λ o. record { vb = sym (became.there m q o) ∙ none; shelf = became.shelves m q o; row = (rows m q o).0; member = nodes (seat m q); disk = (rows m q o).1 }) (places n v m q))
      (λ m q down. ⊎_elim (λ s. let z : Some vb ≡ None = sym (ap (λ k. vb_of w k q) s.0 ∙ ap (vb_of w n) s.1 ∙ known) ∙ (a.downs m q).vb_none down in cc)
      (λ o. (became.there m q o ∙ (a.downs m q).vb_none down, became.shelves m q o ∙ (a.downs m q).shelf_none down)) (places n v m q))
      (λ m q e. ⊎_elim (λ s. ap (λ k. (r.disk_at k q).there) s.0 ∙ ap (λ k. (r.disk_at n k).there) s.1 ∙ sym same ∙ sym (ap (λ k. (r'.disk_at k q).there) s.0 ∙ ap (λ k. (r'.disk_at n k).there) s.1) ∙ e)
      (λ o. ap (λ (t : VbRow). t.disk.there) (sym (rows m q o).0) ∙ e) (places n v m q))
      (λ x i. ends_again w w' x became.powers (a.ends x (subst (IsLink x) became.linked i)))

  -- clients' streams there stand as they did
  written_conns : ((m d : ℕ) → r'.clients_at m d ≡ r.clients_at m d) → ((d k : ℕ) → IsOfClient w n d v k → stream_at k vb'.streams ≡ stream_at k vb.streams) → VbAgrees r' n v (c'.nodes (seat n v)) vb'
      → ((m q : ℕ) → (m ≡ n → q ≡ v → ⊥) → AgreesAt r' m q (c'.nodes (seat m q)) (vb_of w m q)) → ConnsKept Every w w' r r'
  written_conns clients stands here elsewhere = record {
    conns = λ m d left. same_clients w w' became.powers m d;
    known = λ m d left. clients m d;
    opens = λ m d q k left has. ⊎_elim
        (λ s. subst (λ j. IsOfClient w j d q k → GoesOver (spot_at w r j q) (spot_at w' r' j q) k) (sym s.0) (subst (λ j. IsOfClient w n d j k → GoesOver (spot_at w r n j) (spot_at w' r' n j) k) (sym s.1) (λ h.
        let at : vb'.position.at ≡ vb.position.at = ap (λ (x : Wants). x.position.at) kept.wants in
        goes_agreed w w' r r' n v k (c.nodes (seat n v)) (c'.nodes (seat n v)) vb vb' known became.here (record { active = ap is_active kept.role; stream = stands d k h; at = omega (arith, at) })
        (subst (AgreesAt r n v (c.nodes (seat n v))) known (a.vbs n v)) here (br n v) (more n v) (λ x. same (c.nodes (seat n v)).br))) has)
        (λ o. goes_agreed_at w w' r r' m q k (c.nodes (seat m q)) (c'.nodes (seat m q)) (vb_of w m q) refl (became.there m q o) (a.vbs m q) (elsewhere m q o) (br m q) (more m q) (λ x. same (c.nodes (seat m q)).br))
        (places n v m q);
  }
    where
      br : (m q : ℕ) → (c'.nodes (seat m q)).br ≡ (c.nodes (seat m q)).br
      br m q = ap (λ (x : Member). x.br) (nodes (seat m q))

      more : (m q : ℕ) → AllIn (c.nodes (seat m q)).held (c'.nodes (seat m q)).held
      more m q x i = subst (λ (y : Member). IsIn x y.held) (sym (nodes (seat m q))) i

      same : (u : ℕ) → hist r'.tree u ≡ hist r.tree u
      same u = ap (λ t. hist t u) tree

  pub written_agrees : SoundCluster top c' → c'.tree ≡ c.tree → VbAgrees r' n v (c'.nodes (seat n v)) vb' → ((m q : ℕ) → (m ≡ n → q ≡ v → ⊥) → AgreesAt r' m q (c'.nodes (seat m q)) (vb_of w m q))
      → DiskIsIf (r'.disk_at n v) (c'.disks (seat n v)) (shelf_of w' n v) (Some vb') → ((m q : ℕ) → (m ≡ n → q ≡ v → ⊥) → (r'.disk_at m q ≡ r.disk_at m q) × (c'.disks (seat m q) ≡ c.disks (seat m q))) → RestsIn w' r' c'
      → ((m d : ℕ) → r'.clients_at m d ≡ r.clients_at m d) → ((d k : ℕ) → IsOfClient w n d v k → stream_at k vb'.streams ≡ stream_at k vb.streams) → Later r r' → AgreesIn idle w' r' c'
  written_agrees sound ctree here elsewhere disk disks rests clients stands last = record {
    rests = rests;
    sound = sound;
    vbs = all_vbs w w' n v vb' (λ m q o. AgreesAt r' m q (c'.nodes (seat m q)) o) became.here became.there here elsewhere;
    disks = all_vbs w w' n v vb' (λ m q o. DiskIsIf (r'.disk_at m q) (c'.disks (seat m q)) (shelf_of w' m q) o) became.here became.there disk
        (λ m q o. let d = disks m q o in disk_same (vb_of w m q) (vb_of w m q) d.0 d.1 (became.shelves m q o) (same_parts (vb_of w m q)) (a.disks m q));
    branches = branches_again ctree tree (ids_same became.uuids) a.branches;
    links = λ x i. linked x (subst (IsLink x) became.linked i);
    differ = subst LinksDiffer (sym became.linked) a.differ;
    clients = clients_kept w w' r r' 0 a.clients (all_there idle w r c a) (written_conns clients stands here elsewhere) (λ k m q id has. inl (feeds_same w w' became.linked k m q id has))
        (every_owed w w' r r' (written_conns clients stands here elsewhere) last (fewer_at w w' n v became.there (fewer_now w w' n v vb vb' known became.here kept.fewer)) a.clients.owed);
  }

-- the same, where the cluster is as it was, and nothing was written down
pub changed_agrees : (w w' : PlainWorld) (r r' : Chronicle) (c : Cluster) (n v : ℕ) (vb vb' : Plain) (a : AgreesIn idle w r c) → vb_of w n v ≡ Some vb → (became : Changed w w' n v vb' w.links) → KeptVb vb vb'
    → r'.tree ≡ r.tree → ((k : ℕ) → r'.dial_of k ≡ r.dial_of k) → ((k q : ℕ) → r'.stream_of (StreamName.Link k) q ≡ r.stream_of (StreamName.Link k) q) → ((k : ℕ) → r'.stated_of k ≡ r.stated_of k) → ((k : ℕ) → r'.point_of k ≡ r.point_of k)
    → ((x : PlainLink) → IsLink x w.links → (k : ℕ) → HasOpen v k x.server.streams → producer_node x ≡ n → stream_at k vb'.streams ≡ stream_at k vb.streams)
    → VbAgrees r' n v (c.nodes (seat n v)) vb' → ((m q : ℕ) → (m ≡ n → q ≡ v → ⊥) → AgreesAt r' m q (c.nodes (seat m q)) (vb_of w m q))
    → ((m q : ℕ) → r'.disk_at m q ≡ r.disk_at m q) → shelf_of w' n v ≡ shelf_of w n v → (DiskIsIf (r.disk_at n v) (c.disks (seat n v)) (shelf_of w n v) (Some vb) → DiskIsIf (r.disk_at n v) (c.disks (seat n v)) (shelf_of w n v) (Some vb')) → ((m : ℕ) → node_known r' m ≡ node_known r m)
    → ((m q : ℕ) → (m ≡ n → q ≡ v → ⊥) → vb_row r' m q ≡ vb_row r m q)
    → ((m d : ℕ) → r'.clients_at m d ≡ r.clients_at m d) → ((d k : ℕ) → IsOfClient w n d v k → stream_at k vb'.streams ≡ stream_at k vb.streams) → Later r r' → AgreesIn idle w' r' c
changed_agrees w w' r r' c n v vb vb' a known became kept tree dials streams states points opens here elsewhere disks shelf parts arms rows clients stands last =
    written_agrees w w' r r' c c n v vb vb' a known became kept (λ j. refl) tree dials streams states points opens a.sound refl here elsewhere
    (disk_same (Some vb') (Some vb') (disks n v) refl shelf refl (parts (subst (DiskIsIf (r.disk_at n v) (c.disks (seat n v)) (shelf_of w n v)) known (a.disks n v))))
    (λ m q o. (disks m q, refl))
    (written_rests w w' r r' c c n v vb vb' a known became kept (λ j. refl) tree dials streams states points opens arms (ap (λ (d : DiskKnown). d.there) (disks n v)) (λ m q o. (rows m q o, refl))) clients stands last
