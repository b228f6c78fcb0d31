-- what rests stays, whatever else happens
use Rattle.std.specs.Prelude.{◌≡◌, ◌<◌}
use Rattle.transcript_law.proofs.Words.{ℕ, Bool, true, false, List, refl, sym, ap, ◌∙◌, subst, Option, Some, None, Member, Cluster, Chronicle, PlainLink, PlainWorld, producer_node, consumer_node}
use Rattle.{branch_model.specs.Journals.{log_of, place_of}, cluster_model.specs.Clusters.{Disk}, vb_calls.specs.Shelves.{Shelf}, transcript_law.specs.Chronicles.{DiskKnown, resting}}
use Rattle.transcript_law.proofs.{invariant.Agreement.{AwayAt, BookBy, BookAgrees, EndsUp, IsLink, NodeKnown, Power, PowerIsIf, RestsIn, clock_of, is_down, is_running, node_known, power_of, shelf_of, vb_of, vb_row, VbRow}, invariant.Carrying.{SameArms, SameEnds, SameOffs, SamePowers, off_of, same_arms}, invariant.Seats.{seat}}
use Rattle.{disk_journals.specs.Books.{Book}, node_world.specs.Worlds.{is_off}, transcript_law.proofs.{disks.Disks.{power_in}, Words.{PlainNode, is_some, not}}}

-- a place at which no vBucket is, and at which nothing changed
pub record StillAt (w w' : PlainWorld) (r r' : Chronicle) (c c' : Cluster) (n v : ℕ) : Type 0 where
  pub vb : vb_of w n v ≡ None
  pub shelf : shelf_of w' n v ≡ shelf_of w n v
  pub row : vb_row r' n v ≡ vb_row r n v
  pub member : c'.nodes (seat n v) ≡ c.nodes (seat n v)
  pub disk : c'.disks (seat n v) ≡ c.disks (seat n v)

-- the disks of a node that is running or down as it was
pub book_by : (p q : Option Power) → off_of q ≡ off_of p → (v : ℕ) (shelf : Option Shelf) (told : DiskKnown) (d : Disk) → BookAgrees p v shelf told d → BookAgrees q v shelf told d
book_by None None e v shelf told d x = x
book_by None (Some q) e v shelf told d x = let z : Some q.off ≡ None = e in cc
book_by (Some p) None e v shelf told d x = let z : None ≡ Some p.off = e in cc
book_by (Some p) (Some q) e v shelf told d x = let z : Some q.off ≡ Some p.off = e in let same : q.off ≡ p.off = cc in subst (λ (o : Option (List Book)). BookBy o v shelf told d) (sym same) x

pub down_by : (p q : Option Power) → off_of q ≡ off_of p → is_down q ≡ is_down p
down_by None None e = refl
down_by None (Some q) e = let z : Some q.off ≡ None = e in cc
down_by (Some p) None e = let z : None ≡ Some p.off = e in cc
down_by (Some p) (Some q) e = let z : Some q.off ≡ Some p.off = e in let same : q.off ≡ p.off = cc in ap is_some same

pub running_by : (p q : Option Power) → off_of q ≡ off_of p → is_running q ≡ is_running p
running_by None None e = refl
running_by None (Some q) e = let z : Some q.off ≡ None = e in cc
running_by (Some p) None e = let z : None ≡ Some p.off = e in cc
running_by (Some p) (Some q) e = let z : Some q.off ≡ Some p.off = e in let same : q.off ≡ p.off = cc in ap (λ o. not (is_some o)) same

-- arms and all that they were
pub offs_same : (w w' : PlainWorld) → SamePowers w w' → SameOffs w w'
offs_same w w' powers m = ap off_of (same_arms w w' powers m)

pub offs_arms : (w w' : PlainWorld) → SameArms w w' → SameOffs w w'
offs_arms w w' powers m = ap off_of (powers m)

pub down_same : (w w' : PlainWorld) → SameOffs w w' → (n : ℕ) → is_down (power_of w' n) ≡ is_down (power_of w n)
down_same w w' offs n = down_by (power_of w n) (power_of w' n) (offs n)

module _ (w w' : PlainWorld) (r r' : Chronicle) (c c' : Cluster) (a : RestsIn w r c) where
  away_still : SameOffs w w' → (n v : ℕ) → StillAt w w' r r' c c' n v → AwayAt (power_of w' n) v (shelf_of w' n v) (r'.role_at n v) (r'.disk_at n v) (c'.nodes (seat n v)) (c'.disks (seat n v))
  away_still offs n v s =
      let x = a.aways n v s.vb in record {
        position = ap (λ (m : Member). m.position) s.member ∙ x.position ∙ ap (λ (d : Disk). place_of d.book) (sym s.disk);
        log = ap (λ (m : Member). m.log) s.member ∙ x.log ∙ ap (λ (d : Disk). log_of d.book) (sym s.disk);
        role = ap (λ (t : VbRow). t.role) s.row ∙ x.role ∙ ap (λ (d : Disk). Some (resting d.book)) (sym s.disk);
        book = book_by (power_of w n) (power_of w' n) (offs n) v (shelf_of w' n v) (r'.disk_at n v) (c'.disks (seat n v))
            (subst (λ (q : Option Shelf). BookAgrees (power_of w n) v q (r'.disk_at n v) (c'.disks (seat n v))) (sym s.shelf)
            (subst (λ (t : DiskKnown). BookAgrees (power_of w n) v (shelf_of w n v) t (c'.disks (seat n v))) (sym (ap (λ (t : VbRow). t.disk) s.row))
            (subst (λ (d : Disk). BookAgrees (power_of w n) v (shelf_of w n v) (r.disk_at n v) d) (sym s.disk) x.book)));
      }

  -- what rests, where nodes are running or down as they were, and the lines tell of their arms
  pub rests_with : SameOffs w w' → ((n : ℕ) → PowerIsIf (r'.arm_at n) (power_of w' n)) → ((n : ℕ) → r'.clock_at n ≡ clock_of (power_of w' n)) → ((n v : ℕ) → vb_of w' n v ≡ None → StillAt w w' r r' c c' n v)
      → ((n v : ℕ) → is_down (power_of w n) ≡ true → (vb_of w' n v ≡ None) × (shelf_of w' n v ≡ None)) → ((n v : ℕ) → (r'.disk_at n v).there ≡ true → (r.disk_at n v).there ≡ true)
      → ((link : PlainLink) → IsLink link w'.links → EndsUp w' link) → RestsIn w' r' c'
  rests_with offs powers clocks still downs there ends =
      let was : (n : ℕ) → is_down (power_of w' n) ≡ true → is_down (power_of w n) ≡ true = λ n d. sym (down_same w w' offs n) ∙ d in record {
        powers = powers;
        clocks = clocks;
        aways = λ n v none. away_still offs n v (still n v none);
        downs = λ n v. record { vb_none = λ d. (downs n v (was n d)).0; shelf_none = λ d. (downs n v (was n d)).1 };
        ends = ends;
        small = λ n v e. a.small n v (there n v e);
      }

  -- and where arms are as they were
  pub rests_arms : SameArms w w' → ((n : ℕ) → node_known r' n ≡ node_known r n) → ((n v : ℕ) → vb_of w' n v ≡ None → StillAt w w' r r' c c' n v)
      → ((n v : ℕ) → is_down (power_of w n) ≡ true → (vb_of w' n v ≡ None) × (shelf_of w' n v ≡ None)) → ((n v : ℕ) → (r'.disk_at n v).there ≡ true → (r.disk_at n v).there ≡ true)
      → ((link : PlainLink) → IsLink link w'.links → EndsUp w' link) → RestsIn w' r' c'
  rests_arms powers arms = rests_with (offs_arms w w' powers) (λ n. subst (PowerIsIf (r'.arm_at n)) (sym (powers n)) (subst (λ (k : NodeKnown). PowerIsIf k.arm (power_of w n)) (sym (arms n)) (a.powers n)))
      (λ n. ap (λ (k : NodeKnown). k.clock) (arms n) ∙ a.clocks n ∙ sym (ap clock_of (powers n)))

  -- and clients are too
  pub rests_by : SamePowers w w' → ((n : ℕ) → node_known r' n ≡ node_known r n) → ((n v : ℕ) → vb_of w' n v ≡ None → StillAt w w' r r' c c' n v)
      → ((n v : ℕ) → is_down (power_of w n) ≡ true → (vb_of w' n v ≡ None) × (shelf_of w' n v ≡ None)) → ((n v : ℕ) → (r'.disk_at n v).there ≡ true → (r.disk_at n v).there ≡ true)
      → ((link : PlainLink) → IsLink link w'.links → EndsUp w' link) → RestsIn w' r' c'
  rests_by powers arms = rests_arms (same_arms w w' powers) arms

-- a node is down exactly where it is off
pub off_as_power : (o : Option PlainNode) → is_down (power_in o) ≡ is_off o
off_as_power None = refl
off_as_power (Some node) = refl

-- and one that is made and not off runs
pub runs_as_power : (o : Option PlainNode) → is_some o ≡ true → is_off o ≡ false → is_running (power_in o) ≡ true
runs_as_power None e off = cc
runs_as_power (Some node) e off = ap not off

-- one that runs is not down
pub not_down : (power : Option Power) → is_running power ≡ true → is_down power ≡ false
not_down None e = refl
not_down (Some power) e = by (is_some power.off) e
  where
    by : (b : Bool) → not b ≡ true → b ≡ false
    by true e = cc
    by false e = refl

-- a link between the same ends
pub ends_off : (w w' : PlainWorld) (x y : PlainLink) → SameOffs w w' → SameEnds x y → EndsUp w x → EndsUp w' y
ends_off w w' x y offs same e =
    let p : producer_node y ≡ producer_node x = ap (λ d. d.node) same.desk in let q : consumer_node y ≡ consumer_node x = ap (λ d. d.node) same.dialed in
    record {
      producer = ap (λ n. is_running (power_of w' n)) p ∙ running_by (power_of w (producer_node x)) (power_of w' (producer_node x)) (offs (producer_node x)) ∙ e.producer;
      consumer = ap (λ n. is_down (power_of w' n)) q ∙ down_same w w' offs (consumer_node x) ∙ e.consumer;
      number = subst (λ k. k < 1000) (sym (ap (λ d. d.link) same.dialed)) e.number;
    }

pub ends_same : (w w' : PlainWorld) (x y : PlainLink) → SamePowers w w' → SameEnds x y → EndsUp w x → EndsUp w' y
ends_same w w' x y powers = ends_off w w' x y (offs_same w w' powers)

pub ends_again : (w w' : PlainWorld) (x : PlainLink) → SamePowers w w' → EndsUp w x → EndsUp w' x
ends_again w w' x powers e = ends_same w w' x x powers (record { dialed = refl; desk = refl }) e

-- whatever becomes of clients
pub ends_arms : (w w' : PlainWorld) (x : PlainLink) → SameArms w w' → EndsUp w x → EndsUp w' x
ends_arms w w' x powers e = ends_off w w' x x (offs_arms w w' powers) (record { dialed = refl; desk = refl }) e
