-- the node of a link's consumer once a record was appended in a line `down`, with what is left of its arm
use Rattle.std.specs.Prelude.{◌≡◌, ◌==◌, if◌then◌else◌}
use Rattle.transcript_law.proofs.Words.{ℕ, true, false, List, refl, ap, sym, ◌∙◌, Option, Some, PlainLink, PlainNode, eq-eqb, ne_eqb, option_map, shelf_in, vb_in, with_links}
use Rattle.transcript_law.proofs.disks.{Appending.{Noted}, Disks.{power_in}}
use Rattle.transcript_law.proofs.invariant.{Agreement.{Power, power_of, shelf_of}, JobSteps.{shelf_found}}
use Rattle.transcript_law.proofs.links.{Downing.{Line, lifted_at, shelf_now, shelves_but, there}, Onward.{Kept, unarmed}}
use Rattle.transcript_law.specs.Feeding.{client_in}
use Rattle.disk_journals.specs.Arms.{under}
use Rattle.node_world.specs.Arms.{fuse_or, lifted}
use Rattle.node_world.specs.Nodes.{with_kept}
use Rattle.vb_calls.specs.Shelves.{Shelf, with_shelf_at}
use Rattle.vb_disk.specs.declared.fuse.Fuse.TheVariants.{Off}

module _ (line : Line) where
  open line use {w, link, node}
  open line.link.consumer.dialed use {node as n, vb as v}

  abbrev pub power : Power
  power = record { arm = node.arm; off = node.off; clock = node.clock }

  pub power_there : (states : Kept) (links : List PlainLink) → power_of (with_links (there line states) links) n ≡ Some power
  power_there states links = ap (λ b. power_in (if b then Some (with_kept node (unarmed v states)) else w.nodes n)) (eq-eqb n n refl)

  -- with another journal of the vBucket
  module _ (states : Kept) (left : Shelf) (links : List PlainLink) where
    abbrev pub noted_kept : Kept
    noted_kept = (states.0, with_shelf_at states.1 v left)

    abbrev before : PlainNode
    before = with_kept node (unarmed v states)

    abbrev after : PlainNode
    after = lifted v (with_kept node noted_kept)

    -- what is left of the arm
    pub power_left : power_of (with_links (lifted_at line noted_kept) links) n ≡ Some (record power { arm = record node.arm { fuse = left.fuse } })
    power_left = ap (λ b. power_in (if b then Some after else w.nodes n)) (eq-eqb n n refl)
        ∙ ap (λ (o : Option Shelf). Some (record power { arm = record node.arm { fuse = fuse_or node.arm.fuse (option_map (λ (s : Shelf). s.fuse) o) } })) (shelf_found states.1 v left)

    pub lifted_noted : Noted (with_links (there line states) links) (with_links (lifted_at line noted_kept) links) n v power (under Off left) left.fuse
    lifted_noted = record {
      before = power_there states links;
      after = power_left;
      others = λ m ne. ap (λ b. power_in (if b then Some after else w.nodes m)) (ne_eqb m n ne) ∙ sym (ap (λ b. power_in (if b then Some before else w.nodes m)) (ne_eqb m n ne));
      clients = λ m c. elim (m == n) as (λ b. client_in (if b then Some after else w.nodes m) c ≡ client_in (if b then Some before else w.nodes m) c) [ true ↦ refl | false ↦ refl ];
      vbs = λ m q. elim (m == n) as (λ b. vb_in (if b then Some after else w.nodes m) q ≡ vb_in (if b then Some before else w.nodes m) q) [ true ↦ refl | false ↦ refl ];
      stands = at_journal n v ∙ shelf_now line noted_kept left (shelf_found states.1 v left);
      shelves = λ m q other. at_journal m q ∙ shelves_but line states noted_kept (λ p ne. ap (λ b. if b then Some left else states.1 p) (ne_eqb p v ne)) m q other;
      uuids = refl;
      linked = refl;
    }
      where
        -- a journal does not tell whether the arm's rest was put back
        at_journal : (m q : ℕ) → shelf_of (with_links (lifted_at line noted_kept) links) m q ≡ shelf_of (there line noted_kept) m q
        at_journal m q = elim (m == n) as (λ b. shelf_in (if b then Some after else w.nodes m) q ≡ shelf_in (if b then Some (with_kept node (unarmed v noted_kept)) else w.nodes m) q) [ true ↦ refl | false ↦ refl ]
