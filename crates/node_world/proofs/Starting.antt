-- nodes that stop, and vBuckets that take their new branches
use Rattle.std.proofs.Common.{◌≡◌, ℕ, true, false, List, [], refl, sym, ap, ◌∙◌, subst, Option, Some, None, is_some}
use Rattle.std.specs.Prelude.{IfSome}
use Rattle.std.specs.Option.{option_map}
use Rattle.slab.specs.Slab.{get}
use Rattle.disk_journals.specs.Books.{AreBooks, listed}
use Rattle.disk_journals.specs.Devices.{fuse_device}
use Rattle.disk_journals.specs.Stands.{ShelvesStand}
use Rattle.vb_calls.specs.Jobs.{RanJob, after_job}
use Rattle.vb_calls.specs.Programs.{alone_step}
use Rattle.vb_calls.specs.Shelves.{Shelves, left_book}
use Rattle.vb_disk.specs.declared.made.Outcome.{Outcome}
use Rattle.vb_calls.specs.States.{States}
use Rattle.vb_calls.proofs.JobReadings.{ComesTo}
use Rattle.vbucket.specs.Stands.{SlotsStand}
use Rattle.node_core.specs.Flushing.{FlushResult}
use Rattle.node_core.specs.Loading.{start_job}
use Rattle.node_core.specs.Outcomes.{value_at}
use Rattle.node_core.specs.Outs.{start_by}
use Rattle.node_core.specs.declared.conn.Conn.{Conn}
use Rattle.node_core.specs.declared.node.starts.Started.{Started}
use Rattle.node_world.specs.declared.script_node.ScriptNode.{ScriptNode}
use Rattle.node_world.specs.Arms.{empty_node, no_arm, placed}
use Rattle.node_world.specs.Ends.{KeepsEnds, LiftsArm, PlacesArm}
use Rattle.node_world.specs.Nodes.{with_kept}
use Rattle.node_world.specs.Power.{start_call}
use Rattle.node_world.specs.Starts.{StartsOne, Stops}
use Rattle.node_world.specs.Stands.{MemNode, NodeMatch, ClientStands, client_part, node_number, peer_part}
use Rattle.node_world.proofs.Armed.{both_keep}
use Rattle.node_world.proofs.Nodes.{inside, off_kept, with_both}
use Rattle.node_world.proofs.Shelved.{MemAsks, known_job}

-- a node that stopped: nothing is in it but its disks
module _ (old new : ScriptNode) (out : Outcome) (number : node_number new ≡ node_number old) (vbs : new.node.vbs ≡ []) (disks : new.node.disks ≡ []) (conns : new.node.conns.slots ≡ []) (dials : new.node.dials ≡ []) (clients : new.clients ≡ []) (clock : new.clock ≡ 0) (made : new.made ≡ 0)
    (arm : new.arm ≡ no_arm) (there : is_some new.off ≡ true)
    (bear : (shelves : Shelves) → ShelvesStand fuse_device old.node.disks shelves → IfSome new.off (λ left. AreBooks left.items (listed (λ v. option_map (left_book out) (shelves v))))) where
  no_conn : (key : ℕ) → get new.node.conns key ≡ None
  no_conn key = ap (λ (slots : List (Option Conn)). get (record new.node.conns { slots = slots }) key) conns

  no_key : (c : ℕ) → value_at new.clients c ≡ None
  no_key c = ap (λ (keys : List (ℕ × ℕ)). value_at keys c) clients

  no_peer : (key : ℕ) → peer_part (get new.node.conns key) ≡ None
  no_peer key = ap peer_part (no_conn key)

  no_dial : (v : ℕ) → value_at new.node.dials v ≡ None
  no_dial v = ap (λ rows. value_at rows v) dials

  pub stops : Stops out old new
  stops = (
    λ plain stands. record {
      slots = subst (λ slots. SlotsStand slots empty_node.vbs) (sym vbs) (λ v. tt);
      shelves = subst (λ slots. ShelvesStand fuse_device slots empty_node.shelves) (sym disks) (λ v. tt);
      made = made;
      clock = clock;
      clients = record {
        each = λ c. subst (λ o. ClientStands new.node.conns o None) (sym (no_key c)) tt;
        apart = λ c d key has also. let no : None ≡ Some key = sym (no_key c) ∙ has in cc;
        owned = λ key has. let no : false ≡ true = sym (ap (λ o. is_some (client_part o)) (no_conn key)) ∙ has in cc;
      };
      bases = λ c. tt;
      arm = arm;
      off = record { there = there; bear = bear plain.shelves stands.shelves; peers = no_peer; dials = no_dial };
    },
    number,
    record { peers = no_peer; dials = no_dial },
  )

-- one more vBucket takes its new branch, under the arm
module _ (old ready left : ScriptNode) (v uuid : ℕ) (told : Started) (node : MemNode) (placing : PlacesArm v old ready)
    (ran : RanJob (alone_step SlotsStand) MemAsks (start_job ready.node.number v uuid) ready.node.vbs ready.node.disks (start_by told) node.vbs node.disks)
    (rest : node ≡ record ready.node { vbs = node.vbs; disks = node.disks }) (lifting : LiftsArm v (inside ready node) left) where
  stays : KeepsEnds ready (inside ready node)
  stays = record {
    number = ap (λ (x : MemNode). x.number) rest;
    peers = λ key. ap (λ (x : MemNode). peer_part (get x.conns key)) rest;
    dials = λ u. ap (λ (x : MemNode). value_at x.dials u) rest;
  }

  pub starts : StartsOne (v, uuid) old told left
  starts plain stands = (
    lifting.0 (start_call (node_number old) v uuid (placed v plain)).0 alike,
    known.0,
    both_keep old (inside ready node) left (both_keep old ready (inside ready node) placing.1 stays) lifting.1,
  )
    where
      ready_stands : NodeMatch ready (placed v plain)
      ready_stands = placing.0 plain stands

      came : (States × Shelves) × FlushResult
      came = after_job (start_job (node_number old) v uuid) plain.vbs (placed v plain).shelves

      known : ComesTo SlotsStand (ShelvesStand fuse_device) (start_by told) node.vbs node.disks came
      known = known_job (start_job (node_number old) v uuid) ready.node (start_by told) node
          (subst (λ n. RanJob (alone_step SlotsStand) MemAsks (start_job n v uuid) ready.node.vbs ready.node.disks (start_by told) node.vbs node.disks) placing.1.number ran)
          plain.vbs ready_stands.slots (placed v plain).shelves ready_stands.shelves

      alike : NodeMatch (inside ready node) (with_kept (placed v plain) came.0)
      alike = with_both ready node (placed v plain) came.0.0 came.0.1 known.1 known.2 (λ key. ap (λ (x : MemNode). client_part (get x.conns key)) rest)
          (off_kept ready (inside ready node) plain.off refl stays ready_stands.off) ready_stands
