-- the calls of a node that ask its journals too
use Rattle.std.proofs.Common.{◌≡◌, ◌⊎◌, inl, inr, ℕ, List, Option, Some, None, Bool, true, false, ap}
use Rattle.slab.specs.Slab.{get}
use Rattle.vb_calls.specs.declared.calls.VbCall.{VbCall}
use Rattle.vb_calls.specs.declared.calls.VbReply.{VbReply}
use Rattle.vb_calls.specs.Flushes.{wrote_of}
use Rattle.vb_calls.specs.Shelves.{Ask, Fate, Got}
use Rattle.vb_events.specs.declared.event.Cause.TheVariants as cause
use Rattle.vb_types.specs.declared.role.Role.{Role}
use Rattle.vb_told.specs.Laws.{ListsCalls, ListsNoMakes}
use Rattle.node_core.specs.declared.conn.Conn.{Conn}
use Rattle.node_core.specs.declared.conn.Conn.TheVariants as conn
use Rattle.node_core.specs.declared.node.Node.{Node}
use Rattle.node_core.specs.declared.out.NodeOut.{NodeOut}
use Rattle.node_core.specs.Admin.{AdminResult, admin_job}
use Rattle.node_core.specs.Clients.{ClientPulled, client_pulled}
use Rattle.node_core.specs.Dials.{KeptDial, DialResult, dial_bytes}
use Rattle.node_core.specs.Flushing.{FlushResult, flush_at}
use Rattle.node_core.specs.Outcomes.{value_at, ConnPulled, ConnHalted, PulledAt, DialFedAt, MadeIf}
use Rattle.node_core.specs.Outs.{refused_out, made_out, flush_out, client_pull_out, pull_out, dial_out, dial_ended, admin_out}
use Rattle.node_core.specs.Peers.{PullResult, peer_pulled}
use Rattle.node_told.specs.Told.{DialTold, PullTold, PullBegan}
use Rattle.node_told.specs.Laws.{DialsAreTold, PullsAreTold, OperatorsAreTold, FlushesAreTold, MakesAreTold}
use Rattle.node_told.proofs.Ran.{quiet, told_job, first_job}

abbrev vbs_of : {W J : Type 0} → Node W J → W
vbs_of n = n.vbs

module _ {W J : Type 0} (step : W → ℕ → VbCall → Option VbReply → W → Type 0) (asks : J → ℕ → (ask : Ask) → Got ask → J → Type 0) (mine : W → ℕ → List (VbCall × VbReply)) (lists : ListsCalls step mine) where
  conn_pulled : (frames : ℕ) (found : Conn) (old : W) (kept : J) (out : NodeOut) (left : Conn) (new : W) (held : J) → ConnPulled step asks frames found old kept out left new held → PullTold mine frames (Some found) out old new
  conn_pulled frames (conn.Client kept) old disks out (conn.Client left) new held p = told_job step mine lists asks (client_pulled frames kept.plain) (λ (r : ClientPulled). out ≡ client_pull_out r) old disks p.2.0 new held p.2.1 p.2.2
  conn_pulled frames (conn.Client kept) old disks out (conn.Peer left) new held p = absurd p
  conn_pulled frames (conn.Peer kept) old disks out (conn.Peer left) new held p = told_job step mine lists asks (peer_pulled frames kept.plain) (λ (r : PullResult). out ≡ pull_out r) old disks p.2.0 new held p.2.1 p.2.2
  conn_pulled frames (conn.Peer kept) old disks out (conn.Client left) new held p = absurd p

  halted : (frames : ℕ) (found : Conn) (old : W) (kept : J) (new : W) (held : J) → ConnHalted step asks frames found old kept new held → PullBegan mine frames found old new
  halted frames (conn.Client kept) old disks new held s = first_job step mine lists asks (client_pulled frames kept.plain) old disks new held s.1
  halted frames (conn.Peer kept) old disks new held s = first_job step mine lists asks (peer_pulled frames kept.plain) old disks new held s.1

  pulled : (frames key : ℕ) (found : Option Conn) (old : Node W J) (out : NodeOut) (new : Node W J) → PulledAt step asks frames key found old out new → PullTold mine frames found out old.vbs new.vbs
  pulled frames key None old out new p = (p.0, quiet mine old.vbs new.vbs (ap vbs_of p.1))
  pulled frames key (Some found) old out new p = conn_pulled frames found old.vbs old.disks out p.left new.vbs new.disks p.pulled

  pub pulls : PullsAreTold step asks mine
  pulls = record {
    pulled = λ frames key old out new p. pulled frames key (get old.conns key) old out new p;
    stopped = λ frames key old new s. (s.found, s.had, halted frames s.found old.vbs old.disks new.vbs new.disks s.halted);
  }

  dial_fed : (v : ℕ) (piece : List ℕ) (found : Option KeptDial) (old : Node W J) (out : NodeOut) (new : Node W J) → DialFedAt step asks v piece found old out new → DialTold mine piece found out old.vbs new.vbs
  dial_fed v piece None old out new f = (f.0, quiet mine old.vbs new.vbs (ap vbs_of f.1))
  dial_fed v piece (Some found) old out new f = told_job step mine lists asks (dial_bytes piece found.plain) (λ (r : DialResult). out ≡ dial_out r) old.vbs old.disks f.told new.vbs new.disks f.ran f.said

  pub dials : DialsAreTold step asks mine
  dials = record {
    fed = λ v piece old out new f. dial_fed v piece (value_at old.dials v) old out new f;
    stopped = λ v piece old new s. (s.found, s.had, first_job step mine lists asks (dial_bytes piece s.found.plain) old.vbs old.disks new.vbs new.disks s.began);
  }

  pub operators : OperatorsAreTold step asks mine
  operators = record {
    carried_out = λ v asked old out new a. told_job step mine lists asks (admin_job old.number v asked) (λ (r : AdminResult). out ≡ admin_out (dial_ended r.ended (value_at old.dials v)) r) old.vbs old.disks a.told new.vbs new.disks a.ran a.said;
    stopped = λ v asked old new began. first_job step mine lists asks (admin_job old.number v asked) old.vbs old.disks new.vbs new.disks began;
  }

  pub flushes : (has : W → ℕ → Bool) → FlushesAreTold step asks mine has
  flushes has = record {
    made = λ v part old out new w. told_job step mine lists asks (flush_at old.number v part (has old.vbs v)) (λ (r : FlushResult). out ≡ flush_out r) old.vbs old.disks w.told new.vbs new.disks w.ran w.said;
    stopped = λ v part old new began. first_job step mine lists asks (flush_at old.number v part (has old.vbs v)) old.vbs old.disks new.vbs new.disks began;
  }

module _ {W J : Type 0} (made : W → ℕ → ℕ → Role → ℕ → Bool → W → Type 0) (asks : J → ℕ → (ask : Ask) → Got ask → J → Type 0) (mine : W → ℕ → List (VbCall × VbReply)) (lists : ListsNoMakes made mine) where
  noted : (n v : ℕ) (role : Role) (uuid : ℕ) (fresh : Bool) (old : J) (out : NodeOut) (new : J) → MadeIf asks n v role uuid fresh old out new
      → ((fate : Fate) × (out ≡ made_out n v role uuid (wrote_of fate))) ⊎ (out ≡ refused_out cause.VbExists)
  noted n v role uuid true old out new m = inl (m.0, m.2)
  noted n v role uuid false old out new m = inr m.1

  pub makes : MakesAreTold made asks mine
  makes = record {
    noted = λ v role uuid old out new m. (noted old.number v role uuid m.fresh old.disks out new.disks m.noted, lists old.vbs v old.number role uuid m.fresh new.vbs m.made_if);
    stopped = λ v role uuid old new h. lists old.vbs v old.number role uuid true new.vbs h.made_it;
  }
