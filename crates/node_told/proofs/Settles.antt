-- the calls of a node that let a vBucket resolve durable writes, and what is due
use Rattle.std.proofs.Common.{◌≡◌, ℕ, List, Option, Some, None, ap}
use Rattle.vb_calls.specs.declared.calls.VbCall.{VbCall}
use Rattle.vb_calls.specs.declared.calls.VbReply.{VbReply}
use Rattle.vb_told.specs.Laws.{ListsCalls}
use Rattle.node_core.specs.declared.node.Node.{Node}
use Rattle.node_core.specs.declared.out.NodeOut.{NodeOut}
use Rattle.node_core.specs.Dials.{KeptDial, DialResult, dial_due}
use Rattle.node_core.specs.Flushing.{FlushResult, chain_changed, ticked}
use Rattle.node_core.specs.Outcomes.{value_at, DialDueAt}
use Rattle.node_core.specs.Outs.{done_out, flush_out}
use Rattle.node_told.specs.Told.{DueTold}
use Rattle.node_told.specs.Laws.{DuesAreTold, SettlesAreTold}
use Rattle.node_told.proofs.Ran.{quiet, told, first}

abbrev vbs_of : {W J : Type 0} → Node W J → W
vbs_of n = n.vbs

module _ {W J : Type 0} (step : W → ℕ → VbCall → Option VbReply → W → Type 0) (mine : W → ℕ → List (VbCall × VbReply)) (lists : ListsCalls step mine) where
  pub settles : SettlesAreTold J step mine
  settles = record {
    chained = λ v links old out new s. told step mine lists (chain_changed old.number v links) (λ (r : FlushResult). out ≡ flush_out r) old.vbs s.told new.vbs s.ran s.said;
    unchained = λ v links old new began. first step mine lists (chain_changed old.number v links) old.vbs new.vbs began;
    ticked_once = λ v clock old out new s. told step mine lists (ticked old.number v clock) (λ (r : FlushResult). out ≡ flush_out r) old.vbs s.told new.vbs s.ran s.said;
    unticked = λ v clock old new began. first step mine lists (ticked old.number v clock) old.vbs new.vbs began;
  }

  due_told : (v : ℕ) (found : Option KeptDial) (old : Node W J) (out : NodeOut) (new : Node W J) → DialDueAt step v found old out new → DueTold mine found out old.vbs new.vbs
  due_told v None old out new d = (d.0, quiet mine old.vbs new.vbs (ap vbs_of d.1))
  due_told v (Some found) old out new d = told step mine lists (dial_due found.plain) (λ (r : DialResult). out ≡ done_out r.events r.out) old.vbs d.told new.vbs d.ran d.said

  pub dues : DuesAreTold J step mine
  dues = record {
    acknowledged = λ v old out new d. due_told v (value_at old.dials v) old out new d;
    stopped = λ v old new u. (u.found, u.had, first step mine lists (dial_due u.found.plain) old.vbs new.vbs u.began);
  }
