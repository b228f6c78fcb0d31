-- what is due comes to one acknowledgement or to nothing, by one call
use Rattle.std.proofs.Common.{ℕ, Bool, true, false, Option, Some, None}
use Rattle.std.specs.Prelude.{if◌then◌else◌}
use Rattle.dcp_consumer.specs.Machine.{is_streaming, may_acknowledge}
use Rattle.vb_calls.specs.declared.calls.VbCall.{VbCall}
use Rattle.vb_calls.specs.declared.calls.VbCall.TheVariants as call
use Rattle.vb_calls.specs.Programs.{Prog, Done, Call, Always}
use Rattle.node_core.specs.Dials.{DialResult, acknowledged_result, due_met, due_requested, dues_of_reply}

module _ (P : DialResult → Type 0) (s : DialResult) (acks : (seq saved : ℕ) → P (acknowledged_result seq s saved)) (none : P s) where
  pub due_by : (due : Option (ℕ × ℕ)) → P (due_met s due)
  due_by None = none
  due_by (Some (seq, saved)) = by (may_acknowledge seq s.dial.consumer)
    where
      by : (b : Bool) → P (if b then acknowledged_result seq s saved else s)
      by true = acks seq saved
      by false = none

  pub due_always : (calls : ℕ → VbCall → Type 0) → calls s.dial.consumer.dialed.vb call.Due → Always calls P (due_requested s)
  unfolding due_requested
  due_always calls may = by (is_streaming s.dial.consumer.handshake)
    where
      by : (b : Bool) → Always calls P (if b then Call s.dial.consumer.dialed.vb call.Due (λ reply. Done (due_met s (dues_of_reply reply))) else Done s)
      by true = (may, λ reply any. due_by (dues_of_reply reply))
      by false = none
