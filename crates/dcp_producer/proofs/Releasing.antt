-- bytes that a consumer acknowledged
use Rattle.std.proofs.Common.{◌≡◌, ◌-◌, ℕ, Bool, true, refl, ap, subst, arith}
use Rattle.std.specs.Prelude.{if◌then◌else◌}
use Rattle.mcbp_frame.specs.declared.frame.Frame.{Frame}
use Rattle.mcbp_dcp.specs.declared.message.DcpMsg.TheVariants as msg
use Rattle.vb_types.specs.declared.status.Status.TheVariants as status
use Rattle.vb_calls.specs.Programs.{Done}
use Rattle.flow_control.specs.Windows.{with_acked}
use Rattle.dcp_producer.specs.declared.desk.Handshake.{Handshake}
use Rattle.dcp_producer.specs.declared.desk.Handshake.TheVariants as handshake
use Rattle.dcp_producer.specs.Producers.{Served, is_open}
use Rattle.dcp_producer.specs.Serving.{status_sent, message_answered}
use Rattle.dcp_producer.specs.Having.{IsOpened}
use Rattle.dcp_producer.specs.Handshaking.{Gets}
use Rattle.dcp_producer.specs.Holding.{LetsGo}
use Rattle.dcp_producer.proofs.Weighing.{same_gets}

opened : (h : Handshake) → (h ≡ handshake.Fresh → ⊥) → is_open h ≡ true
opened handshake.Fresh not = absurd (not refl)
opened (handshake.Open sync name) not = refl

module _ (f : Frame) (bytes : ℕ) (s : Served) where
  abbrev either : Bool → Served
  either taken = if taken then record s { end = record s.end { window = with_acked bytes s.end.window } } else status_sent f status.Einval s

  pub bytes_taken : IsOpened s → LetsGo bytes s (message_answered f (msg.BufferAcknowledgement bytes) s)
  bytes_taken free = record {
    rest = s.end.window.outstanding - bytes;
    fewer = λ few. omega arith;
    none = λ many. omega arith;
    only = ap (λ b. Done (either b)) (opened s.end.handshake free);
  }

  pub bytes_refused : s.end.handshake ≡ handshake.Fresh → Gets 4 handshake.Fresh f s (message_answered f (msg.BufferAcknowledgement bytes) s)
  bytes_refused fresh =
      subst (λ h. Gets 4 h f s (message_answered f (msg.BufferAcknowledgement bytes) s)) fresh
      (same_gets f status.Einval s (message_answered f (msg.BufferAcknowledgement bytes) s) (ap (λ h. Done (either (is_open h))) fresh))
