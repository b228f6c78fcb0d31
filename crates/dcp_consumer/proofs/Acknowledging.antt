-- what a consumer acknowledges
use Rattle.std.proofs.Common.{◌≡◌, ℕ, ◌<◌, ◌≤◌, Bool, true, false, [], refl, ap, ◌∙◌}
use Rattle.std.specs.Prelude.{◌↔◌, ◌-◌, ◌^◌, ◌&&◌, nat_lt, if◌then◌else◌, IsTrue, IsFalse}
use Rattle.std.proofs.Math.Bool.{and-false}
use Rattle.std.proofs.lemmas.Bool.{lt-ltb, ltb-true, le-ltb, and_parts, and_from}
use Rattle.mcbp_frame.specs.Spelling.{spelling}
use Rattle.mcbp_dcp.specs.declared.message.DcpMsg.TheVariants as msg
use Rattle.mcbp_dcp.specs.DcpFrames.{dcp_frame}
use Rattle.mcbp_dcp.proofs.DcpBack.{message_back}
use Rattle.vb_events.specs.declared.event.EndReason.TheVariants as reason
use Rattle.vb_types.specs.declared.stream.StreamAsk.{StreamAsk}
use Rattle.dcp_consumer.specs.Conduct.{Acknowledges, IsAcknowledgement, LeavesAcknowledged, acknowledgement_bytes}
use Rattle.dcp_consumer.specs.Machine.{PlainConsumer, request_again, again_by, ended_for, is_streaming, may_acknowledge, acknowledged}
use Rattle.dcp_consumer.specs.declared.handshake.Handshake.{Handshake}
use Rattle.dcp_consumer.specs.declared.handshake.Handshake.TheVariants as handshake

-- a stream is granted, and goes on, in one state alone
pub streams : (h : Handshake) → IsTrue (is_streaming h) ↔ (h ≡ handshake.Streaming)
streams handshake.Streaming = (λ t. refl, λ e. refl)
streams handshake.Opening = (λ t. cc, λ e. cc)
streams handshake.Buffering = (λ t. cc, λ e. cc)
streams handshake.SyncWrites = (λ t. cc, λ e. cc)
streams handshake.Naming = (λ t. cc, λ e. cc)
streams handshake.Asking = (λ t. cc, λ e. cc)
streams (handshake.Over why) = (λ t. cc, λ e. cc)

pub due : (c : PlainConsumer) (seq : ℕ) → IsTrue (may_acknowledge seq c) ↔ Acknowledges c seq
due c seq = (
  λ t. let parts = and_parts (is_streaming c.handshake) (nat_lt c.acked seq) t in ((streams c.handshake).0 parts.0, ltb-true c.acked seq parts.1),
  λ p. and_from (is_streaming c.handshake) (nat_lt c.acked seq) ((streams c.handshake).1 p.0) (lt-ltb c.acked seq p.1),
)

pub past : (c : PlainConsumer) (seq lower : ℕ) → lower ≤ seq → IsFalse (may_acknowledge lower (acknowledged seq c).0)
past c seq lower below = ap (λ b. is_streaming c.handshake && b) (le-ltb seq lower below) ∙ and-false (is_streaming c.handshake)

-- ---- what is written

pub written : (c : PlainConsumer) (seq : ℕ) → seq < 2 ^ 64 → IsAcknowledgement seq c.asked c.dialed.vb (acknowledged seq c).1
unfolding dcp_frame
written c seq fits = record {
  frame = dcp_frame (msg.SeqnoAcknowledged seq) c.asked c.dialed.vb;
  spelled = refl;
  magic = refl;
  opcode = refl;
  opaque = refl;
  vb = refl;
  extras = refl;
  bare = (refl, refl, refl, refl, refl);
  read = message_back (msg.SeqnoAcknowledged seq) c.asked c.dialed.vb tt fits;
}

-- ---- what leaves it

back_by : (h : Handshake) (b : Bool) (c : PlainConsumer) (ask : StreamAsk) → nat_lt c.asked (2 ^ 32 - 1) ≡ b → (again_by h ask c).0.acked ≡ c.acked
back_by handshake.Asking true c ask e = ap (λ t. (if t then request_again ask c else (ended_for reason.Protocol c, [])).0.acked) e
back_by handshake.Asking false c ask e = ap (λ t. (if t then request_again ask c else (ended_for reason.Protocol c, [])).0.acked) e
back_by other b c ask e = refl

pub others : (c : PlainConsumer) → LeavesAcknowledged c
others c = record {
  fed = λ f. refl;
  grant = refl;
  back = λ ask. back_by c.handshake (nat_lt c.asked (2 ^ 32 - 1)) c ask refl;
  end = λ why. refl;
}

pub bytes : (c : PlainConsumer) → c.dialed.vb ≡ 0x0102 → c.asked ≡ 4 → (acknowledged 0x1112131415161718 c).1 ≡ acknowledgement_bytes
unfolding dcp_frame spelling
bytes c vb asked = λ i. spelling (dcp_frame (msg.SeqnoAcknowledged 0x1112131415161718) (asked i) (vb i))
