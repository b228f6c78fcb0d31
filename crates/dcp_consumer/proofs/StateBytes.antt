-- states and their answers, byte by byte
use Rattle.std.proofs.Common.{◌≡◌, ℕ, List, [], ◌∷◌, refl, ap, Some, Ok, arith}
use Rattle.mcbp_frame.specs.declared.frame.Frame.{Frame}
use Rattle.mcbp_frame.specs.Frames.{first_frame, frame_of}
use Rattle.mcbp_frame.specs.Spelling.{spelling}
use Rattle.mcbp_dcp.specs.declared.message.DcpMsg.TheVariants as msg
use Rattle.mcbp_dcp.specs.DcpFrames.{dcp_frame}
use Rattle.mcbp_dcp.specs.DurableRows.{no_cas, some_cas}
use Rattle.mcbp_dcp.specs.MessageRows.{answer_head, state_bytes}
use Rattle.mcbp_dcp.specs.Messages.{read_of}
use Rattle.mcbp_dcp.specs.Rows.{frame_row}
use Rattle.mcbp_dcp.specs.Shapes.{shape_fault}
use Rattle.mcbp_dcp.proofs.DcpBack.{message_back}
use Rattle.takeover.specs.declared.take_over.TakeStep.{TakeStep}
use Rattle.takeover.specs.declared.take_over.TakeStep.TheVariants.{Pend, Own}
use Rattle.dcp_consumer.specs.Conduct.{Reads}
use Rattle.dcp_consumer.specs.Counting.{counted_bytes}
use Rattle.dcp_consumer.specs.Machine.{over_why, state_of}
use Rattle.dcp_consumer.specs.States.{state_answered, BytesAreObeyed, IsStateAnswer}
use Rattle.dcp_consumer.proofs.States.{obeyed}

pub written : (opaque : ℕ) → IsStateAnswer opaque (state_answered opaque)
unfolding dcp_frame
written opaque = record {
  frame = dcp_frame (msg.StateAnswer 0) opaque 0;
  spelled = refl;
  magic = refl;
  opcode = refl;
  opaque_is = refl;
  status = refl;
  bare = (refl, refl, refl, refl, refl, refl);
  read = message_back (msg.StateAnswer 0) opaque 0 tt (omega arith);
}

in_bytes : (take : TakeStep) (bytes : List ℕ) (f : Frame) → first_frame bytes ≡ Some (Ok f) → counted_bytes (f ∷ []) ≡ 25 → f.magic ≡ 0x80 → f.opaque ≡ 0x0a0b0c0d → Reads f (msg.SetVbucketState (state_of take))
    → BytesAreObeyed take bytes (answer_head 0x5b 0x00 0x00 0x00)
unfolding dcp_frame spelling
in_bytes take bytes f first len magic opaque read =
    (f, first, len, (λ c goes takes next. obeyed c f take ((((λ answer. absurd (omega (arith, answer, magic))), ap over_why goes), goes, takes), next, read)), ap state_answered opaque)

pub pending : BytesAreObeyed Pend (state_bytes 0 no_cas 3) (answer_head 0x5b 0x00 0x00 0x00)
unfolding first_frame frame_of frame_row shape_fault read_of counted_bytes spelling
pending = in_bytes Pend (state_bytes 0 no_cas 3) (frame_of (state_bytes 0 no_cas 3)) refl refl refl refl refl

pub active : BytesAreObeyed Own (state_bytes 0 no_cas 1) (answer_head 0x5b 0x00 0x00 0x00)
unfolding first_frame frame_of frame_row shape_fault read_of counted_bytes spelling
active = in_bytes Own (state_bytes 0 no_cas 1) (frame_of (state_bytes 0 no_cas 1)) refl refl refl refl refl

pub heads : BytesAreObeyed Pend (state_bytes 1 some_cas 3) (answer_head 0x5b 0x00 0x00 0x00)
unfolding first_frame frame_of frame_row shape_fault read_of counted_bytes spelling
heads = in_bytes Pend (state_bytes 1 some_cas 3) (frame_of (state_bytes 1 some_cas 3)) refl refl refl refl refl
