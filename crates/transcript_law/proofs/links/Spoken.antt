-- the frames on their way to a consumer, but for the answers to acknowledgements that were refused
use Rattle.std.specs.Prelude.{◌≡◌, ◌<◌, ◌∷◌, ◌++◌, ◌^◌}
use Rattle.dcp_producer.specs.Serving.{status_frame}
use Rattle.vb_types.specs.Statuses.{status_code}
use Rattle.transcript_law.proofs.Words.{ℕ, true, false, not, cond, List, [], refl, ap, ◌∙◌, append-nil, arith, filter-append, Frame, Readable, Status, DcpMsg, StreamVerdict, dcp_frame, AskAnswer, LogEntry}
use Rattle.transcript_law.proofs.invariant.Agreement.{is_refused_ack, spoken, answer_frame}

-- the frame of a message is no such answer
pub message_spoken : (m : DcpMsg) (o vb : ℕ) → is_refused_ack (dcp_frame m o vb) ≡ false
unfolding dcp_frame
message_spoken (DcpMsg.StreamAnswer (StreamVerdict.Go log)) o vb = refl
message_spoken (DcpMsg.StreamAnswer (StreamVerdict.Roll to)) o vb = refl
message_spoken (DcpMsg.StreamAnswer (StreamVerdict.Refused code)) o vb = refl
message_spoken m o vb = refl

pub answer_spoken : (o : ℕ) (log : List LogEntry) (said : AskAnswer) → is_refused_ack (answer_frame o log said) ≡ false
answer_spoken o log AskAnswer.Go = message_spoken (DcpMsg.StreamAnswer (StreamVerdict.Go log)) o 0
answer_spoken o log (AskAnswer.Roll to) = message_spoken (DcpMsg.StreamAnswer (StreamVerdict.Roll to)) o 0
answer_spoken o log (AskAnswer.Refuse code) = message_spoken (DcpMsg.StreamAnswer (StreamVerdict.Refused code)) o 0

-- frames with one more in front, which the consumer takes
pub spoken_front : (f : Frame) (fs : List Frame) → is_refused_ack f ≡ false → spoken (f ∷ fs) ≡ f ∷ spoken fs
spoken_front f fs taken = ap (λ b. cond (not b) (f ∷ spoken fs) (spoken fs)) taken

-- or which it drops
pub spoken_dropped : (f : Frame) (fs : List Frame) → is_refused_ack f ≡ true → spoken (f ∷ fs) ≡ spoken fs
spoken_dropped f fs dropped = ap (λ b. cond (not b) (f ∷ spoken fs) (spoken fs)) dropped

-- the same behind them
pub spoken_push : (fs : List Frame) (f : Frame) → is_refused_ack f ≡ false → spoken (fs ++ f ∷ []) ≡ spoken fs ++ f ∷ []
spoken_push fs f taken = filter-append (λ x. not (is_refused_ack x)) fs (f ∷ []) ∙ ap (λ g. spoken fs ++ g) (spoken_front f [] taken)

pub spoken_pushed : (fs : List Frame) (f : Frame) → is_refused_ack f ≡ true → spoken (fs ++ f ∷ []) ≡ spoken fs
spoken_pushed fs f dropped = filter-append (λ x. not (is_refused_ack x)) fs (f ∷ []) ∙ ap (λ g. spoken fs ++ g) (spoken_dropped f [] dropped) ∙ append-nil (spoken fs)

-- ---- such an answer

-- a status has room in its field
status_small : (st : Status) → status_code st < 2 ^ 16
status_small Status.Success = omega arith
status_small other = omega arith

-- a reader takes an answer that has a status alone
pub status_readable : (f : Frame) (st : Status) → f.opaque < 2 ^ 32 → Readable (status_frame f st)
status_readable f st few = record {
  fits = record { framing = omega arith; extras = omega arith; key = omega arith; body = omega arith };
  magic = refl;
  limit = omega arith;
  vb_or_status = status_small st;
  opaque = few;
  cas = omega arith;
}
