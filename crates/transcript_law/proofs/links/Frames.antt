-- the frames that go over a link
use Rattle.std.specs.Prelude.{◌≡◌, ◌+◌, ◌<◌, ◌≤◌, ◌∷◌, ◌++◌, ◌^◌}
use Rattle.transcript_law.proofs.Words.{ℕ, List, [], map, refl, ap, sym, ◌∙◌, arith, append_assoc, append-nil, concat, map-append, Frame, spelling, Readable, DcpMsg}
use Rattle.transcript_law.proofs.Words.{StreamVerdict, dcp_frame, IsVerdict, IsSpelled, VerdictInRange, InRange, concat-append, body_size, verdict_frame, dcp_len, length_dcp}

told_readable : (t : StreamVerdict) (opaque : ℕ) → IsVerdict t → VerdictInRange t → opaque < 2 ^ 32 → body_size (verdict_frame t opaque) ≤ 22020096 → Readable (verdict_frame t opaque)
told_readable (StreamVerdict.Refused status) opaque s r o limit =
    record { fits = record { framing = omega arith; extras = omega arith; key = omega arith; body = omega arith }; magic = refl; limit = limit; vb_or_status = r; opaque = o; cas = omega arith }
told_readable t opaque s r o limit =
    record { fits = record { framing = omega arith; extras = omega arith; key = omega arith; body = omega arith }; magic = refl; limit = limit; vb_or_status = omega arith; opaque = o; cas = omega arith }

message_readable : (m : DcpMsg) (opaque v : ℕ) → IsSpelled m → InRange m → opaque < 2 ^ 32 → v < 2 ^ 16 → body_size (dcp_frame m opaque v) ≤ 22020096 → Readable (dcp_frame m opaque v)
unfolding dcp_frame
message_readable (DcpMsg.StreamAnswer t) opaque v s r o u limit = told_readable t opaque s r o limit
message_readable m opaque v s r o u limit =
    record { fits = record { framing = omega arith; extras = omega arith; key = omega arith; body = omega arith }; magic = refl; limit = limit; vb_or_status = omega arith; opaque = o; cas = omega arith }

-- the frame of a message is one that a reader takes, if it is not too long
pub readable : (m : DcpMsg) (opaque v : ℕ) → IsSpelled m → InRange m → opaque < 2 ^ 32 → v < 2 ^ 16 → dcp_len m ≤ 22020120 → Readable (dcp_frame m opaque v)
readable m opaque v s r o u limit =
    let e : 24 + body_size (dcp_frame m opaque v) ≡ dcp_len m = length_dcp m opaque v in
    message_readable m opaque v s r o u (omega (arith, e))

-- one more frame behind others, as bytes
pub spelled_more : (held queue : List ℕ) (frames : List Frame) (f : Frame) → held ++ queue ≡ concat (map spelling frames) → held ++ (queue ++ spelling f) ≡ concat (map spelling (frames ++ f ∷ []))
spelled_more held queue frames f e =
    sym (append_assoc held queue (spelling f)) ∙ ap (λ l. l ++ spelling f) e
    ∙ ap (λ l. concat (map spelling frames) ++ l) (sym (append-nil (spelling f)))
    ∙ sym (concat-append (map spelling frames) (map spelling (f ∷ []))) ∙ ap concat (sym (map-append spelling frames (f ∷ [])))
