-- what is known of a producer's answers by their numbers
use Rattle.std.proofs.Common.{◌≡◌, ◌≢◌, ℕ, Bool, true, false, List, refl, sym, ap, ◌∙◌, inl, inr, Option, Some, None, Result, Ok, Err}
use Rattle.std.specs.Prelude.{◌⊎◌, ◌-◌, ◌==◌, ◌||◌, if◌then◌else◌}
use Rattle.std.specs.Option.{option_map}
use Rattle.std.proofs.lemmas.Bool.{eq-eqb, ne_eqb, eqb-true, and_parts, and_from}
use Rattle.std.proofs.lemmas.Bool.Decides.{eqb_tells}
use Rattle.mcbp_frame.specs.declared.frame.Frame.{Frame}
use Rattle.mcbp_dcp.specs.declared.row.DcpRow.{DcpRow}
use Rattle.mcbp_dcp.specs.declared.row.DcpRow.TheVariants as row
use Rattle.mcbp_dcp.specs.declared.message.DcpMsg.{DcpMsg}
use Rattle.mcbp_dcp.specs.declared.message.DcpMsg.TheVariants as msg
use Rattle.mcbp_dcp.specs.declared.message.DcpFault.{DcpFault}
use Rattle.mcbp_dcp.specs.declared.message.StreamVerdict.{StreamVerdict}
use Rattle.mcbp_dcp.specs.declared.message.StreamVerdict.TheVariants as told
use Rattle.mcbp_dcp.specs.declared.shape.TheConstants.{SUCCESS, ROLLBACK}
use Rattle.mcbp_dcp.specs.Rows.{frame_row}
use Rattle.mcbp_dcp.specs.Shapes.{shape_fault}
use Rattle.mcbp_dcp.specs.Messages.{verdict_in, message_in, unless_fault, read_as, read_of}
use Rattle.vb_events.specs.declared.event.EndReason.TheVariants as reason
use Rattle.dcp_consumer.specs.Conduct.{AnswersTo, Awaits, Reads}
use Rattle.dcp_consumer.specs.Dialing.{stream_opaque}
use Rattle.dcp_consumer.specs.Machine.{answers, is_awaited, misread_reason, answered_with}
use Rattle.dcp_consumer.specs.declared.handshake.Handshake.{Handshake}
use Rattle.dcp_consumer.specs.declared.handshake.Handshake.TheVariants as handshake

-- ---- which answer is awaited

fits_so : (opaque opcode : ℕ) (f : Frame) → AnswersTo opaque opcode f → answers opaque opcode f ≡ true
fits_so opaque opcode f a = and_from (f.opaque == opaque) (f.opcode == opcode) (eq-eqb f.opaque opaque a.1) (eq-eqb f.opcode opcode a.2)

fits_back : (opaque opcode : ℕ) (f : Frame) → f.magic ≡ 0x81 → answers opaque opcode f ≡ true → AnswersTo opaque opcode f
fits_back opaque opcode f magic e =
    let parts = and_parts (f.opaque == opaque) (f.opcode == opcode) e in (magic, eqb-true f.opaque opaque parts.0, eqb-true f.opcode opcode parts.1)

-- the opaques of the two CONTROLs that each consumer sends, right before the request for the stream
sync_by : (b : Bool) → (if b then 4 else 5) - 2 ≡ (if b then 2 else 3)
sync_by true = refl
sync_by false = refl

name_by : (b : Bool) → (if b then 4 else 5) - 1 ≡ (if b then 3 else 4)
name_by true = refl
name_by false = refl

-- the same frame by another spelling of its opaque
renumbered : (k j opcode : ℕ) (f : Frame) → k ≡ j → answers j opcode f ≡ true → answers k opcode f ≡ true
renumbered k j opcode f e fits = ap (λ opaque. answers opaque opcode f) e ∙ fits

pub awaited_so : (buffer : ℕ) (h : Handshake) (n : ℕ) (f : Frame) → Awaits buffer h n f → is_awaited buffer h n f ≡ true
awaited_so buffer handshake.Opening n f a = fits_so 1 0x50 f a
awaited_so buffer handshake.Buffering n f a = fits_so 2 0x5e f a
awaited_so buffer handshake.SyncWrites n f a =
    renumbered (stream_opaque buffer - 2) (if buffer == 0 then 2 else 3) 0x5e f (sync_by (buffer == 0)) (fits_so (if buffer == 0 then 2 else 3) 0x5e f a)
awaited_so buffer handshake.Naming n f a =
    renumbered (stream_opaque buffer - 1) (if buffer == 0 then 3 else 4) 0x5e f (name_by (buffer == 0)) (fits_so (if buffer == 0 then 3 else 4) 0x5e f a)
awaited_so buffer handshake.Asking n f a = fits_so n 0x53 f a
awaited_so buffer other n f a = absurd a

pub awaited_back : (buffer : ℕ) (h : Handshake) (n : ℕ) (f : Frame) → f.magic ≡ 0x81 → is_awaited buffer h n f ≡ true → Awaits buffer h n f
awaited_back buffer handshake.Opening n f magic e = fits_back 1 0x50 f magic e
awaited_back buffer handshake.Buffering n f magic e = fits_back 2 0x5e f magic e
awaited_back buffer handshake.SyncWrites n f magic e =
    fits_back (if buffer == 0 then 2 else 3) 0x5e f magic (renumbered (if buffer == 0 then 2 else 3) (stream_opaque buffer - 2) 0x5e f (sym (sync_by (buffer == 0))) e)
awaited_back buffer handshake.Naming n f magic e =
    fits_back (if buffer == 0 then 3 else 4) 0x5e f magic (renumbered (if buffer == 0 then 3 else 4) (stream_opaque buffer - 1) 0x5e f (sym (name_by (buffer == 0))) e)
awaited_back buffer handshake.Asking n f magic e = fits_back n 0x53 f magic e
awaited_back buffer other n f magic e = cc

pub awaited_magic : (buffer : ℕ) (h : Handshake) (n : ℕ) (f : Frame) → Awaits buffer h n f → f.magic ≡ 0x81
awaited_magic buffer handshake.Opening n f a = a.0
awaited_magic buffer handshake.Buffering n f a = a.0
awaited_magic buffer handshake.SyncWrites n f a = a.0
awaited_magic buffer handshake.Naming n f a = a.0
awaited_magic buffer handshake.Asking n f a = a.0
awaited_magic buffer other n f a = absurd a

-- ---- statuses

-- Success, Rollback, or neither
abbrev pub StatusCase : ℕ → Type 0
StatusCase code = (code ≡ 0) ⊎ ((code ≡ 0x23) ⊎ ((code ≢ 0) × (code ≢ 0x23)))

status_by : (code : ℕ) → (((code == 0) ≡ true) × (code ≡ 0)) ⊎ (((code == 0) ≡ false) × (code ≢ 0)) → (((code == 0x23) ≡ true) × (code ≡ 0x23)) ⊎ (((code == 0x23) ≡ false) × (code ≢ 0x23))
    → StatusCase code
status_by code (inl success) back = inl success.1
status_by code (inr never) (inl back) = inr (inl back.1)
status_by code (inr never) (inr other) = inr (inr (never.1, other.1))

pub status_case : (code : ℕ) → StatusCase code
status_case code = status_by code (eqb_tells code 0) (eqb_tells code 0x23)

pub misread_back : (code : ℕ) → (code ≡ 0) ⊎ (code ≡ 0x23) → misread_reason code ≡ reason.Protocol
misread_back code (inl e) = ap misread_reason e
misread_back code (inr e) = ap misread_reason e

pub misread_other : (code : ℕ) → code ≢ 0 → code ≢ 0x23 → misread_reason code ≡ reason.Refused
misread_other code first second =
    ap (λ b. if b || code == ROLLBACK then reason.Protocol else reason.Refused) (ne_eqb code SUCCESS first)
    ∙ ap (λ b. if b then reason.Protocol else reason.Refused) (ne_eqb code ROLLBACK second)

-- ---- what is read of the answer to a request for a stream

told_by : (f : Frame) (t : StreamVerdict) (fault : Option DcpFault) (r : DcpRow) → Some (unless_fault fault (message_in r f)) ≡ Some (Ok (msg.StreamAnswer t)) → t ≡ verdict_in f.vb_or_status f.value
told_by f t (Some fault) r e = cc
told_by f t None row.StreamAnswer e = cc
told_by f t None other e = cc

row_by : (f : Frame) (t : StreamVerdict) (r : Option DcpRow) → option_map (read_as f) r ≡ Some (Ok (msg.StreamAnswer t)) → t ≡ verdict_in f.vb_or_status f.value
row_by f t None e = cc
row_by f t (Some r) e = told_by f t (shape_fault r f) r e

-- the answer is that of its status
pub read_told : (f : Frame) (t : StreamVerdict) → Reads f (msg.StreamAnswer t) → t ≡ verdict_in f.vb_or_status f.value
unfolding read_of
read_told f t e = row_by f t (frame_row f) e

pub told_other : (code : ℕ) (value : List ℕ) → code ≢ 0 → code ≢ 0x23 → verdict_in code value ≡ told.Refused code
told_other code value first second =
    ap (λ b. if b then verdict_in 0 value else if code == ROLLBACK then verdict_in 0x23 value else told.Refused code) (ne_eqb code SUCCESS first)
    ∙ ap (λ b. if b then verdict_in 0x23 value else told.Refused code) (ne_eqb code ROLLBACK second)

-- what was read is such an answer, or none
abbrev pub ReadCase : ℕ → Option (Result DcpMsg DcpFault) → Type 0
ReadCase code read =
    ((t : StreamVerdict) × (read ≡ Some (Ok (msg.StreamAnswer t))) × (answered_with code read ≡ Ok t))
    ⊎ (((t : StreamVerdict) → read ≢ Some (Ok (msg.StreamAnswer t))) × (answered_with code read ≡ Err (misread_reason code)))

pub read_case : (code : ℕ) (read : Option (Result DcpMsg DcpFault)) → ReadCase code read
read_case code (Some (Ok (msg.StreamAnswer t))) = inl (t, refl, refl)
read_case code other = inr (λ t e. cc, refl)
