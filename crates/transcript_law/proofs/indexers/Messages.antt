-- which frames of a client say nothing of its streams: those that its session answers or drops
use Rattle.std.specs.Prelude.{◌≡◌, ◌==◌, if◌then◌else◌}
use Rattle.std.specs.Option.{is_some, option_map}
use Rattle.transcript_law.proofs.Words.{Bool, true, false, refl, sym, ◌∙◌, subst, Option, Some, None, Frame, RESPONSE, DcpMsg}
use Rattle.client_session.specs.Serving.{is_dcp}
use Rattle.flow_control.specs.declared.window.Window.{Window}
use Rattle.mcbp_dcp.proofs.Opcodes.{some_found}
use Rattle.mcbp_dcp.specs.{Messages.{message_in, read_as, unless_fault}, Opcodes.{opcode_number, opcode_of, opcodes}, Rows.{row_by_opcode, row_of_opcode}, Shapes.{shape_fault}}
unfoldable use Rattle.mcbp_dcp.specs.Messages.{read_of}
unfoldable use Rattle.mcbp_dcp.specs.Rows.{frame_row}
use Rattle.mcbp_dcp.specs.declared.message.DcpFault.{DcpFault}
use Rattle.mcbp_dcp.specs.declared.opcode.Opcode.{Opcode}
use Rattle.mcbp_dcp.specs.declared.opcode.Opcode.TheVariants as op
use Rattle.mcbp_dcp.specs.declared.row.DcpRow.{DcpRow}
use Rattle.transcript_law.specs.ClientFrames.{ask_by, is_close, message_of, ok_of, set_by}
use Rattle.transcript_law.specs.Questions.{is_acknowledgement, window_by}
use Rattle.transcript_law.specs.StreamsTold.{Setup}

-- a message asks for no stream, sets nothing, closes none, acknowledges no bytes, and leaves the window
pub record IsPlain (m : Option DcpMsg) : Type 0 where
  pub asks : ask_by m ≡ None
  pub sets : (s : Setup) → set_by m s ≡ s
  pub closes : is_close m ≡ false
  pub counts : is_acknowledgement m ≡ false
  pub flows : (opened : Bool) (w : Window) → window_by m opened w ≡ w

pub none_plain : IsPlain None
none_plain = record { asks = refl; sets = λ s. refl; closes = refl; counts = refl; flows = λ o w. refl }

-- a row whose message is such
row_plain : (fault : Option DcpFault) (m : DcpMsg) → IsPlain (Some m) → IsPlain (ok_of (Some (unless_fault fault m)))
row_plain None m plain = plain
row_plain (Some fault) m plain = none_plain

-- by the datatype
typed_plain : (b : Bool) (m : Option DcpMsg) → IsPlain m → IsPlain (if b then m else None)
typed_plain true m plain = plain
typed_plain false m plain = none_plain

-- a frame of another opcode is of no row
pub other_plain : (f : Frame) → is_dcp f.opcode ≡ false → IsPlain (message_of f)
unfolding read_of frame_row
other_plain f other = typed_plain (f.datatype == 0) _ (by (opcode_of f.opcode) (some_found (λ o. opcode_number o == f.opcode) opcodes ∙ other))
  where
    by : (o : Option Opcode) → is_some o ≡ false → IsPlain (ok_of (option_map (read_as f) (row_by_opcode o (f.magic == RESPONSE))))
    by None e = none_plain
    by (Some o) e = cc

-- a response is an answer at most
answer_plain : (f : Frame) (o : Opcode) → IsPlain (ok_of (option_map (read_as f) (row_of_opcode o true)))
answer_plain f op.Open = row_plain (shape_fault DcpRow.OpenAnswer f) (message_in DcpRow.OpenAnswer f) (record { asks = refl; sets = λ s. refl; closes = refl; counts = refl; flows = λ o w. refl })
answer_plain f op.StreamRequest = row_plain (shape_fault DcpRow.StreamAnswer f) (message_in DcpRow.StreamAnswer f) (record { asks = refl; sets = λ s. refl; closes = refl; counts = refl; flows = λ o w. refl })
answer_plain f op.Control = row_plain (shape_fault DcpRow.ControlAnswer f) (message_in DcpRow.ControlAnswer f) (record { asks = refl; sets = λ s. refl; closes = refl; counts = refl; flows = λ o w. refl })
answer_plain f op.CloseStream = row_plain (shape_fault DcpRow.CloseAnswer f) (message_in DcpRow.CloseAnswer f) (record { asks = refl; sets = λ s. refl; closes = refl; counts = refl; flows = λ o w. refl })
answer_plain f op.GetFailoverLog = row_plain (shape_fault DcpRow.LogAnswer f) (message_in DcpRow.LogAnswer f) (record { asks = refl; sets = λ s. refl; closes = refl; counts = refl; flows = λ o w. refl })
answer_plain f op.Noop = row_plain (shape_fault DcpRow.NoopAnswer f) (message_in DcpRow.NoopAnswer f) (record { asks = refl; sets = λ s. refl; closes = refl; counts = refl; flows = λ o w. refl })
answer_plain f op.SetVbucketState = row_plain (shape_fault DcpRow.StateAnswer f) (message_in DcpRow.StateAnswer f) (record { asks = refl; sets = λ s. refl; closes = refl; counts = refl; flows = λ o w. refl })
answer_plain f other = none_plain

pub response_plain : (f : Frame) → (f.magic == RESPONSE) ≡ true → IsPlain (message_of f)
unfolding read_of frame_row
response_plain f response = typed_plain (f.datatype == 0) _ (subst (λ b. IsPlain (ok_of (option_map (read_as f) (row_by_opcode (opcode_of f.opcode) b)))) (sym response) (by (opcode_of f.opcode)))
  where
    by : (o : Option Opcode) → IsPlain (ok_of (option_map (read_as f) (row_by_opcode o true)))
    by None = none_plain
    by (Some o) = answer_plain f o
