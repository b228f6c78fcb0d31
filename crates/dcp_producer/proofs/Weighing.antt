-- frames are weighed before they are read as messages
use Rattle.std.proofs.Common.{◌≡◌, ◌≢◌, ◌<◌, Bool, true, false, refl, ap, ◌∙◌, arith, Option, Some, None, Result, Ok, Err}
use Rattle.std.proofs.lemmas.Bool.{false_from_ne_true, eqb-true}
use Rattle.std.proofs.lemmas.Bool.Decides.{nat_tests}
use Rattle.std.specs.List.{list_any}
use Rattle.std.specs.Option.{option_map}
use Rattle.std.specs.Prelude.{if◌then◌else◌, ◌==◌, ◌&&◌, map}
use Rattle.mcbp_frame.specs.declared.frame.Frame.{Frame}
use Rattle.mcbp_frame.specs.declared.frame.TheConstants.{RESPONSE}
use Rattle.mcbp_dcp.specs.declared.message.DcpFault.{DcpFault}
use Rattle.mcbp_dcp.specs.declared.message.DcpMsg.{DcpMsg}
use Rattle.mcbp_dcp.specs.declared.opcode.Opcode.{Opcode}
use Rattle.mcbp_dcp.specs.declared.opcode.Opcode.TheVariants as op
use Rattle.mcbp_dcp.specs.declared.row.DcpRow.TheVariants as row
use Rattle.mcbp_dcp.specs.Messages.{message_in, read_as, read_of, unless_fault}
use Rattle.mcbp_dcp.specs.Opcodes.{opcode_of}
use Rattle.mcbp_dcp.specs.Rows.{frame_row, row_by_opcode}
use Rattle.mcbp_dcp.specs.Shapes.{shape_fault}
use Rattle.mcbp_dcp.proofs.Opcodes.{number_of}
use Rattle.vb_types.specs.declared.status.Status.{Status}
use Rattle.vb_types.specs.declared.status.Status.TheVariants as status
use Rattle.vb_types.specs.Statuses.{status_code}
use Rattle.vb_calls.specs.Programs.{Prog, Done}
use Rattle.dcp_producer.specs.Producers.{Served}
use Rattle.dcp_producer.specs.Serving.{status_sent, message_answered, row_answered, read_answered, frame_answered, heard, response_heard}
use Rattle.dcp_producer.specs.Handshaking.{Gets, Asks, IsOther, opcodes}
use Rattle.dcp_producer.proofs.Handshaking.{refused_alone}

-- a frame that asks is answered by its opcode
pub asked_so : (f : Frame) (s : Served) (known : Bool) → Asks f known → frame_answered f s ≡ (if known then read_answered f (read_of f) s else Done (status_sent f status.UnknownCommand s))
unfolding frame_answered
asked_so f s known (asks, is) =
    ap (λ b. if b then Done (response_heard f s) else if list_any (λ o. o == f.opcode) opcodes then read_answered f (read_of f) s else Done (status_sent f status.UnknownCommand s))
    (false_from_ne_true (f.magic == RESPONSE) (λ t. asks (eqb-true f.magic RESPONSE t)))
    ∙ ap (λ b. if b then read_answered f (read_of f) s else Done (status_sent f status.UnknownCommand s)) is

-- what is the answer of one program is that of another that is the same
pub same_gets : (f : Frame) (st : Status) (s : Served) (prog : Prog Served) → prog ≡ Done (status_sent f st s) → Gets (status_code st) s.end.handshake f s prog
same_gets f st s prog is = let gets = refused_alone f st s in record { frame = gets.frame; is = gets.is; answered = is ∙ gets.answered }

marked : (f : Frame) (read : Option (Result DcpMsg DcpFault)) (s : Served) → 0 < f.datatype → read_answered f read s ≡ Done (status_sent f status.Einval s)
marked f None s above = refl
marked f (Some read) s above =
    let e : (f.datatype == 0) ≡ false = grind (arith, nat_tests) in
    ap (λ b. if b then row_answered f read s else Done (status_sent f status.Einval s)) e

pub unknown_first : (f : Frame) (s : Served) → Asks f false → Gets 0x81 s.end.handshake f s (frame_answered f s)
unknown_first f s asks = same_gets f status.UnknownCommand s (frame_answered f s) (asked_so f s false asks)

pub marked_next : (f : Frame) (s : Served) → Asks f true → 0 < f.datatype → Gets 4 s.end.handshake f s (frame_answered f s)
marked_next f s asks above = same_gets f status.Einval s (frame_answered f s) (asked_so f s true asks ∙ marked f (read_of f) s above)

response_is : (f : Frame) (s : Served) → f.magic ≡ RESPONSE → frame_answered f s ≡ Done (response_heard f s)
unfolding frame_answered
response_is f s is =
    ap (λ n. if n == RESPONSE then Done (response_heard f s) else if list_any (λ o. o == f.opcode) opcodes then read_answered f (read_of f) s else Done (status_sent f status.UnknownCommand s)) is

pub taken_heard : (f : Frame) (s : Served) → f.magic ≡ RESPONSE → f.opcode ≡ 0x5b → f.vb_or_status ≡ 0
    → frame_answered f s ≡ Done (record s { end = record s.end { streams = map (heard f.opaque) s.end.streams } })
taken_heard f s is opcode success =
    let one : (f.opcode == 0x5b) ≡ true = grind (arith, nat_tests, opcode) in
    let two : (f.vb_or_status == 0) ≡ true = grind (arith, nat_tests, success) in
    response_is f s is ∙ (λ i. Done (if one i && two i then record s { end = record s.end { streams = map (heard f.opaque) s.end.streams } } else s))

pub other_dropped : (f : Frame) (s : Served) → f.magic ≡ RESPONSE → f.opcode ≢ 0x5b → frame_answered f s ≡ Done s
other_dropped f s is other =
    let none : (f.opcode == 0x5b) ≡ false = false_from_ne_true (f.opcode == 0x5b) (λ t. other (eqb-true f.opcode 0x5b t)) in
    response_is f s is ∙ ap (λ b. Done (if b && f.vb_or_status == 0 then record s { end = record s.end { streams = map (heard f.opaque) s.end.streams } } else s)) none

pub failed_dropped : (f : Frame) (s : Served) → f.magic ≡ RESPONSE → f.vb_or_status ≢ 0 → frame_answered f s ≡ Done s
failed_dropped f s is other =
    let none : (f.vb_or_status == 0) ≡ false = false_from_ne_true (f.vb_or_status == 0) (λ t. other (eqb-true f.vb_or_status 0 t)) in
    response_is f s is ∙ ap (λ b. Done (if f.opcode == 0x5b && b then record s { end = record s.end { streams = map (heard f.opaque) s.end.streams } } else s)) none
    ∙ by (f.opcode == 0x5b)
  where
    by : (b : Bool) → ◌≡◌ {A = Prog Served} (Done (if b && false then record s { end = record s.end { streams = map (heard f.opaque) s.end.streams } } else s)) (Done s)
    by true = refl
    by false = refl

module _ (f : Frame) (s : Served) where
  abbrev pub Einval : Prog Served
  Einval = Done (status_sent f status.Einval s)

  -- whatever a row that a producer does not take is read as
  pub by_fault : (fault : Option DcpFault) (m : DcpMsg) → message_answered f m s ≡ Einval → (b : Bool) → (if b then row_answered f (unless_fault fault m) s else Einval) ≡ Einval
  by_fault None m e true = e
  by_fault (Some fault) m e true = refl
  by_fault fault m e false = refl

  by_opcode : (o : Option Opcode) → opcode_of f.opcode ≡ o → IsOther f.opcode → read_answered f (option_map (read_as f) (row_by_opcode o false)) s ≡ Einval
  by_opcode None e n = refl
  by_opcode (Some op.Open) e n = absurd (n.opens (number_of f.opcode op.Open e))
  by_opcode (Some op.CloseStream) e n = absurd (n.closes (number_of f.opcode op.CloseStream e))
  by_opcode (Some op.StreamRequest) e n = absurd (n.asks (number_of f.opcode op.StreamRequest e))
  by_opcode (Some op.GetFailoverLog) e n = absurd (n.log (number_of f.opcode op.GetFailoverLog e))
  by_opcode (Some op.StreamEnd) e n = by_fault (shape_fault row.StreamEnd f) (message_in row.StreamEnd f) refl (f.datatype == 0)
  by_opcode (Some op.SnapshotMarker) e n = by_fault (shape_fault row.SnapshotMarker f) (message_in row.SnapshotMarker f) refl (f.datatype == 0)
  by_opcode (Some op.Mutation) e n = by_fault (shape_fault row.Mutation f) (message_in row.Mutation f) refl (f.datatype == 0)
  by_opcode (Some op.Deletion) e n = by_fault (shape_fault row.Deletion f) (message_in row.Deletion f) refl (f.datatype == 0)
  by_opcode (Some op.SetVbucketState) e n = by_fault (shape_fault row.SetVbucketState f) (message_in row.SetVbucketState f) refl (f.datatype == 0)
  by_opcode (Some op.Noop) e n = absurd (n.noop (number_of f.opcode op.Noop e))
  by_opcode (Some op.BufferAcknowledgement) e n = absurd (n.bytes (number_of f.opcode op.BufferAcknowledgement e))
  by_opcode (Some op.Control) e n = absurd (n.control (number_of f.opcode op.Control e))
  by_opcode (Some op.Prepare) e n = by_fault (shape_fault row.Prepare f) (message_in row.Prepare f) refl (f.datatype == 0)
  by_opcode (Some op.SeqnoAcknowledged) e n = absurd (n.seqno (number_of f.opcode op.SeqnoAcknowledged e))
  by_opcode (Some op.Commit) e n = by_fault (shape_fault row.Commit f) (message_in row.Commit f) refl (f.datatype == 0)
  by_opcode (Some op.Abort) e n = by_fault (shape_fault row.Abort f) (message_in row.Abort f) refl (f.datatype == 0)

  by_row : f.magic ≢ RESPONSE → IsOther f.opcode → read_answered f (read_of f) s ≡ Einval
  unfolding read_of frame_row
  by_row asks n =
      ap (λ b. read_answered f (option_map (read_as f) (row_by_opcode (opcode_of f.opcode) b)) s) (false_from_ne_true (f.magic == RESPONSE) (λ t. asks (eqb-true f.magic RESPONSE t)))
      ∙ by_opcode (opcode_of f.opcode) refl n

  pub other_opcode : Asks f true → IsOther f.opcode → Gets 4 s.end.handshake f s (frame_answered f s)
  other_opcode asks n = same_gets f status.Einval s (frame_answered f s) (asked_so f s true asks ∙ by_row asks.0 n)

  pub wrong_parts : (fault : DcpFault) → Asks f true → read_of f ≡ Some (Err fault) → Gets 4 s.end.handshake f s (frame_answered f s)
  wrong_parts fault asks read =
      same_gets f status.Einval s (frame_answered f s) (asked_so f s true asks ∙ ap (λ o. read_answered f o s) read ∙ either (f.datatype == 0))
    where
      either : (b : Bool) → (if b then Einval else Einval) ≡ Einval
      either true = refl
      either false = refl

pub read_then : (f : Frame) (m : DcpMsg) (s : Served) → Asks f true → f.datatype ≡ 0 → read_of f ≡ Some (Ok m) → frame_answered f s ≡ message_answered f m s
read_then f m s asks none read =
    asked_so f s true asks ∙ ap (λ o. read_answered f o s) read ∙ ap (λ n. if n == 0 then message_answered f m s else Done (status_sent f status.Einval s)) none
