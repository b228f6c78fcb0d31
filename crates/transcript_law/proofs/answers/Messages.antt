-- what a client's producer answers to a request of DCP: one response with its opcode and its opaque, or none
use Rattle.std.specs.Prelude.{◌≡◌, ◌==◌, ◌&&◌, if◌then◌else◌, not}
use Rattle.std.specs.Option.{option_map}
use Rattle.transcript_law.proofs.Words.{ℕ, Bool, true, false, List, [], refl, sym, ap, ◌∙◌, subst, Option, Some, None, Status, Frame, RESPONSE, LogEntry, StreamAsk, AskAnswer, DcpMsg, StreamVerdict, stream_verdict}
use Rattle.dcp_producer.specs.Serving.{status_frame}
use Rattle.mcbp_dcp.proofs.Opcodes.{number_of}
unfoldable use Rattle.mcbp_dcp.specs.DcpFrames.{dcp_frame}
use Rattle.mcbp_dcp.specs.{Messages.{message_in, read_as, unless_fault}, Opcodes.{opcode_number, opcode_of}, Rows.{row_by_opcode, row_of_opcode, row_opcode}, Shapes.{shape_fault}}
unfoldable use Rattle.mcbp_dcp.specs.Messages.{read_of}
unfoldable use Rattle.mcbp_dcp.specs.Rows.{frame_row}
use Rattle.mcbp_dcp.specs.declared.message.DcpFault.{DcpFault}
use Rattle.mcbp_dcp.specs.declared.message.DcpMsg.TheVariants as msg
use Rattle.mcbp_dcp.specs.declared.opcode.Opcode.{Opcode}
use Rattle.mcbp_dcp.specs.declared.opcode.Opcode.TheVariants as op
use Rattle.mcbp_dcp.specs.declared.row.DcpRow.{DcpRow}
use Rattle.mcbp_frame.specs.Spelling.{spelling}
use Rattle.transcript_law.specs.ClientFrames.{ask_by, message_of, ok_of}
use Rattle.transcript_law.specs.Questions.{is_acknowledgement, wants_answer}
use Rattle.transcript_law.specs.StreamsTold.{Setup}

-- ---- answers

-- the answer to a frame, by whether it wants one: one response with its opcode and its opaque that fits, or none
abbrev pub IsAnswerTo : (Frame → Type 0) → Frame → Bool → List ℕ → Type 0
IsAnswerTo Fits f true out = (g : Frame) × (out ≡ spelling g) × (g.magic ≡ RESPONSE) × (g.opcode ≡ f.opcode) × (g.opaque ≡ f.opaque) × Fits g
IsAnswerTo Fits f false out = out ≡ []

-- it fits so, where it fits otherwise
pub fits_too : (Fits Fits' : Frame → Type 0) → ((g : Frame) → Fits g → Fits' g) → (f : Frame) (wants : Bool) (out : List ℕ) → IsAnswerTo Fits f wants out → IsAnswerTo Fits' f wants out
fits_too Fits Fits' also f true out (g, spelled, response, opcode, opaque, fits) = (g, spelled, response, opcode, opaque, also g fits)
fits_too Fits Fits' also f false out none = none

-- by what is known of whether it wants one
pub answer_as : (Fits : Frame → Type 0) (f : Frame) (b wants : Bool) (out : List ℕ) → wants ≡ b → IsAnswerTo Fits f b out → IsAnswerTo Fits f wants out
answer_as Fits f b wants out is answers = subst (λ t. IsAnswerTo Fits f t out) (sym is) answers

-- a status alone is one
pub status_to : (Fits : Frame → Type 0) (f : Frame) (st : Status) → Fits (status_frame f st) → IsAnswerTo Fits f true (spelling (status_frame f st))
status_to Fits f st fits = (status_frame f st, refl, refl, refl, refl, fits)

-- ---- which requests want an answer

no_and : (b : Bool) → (b && false) ≡ false
no_and true = refl
no_and false = refl

-- each that acknowledges no bytes
pub message_wants : (s : Setup) (f : Frame) (m : Option DcpMsg) → (f.magic == RESPONSE) ≡ false → message_of f ≡ m → is_acknowledgement m ≡ false → wants_answer s f ≡ true
message_wants s f m asks is other =
    let none : (s.opened && is_acknowledgement (message_of f)) ≡ false = ap (λ o. s.opened && is_acknowledgement o) is ∙ ap (λ b. s.opened && b) other ∙ no_and s.opened in
    (λ i. not (asks i) && not (none i))

-- one that says nothing that is known
pub unknown_wants : (s : Setup) (f : Frame) → (f.magic == RESPONSE) ≡ false → message_of f ≡ None → wants_answer s f ≡ true
unknown_wants s f asks none = message_wants s f None asks none refl

-- a request for a stream
pub stream_wants : (s : Setup) (f : Frame) (ask : StreamAsk) → (f.magic == RESPONSE) ≡ false → message_of f ≡ Some (msg.StreamRequest ask) → wants_answer s f ≡ true
stream_wants s f ask asks is = message_wants s f (Some (msg.StreamRequest ask)) asks is refl

-- CLOSE_STREAM
pub close_wants : (s : Setup) (f : Frame) → (f.magic == RESPONSE) ≡ false → message_of f ≡ Some msg.CloseStream → wants_answer s f ≡ true
close_wants s f asks is = message_wants s f (Some msg.CloseStream) asks is refl

-- an acknowledgement of bytes before OPEN
pub fresh_wants : (s : Setup) (f : Frame) → (f.magic == RESPONSE) ≡ false → s.opened ≡ false → wants_answer s f ≡ true
fresh_wants s f asks shut = (λ i. not (asks i) && not (shut i && is_acknowledgement (message_of f)))

-- over an open connection it wants none
pub bytes_want : (s : Setup) (f : Frame) (bytes : ℕ) → message_of f ≡ Some (msg.BufferAcknowledgement bytes) → s.opened ≡ true → wants_answer s f ≡ false
bytes_want s f bytes is open_it =
    let none : not (s.opened && is_acknowledgement (message_of f)) ≡ false = (λ i. not (open_it i && is_acknowledgement (is i))) in
    ap (λ b. not (f.magic == RESPONSE) && b) none ∙ no_and (not (f.magic == RESPONSE))

-- ---- the opcode of a request, by what it says

-- a message that was read, by its datatype
typed_said : (b : Bool) (o : Option DcpMsg) (m : DcpMsg) → (if b then o else None) ≡ Some m → o ≡ Some m
typed_said true o m e = e
typed_said false o m e = cc

-- and its row's parts
row_said : (fault : Option DcpFault) (said m : DcpMsg) → ok_of (Some (unless_fault fault said)) ≡ Some m → said ≡ m
row_said None said m e = cc
row_said (Some fault) said m e = cc

rows_said : (f : Frame) (m : DcpMsg) (o : Option DcpRow) → ok_of (option_map (read_as f) o) ≡ Some m → (row : DcpRow) × (o ≡ Some row) × (message_in row f ≡ m)
rows_said f m None e = cc
rows_said f m (Some row) e = (row, refl, row_said (shape_fault row f) (message_in row f) m e)

-- the row of a request with an opcode has that opcode
abbrev IsOfOpcode : Opcode → Option DcpRow → Type 0
IsOfOpcode o None = Unit {0}
IsOfOpcode o (Some row) = row_opcode row ≡ o

opcode_rows : (o : Opcode) → IsOfOpcode o (row_of_opcode o false)
opcode_rows op.SetVbucketState = refl
opcode_rows other = refl

-- so the request has its row's number
pub said_by : (f : Frame) (m : DcpMsg) → (f.magic == RESPONSE) ≡ false → message_of f ≡ Some m → (row : DcpRow) × (message_in row f ≡ m) × (f.opcode ≡ opcode_number (row_opcode row))
unfolding read_of frame_row
said_by f m asks is =
    by (opcode_of f.opcode) refl
    (subst (λ b. ok_of (option_map (read_as f) (row_by_opcode (opcode_of f.opcode) b)) ≡ Some m) asks (typed_said (f.datatype == 0) (ok_of (option_map (read_as f) (row_by_opcode (opcode_of f.opcode) (f.magic == RESPONSE)))) m is))
  where
    by : (o : Option Opcode) → opcode_of f.opcode ≡ o → ok_of (option_map (read_as f) (row_by_opcode o false)) ≡ Some m → (row : DcpRow) × (message_in row f ≡ m) × (f.opcode ≡ opcode_number (row_opcode row))
    by None at e = cc
    by (Some o) at e =
        let (row, found, said) = rows_said f m (row_of_opcode o false) e in
        (row, said, number_of f.opcode o at ∙ ap opcode_number (sym (subst (IsOfOpcode o) found (opcode_rows o))))

-- a request for a stream
pub asks_stream : (m : Option DcpMsg) (ask : StreamAsk) → ask_by m ≡ Some ask → m ≡ Some (msg.StreamRequest ask)
asks_stream (Some (msg.StreamRequest other)) ask e = let same : other ≡ ask = cc in ap (λ a. Some (msg.StreamRequest a)) same
asks_stream other ask e = cc

stream_row : (f : Frame) (ask : StreamAsk) (row : DcpRow) → message_in row f ≡ msg.StreamRequest ask → row_opcode row ≡ op.StreamRequest
stream_row f ask DcpRow.StreamRequest e = refl
stream_row f ask other e = cc

pub stream_opcode : (f : Frame) (ask : StreamAsk) → (f.magic == RESPONSE) ≡ false → message_of f ≡ Some (msg.StreamRequest ask) → f.opcode ≡ opcode_number op.StreamRequest
stream_opcode f ask asks is = let (row, said, number) = said_by f (msg.StreamRequest ask) asks is in number ∙ ap opcode_number (stream_row f ask row said)

-- GET_FAILOVER_LOG
log_row : (f : Frame) (row : DcpRow) → message_in row f ≡ msg.GetFailoverLog → row_opcode row ≡ op.GetFailoverLog
log_row f DcpRow.GetFailoverLog e = refl
log_row f other e = cc

pub log_opcode : (f : Frame) → (f.magic == RESPONSE) ≡ false → message_of f ≡ Some msg.GetFailoverLog → f.opcode ≡ opcode_number op.GetFailoverLog
log_opcode f asks is = let (row, said, number) = said_by f msg.GetFailoverLog asks is in number ∙ ap opcode_number (log_row f row said)

-- ---- their answers

-- what is said of a stream that was asked for, which a line tells
abbrev IsSaid : Frame → Type 0
IsSaid g = Unit {0}

verdict_to : (f : Frame) → f.opcode ≡ opcode_number op.StreamRequest → (verdict : StreamVerdict) → IsAnswerTo IsSaid f true (spelling (dcp_frame (msg.StreamAnswer verdict) f.opaque 0))
unfolding dcp_frame
verdict_to f number (StreamVerdict.Go log) = (dcp_frame (msg.StreamAnswer (StreamVerdict.Go log)) f.opaque 0, refl, refl, sym number, refl, tt)
verdict_to f number (StreamVerdict.Roll to) = (dcp_frame (msg.StreamAnswer (StreamVerdict.Roll to)) f.opaque 0, refl, refl, sym number, refl, tt)
verdict_to f number (StreamVerdict.Refused code) = (dcp_frame (msg.StreamAnswer (StreamVerdict.Refused code)) f.opaque 0, refl, refl, sym number, refl, tt)

pub stream_answer_to : (f : Frame) (ask : StreamAsk) → message_of f ≡ Some (msg.StreamRequest ask) → (f.magic == RESPONSE) ≡ false → (log : List LogEntry) (said : AskAnswer)
    → IsAnswerTo IsSaid f true (spelling (dcp_frame (msg.StreamAnswer (stream_verdict log said)) f.opaque 0))
stream_answer_to f ask is asks log said = verdict_to f (stream_opcode f ask asks is) (stream_verdict log said)

-- a failover log
pub log_answer_to : (Fits : Frame → Type 0) (f : Frame) → message_of f ≡ Some msg.GetFailoverLog → (f.magic == RESPONSE) ≡ false → (code : ℕ) (log : List LogEntry) → Fits (dcp_frame (msg.LogAnswer code log) f.opaque 0)
    → IsAnswerTo Fits f true (spelling (dcp_frame (msg.LogAnswer code log) f.opaque 0))
unfolding dcp_frame
log_answer_to Fits f is asks code log fits = (dcp_frame (msg.LogAnswer code log) f.opaque 0, refl, refl, sym (log_opcode f asks is), refl, fits)

-- and for CLOSE_STREAM a status alone
pub close_answer_to : (Fits : Frame → Type 0) (s : Setup) (f : Frame) → message_of f ≡ Some msg.CloseStream → (f.magic == RESPONSE) ≡ false → (st : Status) → Fits (status_frame f st) → IsAnswerTo Fits f (wants_answer s f) (spelling (status_frame f st))
close_answer_to Fits s f is asks st fits = answer_as Fits f true (wants_answer s f) (spelling (status_frame f st)) (close_wants s f asks is) (status_to Fits f st fits)
