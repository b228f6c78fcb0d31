-- which NOOPs are answered, and how
use Rattle.std.proofs.Common.{◌≡◌, ◌≢◌, ℕ, Bool, true, false, List, [], ◌∷◌, refl, sym, ap, ◌∙◌, subst, length, Option, Some, None, Ok, cond, arith}
use Rattle.std.specs.Prelude.{◌==◌, ◌&&◌, not}
use Rattle.std.specs.Option.{option_map}
use Rattle.std.proofs.lemmas.Bool.{eq-eqb, ne_eqb, eqb-true, and_parts}
use Rattle.mcbp_frame.specs.declared.frame.Frame.{Frame}
use Rattle.mcbp_frame.specs.declared.frame.TheConstants.{RESPONSE}
use Rattle.mcbp_frame.specs.Frames.{first_frame, frame_of}
use Rattle.mcbp_frame.specs.Spelling.{spelling}
use Rattle.mcbp_dcp.specs.declared.opcode.Opcode.{Opcode}
use Rattle.mcbp_dcp.specs.declared.opcode.Opcode.TheVariants as op
use Rattle.mcbp_dcp.specs.declared.row.DcpRow.{DcpRow}
use Rattle.mcbp_dcp.specs.declared.row.DcpRow.TheVariants as row
use Rattle.mcbp_dcp.specs.declared.message.DcpMsg.{DcpMsg}
use Rattle.mcbp_dcp.specs.declared.message.DcpMsg.TheVariants as msg
use Rattle.mcbp_dcp.specs.declared.message.DcpFault.{DcpFault}
use Rattle.mcbp_dcp.specs.declared.message.DcpFault.TheVariants.{WrongExtras, WrongKey, WrongValue}
use Rattle.mcbp_dcp.specs.Opcodes.{opcode_of}
use Rattle.mcbp_dcp.specs.Rows.{frame_row, row_of_opcode, row_by_opcode}
use Rattle.mcbp_dcp.specs.Shapes.{shape_fault}
use Rattle.mcbp_dcp.specs.Messages.{message_in, unless_fault, read_as, read_of}
use Rattle.mcbp_dcp.specs.DcpFrames.{dcp_frame}
use Rattle.mcbp_dcp.specs.DurableRows.{no_cas, some_cas}
use Rattle.mcbp_dcp.specs.MessageRows.{bare_bytes, answer_head}
use Rattle.mcbp_dcp.proofs.DcpBack.{message_back}
use Rattle.mcbp_dcp.proofs.Opcodes.{number_of}
use Rattle.vb_events.specs.declared.event.EndReason.TheVariants as reason
use Rattle.vb_types.specs.declared.role.Role.{Role}
use Rattle.dcp_consumer.specs.Conduct.{Reads, IsOfStream}
use Rattle.dcp_consumer.specs.States.{ComesTo}
use Rattle.dcp_consumer.specs.Counting.{is_stream_opcode, Counts, counted_bytes}
use Rattle.dcp_consumer.specs.PassiveStreams.{call_of_message}
use Rattle.dcp_consumer.specs.Noops.{noop_answered, IsNoop, IsNoopAnswer, BytesAreAnswered}
use Rattle.dcp_consumer.specs.Machine.{PlainConsumer, over_why, frame_step, state_of, stepped, consumer_step, ended_for}
use Rattle.dcp_consumer.specs.declared.handshake.ConsumerStep.{ConsumerStep}
use Rattle.dcp_consumer.specs.declared.handshake.ConsumerStep.TheVariants as step
use Rattle.dcp_consumer.specs.declared.passive_stream.Passive.TheVariants as passive
use Rattle.dcp_consumer.proofs.Counted.{counts, one_does_not}
use Rattle.dcp_consumer.proofs.States.{comes_to_so, comes_to_itself}

-- ---- which frames are a NOOP

noop_at : (f : Frame) → f.magic ≢ 0x81 → f.opcode ≡ 0x5c → frame_row f ≡ Some row.Noop
unfolding frame_row
noop_at f magic opcode = ap (λ b. row_by_opcode (opcode_of f.opcode) b) (ne_eqb f.magic RESPONSE magic) ∙ ap (λ n. row_by_opcode (opcode_of n) false) opcode

-- a frame with these parts and the rest of another
abbrev with_parts : Frame → List ℕ → List ℕ → List ℕ → List ℕ → Frame
with_parts f framing extras key value = record f { framing = framing; extras = extras; key = key; value = value }

pub is_read : (f : Frame) → IsNoop f → Reads f msg.Noop
unfolding read_of shape_fault
is_read f (magic, opcode, framing, extras, key, value) =
    ap (option_map (read_as f)) (noop_at f magic opcode)
    ∙ (λ i. Some (unless_fault (shape_fault row.Noop (with_parts f (framing i) (extras i) (key i) (value i))) msg.Noop))

row_is : (f : Frame) (fault : Option DcpFault) (r : DcpRow) → Some (unless_fault fault (message_in r f)) ≡ Some (Ok msg.Noop) → (r ≡ row.Noop) × (fault ≡ None)
row_is f (Some fault) r e = cc
row_is f None row.Noop e = (refl, refl)
row_is f None other e = cc

-- a row was found, and the frame has its parts
row_by : (f : Frame) (o : Option DcpRow) → option_map (read_as f) o ≡ Some (Ok msg.Noop) → (o ≡ Some row.Noop) × (shape_fault row.Noop f ≡ None)
row_by f None e = cc
row_by f (Some r) e = let (is, none) = row_is f (shape_fault r f) r e in (ap Some is, subst (λ k. shape_fault k f ≡ None) is none)

no_answer_row : (o : Opcode) → row_of_opcode o true ≡ Some row.Noop → ⊥
no_answer_row op.Noop e = cc
no_answer_row other e = cc

number_by : (n : ℕ) (b : Bool) (o : Option Opcode) → opcode_of n ≡ o → row_by_opcode o b ≡ Some row.Noop → (n ≡ 0x5c) × (b ≡ false)
number_by n false (Some op.Noop) found is = (number_of n op.Noop found, refl)
number_by n false other found is = cc
number_by n true None found is = cc
number_by n true (Some o) found is = absurd (no_answer_row o is)

no_answer : (n : ℕ) → (n == RESPONSE) ≡ false → n ≢ 0x81
no_answer n none e = let never : true ≡ false = sym (eq-eqb n RESPONSE e) ∙ none in cc

is_empty : (bytes : List ℕ) → (length bytes == 0) ≡ true → bytes ≡ []
is_empty [] e = refl
is_empty (x ∷ bytes) e = let none : length (x ∷ bytes) ≡ 0 = eqb-true (length (x ∷ bytes)) 0 e in absurd (omega (arith, none))

-- nothing is refused where all four are empty
all_empty : (a b k v : Bool) → cond (not ((a && b) && true)) (Some WrongExtras) (cond (not k) (Some WrongKey) (cond (not v) (Some WrongValue) None)) ≡ None
    → (a ≡ true) × (b ≡ true) × (k ≡ true) × (v ≡ true)
all_empty true true true true e = (refl, refl, refl, refl)
all_empty true true true false e = cc
all_empty true true false v e = cc
all_empty true false k v e = cc
all_empty false b k v e = cc

pub read_is : (f : Frame) → Reads f msg.Noop → IsNoop f
unfolding read_of frame_row shape_fault
read_is f e =
    let (found, fits) = row_by f (frame_row f) e in
    let (opcode, asks) = number_by f.opcode (f.magic == RESPONSE) (opcode_of f.opcode) refl found in
    let (framing, extras, key, value) = all_empty (length f.framing == 0) (length f.extras == 0) (length f.key == 0) (length f.value == 0) fits in
    (no_answer f.magic asks, opcode, is_empty f.framing framing, is_empty f.extras extras, is_empty f.key key, is_empty f.value value)

-- ---- what becomes of them

took : (c : PlainConsumer) (f : Frame) (s : ConsumerStep) → frame_step c f ≡ s → consumer_step c f ≡ (stepped s c, s)
took c f s e = ap (λ (t : ConsumerStep). (stepped t c, t)) e

pub answered : (c : PlainConsumer) (f : Frame) → over_why c.handshake ≡ None → IsNoop f → consumer_step c f ≡ (c, step.Noop f.opaque)
answered c f live is = took c f (step.Noop f.opaque) (comes_to_so c f (step.Noop f.opaque) ((is.0, live), is_read f is, refl))

pub only : (c : PlainConsumer) (f : Frame) (opaque : ℕ) → (consumer_step c f).1 ≡ step.Noop opaque → (over_why c.handshake ≡ None) × IsNoop f × (f.opaque ≡ opaque)
only c f opaque e =
    let p : ComesTo c f (step.Noop opaque) = subst (ComesTo c f) e (comes_to_itself c f) in
    (p.0.1, read_is f p.1, p.2)

-- a frame of its opcode says nothing else, and no stream has a NOOP
not_of_stream : (fault : Option DcpFault) (m : DcpMsg) → Some (unless_fault fault msg.Noop) ≡ Some (Ok m) → IsOfStream m → ⊥
unfolding call_of_message
not_of_stream (Some fault) m e of = cc
not_of_stream None m e of = let same : msg.Noop ≡ m = cc in subst IsOfStream (sym same) of refl

no_state : (fault : Option DcpFault) (to : Role) → Some (unless_fault fault msg.Noop) ≡ Some (Ok (msg.SetVbucketState to)) → ⊥
no_state (Some fault) to e = cc
no_state None to e = cc

pub strange : (c : PlainConsumer) (f : Frame) → over_why c.handshake ≡ None → f.magic ≢ 0x81 → f.opcode ≡ 0x5c → (IsNoop f → ⊥) → consumer_step c f ≡ (ended_for reason.Protocol c, step.Passive passive.Protocol)
unfolding read_of
strange c f live magic opcode never =
    let says : read_of f ≡ Some (unless_fault (shape_fault row.Noop f) msg.Noop) = ap (option_map (read_as f)) (noop_at f magic opcode) in
    took c f (step.Passive passive.Protocol)
    (comes_to_so c f (step.Passive passive.Protocol)
    (((magic, live), λ r. never (read_is f r), λ streams m r. not_of_stream (shape_fault row.Noop f) m (sym says ∙ r)), λ take obeys. no_state (shape_fault row.Noop f) (state_of take) (sym says ∙ obeys.2)))

counts_not : (f : Frame) → IsNoop f → Counts f → ⊥
counts_not f is p =
    let parts = and_parts (not (f.magic == 0x81)) (is_stream_opcode f.opcode) ((counts f).1 p) in
    let never : false ≡ true = sym (ap is_stream_opcode is.1) ∙ parts.1 in cc

pub uncounted : (f : Frame) → IsNoop f → counted_bytes (f ∷ []) ≡ 0
uncounted f is = one_does_not f (counts_not f is)

-- ---- the answer

pub written : (opaque : ℕ) → IsNoopAnswer opaque (noop_answered opaque)
unfolding dcp_frame
written opaque = record {
  frame = dcp_frame (msg.NoopAnswer 0) opaque 0;
  spelled = refl;
  magic = refl;
  opcode = refl;
  opaque_is = refl;
  status = refl;
  bare = (refl, refl, refl, refl, refl, refl);
  read = message_back (msg.NoopAnswer 0) opaque 0 tt (omega arith);
}

in_bytes : (datatype : ℕ) (cas : List ℕ) (f : Frame) → IsNoop f → first_frame (bare_bytes 0x5c datatype cas) ≡ Some (Ok f) → f.opaque ≡ 0x0a0b0c0d
    → BytesAreAnswered (bare_bytes 0x5c datatype cas) (answer_head 0x5c 0x00 0x00 0x00)
unfolding dcp_frame spelling
in_bytes datatype cas f is read opaque = (f, read, λ c live. answered c f live is, ap noop_answered opaque)

pub bytes : BytesAreAnswered (bare_bytes 0x5c 0 no_cas) (answer_head 0x5c 0x00 0x00 0x00)
unfolding first_frame frame_of
bytes = in_bytes 0 no_cas (frame_of (bare_bytes 0x5c 0 no_cas)) (λ e. absurd (omega (arith, e)), refl, refl, refl, refl, refl) refl refl

pub heads : BytesAreAnswered (bare_bytes 0x5c 1 some_cas) (answer_head 0x5c 0x00 0x00 0x00)
unfolding first_frame frame_of
heads = in_bytes 1 some_cas (frame_of (bare_bytes 0x5c 1 some_cas)) (λ e. absurd (omega (arith, e)), refl, refl, refl, refl, refl) refl refl
