-- a frame that is read is the one of its message, but for what its row does not use
use Rattle.std.proofs.Common.{◌≡◌, ℕ, ◌*◌, ◌<◌, ◌++◌, Bool, true, false, List, [], ◌∷◌, length, refl, ap, sym, ◌∙◌, arith, cond, subst, append_assoc}
use Rattle.std.specs.Prelude.{Option, Some, None, Ok, ◌&&◌, ◌==◌, ◌%◌, not, slice_index}
use Rattle.std.specs.Int.{w16, w32, w64, to_be_bytes}
use Rattle.std.specs.Option.{option_map}
use Rattle.std.proofs.lemmas.Bool.Decides.{nat_tests}
use Rattle.std.proofs.lemmas.List.{take_all}
use Rattle.mcbp_frame.specs.declared.frame.Frame.{Frame}
use Rattle.mcbp_frame.specs.Frames.{part, big_16_at, big_32_at, big_64_at}
use Rattle.mcbp_frame.specs.Spelling.{Fits}
use Rattle.mcbp_frame.specs.Streams.{AreBytes}
use Rattle.mcbp_dcp.specs.declared.opcode.Opcode.{Opcode}
use Rattle.mcbp_dcp.specs.declared.opcode.Opcode.TheVariants as op
use Rattle.mcbp_dcp.specs.declared.row.DcpRow.{DcpRow}
use Rattle.mcbp_dcp.specs.declared.row.DcpRow.TheVariants as row
use Rattle.mcbp_dcp.specs.declared.message.DcpMsg.{DcpMsg}
use Rattle.mcbp_dcp.specs.declared.message.DcpFault.{DcpFault}
use Rattle.mcbp_dcp.specs.declared.message.DcpFault.TheVariants.{WrongExtras, WrongKey, WrongValue}
use Rattle.mcbp_dcp.specs.declared.message.StreamVerdict.TheVariants as told
use Rattle.vb_types.specs.declared.role.Role.TheVariants as role
use Rattle.mcbp_dcp.specs.Opcodes.{opcode_number, opcode_of}
use Rattle.mcbp_dcp.specs.Rows.{row_opcode, row_magic, row_of_opcode, row_by_opcode, frame_row}
use Rattle.mcbp_dcp.specs.States.{role_byte, is_role, role_in}
use Rattle.mcbp_dcp.specs.Shapes.{extras_size, numbers_fit, extras_fit, key_fits, value_fits, shape_fault}
use Rattle.mcbp_dcp.specs.WireLogs.{log_in}
use Rattle.mcbp_dcp.specs.Messages.{message_in, unless_fault, read_as, read_of}
use Rattle.mcbp_dcp.specs.DcpFrames.{dcp_frame, verdict_frame, IsVerdict, IsSpelled, IsSpelledLog, ask_extras}
use Rattle.mcbp_dcp.specs.DcpLaws.{extras_read, frame_read}
use Rattle.mcbp_dcp.proofs.Opcodes.{number_of}
use Rattle.mcbp_dcp.proofs.Words.{byte, word_16, word_32, word_64, behind}
use Rattle.mcbp_dcp.proofs.WireLogs.{length_log, log_once}

-- the row tells opcode and magic
abbrev IsOf : ℕ → ℕ → DcpRow → Type 0
IsOf number magic r = (number ≡ opcode_number (row_opcode r)) × (magic ≡ row_magic r)

-- the magic of answers and of messages
abbrev magic_of : Bool → ℕ
magic_of answers = cond answers 129 128

row_as : (o : Opcode) (answers : Bool) (r : DcpRow) → row_of_opcode o answers ≡ Some r → IsOf (opcode_number o) (magic_of answers) r
row_as op.Open false r h = subst (IsOf 80 128) (let same : row.Open ≡ r = cc in same) (refl, refl)
row_as op.Open true r h = subst (IsOf 80 129) (let same : row.OpenAnswer ≡ r = cc in same) (refl, refl)
row_as op.StreamRequest false r h = subst (IsOf 83 128) (let same : row.StreamRequest ≡ r = cc in same) (refl, refl)
row_as op.StreamRequest true r h = subst (IsOf 83 129) (let same : row.StreamAnswer ≡ r = cc in same) (refl, refl)
row_as op.StreamEnd false r h = subst (IsOf 85 128) (let same : row.StreamEnd ≡ r = cc in same) (refl, refl)
row_as op.SnapshotMarker false r h = subst (IsOf 86 128) (let same : row.SnapshotMarker ≡ r = cc in same) (refl, refl)
row_as op.Mutation false r h = subst (IsOf 87 128) (let same : row.Mutation ≡ r = cc in same) (refl, refl)
row_as op.Deletion false r h = subst (IsOf 88 128) (let same : row.Deletion ≡ r = cc in same) (refl, refl)
row_as op.Prepare false r h = subst (IsOf 96 128) (let same : row.Prepare ≡ r = cc in same) (refl, refl)
row_as op.Commit false r h = subst (IsOf 98 128) (let same : row.Commit ≡ r = cc in same) (refl, refl)
row_as op.Abort false r h = subst (IsOf 99 128) (let same : row.Abort ≡ r = cc in same) (refl, refl)
row_as op.SeqnoAcknowledged false r h = subst (IsOf 97 128) (let same : row.SeqnoAcknowledged ≡ r = cc in same) (refl, refl)
row_as op.Control false r h = subst (IsOf 94 128) (let same : row.Control ≡ r = cc in same) (refl, refl)
row_as op.Control true r h = subst (IsOf 94 129) (let same : row.ControlAnswer ≡ r = cc in same) (refl, refl)
row_as op.CloseStream false r h = subst (IsOf 82 128) (let same : row.CloseStream ≡ r = cc in same) (refl, refl)
row_as op.CloseStream true r h = subst (IsOf 82 129) (let same : row.CloseAnswer ≡ r = cc in same) (refl, refl)
row_as op.GetFailoverLog false r h = subst (IsOf 84 128) (let same : row.GetFailoverLog ≡ r = cc in same) (refl, refl)
row_as op.GetFailoverLog true r h = subst (IsOf 84 129) (let same : row.LogAnswer ≡ r = cc in same) (refl, refl)
row_as op.Noop false r h = subst (IsOf 92 128) (let same : row.Noop ≡ r = cc in same) (refl, refl)
row_as op.Noop true r h = subst (IsOf 92 129) (let same : row.NoopAnswer ≡ r = cc in same) (refl, refl)
row_as op.BufferAcknowledgement false r h = subst (IsOf 93 128) (let same : row.BufferAcknowledgement ≡ r = cc in same) (refl, refl)
row_as op.SetVbucketState false r h = subst (IsOf 91 128) (let same : row.SetVbucketState ≡ r = cc in same) (refl, refl)
row_as op.SetVbucketState true r h = subst (IsOf 91 129) (let same : row.StateAnswer ≡ r = cc in same) (refl, refl)
row_as other answers r h = cc

row_by : (n : ℕ) (r : DcpRow) (answers : Bool) (o : Option Opcode) → opcode_of n ≡ o → row_by_opcode o answers ≡ Some r → IsOf n (magic_of answers) r
row_by n r answers None is h = cc
row_by n r answers (Some o) is h = subst (λ m. IsOf m (magic_of answers) r) (sym (number_of n o is)) (row_as o answers r h)

row_is : (f : Frame) (r : DcpRow) → frame_row f ≡ Some r → IsOf f.opcode (cond (f.magic == 129) 129 128) r
unfolding frame_row
row_is f r h = row_by f.opcode r (f.magic == 129) (opcode_of f.opcode) refl h

both : (a b : Bool) → (a && b) ≡ true → (a ≡ true) × (b ≡ true)
both true b e = (refl, e)
both false b e = cc

three : (a b c : Bool) → cond (not a) (Some WrongExtras) (cond (not b) (Some WrongKey) (cond (not c) (Some WrongValue) None)) ≡ None → (a ≡ true) × (b ≡ true) × (c ≡ true)
three true true true e = (refl, refl, refl)
three true true false e = cc
three true false c e = cc
three false b c e = cc

-- a frame without fault has the row's parts
parts_fit : (r : DcpRow) (f : Frame) → shape_fault r f ≡ None → (extras_fit r f ≡ true) × (key_fits r f ≡ true) × (value_fits r f ≡ true)
unfolding shape_fault
parts_fit r f e = three (extras_fit r f) (key_fits r f) (value_fits r f) e

none : (bytes : List ℕ) → length bytes ≡ 0 → [] ≡ bytes
none [] e = refl
none (b ∷ bytes) e = absurd (omega (arith, e))

no_bytes : (bytes : List ℕ) → (length bytes == 0) ≡ true → [] ≡ bytes
no_bytes bytes e = none bytes (grind (arith, nat_tests))

extras_are : (r : DcpRow) (f : Frame) → extras_fit r f ≡ true → ([] ≡ f.framing) × (length f.extras ≡ extras_size r) × (numbers_fit r f.extras ≡ true)
extras_are r f e =
    let all = both ((length f.framing == 0) && (length f.extras == extras_size r)) (numbers_fit r f.extras) e in
    let front = both (length f.framing == 0) (length f.extras == extras_size r) all.0 in
    (no_bytes f.framing front.0, grind (arith, nat_tests), all.1)

ask_once : (x : List ℕ) → AreBytes x → length x ≡ 48 → ask_extras (record { flags = big_32_at x 0; start = big_64_at x 8; end = big_64_at x 16; uuid = big_64_at x 24; ss = big_64_at x 32; se = big_64_at x 40 }) ≡ extras_read row.StreamRequest x
ask_once x h len =
    let before : List ℕ = part x 0 4 ++ 0 ∷ 0 ∷ 0 ∷ 0 ∷ [] in
    behind x before _ _ 8 32 8 (behind x before _ _ 8 24 8 (behind x before _ _ 8 16 8 (behind x before _ _ 8 8 8 (
    λ i. word_32 x 0 h (omega arith) i ++ 0 ∷ 0 ∷ 0 ∷ 0 ∷ [] ++ word_64 x 8 h (omega arith) i) (word_64 x 16 h (omega arith))) (word_64 x 24 h (omega arith))) (word_64 x 32 h (omega arith))) (word_64 x 40 h (omega arith))

open_once : (x : List ℕ) → AreBytes x → length x ≡ 8 → to_be_bytes w32 (big_32_at x 0) ++ to_be_bytes w32 (big_32_at x 4) ≡ x
open_once x h len = behind x [] _ _ 0 4 4 (word_32 x 0 h (omega arith)) (word_32 x 4 h (omega arith)) ∙ take_all 8 x (omega arith)

end_once : (x : List ℕ) → AreBytes x → length x ≡ 4 → to_be_bytes w32 (big_32_at x 0) ≡ x
end_once x h len = word_32 x 0 h (omega arith) ∙ take_all 4 x (omega arith)

marker_once : (x : List ℕ) → AreBytes x → length x ≡ 20 → to_be_bytes w64 (big_64_at x 0) ++ to_be_bytes w64 (big_64_at x 8) ++ to_be_bytes w32 (big_32_at x 16) ≡ x
marker_once x h len =
    behind x [] _ _ 0 16 4 (behind x [] _ _ 0 8 8 (word_64 x 0 h (omega arith)) (word_64 x 8 h (omega arith))) (word_32 x 16 h (omega arith)) ∙ take_all 20 x (omega arith)

deletion_once : (x : List ℕ) → AreBytes x → length x ≡ 18 → (big_16_at x 16 == 0) ≡ true → to_be_bytes w64 (big_64_at x 0) ++ to_be_bytes w64 (big_64_at x 8) ++ to_be_bytes w16 0 ≡ x
deletion_once x h len t =
    let nothing : 0 ≡ big_16_at x 16 = grind (arith, nat_tests) in
    behind x [] _ _ 0 16 2 (behind x [] _ _ 0 8 8 (word_64 x 0 h (omega arith)) (word_64 x 8 h (omega arith))) (word_16 x 16 0 h (omega arith) nothing) ∙ take_all 18 x (omega arith)

mutation_once : (x : List ℕ) → AreBytes x → length x ≡ 31
    → to_be_bytes w64 (big_64_at x 0) ++ to_be_bytes w64 (big_64_at x 8) ++ to_be_bytes w32 (big_32_at x 16) ++ to_be_bytes w32 (big_32_at x 20) ++ to_be_bytes w32 0 ++ to_be_bytes w16 0 ++ 0 ∷ []
    ≡ extras_read row.Mutation x
mutation_once x h len =
    let read = behind x [] _ _ 0 20 4 (behind x [] _ _ 0 16 4 (behind x [] _ _ 0 8 8 (word_64 x 0 h (omega arith)) (word_64 x 8 h (omega arith))) (word_32 x 16 h (omega arith))) (word_32 x 20 h (omega arith)) in
    (λ i. read i ++ to_be_bytes w32 0 ++ to_be_bytes w16 0 ++ 0 ∷ []) ∙ append_assoc (part x 0 24 ++ to_be_bytes w32 0) (to_be_bytes w16 0) (0 ∷ []) ∙ append_assoc (part x 0 24) (to_be_bytes w32 0) (to_be_bytes w16 0 ++ 0 ∷ [])

-- lock time and nru of a prepare are not read
prepare_once : (x : List ℕ) → AreBytes x → length x ≡ 31
    → to_be_bytes w64 (big_64_at x 0) ++ to_be_bytes w64 (big_64_at x 8) ++ to_be_bytes w32 (big_32_at x 16) ++ to_be_bytes w32 (big_32_at x 20) ++ to_be_bytes w32 0
    ++ 0 ∷ slice_index x 29 ∷ slice_index x 30 ∷ []
    ≡ extras_read row.Prepare x
prepare_once x h len =
    let read = behind x [] _ _ 0 20 4 (behind x [] _ _ 0 16 4 (behind x [] _ _ 0 8 8 (word_64 x 0 h (omega arith)) (word_64 x 8 h (omega arith))) (word_32 x 16 h (omega arith))) (word_32 x 20 h (omega arith)) in
    let last : slice_index x 29 ∷ slice_index x 30 ∷ [] ≡ part x 29 2 = behind x [] _ _ 29 1 1 (byte x 29 (omega arith)) (byte x 30 (omega arith)) in
    (λ i. read i ++ to_be_bytes w32 0 ++ 0 ∷ last i) ∙ append_assoc (part x 0 24) (to_be_bytes w32 0) (0 ∷ part x 29 2) ∙ sym (append_assoc (part x 0 24) (0 ∷ 0 ∷ 0 ∷ 0 ∷ 0 ∷ []) (part x 29 2))

resolution_once : (x : List ℕ) → AreBytes x → length x ≡ 16 → to_be_bytes w64 (big_64_at x 0) ++ to_be_bytes w64 (big_64_at x 8) ≡ x
resolution_once x h len = behind x [] _ _ 0 8 8 (word_64 x 0 h (omega arith)) (word_64 x 8 h (omega arith)) ∙ take_all 16 x (omega arith)

seqno_once : (x : List ℕ) → AreBytes x → length x ≡ 8 → to_be_bytes w64 (big_64_at x 0) ≡ x
seqno_once x h len = word_64 x 0 h (omega arith) ∙ take_all 8 x (omega arith)

role_once : (byte : ℕ) (a b c : Bool) → (byte == 1) ≡ a → (byte == 2) ≡ b → (byte == 3) ≡ c → is_role byte ≡ true
    → role_byte (cond a role.Active (cond b role.Replica (cond c role.Pending role.Dead))) ≡ byte
role_once byte true b c ta tb tc t = grind (arith, nat_tests)
role_once byte false true c ta tb tc t = grind (arith, nat_tests)
role_once byte false false true ta tb tc t = grind (arith, nat_tests)
role_once byte false false false ta tb tc t = grind (arith, nat_tests)

state_once : (x : List ℕ) → length x ≡ 1 → is_role (slice_index x 0) ≡ true → role_byte (role_in (slice_index x 0)) ∷ [] ≡ x
state_once [] len t = absurd (omega (arith, len))
state_once (byte ∷ []) len t = ap (λ b. b ∷ []) (role_once byte (byte == 1) (byte == 2) (byte == 3) refl refl refl t)
state_once (byte ∷ more ∷ rest) len t = absurd (omega (arith, len))

told_once : (f : Frame) (a b : Bool) → (f.vb_or_status == 0) ≡ a → (f.vb_or_status == 35) ≡ b → cond a (length f.value % 16 == 0) (cond b (length f.value == 8) (length f.value == 0)) ≡ true
    → IsOf f.opcode (cond (f.magic == 129) 129 128) row.StreamAnswer → AreBytes f.value → [] ≡ f.framing → [] ≡ f.extras → [] ≡ f.key
    → verdict_frame (cond a (told.Go (log_in f.value)) (cond b (told.Roll (big_64_at f.value 0)) (told.Refused f.vb_or_status))) f.opaque ≡ frame_read row.StreamAnswer f
told_once f true b ta tb t is h framing extras key =
    let status : 0 ≡ f.vb_or_status = grind (arith, nat_tests) in
    let whole : length f.value % 16 ≡ 0 = grind (arith, nat_tests) in
    λ i. record { magic = sym is.1 i; opcode = sym is.0 i; datatype = 0; vb_or_status = status i; opaque = f.opaque; cas = 0; framing = framing i; extras = extras i; key = key i; value = log_once f.value h whole i }
told_once f false true ta tb t is h framing extras key =
    let status : 35 ≡ f.vb_or_status = grind (arith, nat_tests) in
    let len : length f.value ≡ 8 = grind (arith, nat_tests) in
    let value : to_be_bytes w64 (big_64_at f.value 0) ≡ f.value = word_64 f.value 0 h (omega arith) ∙ take_all 8 f.value (omega arith) in
    λ i. record { magic = sym is.1 i; opcode = sym is.0 i; datatype = 0; vb_or_status = status i; opaque = f.opaque; cas = 0; framing = framing i; extras = extras i; key = key i; value = value i }
told_once f false false ta tb t is h framing extras key =
    λ i. record { magic = sym is.1 i; opcode = sym is.0 i; datatype = 0; vb_or_status = f.vb_or_status; opaque = f.opaque; cas = 0; framing = framing i; extras = extras i; key = key i; value = no_bytes f.value t i }

-- the value of an answer with a log is whole entries
whole_log : (len : ℕ) (good : Bool) → cond good (len % 16 == 0) (len == 0) ≡ true → len % 16 ≡ 0
whole_log len true t = grind (arith, nat_tests)
whole_log len false t = let zero : len ≡ 0 = grind (arith, nat_tests) in omega (arith, zero)

once_as : (r : DcpRow) (f : Frame) → IsOf f.opcode (cond (f.magic == 129) 129 128) r → AreBytes f.extras → AreBytes f.value → extras_fit r f ≡ true → key_fits r f ≡ true → value_fits r f ≡ true
    → dcp_frame (message_in r f) f.opaque f.vb_or_status ≡ frame_read r f
unfolding dcp_frame
once_as row.Open f is hx hv x k v =
    let e = extras_are row.Open f x in
    λ i. record { magic = sym is.1 i; opcode = sym is.0 i; datatype = 0; vb_or_status = f.vb_or_status; opaque = f.opaque; cas = 0; framing = e.0 i; extras = open_once f.extras hx e.1 i; key = f.key; value = no_bytes f.value v i }
once_as row.Control f is hx hv x k v =
    let e = extras_are row.Control f x in
    λ i. record { magic = sym is.1 i; opcode = sym is.0 i; datatype = 0; vb_or_status = f.vb_or_status; opaque = f.opaque; cas = 0; framing = e.0 i; extras = none f.extras e.1 i; key = f.key; value = f.value }
once_as row.StreamRequest f is hx hv x k v =
    let e = extras_are row.StreamRequest f x in
    λ i. record { magic = sym is.1 i; opcode = sym is.0 i; datatype = 0; vb_or_status = f.vb_or_status; opaque = f.opaque; cas = 0; framing = e.0 i; extras = ask_once f.extras hx e.1 i; key = no_bytes f.key k i; value = no_bytes f.value v i }
once_as row.StreamEnd f is hx hv x k v =
    let e = extras_are row.StreamEnd f x in
    λ i. record { magic = sym is.1 i; opcode = sym is.0 i; datatype = 0; vb_or_status = f.vb_or_status; opaque = f.opaque; cas = 0; framing = e.0 i; extras = end_once f.extras hx e.1 i; key = no_bytes f.key k i; value = no_bytes f.value v i }
once_as row.SnapshotMarker f is hx hv x k v =
    let e = extras_are row.SnapshotMarker f x in
    λ i. record { magic = sym is.1 i; opcode = sym is.0 i; datatype = 0; vb_or_status = f.vb_or_status; opaque = f.opaque; cas = 0; framing = e.0 i; extras = marker_once f.extras hx e.1 i; key = no_bytes f.key k i; value = no_bytes f.value v i }
once_as row.Mutation f is hx hv x k v =
    let e = extras_are row.Mutation f x in
    λ i. record { magic = sym is.1 i; opcode = sym is.0 i; datatype = f.datatype; vb_or_status = f.vb_or_status; opaque = f.opaque; cas = f.cas; framing = e.0 i; extras = mutation_once f.extras hx e.1 i; key = f.key; value = f.value }
once_as row.Deletion f is hx hv x k v =
    let e = extras_are row.Deletion f x in
    λ i. record { magic = sym is.1 i; opcode = sym is.0 i; datatype = 0; vb_or_status = f.vb_or_status; opaque = f.opaque; cas = f.cas; framing = e.0 i; extras = deletion_once f.extras hx e.1 e.2 i; key = f.key; value = no_bytes f.value v i }
once_as row.Prepare f is hx hv x k v =
    let e = extras_are row.Prepare f x in
    λ i. record { magic = sym is.1 i; opcode = sym is.0 i; datatype = f.datatype; vb_or_status = f.vb_or_status; opaque = f.opaque; cas = f.cas; framing = e.0 i; extras = prepare_once f.extras hx e.1 i; key = f.key; value = f.value }
once_as row.Commit f is hx hv x k v =
    let e = extras_are row.Commit f x in
    λ i. record { magic = sym is.1 i; opcode = sym is.0 i; datatype = 0; vb_or_status = f.vb_or_status; opaque = f.opaque; cas = 0; framing = e.0 i; extras = resolution_once f.extras hx e.1 i; key = f.key; value = no_bytes f.value v i }
once_as row.Abort f is hx hv x k v =
    let e = extras_are row.Abort f x in
    λ i. record { magic = sym is.1 i; opcode = sym is.0 i; datatype = 0; vb_or_status = f.vb_or_status; opaque = f.opaque; cas = 0; framing = e.0 i; extras = resolution_once f.extras hx e.1 i; key = f.key; value = no_bytes f.value v i }
once_as row.SeqnoAcknowledged f is hx hv x k v =
    let e = extras_are row.SeqnoAcknowledged f x in
    λ i. record { magic = sym is.1 i; opcode = sym is.0 i; datatype = 0; vb_or_status = f.vb_or_status; opaque = f.opaque; cas = 0; framing = e.0 i; extras = seqno_once f.extras hx e.1 i; key = no_bytes f.key k i; value = no_bytes f.value v i }
once_as row.CloseStream f is hx hv x k v =
    let e = extras_are row.CloseStream f x in
    λ i. record { magic = sym is.1 i; opcode = sym is.0 i; datatype = 0; vb_or_status = f.vb_or_status; opaque = f.opaque; cas = 0; framing = e.0 i; extras = none f.extras e.1 i; key = no_bytes f.key k i; value = no_bytes f.value v i }
once_as row.GetFailoverLog f is hx hv x k v =
    let e = extras_are row.GetFailoverLog f x in
    λ i. record { magic = sym is.1 i; opcode = sym is.0 i; datatype = 0; vb_or_status = f.vb_or_status; opaque = f.opaque; cas = 0; framing = e.0 i; extras = none f.extras e.1 i; key = no_bytes f.key k i; value = no_bytes f.value v i }
once_as row.Noop f is hx hv x k v =
    let e = extras_are row.Noop f x in
    λ i. record { magic = sym is.1 i; opcode = sym is.0 i; datatype = 0; vb_or_status = f.vb_or_status; opaque = f.opaque; cas = 0; framing = e.0 i; extras = none f.extras e.1 i; key = no_bytes f.key k i; value = no_bytes f.value v i }
once_as row.BufferAcknowledgement f is hx hv x k v =
    let e = extras_are row.BufferAcknowledgement f x in
    λ i. record { magic = sym is.1 i; opcode = sym is.0 i; datatype = 0; vb_or_status = f.vb_or_status; opaque = f.opaque; cas = 0; framing = e.0 i; extras = end_once f.extras hx e.1 i; key = no_bytes f.key k i; value = no_bytes f.value v i }
once_as row.SetVbucketState f is hx hv x k v =
    let e = extras_are row.SetVbucketState f x in
    λ i. record { magic = sym is.1 i; opcode = sym is.0 i; datatype = 0; vb_or_status = f.vb_or_status; opaque = f.opaque; cas = 0; framing = e.0 i; extras = state_once f.extras e.1 e.2 i; key = no_bytes f.key k i; value = no_bytes f.value v i }
once_as row.OpenAnswer f is hx hv x k v =
    let e = extras_are row.OpenAnswer f x in
    λ i. record { magic = sym is.1 i; opcode = sym is.0 i; datatype = 0; vb_or_status = f.vb_or_status; opaque = f.opaque; cas = 0; framing = e.0 i; extras = none f.extras e.1 i; key = no_bytes f.key k i; value = no_bytes f.value v i }
once_as row.ControlAnswer f is hx hv x k v =
    let e = extras_are row.ControlAnswer f x in
    λ i. record { magic = sym is.1 i; opcode = sym is.0 i; datatype = 0; vb_or_status = f.vb_or_status; opaque = f.opaque; cas = 0; framing = e.0 i; extras = none f.extras e.1 i; key = no_bytes f.key k i; value = no_bytes f.value v i }
once_as row.StreamAnswer f is hx hv x k v =
    let e = extras_are row.StreamAnswer f x in
    told_once f (f.vb_or_status == 0) (f.vb_or_status == 35) refl refl v is hv e.0 (none f.extras e.1) (no_bytes f.key k)
once_as row.CloseAnswer f is hx hv x k v =
    let e = extras_are row.CloseAnswer f x in
    λ i. record { magic = sym is.1 i; opcode = sym is.0 i; datatype = 0; vb_or_status = f.vb_or_status; opaque = f.opaque; cas = 0; framing = e.0 i; extras = none f.extras e.1 i; key = no_bytes f.key k i; value = no_bytes f.value v i }
once_as row.NoopAnswer f is hx hv x k v =
    let e = extras_are row.NoopAnswer f x in
    λ i. record { magic = sym is.1 i; opcode = sym is.0 i; datatype = 0; vb_or_status = f.vb_or_status; opaque = f.opaque; cas = 0; framing = e.0 i; extras = none f.extras e.1 i; key = no_bytes f.key k i; value = no_bytes f.value v i }
once_as row.LogAnswer f is hx hv x k v =
    let e = extras_are row.LogAnswer f x in
    let log = log_once f.value hv (whole_log (length f.value) (f.vb_or_status == 0) v) in
    λ i. record { magic = sym is.1 i; opcode = sym is.0 i; datatype = 0; vb_or_status = f.vb_or_status; opaque = f.opaque; cas = 0; framing = e.0 i; extras = none f.extras e.1 i; key = no_bytes f.key k i; value = log i }
once_as row.StateAnswer f is hx hv x k v =
    let e = extras_are row.StateAnswer f x in
    λ i. record { magic = sym is.1 i; opcode = sym is.0 i; datatype = 0; vb_or_status = f.vb_or_status; opaque = f.opaque; cas = 0; framing = e.0 i; extras = none f.extras e.1 i; key = no_bytes f.key k i; value = no_bytes f.value v i }

-- where there is a message, there is no fault, and it is the row's
no_fault : (fault : Option DcpFault) (n m : DcpMsg) → unless_fault fault n ≡ Ok m → (fault ≡ None) × (n ≡ m)
no_fault None n m e = (refl, cc)
no_fault (Some fault) n m e = cc

pub once : (f : Frame) (r : DcpRow) (m : DcpMsg) → frame_row f ≡ Some r → AreBytes f.extras → AreBytes f.value → read_of f ≡ Some (Ok m)
    → dcp_frame m f.opaque f.vb_or_status ≡ frame_read r f
unfolding read_of
once f r m e hx hv read =
    let said : Some (read_as f r) ≡ Some (Ok m) = sym (ap (option_map (read_as f)) e) ∙ read in
    let ok : read_as f r ≡ Ok m = cc in
    let good = no_fault (shape_fault r f) (message_in r f) m ok in
    let fit = parts_fit r f good.0 in
    ap (λ n. dcp_frame n f.opaque f.vb_or_status) (sym good.1) ∙ once_as r f (row_is f r e) hx hv fit.0 fit.1 fit.2

key_short : (framed : Bool) (n : ℕ) → n < cond framed 256 65536 → n < 65536
key_short true n h = omega (arith, h)
key_short false n h = h

told_spelled : (f : Frame) (a b : Bool) → (f.vb_or_status == 0) ≡ a → (f.vb_or_status == 35) ≡ b → cond a (length f.value % 16 == 0) (cond b (length f.value == 8) (length f.value == 0)) ≡ true
    → AreBytes f.value → length f.value < 4294967296 → IsVerdict (cond a (told.Go (log_in f.value)) (cond b (told.Roll (big_64_at f.value 0)) (told.Refused f.vb_or_status)))
told_spelled f true b ta tb t h len =
    let whole : length f.value % 16 ≡ 0 = grind (arith, nat_tests) in
    let all : 16 * length (log_in f.value) ≡ length f.value = sym (length_log (log_in f.value)) ∙ ap length (log_once f.value h whole) in
    omega (arith, all)
told_spelled f false true ta tb t h len = tt
told_spelled f false false ta tb t h len = (λ e. grind (arith, nat_tests, e), λ e. grind (arith, nat_tests, e))

log_spelled : (f : Frame) (good : Bool) → (f.vb_or_status == 0) ≡ good → cond good (length f.value % 16 == 0) (length f.value == 0) ≡ true
    → AreBytes f.value → length f.value < 4294967296 → IsSpelledLog f.vb_or_status (log_in f.value)
unfolding log_in
log_spelled f true e t h len =
    let whole : length f.value % 16 ≡ 0 = grind (arith, nat_tests) in
    let all : 16 * length (log_in f.value) ≡ length f.value = sym (length_log (log_in f.value)) ∙ ap length (log_once f.value h whole) in
    (omega (arith, all), λ n. absurd (n (grind (arith, nat_tests, e))))
log_spelled f false e t h len =
    let empty : log_in f.value ≡ [] = ap log_in (sym (no_bytes f.value t)) in
    (let all : 16 * length (log_in f.value) ≡ 0 = ap (λ l. 16 * length l) empty in omega (arith, all), λ n. empty)

spelled_as : (r : DcpRow) (f : Frame) → Fits f → AreBytes f.value → extras_fit r f ≡ true → key_fits r f ≡ true → value_fits r f ≡ true → IsSpelled (message_in r f)
spelled_as row.Open f fits hv x k v = (grind (arith, nat_tests), grind (arith, nat_tests))
spelled_as row.Control f fits hv x k v = (key_short (f.magic == 8) _ fits.key, omega (arith, fits.body))
spelled_as row.StreamRequest f fits hv x k v = tt
spelled_as row.StreamEnd f fits hv x k v = tt
spelled_as row.SnapshotMarker f fits hv x k v = tt
spelled_as row.Mutation f fits hv x k v = (key_short (f.magic == 8) _ fits.key, let e = extras_are row.Mutation f x in omega (arith, fits.body, e.1))
spelled_as row.Deletion f fits hv x k v = key_short (f.magic == 8) _ fits.key
spelled_as row.Prepare f fits hv x k v =
    (key_short (f.magic == 8) _ fits.key, (let e = extras_are row.Prepare f x in omega (arith, fits.body, e.1)), λ removed. grind (arith, nat_tests, removed, v))
spelled_as row.Commit f fits hv x k v = key_short (f.magic == 8) _ fits.key
spelled_as row.Abort f fits hv x k v = key_short (f.magic == 8) _ fits.key
spelled_as row.SeqnoAcknowledged f fits hv x k v = tt
spelled_as row.CloseStream f fits hv x k v = tt
spelled_as row.GetFailoverLog f fits hv x k v = tt
spelled_as row.Noop f fits hv x k v = tt
spelled_as row.BufferAcknowledgement f fits hv x k v = tt
spelled_as row.SetVbucketState f fits hv x k v = tt
spelled_as row.OpenAnswer f fits hv x k v = tt
spelled_as row.ControlAnswer f fits hv x k v = tt
spelled_as row.StreamAnswer f fits hv x k v = told_spelled f (f.vb_or_status == 0) (f.vb_or_status == 35) refl refl v hv (omega (arith, fits.body))
spelled_as row.CloseAnswer f fits hv x k v = tt
spelled_as row.NoopAnswer f fits hv x k v = tt
spelled_as row.LogAnswer f fits hv x k v = log_spelled f (f.vb_or_status == 0) refl v hv (omega (arith, fits.body))
spelled_as row.StateAnswer f fits hv x k v = tt

spelled_by : (f : Frame) (r : Option DcpRow) (m : DcpMsg) → Fits f → AreBytes f.value → option_map (read_as f) r ≡ Some (Ok m) → IsSpelled m
spelled_by f None m fits hv read = cc
spelled_by f (Some r) m fits hv read =
    let ok : read_as f r ≡ Ok m = cc in
    let good = no_fault (shape_fault r f) (message_in r f) m ok in
    let fit = parts_fit r f good.0 in
    subst IsSpelled good.1 (spelled_as r f fits hv fit.0 fit.1 fit.2)

pub spelled : (f : Frame) (m : DcpMsg) → Fits f → AreBytes f.value → read_of f ≡ Some (Ok m) → IsSpelled m
unfolding read_of
spelled f m fits hv read = spelled_by f (frame_row f) m fits hv read
