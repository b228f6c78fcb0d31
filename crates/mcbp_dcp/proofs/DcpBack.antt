-- a message that is written is read back
use Rattle.std.proofs.Common.{◌≡◌, ◌≢◌, ℕ, ◌<◌, ◌≤◌, ◌++◌, Bool, true, false, List, [], length, refl, ap, ◌∙◌, arith, cond}
use Rattle.std.specs.Prelude.{Some, None, Ok, ◌&&◌, ◌==◌, ◌%◌, not, nat_le, ◌||◌}
use Rattle.std.specs.List.{All}
use Rattle.std.proofs.lemmas.Bool.Decides.{nat_tests}
use Rattle.std.proofs.lemmas.Nat.{from_be_bytes-to_be_bytes_4, from_be_bytes-to_be_bytes_8}
use Rattle.mcbp_frame.specs.Frames.{first_frame, body_size, big_64_at}
use Rattle.mcbp_frame.specs.Spelling.{spelling, Readable}
use Rattle.mcbp_frame.proofs.ReadBack.{reads_back}
use Rattle.vb_types.specs.declared.role.LogEntry.{LogEntry}
use Rattle.vb_types.specs.declared.role.Role.TheVariants as role
use Rattle.mcbp_dcp.specs.declared.row.DcpRow.TheVariants as row
use Rattle.mcbp_dcp.specs.declared.message.DcpMsg.{DcpMsg}
use Rattle.mcbp_dcp.specs.declared.message.DcpMsg.TheVariants as msg
use Rattle.mcbp_dcp.specs.declared.message.DcpFault.TheVariants.{WrongKey, WrongValue}
use Rattle.mcbp_dcp.specs.declared.message.Prepare.{Prepare}
use Rattle.mcbp_dcp.specs.declared.message.StreamVerdict.{StreamVerdict}
use Rattle.mcbp_dcp.specs.declared.message.StreamVerdict.TheVariants as told
use Rattle.mcbp_dcp.specs.Rows.{frame_row}
use Rattle.mcbp_dcp.specs.Shapes.{shape_fault}
use Rattle.mcbp_dcp.specs.WireLogs.{log_spelling, log_in}
use Rattle.mcbp_dcp.specs.Messages.{message_in, unless_fault, read_of}
use Rattle.mcbp_dcp.specs.DcpFrames.{dcp_frame, prepare_frame, verdict_frame, log_frame, IsVerdict, IsSpelled, IsSpelledPrepare, IsSpelledLog}
use Rattle.mcbp_dcp.specs.DcpLaws.{EntryInRange, PrepareInRange, VerdictInRange, InRange}
use Rattle.mcbp_dcp.proofs.WireLogs.{length_log, log_back}

told_back : (t : StreamVerdict) (opaque : ℕ) → IsVerdict t → VerdictInRange t → read_of (verdict_frame t opaque) ≡ Some (Ok (msg.StreamAnswer t))
unfolding read_of frame_row shape_fault
told_back (told.Go log) opaque s r =
    let whole : (length (log_spelling log) % 16 == 0) ≡ true = grind (arith, nat_tests, length_log log) in
    ap (λ b. Some (unless_fault (cond (not b) (Some WrongValue) None) (message_in row.StreamAnswer (verdict_frame (told.Go log) opaque)))) whole
    ∙ (λ i. Some (Ok (msg.StreamAnswer (told.Go (log_back log r i)))))
told_back (told.Roll point) opaque s r = λ i. Some (Ok (msg.StreamAnswer (told.Roll (from_be_bytes-to_be_bytes_8 point r i))))
told_back (told.Refused status) opaque s r =
    let good : (status == 0) ≡ false = grind (arith, nat_tests, s.0) in
    let back : (status == 35) ≡ false = grind (arith, nat_tests, s.1) in
    λ i. Some (unless_fault (cond (not (cond (good i) true (cond (back i) false true))) (Some WrongValue) None) (msg.StreamAnswer (cond (good i) (told.Go (log_in [])) (cond (back i) (told.Roll (big_64_at [] 0)) (told.Refused status)))))

-- a log is whole entries, and a refusal has none
log_fitting : (status : ℕ) (log : List LogEntry) (good : Bool) → (status == 0) ≡ good → (status ≢ 0 → log ≡ []) → cond good (length (log_spelling log) % 16 == 0) (length (log_spelling log) == 0) ≡ true
log_fitting status log true e none = grind (arith, nat_tests, length_log log)
log_fitting status log false e none = let empty : log ≡ [] = none (λ s. grind (arith, nat_tests, e, s)) in ap (λ l. length (log_spelling l) == 0) empty

answer_back : (status : ℕ) (log : List LogEntry) (opaque : ℕ) → IsSpelledLog status log → All EntryInRange log → read_of (log_frame status log opaque) ≡ Some (Ok (msg.LogAnswer status log))
unfolding read_of frame_row shape_fault
answer_back status log opaque s r =
    ap (λ b. Some (unless_fault (cond (not b) (Some WrongValue) None) (message_in row.LogAnswer (log_frame status log opaque)))) (log_fitting status log (status == 0) refl s.1)
    ∙ (λ i. Some (Ok (msg.LogAnswer status (log_back log r i))))

-- a prepare of a removal has no value
no_value : (deleted len : ℕ) (removal : Bool) → (deleted == 1) ≡ removal → (deleted ≡ 1 → len ≡ 0) → (not removal || len == 0) ≡ true
no_value deleted len false e none = refl
no_value deleted len true e none = let zero : len ≡ 0 = none (grind (arith, nat_tests)) in ap (λ n. n == 0) zero

prepare_back : (p : Prepare) (opaque v : ℕ) → IsSpelledPrepare p → PrepareInRange p → read_of (prepare_frame p opaque v) ≡ Some (Ok (msg.Prepare p))
unfolding read_of frame_row shape_fault
prepare_back p opaque v s r =
    ap (λ b. Some (unless_fault (cond (not b) (Some WrongValue) None) (message_in row.Prepare (prepare_frame p opaque v)))) (no_value p.deleted (length p.value) (p.deleted == 1) refl s.2)
    ∙ (λ i. Some (Ok (msg.Prepare (record {
      seq = from_be_bytes-to_be_bytes_8 p.seq r.seq i;
      rev = from_be_bytes-to_be_bytes_8 p.rev r.rev i;
      cas = p.cas;
      flags = from_be_bytes-to_be_bytes_4 p.flags r.flags i;
      expiry = from_be_bytes-to_be_bytes_4 p.expiry r.expiry i;
      datatype = p.datatype;
      deleted = p.deleted;
      level = p.level;
      key = p.key;
      value = p.value;
    }))))

pub message_back : (m : DcpMsg) (opaque v : ℕ) → IsSpelled m → InRange m → read_of (dcp_frame m opaque v) ≡ Some (Ok m)
unfolding read_of dcp_frame frame_row shape_fault
message_back (msg.Open number flags name) opaque v s r =
    let named : (nat_le 1 (length name) && nat_le (length name) 250) ≡ true = grind (arith, nat_tests) in
    ap (λ b. Some (unless_fault (cond (not b) (Some WrongKey) None) (message_in row.Open (dcp_frame (msg.Open number flags name) opaque v)))) named
    ∙ (λ i. Some (Ok (msg.Open (from_be_bytes-to_be_bytes_4 number r.0 i) (from_be_bytes-to_be_bytes_4 flags r.1 i) name)))
message_back (msg.Control key value) opaque v s r = refl
message_back (msg.StreamRequest ask) opaque v s r = λ i. Some (Ok (msg.StreamRequest (record {
  flags = from_be_bytes-to_be_bytes_4 ask.flags r.flags i;
  start = from_be_bytes-to_be_bytes_8 ask.start r.start i;
  end = from_be_bytes-to_be_bytes_8 ask.end r.end i;
  uuid = from_be_bytes-to_be_bytes_8 ask.uuid r.uuid i;
  ss = from_be_bytes-to_be_bytes_8 ask.ss r.ss i;
  se = from_be_bytes-to_be_bytes_8 ask.se r.se i;
})))
message_back (msg.StreamEnd reason) opaque v s r = λ i. Some (Ok (msg.StreamEnd (from_be_bytes-to_be_bytes_4 reason r i)))
message_back (msg.SnapshotMarker start end flags) opaque v s r =
    λ i. Some (Ok (msg.SnapshotMarker (from_be_bytes-to_be_bytes_8 start r.0 i) (from_be_bytes-to_be_bytes_8 end r.1 i) (from_be_bytes-to_be_bytes_4 flags r.2 i)))
message_back (msg.Mutation m) opaque v s r = λ i. Some (Ok (msg.Mutation (record {
  seq = from_be_bytes-to_be_bytes_8 m.seq r.seq i;
  rev = from_be_bytes-to_be_bytes_8 m.rev r.rev i;
  cas = m.cas;
  flags = from_be_bytes-to_be_bytes_4 m.flags r.flags i;
  expiry = from_be_bytes-to_be_bytes_4 m.expiry r.expiry i;
  datatype = m.datatype;
  key = m.key;
  value = m.value;
})))
message_back (msg.Deletion d) opaque v s r = λ i. Some (Ok (msg.Deletion (record {
  seq = from_be_bytes-to_be_bytes_8 d.seq r.seq i;
  rev = from_be_bytes-to_be_bytes_8 d.rev r.rev i;
  cas = d.cas;
  key = d.key;
})))
message_back (msg.Prepare p) opaque v s r = prepare_back p opaque v s r
message_back (msg.Commit c) opaque v s r = λ i. Some (Ok (msg.Commit (record {
  prepared = from_be_bytes-to_be_bytes_8 c.prepared r.prepared i;
  seq = from_be_bytes-to_be_bytes_8 c.seq r.seq i;
  key = c.key;
})))
message_back (msg.Abort c) opaque v s r = λ i. Some (Ok (msg.Abort (record {
  prepared = from_be_bytes-to_be_bytes_8 c.prepared r.prepared i;
  seq = from_be_bytes-to_be_bytes_8 c.seq r.seq i;
  key = c.key;
})))
message_back (msg.SeqnoAcknowledged seq) opaque v s r = λ i. Some (Ok (msg.SeqnoAcknowledged (from_be_bytes-to_be_bytes_8 seq r i)))
message_back msg.CloseStream opaque v s r = refl
message_back msg.GetFailoverLog opaque v s r = refl
message_back msg.Noop opaque v s r = refl
message_back (msg.BufferAcknowledgement bytes) opaque v s r = λ i. Some (Ok (msg.BufferAcknowledgement (from_be_bytes-to_be_bytes_4 bytes r i)))
message_back (msg.SetVbucketState role.Active) opaque v s r = refl
message_back (msg.SetVbucketState role.Replica) opaque v s r = refl
message_back (msg.SetVbucketState role.Pending) opaque v s r = refl
message_back (msg.SetVbucketState role.Dead) opaque v s r = refl
message_back (msg.OpenAnswer status) opaque v s r = refl
message_back (msg.ControlAnswer status) opaque v s r = refl
message_back (msg.StreamAnswer t) opaque v s r = told_back t opaque s r
message_back (msg.CloseAnswer status) opaque v s r = refl
message_back (msg.NoopAnswer status) opaque v s r = refl
message_back (msg.LogAnswer status log) opaque v s r = answer_back status log opaque s r.1
message_back (msg.StateAnswer status) opaque v s r = refl

told_readable : (t : StreamVerdict) (opaque : ℕ) → IsVerdict t → VerdictInRange t → opaque < 4294967296 → body_size (verdict_frame t opaque) ≤ 22020096 → Readable (verdict_frame t opaque)
told_readable (told.Go log) opaque s r o limit =
    record { fits = record { framing = omega arith; extras = omega arith; key = omega arith; body = omega arith }; magic = refl; limit = limit; vb_or_status = omega arith; opaque = o; cas = omega arith }
told_readable (told.Roll point) opaque s r o limit =
    record { fits = record { framing = omega arith; extras = omega arith; key = omega arith; body = omega arith }; magic = refl; limit = limit; vb_or_status = omega arith; opaque = o; cas = omega arith }
told_readable (told.Refused status) opaque s r o limit =
    record { fits = record { framing = omega arith; extras = omega arith; key = omega arith; body = omega arith }; magic = refl; limit = limit; vb_or_status = r; opaque = o; cas = omega arith }

message_readable : (m : DcpMsg) (opaque v : ℕ) → IsSpelled m → InRange m → opaque < 4294967296 → v < 65536 → body_size (dcp_frame m opaque v) ≤ 22020096 → Readable (dcp_frame m opaque v)
unfolding dcp_frame
message_readable (msg.Open number flags name) opaque v s r o u limit =
    record { fits = record { framing = omega arith; extras = omega arith; key = omega arith; body = omega arith }; magic = refl; limit = limit; vb_or_status = u; opaque = o; cas = omega arith }
message_readable (msg.Control key value) opaque v s r o u limit =
    record { fits = record { framing = omega arith; extras = omega arith; key = s.0; body = omega arith }; magic = refl; limit = limit; vb_or_status = u; opaque = o; cas = omega arith }
message_readable (msg.StreamRequest ask) opaque v s r o u limit =
    record { fits = record { framing = omega arith; extras = omega arith; key = omega arith; body = omega arith }; magic = refl; limit = limit; vb_or_status = u; opaque = o; cas = omega arith }
message_readable (msg.StreamEnd reason) opaque v s r o u limit =
    record { fits = record { framing = omega arith; extras = omega arith; key = omega arith; body = omega arith }; magic = refl; limit = limit; vb_or_status = u; opaque = o; cas = omega arith }
message_readable (msg.SnapshotMarker start end flags) opaque v s r o u limit =
    record { fits = record { framing = omega arith; extras = omega arith; key = omega arith; body = omega arith }; magic = refl; limit = limit; vb_or_status = u; opaque = o; cas = omega arith }
message_readable (msg.Mutation m) opaque v s r o u limit =
    record { fits = record { framing = omega arith; extras = omega arith; key = s.0; body = omega arith }; magic = refl; limit = limit; vb_or_status = u; opaque = o; cas = r.cas }
message_readable (msg.Deletion d) opaque v s r o u limit =
    record { fits = record { framing = omega arith; extras = omega arith; key = s; body = omega arith }; magic = refl; limit = limit; vb_or_status = u; opaque = o; cas = r.cas }
message_readable (msg.Prepare p) opaque v s r o u limit =
    record { fits = record { framing = omega arith; extras = omega arith; key = s.0; body = omega arith }; magic = refl; limit = limit; vb_or_status = u; opaque = o; cas = r.cas }
message_readable (msg.Commit c) opaque v s r o u limit =
    record { fits = record { framing = omega arith; extras = omega arith; key = s; body = omega arith }; magic = refl; limit = limit; vb_or_status = u; opaque = o; cas = omega arith }
message_readable (msg.Abort c) opaque v s r o u limit =
    record { fits = record { framing = omega arith; extras = omega arith; key = s; body = omega arith }; magic = refl; limit = limit; vb_or_status = u; opaque = o; cas = omega arith }
message_readable (msg.SeqnoAcknowledged seq) opaque v s r o u limit =
    record { fits = record { framing = omega arith; extras = omega arith; key = omega arith; body = omega arith }; magic = refl; limit = limit; vb_or_status = u; opaque = o; cas = omega arith }
message_readable msg.CloseStream opaque v s r o u limit =
    record { fits = record { framing = omega arith; extras = omega arith; key = omega arith; body = omega arith }; magic = refl; limit = limit; vb_or_status = u; opaque = o; cas = omega arith }
message_readable msg.GetFailoverLog opaque v s r o u limit =
    record { fits = record { framing = omega arith; extras = omega arith; key = omega arith; body = omega arith }; magic = refl; limit = limit; vb_or_status = u; opaque = o; cas = omega arith }
message_readable msg.Noop opaque v s r o u limit =
    record { fits = record { framing = omega arith; extras = omega arith; key = omega arith; body = omega arith }; magic = refl; limit = limit; vb_or_status = u; opaque = o; cas = omega arith }
message_readable (msg.BufferAcknowledgement bytes) opaque v s r o u limit =
    record { fits = record { framing = omega arith; extras = omega arith; key = omega arith; body = omega arith }; magic = refl; limit = limit; vb_or_status = u; opaque = o; cas = omega arith }
message_readable (msg.SetVbucketState role) opaque v s r o u limit =
    record { fits = record { framing = omega arith; extras = omega arith; key = omega arith; body = omega arith }; magic = refl; limit = limit; vb_or_status = u; opaque = o; cas = omega arith }
message_readable (msg.OpenAnswer status) opaque v s r o u limit =
    record { fits = record { framing = omega arith; extras = omega arith; key = omega arith; body = omega arith }; magic = refl; limit = limit; vb_or_status = r; opaque = o; cas = omega arith }
message_readable (msg.ControlAnswer status) opaque v s r o u limit =
    record { fits = record { framing = omega arith; extras = omega arith; key = omega arith; body = omega arith }; magic = refl; limit = limit; vb_or_status = r; opaque = o; cas = omega arith }
message_readable (msg.StreamAnswer t) opaque v s r o u limit = told_readable t opaque s r o limit
message_readable (msg.CloseAnswer status) opaque v s r o u limit =
    record { fits = record { framing = omega arith; extras = omega arith; key = omega arith; body = omega arith }; magic = refl; limit = limit; vb_or_status = r; opaque = o; cas = omega arith }
message_readable (msg.NoopAnswer status) opaque v s r o u limit =
    record { fits = record { framing = omega arith; extras = omega arith; key = omega arith; body = omega arith }; magic = refl; limit = limit; vb_or_status = r; opaque = o; cas = omega arith }
message_readable (msg.LogAnswer status log) opaque v s r o u limit =
    record { fits = record { framing = omega arith; extras = omega arith; key = omega arith; body = omega arith }; magic = refl; limit = limit; vb_or_status = r.0; opaque = o; cas = omega arith }
message_readable (msg.StateAnswer status) opaque v s r o u limit =
    record { fits = record { framing = omega arith; extras = omega arith; key = omega arith; body = omega arith }; magic = refl; limit = limit; vb_or_status = r; opaque = o; cas = omega arith }

-- and so are its bytes
pub bytes_back : (m : DcpMsg) (opaque v : ℕ) (rest : List ℕ) → IsSpelled m → InRange m → opaque < 4294967296 → v < 65536 → body_size (dcp_frame m opaque v) ≤ 22020096
    → first_frame (spelling (dcp_frame m opaque v) ++ rest) ≡ Some (Ok (dcp_frame m opaque v))
bytes_back m opaque v rest s r o u limit = reads_back (dcp_frame m opaque v) rest (message_readable m opaque v s r o u limit)
