-- what the header of a frame that is spelled tells, and how bytes are cut by headers into the frames that were spelled
use Rattle.std.proofs.Common.{◌≡◌, ◌+◌, ◌<◌, ℕ, suc, Bool, true, false, List, [], ◌∷◌, ◌++◌, length, map, take, drop, refl, sym, ap, ◌∙◌, arith, append_assoc, length-append}
use Rattle.std.specs.Prelude.{if◌then◌else◌, ◌==◌, ◌/◌, ◌%◌, ◌^◌, nat_lt}
use Rattle.std.specs.Int.{w16, w32, w64, to_be_bytes}
use Rattle.std.specs.List.{All, concat}
use Rattle.std.proofs.Math.Seq.{take-append_seam, drop-append_seam}
use Rattle.std.proofs.lemmas.Bool.Decides.{nat_tests}
use Rattle.std.proofs.lemmas.List.Elements.{All-head, All-tail}
use Rattle.std.proofs.lemmas.Nat.{from_be_bytes-to_be_bytes_2, from_be_bytes-to_be_bytes_4}
use Rattle.mcbp_frame.specs.Frames.{big_16_at, big_32_at, body_size, frame_len}
use Rattle.mcbp_frame.specs.Spelling.{lengths, spelling}
use Rattle.mcbp_frame.specs.declared.frame.Frame.{Frame}
use Rattle.mcbp_frame.specs.declared.frame.TheConstants.{FRAMED_REQUEST, HEADER_LEN}
use Rattle.mcbp_frame.proofs.Cases.{length-spelling}
use Rattle.mcbp_kv.specs.Answers.{IsBare}
use Rattle.mcbp_dcp.specs.DcpFrames.{dcp_frame, IsSpelled}
use Rattle.mcbp_dcp.specs.declared.message.DcpMsg.{DcpMsg}
use Rattle.mcbp_dcp.specs.declared.message.DcpMsg.TheVariants as msg
use Rattle.mcbp_dcp.specs.declared.message.StreamVerdict.TheVariants as told
use Rattle.mcbp_dcp.specs.DcpLaws.{dcp_len}
use Rattle.mcbp_dcp.proofs.DcpLens.{length_dcp}
use Rattle.dcp_producer.specs.Cuts.{IsShort, front_len, pieces}

-- ---- the fields of a header

-- a frame with its two bytes of lengths, and what stands behind it
abbrev headed : Frame → List ℕ → List ℕ → List ℕ
headed f two rest =
    (f.magic ∷ f.opcode ∷ [] ++ two ++ length f.extras ∷ f.datatype ∷ [] ++ to_be_bytes w16 f.vb_or_status
    ++ to_be_bytes w32 (body_size f) ++ to_be_bytes w32 f.opaque ++ to_be_bytes w64 f.cas) ++ f.framing ++ f.extras ++ f.key ++ f.value ++ rest

two_bytes : (framed : Bool) (n k : ℕ) → (a : ℕ) × (b : ℕ) × ((if framed then n ∷ k ∷ [] else to_be_bytes w16 k) ≡ a ∷ b ∷ [])
two_bytes true n k = (n, k, refl)
two_bytes false n k = (k / 256 % 256, k % 256, refl)

module _ (f : Frame) (rest : List ℕ) where
  abbrev two : (a : ℕ) × (b : ℕ) × (lengths f ≡ a ∷ b ∷ [])
  two = two_bytes (f.magic == FRAMED_REQUEST) (length f.framing) (length f.key)

  -- the vBucket, or the status
  pub vb_told : f.vb_or_status < 2 ^ 16 → big_16_at (spelling f ++ rest) 6 ≡ f.vb_or_status
  unfolding spelling
  vb_told small = ap (λ ls. big_16_at (headed f ls rest) 6) two.2 ∙ from_be_bytes-to_be_bytes_2 f.vb_or_status small

  -- the length of the body
  pub body_told : body_size f < 2 ^ 32 → big_32_at (spelling f ++ rest) 8 ≡ body_size f
  unfolding spelling
  body_told small = ap (λ ls. big_32_at (headed f ls rest) 8) two.2 ∙ from_be_bytes-to_be_bytes_4 (body_size f) small

  -- the opaque
  pub opaque_told : f.opaque < 2 ^ 32 → big_32_at (spelling f ++ rest) 12 ≡ f.opaque
  unfolding spelling
  opaque_told small = ap (λ ls. big_32_at (headed f ls rest) 12) two.2 ∙ from_be_bytes-to_be_bytes_4 f.opaque small

  -- so a header tells how long its frame is
  pub length_told : body_size f < 2 ^ 32 → HEADER_LEN + big_32_at (spelling f ++ rest) 8 ≡ length (spelling f)
  length_told small = ap (λ n. 24 + n) (body_told small) ∙ sym (length-spelling f)

-- a frame that is spelled has a first byte
pub first_byte : (f : Frame) → (b : ℕ) × (more : List ℕ) × (spelling f ≡ b ∷ more)
unfolding spelling
first_byte f = (_, _, refl)

-- ---- bytes that are cut by their headers

module _ (f : Frame) (rest : List ℕ) (short : IsShort f) where
  pub front_is : front_len (spelling f ++ rest) ≡ length (spelling f)
  front_is =
      let long : length (spelling f) ≡ 24 + body_size f = length-spelling f in
      let all : length (spelling f ++ rest) ≡ length (spelling f) + length rest = length-append (spelling f) rest in
      let whole : nat_lt (length (spelling f ++ rest)) 24 ≡ false = grind (arith, nat_tests, long, all) in
      ap (λ b. if b then length (spelling f ++ rest) else 24 + big_32_at (spelling f ++ rest) 8) whole ∙ length_told f rest short

  pub front_cut : take (front_len (spelling f ++ rest)) (spelling f ++ rest) ≡ spelling f
  front_cut = ap (λ n. take n (spelling f ++ rest)) front_is ∙ take-append_seam (spelling f) rest

  pub front_left : drop (front_len (spelling f ++ rest)) (spelling f ++ rest) ≡ rest
  front_left = ap (λ n. drop n (spelling f ++ rest)) front_is ∙ drop-append_seam (spelling f) rest

-- frames that were spelled one after the other are cut apart again, whatever stands behind them
pub pieces_are : (frames : List Frame) (rest : List ℕ) → All IsShort frames → pieces (length frames) (concat (map spelling frames) ++ rest) ≡ map spelling frames
pieces_are [] rest short = refl
pieces_are (f ∷ frames) rest short =
    let one : IsShort f = All-head IsShort f frames short in
    let behind : List ℕ = concat (map spelling frames) ++ rest in
    ap (pieces (suc (length frames))) (append_assoc (spelling f) (concat (map spelling frames)) rest)
    ∙ (λ i. front_cut f behind one i ∷ pieces (length frames) (front_left f behind one i))
    ∙ ap (λ more. spelling f ∷ more) (pieces_are frames rest (All-tail IsShort f frames short))

-- ---- which frames are so short

-- a message that has a spelling
pub spelled_short : (m : DcpMsg) (opaque v : ℕ) → IsSpelled m → IsShort (dcp_frame m opaque v)
spelled_short m opaque v spelled = let len = length_dcp m opaque v in by m spelled len
  where
    by : (m : DcpMsg) → IsSpelled m → frame_len (dcp_frame m opaque v) ≡ dcp_len m → IsShort (dcp_frame m opaque v)
    by (msg.Open number flags name) is len = omega (arith, is, len)
    by (msg.Control key value) is len = omega (arith, is, len)
    by (msg.StreamRequest ask) is len = omega (arith, len)
    by (msg.StreamEnd reason) is len = omega (arith, len)
    by (msg.SnapshotMarker start end flags) is len = omega (arith, len)
    by (msg.Mutation change) is len = omega (arith, is, len)
    by (msg.Deletion change) is len = omega (arith, is, len)
    by (msg.Prepare change) is len = omega (arith, is, len)
    by (msg.Commit change) is len = omega (arith, is, len)
    by (msg.Abort change) is len = omega (arith, is, len)
    by (msg.SeqnoAcknowledged seq) is len = omega (arith, len)
    by msg.CloseStream is len = omega (arith, len)
    by msg.GetFailoverLog is len = omega (arith, len)
    by msg.Noop is len = omega (arith, len)
    by (msg.BufferAcknowledgement bytes) is len = omega (arith, len)
    by (msg.SetVbucketState role) is len = omega (arith, len)
    by (msg.OpenAnswer code) is len = omega (arith, len)
    by (msg.ControlAnswer code) is len = omega (arith, len)
    by (msg.StreamAnswer (told.Go log)) is len = omega (arith, is, len)
    by (msg.StreamAnswer (told.Roll point)) is len = omega (arith, len)
    by (msg.StreamAnswer (told.Refused code)) is len = omega (arith, len)
    by (msg.CloseAnswer code) is len = omega (arith, len)
    by (msg.NoopAnswer code) is len = omega (arith, len)
    by (msg.LogAnswer code log) is len = omega (arith, is, len)
    by (msg.StateAnswer code) is len = omega (arith, len)

-- the answer to a request for a stream that refuses it is one whatever its status, also one that has no spelling as a message
pub refusal_short : (code opaque v : ℕ) → IsShort (dcp_frame (msg.StreamAnswer (told.Refused code)) opaque v)
refusal_short code opaque v = let len = length_dcp (msg.StreamAnswer (told.Refused code)) opaque v in omega (arith, len)

-- a status alone
pub bare_short : (f : Frame) (code said opaque : ℕ) → IsBare f code said opaque → IsShort f
bare_short f code said opaque is =
    let none : body_size f ≡ 0 = λ i. length (is.header.framing i) + length (is.extras i) + length (is.header.key i) + length (is.value i) in
    omega (arith, none)
