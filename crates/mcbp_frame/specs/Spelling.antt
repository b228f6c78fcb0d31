-- the one spelling of a frame
use Rattle.std.specs.Prelude.{ℕ, ◌^◌, ◌<◌, ◌≤◌, ◌==◌, if◌then◌else◌, List, [], ◌∷◌, ◌++◌, length, IsTrue}
use Rattle.std.specs.Int.{w16, w32, w64, to_be_bytes}
use Rattle.mcbp_frame.specs.declared.frame.Frame.{Frame}
use Rattle.mcbp_frame.specs.declared.frame.TheConstants.{FRAMED_REQUEST, MAX_BODY_LEN}
use Rattle.mcbp_frame.specs.Frames.{is_magic, body_size}

-- bytes 2 and 3: the lengths of framing extras and key, or that of the key alone
abbrev pub lengths : Frame → List ℕ
lengths f = if f.magic == FRAMED_REQUEST then length f.framing ∷ length f.key ∷ [] else to_be_bytes w16 (length f.key)

-- the header: magic, opcode, lengths, datatype, vBucket or status, length of the body, opaque, CAS
abbrev pub header_spelling : Frame → List ℕ
header_spelling f =
    f.magic ∷ f.opcode ∷ [] ++ lengths f ++ length f.extras ∷ f.datatype ∷ [] ++ to_be_bytes w16 f.vb_or_status
    ++ to_be_bytes w32 (body_size f) ++ to_be_bytes w32 f.opaque ++ to_be_bytes w64 f.cas

-- the header, and behind it the parts
unfoldable pub spelling : Frame → List ℕ
spelling f = header_spelling f ++ f.framing ++ f.extras ++ f.key ++ f.value

-- the parts fit their length fields, and only a framed request has framing extras
pub record Fits (f : Frame) : Type 0 where
  pub framing : length f.framing < (if f.magic == FRAMED_REQUEST then 2 ^ 8 else 1)
  pub extras : length f.extras < 2 ^ 8
  pub key : length f.key < (if f.magic == FRAMED_REQUEST then 2 ^ 8 else 2 ^ 16)
  pub body : body_size f < 2 ^ 32

-- a frame that a reader takes: its magic is known, its body is within the limit, and its numbers are those of their fields
pub record Readable (f : Frame) : Type 0 where
  pub fits : Fits f
  pub magic : IsTrue (is_magic f.magic)
  pub limit : body_size f ≤ MAX_BODY_LEN
  pub vb_or_status : f.vb_or_status < 2 ^ 16
  pub opaque : f.opaque < 2 ^ 32
  pub cas : f.cas < 2 ^ 64
