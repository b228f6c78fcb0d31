-- frames in numbers, byte by byte, no two of a frame's fields alike
use Rattle.std.specs.Prelude.{◌≡◌, ℕ, List, [], ◌∷◌, ◌++◌, None, Some, Ok, Err}
use Rattle.mcbp_frame.specs.declared.frame.FrameFault.TheVariants.{BadMagic, BadLengths, BodyTooLong}
use Rattle.mcbp_frame.specs.declared.frame.Frame.{Frame}
use Rattle.mcbp_frame.specs.Frames.{first_frame}
use Rattle.mcbp_frame.specs.Spelling.{spelling}

-- a frame is written as these bytes, and read from them
abbrev pub IsSpelledAs : Frame → List ℕ → Type 0
IsSpelledAs f bytes = (spelling f ≡ bytes) × (first_frame bytes ≡ Some (Ok f))

-- a frame of this magic, with these framing extras
abbrev pub some_frame : ℕ → List ℕ → Frame
some_frame magic framing = record {
  magic = magic;
  opcode = 0x71;
  datatype = 0x72;
  vb_or_status = 0x0102;
  opaque = 0x0a0b0c0d;
  cas = 0x3132333435363738;
  framing = framing;
  extras = 0x41 ∷ [];
  key = 0x51 ∷ 0x52 ∷ 0x53 ∷ [];
  value = 0x61 ∷ 0x62 ∷ 0x63 ∷ 0x64 ∷ 0x65 ∷ [];
}

-- behind magic and opcode stands the key's length, in two bytes, and then that of the extras; of a framed request the framing extras' length and the key's, in a byte each, stand there.
-- Then the datatype, the vBucket or status, the length of all that follows the header, the opaque and the CAS; and the parts, framing extras first
abbrev pub some_bytes : ℕ → ℕ → ℕ → List ℕ → List ℕ
some_bytes magic first body framing =
    magic ∷ 0x71 ∷ first ∷ 0x03 ∷ 0x01 ∷ 0x72 ∷ 0x01 ∷ 0x02 ∷ 0x00 ∷ 0x00 ∷ 0x00 ∷ body ∷ 0x0a ∷ 0x0b ∷ 0x0c ∷ 0x0d
    ∷ 0x31 ∷ 0x32 ∷ 0x33 ∷ 0x34 ∷ 0x35 ∷ 0x36 ∷ 0x37 ∷ 0x38 ∷ framing ++ 0x41 ∷ 0x51 ∷ 0x52 ∷ 0x53 ∷ 0x61 ∷ 0x62 ∷ 0x63 ∷ 0x64 ∷ 0x65 ∷ []

-- a request's header without a CAS: key and extras of these lengths, and a body of so many bytes, in four bytes
abbrev pub header : ℕ → ℕ → List ℕ → List ℕ
header key extras body =
    0x80 ∷ 0x01 ∷ 0x00 ∷ key ∷ extras ∷ 0x00 ∷ 0x00 ∷ 0x00 ∷ body ++ 0x0a ∷ 0x0b ∷ 0x0c ∷ 0x0d
    ∷ 0x00 ∷ 0x00 ∷ 0x00 ∷ 0x00 ∷ 0x00 ∷ 0x00 ∷ 0x00 ∷ 0x00 ∷ []

-- What bytes begin with, at each limit: a first byte alone, a header without its last byte, a body of 22,020,096 bytes and one of a byte more, and key and extras that are as long as the body, and a byte longer.
pub record AtLimits : Type 0 where
  pub nothing : first_frame [] ≡ None
  pub one_byte : (first_frame (0x80 ∷ []) ≡ None) × (first_frame (0x08 ∷ []) ≡ None) × (first_frame (0x81 ∷ []) ≡ None)
  pub other_byte : (first_frame (0x82 ∷ []) ≡ Some (Err BadMagic)) × (first_frame (0x00 ∷ []) ≡ Some (Err BadMagic)) × (first_frame (0x18 ∷ []) ≡ Some (Err BadMagic))
  pub most : first_frame (header 0 0 (0x01 ∷ 0x50 ∷ 0x00 ∷ 0x00 ∷ [])) ≡ None
  pub more : first_frame (header 0 0 (0x01 ∷ 0x50 ∷ 0x00 ∷ 0x01 ∷ [])) ≡ Some (Err BodyTooLong)
  pub full : first_frame (header 2 1 (0x00 ∷ 0x00 ∷ 0x00 ∷ 0x03 ∷ [])) ≡ None
  pub short : (first_frame (header 3 1 (0x00 ∷ 0x00 ∷ 0x00 ∷ 0x03 ∷ [])) ≡ Some (Err BadLengths)) × (first_frame (header 0 4 (0x00 ∷ 0x00 ∷ 0x00 ∷ 0x03 ∷ [])) ≡ Some (Err BadLengths))
  pub both : first_frame (header 3 1 (0x02 ∷ 0x00 ∷ 0x00 ∷ 0x00 ∷ [])) ≡ Some (Err BodyTooLong)
