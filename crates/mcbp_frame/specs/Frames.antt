-- a frame of the memcached binary protocol, as bytes
use Rattle.std.specs.Prelude.{ℕ, ◌+◌, ◌≤◌, ◌==◌, Bool, ◌||◌, not, if◌then◌else◌, nat_lt, List, length, take, drop, slice_index, slice_range, Option, Some, None, Result, Ok, Err, ⊤}
use Rattle.std.specs.Int.{w16, w32, w64, from_be_bytes}
use Rattle.mcbp_frame.specs.declared.frame.Frame.{Frame}
use Rattle.mcbp_frame.specs.declared.frame.FrameFault.{FrameFault}
use Rattle.mcbp_frame.specs.declared.frame.FaultyHead.{FaultyHead}
use Rattle.mcbp_frame.specs.declared.frame.FrameFault.TheVariants.{BadMagic, BodyTooLong, BadLengths}
use Rattle.mcbp_frame.specs.declared.frame.TheConstants.{REQUEST, FRAMED_REQUEST, RESPONSE, HEADER_LEN, MAX_BODY_LEN}

-- n bytes from a place on
abbrev pub part : List ℕ → ℕ → ℕ → List ℕ
part bytes at n = take n (drop at bytes)

-- the big-endian number of 2, 4 or 8 bytes at a place
abbrev pub big_16_at : List ℕ → ℕ → ℕ
big_16_at bytes at = from_be_bytes w16 (part bytes at 2)

abbrev pub big_32_at : List ℕ → ℕ → ℕ
big_32_at bytes at = from_be_bytes w32 (part bytes at 4)

abbrev pub big_64_at : List ℕ → ℕ → ℕ
big_64_at bytes at = from_be_bytes w64 (part bytes at 8)

-- the first byte of a request, of one with framing extras, or of a response
abbrev pub is_magic : ℕ → Bool
is_magic b = (b == REQUEST) || (b == FRAMED_REQUEST) || (b == RESPONSE)

-- the lengths that a header says: of the framing extras, which only one magic has
abbrev pub framing_len : List ℕ → ℕ
framing_len bytes = if slice_index bytes 0 == FRAMED_REQUEST then slice_index bytes 2 else 0

-- of the key, in one byte behind the framing length, or in two
abbrev pub key_len : List ℕ → ℕ
key_len bytes = if slice_index bytes 0 == FRAMED_REQUEST then slice_index bytes 3 else big_16_at bytes 2

-- of the extras
abbrev pub extras_len : List ℕ → ℕ
extras_len bytes = slice_index bytes 4

-- and of the whole body
abbrev pub body_len : List ℕ → ℕ
body_len bytes = big_32_at bytes 8

-- of the parts before the value
abbrev pub parts_len : List ℕ → ℕ
parts_len bytes = framing_len bytes + extras_len bytes + key_len bytes

-- where the parts begin: the framing extras stand first, right behind the header
abbrev pub extras_at : List ℕ → ℕ
extras_at bytes = HEADER_LEN + framing_len bytes

abbrev pub key_at : List ℕ → ℕ
key_at bytes = extras_at bytes + extras_len bytes

abbrev pub value_at : List ℕ → ℕ
value_at bytes = key_at bytes + key_len bytes

-- the frame that a header and its body are
unfoldable pub frame_of : List ℕ → Frame
frame_of bytes = record {
  magic = slice_index bytes 0;
  opcode = slice_index bytes 1;
  datatype = slice_index bytes 5;
  vb_or_status = big_16_at bytes 6;
  opaque = big_32_at bytes 12;
  cas = big_64_at bytes 16;
  framing = slice_range bytes HEADER_LEN (extras_at bytes);
  extras = slice_range bytes (extras_at bytes) (key_at bytes);
  key = slice_range bytes (key_at bytes) (value_at bytes);
  value = slice_range bytes (value_at bytes) (HEADER_LEN + body_len bytes);
}

-- what the bytes begin with: a frame, a fault, or less than a frame
unfoldable pub first_frame : List ℕ → Option (Result Frame FrameFault)
first_frame bytes =
    if length bytes == 0 then None
    else if not (is_magic (slice_index bytes 0)) then Some (Err BadMagic)
    else if nat_lt (length bytes) HEADER_LEN then None
    else if nat_lt MAX_BODY_LEN (body_len bytes) then Some (Err BodyTooLong)
    else if nat_lt (body_len bytes) (parts_len bytes) then Some (Err BadLengths)
    else if nat_lt (length bytes) (HEADER_LEN + body_len bytes) then None
    else Some (Ok (frame_of bytes))

-- what the header of a faulty frame names it by; behind a first byte that is not known there may be no header
abbrev pub faulty_head : FrameFault → List ℕ → Option FaultyHead
faulty_head BadMagic bytes = None
faulty_head fault bytes = Some (record { opcode = slice_index bytes 1; opaque = big_32_at bytes 12 })

-- how long a frame's body is
abbrev pub body_size : Frame → ℕ
body_size f = length f.framing + length f.extras + length f.key + length f.value

-- how long a frame is as bytes
abbrev pub frame_len : Frame → ℕ
frame_len f = HEADER_LEN + body_size f

-- what is left behind what was given; a fault stays
abbrev pub rest_after : Option (Result Frame FrameFault) → List ℕ → List ℕ
rest_after None bytes = bytes
rest_after (Some (Err fault)) bytes = bytes
rest_after (Some (Ok f)) bytes = drop (frame_len f) bytes

-- a frame that was given is no longer than the bytes
abbrev pub IsWithin : Option (Result Frame FrameFault) → ℕ → Type 0
IsWithin None len = ⊤
IsWithin (Some (Err fault)) len = ⊤
IsWithin (Some (Ok f)) len = frame_len f ≤ len

-- a first frame, if nothing stands behind it
abbrev pub alone : Option (Result Frame FrameFault) → ℕ → Option Frame
alone None len = None
alone (Some (Err fault)) len = None
alone (Some (Ok f)) len = if frame_len f == len then Some f else None

-- the frame that the bytes are, with nothing behind it
abbrev pub whole_frame : List ℕ → Option Frame
whole_frame bytes = alone (first_frame bytes) (length bytes)
