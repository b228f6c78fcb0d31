-- bytes of frames, cut apart by their headers
use Rattle.std.specs.Prelude.{ℕ, zero, suc, ◌+◌, ◌<◌, ◌^◌, if◌then◌else◌, nat_lt, List, [], ◌∷◌, length, take, drop}
use Rattle.mcbp_frame.specs.Frames.{big_32_at, body_size}
use Rattle.mcbp_frame.specs.declared.frame.Frame.{Frame}
use Rattle.mcbp_frame.specs.declared.frame.TheConstants.{HEADER_LEN}

-- the length of the frame that bytes begin with: of its header, and of the body that the header tells of; less than a header is all of it
abbrev pub front_len : List ℕ → ℕ
front_len bytes = if nat_lt (length bytes) HEADER_LEN then length bytes else HEADER_LEN + big_32_at bytes 8

-- so many frames, one after the other
abbrev pub pieces : ℕ → List ℕ → List (List ℕ)
pieces zero bytes = []
pieces (suc n) bytes = take (front_len bytes) bytes ∷ pieces n (drop (front_len bytes) bytes)

-- a frame whose body has a length that its field holds
abbrev pub IsShort : Frame → Type 0
IsShort f = body_size f < 2 ^ 32
