-- frames, byte by byte
use Rattle.std.proofs.Common.{[], ◌∷◌, refl}
use Rattle.mcbp_frame.specs.Frames.{first_frame, frame_of}
use Rattle.mcbp_frame.specs.Spelling.{spelling}
use Rattle.mcbp_frame.specs.FrameRows.{IsSpelledAs, some_frame, some_bytes}

pub request : IsSpelledAs (some_frame 0x80 []) (some_bytes 0x80 0x00 0x09 [])
unfolding spelling first_frame frame_of
request = (refl, refl)

pub answer : IsSpelledAs (some_frame 0x81 []) (some_bytes 0x81 0x00 0x09 [])
unfolding spelling first_frame frame_of
answer = (refl, refl)

pub framed : IsSpelledAs (some_frame 0x08 (0x11 ∷ 0x21 ∷ [])) (some_bytes 0x08 0x02 0x0b (0x11 ∷ 0x21 ∷ []))
unfolding spelling first_frame frame_of
framed = (refl, refl)
