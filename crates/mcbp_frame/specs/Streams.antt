-- what bytes are as frames, in the words of the protocol
use Rattle.std.specs.Prelude.{◌≡◌, ℕ, ◌+◌, ◌<◌, ◌≤◌, List, [], ◌∷◌, ◌++◌, length, drop, slice_index, map, Option, Some, None, Result, Ok, Err, ⊤, ◌⊎◌, IsTrue, IsFalse}
use Rattle.std.specs.List.{All, concat}
use Rattle.mcbp_frame.specs.declared.frame.Frame.{Frame}
use Rattle.mcbp_frame.specs.declared.frame.FrameFault.{FrameFault}
use Rattle.mcbp_frame.specs.declared.frame.FrameFault.TheVariants.{BadMagic, BodyTooLong, BadLengths}
use Rattle.mcbp_frame.specs.declared.frame.TheConstants.{HEADER_LEN, MAX_BODY_LEN}
use Rattle.mcbp_frame.specs.Frames.{is_magic, body_len, parts_len, first_frame, frame_len}
use Rattle.mcbp_frame.specs.Spelling.{spelling, Readable}

-- each number is that of a byte
abbrev pub AreBytes : List ℕ → Type 0
AreBytes bytes = All (λ b. b < 256) bytes

-- there is a first byte, and it is a known one
abbrev pub IsBegun : List ℕ → Type 0
IsBegun bytes = (0 < length bytes) × IsTrue (is_magic (slice_index bytes 0))

-- behind a known first byte the header is whole
abbrev pub IsHeaded : List ℕ → Type 0
IsHeaded bytes = IsBegun bytes × (HEADER_LEN ≤ length bytes)

-- less than a frame: no byte, a known first byte and less than a header, or a header without fault and less than it asks
abbrev pub IsUnfinished : List ℕ → Type 0
IsUnfinished bytes =
    (length bytes ≡ 0)
    ⊎ ((IsBegun bytes × (length bytes < HEADER_LEN))
    ⊎ (IsHeaded bytes × (body_len bytes ≤ MAX_BODY_LEN) × (parts_len bytes ≤ body_len bytes) × (length bytes < HEADER_LEN + body_len bytes)))

-- the five cases of what bytes begin with: less than a frame, a fault of the first byte, two faults of a whole header, and a frame's spelling
abbrev pub Begins : List ℕ → Option (Result Frame FrameFault) → Type 0
Begins bytes None = IsUnfinished bytes
Begins bytes (Some (Err BadMagic)) = (0 < length bytes) × IsFalse (is_magic (slice_index bytes 0))
Begins bytes (Some (Err BodyTooLong)) = IsHeaded bytes × (MAX_BODY_LEN < body_len bytes)
Begins bytes (Some (Err BadLengths)) = IsHeaded bytes × (body_len bytes ≤ MAX_BODY_LEN) × (body_len bytes < parts_len bytes)
Begins bytes (Some (Ok f)) = Readable f × ((rest : List ℕ) × (bytes ≡ spelling f ++ rest))

-- no frame: less than one, or a fault
abbrev pub IsNoFrame : Option (Result Frame FrameFault) → Type 0
IsNoFrame None = ⊤
IsNoFrame (Some (Err fault)) = ⊤
IsNoFrame (Some (Ok f)) = ⊥

-- a stream is the spellings of these frames, one after another, and a rest with no frame at its front
pub record Cut (stream : List ℕ) (frames : List Frame) (rest : List ℕ) : Type 0 where
  pub joined : stream ≡ concat (map spelling frames) ++ rest
  pub readable : All Readable frames
  pub stops : IsNoFrame (first_frame rest)

-- what a reader that holds these bytes gives, call after call, up to a fault or less than a frame
abbrev pub Gives : List ℕ → List Frame → List ℕ → Type 0
Gives held [] rest = (rest ≡ held) × IsNoFrame (first_frame held)
Gives held (f ∷ frames) rest = (first_frame held ≡ Some (Ok f)) × Gives (drop (frame_len f) held) frames rest

-- what a reader gives that is fed piece by piece, and is asked after each piece until it gives no more
abbrev pub GivesOf : List ℕ → List (List ℕ) → List Frame → List ℕ → Type 0
GivesOf held [] frames rest = (frames ≡ []) × (rest ≡ held)
GivesOf held (piece ∷ pieces) frames rest =
    (now : List Frame) × (left : List ℕ) × (later : List Frame)
    × Gives (held ++ piece) now left × GivesOf left pieces later rest × (frames ≡ now ++ later)
