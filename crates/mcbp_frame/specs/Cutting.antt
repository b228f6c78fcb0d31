-- the frames that stand at the front of bytes
use Rattle.std.specs.Prelude.{◌≡◌, ℕ, zero, suc, List, [], ◌∷◌, ◌++◌, length, drop, map, Option, Some, None, Result, Ok, Err}
use Rattle.std.specs.List.{concat, sum_by}
use Rattle.mcbp_frame.specs.declared.frame.Frame.{Frame}
use Rattle.mcbp_frame.specs.declared.frame.FrameFault.{FrameFault}
use Rattle.mcbp_frame.specs.Frames.{first_frame, frame_len}
use Rattle.mcbp_frame.specs.Spelling.{spelling}

-- the frame, where bytes begin with one
abbrev pub frame_in : Option (Result Frame FrameFault) → Option Frame
frame_in None = None
frame_in (Some (Err fault)) = None
frame_in (Some (Ok f)) = Some f

-- the fault, where bytes begin with one
abbrev pub fault_in : Option (Result Frame FrameFault) → Option FrameFault
fault_in None = None
fault_in (Some (Err fault)) = Some fault
fault_in (Some (Ok f)) = None

-- the frame that the bytes begin with
abbrev pub front_frame : List ℕ → Option Frame
front_frame bytes = frame_in (first_frame bytes)

-- the fault that the bytes begin with
abbrev pub front_fault : List ℕ → Option FrameFault
front_fault bytes = fault_in (first_frame bytes)

-- at most so many frames of the bytes, given the one at their front
abbrev pub frames_by : ℕ → Option Frame → List ℕ → List Frame
frames_by zero front bytes = []
frames_by (suc n) None bytes = []
frames_by (suc n) (Some f) bytes = f ∷ frames_by n (front_frame (drop (frame_len f) bytes)) (drop (frame_len f) bytes)

-- the whole frames at the front of the bytes, one after another, up to less than a frame or a fault
unfoldable pub frames_in : List ℕ → List Frame
frames_in bytes = frames_by (length bytes) (front_frame bytes) bytes

-- how many bytes those frames are
unfoldable pub cut_len : List ℕ → ℕ
cut_len bytes = sum_by frame_len (frames_in bytes)

-- the bytes behind those frames
unfoldable pub left_of : List ℕ → List ℕ
left_of bytes = drop (cut_len bytes) bytes

-- of frames that are written one after another some bytes have come and the others are coming: the first frames came whole, and of the later ones there is less than a frame
pub record Parted (frames : List Frame) (come coming : List ℕ) : Type 0 where
  pub later : List Frame
  pub joined : frames ≡ frames_in come ++ later
  pub behind : left_of come ++ coming ≡ concat (map spelling later)
  pub waits : first_frame (left_of come) ≡ None
