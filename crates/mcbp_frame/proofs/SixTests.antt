-- what bytes begin with, by its six tests
use Rattle.std.proofs.Common.{◌≡◌, ℕ, ◌+◌, Bool, List, length, refl, cond}
use Rattle.std.specs.Prelude.{Option, Some, None, Result, Ok, Err, slice_index, nat_lt, ◌==◌, not}
use Rattle.mcbp_frame.specs.declared.frame.Frame.{Frame}
use Rattle.mcbp_frame.specs.declared.frame.FrameFault.{FrameFault}
use Rattle.mcbp_frame.specs.declared.frame.FrameFault.TheVariants as fault
use Rattle.mcbp_frame.specs.Frames.{is_magic, first_frame, body_len, parts_len, frame_of}

-- the answer by the tests: no byte, a known first byte, less than a header, a body that is too long, parts that are, a body that is not there
abbrev pub picked : Bool → Bool → Bool → Bool → Bool → Bool → Frame → Option (Result Frame FrameFault)
picked empty known short long bad missing f =
    cond empty None (cond (not known) (Some (Err fault.BadMagic)) (cond short None (cond long (Some (Err fault.BodyTooLong)) (cond bad (Some (Err fault.BadLengths)) (cond missing None (Some (Ok f)))))))

abbrev pub is_empty : List ℕ → Bool
is_empty bytes = length bytes == 0

abbrev pub is_short : List ℕ → Bool
is_short bytes = nat_lt (length bytes) 24

abbrev pub is_long : List ℕ → Bool
is_long bytes = nat_lt 22020096 (body_len bytes)

abbrev pub is_bad : List ℕ → Bool
is_bad bytes = nat_lt (body_len bytes) (parts_len bytes)

abbrev pub is_missing : List ℕ → Bool
is_missing bytes = nat_lt (length bytes) (24 + body_len bytes)

pub is_picked : (bytes : List ℕ)
    → first_frame bytes ≡ picked (is_empty bytes) (is_magic (slice_index bytes 0)) (is_short bytes) (is_long bytes) (is_bad bytes) (is_missing bytes) (frame_of bytes)
unfolding first_frame
is_picked bytes = refl
