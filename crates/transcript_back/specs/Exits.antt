-- the numbers that the process ends with
use Rattle.std.specs.Prelude.{◌≡◌, ℕ, ◌+◌, ◌≤◌, ◌<◌, ◌⊎◌, ◌==◌, List, ◌++◌, length, codes, decimal}
use Rattle.std.specs.List.{count_by}
use Rattle.std.specs.Io.KnownBytes.{Appends, Consumes, IsAtEnd}
use Rattle.dcp_io.specs.Counts.{Rose}
use Rattle.dcp_io.specs.Moves.{Intake, Outlet, WrotePart}
use Rattle.script_text.specs.ReadBack.{IsTranscript}
use Rattle.script_text.specs.Transcript.{print_of}
use Rattle.vb_events.specs.declared.event.Group.{Group}

-- the whole input was these bytes
abbrev pub WasRead : Intake → Intake → List ℕ → Type 0
WasRead old new bytes = Consumes old.left new.left bytes × IsAtEnd new.left × (length bytes ≤ 268435456) × (new.faults ≡ old.faults)

-- what was read is what print makes of some groups, and was written once more
abbrev pub Again : Intake → Intake → Outlet → Outlet → Type 0
Again old new before after = (bytes : List ℕ) × (groups : List Group) × WasRead old new bytes × (bytes ≡ print_of groups)
    × Appends before.held after.held bytes × (after.faults ≡ before.faults)

-- what was read is no transcript, and a line was told, which is one that ends with a newline, or the next one
abbrev pub Refused : Intake → Intake → Outlet → Outlet → Type 0
Refused old new before after = (bytes : List ℕ) × (line : ℕ) × WasRead old new bytes × ((groups : List Group) → ¬ IsTranscript bytes groups)
    × (line ≤ count_by (λ b. b == 10) bytes + 1)
    × Appends before.held after.held (codes "bad line " ++ (decimal line ++ codes "\n")) × (after.faults ≡ before.faults)

-- the whole input was read, and a front part was written: of what was read, or, where that is no transcript, of the message on a line
abbrev pub WritesFront : Intake → Intake → Outlet → Outlet → Type 0
WritesFront old new before after = (bytes : List ℕ) × WasRead old new bytes
    × (WrotePart before.held after.held bytes
    ⊎ (((groups : List Group) → ¬ IsTranscript bytes groups)
    × ((line : ℕ) × WrotePart before.held after.held (codes "bad line " ++ (decimal line ++ codes "\n")))))

-- What the number tells: 0 that a transcript was read, and written once more; 3 that what was read is none, and a line was told; 4 that
-- the input failed, and 5 the output; 6 that memory was short, and neither failed; 11 that more than 268,435,456 bytes were taken. At 4
-- and 11 nothing was written, and at 5 and 6 no more than a front part of what was to be.
abbrev pub Tells : ℕ → Intake → Intake → Outlet → Outlet → Type 0
Tells number old new before after =
    ((number ≡ 0) × Again old new before after)
    ⊎ (((number ≡ 3) × Refused old new before after)
    ⊎ (((number ≡ 4) × Rose old.faults new.faults × (after ≡ before))
    ⊎ (((number ≡ 5) × (new.faults ≡ old.faults) × Rose before.faults after.faults × WritesFront old new before after)
    ⊎ (((number ≡ 6) × (new.faults ≡ old.faults) × (after.faults ≡ before.faults) × ((after ≡ before) ⊎ WritesFront old new before after))
    ⊎ ((number ≡ 11) × (new.faults ≡ old.faults) × (after ≡ before)
    × ((bytes : List ℕ) × Consumes old.left new.left bytes × (268435456 < length bytes)))))))
