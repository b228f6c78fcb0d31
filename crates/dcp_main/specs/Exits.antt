-- the numbers that the process ends with
use Rattle.std.specs.Prelude.{◌≡◌, ℕ, ◌<◌, ◌⊎◌, List, ◌++◌, length, codes, decimal}
use Rattle.std.specs.Io.KnownBytes.{Appends, Consumes, IsAtEnd}
use Rattle.dcp_io.specs.Counts.{Rose}
use Rattle.dcp_io.specs.Moves.{Intake, Outlet, WrotePart}
use Rattle.node_world.specs.World.{groups}
use Rattle.script_gen.specs.Scripts.{gen_script}
use Rattle.storm_model.specs.Texts.{storm_text}
use Rattle.script_text.specs.Scripts.{FirstBad, IsScript}
use Rattle.script_text.specs.Transcript.{print_of}
use Rattle.script_text.specs.declared.verb.ScriptLine.{ScriptLine}
use Rattle.dcp_main.specs.Runs.{Completed, BadLineTold, Made}
use Rattle.dcp_main.specs.Summaries.{summary_text}

-- the whole input was read, and a front part was written of what it asks for: of the print of its script's groups, or, where a
-- line is outside the grammar, of the message on the first such line
abbrev pub WritesFront : Intake → Intake → Outlet → Outlet → Type 0
WritesFront old new before after = (bytes text : List ℕ) × Consumes old.left new.left bytes × IsAtEnd new.left × WrotePart before.held after.held text
    × (((script : List ScriptLine) × IsScript bytes script × (text ≡ print_of (groups script)))
    ⊎ ((line : ℕ) × FirstBad bytes line × (text ≡ codes "bad line " ++ (decimal line ++ codes "\n"))))

-- What the number tells of a run of a script: 0 that the whole script was read, and the whole transcript written; 3 that a line is bad,
-- and the first such line was told; 4 that the input failed, and 5 the output; 6 that memory was short, and neither failed; 11 that
-- more than 268,435,456 bytes were taken. At 4 and 11 nothing was written, and at 5 and 6 no more than a front part of what was to be.
abbrev pub TellsRun : ℕ → Intake → Intake → Outlet → Outlet → Type 0
TellsRun number old new before after =
    ((number ≡ 0) × Completed old new before after)
    ⊎ (((number ≡ 3) × BadLineTold old new before after)
    ⊎ (((number ≡ 4) × Rose old.faults new.faults × (after ≡ before))
    ⊎ (((number ≡ 5) × (new.faults ≡ old.faults) × Rose before.faults after.faults × WritesFront old new before after)
    ⊎ (((number ≡ 6) × (new.faults ≡ old.faults) × (after.faults ≡ before.faults) × ((after ≡ before) ⊎ WritesFront old new before after))
    ⊎ ((number ≡ 11) × (new.faults ≡ old.faults) × (after ≡ before)
    × ((bytes : List ℕ) × Consumes old.left new.left bytes × (268435456 < length bytes)))))))

-- What the number tells of a script that was made and run: 0 that exactly the lines on it were written, and that its transcript is lawful; 5 that the
-- output failed, and 6 that memory was short, after a front part of them. Nothing was read.
abbrev pub TellsMade : ℕ → ℕ → ℕ → Intake → Intake → Outlet → Outlet → Type 0
TellsMade number seed count old new before after =
    ((number ≡ 0) × (new ≡ old) × Made seed count before after)
    ⊎ (((number ≡ 5) × (new ≡ old) × WrotePart before.held after.held (summary_text (gen_script seed count)) × Rose before.faults after.faults)
    ⊎ ((number ≡ 6) × (new ≡ old) × WrotePart before.held after.held (summary_text (gen_script seed count)) × (after.faults ≡ before.faults)))

-- What the number tells of a storm that was run: 0 that exactly its lines were written; 5 that the output failed, and 6 that memory was
-- short, after a front part of them.
abbrev pub TellsStorm : ℕ → ℕ → ℕ → ℕ → Outlet → Outlet → Type 0
TellsStorm number seed clients writes before after =
    ((number ≡ 0) × Appends before.held after.held (storm_text seed clients writes) × (after.faults ≡ before.faults))
    ⊎ (((number ≡ 5) × WrotePart before.held after.held (storm_text seed clients writes) × Rose before.faults after.faults)
    ⊎ ((number ≡ 6) × WrotePart before.held after.held (storm_text seed clients writes) × (after.faults ≡ before.faults)))

-- What the number tells of words that the program has not: 2 that the usage line was written; 5 that the output failed, and 6 that
-- memory was short, after a front part of the line.
abbrev pub TellsUsage : ℕ → Outlet → Outlet → Type 0
TellsUsage number before after =
    ((number ≡ 2) × Appends before.held after.held (codes "usage: dcp_main run | gen SEED COUNT | storm SEED CLIENTS WRITES\n") × (after.faults ≡ before.faults))
    ⊎ (((number ≡ 5) × WrotePart before.held after.held (codes "usage: dcp_main run | gen SEED COUNT | storm SEED CLIENTS WRITES\n") × Rose before.faults after.faults)
    ⊎ ((number ≡ 6) × WrotePart before.held after.held (codes "usage: dcp_main run | gen SEED COUNT | storm SEED CLIENTS WRITES\n") × (after.faults ≡ before.faults)))
