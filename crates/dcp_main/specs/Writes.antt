-- what became of a line, and of the text of its group
use Rattle.std.specs.Prelude.{◌≡◌, ◌<◌, ℕ, Bool, true, false, List, [], ◌∷◌, ◌++◌, length, Result, Ok, Err}
use Rattle.std.specs.List.{All}
use Rattle.dcp_io.specs.Moves.{Outlet}
use Rattle.dcp_io.specs.Writes.{Stopped, WroteAll}
use Rattle.dcp_io.specs.declared.status.Status.{Status}
use Rattle.node_world.specs.World.{PlainWorld, groups_from, world_step}
use Rattle.node_world.specs.Rests.{Rests}
use Rattle.node_world.specs.Stands.{Kept, WorldStands}
use Rattle.script_text.specs.Held.{IsGroupHeld}
use Rattle.script_text.specs.Transcript.{group_text, print_of}
use Rattle.script_text.specs.declared.verb.ScriptLine.{ScriptLine}

-- what is still to be written: the text that waits, and that of the groups of the lines that are left
abbrev pub to_write : List ℕ → PlainWorld → List ScriptLine → List ℕ
to_write waits w left = waits ++ print_of (groups_from w left)

-- the first line was carried out, no arm is over a disk then, and the text of its group, which is held, waits behind the other; or no line is left
abbrev pub LineTold : PlainWorld → List ScriptLine → List ScriptLine → Kept → Kept → List ℕ → List ℕ → Bool → Type 0
LineTold w lines left before kept waited waits true =
    (line : ScriptLine) × (lines ≡ line ∷ left) × WorldStands kept (world_step w line).0 × Rests (world_step w line).0
    × (waits ≡ waited ++ group_text (world_step w line).1) × IsGroupHeld (world_step w line).1
LineTold w lines left before kept waited waits false = (lines ≡ []) × (left ≡ []) × (kept ≡ before) × (waits ≡ waited)

-- of a text a front part was written, and the rest of it waits
abbrev pub WroteBut : Outlet → Outlet → List ℕ → List ℕ → Type 0
WroteBut old new text waits = (part : List ℕ) × WroteAll old new part × (part ++ waits ≡ text)

-- so it is with the text that waited, or writing it stopped
abbrev pub PieceWrote : List ℕ → List ℕ → Outlet → Outlet → Result (Unit {0}) Status → Type 0
PieceWrote waited waits old new (Ok u) = WroteBut old new waited waits
PieceWrote waited waits old new (Err stop) = Stopped old new waited stop

-- a line less is left, or none
abbrev pub IsLess : List ScriptLine → List ScriptLine → Bool → Type 0
IsLess lines left true = length left < length lines
IsLess lines left false = left ≡ []

-- where the groups that are left are held, all were
abbrev pub HoldOn : PlainWorld → List ScriptLine → PlainWorld → List ScriptLine → Type 0
HoldOn w lines after left = All IsGroupHeld (groups_from after left) → All IsGroupHeld (groups_from w lines)

-- the world that is kept stands for one in which no arm is over a disk; of what was to be written a front part was written, of groups that
-- are held, and the rest is still to be written
abbrev pub LineWrote : PlainWorld → List ScriptLine → List ScriptLine → Kept → List ℕ → List ℕ → Outlet → Outlet → Result Bool Status → Type 0
LineWrote w lines left kept waited waits old new (Ok more) =
    (after : PlainWorld) × WorldStands kept after × Rests after × IsLess lines left more × HoldOn w lines after left
    × WroteBut old new (to_write waited w lines) (to_write waits after left)
LineWrote w lines left kept waited waits old new (Err stop) = Stopped old new (to_write waited w lines) stop
