-- what holds of the transcript of a script that was read
use Rattle.transcript_law.proofs.Words.{ℕ, List, ScriptLine, ScriptFits, groups, Lawful, AreFollowed, known_of, world_of, IsScript, lines_fit}
use Rattle.transcript_law.proofs.invariant.Prefixes.{branches_followed}
use Rattle.transcript_law.proofs.Runs.{lawful}
use Rattle.transcript_law.proofs.Checking.{passes}
use Rattle.transcript_law.specs.Checked.{Checked}

-- the transcript of a script whose lines are in the grammar's limits
pub scripts_are_lawful : (script : List ScriptLine) → ScriptFits script → Lawful script (groups script)
scripts_are_lawful script fits = lawful script fits

-- and of one that was read
pub read_is_lawful : (bytes : List ℕ) (script : List ScriptLine) → IsScript bytes script → Lawful script (groups script)
read_is_lawful bytes script said = scripts_are_lawful script (lines_fit bytes script said)

-- so it passes a checker
pub read_passes : (bytes : List ℕ) (script : List ScriptLine) → IsScript bytes script → Checked script (groups script)
read_passes bytes script said = passes script (groups script) (read_is_lawful bytes script said)

-- what that script leaves: each vBucket follows its branch
pub read_is_followed : (bytes : List ℕ) (script : List ScriptLine) → IsScript bytes script → AreFollowed (known_of script) (world_of script)
read_is_followed bytes script said = branches_followed script (lines_fit bytes script said)
