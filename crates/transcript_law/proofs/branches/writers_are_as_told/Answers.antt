use Rattle.transcript_law.proofs.invariant.{Known.{script_known}, Prefixes.{branches_followed}, Writers.{writes_as_told}}
use Rattle.transcript_law.proofs.Words.{known_of, world_of}
use Rattle.transcript_law.proofs.branches.writers_are_as_told.Goals as goal

pub returns : goal.returns
returns c = λ script fits. writes_as_told (world_of script) (known_of script) (branches_followed script fits) (script_known script fits)
