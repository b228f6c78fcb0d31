use Rattle.vb_types.proofs.Levels.{numbered, unnumbered}
use Rattle.vb_types.proofs.vb_laws.levels_in_numbers.Goals as goal

pub returns-clause-of : goal.returns-clause-of
returns-clause-of c = numbered

pub returns-clause-none : goal.returns-clause-none
returns-clause-none c = unnumbered
