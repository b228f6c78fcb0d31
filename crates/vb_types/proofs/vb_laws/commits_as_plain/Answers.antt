use Rattle.vb_types.proofs.Folds as folds
use Rattle.vb_types.proofs.vb_laws.commits_as_plain.Goals as goal

pub returns : goal.returns
returns c = folds.commits_as_plain
