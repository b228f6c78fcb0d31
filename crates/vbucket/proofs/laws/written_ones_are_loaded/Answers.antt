use Rattle.vbucket.proofs.Rolling.{loads}
use Rattle.vbucket.proofs.laws.written_ones_are_loaded.Goals as goal
use Rattle.vbucket.proofs.Wholes.{loads_sound}

pub returns-clause-exactly : goal.returns-clause-exactly
returns-clause-exactly c = loads

pub returns-clause-sound : goal.returns-clause-sound
returns-clause-sound c = loads_sound
