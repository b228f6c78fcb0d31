use Rattle.vbucket.proofs.LastCas.{never_falls}
use Rattle.vbucket.proofs.Soundness.{starts, stays}
use Rattle.vbucket.proofs.laws.stays_sound.Goals as goal

pub returns-clause-made : goal.returns-clause-made
returns-clause-made c = starts

pub returns-clause-stays : goal.returns-clause-stays
returns-clause-stays c = stays

pub returns-clause-cas : goal.returns-clause-cas
returns-clause-cas c = never_falls
