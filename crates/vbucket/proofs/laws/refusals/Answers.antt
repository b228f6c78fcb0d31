use Rattle.vbucket.proofs.ReadingKeys.{reads}
use Rattle.vbucket.proofs.Reasons.{foreign, full, again, pending, present, absent}
use Rattle.vbucket.proofs.Refusing.{keeps}
use Rattle.vbucket.proofs.laws.refusals.Goals as goal

pub returns-clause-keep : goal.returns-clause-keep
returns-clause-keep c = keeps

pub returns-clause-foreign : goal.returns-clause-foreign
returns-clause-foreign c = foreign

pub returns-clause-full : goal.returns-clause-full
returns-clause-full c = full

pub returns-clause-again : goal.returns-clause-again
returns-clause-again c = again

pub returns-clause-pending : goal.returns-clause-pending
returns-clause-pending c = pending

pub returns-clause-present : goal.returns-clause-present
returns-clause-present c = present

pub returns-clause-absent : goal.returns-clause-absent
returns-clause-absent c = absent

pub returns-clause-reads : goal.returns-clause-reads
returns-clause-reads c = reads
