use Rattle.std.proofs.Common.{sym, subst}
use Rattle.dcp_producer.specs.FirstMarkers.{MarksFirst}
use Rattle.dcp_producer.specs.Frames.{taken_next}
use Rattle.dcp_producer.proofs.Firsts.{marks_first, means_first}
use Rattle.dcp_producer.proofs.laws.first_markers.Goals as goal

pub returns-clause-begins : goal.returns-clause-begins
returns-clause-begins c = λ id f ask sync from. means_first ask

pub returns-clause-sent : goal.returns-clause-sent
returns-clause-sent c = λ name stream snapshot reply is. subst (λ said. MarksFirst name stream snapshot (taken_next name stream said)) (sym is) (marks_first stream snapshot name)
