use Rattle.transcript_law.proofs.Words.{[], refl, Answer, Role, StreamName, Why}
use Rattle.transcript_law.proofs.rows.{StateRows.{none_here}, UndoneRows.{all_put}}
use Rattle.transcript_law.specs.{Followers.{both_sent_lines}, StateRows.{pumps}, UndoneRows.{granted_both}}
use Rattle.transcript_law.proofs.states.judged_states.Goals as goal

pub returns : goal.returns
returns c = record {
  none = all_put;
  pending = λ l. none_here granted_both (pumps 1) both_sent_lines [] (StreamName.Link 1) Role.Pending (Answer.Pulled 4 Why.Idle) (λ k. refl) l;
  active = λ l. none_here granted_both (pumps 1) both_sent_lines [] (StreamName.Link 1) Role.Active (Answer.Pulled 4 Why.Idle) (λ k. refl) l;
  any = λ chronicle none asked front behind stream put said l. none_here chronicle asked front behind stream put said none l;
  checked = λ chronicle n k put behind l. l;
  unfed = λ put behind (g, (v, is, none), rule). cc;
}
