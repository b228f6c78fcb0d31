use Rattle.script_text.proofs.LineWords.{answer_takes, event_takes}
use Rattle.script_text.proofs.ReadLaws.{counted}
use Rattle.script_text.proofs.read_laws.events_are_lines.Goals as goal

pub returns-clause-event : goal.returns-clause-event
returns-clause-event c = λ e h. (event_takes e h).plain

pub returns-clause-answer : goal.returns-clause-answer
returns-clause-answer c = λ a h. (answer_takes a h).plain

pub returns-clause-counted : goal.returns-clause-counted
returns-clause-counted c = counted
