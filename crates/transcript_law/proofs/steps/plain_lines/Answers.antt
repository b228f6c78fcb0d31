use Rattle.transcript_law.proofs.{Runs.{refused_keep}, verbs.LineAnswers.{shows, turns_told}}
use Rattle.transcript_law.proofs.steps.plain_lines.Goals as goal

pub returns : goal.returns
returns c = record { shown = shows; refused = refused_keep; told = turns_told }
