use Rattle.script_text.proofs.ReadLaws.{printed, one_holds, not_both, one_transcript, one_line}
use Rattle.script_text.proofs.read_laws.transcripts_read_back.Goals as goal

pub returns-clause-printed : goal.returns-clause-printed
returns-clause-printed c = printed

pub returns-clause-one : goal.returns-clause-one
returns-clause-one c = one_holds

pub returns-clause-not_both : goal.returns-clause-not_both
returns-clause-not_both c = not_both

pub returns-clause-one_transcript : goal.returns-clause-one_transcript
returns-clause-one_transcript c = one_transcript

pub returns-clause-one_line : goal.returns-clause-one_line
returns-clause-one_line c = one_line
