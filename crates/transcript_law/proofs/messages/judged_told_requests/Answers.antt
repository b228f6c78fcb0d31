use Rattle.transcript_law.proofs.messages.judged_told_requests.Goals as goal
use Rattle.transcript_law.proofs.rows.MessageAnswers.{told_requests_before_its_line, told_requests_before_with_more, told_requests_behind_its_line, told_requests_told, told_requests_untold, told_requests_with_more}

pub returns : goal.returns
returns c = record {
  told = told_requests_told;
  untold = told_requests_untold;
  behind_its_line = told_requests_behind_its_line;
  with_more = told_requests_with_more;
  before_its_line = told_requests_before_its_line;
  before_with_more = told_requests_before_with_more;
}
