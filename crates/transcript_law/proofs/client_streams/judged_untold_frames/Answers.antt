use Rattle.transcript_law.proofs.rows.ClientStreamAnswers as rows
use Rattle.transcript_law.proofs.client_streams.judged_untold_frames.Goals as goal

pub returns : goal.returns
returns c = record {
  answer = rows.answer;
  unasked = rows.unasked;
  marker = rows.marker;
  item = rows.item;
  end = rows.end;
  nothing = rows.nothing;
  marker_back = rows.marker_back;
  item_back = rows.item_back;
  end_back = rows.end_back;
  nothing_back = rows.nothing_back;
}
