use Rattle.transcript_law.proofs.rows.ClientStreamFrames as rows
use Rattle.transcript_law.proofs.client_streams.judged_client_spellings.Goals as goal

pub returns : goal.returns
returns c = record {
  marker = rows.marker;
  end = rows.end;
  refused = rows.refused;
  log = rows.log;
}
