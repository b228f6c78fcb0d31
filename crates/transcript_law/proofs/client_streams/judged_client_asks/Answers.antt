use Rattle.transcript_law.proofs.rows.ClientStreamAsks as rows
use Rattle.transcript_law.proofs.client_streams.judged_client_asks.Goals as goal

pub returns : goal.returns
returns c = record {
  go = rows.go;
  end = rows.end;
  start = rows.start;
  vb = rows.vb;
  elsewhere = rows.elsewhere;
  unframed = rows.unframed;
  opaque = rows.opaque;
  unsent = rows.unsent;
  part = rows.part;
  again = rows.again;
  before_open = rows.before_open;
  refused_before = rows.refused_before;
  opened = rows.opened;
  takeover = rows.takeover;
  refused_takeover = rows.refused_takeover;
  held = rows.held;
  refused_held = rows.refused_held;
  closed = rows.closed;
  other_closed = rows.other_closed;
  over = rows.over;
  resumes = rows.resumes;
  pieces = rows.pieces;
  newest = rows.newest;
}
