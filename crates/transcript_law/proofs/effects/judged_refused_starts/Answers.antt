use Rattle.transcript_law.proofs.rows.EffectRows.{adopts, adopts_node, adopts_vb, closed, failed, stopped, used, zero_id}
use Rattle.transcript_law.proofs.effects.judged_refused_starts.Goals as goal

pub returns : goal.returns
returns c = record {
  used = used;
  zero = zero_id;
  failed = failed;
  stopped = stopped;
  closed = closed;
  adopts = adopts;
  adopts_node = adopts_node;
  adopts_vb = adopts_vb;
}
