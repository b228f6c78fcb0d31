use Rattle.transcript_law.proofs.rows.RefusalRows.{tells_nothing}
use Rattle.transcript_law.proofs.untold.judged_refusals.Goals as goal
use Rattle.vb_events.specs.declared.event.Cause.TheVariants as cause

pub returns : goal.returns
returns c = record {
  unknown_node = tells_nothing cause.UnknownNode tt;
  node_exists = tells_nothing cause.NodeExists tt;
  unknown_vb = tells_nothing cause.UnknownVb tt;
  vb_exists = tells_nothing cause.VbExists tt;
  limit = tells_nothing cause.Limit tt;
  uuid_zero = tells_nothing cause.UuidZero tt;
  uuid_used = tells_nothing cause.UuidUsed tt;
  wrong_role = tells_nothing cause.WrongRole tt;
  chain_bad = tells_nothing cause.ChainBad tt;
  link_open = tells_nothing cause.LinkOpen tt;
  link_closed = tells_nothing cause.LinkClosed tt;
  batch_out = tells_nothing cause.BatchOut tt;
  nothing_taken = tells_nothing cause.NothingTaken tt;
  node_up = tells_nothing cause.NodeUp tt;
  node_down = tells_nothing cause.NodeDown tt;
}
