use Rattle.transcript_law.proofs.rows.AloneRows.{item, item_behind, item_unbegun, item_below, item_act, ungranted, missing, more}
use Rattle.transcript_law.proofs.alone.judged_single_streams.Goals as goal

pub returns : goal.returns
returns c = record {
  item = item;
  item_behind = item_behind;
  item_unbegun = item_unbegun;
  item_below = item_below;
  item_act = item_act;
  ungranted = ungranted;
  missing = missing;
  more = more;
}
