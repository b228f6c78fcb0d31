use Rattle.transcript_law.proofs.rows.EndRows as rows
use Rattle.transcript_law.proofs.told_ends.judged_open_links.Goals as goal

pub returns : goal.returns
returns c = record {
  up = rows.up;
  pump = rows.pump;
  cut = rows.cut_carried;
  down = rows.down;
  down_node = rows.down_node;
  down_others = rows.down_others;
  up_carried = rows.up_carried;
  again = rows.again;
  fed = rows.fed;
  beside = rows.beside;
  beside_node = rows.beside_node;
  again_open = rows.again_open;
  fed_open = rows.fed_open;
  beside_open = rows.beside_open;
  beside_node_open = rows.beside_node_open;
}
