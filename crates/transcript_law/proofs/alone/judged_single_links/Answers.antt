use Rattle.transcript_law.proofs.rows.AloneRows.{asked, asked_elsewhere, back, back_node, back_vb, range, range_anywhere, range_node, range_vb, range_below, range_unended, range_short, got_node, got_vb, got_held, got_value, dead, active, counted, counted_node, counted_vb}
use Rattle.transcript_law.proofs.alone.judged_single_links.Goals as goal

pub returns : goal.returns
returns c = record {
  asked = asked;
  asked_elsewhere = asked_elsewhere;
  back = back;
  back_node = back_node;
  back_vb = back_vb;
  range = range;
  range_anywhere = range_anywhere;
  range_node = range_node;
  range_vb = range_vb;
  range_below = range_below;
  range_unended = range_unended;
  range_short = range_short;
  got_node = got_node;
  got_vb = got_vb;
  got_held = got_held;
  got_value = got_value;
  dead = dead;
  active = active;
  counted = counted;
  counted_node = counted_node;
  counted_vb = counted_vb;
}
