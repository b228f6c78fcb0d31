use Rattle.transcript_law.proofs.rows.ClientStreamRefusals as rows
use Rattle.transcript_law.proofs.client_streams.judged_client_refusals.Goals as goal

pub returns : goal.returns
returns c = record {
  away = rows.away;
  away_held = rows.away_held;
  away_order = rows.away_order;
  active = rows.active;
  held_away = rows.held_away;
  held_order = rows.held_order;
  outside = rows.outside;
  outside_away = rows.outside_away;
  end_goes = rows.end_goes;
  end_rolls = rows.end_rolls;
  below_goes = rows.below_goes;
  below_rolls = rows.below_rolls;
  above_goes = rows.above_goes;
  above_rolls = rows.above_rolls;
  in_order = rows.in_order;
  numbered = rows.numbered;
  unspent = rows.unspent;
}
