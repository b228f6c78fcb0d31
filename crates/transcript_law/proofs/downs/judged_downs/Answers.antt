use Rattle.transcript_law.proofs.rows.DownRows.{shown_down, shows, unknown, tells, promotes, makes, opens, dials, crashes_twice, made_twice, started_up, starts_up, starts_twice, crashes_again, starts_down, stays_down, short_tells, enough, nonzero, short_again, next_item, of_producer, of_consumer, closed, pumps, takes}
use Rattle.transcript_law.proofs.downs.judged_downs.Goals as goal

pub returns : goal.returns
returns c = record {
  shown_down = shown_down;
  shows = shows;
  unknown = unknown;
  tells = tells;
  promotes = promotes;
  makes = makes;
  opens = opens;
  dials = dials;
  crashes_twice = crashes_twice;
  made_twice = made_twice;
  started_up = started_up;
  starts_up = starts_up;
  starts_twice = starts_twice;
  crashes_again = crashes_again;
  starts_down = starts_down;
  stays_down = stays_down;
  short_tells = short_tells;
  enough = enough;
  nonzero = nonzero;
  short_again = short_again;
  next_item = next_item;
  of_producer = of_producer;
  of_consumer = of_consumer;
  closed = closed;
  pumps = pumps;
  takes = takes;
}
