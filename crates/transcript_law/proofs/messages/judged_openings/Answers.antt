use Rattle.transcript_law.proofs.messages.judged_openings.Goals as goal
use Rattle.transcript_law.proofs.rows.MessageRows.{openings_again, openings_again_consumer, openings_again_opens, openings_again_unsupported, openings_consumer, openings_consumer_opens, openings_consumer_refused, openings_flags, openings_flags_open, openings_more_flags, openings_more_flags_open, openings_opens, openings_opens_refused, openings_opens_unsupported}

pub returns : goal.returns
returns c = record {
  opens = openings_opens;
  opens_refused = openings_opens_refused;
  opens_unsupported = openings_opens_unsupported;
  consumer = openings_consumer;
  consumer_opens = openings_consumer_opens;
  consumer_refused = openings_consumer_refused;
  flags = openings_flags;
  flags_open = openings_flags_open;
  more_flags = openings_more_flags;
  more_flags_open = openings_more_flags_open;
  again = openings_again;
  again_opens = openings_again_opens;
  again_consumer = openings_again_consumer;
  again_unsupported = openings_again_unsupported;
}
