use Rattle.transcript_law.proofs.messages.judged_controls.Goals as goal
use Rattle.transcript_law.proofs.rows.MessageRows.{controls_early, controls_early_set, controls_early_size, controls_early_size_set, controls_interval, controls_interval_refused, controls_interval_word, controls_interval_word_set, controls_interval_zero, controls_interval_zero_set, controls_long_name, controls_long_name_refused, controls_longer_name, controls_longer_name_set, controls_name, controls_name_refused, controls_no_key, controls_no_key_set, controls_no_name, controls_no_name_set, controls_no_size, controls_no_size_set, controls_no_sync, controls_no_sync_refused, controls_noop, controls_noop_number, controls_noop_number_set, controls_noop_refused, controls_size, controls_size_over, controls_size_over_set, controls_size_refused, controls_sync, controls_sync_refused, controls_sync_word, controls_sync_word_set, controls_unknown, controls_unknown_set}

pub returns : goal.returns
returns c = record {
  sync = controls_sync;
  sync_refused = controls_sync_refused;
  no_sync = controls_no_sync;
  no_sync_refused = controls_no_sync_refused;
  sync_word = controls_sync_word;
  sync_word_set = controls_sync_word_set;
  noop = controls_noop;
  noop_refused = controls_noop_refused;
  noop_number = controls_noop_number;
  noop_number_set = controls_noop_number_set;
  name = controls_name;
  name_refused = controls_name_refused;
  long_name = controls_long_name;
  long_name_refused = controls_long_name_refused;
  longer_name = controls_longer_name;
  longer_name_set = controls_longer_name_set;
  no_name = controls_no_name;
  no_name_set = controls_no_name_set;
  interval = controls_interval;
  interval_refused = controls_interval_refused;
  interval_zero = controls_interval_zero;
  interval_zero_set = controls_interval_zero_set;
  interval_word = controls_interval_word;
  interval_word_set = controls_interval_word_set;
  size = controls_size;
  size_refused = controls_size_refused;
  size_over = controls_size_over;
  size_over_set = controls_size_over_set;
  no_size = controls_no_size;
  no_size_set = controls_no_size_set;
  unknown = controls_unknown;
  unknown_set = controls_unknown_set;
  no_key = controls_no_key;
  no_key_set = controls_no_key_set;
  early = controls_early;
  early_set = controls_early_set;
  early_size = controls_early_size;
  early_size_set = controls_early_size_set;
}
