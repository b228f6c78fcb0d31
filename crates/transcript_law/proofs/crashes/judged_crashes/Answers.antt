use Rattle.transcript_law.proofs.rows.CrashRows.{old, old_shown, new, new_lost, old_stat, old_counted, new_stat, new_uncounted, early, early_shown, filled, filled_otherwise, unwritten, unwritten_shown, taken_shown, written, written_lost, saved, saved_forgotten, undone, undone_forgotten, taken_lost, taken_survives, written_survives, own_log, log_lost, cut_log, cut_log_back}
use Rattle.transcript_law.proofs.crashes.judged_crashes.Goals as goal

pub returns : goal.returns
returns c = record {
  old = old;
  old_shown = old_shown;
  new = new;
  new_lost = new_lost;
  old_stat = old_stat;
  old_counted = old_counted;
  new_stat = new_stat;
  new_uncounted = new_uncounted;
  early = early;
  early_shown = early_shown;
  filled = filled;
  filled_otherwise = filled_otherwise;
  unwritten = unwritten;
  unwritten_shown = unwritten_shown;
  taken_shown = taken_shown;
  written = written;
  written_lost = written_lost;
  saved = saved;
  saved_forgotten = saved_forgotten;
  undone = undone;
  undone_forgotten = undone_forgotten;
  taken_lost = taken_lost;
  taken_survives = taken_survives;
  written_survives = written_survives;
  log = own_log;
  log_lost = log_lost;
  cut_log = cut_log;
  cut_log_back = cut_log_back;
}
