use Rattle.transcript_law.proofs.rows.CrashRows.{branched, no_branch, other_branch, short, short_active, old_branch_shown, dead, dead_replica, dead_active, unnoted, unnoted_dead, unnoted_silent, found, found_active, on_new, on_old, commits, commits_on_old, commits_early, commits_other, unmade, unmade_shown, late, late_shown}
use Rattle.transcript_law.proofs.crashes.judged_restarts.Goals as goal

pub returns : goal.returns
returns c = record {
  branch = branched;
  no_branch = no_branch;
  other_branch = other_branch;
  short = short;
  short_active = short_active;
  old_branch_shown = old_branch_shown;
  dead = dead;
  dead_replica = dead_replica;
  dead_active = dead_active;
  unnoted = unnoted;
  unnoted_dead = unnoted_dead;
  unnoted_silent = unnoted_silent;
  found = found;
  found_active = found_active;
  on_new = on_new;
  on_old = on_old;
  commits = commits;
  commits_on_old = commits_on_old;
  commits_early = commits_early;
  commits_other = commits_other;
  unmade = unmade;
  unmade_shown = unmade_shown;
  late = late;
  late_shown = late_shown;
}
