-- which failover logs a producer may answer
use Rattle.std.specs.Prelude.{◌≡◌, ◌↔◌, ◌≤◌, true, List, length}
use Rattle.vb_types.specs.declared.role.LogEntry.{LogEntry}
use Rattle.vb_types.specs.declared.position.TheConstants.{MAX_SEQ}
use Rattle.branch_model.specs.Logs.{log_limit, Lacks, Distinct, Falls}
use Rattle.vb_calls.specs.Following.{is_answerable}

-- 1 to 25 entries, of branches other than 0 that all differ, with seqnos that do not rise with age and are at most 2 ^ 48
pub record IsAnswerable (log : List LogEntry) : Type 0 where
  pub some : 1 ≤ length log
  pub short : length log ≤ log_limit
  pub branches : Lacks log 0
  pub distinct : Distinct log
  pub falls : Falls log MAX_SEQ

-- a log is adopted exactly where it is one of these
abbrev pub AnswerableExactly : Type 0
AnswerableExactly = (log : List LogEntry) → (is_answerable log ≡ true) ↔ IsAnswerable log
