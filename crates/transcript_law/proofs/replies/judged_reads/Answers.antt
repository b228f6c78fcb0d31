use Rattle.transcript_law.proofs.rows.AnswerReads as rows
use Rattle.transcript_law.proofs.replies.judged_reads.Goals as goal

pub returns : goal.returns
returns c = record {
  found = rows.found;
  value = rows.value;
  cas = rows.cas;
  key = rows.key;
  newest = rows.newest;
  older = rows.older;
  prepare = rows.prepare;
  beside_prepare = rows.beside_prepare;
  nothing_undone = rows.nothing_undone;
  none = rows.none;
  not_none = rows.not_none;
  away = rows.away;
  away_found = rows.away_found;
  unmade = rows.unmade;
  unmade_found = rows.unmade_found;
  active = rows.active;
  raw = rows.raw;
  raw_json = rows.raw_json;
  json = rows.json;
  json_raw = rows.json_raw;
  behind_set = rows.behind_set;
}
