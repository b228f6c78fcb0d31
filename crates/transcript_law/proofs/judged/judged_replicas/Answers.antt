use Rattle.transcript_law.proofs.rows.Followers.{adopts, adopted, stranger_takes, ended, again, right, more, missing, another, onward, onward_none}
use Rattle.transcript_law.proofs.judged.judged_replicas.Goals as goal

pub returns : goal.returns
returns c = record {
  adopts = adopts;
  adopted = adopted;
  taker = stranger_takes;
  ended = ended;
  again = again;
  right = right;
  more = more;
  missing = missing;
  another = another;
  onward = onward;
  onward_none = onward_none;
}
