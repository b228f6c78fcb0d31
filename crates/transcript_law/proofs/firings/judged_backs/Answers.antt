use Rattle.transcript_law.proofs.rows.FiredRows.{own, other_own, another, both, again, in_bytes, in_up, in_seal, in_save}
use Rattle.transcript_law.proofs.firings.judged_backs.Goals as goal

pub returns : goal.returns
returns c = record {
  own = own;
  other_own = other_own;
  another = another;
  both = both;
  again = again;
  in_bytes = in_bytes;
  in_up = in_up;
  in_seal = in_seal;
  in_save = in_save;
}
