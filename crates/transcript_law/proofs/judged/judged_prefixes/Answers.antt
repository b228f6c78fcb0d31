use Rattle.transcript_law.proofs.rows.Followers.{continues, dead_continues, dead_refuses, dead_rolls, rolls, stranger, rolls_stranger}
use Rattle.transcript_law.proofs.judged.judged_prefixes.Goals as goal

pub returns : goal.returns
returns c = record {
  continues = continues;
  rolls = rolls;
  stranger = stranger;
  rolls_stranger = rolls_stranger;
  dead_continues = dead_continues;
  dead_rolls = dead_rolls;
  dead_refuses = dead_refuses;
}
