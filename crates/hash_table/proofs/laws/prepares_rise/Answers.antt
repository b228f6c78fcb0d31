use Rattle.hash_table.proofs.Listed.{seqnos_rise}
use Rattle.hash_table.proofs.laws.prepares_rise.Goals as goal

pub returns : goal.returns
returns c = seqnos_rise
