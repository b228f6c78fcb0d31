use Rattle.dcp_main.proofs.Showing.{few_told, three_told}
use Rattle.dcp_main.proofs.laws.summaries_in_letters.Goals as goal

pub returns : goal.returns
returns c = record { three = three_told; few = few_told }
