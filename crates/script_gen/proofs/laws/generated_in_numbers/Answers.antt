use Rattle.script_gen.proofs.Rows.{edges, first_step, one_write, removal, six_lines}
use Rattle.script_gen.proofs.laws.generated_in_numbers.Goals as goal

pub returns : goal.returns
returns c = record { step = first_step; edges = edges; removal = removal; one = one_write; six = six_lines }
