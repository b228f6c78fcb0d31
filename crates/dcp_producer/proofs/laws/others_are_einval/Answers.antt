use Rattle.dcp_producer.proofs.Weighing.{other_opcode, wrong_parts}
use Rattle.dcp_producer.proofs.laws.others_are_einval.Goals as goal

pub returns-clause-opcode : goal.returns-clause-opcode
returns-clause-opcode c = other_opcode

pub returns-clause-parts : goal.returns-clause-parts
returns-clause-parts c = λ f fault s. wrong_parts f s fault
