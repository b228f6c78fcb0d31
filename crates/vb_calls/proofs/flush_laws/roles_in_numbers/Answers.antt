use Rattle.vb_calls.proofs.RolesNoted.{roles_noted}
use Rattle.vb_calls.proofs.flush_laws.roles_in_numbers.Goals as goal

pub returns : goal.returns
returns c = roles_noted
