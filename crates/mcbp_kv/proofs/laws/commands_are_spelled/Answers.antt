use Rattle.mcbp_kv.proofs.Commands.{spelled_is_read, command_is_spelled}
use Rattle.mcbp_kv.proofs.laws.commands_are_spelled.Goals as goal

pub returns-clause-read : goal.returns-clause-read
returns-clause-read c = spelled_is_read

pub returns-clause-spelled : goal.returns-clause-spelled
returns-clause-spelled c = command_is_spelled
