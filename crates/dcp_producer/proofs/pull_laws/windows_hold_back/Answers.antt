use Rattle.dcp_producer.proofs.Pulling.{pulls_hold_back, pulls_shut, full_line}
use Rattle.dcp_producer.proofs.pull_laws.windows_hold_back.Goals as goal

pub returns-clause-pull : goal.returns-clause-pull
returns-clause-pull c frames s sound = pulls_hold_back s frames sound

pub returns-clause-shut : goal.returns-clause-shut
returns-clause-shut c frames s some closed = pulls_shut s frames some closed

pub returns-clause-line : goal.returns-clause-line
returns-clause-line c = full_line
