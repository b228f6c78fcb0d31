use Rattle.transcript_law.proofs.balance.Running.{scripts_balance}
use Rattle.transcript_law.proofs.balances.windows_balance.Goals as goal

pub returns : goal.returns
returns c = scripts_balance
