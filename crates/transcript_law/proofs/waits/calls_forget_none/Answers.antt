use Rattle.transcript_law.proofs.awaiting.Calls.{calls_forget_none, leaves, places}
use Rattle.transcript_law.proofs.waits.calls_forget_none.Goals as goal

pub returns : goal.returns
returns c = record { keeps = calls_forget_none; places = places; leaves = leaves }
