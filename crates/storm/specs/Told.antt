-- what became of a storm's lines, by the status that is answered
use Rattle.std.specs.Prelude.{ℕ}
use Rattle.dcp_io.specs.Moves.{Outlet}
use Rattle.dcp_io.specs.Writes.{WroteAll, Stopped}
use Rattle.dcp_io.specs.declared.status.Status.{Status}
use Rattle.dcp_io.specs.declared.status.Status.TheVariants as status
use Rattle.storm_model.specs.Texts.{storm_text}

-- the lines were written, or a front part of them
abbrev pub StormTold : ℕ → ℕ → ℕ → Outlet → Outlet → Status → Type 0
StormTold seed clients writes before after status.Ok = WroteAll before after (storm_text seed clients writes)
StormTold seed clients writes before after status.WriteFault = Stopped before after (storm_text seed clients writes) status.WriteFault
StormTold seed clients writes before after status.NoMemory = Stopped before after (storm_text seed clients writes) status.NoMemory
StormTold seed clients writes before after status.Usage = ⊥
StormTold seed clients writes before after status.BadLine = ⊥
StormTold seed clients writes before after status.ReadFault = ⊥
StormTold seed clients writes before after status.InputTooLong = ⊥
