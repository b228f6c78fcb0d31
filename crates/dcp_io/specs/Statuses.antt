-- how a command ends, by number
use Rattle.std.specs.Prelude.{ℕ, List, ◌++◌, codes, decimal}
use Rattle.dcp_io.specs.declared.status.Status.{Status}
use Rattle.dcp_io.specs.declared.status.Status.TheVariants as status

-- the number that the process ends with, by its status
abbrev pub exit_code : Status → ℕ
exit_code status.Ok = 0
exit_code status.Usage = 2
exit_code status.BadLine = 3
exit_code status.ReadFault = 4
exit_code status.WriteFault = 5
exit_code status.NoMemory = 6
exit_code status.InputTooLong = 11

-- the message on an input whose first bad line has this number
abbrev pub bad_text : ℕ → List ℕ
bad_text line = codes "bad line " ++ (decimal line ++ codes "\n")
