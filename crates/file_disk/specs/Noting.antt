-- a file that notes what it is asked
use Rattle.std.specs.Prelude.{ℕ, Bool, List, Option, None, Some, if◌then◌else◌}
use Rattle.file_disk.specs.Files.{FileAsk, FileCall}
use Rattle.file_disk.specs.declared.noting.What.{What}
use Rattle.file_disk.specs.declared.noting.What.TheVariants as what

-- what it was asked, by the parts of a note
abbrev pub ask_of : What → ℕ → List ℕ → FileAsk
ask_of what.Read at bytes = FileAsk.AskedRead at bytes
ask_of what.Write at bytes = FileAsk.AskedWrite at bytes
ask_of what.Cut at bytes = FileAsk.AskedCut at
ask_of what.Sync at bytes = FileAsk.AskedSync

-- The calls that it noted, and whether memory was short for one.
pub record NotingFile : Type 0 where
  pub noted : List FileCall
  pub full : Bool

-- It tells its calls, but where memory was short.
abbrev pub noting_log : NotingFile → Option (List FileCall)
noting_log f = if f.full then None else Some f.noted
