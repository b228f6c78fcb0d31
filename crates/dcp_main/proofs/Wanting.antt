-- words that cannot be fetched
use Rattle.std.proofs.Common.{◌≡◌, ◌≢◌, ap, Ok, Err}
use Rattle.std.specs.IoError.{error_kind}
use Rattle.std.specs.declared.io.Error.{Error}
use Rattle.std.specs.declared.io.ErrorKind.TheVariants as kind
use Rattle.dcp_main.specs.Words.{AcceptedWords, Answered}
use Rattle.dcp_io.specs.declared.status.Status.{Status}
use Rattle.dcp_io.specs.declared.status.Status.TheVariants as status

pub short : (fault : Error) (answer : Answered) → error_kind fault ≡ kind.OutOfMemory → AcceptedWords (Err fault) answer → answer ≡ Err status.NoMemory
short fault (Ok words) is accepted = absurd (accepted.0 is)
short fault (Err stop) is accepted = ap Err accepted.1

pub no_text : (fault : Error) (stop : Status) → error_kind fault ≢ kind.OutOfMemory → AcceptedWords (Err fault) (Err stop) → ⊥
no_text fault stop differs accepted = differs accepted.0
