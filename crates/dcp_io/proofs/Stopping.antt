-- where writing stops, and how the command ends then
use Rattle.std.proofs.Common.{◌≡◌, ℕ, List, ◌++◌, Result, Ok, Err, refl, ap, sym, ◌∙◌, subst}
use Rattle.std.specs.Prelude.{◌==◌, if◌then◌else◌}
use Rattle.std.specs.Result.{IsErrAnd}
use Rattle.std.specs.Io.KnownBytes.{Appends}
use Rattle.dcp_io.specs.Moves.{Outlet}
use Rattle.dcp_io.specs.Statuses.{exit_code}
use Rattle.dcp_io.specs.Writes.{Stopped, Wrote}
use Rattle.dcp_io.specs.declared.status.Status.{Status}
use Rattle.dcp_io.specs.declared.status.Status.TheVariants as status
use Rattle.dcp_io.proofs.Poured.{part_after}

-- a stop inside what comes next is a stop inside the whole
pub stopped_after : (a b c : Outlet) (done next rest text : List ℕ) (why : Status) → b.faults ≡ a.faults → Appends a.held b.held done → done ++ (next ++ rest) ≡ text → Stopped b c next why → Stopped a c text why
stopped_after a b c done next rest text status.WriteFault same appended is stopped =
    (part_after a.held b.held c.held done next rest text appended is stopped.0, rw same at stopped.1)
stopped_after a b c done next rest text status.NoMemory same appended is stopped =
    (part_after a.held b.held c.held done next rest text appended is stopped.0, stopped.1 ∙ same)
stopped_after a b c done next rest text other same appended is stopped = absurd stopped

-- a stop that was passed on is the stop that came
pub wrote_stop : (a b : Outlet) (text : List ℕ) (r : Result (Unit {0}) Status) (stop : Status) → IsErrAnd r (λ passed. passed ≡ stop) → Stopped a b text stop → Wrote a b text r
wrote_stop a b text (Ok u) stop passed stopped = absurd passed
wrote_stop a b text (Err why) stop passed stopped = subst (λ w. Stopped a b text w) (sym passed) stopped

-- the status of a number
abbrev status_of : ℕ → Status
status_of number =
    if number == 0 then status.Ok
    else if number == 2 then status.Usage
    else if number == 3 then status.BadLine
    else if number == 4 then status.ReadFault
    else if number == 5 then status.WriteFault
    else if number == 6 then status.NoMemory
    else status.InputTooLong

status_back : (answer : Status) → status_of (exit_code answer) ≡ answer
status_back status.Ok = refl
status_back status.Usage = refl
status_back status.BadLine = refl
status_back status.ReadFault = refl
status_back status.WriteFault = refl
status_back status.NoMemory = refl
status_back status.InputTooLong = refl

pub codes_differ : (one other : Status) → exit_code one ≡ exit_code other → one ≡ other
codes_differ one other h = sym (status_back one) ∙ ap status_of h ∙ status_back other
