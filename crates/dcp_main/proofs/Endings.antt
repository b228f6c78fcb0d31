-- what each status tells, seen from what was asked
use Rattle.std.proofs.Common.{◌≡◌, ◌+◌, ◌⊎◌, ℕ, Err, refl, inl, inr, arith, length}
use Rattle.dcp_io.specs.Moves.{Intake, Outlet}
use Rattle.dcp_io.specs.Reads.{Read, ReadSome}
use Rattle.dcp_io.specs.Statuses.{exit_code}
use Rattle.dcp_io.proofs.Counted.{raised_monotone}
use Rattle.dcp_io.specs.declared.input.TheConstants.{MAX_INPUT}
use Rattle.dcp_io.specs.declared.status.Status.{Status}
use Rattle.dcp_io.specs.declared.status.Status.TheVariants as status
use Rattle.storm.specs.Told.{StormTold}
use Rattle.dcp_main.specs.Exits.{TellsMade, TellsRun, TellsStorm, TellsUsage, WritesFront}
use Rattle.dcp_main.specs.Runs.{Ran, Complete, Broken, GenRan, UsageTold}

-- where the script was not read, nothing was written
pub unread : (old new : Intake) (before : Outlet) (stop : Status) → Read old new (Err stop) → Ran old new before before stop
unread old new before status.ReadFault read = (read, refl)
unread old new before status.InputTooLong read = (read, refl)
unread old new before status.NoMemory read = (refl, inl (read, refl))
unread old new before other read = absurd read

-- a run without fault, within the limit and in the grammar ends well, or for want of memory
pub completes : (old new : Intake) (before after : Outlet) (answer : Status) → Ran old new before after answer → Complete old new before after answer
completes old new before after status.Ok ran = λ reads writes within grammar. inl refl
completes old new before after status.NoMemory ran = λ reads writes within grammar. inr refl
completes old new before after status.BadLine ran = λ reads writes within grammar. absurd (grammar ran.bytes ran.line ran.read.drew.left ran.bad)
completes old new before after status.ReadFault ran = λ reads writes within grammar. absurd (reads ran.0.rose)
completes old new before after status.WriteFault ran = λ reads writes within grammar. absurd (writes ran.1)
completes old new before after status.InputTooLong ran = λ reads writes within grammar.
    let more = raised_monotone old.taken old.taken (MAX_INPUT + 1) (length ran.0.bytes) (omega arith) (omega (arith, ran.0.above)) in
    absurd (omega (arith, within, ran.0.drew.taken, more))
completes old new before after status.Usage ran = absurd ran

some_read : (old new : Intake) (before after : Outlet) → ((ReadSome old new × (after ≡ before)) ⊎ Broken old new before after) → new.faults ≡ old.faults
some_read old new before after (inl some) = some.0.faults
some_read old new before after (inr broken) = broken.read.faults

-- what was written before a run broke off
front : (old new : Intake) (before after : Outlet) → Broken old new before after → WritesFront old new before after
front old new before after broken = (broken.bytes, broken.text, broken.read.drew.left, broken.read.end, broken.part, broken.output)

some_written : (old new : Intake) (before after : Outlet) → ((ReadSome old new × (after ≡ before)) ⊎ Broken old new before after) → (after ≡ before) ⊎ WritesFront old new before after
some_written old new before after (inl some) = inl some.1
some_written old new before after (inr broken) = inr (front old new before after broken)

pub tells_run : (old new : Intake) (before after : Outlet) (answer : Status) → Ran old new before after answer → TellsRun (exit_code answer) old new before after
tells_run old new before after status.Ok ran = inl (refl, ran)
tells_run old new before after status.BadLine ran = inr (inl (refl, ran))
tells_run old new before after status.ReadFault ran = inr (inr (inl (refl, ran.0.rose, ran.1)))
tells_run old new before after status.WriteFault ran = inr (inr (inr (inl (refl, ran.0.read.faults, ran.1, front old new before after ran.0))))
tells_run old new before after status.NoMemory ran = inr (inr (inr (inr (inl (refl, some_read old new before after ran.1, ran.0, some_written old new before after ran.1)))))
tells_run old new before after status.InputTooLong ran = inr (inr (inr (inr (inr (refl, ran.0.faults, ran.1, (ran.0.bytes, ran.0.drew.left, ran.0.above))))))
tells_run old new before after status.Usage ran = absurd ran

pub tells_made : (seed count : ℕ) (old new : Intake) (before after : Outlet) (answer : Status)
    → GenRan seed count old new before after answer → TellsMade (exit_code answer) seed count old new before after
tells_made seed count old new before after status.Ok ran = inl (refl, ran.0, ran.1)
tells_made seed count old new before after status.WriteFault ran = inr (inl (refl, ran.0, ran.1.0, ran.1.1))
tells_made seed count old new before after status.NoMemory ran = inr (inr (refl, ran.0, ran.1.0, ran.1.1))
tells_made seed count old new before after other ran = absurd ran.1

pub tells_storm : (seed clients writes : ℕ) (before after : Outlet) (answer : Status) → StormTold seed clients writes before after answer → TellsStorm (exit_code answer) seed clients writes before after
tells_storm seed clients writes before after status.Ok told = inl (refl, told.0, told.1)
tells_storm seed clients writes before after status.WriteFault told = inr (inl (refl, told.0, told.1))
tells_storm seed clients writes before after status.NoMemory told = inr (inr (refl, told.0, told.1))
tells_storm seed clients writes before after other told = absurd told

pub tells_usage : (before after : Outlet) (answer : Status) → UsageTold before after answer → TellsUsage (exit_code answer) before after
tells_usage before after status.Usage told = inl (refl, told.0, told.1)
tells_usage before after status.WriteFault told = inr (inl (refl, told.0, told.1))
tells_usage before after status.NoMemory told = inr (inr (refl, told.0, told.1))
tells_usage before after other told = absurd told
