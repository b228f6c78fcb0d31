-- what each status tells, seen from what was asked
use Rattle.std.proofs.Common.{◌≡◌, ◌+◌, ◌⊎◌, ℕ, List, Err, refl, inl, inr, arith, length, subst}
use Rattle.dcp_io.specs.Moves.{Intake, Outlet, WrotePart}
use Rattle.dcp_io.specs.Reads.{Read, ReadAll, ReadSome}
use Rattle.dcp_io.specs.Statuses.{exit_code}
use Rattle.dcp_io.specs.declared.input.TheConstants.{MAX_INPUT}
use Rattle.dcp_io.specs.declared.status.Status.{Status}
use Rattle.dcp_io.specs.declared.status.Status.TheVariants as status
use Rattle.dcp_io.proofs.Counted.{raised_monotone}
use Rattle.script_text.proofs.ReadLaws.{not_both, within}
use Rattle.script_text.specs.ReadBack.{BreaksAt, IsTranscript}
use Rattle.vb_events.specs.declared.event.Group.{Group}
use Rattle.transcript_back.specs.Backs.{Went, Complete, Broken, IsOutput}
use Rattle.transcript_back.specs.Exits.{Tells, WasRead, WritesFront}

-- where the input was not read, nothing was written
pub unread : (old new : Intake) (before : Outlet) (stop : Status) → Read old new (Err stop) → Went old new before before stop
unread old new before status.ReadFault read = (read, refl)
unread old new before status.InputTooLong read = (read, refl)
unread old new before status.NoMemory read = (refl, inl (read, refl))
unread old new before other read = absurd read

-- without fault, within the limit and with no bad line it ends well, or for want of memory
pub completes : (old new : Intake) (before after : Outlet) (answer : Status) → Went old new before after answer → Complete old new before after answer
completes old new before after status.Ok went = λ reads writes within unbroken. inl refl
completes old new before after status.NoMemory went = λ reads writes within unbroken. inr refl
completes old new before after status.BadLine went = λ reads writes within unbroken. absurd (unbroken went.bytes went.line went.read.drew.left went.breaks)
completes old new before after status.ReadFault went = λ reads writes within unbroken. absurd (reads went.0.rose)
completes old new before after status.WriteFault went = λ reads writes within unbroken. absurd (writes went.1)
completes old new before after status.InputTooLong went = λ reads writes within unbroken.
    let more = raised_monotone old.taken old.taken (MAX_INPUT + 1) (length went.0.bytes) (omega arith) (omega (arith, went.0.above)) in
    absurd (omega (arith, within, went.0.drew.taken, more))
completes old new before after status.Usage went = absurd went

was_read : (old new : Intake) (bytes : List ℕ) → ReadAll old new bytes → WasRead old new bytes
was_read old new bytes read = (read.drew.left, read.end, read.limit, read.faults)

-- bytes that break off are no transcript
none_read : (bytes : List ℕ) (line : ℕ) → BreaksAt bytes line → (groups : List Group) → ¬ IsTranscript bytes groups
none_read bytes line breaks groups said = not_both bytes groups line said breaks

some_read : (old new : Intake) (before after : Outlet) → ((ReadSome old new × (after ≡ before)) ⊎ Broken old new before after) → new.faults ≡ old.faults
some_read old new before after (inl some) = some.0.faults
some_read old new before after (inr broken) = broken.read.faults

-- what was written before it broke off
front_of : (old new : Intake) (before after : Outlet) (bytes text : List ℕ) → ReadAll old new bytes → WrotePart before.held after.held text → IsOutput bytes text
    → WritesFront old new before after
front_of old new before after bytes text read part (inl again) =
    (bytes, was_read old new bytes read, inl (subst (WrotePart before.held after.held) again.2 part))
front_of old new before after bytes text read part (inr bad) =
    (bytes, was_read old new bytes read, inr (none_read bytes bad.0 bad.1, (bad.0, subst (WrotePart before.held after.held) bad.2 part)))

front : (old new : Intake) (before after : Outlet) → Broken old new before after → WritesFront old new before after
front old new before after broken = front_of old new before after broken.bytes broken.text broken.read broken.part broken.output

some_written : (old new : Intake) (before after : Outlet) → ((ReadSome old new × (after ≡ before)) ⊎ Broken old new before after) → (after ≡ before) ⊎ WritesFront old new before after
some_written old new before after (inl some) = inl some.1
some_written old new before after (inr broken) = inr (front old new before after broken)

pub tells : (old new : Intake) (before after : Outlet) (answer : Status) → Went old new before after answer → Tells (exit_code answer) old new before after
tells old new before after status.Ok went =
    inl (refl, (went.bytes, went.groups, was_read old new went.bytes went.read, went.said.printed, went.wrote.0, went.wrote.1))
tells old new before after status.BadLine went =
    inr (inl (
      refl,
      (
        went.bytes,
        went.line,
        was_read old new went.bytes went.read,
        none_read went.bytes went.line went.breaks,
        within went.bytes went.line went.breaks,
        went.wrote.0,
        went.wrote.1,
      ),
    ))
tells old new before after status.ReadFault went = inr (inr (inl (refl, went.0.rose, went.1)))
tells old new before after status.WriteFault went = inr (inr (inr (inl (refl, went.0.read.faults, went.1, front old new before after went.0))))
tells old new before after status.NoMemory went =
    inr (inr (inr (inr (inl (refl, some_read old new before after went.1, went.0, some_written old new before after went.1)))))
tells old new before after status.InputTooLong went =
    inr (inr (inr (inr (inr (refl, went.0.faults, went.1, (went.0.bytes, went.0.drew.left, went.0.above))))))
tells old new before after status.Usage went = absurd went
