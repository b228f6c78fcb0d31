-- how a rollback runs
use Rattle.std.proofs.Common.{◌≡◌, inr, ℕ, refl, sym, subst, Option, Some, None, Err}
use Rattle.vb_calls.specs.Flushes.{may_roll_job, read_job, rollable_job}
use Rattle.vb_calls.specs.Jobs.{Job, Ended, Call, Request, RanJob, BeganJob}
use Rattle.vb_calls.specs.Shelves.{Ask, Got, Read, reading_by}
use Rattle.vb_calls.specs.declared.calls.VbAnswer.{VbAnswer}
use Rattle.vb_calls.specs.declared.calls.VbAnswer.TheVariants as answer
use Rattle.vb_calls.specs.declared.calls.VbCall.{VbCall}
use Rattle.vb_calls.specs.declared.calls.VbCall.TheVariants as call
use Rattle.vb_calls.specs.declared.calls.VbReply.{VbReply}
use Rattle.vb_calls.specs.declared.journals.Rolled.{Rolled}
use Rattle.vb_calls.specs.declared.journals.Rolled.TheVariants as rolled
use Rattle.vb_journal.specs.declared.fault.AppendFault.{AppendFault}
use Rattle.vb_journal.specs.declared.fault.AppendFault.TheVariants as fault
use Rattle.vb_types.specs.declared.status.Status.{Status}
use Rattle.disk_journals.specs.Steps.{refusal_in, roll_refusal, unread}

-- by why it is refused, if it is
abbrev pub refused_job : ℕ → ℕ → Option Status → Job Rolled
refused_job v named None = Request v Read (read_job v named)
refused_job v named (Some st) = Ended (rolled.Refused st)

may_roll_is : (v named : ℕ) (a : VbAnswer) → may_roll_job v named a ≡ refused_job v named (refusal_in a)
may_roll_is v named (answer.Status st) = refl
may_roll_is v named answer.Absent = refl
may_roll_is v named answer.Nothing = refl
may_roll_is v named answer.Done = refl
may_roll_is v named (answer.Flag b) = refl
may_roll_is v named (answer.Num n) = refl
may_roll_is v named (answer.Dues seq saved) = refl
may_roll_is v named (answer.Branch uuid parent fork high) = refl
may_roll_is v named (answer.Found doc) = refl
may_roll_is v named (answer.Stored uuid seq cas) = refl
may_roll_is v named (answer.Prepared seq cas) = refl
may_roll_is v named (answer.Asked said log high) = refl
may_roll_is v named (answer.Opened log high from) = refl
may_roll_is v named (answer.Placed place) = refl
may_roll_is v named (answer.Taken snapshot) = refl
may_roll_is v named (answer.Rows batch) = refl
may_roll_is v named (answer.Stat windows items cursors saved high) = refl
may_roll_is v named (answer.Named ask) = refl
may_roll_is v named (answer.Range ss se) = refl
may_roll_is v named (answer.Logged log) = refl
may_roll_is v named (answer.Shown role uuid ss se at image) = refl

pub rollable_is : (v named : ℕ) (reply : Option VbReply) → rollable_job v named reply ≡ refused_job v named (roll_refusal reply)
rollable_is v named None = refl
rollable_is v named (Some reply) = may_roll_is v named reply.answer

module _ {W J : Type 0} (step : W → ℕ → VbCall → Option VbReply → W → Type 0) (asks : J → ℕ → (ask : Ask) → Got ask → J → Type 0) where
  -- it is refused
  pub roll_refused : (v named : ℕ) (w : W) (j : J) (reply : Option VbReply) (w' : W) (st : Status) → Some st ≡ roll_refusal reply → step w v call.Ask reply w'
      → RanJob step asks (Call v call.Ask (rollable_job v named)) w j (rolled.Refused st) w' j
  roll_refused v named w j reply w' st some stepped = (
    reply,
    w',
    stepped,
    subst (λ job. RanJob step asks job w' j (rolled.Refused st) w' j) (sym (rollable_is v named reply))
        (subst (λ o. RanJob step asks (refused_job v named o) w' j (rolled.Refused st) w' j) some (refl, refl, refl)),
  )

  -- it is not
  pub roll_goes : (v named : ℕ) (w : W) (j : J) (reply : Option VbReply) (w' : W) (came : Rolled) (w'' : W) (j' : J) → None ≡ roll_refusal reply → step w v call.Ask reply w'
      → RanJob step asks (Request v Read (read_job v named)) w' j came w'' j' → RanJob step asks (Call v call.Ask (rollable_job v named)) w j came w'' j'
  roll_goes v named w j reply w' came w'' j' none stepped rest = (
    reply,
    w',
    stepped,
    subst (λ job. RanJob step asks job w' j came w'' j') (sym (rollable_is v named reply))
        (subst (λ o. RanJob step asks (refused_job v named o) w' j came w'' j') none rest),
  )

  pub roll_began : (v named : ℕ) (w : W) (j : J) (reply : Option VbReply) (w' : W) (w'' : W) (j' : J) → None ≡ roll_refusal reply → step w v call.Ask reply w'
      → BeganJob step asks (Request v Read (read_job v named)) w' j w'' j' → BeganJob step asks (Call v call.Ask (rollable_job v named)) w j w'' j'
  roll_began v named w j reply w' w'' j' none stepped rest =
      inr (
        reply,
        w',
        stepped,
        subst (λ job. BeganJob step asks job w' j w'' j') (sym (rollable_is v named reply))
            (subst (λ o. BeganJob step asks (refused_job v named o) w' j w'' j') none rest),
      )

  -- the records can't be read
  pub roll_unread : (v named : ℕ) (w : W) (j : J) (why : AppendFault) (j' : J) → asks j v Read (reading_by (Err why)) j'
      → RanJob step asks (Request v Read (read_job v named)) w j (unread why) w j'
  roll_unread v named w j fault.Closed j' asked = (_, j', asked, (refl, refl, refl))
  roll_unread v named w j fault.DiskFailed j' asked = (_, j', asked, (refl, refl, refl))
  roll_unread v named w j (fault.Damaged place) j' asked = (_, j', asked, (refl, refl, refl))

pub ruleset rolling = (roll_refused, roll_goes, roll_began, roll_unread)
