-- jobs over journals on disks that tell their arm are jobs over plain journals
use Rattle.std.proofs.Common.{◌≡◌, inl, inr, ℕ, List, Option, Some, None}
use Rattle.vb_calls.specs.Jobs.{Job, Ended, Call, Request, RanJob, BeganJob, IsUnasked, alone_asks}
use Rattle.vb_calls.specs.declared.calls.VbCall.{VbCall}
use Rattle.vb_calls.specs.declared.calls.VbReply.{VbReply}
use Rattle.vb_disk.specs.Fused.{FuseStorage}
use Rattle.vb_disk.specs.declared.fuse.Fuse.{Fuse}
use Rattle.disk_journals.specs.Asking.{FailsThere, disk_asks}
use Rattle.disk_journals.specs.Devices.{fuse_device}
use Rattle.disk_journals.specs.Laws.{ArmsAreExact}
use Rattle.disk_journals.specs.Seen.{Seen}
use Rattle.disk_journals.specs.Stands.{ShelvesStand}

-- a disk that tells its arm fails by it alone
never : (before now : Option (Seen FuseStorage)) → FailsThere fuse_device before now → ⊥
never None now fails = absurd fails
never (Some s) None fails = absurd fails
never (Some s) (Some t) fails = absurd (told s.journal.disk.fuse fails.untold)
  where
    told : (f : Fuse) → Some f ≡ None → ⊥
    told f e = cc

pub armed_plain : ArmsAreExact
unfolding disk_asks
armed_plain old v ask got new asks shelves stand = elim (asks.plainly shelves stand) [ inl plain ↦ plain | inr failed ↦ absurd (never _ _ failed.0) ]

module _ {W : Type 0} (step : W → ℕ → VbCall → Option VbReply → W → Type 0) where
  -- a job that ran
  pub armed_ran : {A : Type 0} (job : Job A) (old : W) (kept : List (Seen FuseStorage)) (answer : A) (new : W) (left : List (Seen FuseStorage)) → RanJob step (disk_asks fuse_device) job old kept answer new left
      → RanJob step (alone_asks (ShelvesStand fuse_device)) job old kept answer new left
  armed_ran (Ended a) old kept answer new left ran = ran
  armed_ran (Call v call next) old kept answer new left ran = (ran.0, ran.1, ran.2, armed_ran (next ran.0) ran.1 kept answer new left ran.3)
  armed_ran (Request v ask next) old kept answer new left ran =
      (ran.0, ran.1, armed_plain kept v ask ran.0 ran.1 ran.2, armed_ran (next ran.0) old ran.1 answer new left ran.3)

  unasked : (v : ℕ) (kept left : List (Seen FuseStorage)) → IsUnasked (disk_asks fuse_device) v kept left → IsUnasked (alone_asks (ShelvesStand fuse_device)) v kept left
  unasked v kept left (inl same) = inl same
  unasked v kept left (inr looked) = inr (looked.0, armed_plain kept v _ looked.0 left looked.1)

  -- one that began
  pub armed_began : {A : Type 0} (job : Job A) (old : W) (kept : List (Seen FuseStorage)) (new : W) (left : List (Seen FuseStorage)) → BeganJob step (disk_asks fuse_device) job old kept new left
      → BeganJob step (alone_asks (ShelvesStand fuse_device)) job old kept new left
  armed_began (Ended a) old kept new left begun = begun
  armed_began (Call v call next) old kept new left (inl same) = inl same
  armed_began (Call v call next) old kept new left (inr more) = inr (more.0, more.1, more.2, armed_began (next more.0) more.1 kept new left more.3)
  armed_began (Request v ask next) old kept new left (inl short) = inl (short.0, unasked v kept left short.1)
  armed_began (Request v ask next) old kept new left (inr more) =
      inr (more.0, more.1, armed_plain kept v ask more.0 more.1 more.2, armed_began (next more.0) old more.1 new left more.3)
