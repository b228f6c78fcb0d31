-- the one arm of a node, under which its disks are called
use Rattle.std.specs.Prelude.{◌≡◌, ℕ, zero, suc, ◌+◌, ◌-◌, ◌==◌, not, Bool, true, false, if◌then◌else◌, Option, None, Some}
use Rattle.vb_disk.specs.declared.Put.{Put}
use Rattle.vb_disk.specs.declared.Put.TheVariants as put
use Rattle.vb_disk.specs.declared.fuse.Fuse.{Fuse}
use Rattle.vb_disk.specs.declared.fuse.Fuse.TheVariants as fuse

-- the next device call is the one that it hits
abbrev pub hits : Fuse → Bool
hits fuse.Off = false
hits (fuse.Stop k) = k == 1
hits (fuse.Fail k) = k == 1

-- A call that it hits fails. Where that is by a stop, the call is made all the same: what it writes or cuts is there, and not synced.
abbrev pub is_made : Fuse → Bool
is_made fuse.Off = true
is_made (fuse.Stop k) = true
is_made (fuse.Fail k) = not (k == 1)

-- After a device call there is one fewer to go. Once it fired it is off.
abbrev pub burnt : Fuse → Fuse
burnt fuse.Off = fuse.Off
burnt (fuse.Stop k) = if k == 1 then fuse.Off else fuse.Stop (k - 1)
burnt (fuse.Fail k) = if k == 1 then fuse.Off else fuse.Fail (k - 1)

-- after so many
abbrev pub burnt_by : ℕ → Fuse → Fuse
burnt_by zero f = f
burnt_by (suc n) f = burnt_by n (burnt f)

-- a device call fails exactly where it is hit
abbrev pub answer_under : Fuse → Put
answer_under f = if hits f then put.Failed else put.Done

-- a device call under an arm, where the disk tells it
abbrev pub Burns : Option Fuse → Option Fuse → Put → Type 0
Burns None now answer = now ≡ None
Burns (Some f) now answer = (now ≡ Some (burnt f)) × (answer ≡ answer_under f)

-- a read is no call that an arm counts, and does not fail
abbrev pub Passes : Option Fuse → Option Fuse → Put → Type 0
Passes None now answer = now ≡ None
Passes (Some f) now answer = (now ≡ Some f) × (answer ≡ put.Done)

-- An arm fires once, at the call of its number: of the calls from now on the one behind n others is hit exactly where the number is n + 1. So none is hit where it is 0, and none where it is off.
pub record FiresOnce : Type 0 where
  pub stops : (k n : ℕ) → hits (burnt_by n (fuse.Stop k)) ≡ (k == n + 1)
  pub fails : (k n : ℕ) → hits (burnt_by n (fuse.Fail k)) ≡ (k == n + 1)
  pub off : (n : ℕ) → hits (burnt_by n fuse.Off) ≡ false
