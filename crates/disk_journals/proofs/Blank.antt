-- a blank journal, and journals that are opened anew
use Rattle.std.proofs.Common.{◌≡◌, ℕ, List, [], ◌∷◌, refl, sym, subst, Option, Some, None, IfSome, IsSome, option_map, false}
use Rattle.vb_disk.specs.Disks.{IsAsMade}
use Rattle.vb_disk.specs.declared.fuse.Fuse.{Fuse}
use Rattle.vb_journal.specs.Reading.{reading, front_of}
use Rattle.vb_journal.specs.Surviving.{OpensTo}
use Rattle.vb_journal.specs.UnderArms.{IsSettledEach}
use Rattle.vb_types.specs.declared.journal.Record.{Record}
use Rattle.flusher.specs.declared.flusher.Flusher.TheVariants as flusher
use Rattle.disk_journals.specs.Devices.{Device, fuse_over}
use Rattle.disk_journals.specs.Stands.{IsBlank, LeavesAs, ShelfStands, blank_under}

-- one zero byte opens to no record
pub zero_opens : OpensTo [] (0 ∷ [])
unfolding reading front_of
zero_opens = (0, refl)

abbrev the_none : List Record
the_none = []

told_book : (held : Option (List ℕ)) → IsSome held → option_map (λ (bytes : List ℕ). the_none) held ≡ Some the_none
told_book None told = cc
told_book (Some bytes) told = refl

opens_if_zero : (held left : Option (List ℕ)) → IfSome held (λ bytes. bytes ≡ 0 ∷ []) → left ≡ held → IfSome left (OpensTo [])
opens_if_zero None left zero same = subst (λ o. IfSome o (OpensTo [])) (sym same) tt
opens_if_zero (Some bytes) left zero same = subst (λ o. IfSome o (OpensTo [])) (sym same) (subst (λ b. OpensTo [] b) (sym zero) zero_opens)

module _ {D : Type 0} (dev : Device D) where
  -- a blank one, on a disk as it was made that tells its bytes
  pub blank : (v : ℕ) (disk : D) → IsAsMade (dev.storage disk) → IsBlank dev disk
      → ShelfStands dev (record { number = v; journal = record { disk = disk; book = option_map (λ bytes. []) (dev.storage disk).held; closed = false }; flusher = flusher.Idle }) (blank_under (fuse_over (dev.armed disk)))
  blank v disk made fresh = record {
    closed = refl;
    book = λ open_now. told_book (dev.storage disk).held fresh.told;
    flush = refl;
    arm = refl;
    leaves = by (dev.armed disk) fresh.settled;
  }
    where
      by : (o : Option Fuse) → IfSome o (λ f. IsSettledEach (dev.storage disk).held (dev.left disk)) → IfSome o (λ f. LeavesAs dev (record { disk = disk; book = option_map (λ bytes. []) (dev.storage disk).held; closed = false }) (blank_under (fuse_over (dev.armed disk))))
      by None h = tt
      by (Some f) h = record { late = λ e. refl; settled = λ e. h; left = λ out. opens_if_zero (dev.storage disk).held (dev.left disk out) made.zero_byte (h out) }
