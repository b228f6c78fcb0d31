-- what disks do, in other words
use Rattle.std.specs.Prelude.{◌≡◌, ◌≢◌, ℕ, ◌+◌, ◌-◌, ◌^◌, ◌<◌, ◌≤◌, max, List, [], ◌∷◌, Some, length, take, drop, slice_range}
use Rattle.vb_disk.specs.Counts.{Rose}
use Rattle.vb_disk.specs.Crashes.{Only}
use Rattle.vb_disk.specs.Memory.{mem_crashes}
use Rattle.vb_disk.specs.Outcomes.{mem_left}
use Rattle.vb_disk.specs.declared.made.Outcome.{Outcome}
use Rattle.vb_disk.specs.Disks.{written, without, IsReady, Torn}

-- what is written at a place is read back there, and all outside stays
pub record IsWritten (at : ℕ) (bytes old new : List ℕ) : Type 0 where
  pub there : slice_range new at (at + length bytes) ≡ bytes
  pub before : take at new ≡ take at old
  pub behind : drop (at + length bytes) new ≡ drop (at + length bytes) old
  pub size : length new ≡ max (length old) (at + length bytes)

-- bytes after a write are those and no other; and what a write does is among what it may leave where it fails, as is nothing at all
pub record WritesAsRead : Type 0 where
  pub are : (at : ℕ) (bytes old : List ℕ) → at ≤ length old → IsWritten at bytes old (written at bytes old)
  pub only : (at : ℕ) (bytes old new : List ℕ) → at ≤ length old → IsWritten at bytes old new → new ≡ written at bytes old
  pub torn : (at : ℕ) (bytes old : List ℕ) → at ≤ length old → Torn at (length bytes) old (written at bytes old)
  pub unwritten : (at n : ℕ) (old : List ℕ) → Torn at n old old

-- a write uses up one readiness for it, and no other's
pub record OneIsUsed : Type 0 where
  pub one : (at len : ℕ) (ready : List (ℕ × ℕ)) → IsReady at len ready → length (without at len ready) + 1 ≡ length ready
  pub others : (at len : ℕ) (other : ℕ × ℕ) (ready : List (ℕ × ℕ)) → other ≢ (at, len) → IsReady other.0 other.1 ready → IsReady other.0 other.1 (without at len ready)
  pub none_made : (at len : ℕ) (other : ℕ × ℕ) (ready : List (ℕ × ℕ)) → IsReady other.0 other.1 (without at len ready) → IsReady other.0 other.1 ready

-- counts that rose and counts that did not, in numbers
pub record Rises : Type 0 where
  pub above : (before now : ℕ) → before < now → Rose before now
  pub at_end : Rose (2 ^ 64 - 1) (2 ^ 64 - 1)
  pub same : (count : ℕ) → count < 2 ^ 64 - 1 → ¬ Rose count count
  pub below : (before now : ℕ) → now < before → before < 2 ^ 64 → ¬ Rose before now

-- A disk in memory as it is made is settled: a crash leaves its one zero byte, whatever its outcome.
pub record IsMadeSettled : Type 0 where
  pub only : Only (0 ∷ []) (mem_crashes (record { bytes = 0 ∷ []; ready = []; past = [] })).leaves
  pub each : (out : Outcome) → mem_left (record { bytes = 0 ∷ []; ready = []; past = [] }) out ≡ Some (0 ∷ [])
