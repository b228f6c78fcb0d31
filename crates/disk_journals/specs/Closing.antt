-- which journals are closed, whatever their disks tell
use Rattle.std.specs.Prelude.{◌≡◌, ◌≢◌, ◌↔◌, ℕ, Bool, true, false, List, Option, Some}
use Rattle.std.specs.Option.{option_map}
use Rattle.vb_disk.specs.Counts.{Rose}
use Rattle.vb_types.specs.declared.journal.Record.{Record}
use Rattle.vb_calls.specs.Faults.{IsFailure}
use Rattle.vb_calls.specs.Shelves.{Ask, Append, Read, Got, Fate, Stood, WasClosed, Reading, Shut}
use Rattle.disk_journals.specs.Anyhow.{failures_at}
use Rattle.disk_journals.specs.Asking.{disk_asks}
use Rattle.disk_journals.specs.Devices.{Device}
use Rattle.disk_journals.specs.Seen.{Seen, seen_at}

-- whether the journal of a number is closed, where there is one
abbrev pub closed_at : {D : Type 0} → List (Seen D) → ℕ → Option Bool
closed_at slots v = option_map (λ s. s.journal.closed) (seen_at slots v)

-- Of journals on disks of any kind: an append and a read find theirs closed exactly where it is not there and open, and a record stands exactly where its journal is open behind it. One that is closed stays so. It is closed by an append to it alone, whose disk failed, which was counted.
pub record ClosesOnce {D : Type 0} (dev : Device D) : Type 0 where
  pub append : (old new : List (Seen D)) (v : ℕ) (what : Record) (fate : Fate) → disk_asks dev old v (Append what) fate new → (fate ≡ WasClosed) ↔ (closed_at old v ≢ Some false)
  pub stands : (old new : List (Seen D)) (v : ℕ) (what : Record) (fate : Fate) → disk_asks dev old v (Append what) fate new → (fate ≡ Stood) ↔ (closed_at new v ≡ Some false)
  pub read : (old new : List (Seen D)) (v : ℕ) (reading : Reading) → disk_asks dev old v Read reading new → (reading ≡ Shut) ↔ (closed_at old v ≢ Some false)
  pub reads : (old new : List (Seen D)) (v w : ℕ) (reading : Reading) → disk_asks dev old v Read reading new → closed_at new w ≡ closed_at old w
  pub stays : (old new : List (Seen D)) (v w : ℕ) (ask : Ask) (got : Got ask) → disk_asks dev old v ask got new → closed_at old w ≡ Some true → closed_at new w ≡ Some true
  pub closes : (old new : List (Seen D)) (v w : ℕ) (ask : Ask) (got : Got ask) → disk_asks dev old v ask got new → closed_at old w ≡ Some false → closed_at new w ≡ Some true
      → (w ≡ v) × IsFailure ask got × Rose (failures_at dev old v) (failures_at dev new v)
