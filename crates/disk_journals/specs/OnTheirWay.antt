-- which batches are on their way to journals, whatever their disks tell
use Rattle.std.specs.Prelude.{◌≡◌, ◌≢◌, ℕ, true, List}
use Rattle.vb_types.specs.declared.journal.Record.{Record}
use Rattle.vb_calls.specs.Shelves.{Ask, Append, Read, Look, Keep, Got, Flush, Fate, Reading}
use Rattle.disk_journals.specs.Anyhow.{failures_at}
use Rattle.disk_journals.specs.Asking.{disk_asks}
use Rattle.disk_journals.specs.Devices.{Device}
use Rattle.disk_journals.specs.Seen.{Seen, flush_at, has_seen}

-- Of journals on disks of any kind: a look tells the batch on its way, and one that is kept is on its way from then on. An append, a read and a look leave the batches of all journals as they are, and no request changes that of another one, nor which journals there are. Of a journal that is not there no call failed.
pub record BatchesStay {D : Type 0} (dev : Device D) : Type 0 where
  pub looks : (old new : List (Seen D)) (v : ℕ) (flush : Flush) → disk_asks dev old v Look flush new → flush ≡ flush_at old v
  pub keeps : (old new : List (Seen D)) (v : ℕ) (flush : Flush) → has_seen old v ≡ true → disk_asks dev old v (Keep flush) tt new → flush_at new v ≡ flush
  pub appends : (old new : List (Seen D)) (v w : ℕ) (what : Record) (fate : Fate) → disk_asks dev old v (Append what) fate new → flush_at new w ≡ flush_at old w
  pub reads : (old new : List (Seen D)) (v w : ℕ) (reading : Reading) → disk_asks dev old v Read reading new → flush_at new w ≡ flush_at old w
  pub stays : (old new : List (Seen D)) (v w : ℕ) (flush : Flush) → disk_asks dev old v Look flush new → flush_at new w ≡ flush_at old w
  pub others : (old new : List (Seen D)) (v w : ℕ) (ask : Ask) (got : Got ask) → w ≢ v → disk_asks dev old v ask got new → flush_at new w ≡ flush_at old w
  pub there : (old new : List (Seen D)) (v w : ℕ) (ask : Ask) (got : Got ask) → disk_asks dev old v ask got new → has_seen new w ≡ has_seen old w
  pub none : (slots : List (Seen D)) (v : ℕ) → has_seen slots v ≢ true → failures_at dev slots v ≡ 0
