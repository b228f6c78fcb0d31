-- the calls that a disk makes of its file, and a disk of which no contract can say what it holds
use Rattle.std.specs.Prelude.{◌≡◌, ◌≢◌, ℕ, ◌⊎◌, max, Bool, true, false, List, [], ◌∷◌, ◌++◌, Option, None, ⊤}
use Rattle.std.specs.Option.{option_map}
use Rattle.vb_disk.specs.Crashes.{Crashes, CountsNow}
use Rattle.vb_disk.specs.Disks.{Storage}
use Rattle.vb_disk.specs.declared.Put.{Put}
use Rattle.vb_disk.specs.declared.Put.TheVariants as put

-- What a file is asked: to fill a room with the bytes at a place, to write bytes over those at a place, to be so many bytes long, to make what it holds outlast a crash.
pub data FileAsk : Type 0 where
  AskedRead : ℕ → List ℕ → FileAsk
  AskedWrite : ℕ → List ℕ → FileAsk
  AskedCut : ℕ → FileAsk
  AskedSync : FileAsk

-- A call of a file: what it was asked, a read with what the room held then, and whether it did so.
pub record FileCall : Type 0 where
  pub ask : FileAsk
  pub done : Bool

-- the calls of a file, where it tells them, and one more
abbrev pub logged : FileAsk → Bool → Option (List FileCall) → Option (List FileCall)
logged ask done log = option_map (λ calls. calls ++ record { ask = ask; done = done } ∷ []) log

-- One call more was made of a file. A file that finds no memory for what it tells, tells nothing from then on.
abbrev pub Called : FileAsk → Bool → Option (List FileCall) → Option (List FileCall) → Type 0
Called ask done old new = (new ≡ None) ⊎ (new ≡ logged ask done old)

-- One call more was made, which was done exactly where this is the answer.
abbrev pub CalledFor : FileAsk → Put → Option (List FileCall) → Option (List FileCall) → Type 0
CalledFor ask put.Done old new = Called ask true old new
CalledFor ask put.Failed old new = Called ask false old new

-- A disk over a file: how many bytes it has, the writes for which memory is ready, how often it failed, whether a sync of it failed, and the calls of its file.
pub record FileStorage : Type 0 where
  pub size : ℕ
  pub ready : List (ℕ × ℕ)
  pub failures : ℕ
  pub lost : Bool
  pub log : Option (List FileCall)

-- It keeps its bytes to itself.
abbrev pub file_storage : FileStorage → Storage
file_storage d = record { size = d.size; held = None; ready = d.ready; failures = d.failures }

-- What a crash may leave of it is not told: it may be anything, at each moment.
abbrev pub any_crashes : Crashes
any_crashes = record { moment = 0; leaves = λ image. ⊤; left_since = λ t image. ⊤ }

-- its moments are counted
pub any_counts_now : CountsNow any_crashes
any_counts_now = record { counted = λ t image before left. tt; no_other = λ image left. tt }

-- What a sync does: one call, where no sync failed before; and none, and it fails, where one did. It failed from then on where it fails.
pub record SyncsFile (old new : FileStorage) (answer : Put) : Type 0 where
  pub lost : old.lost ≡ true → (answer ≡ put.Failed) × (new.log ≡ old.log)
  pub called : old.lost ≡ false → CalledFor FileAsk.AskedSync answer old.log new.log
  pub stays_lost : answer ≡ put.Failed → new.lost ≡ true
  pub stays_sure : answer ≡ put.Done → new.lost ≡ false

-- A disk over a file of that many bytes, as it begins: nothing is ready, and nothing failed. A file without a byte was asked for one zero byte and for a sync, and did both; another one was asked for nothing.
pub record IsBegun (len : ℕ) (log : Option (List FileCall)) (disk : FileStorage) : Type 0 where
  pub size : disk.size ≡ max 1 len
  pub ready : disk.ready ≡ []
  pub failures : disk.failures ≡ 0
  pub lost : disk.lost ≡ false
  pub new : len ≡ 0 → (disk.log ≡ None) ⊎ (disk.log ≡ logged FileAsk.AskedSync true (logged (FileAsk.AskedWrite 0 (0 ∷ [])) true log))
  pub found : len ≢ 0 → disk.log ≡ log
