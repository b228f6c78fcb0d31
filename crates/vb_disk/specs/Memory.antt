-- disks in memory
use Rattle.std.specs.Prelude.{◌≡◌, ℕ, ◌+◌, ◌-◌, ◌*◌, ◌^◌, ◌<◌, ◌≤◌, ◌⊎◌, Bool, true, false, if◌then◌else◌, List, [], ◌∷◌, ◌++◌, length, take, replicate, Vec, Some, ⊤}
use Rattle.std.specs.declared.alloc.Global.{Global}
use mathlib.Core.Logic.{inl, inr}
use Rattle.std.specs.Cmp.{below_irrefl}
use Rattle.vb_disk.specs.Crashes.{Crashes, CountsNow, Clipped}
use Rattle.vb_disk.specs.Disks.{Storage, Torn, written}
use Rattle.vb_disk.specs.declared.made.Outcome.{Outcome}
use Rattle.vb_disk.specs.declared.made.Outcome.TheVariants as outcome
use Rattle.vb_disk.specs.declared.made.Made.{Made}
use Rattle.vb_disk.specs.declared.made.Made.TheVariants as made

-- A disk in memory: its bytes, the writes for which memory was made ready, and what was done to it, the latest first.
pub record MemStorage : Type 0 where
  pub bytes : List ℕ
  pub ready : List (ℕ × ℕ)
  pub past : List Made

-- It tells its bytes, and never fails.
abbrev pub mem_storage : MemStorage → Storage
mem_storage m = record { size = length m.bytes; held = Some m.bytes; ready = m.ready; failures = 0 }

-- the bytes behind the first n become this one
abbrev pub blurred : ℕ → ℕ → List ℕ → List ℕ
blurred n byte bytes = take n bytes ++ replicate (length bytes - n) byte

-- the bytes after one thing more
abbrev pub after : Made → List ℕ → List ℕ
after (made.Wrote at bytes) old = written at bytes.items old
after (made.Cut n) old = take n old
after (made.Blurred n byte) old = blurred n byte old
after made.Synced old = old

-- the bytes of a disk to which this was done, the latest first, since it was made
abbrev pub content : List Made → List ℕ
content [] = 0 ∷ []
content (m ∷ older) = after m (content older)

-- What a crash may leave of it: after a sync what was there; and behind that, for each range that was written or cut off since, the bytes from before the call, those that it made, or any others.
abbrev pub MayLeave : List Made → List ℕ → Type 0
MayLeave [] image = image ≡ 0 ∷ []
MayLeave (made.Wrote at bytes ∷ older) image = (from : List ℕ) × MayLeave older from × Torn at (length bytes.items) from image
MayLeave (made.Cut n ∷ older) image = (from : List ℕ) × MayLeave older from × Clipped n from image
MayLeave (made.Blurred n byte ∷ older) image = (from : List ℕ) × MayLeave older from × Clipped n from image
MayLeave (made.Synced ∷ older) image = image ≡ content older

-- what a crash may have left when this many calls were made, or more
abbrev pub MayHaveLeft : List Made → ℕ → List ℕ → Type 0
MayHaveLeft [] t image = MayLeave [] image
MayHaveLeft (m ∷ older) t image = MayLeave (m ∷ older) image ⊎ ((t ≤ length older) × MayHaveLeft older t image)

-- what was done up to the last sync
abbrev pub synced : List Made → List Made
synced [] = []
synced (made.Wrote at bytes ∷ older) = synced older
synced (made.Cut n ∷ older) = synced older
synced (made.Blurred n byte ∷ older) = synced older
synced (made.Synced ∷ older) = made.Synced ∷ older

-- the bytes after one thing more, of which a crash left this byte all over
abbrev pub filling : ℕ → Made → List ℕ → List ℕ
filling byte (made.Wrote at bytes) old = written at (replicate (length bytes.items) byte) old
filling byte (made.Cut n) old = blurred n byte old
filling byte (made.Blurred n other) old = blurred n byte old
filling byte made.Synced old = old

-- the bytes, with this one all over each range that was written or cut off since the last sync
abbrev pub filled : ℕ → List Made → List ℕ
filled byte [] = 0 ∷ []
filled byte (made.Wrote at bytes ∷ older) = filling byte (made.Wrote at bytes) (filled byte older)
filled byte (made.Cut n ∷ older) = filling byte (made.Cut n) (filled byte older)
filled byte (made.Blurred n other ∷ older) = filling byte (made.Blurred n other) (filled byte older)
filled byte (made.Synced ∷ older) = content older

-- what a crash leaves: of all that was not synced nothing, everything, or one byte all over
abbrev pub crashed : Outcome → List Made → List ℕ
crashed outcome.Old past = content (synced past)
crashed outcome.New past = content past
crashed (outcome.Fill byte) past = filled byte past

-- as crashes see it: each thing that was done is a moment
abbrev pub crashes_after : List Made → Crashes
crashes_after past = record { moment = length past; leaves = MayLeave past; left_since = MayHaveLeft past }

abbrev pub mem_crashes : MemStorage → Crashes
mem_crashes m = crashes_after m.past

now_counted : (past : List Made) (t : ℕ) (image : List ℕ) → MayLeave past image → MayHaveLeft past t image
now_counted [] t image now = now
now_counted (m ∷ older) t image now = inl now

no_other : (past : List Made) (image : List ℕ) → MayHaveLeft past (length past) image → MayLeave past image
no_other [] image left = left
no_other (m ∷ older) image (inl now) = now
no_other (m ∷ older) image (inr earlier) = absurd (below_irrefl (length older) earlier.0)

pub mem_counts_now : (m : MemStorage) → CountsNow (mem_crashes m)
mem_counts_now m = record { counted = λ t image le now. now_counted m.past t image now; no_other = no_other m.past }

-- each write that is ready ends within the memory
abbrev pub EachFits : ℕ → List (ℕ × ℕ) → Type 0
EachFits capacity [] = ⊤
EachFits capacity (write ∷ ready) = (write.0 + write.1 ≤ capacity) × EachFits capacity ready

-- this can be done to such bytes, within so much memory
abbrev pub CanBe : ℕ → Made → List ℕ → Type 0
CanBe capacity (made.Wrote at bytes) old = (at ≤ length old) × (at + length bytes.items ≤ capacity) × (at + length bytes.items < 2 ^ 62)
CanBe capacity (made.Cut n) old = (1 ≤ n) × (n ≤ length old)
CanBe capacity (made.Blurred n byte) old = ⊤
CanBe capacity made.Synced old = ⊤

-- each thing that was done could be
abbrev pub EachRan : ℕ → List Made → Type 0
EachRan capacity [] = 1 ≤ capacity
EachRan capacity (m ∷ older) = CanBe capacity m (content older) × EachRan capacity older

-- something was done and not synced
abbrev pub is_pending : List Made → Bool
is_pending [] = false
is_pending (made.Wrote at bytes ∷ older) = true
is_pending (made.Cut n ∷ older) = true
is_pending (made.Blurred n byte ∷ older) = true
is_pending (made.Synced ∷ older) = false

-- how many places a list of things done needs yet: a sync's, and for each write that is ready its own and another sync's
abbrev pub places_needed : Bool → List (ℕ × ℕ) → ℕ
places_needed pending ready = (if pending then 1 else 0) + 2 * length ready

-- this is a sync
abbrev pub is_sync : Made → Bool
is_sync (made.Wrote at bytes) = false
is_sync (made.Cut n) = false
is_sync (made.Blurred n byte) = false
is_sync made.Synced = true

-- this is that, with one byte all over
abbrev pub IsBlurOf : ℕ → Made → Made → Type 0
IsBlurOf byte (made.Wrote at bytes) now = (all : Vec ℕ Global) × (now ≡ made.Wrote at all) × (all.items ≡ replicate (length bytes.items) byte)
IsBlurOf byte (made.Cut n) now = now ≡ made.Blurred n byte
IsBlurOf byte (made.Blurred n other) now = now ≡ made.Blurred n byte
IsBlurOf byte made.Synced now = now ≡ made.Synced

-- these are those, with one byte all over each since the last sync
abbrev pub AreBlursOf : ℕ → List Made → List Made → Type 0
AreBlursOf byte [] now = now ≡ []
AreBlursOf byte (made.Wrote at bytes ∷ older) now = (m : Made) × (rest : List Made) × (now ≡ m ∷ rest) × IsBlurOf byte (made.Wrote at bytes) m × AreBlursOf byte older rest
AreBlursOf byte (made.Cut n ∷ older) now = (m : Made) × (rest : List Made) × (now ≡ m ∷ rest) × IsBlurOf byte (made.Cut n) m × AreBlursOf byte older rest
AreBlursOf byte (made.Blurred n other ∷ older) now = (m : Made) × (rest : List Made) × (now ≡ m ∷ rest) × IsBlurOf byte (made.Blurred n other) m × AreBlursOf byte older rest
AreBlursOf byte (made.Synced ∷ older) now = now ≡ made.Synced ∷ older

-- what is kept of a disk in memory: its size is that of a disk, no write that is ready needs more memory, and its bytes are what was made of them
pub record IsKept (bytes : List ℕ) (capacity : ℕ) (ready : List (ℕ × ℕ)) (past : List Made) : Type 0 where
  pub some : 1 ≤ length bytes
  pub few : length bytes < 2 ^ 62
  pub fits : EachFits capacity ready
  pub now : bytes ≡ content past
  pub ran : EachRan capacity past

-- and of the list of what was done: it has the places that it needs yet, and whether a sync has anything to do is known
pub record IsNoted (ready : List (ℕ × ℕ)) (past : List Made) (places : ℕ) (pending : Bool) : Type 0 where
  pub known : pending ≡ is_pending past
  pub room : length past + places_needed pending ready ≤ places
