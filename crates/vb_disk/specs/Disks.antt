-- what the calls of a disk do to it
use Rattle.std.specs.Prelude.{◌≡◌, ℕ, ◌+◌, ◌^◌, ◌<◌, ◌≤◌, ◌⊎◌, ◌==◌, ◌&&◌, Bool, if◌then◌else◌, max, List, [], ◌∷◌, ◌++◌, length, take, drop, slice_range, Option, None, Some, IfSome, ⊤}
use Rattle.std.specs.Option.{option_map}
use Rattle.vb_disk.specs.Counts.{Counted}
use Rattle.vb_disk.specs.declared.Put.{Put}
use Rattle.vb_disk.specs.declared.Put.TheVariants as put

-- A disk: how many bytes it has, the bytes that a read gives, where it tells them, place and length of each write for which memory was made ready, and how often it failed.
pub record Storage : Type 0 where
  pub size : ℕ
  pub held : Option (List ℕ)
  pub ready : List (ℕ × ℕ)
  pub failures : ℕ

-- A disk has one byte or more, and fewer than 2^62. Where it tells them, it tells all.
pub record IsSound (s : Storage) : Type 0 where
  pub some : 1 ≤ s.size
  pub few : s.size < 2 ^ 62
  pub told : IfSome s.held (λ bytes. length bytes ≡ s.size)

-- a disk as it is made: one zero byte
pub record IsAsMade (s : Storage) : Type 0 where
  pub one : s.size ≡ 1
  pub zero_byte : IfSome s.held (λ bytes. bytes ≡ 0 ∷ [])

-- this write
abbrev pub is_write : ℕ → ℕ → ℕ × ℕ → Bool
is_write at len write = (write.0 == at) && (write.1 == len)

-- memory is ready for this write
abbrev pub IsReady : ℕ → ℕ → List (ℕ × ℕ) → Type 0
IsReady at len [] = ⊥
IsReady at len (write ∷ ready) = (write ≡ (at, len)) ⊎ IsReady at len ready

-- the writes that are ready when this one was made: one such is used up
abbrev pub without : ℕ → ℕ → List (ℕ × ℕ) → List (ℕ × ℕ)
without at len [] = []
without at len (write ∷ ready) = if is_write at len write then ready else write ∷ without at len ready

-- memory was made ready for one write more
abbrev pub readied : Storage → ℕ → ℕ → Storage
readied s at len = record s { ready = s.ready ++ (at, len) ∷ [] }

-- bytes after these were written over them from a place on, and past their end
abbrev pub written : ℕ → List ℕ → List ℕ → List ℕ
written at bytes old = take at old ++ bytes ++ drop (at + length bytes) old

-- after a write of n bytes that failed: any bytes in its range and past the old end, the same elsewhere
pub record Torn (at n : ℕ) (old new : List ℕ) : Type 0 where
  pub before : take at new ≡ take at old
  pub behind : drop (at + n) new ≡ drop (at + n) old
  pub no_shorter : length old ≤ length new
  pub no_longer : length new ≤ max (length old) (at + n)

-- after a cut to n bytes that failed: some length between
pub record CutShort (n : ℕ) (old new : List ℕ) : Type 0 where
  pub no_shorter : n ≤ length new
  pub front : new ≡ take (length new) old

-- where a disk tells its bytes, it goes on to, and this holds of those before and after
abbrev pub Told : (List ℕ → List ℕ → Type 0) → Option (List ℕ) → Option (List ℕ) → Type 0
Told P None None = ⊤
Told P (Some old) (Some new) = P old new
Told P None (Some new) = ⊥
Told P (Some old) None = ⊥

-- all stays but the count of failures
pub record Stays (old new : Storage) : Type 0 where
  pub size : new.size ≡ old.size
  pub held : new.held ≡ old.held
  pub ready : new.ready ≡ old.ready

-- What was read: the bytes at that place. What a read that failed leaves in the room is not told.
abbrev pub Gave : Option (List ℕ) → ℕ → List ℕ → Put → Type 0
Gave held at room put.Done = IfSome held (λ bytes. room ≡ slice_range bytes at (at + length room))
Gave held at room put.Failed = ⊤

-- A read fills the room, or fails.
pub record Reads (old new : Storage) (at : ℕ) (room : List ℕ) (answer : Put) : Type 0 where
  pub stays : Stays old new
  pub gave : Gave old.held at room answer
  pub counted : Counted old.failures new.failures answer

-- What was written: all, or something in its range.
abbrev pub Wrote : Storage → Storage → ℕ → List ℕ → Put → Type 0
Wrote old new at bytes put.Done = (new.size ≡ max old.size (at + length bytes)) × (new.held ≡ option_map (written at bytes) old.held)
Wrote old new at bytes put.Failed = (old.size ≤ new.size) × (new.size ≤ max old.size (at + length bytes)) × Told (Torn at (length bytes)) old.held new.held

-- A write is done or fails, and uses up what was ready for it.
pub record Writes (old new : Storage) (at : ℕ) (bytes : List ℕ) (answer : Put) : Type 0 where
  pub wrote : Wrote old new at bytes answer
  pub ready : new.ready ≡ without at (length bytes) old.ready
  pub counted : Counted old.failures new.failures answer

-- What was cut off: all behind that length, or some of it.
abbrev pub CutOff : Storage → Storage → ℕ → Put → Type 0
CutOff old new n put.Done = (new.size ≡ n) × (new.held ≡ option_map (take n) old.held)
CutOff old new n put.Failed = (n ≤ new.size) × (new.size ≤ old.size) × Told (CutShort n) old.held new.held

-- A cut is done or fails, and uses up what was ready for it: a write of no byte at the new end.
pub record Cuts (old new : Storage) (n : ℕ) (answer : Put) : Type 0 where
  pub cut_off : CutOff old new n answer
  pub ready : new.ready ≡ without n 0 old.ready
  pub counted : Counted old.failures new.failures answer

-- A sync changes no byte.
pub record Syncs (old new : Storage) (answer : Put) : Type 0 where
  pub stays : Stays old new
  pub counted : Counted old.failures new.failures answer
