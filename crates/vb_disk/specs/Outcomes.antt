-- what a crash of each outcome leaves of a disk, where its calls are made under an arm
use Rattle.std.specs.Prelude.{◌≡◌, ℕ, if◌then◌else◌, List, length, take, replicate, Option, Some}
use Rattle.std.specs.Option.{option_map}
use Rattle.vb_disk.specs.Arms.{hits, is_made}
use Rattle.vb_disk.specs.Disks.{written}
use Rattle.vb_disk.specs.Memory.{MemStorage, blurred, crashed}
use Rattle.vb_disk.specs.declared.fuse.Fuse.{Fuse}
use Rattle.vb_disk.specs.declared.made.Outcome.{Outcome}
use Rattle.vb_disk.specs.declared.made.Outcome.TheVariants as outcome

-- what is left behind a write that is not synced, by what would be left without it: nothing of it, all, or one byte all over its range
abbrev pub leaving : Outcome → ℕ → List ℕ → List ℕ → List ℕ
leaving outcome.Old at bytes left = left
leaving outcome.New at bytes left = written at bytes left
leaving (outcome.Fill byte) at bytes left = written at (replicate (length bytes) byte) left

-- and behind a cut
abbrev pub clipping : Outcome → ℕ → List ℕ → List ℕ
clipping outcome.Old n left = left
clipping outcome.New n left = take n left
clipping (outcome.Fill byte) n left = blurred n byte left

-- a disk in memory tells what each leaves
abbrev pub mem_left : MemStorage → Outcome → Option (List ℕ)
mem_left m out = Some (crashed out m.past)

-- the same is left
abbrev pub LeftAlike : (Outcome → Option (List ℕ)) → (Outcome → Option (List ℕ)) → Type 0
LeftAlike old new = (out : Outcome) → new out ≡ old out

-- a write under this arm
abbrev pub LeftByWrite : Fuse → (Outcome → Option (List ℕ)) → (Outcome → Option (List ℕ)) → ℕ → List ℕ → Type 0
LeftByWrite f old new at bytes = (out : Outcome) → new out ≡ option_map (λ left. if is_made f then leaving out at bytes left else left) (old out)

abbrev pub HeldByWrite : Fuse → Option (List ℕ) → Option (List ℕ) → ℕ → List ℕ → Type 0
HeldByWrite f old new at bytes = new ≡ option_map (λ held. if is_made f then written at bytes held else held) old

-- a cut
abbrev pub LeftByCut : Fuse → (Outcome → Option (List ℕ)) → (Outcome → Option (List ℕ)) → ℕ → Type 0
LeftByCut f old new n = (out : Outcome) → new out ≡ option_map (λ left. if is_made f then clipping out n left else left) (old out)

abbrev pub HeldByCut : Fuse → Option (List ℕ) → Option (List ℕ) → ℕ → Type 0
HeldByCut f old new n = new ≡ option_map (λ held. if is_made f then take n held else held) old

-- a sync: once it is done each leaves what a read gives, and one that is hit is not done
abbrev pub LeftBySync : Fuse → (Outcome → Option (List ℕ)) → (Outcome → Option (List ℕ)) → Option (List ℕ) → Type 0
LeftBySync f old new held = (out : Outcome) → new out ≡ (if hits f then old out else held)
