-- what crashes leave, in other words and in numbers
use Rattle.std.specs.Prelude.{◌≡◌, ℕ, ◌-◌, List, [], ◌∷◌, length, take, drop, replicate, Vec}
use Rattle.std.specs.declared.alloc.Global.{Global}
use Rattle.vb_disk.specs.Memory.{crashed}
use Rattle.vb_disk.specs.Outcomes.{clipping}
use Rattle.vb_disk.specs.declared.made.Made.{Made}
use Rattle.vb_disk.specs.declared.made.Made.TheVariants.{Wrote, Cut, Blurred, Synced}
use Rattle.vb_disk.specs.declared.made.Outcome.TheVariants.{Old, New, Fill}

-- these bytes are those, but that all behind the first n is this byte
pub record IsFilledBehind (n byte : ℕ) (old new : List ℕ) : Type 0 where
  pub front : take n new ≡ take n old
  pub size : length new ≡ length old
  pub rest : drop n new ≡ replicate (length old - n) byte

-- What a crash that fills with a byte leaves of a cut that was not synced, by what it would leave without it; also of such a cut of which an earlier crash left a byte.
pub record FillsCuts : Type 0 where
  pub cut : (byte n : ℕ) (older : List Made) → IsFilledBehind n byte (crashed (Fill byte) older) (crashed (Fill byte) (Cut n ∷ older))
  pub blurred : (byte other n : ℕ) (older : List Made) → IsFilledBehind n byte (crashed (Fill byte) older) (crashed (Fill byte) (Blurred n other ∷ older))

-- the same of a cut under an arm, by each crash
pub record ClippedAsSaid : Type 0 where
  pub old : (n : ℕ) (left : List ℕ) → clipping Old n left ≡ left
  pub new : (n : ℕ) (left : List ℕ) → clipping New n left ≡ take n left
  pub fill : (byte n : ℕ) (left : List ℕ) → IsFilledBehind n byte left (clipping (Fill byte) n left)

-- the bytes 5, 6 and 7 were written over the first one and synced, and this was done then, the latest first
abbrev pub behind_567 : Vec ℕ Global → List Made → List Made
behind_567 bytes [] = Synced ∷ Wrote 0 bytes ∷ []
behind_567 bytes (m ∷ more) = m ∷ behind_567 bytes more

-- Of a cut to one byte that was not synced the byte 9 is left all over, or all, or nothing; of one that was synced nothing else is left. A byte is left as far as the disk ever reached, also where two cuts, or a cut and a crash, came one after the other.
pub record CutsInNumbers : Type 0 where
  pub old : (bytes : Vec ℕ Global) → bytes.items ≡ 5 ∷ 6 ∷ 7 ∷ [] → crashed Old (behind_567 bytes (Cut 1 ∷ [])) ≡ 5 ∷ 6 ∷ 7 ∷ []
  pub new : (bytes : Vec ℕ Global) → bytes.items ≡ 5 ∷ 6 ∷ 7 ∷ [] → crashed New (behind_567 bytes (Cut 1 ∷ [])) ≡ 5 ∷ []
  pub fill : (bytes : Vec ℕ Global) → bytes.items ≡ 5 ∷ 6 ∷ 7 ∷ [] → crashed (Fill 9) (behind_567 bytes (Cut 1 ∷ [])) ≡ 5 ∷ 9 ∷ 9 ∷ []
  pub twice : (bytes : Vec ℕ Global) → bytes.items ≡ 5 ∷ 6 ∷ 7 ∷ [] → crashed (Fill 9) (behind_567 bytes (Cut 1 ∷ Cut 2 ∷ [])) ≡ 5 ∷ 9 ∷ 9 ∷ []
  pub again : (bytes : Vec ℕ Global) → bytes.items ≡ 5 ∷ 6 ∷ 7 ∷ [] → crashed (Fill 9) (behind_567 bytes (Blurred 2 4 ∷ [])) ≡ 5 ∷ 6 ∷ 9 ∷ []
  pub kept : (bytes : Vec ℕ Global) → bytes.items ≡ 5 ∷ 6 ∷ 7 ∷ [] → crashed New (behind_567 bytes (Blurred 2 4 ∷ [])) ≡ 5 ∷ 6 ∷ 4 ∷ []
  pub synced : (bytes : Vec ℕ Global) → bytes.items ≡ 5 ∷ 6 ∷ 7 ∷ [] → crashed (Fill 9) (behind_567 bytes (Synced ∷ Cut 1 ∷ [])) ≡ 5 ∷ []

-- the bytes 5, 6 and 7 stand, and then these two were written over the last one and past the end, and not synced
abbrev pub CrashOfTwo : (List ℕ → Type 0) → (Vec ℕ Global → Vec ℕ Global → List ℕ) → Type 0
CrashOfTwo Is left =
    (bytes two : Vec ℕ Global) → bytes.items ≡ 5 ∷ 6 ∷ 7 ∷ [] → two.items ≡ 1 ∷ 2 ∷ [] → Is (left bytes two)

pub record WritesInNumbers : Type 0 where
  pub old : CrashOfTwo (λ left. left ≡ 5 ∷ 6 ∷ 7 ∷ []) (λ bytes two. crashed Old (behind_567 bytes (Wrote 2 two ∷ [])))
  pub new : CrashOfTwo (λ left. left ≡ 5 ∷ 6 ∷ 1 ∷ 2 ∷ []) (λ bytes two. crashed New (behind_567 bytes (Wrote 2 two ∷ [])))
  pub fill : CrashOfTwo (λ left. left ≡ 5 ∷ 6 ∷ 9 ∷ 9 ∷ []) (λ bytes two. crashed (Fill 9) (behind_567 bytes (Wrote 2 two ∷ [])))
  pub synced : CrashOfTwo (λ left. left ≡ 5 ∷ 6 ∷ 1 ∷ 2 ∷ []) (λ bytes two. crashed (Fill 9) (behind_567 bytes (Synced ∷ Wrote 2 two ∷ [])))
