-- what a crash may leave of a disk, at each moment of it
use Rattle.std.specs.Prelude.{◌≡◌, ℕ, ◌≤◌, ◌⊎◌, min, List, length, take, Option, IfSome, ⊤}
use Rattle.vb_disk.specs.Disks.{Torn}
use Rattle.vb_disk.specs.declared.Put.{Put}
use Rattle.vb_disk.specs.declared.Put.TheVariants as put

-- A disk as crashes see it: the moment that it has come to, as a number that does not fall; the images, each a list of bytes, that a crash at this moment may leave; and those that a crash at some moment from that one on may have left, be it during a call or between two.
pub record Crashes : Type 1 where
  pub moment : ℕ
  pub leaves : List ℕ → Type 0
  pub left_since : ℕ → List ℕ → Type 0

-- this image and no other
abbrev pub Only : List ℕ → (List ℕ → Type 0) → Type 0
Only bytes leaves = (image : List ℕ) → leaves image → image ≡ bytes

-- each image of now is one of before
abbrev pub Among : (List ℕ → Type 0) → (List ℕ → Type 0) → Type 0
Among before now = (image : List ℕ) → now image → before image

-- each image of now is one of before after such a step
abbrev pub Follows : (List ℕ → List ℕ → Type 0) → (List ℕ → Type 0) → (List ℕ → Type 0) → Type 0
Follows step before now = (image : List ℕ) → now image → (from : List ℕ) × before from × step from image

-- after a cut to n bytes of which a crash may keep all, some or nothing: some length between, and any bytes behind the first n
pub record Clipped (n : ℕ) (old new : List ℕ) : Type 0 where
  pub before : take n new ≡ take n old
  pub no_shorter : min n (length old) ≤ length new
  pub no_longer : length new ≤ length old

-- Time went on: what a crash since some earlier moment may have left is what it may have left before, or what one may leave now, and nothing is forgotten.
pub record Elapses (old new : Crashes) : Type 0 where
  pub later : old.moment ≤ new.moment
  pub nothing_else : (t : ℕ) (image : List ℕ) → t ≤ old.moment → new.left_since t image → old.left_since t image ⊎ new.leaves image
  pub keeps : (t : ℕ) (image : List ℕ) → t ≤ old.moment → old.left_since t image → new.left_since t image

-- This moment is one of those since an earlier one, and since this moment there is no other.
pub record CountsNow (c : Crashes) : Type 0 where
  pub counted : (t : ℕ) (image : List ℕ) → t ≤ c.moment → c.leaves image → c.left_since t image
  pub no_other : (image : List ℕ) → c.left_since c.moment image → c.leaves image

-- A call that changes no byte leaves no other image, now or since any moment.
pub record LeavesNoMore (old new : Crashes) : Type 0 where
  pub later : old.moment ≤ new.moment
  pub among : Among old.leaves new.leaves
  pub nothing_else : (t : ℕ) (image : List ℕ) → t ≤ old.moment → new.left_since t image → old.left_since t image
  pub keeps : (t : ℕ) (image : List ℕ) → t ≤ old.moment → old.left_since t image → new.left_since t image

-- A write, done or failed: until a sync its range may hold any bytes.
pub record MayTear (old new : Crashes) (at n : ℕ) : Type 0 where
  pub follows : Follows (Torn at n) old.leaves new.leaves
  pub elapses : Elapses old new

-- A cut, done or failed: until a sync what it cut off may be there, and hold any bytes.
pub record MayClip (old new : Crashes) (n : ℕ) : Type 0 where
  pub follows : Follows (Clipped n) old.leaves new.leaves
  pub elapses : Elapses old new

-- a disk of which a crash leaves what a read gives, where the disk tells its bytes
abbrev pub IsSettled : Option (List ℕ) → Crashes → Type 0
IsSettled held c = IfSome held (λ bytes. Only bytes c.leaves)

-- after a sync that is done a disk is settled
abbrev pub SettledBy : Put → Option (List ℕ) → Crashes → Type 0
SettledBy put.Done held c = IsSettled held c
SettledBy put.Failed held c = ⊤

-- A sync leaves no other image, and once it is done no other than what a read gives.
pub record MaySettle (old new : Crashes) (held : Option (List ℕ)) (answer : Put) : Type 0 where
  pub no_more : LeavesNoMore old new
  pub settled : SettledBy answer held new

-- an image that is one of these, torn in the range of a write
abbrev pub TornFrom : (List ℕ → Type 0) → ℕ → ℕ → List ℕ → Type 0
TornFrom leaves at n image = (from : List ℕ) × leaves from × Torn at n from image

-- At each moment from the first of these on, up to the second, each image that a crash may leave has this property. A run that began earlier goes on by it.
pub record AtEachMoment (old new : Crashes) (Has : List ℕ → Type 0) : Type 0 where
  pub later : old.moment ≤ new.moment
  pub each : (image : List ℕ) → new.left_since old.moment image → Has image
  pub before : (t : ℕ) (image : List ℕ) → t ≤ old.moment → new.left_since t image → old.left_since t image ⊎ Has image
