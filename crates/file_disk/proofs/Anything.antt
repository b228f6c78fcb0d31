-- what is said of a write and of a cut holds where a crash may leave anything
use Rattle.std.proofs.Common.{ℕ, List, inl, refl, arith}
use Rattle.vb_disk.specs.Crashes.{Clipped, Elapses, MayTear, MayClip}
use Rattle.vb_disk.specs.Disks.{Torn}
use Rattle.file_disk.specs.Files.{any_crashes}

-- an image that was left as it was
torn_same : (at n : ℕ) (image : List ℕ) → Torn at n image image
torn_same at n image = record { before = refl; behind = refl; no_shorter = omega arith; no_longer = omega arith }

clipped_same : (n : ℕ) (image : List ℕ) → Clipped n image image
clipped_same n image = record { before = refl; no_shorter = omega arith; no_longer = omega arith }

elapses : Elapses any_crashes any_crashes
elapses = record { later = omega arith; nothing_else = λ t image before left. inl left; keeps = λ t image before left. left }

pub may_tear : (at n : ℕ) → MayTear any_crashes any_crashes at n
may_tear at n = record { follows = λ image left. (image, left, torn_same at n image); elapses = elapses }

pub may_clip : (n : ℕ) → MayClip any_crashes any_crashes n
may_clip n = record { follows = λ image left. (image, left, clipped_same n image); elapses = elapses }
