-- two lists, one behind the other, and each of them again
use Rattle.std.proofs.Common.{◌≡◌, ℕ, List, ◌++◌, length, take, drop}
use Rattle.std.proofs.Math.Seq.{take-append_seam, drop-append_seam}

pub front : (xs ys : List ℕ) → take (length xs) (xs ++ ys) ≡ xs
front xs ys = take-append_seam xs ys

pub back : (xs ys : List ℕ) → drop (length xs) (xs ++ ys) ≡ ys
back xs ys = drop-append_seam xs ys
