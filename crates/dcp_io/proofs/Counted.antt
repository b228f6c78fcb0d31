-- laws of counts that stand still at their end
use Rattle.std.proofs.Common.{◌≡◌, ℕ, ◌+◌, ◌-◌, ◌^◌, ◌≤◌, arith}
use Rattle.dcp_io.specs.Counts.{raised, Rose}

pub raised_none : (c : ℕ) → raised c 0 ≡ c
unfolding raised
raised_none c = omega arith

pub raised_more : (c m n : ℕ) → raised (raised c m) n ≡ raised c (m + n)
unfolding raised
raised_more c m n = omega arith

-- a count that has room is exact
pub raised_exact : (c n : ℕ) → c + n ≤ 2 ^ 64 - 1 → raised c n ≡ c + n
unfolding raised
raised_exact c n h = omega arith

pub raised_within : (c n : ℕ) → raised c n ≤ c + n
unfolding raised
raised_within c n = omega arith

-- a count never falls
pub raised_kept : (c n : ℕ) → c ≤ raised c n
unfolding raised
raised_kept c n = omega arith

pub raised_monotone : (c d m n : ℕ) → c ≤ d → m ≤ n → raised c m ≤ raised d n
unfolding raised
raised_monotone c d m n h k = omega arith

pub rose_kept : (before now : ℕ) → Rose before now → before ≤ now
rose_kept before now r = omega (arith, raised_kept before 1)

pub rose_by_one : (before now : ℕ) → now ≡ raised before 1 → Rose before now
rose_by_one before now e = omega arith

-- a count that rose in between rose from the first to the last
pub rose_within : (a b c d : ℕ) → a ≤ b → Rose b c → c ≤ d → Rose a d
rose_within a b c d h r k = omega (arith, raised_monotone a b 1 1 h)
