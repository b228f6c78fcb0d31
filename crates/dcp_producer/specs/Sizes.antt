-- the size of a window, as a CONTROL says it: decimal, with no sign and no needless zero, within 32 bits
use Rattle.std.specs.Prelude.{ℕ, ◌+◌, ◌-◌, ◌*◌, ◌^◌, ◌==◌, ◌&&◌, if◌then◌else◌, nat_lt, nat_le, List, length, slice_index, Option, Some, None}
use Rattle.std.specs.List.{fold}

-- one more digit of a number within 32 bits
abbrev pub digit_step : Option ℕ → ℕ → Option ℕ
digit_step None b = None
digit_step (Some n) b = if (nat_le 48 b && nat_le b 57) && nat_lt (n * 10 + (b - 48)) (2 ^ 32) then Some (n * 10 + (b - 48)) else None

-- the size that a value says
unfoldable pub size_of : List ℕ → Option ℕ
size_of value =
    if length value == 0 then None
    else if nat_lt 1 (length value) && (slice_index value 0 == 48) then None
    else fold digit_step (Some 0) value
