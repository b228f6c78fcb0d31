-- the numbers of a script: decimal, with no sign and no needless zero, within 64 bits
use Rattle.std.specs.Prelude.{ℕ, ◌+◌, ◌-◌, ◌*◌, ◌^◌, ◌==◌, ◌&&◌, if◌then◌else◌, nat_lt, nat_le, List, [], ◌∷◌, length, slice_index, Option, Some, None, option_and_then}
use Rattle.std.specs.List.{fold}
use Rattle.std.specs.Option.{option_map}
use Rattle.script_text.specs.declared.numbers.TheConstants.{NODES, VBUCKETS, CONNECTIONS, MOVED, FRAMES, BYTES, BUFFERS}

-- one more digit of a number within 64 bits
abbrev pub digit_step : Option ℕ → ℕ → Option ℕ
digit_step None b = None
digit_step (Some n) b = if (nat_le 48 b && nat_le b 57) && nat_lt (n * 10 + (b - 48)) (2 ^ 64) then Some (n * 10 + (b - 48)) else None

-- the number that a text says
unfoldable pub number_of : List ℕ → Option ℕ
number_of text =
    if length text == 0 then None
    else if nat_lt 1 (length text) && (slice_index text 0 == 48) then None
    else fold digit_step (Some 0) text

-- a number, if it is below a limit
abbrev pub if_below : ℕ → Option ℕ → Option ℕ
if_below limit None = None
if_below limit (Some n) = if nat_lt n limit then Some n else None

-- a node's number
abbrev pub node_of : List ℕ → Option ℕ
node_of text = if_below NODES (number_of text)

-- a vBucket's number
abbrev pub vbucket_of : List ℕ → Option ℕ
vbucket_of text = if_below VBUCKETS (number_of text)

-- the number of a client connection or a link
abbrev pub connection_of : List ℕ → Option ℕ
connection_of text = if_below CONNECTIONS (number_of text)

-- how many bytes a line moves, or how many device calls it counts
abbrev pub moved_of : List ℕ → Option ℕ
moved_of text = if_below (MOVED + 1) (number_of text)

-- a number, if it is one of stream frames that a line may ask for
abbrev pub if_frames : Option ℕ → Option ℕ
if_frames None = None
if_frames (Some n) = if nat_le 1 n && nat_le n FRAMES then Some n else None

-- for how many stream frames a line asks
abbrev pub frames_of : List ℕ → Option ℕ
frames_of text = if_frames (number_of text)

-- a byte's number
abbrev pub byte_of : List ℕ → Option ℕ
byte_of text = if_below BYTES (number_of text)

-- how many bytes a link's buffer has
abbrev pub buffer_of : List ℕ → Option ℕ
buffer_of text = if_below BUFFERS (number_of text)

-- the numbers that texts say, if each says one
abbrev pub numbers_of : List (List ℕ) → Option (List ℕ)
numbers_of [] = Some []
numbers_of (text ∷ texts) = option_and_then (λ n. option_map (λ more. n ∷ more) (numbers_of texts)) (number_of text)
