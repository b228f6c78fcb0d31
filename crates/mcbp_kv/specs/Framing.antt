-- durability requirements, as framing extras
use Rattle.std.specs.Prelude.{ℕ, ◌/◌, ◌%◌, ◌==◌, ◌||◌, Bool, not, if◌then◌else◌, nat_lt, List, [], ◌∷◌, length, drop, slice_index, Option, Some, None, Result, Ok, Err}
use Rattle.std.specs.Int.{w16, from_be_bytes}
use Rattle.vb_types.specs.declared.status.Status.{Status}
use Rattle.vb_types.specs.declared.status.Status.TheVariants as status
use Rattle.mcbp_kv.specs.declared.framing.Requirement.{Requirement}

-- a framing extra begins with a byte whose high half is its id, and whose low half counts the bytes behind
abbrev pub extra_id : ℕ → ℕ
extra_id b = b / 16

-- how many bytes of a framing extra stand behind its first
abbrev pub extra_len : ℕ → ℕ
extra_len b = b % 16

-- the id of a durability requirement
abbrev pub DURABILITY : ℕ
DURABILITY = 1

-- a durability requirement is a level of one byte, with a timeout of two bytes or without
abbrev pub is_requirement_len : ℕ → Bool
is_requirement_len n = n == 1 || n == 3

-- what a durability requirement of this length says: its level, and its timeout in big-endian bytes, or 0 where it has none
abbrev pub requirement_by_len : ℕ → List ℕ → Requirement
requirement_by_len len bytes = record {
  level = slice_index bytes 0;
  timeout = if len == 3 then from_be_bytes w16 (slice_index bytes 1 ∷ slice_index bytes 2 ∷ []) else 0;
}

-- a further framing extra behind a durability requirement: no second one is taken
abbrev pub requirement_alone : Requirement → List ℕ → Result (Option Requirement) Status
requirement_alone r [] = Ok (Some r)
requirement_alone r (b ∷ rest) = if extra_id b == DURABILITY then Err status.Einval else Err status.UnknownFrameInfo

-- the durability requirement that framing extras are, where there is one, or the status of the first faulty extra: of another id than a durability requirement's; or of that id, and cut short, a second one, or of a length that no requirement has
unfoldable pub requirement_of : List ℕ → Result (Option Requirement) Status
requirement_of [] = Ok None
requirement_of (b ∷ rest) =
    if not (extra_id b == DURABILITY) then Err status.UnknownFrameInfo
    else if not (is_requirement_len (extra_len b)) then Err status.Einval
    else if nat_lt (length rest) (extra_len b) then Err status.Einval
    else requirement_alone (requirement_by_len (extra_len b) rest) (drop (extra_len b) rest)
