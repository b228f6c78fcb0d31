-- what the bytes of a journal read as
use Rattle.std.specs.Prelude.{◌≡◌, ℕ, zero, suc, ◌+◌, ◌≤◌, ◌==◌, not, nat_lt, if◌then◌else◌, List, [], ◌∷◌, ◌++◌, length, drop, slice_index, slice_range, Option, None, Some}
use Rattle.std.specs.Int.{w32, from_be_bytes, to_be_bytes}
use Rattle.vb_types.specs.declared.journal.Record.{Record}
use Rattle.vb_journal.specs.declared.payload.TheConstants.{MAX_PAYLOAD}
use Rattle.vb_journal.specs.declared.scan.TheConstants.{OPEN, HEAD_LEN}
use Rattle.vb_journal.specs.declared.scan.Front.{Front}
use Rattle.vb_journal.specs.declared.scan.Front.TheVariants as front
use Rattle.vb_journal.specs.declared.scan.Scan.{Scan}
use Rattle.vb_journal.specs.declared.scan.Scan.TheVariants as scan
use Rattle.vb_journal.specs.Payloads.{payload_of, record_in}

-- how long the payload is behind an open gate: a big-endian number of four bytes
abbrev pub payload_len : List ℕ → ℕ
payload_len bytes = from_be_bytes w32 (slice_range bytes 1 HEAD_LEN)

-- an open gate with this record behind it, if it is one
abbrev pub holding : Option Record → ℕ → Front
holding None len = front.Outside
holding (Some r) len = front.Holds r len

-- What bytes begin with: a closed gate, an open one with a whole record behind it, or what is outside the format. That is no gate at all, or an open one with too few bytes behind it, too long a payload, or one that is no record's.
unfoldable pub front_of : List ℕ → Front
front_of bytes =
    if length bytes == 0 then front.Outside
    else if not (slice_index bytes 0 == OPEN) then front.Closed
    else if nat_lt (length bytes) HEAD_LEN then front.Outside
    else if nat_lt MAX_PAYLOAD (payload_len bytes) then front.Outside
    else if nat_lt (length bytes) (HEAD_LEN + payload_len bytes) then front.Outside
    else holding (record_in (slice_range bytes HEAD_LEN (HEAD_LEN + payload_len bytes))) (payload_len bytes)

-- a record in front of those that were read
abbrev pub onto : Record → Scan → Scan
onto r (scan.Whole records end) = scan.Whole (r ∷ records) end
onto r (scan.Damaged place) = scan.Damaged place

-- the records of bytes that begin with this, at a place of the disk, going by so many gates at most
abbrev pub read_by : ℕ → Front → ℕ → List ℕ → Scan
read_by zero begins place bytes = scan.Damaged place
read_by (suc n) front.Closed place bytes = scan.Whole [] place
read_by (suc n) front.Outside place bytes = scan.Damaged place
read_by (suc n) (front.Holds r len) place bytes =
    onto r (read_by n (front_of (drop (HEAD_LEN + len) bytes)) (place + (HEAD_LEN + len)) (drop (HEAD_LEN + len) bytes))

-- The records of a disk up to its first closed gate, and the place of that gate; or the place of the gate at which the bytes are outside the format. A gate has at least the byte of its own, so there are no more gates than bytes.
unfoldable pub reading : List ℕ → Scan
reading bytes = read_by (length bytes) (front_of bytes) 0 bytes

-- the records that were read
abbrev pub records_of : Scan → List Record
records_of (scan.Whole records end) = records
records_of (scan.Damaged place) = []

-- the records of a disk
unfoldable pub records_in : List ℕ → List Record
records_in bytes = records_of (reading bytes)

-- a record as it stands on a disk: an open gate, the length of its payload in four bytes, and the payload
pub record IsWritten (r : Record) (part : List ℕ) : Type 0 where
  pub four : List ℕ
  pub payload : List ℕ
  pub joined : part ≡ OPEN ∷ four ++ payload
  pub are_four : length four ≡ 4
  pub long : from_be_bytes w32 four ≡ length payload
  pub short : length payload ≤ MAX_PAYLOAD
  pub says : record_in payload ≡ Some r

-- records as they stand on a disk, one after another
abbrev pub AreWritten : List Record → List ℕ → Type 0
AreWritten [] parts = parts ≡ []
AreWritten (r ∷ records) parts = (part more : List ℕ) × IsWritten r part × AreWritten records more × (parts ≡ part ++ more)

-- what is written behind a closed gate before it is opened: length, payload and a closed gate
unfoldable pub behind_gate : Record → List ℕ
behind_gate r = to_be_bytes w32 (length (payload_of r)) ++ payload_of r ++ 0 ∷ []

-- a record that its payload gives back
pub record IsReadBack (r : Record) : Type 0 where
  pub says : record_in (payload_of r) ≡ Some r
  pub short : length (payload_of r) ≤ MAX_PAYLOAD
