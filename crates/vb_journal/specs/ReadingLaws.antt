-- what bytes read as, in words: gates, records as they stand on a disk, and what is outside the format
use Rattle.std.specs.Prelude.{◌≡◌, ◌≢◌, ◌⊎◌, ℕ, ◌+◌, ◌/◌, ◌%◌, List, [], ◌∷◌, ◌++◌, length, take, slice_index}
use Rattle.vb_types.specs.declared.journal.Batch.{Batch}
use Rattle.vb_types.specs.declared.journal.Record.{Record}
use Rattle.vb_types.specs.declared.journal.Record.TheVariants as noted
use Rattle.vb_types.specs.declared.role.LogEntry.{LogEntry}
use Rattle.vb_types.specs.declared.role.Role.{Role}
use Rattle.vb_journal.specs.Books.{NotedPart, noted_at}
use Rattle.vb_journal.specs.Payloads.{payload_of}
use Rattle.vb_journal.specs.Receipts.{seq_of}
use Rattle.vb_journal.specs.declared.scan.Front.{Front}
use Rattle.vb_journal.specs.declared.scan.Front.TheVariants as front
use Rattle.vb_journal.specs.declared.scan.Scan.{Scan}
use Rattle.vb_journal.specs.declared.scan.Scan.TheVariants as scan
use Rattle.vb_journal.specs.Reading.{front_of, reading, records_in, behind_gate, IsReadBack, IsWritten, AreWritten}

-- What bytes begin with: a byte that is not 1; or a gate of 1 and a record as it stands on a disk, with its payload's length; or neither. Neither are no bytes at all, and a gate of 1 with no such record.
abbrev pub Begins : List ℕ → Front → Type 0
Begins bytes front.Closed = (gate : ℕ) × (rest : List ℕ) × (bytes ≡ gate ∷ rest) × (gate ≢ 1)
Begins bytes (front.Holds r len) = (part : List ℕ) × (rest : List ℕ) × IsWritten r part × (bytes ≡ part ++ rest) × (length part ≡ 5 + len)
Begins bytes front.Outside =
    (bytes ≡ [])
    ⊎ ((slice_index bytes 0 ≡ 1) × ((r : Record) (part rest : List ℕ) → IsWritten r part → bytes ≢ part ++ rest))

-- bytes that are records, one after another, and then a closed gate, whatever stands behind that
pub record IsBook (bytes : List ℕ) (records : List Record) (end : ℕ) : Type 0 where
  pub parts : List ℕ
  pub gate : ℕ
  pub behind : List ℕ
  pub written : AreWritten records parts
  pub joined : bytes ≡ parts ++ gate ∷ behind
  pub closed : gate ≢ 1
  pub stands : end ≡ length parts

-- bytes that are records, one after another, and then something outside the format
pub record IsDamaged (bytes : List ℕ) (place : ℕ) : Type 0 where
  pub records : List Record
  pub parts : List ℕ
  pub behind : List ℕ
  pub written : AreWritten records parts
  pub joined : bytes ≡ parts ++ behind
  pub outside : Begins behind front.Outside
  pub stands : place ≡ length parts

-- what a reading says of bytes
abbrev pub SaysOf : List ℕ → Scan → Type 0
SaysOf bytes (scan.Whole records end) = IsBook bytes records end
SaysOf bytes (scan.Damaged place) = IsDamaged bytes place

-- a reading says what bytes are, and nothing else can be said of them; the same of what they begin with
pub record ReadsAll : Type 0 where
  pub begins : (bytes : List ℕ) → Begins bytes (front_of bytes)
  pub begins_so : (bytes : List ℕ) (begins : Front) → Begins bytes begins → front_of bytes ≡ begins
  pub says : (bytes : List ℕ) → SaysOf bytes (reading bytes)
  pub says_so : (bytes : List ℕ) (read : Scan) → SaysOf bytes read → reading bytes ≡ read

-- What appends do to what a disk reads as. The writes of an append add its record behind all others, and the next gate stands five bytes and a payload further on. Where some of them failed, the record is there or it is not, and nothing else changed.
pub record AppendsTell (r : Record) (old : List ℕ) (records : List Record) (end : ℕ) : Type 0 where
  pub done : reading (noted_at end (behind_gate r) old) ≡ scan.Whole (records ++ r ∷ []) (end + 5 + length (payload_of r))
  pub part : (new : List ℕ) → NotedPart end (behind_gate r) old new → (records_in new ≡ records) ⊎ (records_in new ≡ records ++ r ∷ [])
  pub behind : (new : List ℕ) → take (end + 1) new ≡ take (end + 1) old → reading new ≡ scan.Whole records end

-- for each record that its payload gives back, on each disk that reads as records
abbrev pub AppendsAreRead : Type 0
AppendsAreRead = (r : Record) (old : List ℕ) (records : List Record) (end : ℕ) → IsReadBack r → reading old ≡ scan.Whole records end → AppendsTell r old records end

-- the format in numbers
pub record InNumbers : Type 0 where
  pub no_byte : reading [] ≡ scan.Damaged 0
  pub new_disk : reading (0 ∷ []) ≡ scan.Whole [] 0
  pub other_gate : reading (2 ∷ 1 ∷ []) ≡ scan.Whole [] 0
  pub open_gate : reading (1 ∷ []) ≡ scan.Damaged 0
  pub no_payload : reading (1 ∷ 0 ∷ 0 ∷ 0 ∷ 1 ∷ []) ≡ scan.Damaged 0
  pub too_long : (rest : List ℕ) → reading (1 ∷ 2 ∷ 0 ∷ 178 ∷ 0 ∷ rest) ≡ scan.Damaged 0
  pub layout : (r : Record) → let n = length (payload_of r) in behind_gate r ≡ n / 16777216 % 256 ∷ n / 65536 % 256 ∷ n / 256 % 256 ∷ n % 256 ∷ payload_of r ++ 0 ∷ []
  pub role : (role : Role) (log : List LogEntry) → seq_of (noted.State role log) ≡ 0
  pub rows : (batch : Batch) → seq_of (noted.Rows batch) ≡ batch.position.at
  pub roll : (to : ℕ) → seq_of (noted.Roll to) ≡ to
