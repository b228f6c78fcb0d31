-- framing extras as they are spelled, and what is read of them
use Rattle.std.specs.Prelude.{◌≡◌, ◌≢◌, ℕ, ◌+◌, ◌*◌, ◌<◌, ◌^◌, List, [], ◌∷◌, ◌++◌, length, Some, None, Ok, Err, ◌⊎◌}
use Rattle.std.specs.Int.{w16, to_be_bytes}
use Rattle.vb_types.specs.declared.status.Status.TheVariants as status
use Rattle.mcbp_kv.specs.Framing.{DURABILITY, requirement_of}

-- a framing extra: an id, and what it says
pub record Extra : Type 0 where
  pub id : ℕ
  pub bytes : List ℕ

-- id and length have room in a half of a byte each
pub record IsExtra (e : Extra) : Type 0 where
  pub id : e.id < 16
  pub length : length e.bytes < 16

-- the first byte of an extra: its id in the high half, its length in the low half
abbrev pub head_of : Extra → ℕ
head_of e = e.id * 16 + length e.bytes

-- the first byte, and what the extra says
abbrev pub extra_spelling : Extra → List ℕ
extra_spelling e = head_of e ∷ e.bytes

-- a level, with or without a timeout of two bytes
pub record IsRequirement (e : Extra) : Type 0 where
  pub id : e.id ≡ DURABILITY
  pub length : (length e.bytes ≡ 1) ⊎ (length e.bytes ≡ 3)

-- a requirement of a level alone
abbrev pub level_extra : ℕ → Extra
level_extra level = record { id = DURABILITY; bytes = level ∷ [] }

-- and one of a level and a timeout, which has two big-endian bytes
abbrev pub timed_extra : ℕ → ℕ → Extra
timed_extra level timeout = record { id = DURABILITY; bytes = level ∷ to_be_bytes w16 timeout }

-- nothing requires nothing, and one requirement its level and its timeout, 0 where it has none; else the first faulty extra decides, whatever stands behind it: one of another id, also where its bytes are missing; a requirement of another length, or of which bytes are missing; or whatever stands behind a requirement
pub record IsReadAsSpelled : Type 0 where
  pub none : requirement_of [] ≡ Ok None
  pub untimed : (level : ℕ) → requirement_of (extra_spelling (level_extra level)) ≡ Ok (Some (record { level = level; timeout = 0 }))
  pub timed :
      (level timeout : ℕ) → timeout < 2 ^ 16
      → requirement_of (extra_spelling (timed_extra level timeout)) ≡ Ok (Some (record { level = level; timeout = timeout }))
  pub other : (e : Extra) (rest : List ℕ) → IsExtra e → e.id ≢ DURABILITY → requirement_of (head_of e ∷ rest) ≡ Err status.UnknownFrameInfo
  pub other_length :
      (e : Extra) (rest : List ℕ) → IsExtra e → e.id ≡ DURABILITY → length e.bytes ≢ 1 → length e.bytes ≢ 3
      → requirement_of (head_of e ∷ rest) ≡ Err status.Einval
  pub cut_short : (e : Extra) (front : List ℕ) → IsRequirement e → length front < length e.bytes → requirement_of (head_of e ∷ front) ≡ Err status.Einval
  pub second : (e next : Extra) (rest : List ℕ) → IsRequirement e → IsExtra next → next.id ≡ DURABILITY → requirement_of (extra_spelling e ++ head_of next ∷ rest) ≡ Err status.Einval
  pub other_behind :
      (e next : Extra) (rest : List ℕ) → IsRequirement e → IsExtra next → next.id ≢ DURABILITY
      → requirement_of (extra_spelling e ++ head_of next ∷ rest) ≡ Err status.UnknownFrameInfo
