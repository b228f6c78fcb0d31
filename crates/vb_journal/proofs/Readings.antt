-- records one after another, and what they read as
use Rattle.std.proofs.Common.{◌≡◌, inl, ℕ, zero, suc, ◌+◌, ◌-◌, ◌≤◌, List, [], ◌∷◌, ◌++◌, length, drop, refl, sym, ◌∙◌, ap, subst, arith, zero-add, length-append, length-drop, append_assoc, append-nil}
use Rattle.std.proofs.lemmas.List.{drop_at, nil_from_length}
use Rattle.vb_types.specs.declared.journal.Record.{Record}
use Rattle.vb_journal.specs.declared.scan.TheConstants.{HEAD_LEN}
use Rattle.vb_journal.specs.declared.scan.Front.{Front}
use Rattle.vb_journal.specs.declared.scan.Front.TheVariants as front
use Rattle.vb_journal.specs.declared.scan.Scan.{Scan}
use Rattle.vb_journal.specs.declared.scan.Scan.TheVariants as scan
use Rattle.vb_journal.specs.Reading.{front_of, onto, read_by, reading, IsWritten, AreWritten}
use Rattle.vb_journal.specs.ReadingLaws.{IsBook, IsDamaged, SaysOf}
use Rattle.vb_journal.proofs.Fronts.{front_written, front_closed, length_written, parted, shut, neither, begins_only}

-- what is read, behind these records
fronted : List Record → Scan → Scan
fronted [] read = read
fronted (r ∷ records) read = onto r (fronted records read)

fronted_ok : (records : List Record) (end : ℕ) → fronted records (scan.Whole [] end) ≡ scan.Whole records end
unfolding fronted
fronted_ok [] end = refl
fronted_ok (r ∷ records) end = ap (onto r) (fronted_ok records end)

fronted_err : (records : List Record) (place : ℕ) → fronted records (scan.Damaged place) ≡ scan.Damaged place
unfolding fronted
fronted_err [] place = refl
fronted_err (r ∷ records) place = ap (onto r) (fronted_err records place)

-- records are no more than their bytes
pub fewer : (records : List Record) (parts : List ℕ) → AreWritten records parts → length records ≤ length parts
fewer [] parts w = omega arith
fewer (r ∷ records) parts (part, more, is, rest, joined) =
    omega (arith, ap length joined, length-append part more, length_written r part is, fewer records more rest)

-- one more behind them
pub written_push : (records : List Record) (r : Record) (parts part : List ℕ) → AreWritten records parts → IsWritten r part → AreWritten (records ++ r ∷ []) (parts ++ part)
written_push [] r parts part none is = (part, [], is, refl, ap (λ (l : List ℕ). l ++ part) none ∙ sym (append-nil part))
written_push (s ∷ records) r parts part (front_part, more, is_front, rest, joined) is =
    (front_part, more ++ part, is_front, written_push records r more part rest is, ap (λ (l : List ℕ). l ++ part) joined ∙ append_assoc front_part more part)

-- reading goes past records
past_records : (records : List Record) (parts behind : List ℕ) (n place : ℕ) → AreWritten records parts
    → read_by (length records + n) (front_of (parts ++ behind)) place (parts ++ behind) ≡ fronted records (read_by n (front_of behind) (place + length parts) behind)
unfolding fronted
past_records [] parts behind n place none =
    let same : parts ++ behind ≡ behind = ap (λ (l : List ℕ). l ++ behind) none in
    let there : place ≡ place + length parts = omega (arith, ap length none) in
    (λ i. read_by (zero-add n i) (front_of (same i)) (there i) (same i))
past_records (r ∷ records) parts behind n place (part, more, is, rest, joined) =
    let len = length is.payload in
    let whole : parts ++ behind ≡ part ++ (more ++ behind) = ap (λ (l : List ℕ). l ++ behind) joined ∙ append_assoc part more behind in
    let begins : front_of (parts ++ behind) ≡ front.Holds r len = ap front_of whole ∙ front_written r part (more ++ behind) is in
    let left : drop (HEAD_LEN + len) (parts ++ behind) ≡ more ++ behind = ap (drop (HEAD_LEN + len)) whole ∙ drop_at part (more ++ behind) (HEAD_LEN + len) (length_written r part is) in
    let there : place + (HEAD_LEN + len) + length more ≡ place + length parts = omega (arith, ap length joined, length-append part more, length_written r part is) in
    let gates : length (r ∷ records) + n ≡ suc (length records + n) = omega arith in
    (λ i. read_by (gates i) (begins i) place (parts ++ behind))
    ∙ (λ i. onto r (read_by (length records + n) (front_of (left i)) (place + (HEAD_LEN + len)) (left i)))
    ∙ ap (onto r) (past_records records more behind n (place + (HEAD_LEN + len)) rest)
    ∙ (λ i. onto r (fronted records (read_by n (front_of behind) (there i) behind)))

-- so do whole readings
reading_past : (records : List Record) (parts behind : List ℕ) → AreWritten records parts
    → reading (parts ++ behind) ≡ fronted records (read_by (length (parts ++ behind) - length records) (front_of behind) (length parts) behind)
unfolding reading
reading_past records parts behind w =
    let n = length (parts ++ behind) - length records in
    let gates : length (parts ++ behind) ≡ length records + n = omega (arith, fewer records parts w, length-append parts behind) in
    ap (λ k. read_by k (front_of (parts ++ behind)) 0 (parts ++ behind)) gates ∙ past_records records parts behind n 0 w
    ∙ ap (λ k. fronted records (read_by n (front_of behind) k behind)) (zero-add (length parts))

-- a book is read
pub book_read : (bytes : List ℕ) (records : List Record) (end : ℕ) → IsBook bytes records end → reading bytes ≡ scan.Whole records end
book_read bytes records end book =
    let behind = book.gate ∷ book.behind in
    let n = length (book.parts ++ behind) - length records in
    let some : n ≡ suc (n - 1) = omega (arith, fewer records book.parts book.written, length-append book.parts behind) in
    ap reading book.joined ∙ reading_past records book.parts behind book.written
    ∙ ap (fronted records)
    ((λ i. read_by (some i) (front_closed book.gate book.behind book.closed i) (length book.parts) behind))
    ∙ fronted_ok records (length book.parts) ∙ ap (scan.Whole records) (sym book.stands)

-- and damage is found
outside_read : (n place : ℕ) (bytes : List ℕ) → front_of bytes ≡ front.Outside → read_by n (front_of bytes) place bytes ≡ scan.Damaged place
outside_read zero place bytes e = refl
outside_read (suc n) place bytes e = ap (λ b. read_by (suc n) b place bytes) e

pub damage_read : (bytes : List ℕ) (place : ℕ) → IsDamaged bytes place → reading bytes ≡ scan.Damaged place
damage_read bytes place is =
    let n = length (is.parts ++ is.behind) - length is.records in
    ap reading is.joined ∙ reading_past is.records is.parts is.behind is.written
    ∙ ap (fronted is.records) (outside_read n (length is.parts) is.behind (begins_only is.behind front.Outside is.outside))
    ∙ fronted_err is.records (length is.parts) ∙ ap scan.Damaged (sym is.stands)

-- what was read of bytes that stand from a place on
abbrev SaysFrom : ℕ → List ℕ → Scan → Type 0
SaysFrom place bytes (scan.Whole records end) = IsBook bytes records (end - place) × (place ≤ end)
SaysFrom place bytes (scan.Damaged end) = IsDamaged bytes (end - place) × (place ≤ end)

-- a record in front of it
said_onto : (place : ℕ) (bytes : List ℕ) (r : Record) (len : ℕ) → front_of bytes ≡ front.Holds r len → (read : Scan)
    → SaysFrom (place + (HEAD_LEN + len)) (drop (HEAD_LEN + len) bytes) read → SaysFrom place bytes (onto r read)
said_onto place bytes r len e (scan.Whole records end) (book, above) =
    let p = parted bytes r len e in
    let left : drop (HEAD_LEN + len) bytes ≡ p.rest = ap (drop (HEAD_LEN + len)) p.joined ∙ drop_at p.part p.rest (HEAD_LEN + len) p.long in (
      record {
        parts = p.part ++ book.parts;
        gate = book.gate;
        behind = book.behind;
        written = (p.part, book.parts, p.is, book.written, refl);
        joined = p.joined ∙ ap (λ (l : List ℕ). p.part ++ l) (sym left ∙ book.joined) ∙ sym (append_assoc p.part book.parts (book.gate ∷ book.behind));
        closed = book.closed;
        stands = omega (arith, book.stands, length-append p.part book.parts, p.long);
      },
      omega (arith, above),
    )
said_onto place bytes r len e (scan.Damaged end) (is, above) =
    let p = parted bytes r len e in
    let left : drop (HEAD_LEN + len) bytes ≡ p.rest = ap (drop (HEAD_LEN + len)) p.joined ∙ drop_at p.part p.rest (HEAD_LEN + len) p.long in (
      record {
        records = r ∷ is.records;
        parts = p.part ++ is.parts;
        behind = is.behind;
        written = (p.part, is.parts, p.is, is.written, refl);
        joined = p.joined ∙ ap (λ (l : List ℕ). p.part ++ l) (sym left ∙ is.joined) ∙ sym (append_assoc p.part is.parts is.behind);
        outside = is.outside;
        stands = omega (arith, is.stands, length-append p.part is.parts, p.long);
      },
      omega (arith, above),
    )

says_by : (n place : ℕ) (bytes : List ℕ) → length bytes ≤ n → (begins : Front) → front_of bytes ≡ begins → SaysFrom place bytes (read_by n begins place bytes)
says_by zero place bytes few begins e = (
  record {
    records = [];
    parts = [];
    behind = bytes;
    written = refl;
    joined = refl;
    outside = inl (nil_from_length bytes (omega arith));
    stands = omega arith;
  },
  omega arith,
)
says_by (suc n) place bytes few front.Closed e = let s = shut bytes e in (
  record { parts = []; gate = s.0; behind = s.1; written = refl; joined = s.2; closed = s.3; stands = omega arith },
  omega arith,
)
says_by (suc n) place bytes few front.Outside e =
    (record { records = []; parts = []; behind = bytes; written = refl; joined = refl; outside = neither bytes e; stands = omega arith }, omega arith)
says_by (suc n) place bytes few (front.Holds r len) e =
    let rest = drop (HEAD_LEN + len) bytes in
    said_onto place bytes r len e _ (says_by n (place + (HEAD_LEN + len)) rest (omega (arith, length-drop (HEAD_LEN + len) bytes)) (front_of rest) refl)

from_start : (bytes : List ℕ) (read : Scan) → SaysFrom 0 bytes read → SaysOf bytes read
from_start bytes (scan.Whole records end) (book, above) = let e : end - 0 ≡ end = omega arith in subst (IsBook bytes records) e book
from_start bytes (scan.Damaged place) (is, above) = let e : place - 0 ≡ place = omega arith in subst (IsDamaged bytes) e is

pub says_all : (bytes : List ℕ) → SaysOf bytes (reading bytes)
unfolding reading
says_all bytes = from_start bytes _ (says_by (length bytes) 0 bytes (omega arith) (front_of bytes) refl)

pub says_only : (bytes : List ℕ) (read : Scan) → SaysOf bytes read → reading bytes ≡ read
says_only bytes (scan.Whole records end) book = book_read bytes records end book
says_only bytes (scan.Damaged place) is = damage_read bytes place is

-- what was read as a book is one
pub book_of_reading : (bytes : List ℕ) (records : List Record) (end : ℕ) → reading bytes ≡ scan.Whole records end → IsBook bytes records end
book_of_reading bytes records end e = let P : Scan → Type 0 = SaysOf bytes in subst P e (says_all bytes)
