-- the records in front of a place of a disk, where its bytes are told
use Rattle.std.proofs.Common.{◌≡◌, ℕ, ◌+◌, List, [], ◌∷◌, ◌++◌, length, drop, refl, sym, ◌∙◌, ap, subst, arith, length-append, append_assoc}
use Rattle.std.specs.Prelude.{Option, Some, None, IfSome}
use Rattle.std.proofs.lemmas.List.{drop_at}
use Rattle.vb_types.specs.declared.journal.Record.{Record}
use Rattle.vb_journal.specs.declared.scan.TheConstants.{HEAD_LEN}
use Rattle.vb_journal.specs.declared.scan.Front.{Front}
use Rattle.vb_journal.specs.declared.scan.Front.TheVariants as front
use Rattle.vb_journal.specs.declared.scan.Scan.TheVariants as scan
use Rattle.vb_disk.specs.Disks.{Storage}
use Rattle.vb_journal.specs.Books.{Found}
use Rattle.vb_journal.specs.Reading.{front_of, reading, AreWritten}
use Rattle.vb_journal.proofs.Fronts.{parted, shut, neither}
use Rattle.vb_journal.proofs.Readings.{book_read, damage_read, written_push}

-- these records stand in front of this place
pub record Come (records : List Record) (place : ℕ) (bytes : List ℕ) : Type 0 where
  pub parts : List ℕ
  pub written : AreWritten records parts
  pub joined : bytes ≡ parts ++ drop place bytes
  pub stands : place ≡ length parts

pub come_none : (held : Option (List ℕ)) → IfSome held (Come [] 0)
come_none None = tt
come_none (Some bytes) = record { parts = []; written = refl; joined = refl; stands = refl }

-- what was found at a place
abbrev pub IsThere : Option (List ℕ) → ℕ → Front → Type 0
IsThere held place begins = IfSome held (λ bytes. front_of (drop place bytes) ≡ begins)

-- what was found on the way was there from the start on
pub there_is : (old mid new : Storage) (place : ℕ) (found : Option Front) (begins : Front) → found ≡ Some begins → mid.held ≡ old.held → Found mid new place found → IsThere old.held place begins
there_is old mid new place found begins is same there =
    subst (λ held. IsThere held place begins) same (let P : Option Front → Type 0 = Found mid new place in subst P is there)

-- one record more
pub come_more : (held : Option (List ℕ)) (records : List Record) (place : ℕ) (r : Record) (len : ℕ) → IfSome held (Come records place) → IsThere held place (front.Holds r len)
    → IfSome held (Come (records ++ r ∷ []) (place + (HEAD_LEN + len)))
come_more None records place r len come there = tt
come_more (Some bytes) records place r len come there =
    let p = parted (drop place bytes) r len there in
    let end : place + (HEAD_LEN + len) ≡ length (come.parts ++ p.part) = omega (arith, come.stands, p.long, length-append come.parts p.part) in
    let whole : bytes ≡ (come.parts ++ p.part) ++ p.rest = come.joined ∙ ap (λ (l : List ℕ). come.parts ++ l) p.joined ∙ sym (append_assoc come.parts p.part p.rest) in record {
      parts = come.parts ++ p.part;
      written = written_push records r come.parts p.part come.written p.is;
      joined = whole ∙ ap (λ (l : List ℕ). (come.parts ++ p.part) ++ l) (sym (ap (drop (place + (HEAD_LEN + len))) whole ∙ drop_at (come.parts ++ p.part) p.rest (place + (HEAD_LEN + len)) (sym end)));
      stands = end;
    }

-- the closed gate behind them
pub come_closed : (held : Option (List ℕ)) (records : List Record) (place : ℕ) → IfSome held (Come records place) → IsThere held place front.Closed
    → IfSome held (λ bytes. reading bytes ≡ scan.Whole records place)
come_closed None records place come there = tt
come_closed (Some bytes) records place come there =
    let s = shut (drop place bytes) there in book_read bytes records place (record {
      parts = come.parts;
      gate = s.0;
      behind = s.1;
      written = come.written;
      joined = come.joined ∙ ap (λ (l : List ℕ). come.parts ++ l) s.2;
      closed = s.3;
      stands = come.stands;
    })

-- or what is outside the format
pub come_outside : (held : Option (List ℕ)) (records : List Record) (place : ℕ) → IfSome held (Come records place) → IsThere held place front.Outside
    → IfSome held (λ bytes. reading bytes ≡ scan.Damaged place)
come_outside None records place come there = tt
come_outside (Some bytes) records place come there = damage_read bytes place (record {
  records = records;
  parts = come.parts;
  behind = drop place bytes;
  written = come.written;
  joined = come.joined;
  outside = neither (drop place bytes) there;
  stands = come.stands;
})
