-- what a disk reads as after the writes of an append
use Rattle.std.proofs.Common.{◌≡◌, ◌≢◌, ◌⊎◌, inl, inr, ℕ, ◌+◌, ◌-◌, ◌<◌, List, [], ◌∷◌, ◌++◌, length, take, drop, refl, sym, ◌∙◌, ap, arith, length-append, take-append-drop, append_assoc}
use Rattle.std.specs.Prelude.{get_or}
use Rattle.std.specs.Int.{w32, to_be_bytes}
use Rattle.std.proofs.lemmas.Bool.{cases_eq}
use Rattle.std.proofs.lemmas.List.{take_at, take-take, drop_at, drop_more, length-take-le}
use Rattle.std.proofs.lemmas.Nat.{from_be_bytes-to_be_bytes_4}
use Rattle.vb_types.specs.declared.journal.Record.{Record}
use Rattle.vb_disk.specs.Disks.{Torn, written}
use Rattle.vb_disk.proofs.Rewritten.{is_written, written_is_torn}
use Rattle.vb_journal.specs.declared.scan.TheConstants.{OPEN}
use Rattle.vb_journal.specs.declared.scan.Scan.TheVariants as scan
use Rattle.vb_journal.specs.Books.{EndsAt, NotedPart, noted_at}
use Rattle.vb_journal.specs.Payloads.{payload_of}
use Rattle.vb_journal.specs.Reading.{reading, records_of, records_in, behind_gate, IsWritten, IsReadBack}
use Rattle.vb_journal.specs.ReadingLaws.{IsBook, AppendsTell}
use Rattle.vb_journal.proofs.Readings.{book_read, book_of_reading, written_push}

-- as it is written, it stands on a disk
spelled : Record → List ℕ
spelled r = OPEN ∷ to_be_bytes w32 (length (payload_of r)) ++ payload_of r

spelled_is : (r : Record) → IsReadBack r → IsWritten r (spelled r)
unfolding spelled
spelled_is r is = record {
  four = to_be_bytes w32 (length (payload_of r));
  payload = payload_of r;
  joined = refl;
  are_four = refl;
  long = from_be_bytes-to_be_bytes_4 (length (payload_of r)) (omega (arith, is.short));
  short = is.short;
  says = is.says;
}

length_spelled : (r : Record) → length (spelled r) ≡ length (behind_gate r)
unfolding spelled behind_gate
length_spelled r =
    let four = to_be_bytes w32 (length (payload_of r)) in
    omega (arith, length-append (OPEN ∷ four) (payload_of r), length-append (four ++ payload_of r) (0 ∷ []), length-append four (payload_of r))

length_behind : (r : Record) → length (behind_gate r) ≡ 5 + length (payload_of r)
unfolding spelled
length_behind r =
    let four = to_be_bytes w32 (length (payload_of r)) in
    omega (arith, length_spelled r, length-append (OPEN ∷ four) (payload_of r))

gate_and_behind : (r : Record) (more : List ℕ) → OPEN ∷ (behind_gate r ++ more) ≡ spelled r ++ 0 ∷ more
unfolding spelled behind_gate
gate_and_behind r more =
    let four = to_be_bytes w32 (length (payload_of r)) in
    ap (λ (l : List ℕ). OPEN ∷ l) (append_assoc (four ++ payload_of r) (0 ∷ []) more)

read_as : (bytes : List ℕ) (records : List Record) (end : ℕ) → reading bytes ≡ scan.Whole records end → records_in bytes ≡ records
unfolding records_in
read_as bytes records end e = ap records_of e

-- it ends there, with these records
pub ends_with : (bytes : List ℕ) (records : List Record) (end : ℕ) → reading bytes ≡ scan.Whole records end → EndsAt end bytes × (records_in bytes ≡ records)
ends_with bytes records end e = let is = read_as bytes records end e in (e ∙ ap (λ rs. scan.Whole rs end) (sym is), is)

module _ (old : List ℕ) (records : List Record) (end : ℕ) (reads : reading old ≡ scan.Whole records end) where
  book : IsBook old records end
  book = book_of_reading old records end reads

  pub gate_within : end < length old
  gate_within = omega (arith, ap length book.joined, book.stands, length-append book.parts (book.gate ∷ book.behind))

  front : take end old ≡ book.parts
  front = ap (take end) book.joined ∙ take_at book.parts (book.gate ∷ book.behind) end (sym book.stands)

  -- what stands behind the closed gate tells nothing
  pub behind_is_ignored : (new : List ℕ) → take (end + 1) new ≡ take (end + 1) old → reading new ≡ scan.Whole records end
  behind_is_ignored new same =
      let gated : take (end + 1) old ≡ book.parts ++ book.gate ∷ [] =
      ap (take (end + 1)) (book.joined ∙ sym (append_assoc book.parts (book.gate ∷ []) book.behind))
      ∙ take_at (book.parts ++ book.gate ∷ []) book.behind (end + 1) (omega (arith, book.stands, length-append book.parts (book.gate ∷ []))) in
      book_read new records end (record {
        parts = book.parts;
        gate = book.gate;
        behind = drop (end + 1) new;
        written = book.written;
        joined =
            sym (take-append-drop (end + 1) new) ∙ ap (λ (l : List ℕ). l ++ drop (end + 1) new) (same ∙ gated)
            ∙ append_assoc book.parts (book.gate ∷ []) (drop (end + 1) new);
        closed = book.closed;
        stands = book.stands;
      })

  module _ (r : Record) (sound : IsReadBack r) where
    -- bytes with this record behind the gate
    pub record Staged (new : List ℕ) : Type 0 where
      pub more : List ℕ
      pub before : take end new ≡ take end old
      pub behind : drop (end + 1) new ≡ behind_gate r ++ more
      pub within : end < length new

    split : (new : List ℕ) (s : Staged new) → new ≡ book.parts ++ get_or new end 0 ∷ (behind_gate r ++ s.more)
    split new s =
        sym (take-append-drop end new)
        ∙ (λ i. (s.before ∙ front) i ++ drop_more new end 0 s.within i)
        ∙ ap (λ (l : List ℕ). book.parts ++ get_or new end 0 ∷ l) s.behind

    -- an open gate in front of it appends it
    pub opened : (new : List ℕ) → Staged new → get_or new end 0 ≡ OPEN → reading new ≡ scan.Whole (records ++ r ∷ []) (end + length (behind_gate r))
    opened new s gate = book_read new (records ++ r ∷ []) (end + length (behind_gate r)) (record {
      parts = book.parts ++ spelled r;
      gate = 0;
      behind = s.more;
      written = written_push records r book.parts (spelled r) book.written (spelled_is r sound);
      joined =
          split new s ∙ ap (λ g. book.parts ++ g ∷ (behind_gate r ++ s.more)) gate ∙ ap (λ (l : List ℕ). book.parts ++ l) (gate_and_behind r s.more)
          ∙ sym (append_assoc book.parts (spelled r) (0 ∷ s.more));
      closed = λ e. absurd (omega (arith, e));
      stands = omega (arith, book.stands, length-append book.parts (spelled r), length_spelled r);
    })

    -- any other gate does not
    pub left_shut : (new : List ℕ) → Staged new → get_or new end 0 ≢ OPEN → reading new ≡ scan.Whole records end
    left_shut new s gate = book_read new records end (record {
      parts = book.parts;
      gate = get_or new end 0;
      behind = behind_gate r ++ s.more;
      written = book.written;
      joined = split new s;
      closed = gate;
      stands = book.stands;
    })

    pub stage_torn : (new : List ℕ) → Torn end 1 (written (end + 1) (behind_gate r) old) new → Staged new
    stage_torn new torn =
        let rest = drop (end + 1 + length (behind_gate r)) old in
        let is = is_written (end + 1) (behind_gate r) old (omega (arith, gate_within)) in
        let stage = written (end + 1) (behind_gate r) old in record {
          more = rest;
          before = torn.before ∙ sym (take-take end (end + 1) stage (omega arith)) ∙ ap (take end) is.before ∙ take-take end (end + 1) old (omega arith);
          behind =
              torn.behind ∙ ap (drop (end + 1)) (append_assoc (take (end + 1) old) (behind_gate r) rest)
              ∙ drop_at (take (end + 1) old) (behind_gate r ++ rest) (end + 1) (length-take-le (end + 1) old (omega (arith, gate_within)));
          within = omega (arith, torn.no_shorter, is.size, gate_within);
        }

    noted_torn : Torn end 1 (written (end + 1) (behind_gate r) old) (noted_at end (behind_gate r) old)
    noted_torn =
        let is = is_written (end + 1) (behind_gate r) old (omega (arith, gate_within)) in
        written_is_torn end (1 ∷ []) (written (end + 1) (behind_gate r) old) (omega (arith, is.size, gate_within))

    gate_noted : get_or (noted_at end (behind_gate r) old) end 0 ≡ OPEN
    gate_noted =
        let new = noted_at end (behind_gate r) old in
        let size = is_written (end + 1) (behind_gate r) old (omega (arith, gate_within)) in
        let is = is_written end (1 ∷ []) (written (end + 1) (behind_gate r) old) (omega (arith, size.size, gate_within)) in
        let one : 1 ≡ end + 1 - end = omega arith in
        let cut : take 1 (drop end new) ≡ 1 ∷ [] = ap (λ n. take n (drop end new)) one ∙ is.there in
        let first : get_or new end 0 ∷ [] ≡ 1 ∷ [] = sym (ap (take 1) (drop_more new end 0 (stage_torn new noted_torn).within)) ∙ cut in cc

    -- the writes of an append append it
    pub noted : reading (noted_at end (behind_gate r) old) ≡ scan.Whole (records ++ r ∷ []) (end + length (behind_gate r))
    noted = opened (noted_at end (behind_gate r) old) (stage_torn _ noted_torn) gate_noted

    -- where they were not all done, it is there or it is not
    pub noted_in_part : (new : List ℕ) → NotedPart end (behind_gate r) old new → (reading new ≡ scan.Whole records end) ⊎ (reading new ≡ scan.Whole (records ++ r ∷ []) (end + length (behind_gate r)))
    noted_in_part new (inl torn) = inl (behind_is_ignored new torn.before)
    noted_in_part new (inr (inl torn)) = elim (cases_eq (get_or new end 0) OPEN) [
      | inl gate ↦ inr (opened new (stage_torn new torn) gate)
      | inr gate ↦ inl (left_shut new (stage_torn new torn) gate)
    ]
    noted_in_part new (inr (inr all)) = inr (ap reading all ∙ noted)

-- what stands behind a gate, as it is put together: room for the length, the payload, the length over that room, and a closed gate
pub behind_made : (r : Record) (zeros items now front made : List ℕ) (len : ℕ) → length zeros ≡ 4 → items ≡ zeros ++ payload_of r → len ≡ length items → now ≡ items
    → front ≡ to_be_bytes w32 (len - 4) ++ drop 4 now → made ≡ take len (front ++ drop (length front) items) ++ 0 ∷ [] → made ≡ behind_gate r
unfolding behind_gate
behind_made r zeros items now front made len four is long same fronted pushed =
    let payload = payload_of r in
    let size : len ≡ 4 + length payload = omega (arith, long, ap length is, length-append zeros payload, four) in
    let left : drop 4 now ≡ payload = ap (drop 4) (same ∙ is) ∙ drop_at zeros payload 4 four in
    let n : len - 4 ≡ length payload = omega (arith, size) in
    let whole : front ≡ to_be_bytes w32 (length payload) ++ payload = fronted ∙ (λ i. to_be_bytes w32 (n i) ++ left i) in
    let front_long : length front ≡ len = omega (arith, size, ap length whole, length-append (to_be_bytes w32 (length payload)) payload) in
    pushed ∙ ap (λ (l : List ℕ). l ++ 0 ∷ []) (take_at front (drop (length front) items) len front_long ∙ whole)

-- all of it, of one append
pub appends_tell : (r : Record) (old : List ℕ) (records : List Record) (end : ℕ) → IsReadBack r → reading old ≡ scan.Whole records end → AppendsTell r old records end
appends_tell r old records end back reads = record {
  done = noted old records end reads r back ∙ ap (scan.Whole (records ++ r ∷ [])) (omega (arith, length_behind r));
  part = λ new part. elim (noted_in_part old records end reads r back new part) [
    | inl before ↦ inl (ends_with new records end before).1
    | inr one ↦ inr (ends_with new (records ++ r ∷ []) (end + length (behind_gate r)) one).1
  ];
  behind = behind_is_ignored old records end reads;
}
