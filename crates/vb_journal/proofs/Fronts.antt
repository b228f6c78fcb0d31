-- what bytes begin with, and what they are then
use Rattle.std.proofs.Common.{◌≡◌, ◌≢◌, inl, inr, ℕ, ◌+◌, ◌≤◌, Bool, true, false, cond, List, [], ◌∷◌, ◌++◌, length, take, drop, refl, sym, ◌∙◌, ap, arith, length-append, length-drop, take-append-drop, append_assoc}
use Rattle.std.specs.Prelude.{◌==◌, not, nat_lt, if◌then◌else◌, slice_index, slice_range, Option, Some, None}
use Rattle.std.specs.Int.{w32, from_be_bytes}
use Rattle.std.proofs.lemmas.Bool.{cases_eq}
use Rattle.std.proofs.lemmas.Bool.Decides.{nat_tests}
use Rattle.std.proofs.lemmas.List.{take_at, drop_at, length-take-le}
use Rattle.std.proofs.Math.Seq.{take-add}
use Rattle.vb_types.specs.declared.journal.Record.{Record}
use Rattle.vb_journal.specs.declared.payload.TheConstants.{MAX_PAYLOAD}
use Rattle.vb_journal.specs.declared.scan.TheConstants.{OPEN, HEAD_LEN}
use Rattle.vb_journal.specs.declared.scan.Front.{Front}
use Rattle.vb_journal.specs.declared.scan.Front.TheVariants as front
use Rattle.vb_journal.specs.Payloads.{record_in}
use Rattle.vb_journal.specs.Reading.{front_of, payload_len, holding, IsWritten}
use Rattle.vb_journal.specs.ReadingLaws.{Begins}

-- what passed all tests
record Passed (bytes : List ℕ) (r : Record) (len : ℕ) : Type 0 where
  pub whole : HEAD_LEN + payload_len bytes ≤ length bytes
  pub opened : slice_index bytes 0 ≡ OPEN
  pub short : payload_len bytes ≤ MAX_PAYLOAD
  pub says : record_in (slice_range bytes HEAD_LEN (HEAD_LEN + payload_len bytes)) ≡ Some r
  pub long : payload_len bytes ≡ len

holding_is : (found : Option Record) (n len : ℕ) (r : Record) → holding found n ≡ front.Holds r len → (found ≡ Some r) × (n ≡ len)
holding_is None n len r e = absurd (cc e)
holding_is (Some s) n len r e = (ap Some cc, cc)

-- the tests that are left behind the first ones
abbrev pub by_whole : List ℕ → Front
by_whole bytes =
    if nat_lt (length bytes) (HEAD_LEN + payload_len bytes) then front.Outside
    else holding (record_in (slice_range bytes HEAD_LEN (HEAD_LEN + payload_len bytes))) (payload_len bytes)

abbrev pub by_short : List ℕ → Front
by_short bytes = if nat_lt MAX_PAYLOAD (payload_len bytes) then front.Outside else by_whole bytes

abbrev pub by_head : List ℕ → Front
by_head bytes = if nat_lt (length bytes) HEAD_LEN then front.Outside else by_short bytes

abbrev pub by_gate : List ℕ → Front
by_gate bytes = if not (slice_index bytes 0 == OPEN) then front.Closed else by_head bytes

-- past a test that would have ended elsewhere
past : (b : Bool) (x y z : Front) → (x ≡ z → ⊥) → cond b x y ≡ z → (b ≡ false) × (y ≡ z)
past true x y z other e = absurd (other e)
past false x y z other e = (refl, e)

passed : (bytes : List ℕ) (r : Record) (len : ℕ) → front_of bytes ≡ front.Holds r len → Passed bytes r len
unfolding front_of
passed bytes r len e =
    let some = past (length bytes == 0) front.Outside (by_gate bytes) (front.Holds r len) (λ (no : front.Outside ≡ front.Holds r len). cc) e in
    let opened = past (not (slice_index bytes 0 == OPEN)) front.Closed (by_head bytes) (front.Holds r len) (λ (no : front.Closed ≡ front.Holds r len). cc) some.1 in
    let head = past (nat_lt (length bytes) HEAD_LEN) front.Outside (by_short bytes) (front.Holds r len) (λ (no : front.Outside ≡ front.Holds r len). cc) opened.1 in
    let short = past (nat_lt MAX_PAYLOAD (payload_len bytes)) front.Outside (by_whole bytes) (front.Holds r len) (λ (no : front.Outside ≡ front.Holds r len). cc) head.1 in
    let whole = past (nat_lt (length bytes) (HEAD_LEN + payload_len bytes)) front.Outside _ (front.Holds r len) (λ (no : front.Outside ≡ front.Holds r len). cc) short.1 in
    let said = holding_is (record_in (slice_range bytes HEAD_LEN (HEAD_LEN + payload_len bytes))) (payload_len bytes) len r whole.1 in record {
      whole = grind (arith, nat_tests, whole.0);
      opened = grind (arith, nat_tests, opened.0);
      short = grind (arith, nat_tests, short.0);
      says = said.0;
      long = said.1;
    }

-- an open gate's bytes are its record's, and what stands behind
pub record Parted (bytes : List ℕ) (r : Record) (len : ℕ) : Type 0 where
  pub part : List ℕ
  pub rest : List ℕ
  pub is : IsWritten r part
  pub joined : bytes ≡ part ++ rest
  pub long : length part ≡ HEAD_LEN + len

headed : (bytes : List ℕ) → HEAD_LEN ≤ length bytes → slice_index bytes 0 ≡ OPEN → take HEAD_LEN bytes ≡ OPEN ∷ slice_range bytes 1 HEAD_LEN
headed [] h e = absurd (omega arith)
headed (b ∷ bytes) h e = ap (λ (x : ℕ). x ∷ take 4 bytes) e

pub parted : (bytes : List ℕ) (r : Record) (len : ℕ) → front_of bytes ≡ front.Holds r len → Parted bytes r len
parted bytes r len e =
    let p = passed bytes r len e in
    let n = payload_len bytes in
    let payload = slice_range bytes HEAD_LEN (HEAD_LEN + n) in
    let is_payload : payload ≡ take n (drop HEAD_LEN bytes) = ap (λ k. take k (drop HEAD_LEN bytes)) (omega arith) in
    let size : length payload ≡ n = ap length is_payload ∙ length-take-le n (drop HEAD_LEN bytes) (omega (arith, p.whole, length-drop HEAD_LEN bytes)) in record {
      part = take (HEAD_LEN + n) bytes;
      rest = drop (HEAD_LEN + n) bytes;
      is = record {
        four = slice_range bytes 1 HEAD_LEN;
        payload = payload;
        joined = take-add HEAD_LEN n bytes ∙ (λ i. headed bytes (omega (arith, p.whole)) p.opened i ++ sym is_payload i);
        are_four = length-take-le 4 (drop 1 bytes) (omega (arith, p.whole, length-drop 1 bytes));
        long = sym size;
        short = omega (arith, size, p.short);
        says = p.says;
      };
      joined = sym (take-append-drop (HEAD_LEN + n) bytes);
      long = length-take-le (HEAD_LEN + n) bytes p.whole ∙ ap (λ k. HEAD_LEN + k) p.long;
    }

pub length_written : (r : Record) (part : List ℕ) (is : IsWritten r part) → length part ≡ HEAD_LEN + length is.payload
length_written r part is = omega (arith, ap length is.joined, length-append (OPEN ∷ is.four) is.payload, is.are_four)

-- a record as it stands on a disk is read, whatever stands behind it
pub front_written : (r : Record) (part rest : List ℕ) (is : IsWritten r part) → front_of (part ++ rest) ≡ front.Holds r (length is.payload)
unfolding front_of
front_written r part rest is =
    let bytes = part ++ rest in
    let n = length is.payload in
    let joined : bytes ≡ OPEN ∷ is.four ++ (is.payload ++ rest) = ap (λ (l : List ℕ). l ++ rest) is.joined ∙ append_assoc (OPEN ∷ is.four) is.payload rest in
    let size : length bytes ≡ HEAD_LEN + n + length rest = omega (arith, length-append part rest, length_written r part is) in
    let first : slice_index bytes 0 ≡ OPEN = ap (λ (l : List ℕ). slice_index l 0) joined in
    let four : slice_range bytes 1 HEAD_LEN ≡ is.four = ap (λ (l : List ℕ). slice_range l 1 HEAD_LEN) joined ∙ take_at is.four (is.payload ++ rest) 4 is.are_four in
    let len : payload_len bytes ≡ n = ap (from_be_bytes w32) four ∙ is.long in
    let payload : slice_range bytes HEAD_LEN (HEAD_LEN + n) ≡ is.payload =
    ap (λ k. take k (drop HEAD_LEN bytes)) (omega arith) ∙ ap (λ (l : List ℕ). take n (drop HEAD_LEN l)) joined
    ∙ ap (take n) (drop_at (OPEN ∷ is.four) (is.payload ++ rest) HEAD_LEN (omega (arith, is.are_four))) ∙ take_at is.payload rest n refl in
    let some : (length bytes == 0) ≡ false = grind (arith, nat_tests) in
    let opened : not (slice_index bytes 0 == OPEN) ≡ false = grind (arith, nat_tests) in
    let head : nat_lt (length bytes) HEAD_LEN ≡ false = grind (arith, nat_tests) in
    let short : nat_lt MAX_PAYLOAD n ≡ false = grind (arith, nat_tests, is.short) in
    let whole : nat_lt (length bytes) (HEAD_LEN + n) ≡ false = grind (arith, nat_tests) in
    (λ i. if some i then front.Outside
    else if opened i then front.Closed
    else if head i then front.Outside
    else if nat_lt MAX_PAYLOAD (len i) then front.Outside
    else if nat_lt (length bytes) (HEAD_LEN + len i) then front.Outside
    else holding (record_in (slice_range bytes HEAD_LEN (HEAD_LEN + len i))) (len i))
    ∙ (λ i. if short i then front.Outside else if whole i then front.Outside else holding (record_in (payload i)) n)
    ∙ ap (λ (found : Option Record). holding found n) is.says

-- any other gate is closed
pub front_closed : (gate : ℕ) (rest : List ℕ) → gate ≢ OPEN → front_of (gate ∷ rest) ≡ front.Closed
unfolding front_of
front_closed gate rest other =
    let shut : not (gate == OPEN) ≡ true = grind (arith, nat_tests) in
    let some : (length (gate ∷ rest) == 0) ≡ false = grind (arith, nat_tests) in
    λ i. if some i then front.Outside else if shut i then front.Closed else by_head (gate ∷ rest)

pub front_nil : front_of [] ≡ front.Outside
unfolding front_of
front_nil = refl

never_holding : (found : Option Record) (n : ℕ) → holding found n ≡ front.Closed → ⊥
never_holding None n e = cc e
never_holding (Some r) n e = cc e

never_closed : (bytes : List ℕ) → by_head bytes ≡ front.Closed → ⊥
never_closed bytes e =
    let head = past (nat_lt (length bytes) HEAD_LEN) front.Outside (by_short bytes) front.Closed (λ (no : front.Outside ≡ front.Closed). cc) e in
    let short = past (nat_lt MAX_PAYLOAD (payload_len bytes)) front.Outside (by_whole bytes) front.Closed (λ (no : front.Outside ≡ front.Closed). cc) head.1 in
    let whole = past (nat_lt (length bytes) (HEAD_LEN + payload_len bytes)) front.Outside _ front.Closed (λ (no : front.Outside ≡ front.Closed). cc) short.1 in
    never_holding (record_in (slice_range bytes HEAD_LEN (HEAD_LEN + payload_len bytes))) (payload_len bytes) whole.1

-- bytes that begin with a closed gate
pub shut : (bytes : List ℕ) → front_of bytes ≡ front.Closed → Begins bytes front.Closed
unfolding front_of
shut [] e = absurd (cc e)
shut (gate ∷ rest) e =
    let some = past (length (gate ∷ rest) == 0) front.Outside (by_gate (gate ∷ rest)) front.Closed (λ (no : front.Outside ≡ front.Closed). cc) e in
    elim (cases_eq gate OPEN) [
      | inl opened ↦
          let is_open : not (gate == OPEN) ≡ false = grind (arith, nat_tests) in
          absurd (never_closed (gate ∷ rest) (sym (λ i. if is_open i then front.Closed else by_head (gate ∷ rest)) ∙ some.1))
      | inr other ↦ (gate, rest, refl, other)
    ]

-- bytes that begin with neither
pub neither : (bytes : List ℕ) → front_of bytes ≡ front.Outside → Begins bytes front.Outside
neither [] e = inl refl
neither (gate ∷ rest) e = inr (
  elim (cases_eq gate OPEN) [ inl opened ↦ opened | inr other ↦ absurd (cc (e, front_closed gate rest other)) ],
  λ r part more is joined. absurd (cc (e, ap front_of joined, front_written r part more is)),
)

pub begins_as : (bytes : List ℕ) (begins : Front) → front_of bytes ≡ begins → Begins bytes begins
begins_as bytes front.Closed e = shut bytes e
begins_as bytes (front.Holds r len) e = let p = parted bytes r len e in (p.part, p.rest, p.is, p.joined, p.long)
begins_as bytes front.Outside e = neither bytes e

-- and nothing else can be said
pub begins_only : (bytes : List ℕ) (begins : Front) → Begins bytes begins → front_of bytes ≡ begins
begins_only bytes front.Closed (gate, rest, joined, other) = ap front_of joined ∙ front_closed gate rest other
begins_only bytes (front.Holds r len) (part, rest, is, joined, long) =
    ap front_of joined ∙ front_written r part rest is ∙ ap (front.Holds r) (omega (arith, length_written r part is, long))
begins_only bytes front.Outside (inl none) = ap front_of none ∙ front_nil
begins_only bytes front.Outside (inr (opened, none)) = outside (front_of bytes) refl
  where
    outside : (begins : Front) → front_of bytes ≡ begins → begins ≡ front.Outside
    outside front.Closed e = let s = shut bytes e in absurd (s.3 (sym (ap (λ (l : List ℕ). slice_index l 0) s.2) ∙ opened))
    outside (front.Holds r len) e = let p = parted bytes r len e in absurd (none r p.part p.rest p.is p.joined)
    outside front.Outside e = refl
