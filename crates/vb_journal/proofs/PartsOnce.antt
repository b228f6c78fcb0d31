-- what is read as a part of a payload is the part's spelling, and the part fits its fields
use Rattle.std.proofs.Common.{◌≡◌, ℕ, zero, suc, ◌+◌, ◌-◌, ◌*◌, ◌/◌, ◌<◌, ◌≤◌, ◌++◌, Bool, true, false, List, [], ◌∷◌, length, take, drop, map, cond, refl, ap, sym, ◌∙◌, subst, arith, length-drop}
use Rattle.std.specs.Prelude.{Option, Some, None, ◌==◌, nat_lt, nat_le, slice_range}
use Rattle.std.specs.Int.{w64, to_be_bytes}
use Rattle.std.specs.List.{flat_map, All}
use Rattle.std.specs.Simd.{first_chunks}
use Rattle.std.proofs.Math.Seq.{drop-append_seam}
use Rattle.std.proofs.lemmas.Bool.Decides.{nat_tests}
use Rattle.std.proofs.lemmas.List.{take_all, take-append-drop, length-take-le}
use Rattle.std.proofs.lemmas.List.Elements.{All-nil, All-cons, All-take, All-drop}
use Rattle.vb_types.specs.declared.doc.Doc.{Doc}
use Rattle.vb_types.specs.declared.role.LogEntry.{LogEntry}
use Rattle.vb_journal.specs.Fitting.{AreBytes, EntryFits, DocFits}
use Rattle.vb_journal.specs.Payloads.{entry_bytes, log_bytes, doc_head, doc_bytes, number_32, number_64, entry_in, entries_in, log_in, doc_end, doc_with, doc_from, doc_in}
use Rattle.vb_journal.proofs.Words.{length_part, small, below_32, below_64, word_8, word_32, word_64, behind}

module _ {X : Type 0} where
  -- what is read where a test that refuses is passed over
  pub past : (b : Bool) (o : Option X) (x : X) → cond b None o ≡ Some x → (b ≡ false) × (o ≡ Some x)
  past true o x e = cc
  past false o x e = (refl, e)

  -- and behind a test that must hold
  pub taken : (b : Bool) (y x : X) → cond b (Some y) None ≡ Some x → (b ≡ true) × (y ≡ x)
  taken true y x e = (refl, let same : y ≡ x = cc in same)
  taken false y x e = cc

-- what is read, and what stands behind it
module _ {X Y : Type 0} where
  pub pair : {p q : X × Y} → Some p ≡ Some q → (p.0 ≡ q.0) × (p.1 ≡ q.1)
  pair {p} {q} e = let same : p ≡ q = cc in (ap (λ p. p.0) same, ap (λ p. p.1) same)

-- what is left of bytes are bytes
pub drop_bytes : (n : ℕ) (bytes : List ℕ) → AreBytes bytes → AreBytes (drop n bytes)
drop_bytes n bytes h = All-drop (λ b. b < 256) n bytes h

-- the rest are bytes too
pub rest_bytes : (bytes front rest : List ℕ) → AreBytes bytes → bytes ≡ front ++ rest → AreBytes rest
rest_bytes bytes front rest h e = subst AreBytes (ap (drop (length front)) e ∙ drop-append_seam front rest) (drop_bytes (length front) bytes h)

entry_once : (bytes : List ℕ) → AreBytes bytes → length bytes ≡ 16 → entry_bytes (entry_in bytes) ≡ bytes
entry_once bytes h len =
    behind bytes (to_be_bytes w64 (number_64 bytes 0)) (to_be_bytes w64 (number_64 bytes 8)) 8 8 (word_64 bytes 0 h (omega arith)) (word_64 bytes 8 h (omega arith))
    ∙ take_all 16 bytes (omega arith)

entry_fits : (bytes : List ℕ) → AreBytes bytes → EntryFits (entry_in bytes)
entry_fits bytes h = record { uuid = below_64 bytes 0 h; seq = below_64 bytes 8 h }

chunks_once : (n : ℕ) (bytes : List ℕ) → AreBytes bytes → length bytes ≡ 16 * n
    → (flat_map entry_bytes (map entry_in (first_chunks 16 n bytes)) ≡ bytes) × All EntryFits (map entry_in (first_chunks 16 n bytes)) × (length (map entry_in (first_chunks 16 n bytes)) ≡ n)
chunks_once zero [] h len = (refl, All-nil EntryFits, refl)
chunks_once zero (b ∷ bytes) h len = absurd (omega (arith, len))
chunks_once (suc n) bytes h len =
    let front : AreBytes (take 16 bytes) = All-take (λ b. b < 256) 16 bytes h in
    let entry = entry_once (take 16 bytes) front (length-take-le 16 bytes (omega (arith, len))) in
    let (more, fit, count) = chunks_once n (drop 16 bytes) (drop_bytes 16 bytes h) (omega (arith, len, length-drop 16 bytes)) in
    ((λ i. entry i ++ more i) ∙ take-append-drop 16 bytes, All-cons EntryFits _ _ (entry_fits (take 16 bytes) front) fit, ap suc count)

entries_once : (n : ℕ) (bytes : List ℕ) → AreBytes bytes → length bytes ≡ 16 * n
    → (flat_map entry_bytes (entries_in bytes) ≡ bytes) × All EntryFits (entries_in bytes) × (length (entries_in bytes) ≡ n)
unfolding entries_in
entries_once n bytes h len =
    let count : length bytes / 16 ≡ n = omega (arith, len) in
    subst (λ k. (flat_map entry_bytes (map entry_in (first_chunks 16 k bytes)) ≡ bytes) × All EntryFits (map entry_in (first_chunks 16 k bytes)) × (length (map entry_in (first_chunks 16 k bytes)) ≡ n))
    (sym count) (chunks_once n bytes h len)

-- a log that is read
pub log_once : (bytes : List ℕ) (log : List LogEntry) (rest : List ℕ) → AreBytes bytes → log_in bytes ≡ Some (log, rest)
    → (bytes ≡ log_bytes log ++ rest) × All EntryFits log × (length log ≤ 25)
unfolding log_in log_bytes
log_once [] log rest h e = cc
log_once (n ∷ bytes) log rest h e =
    let (some, e1) = past (length (n ∷ bytes) == 0) _ _ e in
    let (short, e2) = past (nat_lt 25 n) _ _ e1 in
    let (whole, e3) = past (nat_lt (length (n ∷ bytes)) (1 + 16 * n)) _ _ e2 in
    let (here, left) = pair e3 in
    let few : n ≤ 25 = grind (arith, nat_tests, short) in
    let far : 16 * n ≤ length bytes = grind (arith, nat_tests, whole) in
    let size : 1 + 16 * n - 1 ≡ 16 * n = omega arith in
    let over : suc (16 * n) ≡ 1 + 16 * n = omega arith in
    let run : List ℕ = take (16 * n) bytes in
    let (flat, fit, count) = entries_once n run (All-take (λ b. b < 256) (16 * n) bytes (drop_bytes 1 (n ∷ bytes) h)) (length-take-le (16 * n) bytes far) in
    let is : entries_in run ≡ log = ap (λ k. entries_in (take k bytes)) (sym size) ∙ here in
    let rest_is : drop (16 * n) bytes ≡ rest = ap (λ k. drop k (n ∷ bytes)) over ∙ left in (
      ap (λ l. n ∷ l) (sym (take-append-drop (16 * n) bytes)) ∙ (λ i. (sym count ∙ ap length is) i ∷ ((sym flat ∙ ap (flat_map entry_bytes) is) i ++ rest_is i)),
      subst (All EntryFits) is fit,
      omega (arith, ap length is, count, few),
    )

-- the document of bytes with room for the value behind the head
module _ (bytes : List ℕ) (h : AreBytes bytes) (end : ℕ) (head : 29 ≤ length bytes) (is : end ≡ 29 + number_32 bytes 25) (whole : end ≤ length bytes) where
  value_len : length (slice_range bytes 29 end) ≡ number_32 bytes 25
  value_len = let size : end - 29 ≡ number_32 bytes 25 = omega arith in ap (λ n. length (take n (drop 29 bytes))) size ∙ length_part bytes 29 (number_32 bytes 25) (omega arith)

  doc_spelled : doc_bytes (doc_with bytes (slice_range bytes 29 end)) ≡ take end bytes
  unfolding doc_bytes doc_head doc_with
  doc_spelled =
      let size : end - 29 ≡ number_32 bytes 25 = omega arith in
      behind bytes _ _ 29 (number_32 bytes 25)
      (behind bytes _ _ 25 4 (behind bytes _ _ 24 1 (behind bytes _ _ 20 4 (behind bytes _ _ 16 4 (behind bytes _ _ 8 8
      (word_64 bytes 0 h (omega arith)) (word_64 bytes 8 h (omega arith)))
      (word_32 bytes 16 _ h (omega arith) refl)) (word_32 bytes 20 _ h (omega arith) refl))
      (word_8 bytes 24 (omega arith))) (word_32 bytes 25 _ h (omega arith) value_len))
      (ap (λ n. take n (drop 29 bytes)) size)
      ∙ ap (λ n. take n bytes) (sym is)

  doc_fits : length (slice_range bytes 29 end) ≤ 20971520 → DocFits (doc_with bytes (slice_range bytes 29 end))
  unfolding doc_with
  doc_fits few = record {
    value = few;
    cas = below_64 bytes 0 h;
    rev = below_64 bytes 8 h;
    flags = below_32 bytes 16 h;
    expiry = below_32 bytes 20 h;
    datatype = small bytes h 24;
  }

-- a document is read where its value is one
doc_read : (bytes value : List ℕ) (t : Bool) (d : Doc) (rest : List ℕ) → doc_from bytes (cond t (Some value) None) ≡ Some (d, rest)
    → (t ≡ true) × (doc_with bytes value ≡ d) × (drop (doc_end bytes) bytes ≡ rest)
doc_read bytes value true d rest e = let (a, b) = pair e in (refl, a, b)
doc_read bytes value false d rest e = cc

pub doc_once : (bytes : List ℕ) (d : Doc) (rest : List ℕ) → AreBytes bytes → doc_in bytes ≡ Some (d, rest) → (bytes ≡ doc_bytes d ++ rest) × DocFits d
unfolding doc_in
doc_once bytes d rest h e =
    let (head, e1) = past (nat_lt (length bytes) 29) _ _ e in
    let (whole, e2) = past (nat_lt (length bytes) (doc_end bytes)) _ _ e1 in
    let end : ℕ = doc_end bytes in
    let value : List ℕ = slice_range bytes 29 end in
    let (fits, is, left) = doc_read bytes value (nat_le (length value) 20971520) d rest e2 in
    let long : 29 ≤ length bytes = grind (arith, nat_tests, head) in
    let far : end ≤ length bytes = grind (arith, nat_tests, whole) in
    let few : length value ≤ 20971520 = grind (arith, nat_tests, fits) in (
      sym (take-append-drop end bytes) ∙ (λ i. (sym (doc_spelled bytes h end long refl far) ∙ ap doc_bytes is) i ++ left i),
      subst DocFits is (doc_fits bytes h end long refl far few),
    )
