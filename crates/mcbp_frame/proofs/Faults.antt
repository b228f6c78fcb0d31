-- what names a faulty frame
use Rattle.std.proofs.Common.{◌≡◌, ℕ, ◌<◌, ◌^◌, ◌≤◌, Bool, true, false, List, ◌∷◌, ◌++◌, length, take, drop, refl, sym, ◌∙◌, ap, arith, append_assoc, ◌⊎◌, inl, inr}
use Rattle.std.specs.Prelude.{Some, Err, slice_index}
use Rattle.std.specs.Int.{w32, from_be_bytes, to_be_bytes}
use Rattle.std.proofs.Math.Seq.{take-append_seam, drop-append_seam}
use Rattle.std.proofs.lemmas.Nat.{from_be_bytes-to_be_bytes_4}
use Rattle.std.proofs.lemmas.Bool.Decides.{nat_tests}
use Rattle.mcbp_frame.specs.declared.frame.FrameFault.{FrameFault}
use Rattle.mcbp_frame.specs.declared.frame.FrameFault.TheVariants.{BadMagic, BodyTooLong, BadLengths}
use Rattle.mcbp_frame.specs.Cutting.{front_fault}
use Rattle.mcbp_frame.specs.Frames.{is_magic, first_frame, frame_of, faulty_head, big_32_at}
use Rattle.mcbp_frame.proofs.SixTests.{picked, is_picked, is_empty, is_short, is_long, is_bad, is_missing}
use Rattle.mcbp_frame.proofs.Stable.{byte_same, part_same}
use Rattle.mcbp_frame.proofs.Pieces.{is_fault}

headed_by : (bytes : List ℕ) (fault : FrameFault) (empty known short long bad missing : Bool) → is_short bytes ≡ short
    → picked empty known short long bad missing (frame_of bytes) ≡ Some (Err fault) → (fault ≡ BadMagic) ⊎ (24 ≤ length bytes)
headed_by bytes fault true known short long bad missing t e = inl (cc)
headed_by bytes fault false false short long bad missing t e = inl (cc)
headed_by bytes fault false true true long bad missing t e = inl (cc)
headed_by bytes fault false true false long bad missing t e = inr (grind (arith, nat_tests))

-- where the first byte is known, a fault is that of a whole header
pub headed : (fault : FrameFault) (bytes : List ℕ) → front_fault bytes ≡ Some fault → (fault ≡ BadMagic) ⊎ (24 ≤ length bytes)
headed fault bytes e =
    headed_by bytes fault (is_empty bytes) (is_magic (slice_index bytes 0)) (is_short bytes) (is_long bytes) (is_bad bytes) (is_missing bytes) refl
    (sym (is_picked bytes) ∙ is_fault (first_frame bytes) fault e)

same_by : (fault : FrameFault) (held more : List ℕ) → (fault ≡ BadMagic) ⊎ (24 ≤ length held) → faulty_head fault (held ++ more) ≡ faulty_head fault held
same_by BadMagic held more h = refl
same_by BodyTooLong held more (inl e) = cc
same_by BodyTooLong held more (inr far) =
    λ i. Some (record { opcode = byte_same held more 1 (omega arith) i; opaque = from_be_bytes w32 (part_same held more 12 4 (omega arith) i) })
same_by BadLengths held more (inl e) = cc
same_by BadLengths held more (inr far) =
    λ i. Some (record { opcode = byte_same held more 1 (omega arith) i; opaque = from_be_bytes w32 (part_same held more 12 4 (omega arith) i) })

-- what comes behind does not change it
pub head_stays : (held more : List ℕ) (fault : FrameFault) → front_fault held ≡ Some fault → faulty_head fault (held ++ more) ≡ faulty_head fault held
head_stays held more fault e = same_by fault held more (headed fault held e)

behind_ten : (magic opcode : ℕ) (between tail : List ℕ) → length between ≡ 10 → drop 12 ((magic ∷ opcode ∷ between) ++ tail) ≡ tail
behind_ten magic opcode between tail ten =
    let n : 12 ≡ length (magic ∷ opcode ∷ between) = omega arith in
    ap (λ k. drop k ((magic ∷ opcode ∷ between) ++ tail)) n ∙ drop-append_seam (magic ∷ opcode ∷ between) tail

opaque_back : (magic opcode opaque : ℕ) (between rest : List ℕ) → length between ≡ 10 → opaque < 2 ^ 32
    → big_32_at ((magic ∷ opcode ∷ between) ++ to_be_bytes w32 opaque ++ rest) 12 ≡ opaque
opaque_back magic opcode opaque between rest ten small =
    let far : drop 12 ((magic ∷ opcode ∷ between) ++ to_be_bytes w32 opaque ++ rest) ≡ to_be_bytes w32 opaque ++ rest =
    ap (drop 12) (append_assoc (magic ∷ opcode ∷ between) (to_be_bytes w32 opaque) rest) ∙ behind_ten magic opcode between (to_be_bytes w32 opaque ++ rest) ten in
    ap (λ l. from_be_bytes w32 (take 4 l)) far ∙ ap (from_be_bytes w32) (take-append_seam (to_be_bytes w32 opaque) rest) ∙ from_be_bytes-to_be_bytes_4 opaque small

-- opcode and opaque are those of the header, whatever else it says
pub head_named : (fault : FrameFault) (magic opcode opaque : ℕ) (between rest : List ℕ) → (fault ≡ BadMagic → ⊥) → length between ≡ 10 → opaque < 2 ^ 32
    → faulty_head fault ((magic ∷ opcode ∷ between) ++ to_be_bytes w32 opaque ++ rest) ≡ Some (record { opcode = opcode; opaque = opaque })
head_named BadMagic magic opcode opaque between rest known ten small = absurd (known refl)
head_named BodyTooLong magic opcode opaque between rest known ten small = λ i. Some (record { opcode = opcode; opaque = opaque_back magic opcode opaque between rest ten small i })
head_named BadLengths magic opcode opaque between rest known ten small = λ i. Some (record { opcode = opcode; opaque = opaque_back magic opcode opaque between rest ten small i })
