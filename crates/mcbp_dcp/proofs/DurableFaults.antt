-- what of the messages of durable writes is refused
use Rattle.std.proofs.Common.{◌≡◌, ◌≢◌, ℕ, Bool, true, false, List, [], length, refl, ap, ◌∙◌, inl, inr, ⊎_elim, ◌⊎◌}
use Rattle.std.specs.Prelude.{◌↔◌, ◌&&◌, ◌||◌, ◌==◌, not, slice_index, IsTrue, IsFalse}
use Rattle.mcbp_frame.specs.declared.frame.Frame.{Frame}
use Rattle.mcbp_frame.specs.declared.frame.TheConstants.{RESPONSE}
use Rattle.mcbp_dcp.specs.declared.row.DcpRow.TheVariants as row
use Rattle.mcbp_dcp.specs.Opcodes.{opcode_of}
use Rattle.mcbp_dcp.specs.Rows.{frame_row, row_by_opcode}
use Rattle.mcbp_dcp.specs.DcpLaws.{HasExtras, RefusesLengths, RefusesValues, RefusesValuesOfRemovals, AcknowledgesBare}
use Rattle.mcbp_dcp.proofs.DcpFaults.{wrong_extras, wrong_key, wrong_value}
use Rattle.mcbp_dcp.proofs.Metadata.{no_answer, same, other, is_empty, not_empty}

-- the row of a message's opcode
pub row_of : (f : Frame) (opcode : ℕ) → f.opcode ≡ opcode → f.magic ≢ RESPONSE → frame_row f ≡ row_by_opcode (opcode_of opcode) false
unfolding frame_row
row_of f opcode o m = ap (λ b. row_by_opcode (opcode_of f.opcode) b) (no_answer f m) ∙ ap (λ n. row_by_opcode (opcode_of n) false) o

-- whether there are bytes
pub present : (bytes : List ℕ) (t : Bool) → (length bytes == 0) ≡ t → IsFalse t ↔ (bytes ≢ [])
present bytes false e = (λ q. not_empty bytes e, λ n. refl)
present bytes true e = (λ q. cc, λ n. absurd (n (is_empty bytes e)))

pub absent : (bytes : List ℕ) (t : Bool) → (length bytes == 0) ≡ t → IsTrue t ↔ (bytes ≡ [])
absent bytes false e = (λ q. cc, λ n. absurd (not_empty bytes e n))
absent bytes true e = (λ q. is_empty bytes e, λ n. refl)

-- a removal that has a value
overfull : (n : ℕ) (bytes : List ℕ) (a b : Bool) → (n == 1) ≡ a → (length bytes == 0) ≡ b → IsFalse (not a || b) ↔ ((n ≡ 1) × (bytes ≢ []))
overfull n bytes false b e g = (λ q. cc, λ h. absurd (other n 1 e h.0))
overfull n bytes true false e g = (λ q. (same n 1 e, not_empty bytes g), λ h. refl)
overfull n bytes true true e g = (λ q. cc, λ h. absurd (h.1 (is_empty bytes g)))

module _ (f : Frame) (len : ℕ) where
  other_extras : (a b : Bool) → (length f.framing == 0) ≡ a → (length f.extras == len) ≡ b → IsFalse ((a && b) && true) ↔ ((f.framing ≢ []) ⊎ (length f.extras ≢ len))
  other_extras false b e g = (λ q. inl (not_empty f.framing e), λ o. refl)
  other_extras true false e g = (λ q. inr (other (length f.extras) len g), λ o. refl)
  other_extras true true e g = (λ q. cc, λ o. absurd (⊎_elim (λ n. n (is_empty f.framing e)) (λ n. n (same (length f.extras) len g)) o))

  has_extras : (a b : Bool) → (length f.framing == 0) ≡ a → (length f.extras == len) ≡ b → IsTrue ((a && b) && true) ↔ HasExtras f len
  has_extras false b e g = (λ q. cc, λ h. absurd (not_empty f.framing e h.0))
  has_extras true false e g = (λ q. cc, λ h. absurd (other (length f.extras) len g h.1))
  has_extras true true e g = (λ q. (is_empty f.framing e, same (length f.extras) len g), λ h. refl)

  pub others : IsFalse ((length f.framing == 0 && length f.extras == len) && true) ↔ ((f.framing ≢ []) ⊎ (length f.extras ≢ len))
  others = other_extras (length f.framing == 0) (length f.extras == len) refl refl

  pub has : IsTrue ((length f.framing == 0 && length f.extras == len) && true) ↔ HasExtras f len
  has = has_extras (length f.framing == 0) (length f.extras == len) refl refl

pub prepare_lengths : RefusesLengths 0x60 31
prepare_lengths f o m =
    let (here, back) = wrong_extras f row.Prepare (row_of f 0x60 o m) in let (out, of) = others f 31 in (λ e. out (here e), λ h. back (of h))

pub commit_lengths : RefusesLengths 0x62 16
commit_lengths f o m =
    let (here, back) = wrong_extras f row.Commit (row_of f 0x62 o m) in let (out, of) = others f 16 in (λ e. out (here e), λ h. back (of h))

pub abort_lengths : RefusesLengths 0x63 16
abort_lengths f o m =
    let (here, back) = wrong_extras f row.Abort (row_of f 0x63 o m) in let (out, of) = others f 16 in (λ e. out (here e), λ h. back (of h))

pub acknowledged_lengths : RefusesLengths 0x61 8
acknowledged_lengths f o m =
    let (here, back) = wrong_extras f row.SeqnoAcknowledged (row_of f 0x61 o m) in let (out, of) = others f 8 in (λ e. out (here e), λ h. back (of h))

pub removal_values : RefusesValuesOfRemovals
removal_values f o m =
    let (here, back) = wrong_value f row.Prepare (row_of f 0x60 o m) in let (out, of) = has f 31 in
    let (full, over) = overfull (slice_index f.extras 29) f.value (slice_index f.extras 29 == 1) (length f.value == 0) refl refl in
    (λ e. let h = here e in let (one, some) = full h.2 in (out h.0, one, some), λ h. back (of h.0, refl, over (h.1, h.2)))

pub commit_values : RefusesValues 0x62 16
commit_values f o m =
    let (here, back) = wrong_value f row.Commit (row_of f 0x62 o m) in let (out, of) = has f 16 in
    let (some, there) = present f.value (length f.value == 0) refl in
    (λ e. let h = here e in (out h.0, some h.2), λ h. back (of h.0, refl, there h.1))

pub abort_values : RefusesValues 0x63 16
abort_values f o m =
    let (here, back) = wrong_value f row.Abort (row_of f 0x63 o m) in let (out, of) = has f 16 in
    let (some, there) = present f.value (length f.value == 0) refl in
    (λ e. let h = here e in (out h.0, some h.2), λ h. back (of h.0, refl, there h.1))

pub acknowledges_bare : AcknowledgesBare
acknowledges_bare f o m =
    let (out, of) = has f 8 in
    let (keyed, key) = present f.key (length f.key == 0) refl in let (bare, none) = absent f.key (length f.key == 0) refl in
    let (some, there) = present f.value (length f.value == 0) refl in
    let (by_key, key_back) = wrong_key f row.SeqnoAcknowledged (row_of f 0x61 o m) in
    let (by_value, value_back) = wrong_value f row.SeqnoAcknowledged (row_of f 0x61 o m) in (
      (λ e. let h = by_key e in (out h.0, keyed h.1), λ h. key_back (of h.0, key h.1)),
      (λ e. let h = by_value e in (out h.0, bare h.1, some h.2), λ h. value_back (of h.0, none h.1, there h.2)),
    )
