-- which extras of mutations and deletions are refused
use Rattle.std.proofs.Common.{◌≡◌, ◌≢◌, ℕ, Bool, true, false, List, [], ◌∷◌, length, refl, ap, ◌∙◌, inl, inr, ⊎_elim, arith}
use Rattle.std.specs.Prelude.{◌↔◌, ◌&&◌, ◌==◌, Some, IsFalse}
use Rattle.std.proofs.lemmas.Bool.{false_from_ne_true, eqb-true}
use Rattle.std.proofs.lemmas.Bool.Decides.{nat_tests}
use Rattle.mcbp_frame.specs.declared.frame.Frame.{Frame}
use Rattle.mcbp_frame.specs.declared.frame.TheConstants.{RESPONSE}
use Rattle.mcbp_frame.specs.Frames.{big_16_at}
use Rattle.mcbp_dcp.specs.declared.row.DcpRow.TheVariants as row
use Rattle.mcbp_dcp.specs.Opcodes.{opcode_of}
use Rattle.mcbp_dcp.specs.Rows.{frame_row, row_by_opcode}
use Rattle.mcbp_dcp.specs.DcpLaws.{HasOtherExtras, RefusesExtras}
use Rattle.mcbp_dcp.proofs.DcpFaults.{wrong_extras}

pub no_answer : (f : Frame) → f.magic ≢ RESPONSE → (f.magic == RESPONSE) ≡ false
no_answer f n = false_from_ne_true (f.magic == RESPONSE) (λ t. n (eqb-true f.magic RESPONSE t))

pub same : (a b : ℕ) → (a == b) ≡ true → a ≡ b
same a b e = grind (arith, nat_tests)

pub other : (a b : ℕ) → (a == b) ≡ false → a ≢ b
other a b e k = grind (arith, nat_tests)

pub is_empty : (xs : List ℕ) → (length xs == 0) ≡ true → xs ≡ []
is_empty [] e = refl
is_empty (x ∷ xs) e = let t = same (length (x ∷ xs)) 0 e in absurd (omega arith)

pub not_empty : (xs : List ℕ) → (length xs == 0) ≡ false → xs ≢ []
not_empty xs e k = let t : length xs ≡ 0 = ap length k in grind (arith, nat_tests)

module _ (f : Frame) (len at : ℕ) where
  by_tests : (a b c : Bool) → (length f.framing == 0) ≡ a → (length f.extras == len) ≡ b → (big_16_at f.extras at == 0) ≡ c → IsFalse ((a && b) && c) ↔ HasOtherExtras f len at
  by_tests false b c e g h = (λ q. inl (not_empty f.framing e), λ o. refl)
  by_tests true false c e g h = (λ q. inr (inl (other (length f.extras) len g)), λ o. refl)
  by_tests true true false e g h = (λ q. inr (inr (other (big_16_at f.extras at) 0 h)), λ o. refl)
  by_tests true true true e g h = (λ q. cc, λ o. absurd (⊎_elim (λ n. n (is_empty f.framing e)) (λ o. ⊎_elim (λ n. n (same (length f.extras) len g)) (λ n. n (same (big_16_at f.extras at) 0 h)) o) o))

  tests : IsFalse ((length f.framing == 0 && length f.extras == len) && big_16_at f.extras at == 0) ↔ HasOtherExtras f len at
  tests = by_tests (length f.framing == 0) (length f.extras == len) (big_16_at f.extras at == 0) refl refl refl

pub mutation : RefusesExtras 0x57 31 28
unfolding frame_row
mutation f o m =
    let is : frame_row f ≡ Some row.Mutation = ap (λ b. row_by_opcode (opcode_of f.opcode) b) (no_answer f m) ∙ ap (λ n. row_by_opcode (opcode_of n) false) o in
    let (here, back) = wrong_extras f row.Mutation is in
    let (out, of) = tests f 31 28 in
    (λ e. out (here e), λ h. back (of h))

pub deletion : RefusesExtras 0x58 18 16
unfolding frame_row
deletion f o m =
    let is : frame_row f ≡ Some row.Deletion = ap (λ b. row_by_opcode (opcode_of f.opcode) b) (no_answer f m) ∙ ap (λ n. row_by_opcode (opcode_of n) false) o in
    let (here, back) = wrong_extras f row.Deletion is in
    let (out, of) = tests f 18 16 in
    (λ e. out (here e), λ h. back (of h))
