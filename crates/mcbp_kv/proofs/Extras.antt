-- what is read of framing extras
use Rattle.std.proofs.Common.{◌≡◌, ℕ, Bool, true, false, List, [], ◌∷◌, ◌++◌, Option, Some, None, Ok, Err, Result, length, drop, refl, ◌∙◌, ◌⊎◌, inl, inr, arith, cond, length-append}
use Rattle.std.specs.Prelude.{◌==◌, not, nat_lt}
use Rattle.std.proofs.Math.Seq.{drop-append_seam}
use Rattle.std.proofs.lemmas.Bool.{ne_eqb, lt-ltb, eq-eqb}
use Rattle.std.proofs.lemmas.Bool.Decides.{nat_tests}
use Rattle.std.proofs.lemmas.Nat.{from_be_bytes-to_be_bytes_2}
use Rattle.vb_types.specs.declared.status.Status.{Status}
use Rattle.vb_types.specs.declared.status.Status.TheVariants as status
use Rattle.mcbp_kv.specs.Extras.{Extra, IsExtra, head_of, extra_spelling, IsRequirement, IsReadAsSpelled}
use Rattle.mcbp_kv.specs.declared.framing.Requirement.{Requirement}
use Rattle.mcbp_kv.specs.Framing.{DURABILITY, extra_id, extra_len, is_requirement_len, requirement_by_len, requirement_alone, requirement_of}

-- what is read, by three tests of a first byte
unfoldable pub by_tests : (known fits short : Bool) → Result (Option Requirement) Status → Result (Option Requirement) Status
by_tests known fits short whole = cond (not known) (Err status.UnknownFrameInfo) (cond (not fits) (Err status.Einval) (cond short (Err status.Einval) whole))

-- the tests of an extra's first byte, by its id and length
head_read : (e : Extra) (rest : List ℕ) → IsExtra e → (known fits short : Bool) (whole : Result (Option Requirement) Status)
    → (e.id == DURABILITY) ≡ known → is_requirement_len (length e.bytes) ≡ fits → nat_lt (length rest) (length e.bytes) ≡ short
    → requirement_alone (requirement_by_len (length e.bytes) rest) (drop (length e.bytes) rest) ≡ whole
    → requirement_of (head_of e ∷ rest) ≡ by_tests known fits short whole
unfolding requirement_of by_tests
head_read e rest h known fits short whole k f s w =
    let id : extra_id (head_of e) ≡ e.id = omega (arith, h.length) in
    let len : extra_len (head_of e) ≡ length e.bytes = omega (arith, h.length) in
    (λ i. cond (not (id i == DURABILITY)) (Err status.UnknownFrameInfo) (cond (not (is_requirement_len (len i))) (Err status.Einval)
    (cond (nat_lt (length rest) (len i)) (Err status.Einval) (requirement_alone (requirement_by_len (len i) rest) (drop (len i) rest)))))
    ∙ (λ i. by_tests (k i) (f i) (s i) (w i))

is_extra : (e : Extra) → IsRequirement e → IsExtra e
is_extra e h = record { id = omega (arith, h.id); length = elim h.length [ inl p ↦ omega (arith, p) | inr p ↦ omega (arith, p) ] }

fits_of : (n : ℕ) → (n ≡ 1) ⊎ (n ≡ 3) → is_requirement_len n ≡ true
fits_of n (inl p) = grind (arith, nat_tests)
fits_of n (inr p) = grind (arith, nat_tests)

-- a whole requirement, and what stands behind it
whole_read : (e : Extra) (rest : List ℕ) → IsRequirement e → requirement_of (extra_spelling e ++ rest) ≡ requirement_alone (requirement_by_len (length e.bytes) (e.bytes ++ rest)) rest
unfolding by_tests
whole_read e rest h =
    head_read e (e.bytes ++ rest) (is_extra e h) true true false _ (eq-eqb e.id DURABILITY h.id) (fits_of (length e.bytes) h.length)
    (grind (arith, nat_tests, length-append e.bytes rest)) (λ i. requirement_alone (requirement_by_len (length e.bytes) (e.bytes ++ rest)) (drop-append_seam e.bytes rest i))

alone_read : (r : Requirement) (e : Extra) (rest : List ℕ) → IsExtra e → (known : Bool) → (e.id == DURABILITY) ≡ known
    → requirement_alone r (head_of e ∷ rest) ≡ cond known (Err status.Einval) (Err status.UnknownFrameInfo)
alone_read r e rest h known k =
    let id : extra_id (head_of e) ≡ e.id = omega (arith, h.length) in
    (λ i. cond (id i == DURABILITY) (Err status.Einval) (Err status.UnknownFrameInfo)) ∙ (λ i. cond (k i) (Err status.Einval) (Err status.UnknownFrameInfo))

alone_some : (known : Bool) → cond {A = Result (Option Requirement) Status} known (Err status.Einval) (Err status.UnknownFrameInfo) ≡ Ok None → ⊥
alone_some true h = cc
alone_some false h = cc

some_read : (known fits short : Bool) (r : Requirement) (behind : List ℕ) → by_tests known fits short (requirement_alone r behind) ≡ Ok None → ⊥
unfolding by_tests
some_read false fits short r behind h = cc
some_read true false short r behind h = cc
some_read true true true r behind h = cc
some_read true true false r [] h = cc
some_read true true false r (b ∷ behind) h = alone_some (extra_id b == DURABILITY) h

-- nothing is required only where there are no extras
pub none_read : (framing : List ℕ) → requirement_of framing ≡ Ok None → framing ≡ []
unfolding requirement_of by_tests
none_read [] h = refl
none_read (b ∷ rest) h =
    absurd (some_read (extra_id b == DURABILITY) (is_requirement_len (extra_len b)) (nat_lt (length rest) (extra_len b)) (requirement_by_len (extra_len b) rest) (drop (extra_len b) rest) h)

pub read_as_spelled : IsReadAsSpelled
unfolding by_tests requirement_of
read_as_spelled = record {
  none = refl;
  untimed = λ level. refl;
  timed = λ level timeout h. λ i. Ok (Some (record { level = level; timeout = from_be_bytes-to_be_bytes_2 timeout h i }));
  other = λ e rest h n. head_read e rest h false _ _ _ (ne_eqb e.id DURABILITY n) refl refl refl;
  other_length = λ e rest h id one three. head_read e rest h true false _ _ (eq-eqb e.id DURABILITY id) (grind (arith, nat_tests)) refl refl;
  cut_short = λ e front h short. head_read e front (is_extra e h) true true true _ (eq-eqb e.id DURABILITY h.id) (fits_of (length e.bytes) h.length) (lt-ltb (length front) (length e.bytes) short) refl;
  second = λ e next rest h n id. whole_read e (head_of next ∷ rest) h ∙ alone_read (requirement_by_len (length e.bytes) (e.bytes ++ head_of next ∷ rest)) next rest n true (eq-eqb next.id DURABILITY id);
  other_behind = λ e next rest h n id. whole_read e (head_of next ∷ rest) h ∙ alone_read (requirement_by_len (length e.bytes) (e.bytes ++ head_of next ∷ rest)) next rest n false (ne_eqb next.id DURABILITY id);
}
