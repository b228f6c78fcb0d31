-- what of the messages beside handshake and streams is refused
use Rattle.std.proofs.Common.{◌≡◌, ℕ, Bool, true, false, List, length, refl, ap, ◌∙◌, inl, inr, ⊎_elim, cond, ◌≢◌, ◌⊎◌, ◌≤◌, ◌<◌, [], arith}
use Rattle.std.specs.Prelude.{◌↔◌, ◌==◌, ◌&&◌, ◌%◌, slice_index, IsTrue, IsFalse}
use Rattle.std.proofs.lemmas.Bool.Decides.{nat_tests}
use Rattle.std.specs.Option.{option_map}
use Rattle.mcbp_frame.specs.declared.frame.Frame.{Frame}
use Rattle.mcbp_frame.specs.declared.frame.TheConstants.{RESPONSE}
use Rattle.mcbp_dcp.specs.declared.row.DcpRow.TheVariants as row
use Rattle.mcbp_dcp.specs.Opcodes.{opcode_of}
use Rattle.mcbp_dcp.specs.Rows.{frame_row, row_by_opcode}
use Rattle.mcbp_dcp.specs.States.{is_role}
use Rattle.mcbp_dcp.specs.Messages.{read_as, read_of}
use Rattle.mcbp_dcp.specs.DcpLaws.{RefusesLengths, RefusesBodies, RefusesAnswers, RefusesValuesOfAnswers, IsNoLog, RefusesOtherLogs, NamesRole, RefusesOtherRoles, NamesRoleAlone, HasNoAnswer}
use Rattle.mcbp_dcp.proofs.DcpFaults.{wrong_extras, wrong_key, wrong_value}
use Rattle.mcbp_dcp.proofs.Metadata.{same, other, is_empty, not_empty}
use Rattle.mcbp_dcp.proofs.DurableFaults.{row_of, present, absent, others, has}

-- the row of an answer's opcode
answer_row : (f : Frame) (opcode : ℕ) → f.opcode ≡ opcode → f.magic ≡ RESPONSE → frame_row f ≡ row_by_opcode (opcode_of opcode) true
unfolding frame_row
answer_row f opcode o m = ap (λ n. row_by_opcode (opcode_of f.opcode) (n == RESPONSE)) m ∙ ap (λ n. row_by_opcode (opcode_of n) true) o

pub close : RefusesLengths 0x52 0 × RefusesBodies 0x52 0
close = (
  λ f o m. let (here, back) = wrong_extras f row.CloseStream (row_of f 0x52 o m) in let (out, of) = others f 0 in (λ e. out (here e), λ h. back (of h)),
  λ f o m.
      let (out, of) = has f 0 in
      let (keyed, key) = present f.key (length f.key == 0) refl in let (bare, none) = absent f.key (length f.key == 0) refl in
      let (some, there) = present f.value (length f.value == 0) refl in
      let (by_key, key_back) = wrong_key f row.CloseStream (row_of f 0x52 o m) in
      let (by_value, value_back) = wrong_value f row.CloseStream (row_of f 0x52 o m) in (
        (λ e. let h = by_key e in (out h.0, keyed h.1), λ h. key_back (of h.0, key h.1)),
        (λ e. let h = by_value e in (out h.0, bare h.1, some h.2), λ h. value_back (of h.0, none h.1, there h.2)),
      ),
)

pub ask : RefusesLengths 0x54 0 × RefusesBodies 0x54 0
ask = (
  λ f o m. let (here, back) = wrong_extras f row.GetFailoverLog (row_of f 0x54 o m) in let (out, of) = others f 0 in (λ e. out (here e), λ h. back (of h)),
  λ f o m.
      let (out, of) = has f 0 in
      let (keyed, key) = present f.key (length f.key == 0) refl in let (bare, none) = absent f.key (length f.key == 0) refl in
      let (some, there) = present f.value (length f.value == 0) refl in
      let (by_key, key_back) = wrong_key f row.GetFailoverLog (row_of f 0x54 o m) in
      let (by_value, value_back) = wrong_value f row.GetFailoverLog (row_of f 0x54 o m) in (
        (λ e. let h = by_key e in (out h.0, keyed h.1), λ h. key_back (of h.0, key h.1)),
        (λ e. let h = by_value e in (out h.0, bare h.1, some h.2), λ h. value_back (of h.0, none h.1, there h.2)),
      ),
)

pub noop : RefusesLengths 0x5c 0 × RefusesBodies 0x5c 0
noop = (
  λ f o m. let (here, back) = wrong_extras f row.Noop (row_of f 0x5c o m) in let (out, of) = others f 0 in (λ e. out (here e), λ h. back (of h)),
  λ f o m.
      let (out, of) = has f 0 in
      let (keyed, key) = present f.key (length f.key == 0) refl in let (bare, none) = absent f.key (length f.key == 0) refl in
      let (some, there) = present f.value (length f.value == 0) refl in
      let (by_key, key_back) = wrong_key f row.Noop (row_of f 0x5c o m) in
      let (by_value, value_back) = wrong_value f row.Noop (row_of f 0x5c o m) in (
        (λ e. let h = by_key e in (out h.0, keyed h.1), λ h. key_back (of h.0, key h.1)),
        (λ e. let h = by_value e in (out h.0, bare h.1, some h.2), λ h. value_back (of h.0, none h.1, there h.2)),
      ),
)

pub acknowledged : RefusesLengths 0x5d 4 × RefusesBodies 0x5d 4
acknowledged = (
  λ f o m. let (here, back) = wrong_extras f row.BufferAcknowledgement (row_of f 0x5d o m) in let (out, of) = others f 4 in (λ e. out (here e), λ h. back (of h)),
  λ f o m.
      let (out, of) = has f 4 in
      let (keyed, key) = present f.key (length f.key == 0) refl in let (bare, none) = absent f.key (length f.key == 0) refl in
      let (some, there) = present f.value (length f.value == 0) refl in
      let (by_key, key_back) = wrong_key f row.BufferAcknowledgement (row_of f 0x5d o m) in
      let (by_value, value_back) = wrong_value f row.BufferAcknowledgement (row_of f 0x5d o m) in (
        (λ e. let h = by_key e in (out h.0, keyed h.1), λ h. key_back (of h.0, key h.1)),
        (λ e. let h = by_value e in (out h.0, bare h.1, some h.2), λ h. value_back (of h.0, none h.1, there h.2)),
      ),
)

closed_parts : RefusesAnswers 0x52
closed_parts f o m =
    let (out, of) = has f 0 in let (far, near) = others f 0 in
    let (keyed, key) = present f.key (length f.key == 0) refl in
    let (here, back) = wrong_extras f row.CloseAnswer (answer_row f 0x52 o m) in
    let (by_key, key_back) = wrong_key f row.CloseAnswer (answer_row f 0x52 o m) in (
      (λ e. far (here e), λ h. back (near h)),
      (λ e. let h = by_key e in (out h.0, keyed h.1), λ h. key_back (of h.0, key h.1)),
    )

nooped_parts : RefusesAnswers 0x5c
nooped_parts f o m =
    let (out, of) = has f 0 in let (far, near) = others f 0 in
    let (keyed, key) = present f.key (length f.key == 0) refl in
    let (here, back) = wrong_extras f row.NoopAnswer (answer_row f 0x5c o m) in
    let (by_key, key_back) = wrong_key f row.NoopAnswer (answer_row f 0x5c o m) in (
      (λ e. far (here e), λ h. back (near h)),
      (λ e. let h = by_key e in (out h.0, keyed h.1), λ h. key_back (of h.0, key h.1)),
    )

log_parts : RefusesAnswers 0x54
log_parts f o m =
    let (out, of) = has f 0 in let (far, near) = others f 0 in
    let (keyed, key) = present f.key (length f.key == 0) refl in
    let (here, back) = wrong_extras f row.LogAnswer (answer_row f 0x54 o m) in
    let (by_key, key_back) = wrong_key f row.LogAnswer (answer_row f 0x54 o m) in (
      (λ e. far (here e), λ h. back (near h)),
      (λ e. let h = by_key e in (out h.0, keyed h.1), λ h. key_back (of h.0, key h.1)),
    )

closed_values : RefusesValuesOfAnswers 0x52
closed_values f o m =
    let (out, of) = has f 0 in
    let (bare, none) = absent f.key (length f.key == 0) refl in
    let (some, there) = present f.value (length f.value == 0) refl in
    let (by_value, value_back) = wrong_value f row.CloseAnswer (answer_row f 0x52 o m) in
    (λ e. let h = by_value e in (out h.0, bare h.1, some h.2), λ h. value_back (of h.0, none h.1, there h.2))

pub closed : RefusesAnswers 0x52 × RefusesValuesOfAnswers 0x52
closed = (closed_parts, closed_values)

nooped_values : RefusesValuesOfAnswers 0x5c
nooped_values f o m =
    let (out, of) = has f 0 in
    let (bare, none) = absent f.key (length f.key == 0) refl in
    let (some, there) = present f.value (length f.value == 0) refl in
    let (by_value, value_back) = wrong_value f row.NoopAnswer (answer_row f 0x5c o m) in
    (λ e. let h = by_value e in (out h.0, bare h.1, some h.2), λ h. value_back (of h.0, none h.1, there h.2))

pub nooped : RefusesAnswers 0x5c × RefusesValuesOfAnswers 0x5c
nooped = (nooped_parts, nooped_values)

-- bytes that are no log
no_log_by : (status : ℕ) (value : List ℕ) (good whole none : Bool) → (status == 0) ≡ good → (length value % 16 == 0) ≡ whole → (length value == 0) ≡ none
    → IsFalse (cond good whole none) ↔ IsNoLog status value
no_log_by status value true true none e w n = (λ q. cc, λ h. absurd (⊎_elim (λ p. p.1 (same (length value % 16) 0 w)) (λ p. p.0 (same status 0 e)) h))
no_log_by status value true false none e w n = (λ q. inl (same status 0 e, other (length value % 16) 0 w), λ h. refl)
no_log_by status value false whole true e w n = (λ q. cc, λ h. absurd (⊎_elim (λ p. other status 0 e p.0) (λ p. p.1 (is_empty value n)) h))
no_log_by status value false whole false e w n = (λ q. inr (other status 0 e, not_empty value n), λ h. refl)

no_log : (status : ℕ) (value : List ℕ) → IsFalse (cond (status == 0) (length value % 16 == 0) (length value == 0)) ↔ IsNoLog status value
no_log status value = no_log_by status value (status == 0) (length value % 16 == 0) (length value == 0) refl refl refl

log_values : RefusesOtherLogs
log_values f o m =
    let (out, of) = has f 0 in
    let (bare, none) = absent f.key (length f.key == 0) refl in
    let (wrong, there) = no_log f.vb_or_status f.value in
    let (by_value, value_back) = wrong_value f row.LogAnswer (answer_row f 0x54 o m) in
    (λ e. let h = by_value e in (out h.0, bare h.1, wrong h.2), λ h. value_back (of h.0, none h.1, there h.2))

pub log : RefusesAnswers 0x54 × RefusesOtherLogs
log = (log_parts, log_values)

outside_by : (byte : ℕ) (zero : Bool) → (byte == 0) ≡ zero → is_role byte ≡ false → (byte ≡ 0) ⊎ (4 < byte)
outside_by byte true z e = inl (same byte 0 z)
outside_by byte false z e = inr (grind (arith, nat_tests, e, other byte 0 z))

outside : (byte : ℕ) → is_role byte ≡ false → (byte ≡ 0) ⊎ (4 < byte)
outside byte e = outside_by byte (byte == 0) refl e

module _ (f : Frame) where
  -- a byte that is no role's
  no_role : (byte : ℕ) (t : Bool) → is_role byte ≡ t → IsFalse t ↔ ((byte ≡ 0) ⊎ (4 < byte))
  no_role byte true e = (λ q. cc, λ h. absurd (⊎_elim (λ z. grind (arith, nat_tests, e, z)) (λ z. grind (arith, nat_tests, e, z)) h))
  no_role byte false e = (λ q. outside byte e, λ h. refl)

  a_role : (byte : ℕ) (t : Bool) → is_role byte ≡ t → IsTrue t ↔ ((1 ≤ byte) × (byte ≤ 4))
  a_role byte true e = (λ q. (grind (arith, nat_tests), grind (arith, nat_tests)), λ h. refl)
  a_role byte false e = (λ q. cc, λ h. grind (arith, nat_tests, e, h.0, h.1))

  other_states : (a b c : Bool) → (length f.framing == 0) ≡ a → (length f.extras == 1) ≡ b → is_role (slice_index f.extras 0) ≡ c
      → IsFalse ((a && b) && c) ↔ ((f.framing ≢ []) ⊎ ((length f.extras ≢ 1) ⊎ ((slice_index f.extras 0 ≡ 0) ⊎ (4 < slice_index f.extras 0))))
  other_states false b c e g h = (λ q. inl (not_empty f.framing e), λ o. refl)
  other_states true false c e g h = (λ q. inr (inl (other (length f.extras) 1 g)), λ o. refl)
  other_states true true false e g h = let (out, of) = no_role (slice_index f.extras 0) false h in (λ q. inr (inr (out q)), λ o. refl)
  other_states true true true e g h =
      let (out, of) = no_role (slice_index f.extras 0) true h in
      (λ q. cc, λ o. absurd (⊎_elim (λ n. n (is_empty f.framing e)) (λ o. ⊎_elim (λ n. n (same (length f.extras) 1 g)) (λ n. let k = of n in cc) o) o))

  has_state : (a b c : Bool) → (length f.framing == 0) ≡ a → (length f.extras == 1) ≡ b → is_role (slice_index f.extras 0) ≡ c → IsTrue ((a && b) && c) ↔ NamesRole f
  has_state false b c e g h = (λ q. cc, λ n. absurd (not_empty f.framing e n.0.0))
  has_state true false c e g h = (λ q. cc, λ n. absurd (other (length f.extras) 1 g n.0.1))
  has_state true true c e g h =
      let (out, of) = a_role (slice_index f.extras 0) c h in
      (λ q. let r = out q in ((is_empty f.framing e, same (length f.extras) 1 g), r.0, r.1), λ n. of (n.1, n.2))

other_roles : RefusesOtherRoles
other_roles f o m =
    let (here, back) = wrong_extras f row.SetVbucketState (row_of f 0x5b o m) in
    let (out, of) = other_states f (length f.framing == 0) (length f.extras == 1) (is_role (slice_index f.extras 0)) refl refl refl in
    (λ e. out (here e), λ h. back (of h))

role_alone : NamesRoleAlone
role_alone f o m =
    let (out, of) = has_state f (length f.framing == 0) (length f.extras == 1) (is_role (slice_index f.extras 0)) refl refl refl in
    let (keyed, key) = present f.key (length f.key == 0) refl in let (bare, none) = absent f.key (length f.key == 0) refl in
    let (some, there) = present f.value (length f.value == 0) refl in
    let (by_key, key_back) = wrong_key f row.SetVbucketState (row_of f 0x5b o m) in
    let (by_value, value_back) = wrong_value f row.SetVbucketState (row_of f 0x5b o m) in (
      (λ e. let h = by_key e in (out h.0, keyed h.1), λ h. key_back (of h.0, key h.1)),
      (λ e. let h = by_value e in (out h.0, bare h.1, some h.2), λ h. value_back (of h.0, none h.1, there h.2)),
    )

pub state : RefusesOtherRoles × NamesRoleAlone
state = (other_roles, role_alone)

stated_parts : RefusesAnswers 0x5b
stated_parts f o m =
    let (out, of) = has f 0 in let (far, near) = others f 0 in
    let (keyed, key) = present f.key (length f.key == 0) refl in
    let (here, back) = wrong_extras f row.StateAnswer (answer_row f 0x5b o m) in
    let (by_key, key_back) = wrong_key f row.StateAnswer (answer_row f 0x5b o m) in (
      (λ e. far (here e), λ h. back (near h)),
      (λ e. let h = by_key e in (out h.0, keyed h.1), λ h. key_back (of h.0, key h.1)),
    )

stated_values : RefusesValuesOfAnswers 0x5b
stated_values f o m =
    let (out, of) = has f 0 in
    let (bare, none) = absent f.key (length f.key == 0) refl in
    let (some, there) = present f.value (length f.value == 0) refl in
    let (by_value, value_back) = wrong_value f row.StateAnswer (answer_row f 0x5b o m) in
    (λ e. let h = by_value e in (out h.0, bare h.1, some h.2), λ h. value_back (of h.0, none h.1, there h.2))

pub stated : RefusesAnswers 0x5b × RefusesValuesOfAnswers 0x5b
stated = (stated_parts, stated_values)

pub unanswered : HasNoAnswer 0x5d
unfolding read_of
unanswered f o m = ap (option_map (read_as f)) (answer_row f 0x5d o m)
