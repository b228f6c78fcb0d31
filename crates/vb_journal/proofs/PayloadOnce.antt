-- bytes that are read are the payload of the record, which an append takes
use Rattle.std.proofs.Common.{◌≡◌, ℕ, ◌≤◌, ◌++◌, Bool, true, false, List, [], ◌∷◌, length, take, drop, cond, refl, ap, sym, ◌∙◌, subst, arith, append_assoc, append-nil}
use Rattle.std.specs.Prelude.{Option, Some, None, ◌==◌, ◌&&◌, not, nat_lt, nat_le, option_map, slice_index, IsTrue}
use Rattle.std.specs.Int.{w32, w64, to_be_bytes}
use Rattle.std.specs.List.{flat_map, All}
use Rattle.std.proofs.lemmas.Bool.{eqb-true}
use Rattle.std.proofs.lemmas.Bool.Decides.{nat_tests}
use Rattle.std.proofs.lemmas.List.{take-append-drop, take_all}
use Rattle.vb_types.specs.declared.change.Change.{Change}
use Rattle.vb_types.specs.declared.journal.Batch.{Batch}
use Rattle.vb_types.specs.declared.journal.Record.{Record}
use Rattle.vb_types.specs.declared.journal.Record.TheVariants as noted
use Rattle.vb_types.specs.declared.role.LogEntry.{LogEntry}
use Rattle.vb_types.specs.declared.role.Role.{Role}
use Rattle.vb_types.specs.declared.role.Role.TheVariants as role
use Rattle.vb_journal.specs.Fitting.{AreBytes, EntryFits, ItemFits, Fits}
use Rattle.vb_journal.specs.Payloads.{role_byte, log_bytes, item_bytes, batch_bytes, payload_of, is_kept, has_form, rise, is_writable, role_by_byte, number_32, number_64, whole, log_in, items_in, rising, changes_in, batch_from, batch_in, state_from, state_in, roll_in, record_in}
use Rattle.vb_journal.proofs.Words.{below_64, word_8, word_32, word_64, behind}
use Rattle.vb_journal.proofs.PartsOnce.{past, drop_bytes, rest_bytes, log_once}
use Rattle.vb_journal.proofs.ItemsOnce.{items_once}

no_bytes : (bytes : List ℕ) → (length bytes == 0) ≡ true → bytes ≡ []
no_bytes [] e = refl
no_bytes (b ∷ bytes) e = let none : length (b ∷ bytes) ≡ 0 = grind (arith, nat_tests, e) in absurd (omega (arith, none))

module _ {X : Type 0} where
  -- bytes are this, and nothing stands behind it
  abbrev last : X → Option (X × List ℕ)
  last x = Some (x, [])

  alone : (a x : X) (rest : List ℕ) (t : Bool) → (length rest == 0) ≡ t → cond t (Some a) None ≡ Some x → Some (a, rest) ≡ last x
  alone a x rest true is e = let same : a ≡ x = cc in λ i. Some (same i, no_bytes rest is i)
  alone a x rest false is e = cc

  whole_once : (o : Option (X × List ℕ)) (x : X) → whole o ≡ Some x → o ≡ last x
  whole_once None x e = cc
  whole_once (Some (a, rest)) x e = alone a x rest (length rest == 0) refl e

whole_log : (bytes : List ℕ) (log : List LogEntry) → AreBytes bytes → whole (log_in bytes) ≡ Some log → (log_bytes log ≡ bytes) × All EntryFits log × (nat_le (length log) 25 ≡ true)
whole_log bytes log h e =
    let (spelled, fits, few) = log_once bytes log [] h (whole_once (log_in bytes) log e) in
    (sym (spelled ∙ append-nil (log_bytes log)), fits, grind (arith, nat_tests, few))

risen : (xs items : List Change) (t : Bool) → rise xs ≡ t → cond t (Some xs) None ≡ Some items → (xs ≡ items) × (rise items ≡ true)
risen xs items true is e = let same : xs ≡ items = cc in (same, ap rise (sym same) ∙ is)
risen xs items false is e = cc

rising_once : (o : Option (List Change)) (items : List Change) → rising o ≡ Some items → (o ≡ Some items) × (rise items ≡ true)
rising_once None items e = cc
rising_once (Some xs) items e = let (same, up) = risen xs items (rise xs) refl e in (ap (λ x. Some x) same, up)

-- the changes of a batch
changes_once : (bytes : List ℕ) (items : List Change) → AreBytes bytes → changes_in bytes ≡ Some items
    → (to_be_bytes w32 (length items) ++ flat_map item_bytes items ≡ bytes) × All ItemFits items × (rise items ≡ true)
unfolding changes_in
changes_once bytes items h e =
    let (head, e1) = past (nat_lt (length bytes) 4) _ _ e in
    let long : 4 ≤ length bytes = grind (arith, nat_tests, head) in
    let (read, up) = rising_once (whole (items_in (number_32 bytes 0) (drop 4 bytes))) items e1 in
    let (spelled, fits, count) = items_once (number_32 bytes 0) (drop 4 bytes) (items, []) (drop_bytes 4 bytes h) (whole_once (items_in (number_32 bytes 0) (drop 4 bytes)) items read) in
    ((λ i. word_32 bytes 0 (length items) h (omega arith) count i ++ sym (spelled ∙ append-nil (flat_map item_bytes items)) i) ∙ take-append-drop 4 bytes, fits, up)

-- what stands behind version and kind, as this record
abbrev Said : ℕ → List ℕ → Record → Type 0
Said kind rest r = (payload_of r ≡ 1 ∷ kind ∷ rest) × Fits r × (has_form r ≡ true)

same_said : (kind : ℕ) (rest : List ℕ) (p r : Record) → Some p ≡ Some r → Said kind rest p → Said kind rest r
same_said kind rest p r e s = let same : p ≡ r = cc in subst (Said kind rest) same s

module _ (bytes : List ℕ) (h : AreBytes bytes) (long : 32 ≤ length bytes) where
  abbrev batch : List LogEntry → List Change → Batch
  batch log items = record {
    position = record { ss = number_64 bytes 0; se = number_64 bytes 8; at = number_64 bytes 16 };
    cas = number_64 bytes 24;
    log = log;
    items = items;
  }

  head_spelled : to_be_bytes w64 (number_64 bytes 0) ++ to_be_bytes w64 (number_64 bytes 8) ++ to_be_bytes w64 (number_64 bytes 16) ++ to_be_bytes w64 (number_64 bytes 24) ≡ take 32 bytes
  head_spelled =
      behind bytes _ _ 24 8 (behind bytes _ _ 16 8 (behind bytes _ _ 8 8
      (word_64 bytes 0 h (omega arith)) (word_64 bytes 8 h (omega arith))) (word_64 bytes 16 h (omega arith))) (word_64 bytes 24 h (omega arith))

  batch_said : (r : Record) (log : List LogEntry) (rest : List ℕ) (o : Option (List Change)) → log_in (drop 32 bytes) ≡ Some (log, rest) → changes_in rest ≡ o
      → option_map (λ items. noted.Rows (batch log items)) o ≡ Some r → Said 2 bytes r
  unfolding payload_of batch_bytes
  batch_said r log rest None is has e = cc
  batch_said r log rest (Some items) is has e =
      let (logged, fits, few) = log_once (drop 32 bytes) log rest (drop_bytes 32 bytes h) is in
      let (spelled, fit, up) = changes_once rest items (rest_bytes (drop 32 bytes) (log_bytes log) rest (drop_bytes 32 bytes h) logged) has in
      let count : List ℕ = to_be_bytes w32 (length items) in
      let flat : List ℕ = flat_map item_bytes items in
      let front : List ℕ = to_be_bytes w64 (number_64 bytes 0) ++ to_be_bytes w64 (number_64 bytes 8) ++ to_be_bytes w64 (number_64 bytes 16) ++ to_be_bytes w64 (number_64 bytes 24) in
      let tail : (log_bytes log ++ count) ++ flat ≡ drop 32 bytes = append_assoc (log_bytes log) count flat ∙ ap (λ l. log_bytes log ++ l) spelled ∙ sym logged in
      let form : (nat_le (length log) 25 && rise items) ≡ true = (λ i. (let f : nat_le (length log) 25 ≡ true = grind (arith, nat_tests, few) in f) i && up i) in
      same_said 2 bytes (noted.Rows (batch log items)) r e (
        (λ i. 1 ∷ 2 ∷ front ++ tail i) ∙ (λ i. 1 ∷ 2 ∷ head_spelled i ++ drop 32 bytes) ∙ ap (λ l. 1 ∷ 2 ∷ l) (take-append-drop 32 bytes),
        record { ss = below_64 bytes 0 h; se = below_64 bytes 8 h; at = below_64 bytes 16 h; cas = below_64 bytes 24 h; log = fits; items = fit },
        form,
      )

  batch_logged : (r : Record) (o : Option (List LogEntry × List ℕ)) → log_in (drop 32 bytes) ≡ o → batch_from bytes o ≡ Some r → Said 2 bytes r
  batch_logged r None is e = cc
  batch_logged r (Some (log, rest)) is e = batch_said r log rest (changes_in rest) is refl e

batch_once : (bytes : List ℕ) (r : Record) → AreBytes bytes → batch_in bytes ≡ Some r → Said 2 bytes r
unfolding batch_in
batch_once bytes r h e =
    let (head, e1) = past (nat_lt (length bytes) 32) _ _ e in
    batch_logged bytes h (grind (arith, nat_tests, head)) r (log_in (drop 32 bytes)) refl e1

role_by : (n : ℕ) (r : Role) (a b c : Bool) → (n == 1) ≡ a → (n == 2) ≡ b → (n == 4) ≡ c
    → cond a (Some role.Active) (cond b (Some role.Replica) (cond c (Some role.Dead) None)) ≡ Some r → (role_byte r ≡ n) × (is_kept r ≡ true)
role_by n r true b c p q s e = let same : role.Active ≡ r = cc in (ap role_byte (sym same) ∙ sym (eqb-true n 1 p), ap is_kept (sym same))
role_by n r false true c p q s e = let same : role.Replica ≡ r = cc in (ap role_byte (sym same) ∙ sym (eqb-true n 2 q), ap is_kept (sym same))
role_by n r false false true p q s e = let same : role.Dead ≡ r = cc in (ap role_byte (sym same) ∙ sym (eqb-true n 4 s), ap is_kept (sym same))
role_by n r false false false p q s e = cc

state_by : (n : ℕ) (bytes : List ℕ) (r : Record) (k : Option Role) (o : Option (List LogEntry)) → AreBytes bytes → role_by_byte n ≡ k → whole (log_in bytes) ≡ o
    → state_from k o ≡ Some r → Said 1 (n ∷ bytes) r
unfolding payload_of
state_by n bytes r None o h a is e = cc
state_by n bytes r (Some k) None h a is e = cc
state_by n bytes r (Some k) (Some log) h a is e =
    let (number, kept) = role_by n k (n == 1) (n == 2) (n == 4) refl refl refl a in
    let (spelled, fits, few) = whole_log bytes log h is in
    same_said 1 (n ∷ bytes) (noted.State k log) r e ((λ i. 1 ∷ 1 ∷ number i ∷ spelled i), fits, (λ i. kept i && few i))

state_once : (bytes : List ℕ) (r : Record) → AreBytes bytes → state_in bytes ≡ Some r → Said 1 bytes r
unfolding state_in
state_once [] r h e = cc
state_once (n ∷ bytes) r h e =
    let (some, e1) = past (length (n ∷ bytes) == 0) _ _ e in
    state_by n bytes r (role_by_byte n) (whole (log_in bytes)) (drop_bytes 1 (n ∷ bytes) h) refl refl e1

roll_by : (bytes : List ℕ) (r : Record) (t : Bool) → AreBytes bytes → (length bytes == 8) ≡ t → cond t (Some (noted.Roll (number_64 bytes 0))) None ≡ Some r → Said 3 bytes r
unfolding payload_of
roll_by bytes r false h is e = cc
roll_by bytes r true h is e =
    let len : length bytes ≡ 8 = eqb-true (length bytes) 8 is in
    same_said 3 bytes (noted.Roll (number_64 bytes 0)) r e
    (ap (λ l. 1 ∷ 3 ∷ l) (word_64 bytes 0 h (omega (arith, len)) ∙ take_all 8 bytes (omega (arith, len))), below_64 bytes 0 h, refl)

module _ (kind : ℕ) (bytes : List ℕ) (r : Record) (h : AreBytes bytes) where
  at_kind : (k : ℕ) → (kind == k) ≡ true → Said k bytes r → Said kind bytes r
  at_kind k e s = subst (λ m. Said m bytes r) (sym (eqb-true kind k e)) s

  said_by : (a b c : Bool) → (kind == 1) ≡ a → (kind == 2) ≡ b → (kind == 3) ≡ c → cond a (state_in bytes) (cond b (batch_in bytes) (cond c (roll_in bytes) None)) ≡ Some r → Said kind bytes r
  said_by true b c i j k e = at_kind 1 i (state_once bytes r h e)
  said_by false true c i j k e = at_kind 2 j (batch_once bytes r h e)
  said_by false false true i j k e = at_kind 3 k (roll_by bytes r (length bytes == 8) h refl e)
  said_by false false false i j k e = cc

not_false : (b : Bool) → not b ≡ false → b ≡ true
not_false true e = refl
not_false false e = cc

pub record_once : (bytes : List ℕ) (r : Record) → AreBytes bytes → record_in bytes ≡ Some r → (payload_of r ≡ bytes) × Fits r × IsTrue (is_writable r)
unfolding record_in is_writable
record_once bytes r h e =
    let (small, e1) = past (nat_lt 33599999 (length bytes)) _ _ e in
    let (two, e2) = past (nat_lt (length bytes) 2) _ _ e1 in
    let (first, e3) = past (not (slice_index bytes 0 == 1)) _ _ e2 in
    let long : 2 ≤ length bytes = grind (arith, nat_tests, two) in
    let version : 1 ≡ slice_index bytes 0 = sym (eqb-true (slice_index bytes 0) 1 (not_false (slice_index bytes 0 == 1) first)) in
    let rest : List ℕ = drop 2 bytes in
    let (said, fits, form) = said_by (slice_index bytes 1) rest r (drop_bytes 2 bytes h) (slice_index bytes 1 == 1) (slice_index bytes 1 == 2) (slice_index bytes 1 == 3) refl refl refl e3 in
    let spelled : payload_of r ≡ bytes =
    said ∙ (λ i. version i ∷ slice_index bytes 1 ∷ rest)
    ∙ (λ i. behind bytes _ _ 1 1 (word_8 bytes 0 (omega arith)) (word_8 bytes 1 (omega arith)) i ++ rest) ∙ take-append-drop 2 bytes in
    let few : nat_le (length (payload_of r)) 33599999 ≡ true = grind (arith, nat_tests, small, ap length spelled) in
    (spelled, fits, (λ i. form i && few i))
