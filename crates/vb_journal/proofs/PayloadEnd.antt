-- bytes with more behind a payload, or with too many, are no payload
use Rattle.std.proofs.Common.{◌≡◌, ℕ, ◌<◌, ◌≤◌, ◌++◌, Bool, true, false, List, ◌∷◌, length, drop, cond, refl, ap, ◌∙◌, arith, append_assoc}
use Rattle.std.specs.Prelude.{Option, Some, None, ◌==◌, not, nat_lt, option_map, slice_index, IsTrue}
use Rattle.std.specs.Int.{w32, w64, to_be_bytes}
use Rattle.std.specs.List.{flat_map, All}
use Rattle.std.proofs.lemmas.Bool.Decides.{nat_tests}
use Rattle.std.proofs.lemmas.Nat.{from_be_bytes-to_be_bytes_4}
use Rattle.vb_types.specs.declared.change.Change.{Change}
use Rattle.vb_types.specs.declared.journal.Batch.{Batch}
use Rattle.vb_types.specs.declared.journal.Record.{Record}
use Rattle.vb_types.specs.declared.journal.Record.TheVariants as noted
use Rattle.vb_types.specs.declared.role.LogEntry.{LogEntry}
use Rattle.vb_types.specs.declared.role.Role.{Role}
use Rattle.vb_journal.specs.Fitting.{EntryFits, ItemFits, BatchFits, Fits}
use Rattle.vb_journal.specs.Payloads.{role_byte, log_bytes, item_bytes, batch_bytes, payload_of, is_writable, role_by_byte, number_64, whole, log_in, items_in, rising, changes_in, batch_from, batch_in, state_from, state_in, record_of_kind, record_in}
use Rattle.vb_journal.proofs.PartsBack.{log_back, items_back}
use Rattle.vb_journal.proofs.Writable.{state_log, rows_log, rows_count}

module _ {X : Type 0} where
  -- refused by a test, or by what comes after it
  refused : (b : Bool) (o : Option X) → o ≡ None → cond b None o ≡ None
  refused true o e = refl
  refused false o e = e

  -- more stands behind
  followed : (x : X) (byte : ℕ) (more : List ℕ) → whole (Some (x, byte ∷ more)) ≡ None
  followed x byte more = let some : (length (byte ∷ more) == 0) ≡ false = grind (arith, nat_tests) in ap (λ b. cond b (Some x) None) some

no_log : (role : Option Role) (o : Option (List LogEntry)) → o ≡ None → state_from role o ≡ None
no_log None o e = refl
no_log (Some role) o e = ap (λ p. option_map (λ l. noted.State role l) p) e

module _ (byte : ℕ) (more : List ℕ) where
  abbrev behind : List ℕ
  behind = byte ∷ more

  state_end : (role : Role) (log : List LogEntry) → length log ≤ 25 → All EntryFits log → state_in (role_byte role ∷ log_bytes log ++ behind) ≡ None
  unfolding state_in
  state_end role log short fits =
      refused _ _ (no_log (role_by_byte (role_byte role)) (whole (log_in (log_bytes log ++ behind))) (ap whole (log_back log behind short fits) ∙ followed log byte more))

  changes_end : (items : List Change) → length items < 4294967296 → All ItemFits items → changes_in (to_be_bytes w32 (length items) ++ (flat_map item_bytes items ++ behind)) ≡ None
  unfolding changes_in
  changes_end items few fits =
      refused _ _ (ap (λ n. rising (whole (items_in n (flat_map item_bytes items ++ behind)))) (from_be_bytes-to_be_bytes_4 (length items) few)
      ∙ ap (λ o. rising (whole o)) (items_back items behind fits) ∙ ap rising (followed items byte more))

  batch_end : (b : Batch) → length b.log ≤ 25 → length b.items < 4294967296 → BatchFits b → batch_in (batch_bytes b ++ behind) ≡ None
  unfolding batch_in batch_bytes
  batch_end b short few fits =
      let count : List ℕ = to_be_bytes w32 (length b.items) in
      let flat : List ℕ = flat_map item_bytes b.items in
      let bytes : List ℕ = batch_bytes b ++ behind in
      let log : log_in (((log_bytes b.log ++ count) ++ flat) ++ behind) ≡ Some (b.log, count ++ (flat ++ behind)) =
      ap log_in (append_assoc (log_bytes b.log ++ count) flat behind ∙ append_assoc (log_bytes b.log) count (flat ++ behind)) ∙ log_back b.log (count ++ (flat ++ behind)) short fits.log in
      refused _ _ (ap (batch_from bytes) log ∙ ap (option_map _) (changes_end b.items few fits.items))

  said_end : (r : Record) → Fits r → IsTrue (is_writable r) → record_of_kind (slice_index (payload_of r ++ behind) 1) (drop 2 (payload_of r ++ behind)) ≡ None
  unfolding payload_of
  said_end (noted.State role log) f w = state_end role log (state_log (noted.State role log) role log refl w) f
  said_end (noted.Rows b) f w = batch_end b (rows_log (noted.Rows b) b refl w) (rows_count (noted.Rows b) b refl w) f
  said_end (noted.Roll to) f w =
      let long : (length (to_be_bytes w64 to ++ behind) == 8) ≡ false = grind (arith, nat_tests) in
      ap (λ b. cond b (Some (noted.Roll (number_64 (to_be_bytes w64 to ++ behind) 0))) None) long

  pub record_end : (r : Record) → Fits r → IsTrue (is_writable r) → record_in (payload_of r ++ behind) ≡ None
  unfolding record_in
  record_end r f w =
      let bytes : List ℕ = payload_of r ++ behind in
      refused (nat_lt 33599999 (length bytes)) _ (refused (nat_lt (length bytes) 2) _ (refused (not (slice_index bytes 0 == 1)) _ (said_end r f w)))

pub too_long : (bytes : List ℕ) → 33599999 < length bytes → record_in bytes ≡ None
unfolding record_in
too_long bytes h = let long : nat_lt 33599999 (length bytes) ≡ true = grind (arith, nat_tests, h) in λ i. cond (long i) None (cond (nat_lt (length bytes) 2) None (cond (not (slice_index bytes 0 == 1)) None (record_of_kind (slice_index bytes 1) (drop 2 bytes))))
