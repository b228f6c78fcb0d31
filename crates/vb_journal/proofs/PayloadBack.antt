-- a payload that is written is read back
use Rattle.std.proofs.Common.{◌≡◌, ℕ, ◌<◌, ◌≤◌, ◌++◌, true, false, List, [], ◌∷◌, length, drop, cond, refl, ap, sym, ◌∙◌, arith, append_assoc, append-nil}
use Rattle.std.specs.Prelude.{Some, None, ◌==◌, not, nat_lt, nat_le, option_map, slice_index, IsTrue}
use Rattle.std.specs.Int.{w32, to_be_bytes}
use Rattle.std.specs.List.{flat_map, All}
use Rattle.std.proofs.lemmas.Bool.Decides.{nat_tests}
use Rattle.std.proofs.lemmas.Nat.{from_be_bytes-to_be_bytes_4, from_be_bytes-to_be_bytes_8}
use Rattle.vb_types.specs.declared.change.Change.{Change}
use Rattle.vb_types.specs.declared.journal.Batch.{Batch}
use Rattle.vb_types.specs.declared.journal.Record.{Record}
use Rattle.vb_types.specs.declared.journal.Record.TheVariants as noted
use Rattle.vb_types.specs.declared.role.LogEntry.{LogEntry}
use Rattle.vb_types.specs.declared.role.Role.{Role}
use Rattle.vb_types.specs.declared.role.Role.TheVariants as role
use Rattle.vb_journal.specs.Fitting.{EntryFits, ItemFits, BatchFits, Fits}
use Rattle.vb_journal.specs.Payloads.{role_byte, log_bytes, item_bytes, batch_bytes, payload_of, is_kept, rise, is_writable, role_by_byte, number_64, whole, log_in, items_in, rising, changes_in, batch_from, batch_in, state_from, state_in, record_of_kind, record_in}
use Rattle.vb_journal.proofs.PartsBack.{log_back, items_back}
use Rattle.vb_journal.proofs.Writable.{both, parts, state_log, rows_log, rows_count}

whole_log_back : (log : List LogEntry) → length log ≤ 25 → All EntryFits log → whole (log_in (log_bytes log)) ≡ Some log
whole_log_back log h r = ap (λ bytes. whole (log_in bytes)) (sym (append-nil (log_bytes log))) ∙ ap whole (log_back log [] h r)

changes_back : (items : List Change) → length items < 4294967296 → rise items ≡ true → All ItemFits items
    → changes_in (to_be_bytes w32 (length items) ++ flat_map item_bytes items) ≡ Some items
unfolding changes_in
changes_back items few up r =
    let flat : List ℕ = flat_map item_bytes items in
    let head : nat_lt (length (to_be_bytes w32 (length items) ++ flat)) 4 ≡ false = grind (arith, nat_tests) in
    let read : items_in (length items) flat ≡ Some (items, []) = ap (items_in (length items)) (sym (append-nil flat)) ∙ items_back items [] r in
    (λ i. cond (head i) None (rising (whole (items_in (from_be_bytes-to_be_bytes_4 (length items) few i) flat))))
    ∙ ap (λ o. rising (whole o)) read
    ∙ ap (λ b. cond b (Some items) None) up

batch_back : (b : Batch) → length b.log ≤ 25 → length b.items < 4294967296 → rise b.items ≡ true → BatchFits b → batch_in (batch_bytes b) ≡ Some (noted.Rows b)
unfolding batch_in batch_bytes
batch_back b short few up r =
    let count : List ℕ = to_be_bytes w32 (length b.items) in
    let flat : List ℕ = flat_map item_bytes b.items in
    let head : nat_lt (length (batch_bytes b)) 32 ≡ false = grind (arith, nat_tests) in
    let log : log_in ((log_bytes b.log ++ count) ++ flat) ≡ Some (b.log, count ++ flat) =
    ap log_in (append_assoc (log_bytes b.log) count flat) ∙ log_back b.log (count ++ flat) short r.log in
    (λ i. cond (head i) None (batch_from (batch_bytes b) (log i)))
    ∙ ap (option_map (λ items. noted.Rows (record {
      position = record { ss = number_64 (batch_bytes b) 0; se = number_64 (batch_bytes b) 8; at = number_64 (batch_bytes b) 16 };
      cas = number_64 (batch_bytes b) 24;
      log = b.log;
      items = items;
    }))) (changes_back b.items few up r.items)
    ∙ (λ i. Some (noted.Rows (record {
      position = record {
        ss = from_be_bytes-to_be_bytes_8 b.position.ss r.ss i;
        se = from_be_bytes-to_be_bytes_8 b.position.se r.se i;
        at = from_be_bytes-to_be_bytes_8 b.position.at r.at i;
      };
      cas = from_be_bytes-to_be_bytes_8 b.cas r.cas i;
      log = b.log;
      items = b.items;
    })))

role_back : (role : Role) → is_kept role ≡ true → role_by_byte (role_byte role) ≡ Some role
role_back role.Active k = refl
role_back role.Replica k = refl
role_back role.Pending k = cc
role_back role.Dead k = refl

state_back : (role : Role) (log : List LogEntry) → is_kept role ≡ true → length log ≤ 25 → All EntryFits log → state_in (role_byte role ∷ log_bytes log) ≡ Some (noted.State role log)
unfolding state_in
state_back role log k short r =
    let some : (length (role_byte role ∷ log_bytes log) == 0) ≡ false = grind (arith, nat_tests) in
    λ i. cond (some i) None (state_from (role_back role k i) (whole_log_back log short r i))

-- what stands behind version and kind is what the record says
said_back : (r : Record) → Fits r → IsTrue (is_writable r) → record_of_kind (slice_index (payload_of r) 1) (drop 2 (payload_of r)) ≡ Some r
unfolding payload_of
said_back (noted.State role log) f w =
    state_back role log (both (is_kept role) (nat_le (length log) 25) (parts (noted.State role log) w).0).0 (state_log (noted.State role log) role log refl w) f
said_back (noted.Rows b) f w =
    batch_back b (rows_log (noted.Rows b) b refl w) (rows_count (noted.Rows b) b refl w) (both (nat_le (length b.log) 25) (rise b.items) (parts (noted.Rows b) w).0).1 f
said_back (noted.Roll to) f w = λ i. Some (noted.Roll (from_be_bytes-to_be_bytes_8 to f i))

begins : (r : Record) → (nat_lt (length (payload_of r)) 2 ≡ false) × ((slice_index (payload_of r) 0 == 1) ≡ true)
unfolding payload_of
begins (noted.State role log) = (grind (arith, nat_tests), refl)
begins (noted.Rows b) = (grind (arith, nat_tests), refl)
begins (noted.Roll to) = (grind (arith, nat_tests), refl)

pub record_back : (r : Record) → Fits r → IsTrue (is_writable r) → record_in (payload_of r) ≡ Some r
unfolding record_in
record_back r f w =
    let small : nat_lt 33599999 (length (payload_of r)) ≡ false = grind (arith, nat_tests, (parts r w).1) in
    (λ i. cond (small i) None (cond ((begins r).0 i) None (cond (not ((begins r).1 i)) None (record_of_kind (slice_index (payload_of r) 1) (drop 2 (payload_of r))))))
    ∙ said_back r f w
