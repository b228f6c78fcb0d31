-- what a record has that an append takes
use Rattle.std.proofs.Common.{◌≡◌, ℕ, ◌≤◌, ◌<◌, Bool, true, false, List, length, refl, ap, sym, ◌∙◌, subst, arith}
use Rattle.std.specs.Prelude.{◌&&◌, nat_le, IsTrue}
use Rattle.std.proofs.lemmas.Bool.Decides.{nat_tests}
use Rattle.vb_types.specs.declared.journal.Batch.{Batch}
use Rattle.vb_types.specs.declared.journal.Record.{Record}
use Rattle.vb_types.specs.declared.journal.Record.TheVariants as noted
use Rattle.vb_types.specs.declared.role.LogEntry.{LogEntry}
use Rattle.vb_types.specs.declared.role.Role.{Role}
use Rattle.vb_journal.specs.Payloads.{payload_of, is_kept, has_form, rise, is_writable}
use Rattle.vb_journal.proofs.Lengths.{count_items, length_batch, length_rows}

pub both : (a b : Bool) → (a && b) ≡ true → (a ≡ true) × (b ≡ true)
both true b e = (refl, e)
both false b e = cc

-- its form, and its length
pub parts : (r : Record) → IsTrue (is_writable r) → (has_form r ≡ true) × (length (payload_of r) ≤ 33599999)
unfolding is_writable
parts r h =
    let p = both (has_form r) (nat_le (length (payload_of r)) 33599999) h in
    (p.0, grind (arith, nat_tests, p.1))

short : (n : ℕ) → nat_le n 25 ≡ true → n ≤ 25
short n e = grind (arith, nat_tests)

-- its log is short
pub state_log : (r : Record) (role : Role) (log : List LogEntry) → r ≡ noted.State role log → IsTrue (is_writable r) → length log ≤ 25
state_log r role log e h = short (length log) (both (is_kept role) (nat_le (length log) 25) (ap has_form (sym e) ∙ (parts r h).0)).1

pub rows_log : (r : Record) (b : Batch) → r ≡ noted.Rows b → IsTrue (is_writable r) → length b.log ≤ 25
rows_log r b e h = short (length b.log) (both (nat_le (length b.log) 25) (rise b.items) (ap has_form (sym e) ∙ (parts r h).0)).0

-- its changes are fewer than a count of four bytes says
pub rows_count : (r : Record) (b : Batch) → r ≡ noted.Rows b → IsTrue (is_writable r) → length b.items < 4294967296
rows_count r b e h =
    let len = subst (λ k. length (payload_of k) ≤ 33599999) e (parts r h).1 in
    omega (arith, len, length_rows b, length_batch b, count_items b.items)
