-- records that can be written down
use Rattle.std.proofs.Common.{◌≡◌, ℕ, ◌≤◌, Bool, true, false, List, length, refl, arith}
use Rattle.std.specs.Prelude.{◌&&◌, nat_le}
use Rattle.std.proofs.lemmas.Bool.Decides.{nat_tests}
use Rattle.vb_types.specs.declared.journal.Record.TheVariants.{State, Roll}
use Rattle.vb_types.specs.declared.role.LogEntry.{LogEntry}
use Rattle.vb_types.specs.declared.role.Role.{Role}
use Rattle.vb_types.specs.declared.role.Role.TheVariants as role
use Rattle.vb_journal.specs.Payloads.{payload_of, is_kept, is_writable}
use Rattle.vb_journal.proofs.Lengths.{length_log}
use Rattle.disk_journals.specs.Steps.{IsLasting}

le : (a b : ℕ) → a ≤ b → nat_le a b ≡ true
le a b h = grind (arith, nat_tests)

-- a step back
pub writable_roll : (to : ℕ) → is_writable (Roll to) ≡ true
unfolding is_writable payload_of
writable_roll to = le (length (payload_of (Roll to))) 33599999 (omega arith)

lasting : (r : Role) → IsLasting r → is_kept r ≡ true
lasting role.Active h = refl
lasting role.Replica h = refl
lasting role.Pending h = absurd h
lasting role.Dead h = refl

both : (a b : Bool) → a ≡ true → b ≡ true → (a && b) ≡ true
both true b e f = f
both false b e f = cc

-- a role, with a log of at most 25 entries
pub writable_state : (r : Role) (log : List LogEntry) → IsLasting r → length log ≤ 25 → is_writable (State r log) ≡ true
unfolding is_writable payload_of
writable_state r log last short =
    both (is_kept r && nat_le (length log) 25) (nat_le (length (payload_of (State r log))) 33599999) (both (is_kept r) (nat_le (length log) 25) (lasting r last) (le (length log) 25 short))
    (le (length (payload_of (State r log))) 33599999 (omega (arith, length_log log)))

pub ruleset writable = (writable_roll, writable_state)
