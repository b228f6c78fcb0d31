-- records that can be written down
use Rattle.std.proofs.Common.{◌≡◌, ℕ, ◌≤◌, true, length, arith}
use Rattle.std.specs.Prelude.{nat_le}
use Rattle.std.proofs.lemmas.Bool.Decides.{nat_tests}
use Rattle.vb_types.specs.declared.journal.Record.TheVariants.{Roll}
use Rattle.vb_journal.specs.Payloads.{payload_of, is_writable}

le : (a b : ℕ) → a ≤ b → nat_le a b ≡ true
le a b h = grind (arith, nat_tests)

pub writable_roll : (to : ℕ) → is_writable (Roll to) ≡ true
unfolding is_writable payload_of
writable_roll to = le (length (payload_of (Roll to))) 33599999 (omega arith)
