-- links and ears over TCP: of these the counts alone are told
use Rattle.std.specs.Prelude.{ℕ, None, false}
use Rattle.dcp_io.specs.Moves.{Intake, Outlet}

-- A link: how many bytes it gave, how often it was asked for some, how often that failed, and how often a put did.
pub record StreamCounts : Type 0 where
  pub taken : ℕ
  pub turns : ℕ
  pub failed_takes : ℕ
  pub failed_puts : ℕ

abbrev pub stream_intake : StreamCounts → Intake
stream_intake s = record { left = None; taken = s.taken; turns = s.turns; faults = s.failed_takes }

abbrev pub stream_outlet : StreamCounts → Outlet
stream_outlet s = record { held = None; faults = s.failed_puts; in_memory = false }
