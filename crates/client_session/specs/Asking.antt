-- which call a request makes
use Rattle.std.specs.Prelude.{◌≡◌, ℕ}
use Rattle.vb_calls.specs.declared.calls.VbCall.{VbCall}
use Rattle.vb_calls.specs.Programs.{Prog, Done, Call}
use Rattle.client_session.specs.Serving.{Served}

-- the first call is this one, to this vBucket
abbrev pub AsksFirst : ℕ → VbCall → Prog Served → Type 0
AsksFirst v asked (Done s) = ⊥
AsksFirst v asked (Call w made next) = (w ≡ v) × (made ≡ asked)
