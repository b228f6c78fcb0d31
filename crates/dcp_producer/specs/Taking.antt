-- which snapshots a stream asks for
use Rattle.std.specs.Prelude.{◌≡◌, ℕ}
use Rattle.vb_calls.specs.declared.calls.VbCall.{VbCall}
use Rattle.vb_calls.specs.Jobs.{Job, Ended, Call, Request}

-- the first call is this one, to this vBucket
abbrev pub AsksFirst : {A : Type 0} → ℕ → VbCall → Job A → Type 0
AsksFirst v asked (Ended a) = ⊥
AsksFirst v asked (Request w ask next) = ⊥
AsksFirst v asked (Call w made next) = (w ≡ v) × (made ≡ asked)
