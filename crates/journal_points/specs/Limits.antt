-- the batches that stand and end within a limit
use Rattle.std.specs.Prelude.{ℕ, nat_le, min, Bool, true, List, Option, Some, None}
use Rattle.std.specs.List.{filter}
use Rattle.vb_types.specs.declared.journal.Batch.{Batch}
use Rattle.vb_types.specs.declared.journal.Record.{Record}
use Rattle.branch_model.specs.Journals.{batches}

-- at most a seqno, where one is named
abbrev pub is_within : Option ℕ → ℕ → Bool
is_within None n = true
is_within (Some most) n = nat_le n most

-- a limit that is also at most a seqno
abbrev pub lowered : Option ℕ → ℕ → ℕ
lowered None to = to
lowered (Some most) to = min most to

-- the batches that stand and end within a limit, the last first
abbrev pub standing_within : Option ℕ → List Record → List Batch
standing_within limit js = filter (λ b. is_within limit b.position.at) (batches js)
