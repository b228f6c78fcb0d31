-- that a batch is a snapshot, and that a vBucket that is loaded is sound
use Rattle.std.specs.Prelude.{◌≡◌, ℕ, ◌<◌, ◌≤◌, ◌^◌, List}
use Rattle.branch_model.specs.Snapshots.{Covers}
use Rattle.vb_types.specs.Images.{Picture}
use Rattle.vb_types.specs.declared.journal.Batch.{Batch}
use Rattle.vb_types.specs.declared.position.Position.{Position}
use Rattle.vb_types.specs.declared.role.LogEntry.{LogEntry}
use Rattle.vb_types.specs.declared.role.Role.{Role}
use Rattle.vb_calls.specs.declared.calls.VbAnswer.TheVariants as answer
use Rattle.vb_calls.specs.declared.calls.VbCall.TheVariants.{FlushTake}
use Rattle.vb_calls.specs.Plain.{Plain, plain_step}
use Rattle.vb_calls.specs.State.{loaded_vb}
use Rattle.vbucket.specs.Laws.{PendSeqsUpTo, PendsDiffer, PendsUpTo, Sound}

-- a batch is a whole snapshot of what is held above what was taken before, up to where the vBucket stands with it
abbrev pub BatchesAreWhole : Type 0
BatchesAreWhole = (vb : Plain) (batch : Batch) → Sound vb → (plain_step vb FlushTake).1.answer ≡ answer.Rows batch → Covers batch.items vb.held vb.flushed batch.position.at

-- a vBucket is sound that is made of what was written down, where that has numbers of their sizes, no prepare with a CAS or a seqno above the last one, and no two of one seqno
abbrev pub LoadsSound : Type 0
LoadsSound = (node : ℕ) (old : Role) (log : List LogEntry) (p : Position) (cas : ℕ) (image : Picture) → p.ss ≤ p.at → p.at ≤ p.se → p.se ≤ 2 ^ 48 → cas < 2 ^ 64 → PendsUpTo cas image → PendSeqsUpTo p.at image → PendsDiffer image → Sound (loaded_vb node old log p cas image)
