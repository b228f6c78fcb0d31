-- a small journal, to work its snapshots by hand. Its last record comes first
use Rattle.std.specs.Prelude.{ℕ, ◌==◌, Bool, true, false, if◌then◌else◌, List, [], ◌∷◌, Option, Some, None}
use Rattle.vb_types.specs.declared.change.Act.TheVariants.{Remove, Prepare, Commit, Abort}
use Rattle.vb_types.specs.declared.change.Change.{Change}
use Rattle.vb_types.specs.declared.change.Level.TheVariants.{Majority, PersistMajority}
use Rattle.vb_types.specs.declared.journal.Batch.{Batch}
use Rattle.vb_types.specs.declared.journal.Record.{Record}
use Rattle.vb_types.specs.declared.journal.Record.TheVariants as noted
use Rattle.vb_types.specs.declared.role.Role.TheVariants.{Active}
use Rattle.vb_types.specs.declared.stream.Snapshot.{Snapshot}
use Rattle.vb_calls.specs.Jobs.{after_job}
use Rattle.vb_calls.specs.Shelves.{Shelves, open_shelf}
use Rattle.vb_calls.specs.States.{States}
use Rattle.backfill.specs.declared.backfilled.Backfilled.{Backfilled}
use Rattle.backfill.specs.declared.backfilled.Backfilled.TheVariants as filled
use Rattle.backfill.specs.Backfills.{backfill_job}
use Rattle.journal_points.specs.Rows.{doc_of, change_of, set_a, prepare_b, commit_b, old_log}

-- a is set, b is prepared and committed, as in the rows of `journal_points`; then a's removal is; c is prepared and given up; d is prepared and waits
abbrev pub prepare_a : Change
prepare_a = change_of 4 97 (Prepare Majority (doc_of 40) true)

abbrev pub commit_a : Change
commit_a = change_of 5 97 (Commit 4 (doc_of 40) true)

abbrev pub prepare_c : Change
prepare_c = change_of 6 99 (Prepare Majority (doc_of 60) false)

abbrev pub abort_c : Change
abort_c = change_of 7 99 (Abort 6)

abbrev pub prepare_d : Change
prepare_d = change_of 8 100 (Prepare PersistMajority (doc_of 80) false)

-- a's removal as it is sent
abbrev pub remove_a : Change
remove_a = change_of 5 97 (Remove 40 1)

-- their batches, each a snapshot
abbrev pub first : Batch
first = record { position = record { ss = 0; se = 3; at = 3 }; cas = 20; log = old_log; items = set_a ∷ prepare_b ∷ commit_b ∷ [] }

abbrev pub second : Batch
second = record { position = record { ss = 3; se = 6; at = 6 }; cas = 60; log = old_log; items = prepare_a ∷ commit_a ∷ prepare_c ∷ [] }

abbrev pub third : Batch
third = record { position = record { ss = 6; se = 8; at = 8 }; cas = 80; log = old_log; items = abort_c ∷ prepare_d ∷ [] }

-- the journal, and the same after a rollback to 3
abbrev pub saved : List Record
saved = noted.Rows third ∷ noted.Rows second ∷ noted.Rows first ∷ noted.State Active old_log ∷ []

abbrev pub rolled : List Record
rolled = noted.Roll 3 ∷ saved

-- a snapshot from the disk
abbrev pub disk : ℕ → ℕ → List Change → Option Snapshot
disk start end items = Some (record { start = start; end = end; disk = true; items = items })

-- the journal of vBucket 7 has these records, at 8 is one of which an append failed, and at 9 there is none
abbrev pub shelves : Shelves
shelves = λ v. if v == 7 then Some (open_shelf saved) else if v == 8 then Some (record (open_shelf saved) { is_closed = true }) else None

-- no vBucket is there
abbrev pub no_vb : States
no_vb v = None

-- what a backfill comes to there
abbrev pub filled_at : ℕ → ℕ → ℕ → Bool → Backfilled
filled_at v start end sync = (after_job (backfill_job v start end sync) no_vb shelves).1

-- a snapshot from the disk, as a backfill has it
abbrev pub has : ℕ → ℕ → List Change → Backfilled
has start end items = filled.Snapshot (record { start = start; end = end; disk = true; items = items })
