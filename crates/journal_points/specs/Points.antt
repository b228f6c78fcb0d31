-- what the records of a journal tell a vBucket. Journals here list their last record first
use Rattle.std.specs.Prelude.{ℕ, List, map, Option, Some, None}
use Rattle.vb_types.specs.Histories.{plain}
use Rattle.vb_types.specs.Images.{image_of}
use Rattle.vb_types.specs.declared.change.Change.{Change}
use Rattle.vb_types.specs.declared.journal.Record.{Record}
use Rattle.vb_types.specs.declared.role.Role.{Role}
use Rattle.vb_types.specs.declared.role.Role.TheVariants.{Dead}
use Rattle.branch_model.specs.Journals.{batches, role_of, log_of, place_of, cas_of_last, items_of}
use Rattle.branch_model.specs.Snapshots.{slot_lasts}
use Rattle.journal_points.specs.declared.saved.Saved.{Saved}

-- the changes that stand, the oldest first
abbrev pub standing : List Record → List Change
standing js = items_of (batches js)

-- dead, where no record has a role
abbrev pub or_dead : Option Role → Role
or_dead None = Dead
or_dead (Some role) = role

-- the state of a vBucket that starts with these records
abbrev pub saved : List Record → Saved
saved js = record { role = or_dead (role_of js); log = log_of js; position = place_of js; cas = cas_of_last js; image = image_of (standing js) }

-- what is sent of the changes that stand, above `start` and up to `end`: those that no other one up to `end` replaces, a commit as its set or removal
abbrev pub above : List Record → ℕ → ℕ → List Change
above js start end = map plain (slot_lasts (standing js) start end)
