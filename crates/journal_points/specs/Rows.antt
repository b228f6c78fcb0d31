-- a small journal, to work what it tells by hand. Its last record comes first
use Rattle.std.specs.Prelude.{ℕ, List, [], ◌∷◌, false}
use Rattle.vb_types.specs.declared.change.Act.{Act}
use Rattle.vb_types.specs.declared.change.Act.TheVariants.{Set, Remove, Prepare, Commit, Abort}
use Rattle.vb_types.specs.declared.change.Change.{Change}
use Rattle.vb_types.specs.declared.change.Level.TheVariants.{Majority}
use Rattle.vb_types.specs.declared.doc.Doc.{Doc}
use Rattle.vb_types.specs.declared.journal.Batch.{Batch}
use Rattle.vb_types.specs.declared.journal.Record.{Record}
use Rattle.vb_types.specs.declared.journal.Record.TheVariants as noted
use Rattle.vb_types.specs.declared.role.LogEntry.{LogEntry}
use Rattle.vb_types.specs.declared.role.Role.TheVariants.{Replica}

-- a document of this CAS
abbrev pub doc_of : ℕ → Doc
doc_of cas = record { value = cas ∷ []; cas = cas; rev = 1; flags = 0; expiry = 0; datatype = 0 }

-- a change of a key of one byte
abbrev pub change_of : ℕ → ℕ → Act → Change
change_of seq byte act = record { seq = seq; key = byte ∷ []; act = act }

-- the changes of the keys a, b and c, by their seqnos
abbrev pub set_a : Change
set_a = change_of 1 97 (Set (doc_of 10))

abbrev pub prepare_b : Change
prepare_b = change_of 2 98 (Prepare Majority (doc_of 20) false)

abbrev pub commit_b : Change
commit_b = change_of 3 98 (Commit 2 (doc_of 20) false)

-- that commit as it is sent
abbrev pub set_b : Change
set_b = change_of 3 98 (Set (doc_of 20))

abbrev pub prepare_c : Change
prepare_c = change_of 4 99 (Prepare Majority (doc_of 40) false)

abbrev pub abort_c : Change
abort_c = change_of 5 99 (Abort 4)

abbrev pub remove_a : Change
remove_a = change_of 6 97 (Remove 60 2)

-- branch 1, and branch 2 that was made from it at 4
abbrev pub old_log : List LogEntry
old_log = record { uuid = 1; seq = 0 } ∷ []

abbrev pub new_log : List LogEntry
new_log = record { uuid = 2; seq = 4 } ∷ old_log

-- a batch whose snapshot is complete, one that ends inside its snapshot, and one with the rest of that
abbrev pub first : Batch
first = record { position = record { ss = 0; se = 2; at = 2 }; cas = 20; log = old_log; items = set_a ∷ prepare_b ∷ [] }

abbrev pub part : Batch
part = record { position = record { ss = 2; se = 6; at = 4 }; cas = 40; log = old_log; items = commit_b ∷ prepare_c ∷ [] }

abbrev pub rest : Batch
rest = record { position = record { ss = 2; se = 6; at = 6 }; cas = 60; log = new_log; items = abort_c ∷ remove_a ∷ [] }

-- the journal of a replica that took them, and the same after a rollback to 2
abbrev pub taken : List Record
taken = noted.Rows rest ∷ noted.Rows part ∷ noted.Rows first ∷ noted.State Replica [] ∷ []

abbrev pub rolled : List Record
rolled = noted.Roll 2 ∷ taken
