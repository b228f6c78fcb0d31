-- what a few records make of a node, to work a load by hand. The last record comes first
use Rattle.std.specs.Prelude.{ℕ, false, List, [], ◌∷◌, ◌++◌, fold, Some}
use Rattle.vb_types.specs.declared.change.Act.TheVariants as act
use Rattle.vb_types.specs.declared.change.Change.{Change}
use Rattle.vb_types.specs.declared.change.Level.TheVariants.{PersistMajority}
use Rattle.vb_types.specs.declared.doc.Doc.{Doc}
use Rattle.vb_types.specs.declared.journal.Record.{Record}
use Rattle.vb_types.specs.declared.journal.Record.TheVariants as noted
use Rattle.vb_types.specs.declared.role.LogEntry.{LogEntry}
use Rattle.vb_types.specs.declared.role.Role.TheVariants.{Active, Replica, Dead}
use Rattle.disk_journals.specs.Books.{Book, opened_shelves}
use Rattle.vb_calls.specs.Jobs.{after_job}
use Rattle.vb_calls.specs.Shelves.{Shelf, Shelves}
use Rattle.vb_calls.specs.States.{States}
use Rattle.node_core.specs.Flushing.{FlushResult}
use Rattle.node_core.specs.Loading.{loaded_states, start_job, starts_of}

-- the vBuckets of a node and their journals, and what was told of each that took its new branch
pub record Loaded : Type 0 where
  pub vbs : States
  pub shelves : Shelves
  pub told : List FlushResult

-- one more takes its new branch
abbrev pub with_start : ℕ → Loaded → ℕ × ℕ → Loaded
with_start n l (v, uuid) = let (kept, one) = after_job (start_job n v uuid) l.vbs l.shelves in record { vbs = kept.0; shelves = kept.1; told = l.told ++ one ∷ [] }

-- the node n that starts with these records, whose vBuckets that were active took their new branches, one after the other, on disks that did not fail
abbrev pub loaded_node : ℕ → List Book → List ℕ → Loaded
loaded_node n books ids = fold (with_start n) (record { vbs = loaded_states n books; shelves = opened_shelves books; told = [] }) (starts_of books ids)

-- an entry of a log
abbrev pub entry : ℕ → ℕ → LogEntry
entry uuid seq = record { uuid = uuid; seq = seq }

-- the first record of a vBucket that is active on the branch 11
abbrev pub first_of : Record
first_of = noted.State Active (entry 11 0 ∷ [])

-- a batch of no change, with which a vBucket stands here
abbrev pub batch_to : ℕ → ℕ → ℕ → List LogEntry → Record
batch_to ss se at log = noted.Rows (record { position = record { ss = ss; se = se; at = at }; cas = at; log = log; items = [] })

-- a vBucket that was made and that nothing was saved of
abbrev pub made_only : Book
made_only = (0, first_of ∷ [])

-- one whose first record does not stand
abbrev pub unmade : Book
unmade = (0, [])

-- one that is saved up to 6
abbrev pub saved_to_6 : Book
saved_to_6 = (0, batch_to 6 6 6 (entry 11 0 ∷ []) ∷ first_of ∷ [])

-- a document
abbrev pub doc_of_5 : Doc
doc_of_5 = record { value = 118 ∷ []; cas = 4; rev = 1; flags = 0; expiry = 0; datatype = 0 }

-- one that is saved up to 6, with a prepare of the seqno 5 that waits
abbrev pub prepared_at_5 : Book
prepared_at_5 = (
  0,
  noted.Rows (record {
    position = record { ss = 6; se = 6; at = 6 };
    cas = 6;
    log = entry 11 0 ∷ [];
    items = record { seq = 5; key = 107 ∷ []; act = act.Prepare PersistMajority doc_of_5 false } ∷ [];
  }) ∷ first_of ∷ [],
)

-- its commit behind all that was saved
abbrev pub commit_of_5 : Change
commit_of_5 = record { seq = 7; key = 107 ∷ []; act = act.Commit 5 doc_of_5 false }

-- a replica inside a snapshot, that was promoted before and goes on as a replica
abbrev pub follower : Book
follower = (1, batch_to 2 9 4 (entry 11 0 ∷ []) ∷ noted.State Replica [] ∷ [])

-- one that was promoted inside a snapshot
abbrev pub promoted_at_4 : Book
promoted_at_4 = (2, noted.State Active (entry 22 2 ∷ entry 11 0 ∷ []) ∷ batch_to 2 9 4 (entry 11 0 ∷ []) ∷ noted.State Replica [] ∷ [])

-- one that is dead
abbrev pub dead_one : Book
dead_one = (3, noted.State Dead (entry 11 0 ∷ []) ∷ first_of ∷ [])

-- the start of the vBucket 0, saved up to 6, whose new branch is 33, over a journal like this
abbrev pub start_over : Shelf → (States × Shelves) × FlushResult
start_over shelf = after_job (start_job 0 0 33) (loaded_states 0 (saved_to_6 ∷ [])) (λ v. Some shelf)
