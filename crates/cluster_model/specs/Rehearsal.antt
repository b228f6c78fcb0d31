-- runs, to be played by hand
use Rattle.std.specs.Prelude.{true, false, List, [], ◌∷◌}
use Rattle.vb_types.specs.declared.change.Act.TheVariants.{Remove}
use Rattle.vb_types.specs.declared.change.Change.{Change}
use Rattle.vb_types.specs.declared.role.Role.TheVariants.{Active}
use Rattle.cluster_model.specs.Clusters.{Move}
use Rattle.vb_types.specs.declared.journal.Batch.{Batch}
use Rattle.vb_types.specs.declared.journal.Record.TheVariants as noted

-- a removal of the key 7, twice, and one of the key 8, twice
unfoldable pub one : Change
one = record { seq = 1; key = 7 ∷ []; act = Remove 1 1 }

unfoldable pub two : Change
two = record { seq = 2; key = 7 ∷ []; act = Remove 2 2 }

unfoldable pub three : Change
three = record { seq = 3; key = 8 ∷ []; act = Remove 3 3 }

unfoldable pub four : Change
four = record { seq = 4; key = 8 ∷ []; act = Remove 4 4 }

-- node 1 leads branch 5 and makes three changes, of which the second replaces the first, and lets node 2 continue
unfoldable pub early : List Move
early = Move.Promote 1 5 ∷ Move.Own 1 one ∷ Move.Own 1 two ∷ Move.Own 1 three ∷ Move.Grant 2 1 ∷ Move.Adopt 2 ∷ []

-- node 2 gets one change of a snapshot of two, and becomes active on branch 6
unfoldable pub later : List Move
later = Move.Send 2 1 (two ∷ three ∷ []) 3 ∷ Move.Marker 2 ∷ Move.Receive 2 ∷ Move.Promote 2 6 ∷ []

-- what it takes then is of the span inside which it was promoted, with the log of now
unfoldable pub batch : Batch
batch = record { position = record { ss = 0; se = 3; at = 2 }; cas = 2; log = record { uuid = 6; seq = 0 } ∷ record { uuid = 5; seq = 0 } ∷ []; items = two ∷ [] }

-- it writes its role down; takes the span; an own change comes between; the append of the batch is broken off, and the crash finds it; so it comes back inside the snapshot, and makes branch 7
unfoldable pub last : List Move
last = Move.Append 2 (noted.State Active (record { uuid = 6; seq = 0 } ∷ record { uuid = 5; seq = 0 } ∷ [])) ∷ Move.Take 2 (record { ss = 0; se = 3; at = 2 }) 2 (two ∷ []) ∷ Move.Own 2 three ∷ Move.Break 2 (noted.Rows batch) ∷ Move.Crash 2 true ∷ Move.Promote 2 7 ∷ []

-- or node 1 gives branch 5 up while the snapshot is on its way; node 2 gets all of it, takes the branch over and goes on
unfoldable pub handed : List Move
handed = Move.Cede 2 1 ∷ Move.Send 2 1 (two ∷ three ∷ []) 3 ∷ Move.Marker 2 ∷ Move.Receive 2 ∷ Move.Receive 2 ∷ Move.Rise 2 ∷ Move.Own 2 four ∷ []

-- or the span is written down at once, and the node crashes: it comes back at a position whose snapshot ends above all that its branch has
unfoldable pub back : List Move
back = Move.Take 2 (record { ss = 0; se = 3; at = 2 }) 2 (two ∷ []) ∷ Move.Append 2 (noted.Rows batch) ∷ Move.Crash 2 false ∷ []
