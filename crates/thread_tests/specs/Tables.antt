-- of which turns the seats of lists are
use Rattle.std.specs.Prelude.{◌≡◌, ℕ, List, Some}
use Rattle.atomic_table.specs.Seated.{TableId}
use Rattle.vbucket.specs.Rows.{row_at}
use Rattle.node_threads.specs.Seats.{Row, number_of}

-- the first seat of each number is one of this table
abbrev pub AreOf : (ℕ → TableId) → List Row → Type 0
AreOf tables rows = (v : ℕ) (row : Row) → row_at number_of v rows ≡ Some row → row.table ≡ tables v

-- of three lists, those of one number are of one turn
abbrev pub AreShared : List Row → List Row → List Row → Type 0
AreShared main one two = (tables : ℕ → TableId) × AreOf tables main × AreOf tables one × AreOf tables two

-- the seats are of the turns that they were of
abbrev pub StayOf : List Row → List Row → Type 0
StayOf old new = (tables : ℕ → TableId) → AreOf tables old → AreOf tables new
