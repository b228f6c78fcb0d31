-- the text of a storm's lines
use Rattle.std.specs.Prelude.{ℕ, ◌+◌, List, [], ◌∷◌, ◌++◌, codes, decimal}
use Rattle.storm_model.specs.declared.lines.StormLine.{StormLine}
use Rattle.storm_model.specs.Sums.{storm_sum}

-- one text and then another
infixr 5 ◌⧺◌
abbrev pub ◌⧺◌ : List ℕ → List ℕ → List ℕ
a ⧺ b = a ++ b

-- the front of the line of vBucket v: what it has
unfoldable pub counts_text : ℕ → StormLine → List ℕ
counts_text v line = codes "vb " ⧺ decimal v ⧺ codes " high " ⧺ decimal line.high ⧺ codes " docs " ⧺ decimal line.docs ⧺ codes " sum " ⧺ decimal line.sum

-- the rest of it: what is written down, and what was read
unfoldable pub reads_text : StormLine → List ℕ
reads_text line = codes " saved " ⧺ decimal line.saved ⧺ codes " read " ⧺ decimal line.read_first ⧺ codes " " ⧺ decimal line.read_second ⧺ codes "\n"

-- the line of vBucket v
abbrev pub line_text : ℕ → StormLine → List ℕ
line_text v line = counts_text v line ++ reads_text line

-- the lines of the vBuckets from v on
unfoldable pub lines_text : ℕ → List StormLine → List ℕ
lines_text v [] = []
lines_text v (line ∷ lines) = line_text v line ++ lines_text (v + 1) lines

-- what `storm` writes
abbrev pub storm_text : ℕ → ℕ → ℕ → List ℕ
storm_text seed clients writes = lines_text 0 (storm_sum seed clients writes)
