-- the lines of a script, and the words of a line
use Rattle.std.specs.Prelude.{ℕ, ◌==◌, if◌then◌else◌, List, [], ◌∷◌, ◌++◌}
use Rattle.std.specs.List.{onto_first, slice_split}

-- a line ends with a newline, or with the input
abbrev pub lines_of : List ℕ → List (List ℕ)
lines_of [] = []
lines_of (b ∷ bytes) = if b == 10 then [] ∷ lines_of bytes else onto_first b (lines_of bytes)

-- a line and its newline
abbrev pub ended : List ℕ → List ℕ
ended line = line ++ 10 ∷ []

-- the bytes with a newline at their end, if they are not empty
abbrev pub with_newline : List ℕ → List ℕ
with_newline [] = []
with_newline (b ∷ []) = if b == 10 then b ∷ [] else b ∷ 10 ∷ []
with_newline (b ∷ c ∷ bytes) = b ∷ with_newline (c ∷ bytes)

-- words have single spaces between
abbrev pub words_of : List ℕ → List (List ℕ)
words_of line = slice_split (λ b. b == 32) line
