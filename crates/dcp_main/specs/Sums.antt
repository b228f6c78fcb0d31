-- what is kept of the groups of a script while it runs
use Rattle.std.specs.Prelude.{ℕ, ◌+◌, List, [], ◌∷◌, ◌++◌, length, Option, Some, None, codes, decimal}
use Rattle.vb_events.specs.declared.event.Group.{Group}
use Rattle.dcp_main.specs.declared.summary.Tally.{Tally}
use Rattle.dcp_main.specs.Summaries.{shown_lines}

-- how many lines a group has: its number, a line for each event, and its answer
abbrev pub group_lines : Group → ℕ
group_lines g = 2 + length g.events

-- how many lines the transcript of some groups has
abbrev pub transcript_lines : List Group → ℕ
transcript_lines [] = 0
transcript_lines (g ∷ told) = group_lines g + transcript_lines told

-- before the first group
abbrev pub none_kept : Tally
none_kept = record { script = 0; transcript = 0; before = None; last = None }

-- with one more group
abbrev pub kept : Tally → Group → Tally
kept s g = record { script = s.script + 1; transcript = s.transcript + group_lines g; before = s.last; last = Some g }

-- after some groups
abbrev pub kept_of : Tally → List Group → Tally
kept_of s [] = s
kept_of s (g ∷ told) = kept_of (kept s g) told

-- the `shown` lines of a group, where there is one
abbrev pub shown_in : Option Group → List ℕ
shown_in None = []
shown_in (Some g) = shown_lines g

-- what is written of what was kept
unfoldable pub text_of : Tally → List ℕ
text_of s =
    codes "script " ++ (decimal s.script ++ (codes "\ntranscript " ++ (decimal s.transcript ++ (codes "\n" ++ (shown_in s.before ++ shown_in s.last)))))
